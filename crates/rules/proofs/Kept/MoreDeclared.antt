-- Declaring a predicate: what was valid stays valid under more declarations, and the new predicate has a position for each sort number.
use mathlib.Core.Path.{◌≡◌, refl, sym}
use mathlib.Core.Bool.{true}
use mathlib.Core.List.{List, [], ◌∷◌, ◌++◌}
use mathlib.Core.Option.{Option, none, some}
use Prim.Native.Nat.{ℕ, zero, suc, ◌≤◌}
use native.Mathlib.Omega.{arith}
use lib.Dec.{ltb}
use lib.ListN.{length, get_or, length-append, get_or-append}
use borrow.Author.Tests.{lt-ltb, ltb-true}
use Rattle.rules.specs.Sizes.{max_positions}
use Rattle.rules.specs.Values.{Sort, sort_of}
use Rattle.rules.specs.Samples.{Sample, valid_positions, valid_sample}
use Rattle.rules.specs.Contents.{Sides, side, Constraint, Slot, Held, samples_of}
use Rattle.rules.specs.Declaring.{also_sort, sorts_of}
use Rattle.rules.specs.Satisfying.{All, IfLive, AllLive}
use Rattle.rules.specs.Condition.{ValidSet, ValidConstraint, ValidHeld}
use Rattle.rules.proofs.Laws.Bools.{and_split, and_join}
use Rattle.rules.proofs.Laws.Sets.{all_mem, mem_all}
use Rattle.rules.proofs.Kept.Refusing.{some_none}

-- A valid sample.
pub sample_wider : (declared more : List (List Sort)) (s : Sample) → valid_sample declared s ≡ true → valid_sample (declared ++ more) s ≡ true
unfolding valid_sample
sample_wider declared more s e =
    let parts = and_split (ltb s.pred (length declared)) (valid_positions (get_or declared s.pred []) s.at) e in
    let low = ltb-true s.pred (length declared) parts.0 in
    and_join _ _ (lt-ltb s.pred (length (declared ++ more)) (omega (arith, length-append declared more))) (rw (get_or-append declared more [] s.pred low) parts.1)

-- What holds of each live constraint.
pub live_map : (P Q : Constraint → Type 0) → ((c : Constraint) → P c → Q c) → (slots : List Slot) → AllLive P slots → AllLive Q slots
live_map P Q f [] a = tt
live_map P Q f (x ∷ xs) a = (go x.lives a.0, live_map P Q f xs a.1)
  where
    go : (o : Option Constraint) → IfLive P o → IfLive Q o
    go none h = tt
    go (some c) h = f c h

-- What is held.
module _ (declared wider : List (List Sort)) (widen : (s : Sample) → valid_sample declared s ≡ true → valid_sample wider s ≡ true) where
  all_wider : (l : List Sample) → All (λ s. valid_sample declared s ≡ true) l → All (λ s. valid_sample wider s ≡ true) l
  all_wider l a = mem_all (λ s. valid_sample wider s ≡ true) l (λ x m. widen x (all_mem (λ s. valid_sample declared s ≡ true) l a x m))

  set_wider : (l : List Sample) → ValidSet declared l → ValidSet wider l
  set_wider l v = record { valid = all_wider l v.valid; rising = v.rising; apart = v.apart }

  constraint_wider : (kept : Sides) (c : Constraint) → ValidConstraint declared kept c → ValidConstraint wider kept c
  constraint_wider kept c v =
      record {
        some_left = v.some_left;
        rising = v.rising;
        two_or_more = v.two_or_more;
        right_apart = v.right_apart;
        valid = all_wider (samples_of c) v.valid;
        total = v.total;
        uncovered = v.uncovered;
      }

  pub held_wider : (h : Held) → ValidHeld declared h → ValidHeld wider h
  held_wider h v =
      record {
        kept = λ sign. set_wider (side sign h.kept) (v.kept sign);
        waiting = λ sign. set_wider (side sign h.waiting) (v.waiting sign);
        constraints = live_map (ValidConstraint declared h.kept) (ValidConstraint wider h.kept) (constraint_wider h.kept) h.slots v.constraints;
        irredundant = v.irredundant;
        marks = v.marks;
        numbers = v.numbers;
      }

-- The number of positions.
pub positions_wider : (declared : List (List Sort)) (sorts : List Sort) → length sorts ≤ max_positions → ((p : ℕ) → length (get_or declared p []) ≤ max_positions)
    → (p : ℕ) → length (get_or (declared ++ (sorts ∷ [])) p []) ≤ max_positions
positions_wider [] sorts fit f zero = fit
positions_wider [] sorts fit f (suc p) = omega arith
positions_wider (d ∷ declared) sorts fit f zero = f 0
positions_wider (d ∷ declared) sorts fit f (suc p) = positions_wider declared sorts fit (λ q. f (suc q)) p

pub sorts_length : (numbers : List ℕ) (sorts : List Sort) → sorts_of numbers ≡ some sorts → length sorts ≡ length numbers
unfolding sorts_of
sorts_length [] sorts e = let empty : sorts ≡ [] = cc in rw empty
sorts_length (n ∷ ns) sorts e = go (sort_of n) (sorts_of ns) (sorts_length ns) e
  where
    go : (o : Option Sort) (rest : Option (List Sort)) → ((l : List Sort) → rest ≡ some l → length l ≡ length ns) → also_sort o rest ≡ some sorts → length sorts ≡ suc (length ns)
    go none rest f e = some_none (sym e)
    go (some s) none f e = some_none (sym e)
    go (some s) (some l) f e = let cons : sorts ≡ s ∷ l = cc in rw (cons, f l refl)
