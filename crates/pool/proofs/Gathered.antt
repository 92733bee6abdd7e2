-- The numbers in use, and a set gathered from a list of numbers: those that pass a test.
use mathlib.Core.Path.{◌≡◌, refl, sym, ◌∙◌}
use mathlib.Core.Bool.{Bool, true, false, ◌||◌}
use mathlib.Core.List.{List, [], ◌∷◌, ◌++◌, append-nil}
use mathlib.Core.Logic.{◌⊎◌, inr, ⊎_elim, ⊎_map}
use Prim.Native.Nat.{ℕ, ◌<◌}
use native.Mathlib.Omega.{arith}
use lib.Dec.{eqb}
use lib.ListN.{get_or}
use borrow.Author.Tests.{eqb-true, eqb-false}
use Rattle.rules.proofs.Laws.Bools.{or_split}
use Rattle.words.specs.Sets.{in_set, Holds}
use Rattle.words.specs.declared.set.Set.{Set}
use Rattle.pool.specs.Picks.{Among}
use Rattle.pool.specs.Pools.{Table, in_use, PoolOk}
use Rattle.pool.proofs.PickLaws.{among_at, among_place, fresh_among, among_fresh}

-- Number k is one of the first n of the order.
abbrev pub Used : ℕ → List ℕ → ℕ → Type 0
Used n order k = Among k (in_use n order)

module _ (positions : ℕ → ℕ) (t : Table) (n : ℕ) (order : List ℕ) (ok : PoolOk positions t n order) where
  -- The number at a place is in use, and a number in use is one of the 256.
  pub used : (i : ℕ) → i < n → Used n order (get_or order i 0)
  used i h = among_at n i order h (omega (arith, ok.few, ok.full))

  pub low : (k : ℕ) → Used n order k → k < 256
  low k m = let (i, h, inside, e) = among_place n k order m in rw e at (ok.numbers i (omega (arith, ok.few)))

-- Whether the set has a number of the list is an answer of the test, and the set has no other numbers.
pub record Gathered (passes : ℕ → Bool → Type 0) (ks : List ℕ) (out : Set) : Type 0 where
  pub small : (k : ℕ) → Among k ks → k < 256
  pub passed : (k : ℕ) → Among k ks → passes k (in_set out k)
  pub within : (k : ℕ) → k < 256 → in_set out k ≡ true → Among k ks

-- One number more: it joins if it passes. If it fails, the set may still have it, from where it stood before and passed.
module _ {passes : ℕ → Bool → Type 0} {ks : List ℕ} {k : ℕ} {out : Set} (few : k < 256) (found : Gathered passes ks out) where
  last_or_before : (j : ℕ) → Among j (ks ++ (k ∷ [])) → (j ≡ k) ⊎ Among j ks
  last_or_before j m = rw append-nil at (fresh_among k ks [] j m)

  among_more : (j : ℕ) → (j ≡ k) ⊎ Among j ks → Among j (ks ++ (k ∷ []))
  among_more j m = among_fresh k ks [] j (rw append-nil m)

  small_more : (j : ℕ) → Among j (ks ++ (k ∷ [])) → j < 256
  small_more j m = ⊎_elim (λ e. rw e few) (found.small j) (last_or_before j m)

  pub gathered_joins : {more : Set} → Holds more (λ j. eqb j k || in_set out j) → passes k true → Gathered passes (ks ++ (k ∷ [])) more
  gathered_joins {more} joined p = record {
    small = small_more;
    passed = λ j m. each j m (eqb j k) refl;
    within = λ j h e. among_more j (⊎_map (eqb-true j k) (found.within j h) (or_split (eqb j k) (in_set out j) (sym (joined j h) ∙ e)));
  }
    where
      each : (j : ℕ) → Among j (ks ++ (k ∷ [])) → (b : Bool) → eqb j k ≡ b → passes j (in_set more j)
      each j m true e = rw (joined j (small_more j m), e, eqb-true j k e) p
      each j m false e = rw (joined j (small_more j m), e) (⊎_elim (λ d. absurd (eqb-false j k e d)) (found.passed j) (last_or_before j m))

  pub gathered_skips : passes k false → Gathered passes (ks ++ (k ∷ [])) out
  gathered_skips p = record {
    small = small_more;
    passed = λ j m. ⊎_elim (λ d. rw d (here (in_set out k) refl)) (found.passed j) (last_or_before j m);
    within = λ j h e. among_more j (inr (found.within j h e));
  }
    where
      here : (b : Bool) → in_set out k ≡ b → passes k (in_set out k)
      here true e = found.passed k (found.within k few e)
      here false e = rw e p
