-- Which assignments satisfy one sample or one set: what a sample covers is satisfied with it, and a total sample has one completion, its own vector.
use mathlib.Core.Path.{◌≡◌, refl, ap}
use mathlib.Core.Bool.{Bool, true, false}
use mathlib.Core.List.{List, [], ◌∷◌}
use mathlib.Core.Option.{none, some}
use mathlib.Core.Logic.{◌↔◌, inl, inr, ⊎_elim}
use Prim.Native.Nat.{◌≤◌}
use native.Mathlib.Omega.{arith}
use lib.Dec.{ltb}
use lib.ListN.{length, get_or}
use borrow.Author.Tests.{eqb-true}
use Rattle.rules.specs.Values.{Sort}
use Rattle.rules.specs.Samples.{Position, Sample, valid_positions, valid_sample, covers, known_count, total}
use Rattle.rules.specs.Sets.{covered_by, keep}
use Rattle.rules.specs.Waiting.{is_new, wait}
use Rattle.rules.specs.Contents.{Sign, positive, negative, Sides, side, with_side, wait_as}
use Rattle.rules.specs.Satisfying.{Vector, Assignment, known, vector_of, Completes, Satisfies, is_in, inside, All, SatisfiesSides}
use Rattle.rules.specs.Condition.{Mem}
use Rattle.rules.proofs.Laws.Bools.{by_test, and_split, not-false}
use Rattle.rules.proofs.Laws.Covering.{CoversAll, covers_true, covers_all_true, covers_all_test, covers_all_refl, covers_all_trans}
use Rattle.rules.proofs.Laws.Sets.{all_mem, mem_all, any_true, keep_mem}

-- A total row of positions is its own vector.
known_most : (xs : List Position) → known_count xs ≤ length xs
unfolding known_count
known_most [] = omega arith
known_most (none ∷ xs) = omega (arith, known_most xs)
known_most (some x ∷ xs) = omega (arith, known_most xs)

known-vector_of : (xs : List Position) → known_count xs ≡ length xs → known (vector_of xs) ≡ xs
unfolding known_count known vector_of
known-vector_of [] e = refl
known-vector_of (none ∷ xs) e = absurd (omega (arith, known_most xs))
known-vector_of (some x ∷ xs) e = ap (some x ∷◌) (known-vector_of xs (omega arith))

pub total-known : (s : Sample) → total s ≡ true → known (vector_of s.at) ≡ s.at
unfolding total
total-known s t = known-vector_of s.at (eqb-true (known_count s.at) (length s.at) t)

-- A vector covers no other one.
known_only : (u v : Vector) → CoversAll (known u) (known v) → u ≡ v
unfolding known
known_only [] [] h = refl
known_only [] (y ∷ v) h = absurd h
known_only (x ∷ u) [] h = absurd h
known_only (x ∷ u) (y ∷ v) h = rw (h.0, known_only u v h.1)

pub valid_positions_lem : (declared : List (List Sort)) (s : Sample) → valid_sample declared s ≡ true → valid_positions (get_or declared s.pred []) s.at ≡ true
unfolding valid_sample
valid_positions_lem declared s v = (and_split (ltb s.pred (length declared)) (valid_positions (get_or declared s.pred []) s.at) v).1

-- A property that goes from a sample to what it covers, over the sets that keeping and waiting make.
module _ (P : Sample → Type 0) (down : (x y : Sample) → covers x y ≡ true → P x → P y) where
  pub covered_all : (s : Sample) (l : List Sample) → covered_by l s ≡ true → All P l → P s
  unfolding covered_by
  covered_all s l e h = let r = any_true (λ k. covers k s) l e in down r.0 s r.2 (all_mem P l h r.0 r.1)

  pub keep_all : (s : Sample) (l : List Sample) → All P (keep s l) ↔ (P s × All P l)
  keep_all s l = (
    λ h. let p = member h s ((keep_mem s l s).1 (inl refl)) in (p, mem_all P l (λ x m. go p (covers s x) refl (λ e. member h x ((keep_mem s l x).1 (inr (m, e)))))),
    λ h. mem_all P (keep s l) (λ x m. ⊎_elim (λ e. rw e h.0) (λ k. all_mem P l h.1 x k.0) ((keep_mem s l x).0 m)),
  )
    where
      member : All P (keep s l) → (x : Sample) → Mem x (keep s l) → P x
      member h = all_mem P (keep s l) h

      go : {x : Sample} → P s → (b : Bool) → covers s x ≡ b → (covers s x ≡ false → P x) → P x
      go {x} p true e f = down s x e p
      go {x} p false e f = f e

  pub wait_all : (s : Sample) (l : List Sample) → All P (wait s l) ↔ (P s × All P l)
  unfolding wait is_new
  wait_all s l =
      by_test
      (λ m. All P m ↔ (P s × All P l))
      (is_new s l)
      (λ e. keep_all s l)
      (λ e. (λ h. (covered_all s l (not-false (covered_by l s) e) h, h), λ h. h.1))

module _ (declared : List (List Sort)) (a : Assignment) where
  -- What a sample covers is satisfied with it.
  pub satisfies_covered : (sign : Sign) (s t : Sample) → covers s t ≡ true → Satisfies declared a sign s → Satisfies declared a sign t
  satisfies_covered sign s t c h v k = rw q.pred at (h v completes)
    where
      q : Rattle.rules.proofs.Laws.Covering.Covers s t
      q = covers_true s t c

      completes : Completes declared s v
      completes =
          record {
            valid = rw q.pred k.valid;
            covered = covers_all_test s.at (known v) (covers_all_trans s.at t.at (known v) q.at (covers_all_true t.at (known v) k.covered));
          }

  -- A total valid sample has one completion: its own vector.
  pub total_in : (sign : Sign) (s : Sample) → valid_sample declared s ≡ true → total s ≡ true → Satisfies declared a sign s ↔ (inside a s ≡ is_in sign)
  unfolding inside
  total_in sign s v t = (λ h. h (vector_of s.at) own, λ h u k. rw (← only u k) h)
    where
      e : known (vector_of s.at) ≡ s.at
      e = total-known s t

      own : Completes declared s (vector_of s.at)
      own = record { valid = rw e (valid_positions_lem declared s v); covered = rw e (covers_all_test s.at s.at (covers_all_refl s.at)) }

      only : (u : Vector) → Completes declared s u → vector_of s.at ≡ u
      only u k = known_only (vector_of s.at) u (rw e (covers_all_true s.at (known u) k.covered))

  -- The sets of a sign, and a set put in its place that asks more.
  pub satisfies_side : (sign : Sign) (x : Sides) → SatisfiesSides declared a x → All (Satisfies declared a sign) (side sign x)
  unfolding side
  satisfies_side positive x h = h.positives
  satisfies_side negative x h = h.negatives

  with_side_sat : (sign : Sign) (s : Sample) (l : List Sample) (x : Sides) → (All (Satisfies declared a sign) l ↔ (Satisfies declared a sign s × All (Satisfies declared a sign) (side sign x)))
      → SatisfiesSides declared a (with_side sign l x) ↔ (Satisfies declared a sign s × SatisfiesSides declared a x)
  unfolding side with_side
  with_side_sat positive s l x e = (
    λ h. let r = e.0 h.positives in (r.0, record { positives = r.1; negatives = h.negatives }),
    λ h. record { positives = e.1 (h.0, h.1.positives); negatives = h.1.negatives },
  )
  with_side_sat negative s l x e = (
    λ h. let r = e.0 h.negatives in (r.0, record { positives = h.positives; negatives = r.1 }),
    λ h. record { positives = h.1.positives; negatives = e.1 (h.0, h.1.negatives) },
  )

  pub keep_sat : (sign : Sign) (s : Sample) (kept : Sides)
      → SatisfiesSides declared a (with_side sign (keep s (side sign kept)) kept) ↔ (Satisfies declared a sign s × SatisfiesSides declared a kept)
  keep_sat sign s kept = with_side_sat sign s (keep s (side sign kept)) kept (keep_all (Satisfies declared a sign) (satisfies_covered sign) s (side sign kept))

  pub wait_sat : (sign : Sign) (s : Sample) (waiting : Sides) → SatisfiesSides declared a (wait_as sign s waiting) ↔ (Satisfies declared a sign s × SatisfiesSides declared a waiting)
  unfolding wait_as
  wait_sat sign s waiting = with_side_sat sign s (wait s (side sign waiting)) waiting (wait_all (Satisfies declared a sign) (satisfies_covered sign) s (side sign waiting))
