-- What steps 2 to 4 of adding leave of a clause, and what all steps keep of what is held.
use mathlib.Core.Path.{◌≡◌, refl}
use mathlib.Core.Bool.{Bool, true, false}
use mathlib.Core.List.{List, [], ◌∷◌}
use mathlib.Core.Option.{Option, none, some}
use mathlib.Core.Logic.{inl, inr, ⊎_elim}
use Prim.Native.Nat.{ℕ, ◌≤◌}
use native.Mathlib.Omega.{arith}
use lib.ListN.{length}
use Rattle.rules.specs.Samples.{Sample}
use Rattle.rules.specs.Sets.{covered_by, include}
use Rattle.rules.specs.Contents.{Sign, positive, negative, Sides, side, Constraint, Clause, right_samples, samples_of, Held}
use Rattle.rules.specs.Redundancy.{lives_at}
use Rattle.rules.specs.Settling.{Settled, contradicted, settled, settle_held}
use Rattle.rules.specs.Adding.{Added, refuted, added, wait_in, RightNow, right_known, right_is, step2, LeftNow, left_false, left_is, left_with, step3, right_among}
use Rattle.rules.specs.Adding.{again, lowest_free, goes_live, steps567, step4, steps234, after_settling, add_other}
use Rattle.rules.specs.Satisfying.{All}
use Rattle.rules.specs.Condition.{Rising, NonEmpty}
use Rattle.rules.proofs.Laws.Bools.{by_test}
use Rattle.rules.proofs.Laws.Sets.{all_mem, mem_all, all_sub, append_mem, include_mem, include_rising}
use Rattle.rules.proofs.Kept.FreeNumbers.{lowest_free-free}
use Rattle.rules.proofs.Kept.EachDraw.{AfterSettling}

-- A clause's samples are its left ones and its right one.
pub parts_all : (P : Sample → Type 0) (k : Clause) → All P (samples_of k) → All P k.left × All P (right_samples k.right)
unfolding samples_of
parts_all P k h = (
  all_sub P (samples_of k) k.left (λ x m. (append_mem k.left (right_samples k.right) x).1 (inl m)) h,
  all_sub P (samples_of k) (right_samples k.right) (λ x m. (append_mem k.left (right_samples k.right) x).1 (inr m)) h,
)

pub all_parts : (P : Sample → Type 0) (k : Clause) → All P k.left → All P (right_samples k.right) → All P (samples_of k)
unfolding samples_of
all_parts P k p q = mem_all P (samples_of k) λ x m.
    ⊎_elim (all_mem P k.left p x) (all_mem P (right_samples k.right) q x) ((append_mem k.left (right_samples k.right) x).0 m)

pub include_all_lem : (P : Sample → Type 0) (s : Sample) (l : List Sample) → P s → All P l → All P (include s l)
include_all_lem P s l p h = mem_all P (include s l) (λ x m. ⊎_elim (λ e. rw e p) (all_mem P l h x) ((include_mem s l x).0 m))

-- No kept sample covers s.
abbrev pub Uncovered : Sides → Sample → Type 0
Uncovered kept s = (sign : Sign) → covered_by (side sign kept) s ≡ false

uncovered : (kept : Sides) (s : Sample) → covered_by kept.positives s ≡ false → covered_by kept.negatives s ≡ false → Uncovered kept s
unfolding side
uncovered kept s p n positive = p
uncovered kept s p n negative = n

abbrev pub Undecided : (Sample → Type 0) → Sides → Sample → Type 0
Undecided P kept s = P s × Uncovered kept s

-- What is left of a right and of a left was there before, and no kept sample covers it; the left is a set.
abbrev pub RightOf : (Sample → Type 0) → RightNow → Type 0
RightOf P right_known = Unit
RightOf P (right_is r) = All P (right_samples r)

abbrev pub LeftOf : (Sample → Type 0) → LeftNow → Type 0
LeftOf P left_false = Unit
LeftOf P (left_is l) = Rising l × All P l

module _ (P : Sample → Type 0) (kept : Sides) where
  pub step2_of : (r : Option Sample) → All P (right_samples r) → RightOf (Undecided P kept) (step2 kept r)
  unfolding step2 right_samples
  step2_of none h = tt
  step2_of (some q) h =
      by_test (RightOf (Undecided P kept)) (covered_by kept.positives q) (λ e. tt) λ p.
      by_test (RightOf (Undecided P kept)) (covered_by kept.negatives q) (λ e. tt) λ n. ((h.0, uncovered kept q p n), tt)

  pub step3_of : (l : List Sample) → All P l → LeftOf (Undecided P kept) (step3 kept l)
  unfolding step3
  step3_of [] h = (tt, tt)
  step3_of (s ∷ l) h = go (covered_by kept.positives s) (covered_by kept.negatives s) refl refl (step3 kept l) (step3_of l h.1)
    where
      go : (b c : Bool) → covered_by kept.positives s ≡ b → covered_by kept.negatives s ≡ c → (r : LeftNow)
          → LeftOf (Undecided P kept) r → LeftOf (Undecided P kept) (left_with b c s r)
      go b c p n left_false r = tt
      go true c p n (left_is m) r = r
      go false true p n (left_is m) r = tt
      go false false p n (left_is m) r = (include_rising s m r.0, include_all_lem (Undecided P kept) s m (h.0, uncovered kept s p n) r.1)

-- A constraint that goes live: a rising left and two or more distinct samples, none covered by a kept one.
pub record LivePart (P : Sample → Type 0) (kept : Sides) (c : Constraint) : Type 0 where
  pub some_left : NonEmpty c.left
  pub rising : Rising c.left
  pub two_or_more : 2 ≤ length (samples_of c)
  pub right_apart : right_among c.right c.left ≡ false
  pub each : All (Undecided P kept) (samples_of c)

abbrev pub AfterAdd : (Held → Type 0) → Added → Type 0
AfterAdd Q refuted = Unit
AfterAdd Q (added is_new g) = Q g

-- Q is kept when a sample of the clause waits, when the store settles and when what is left of the clause goes live.
pub record StepsKeep (P : Sample → Type 0) (Q : Held → Type 0) : Type 0 where
  pub waits : (sign : Sign) (s : Sample) (h : Held) → P s → Q h → Q (wait_in sign s h)
  pub settles : (h : Held) → Q h → AfterSettling Q (settle_held h)
  pub lives : (n : ℕ) (c : Constraint) (h : Held) → lives_at n h.slots ≡ none → LivePart P h.kept c → Q h → AfterAdd Q (goes_live n c h)

module _ (P : Sample → Type 0) (Q : Held → Type 0) (keep : StepsKeep P Q) where
  again_keeps : (q : Sample) (r : Settled) → P q → AfterSettling Q r → AfterAdd Q (again q r)
  unfolding again
  again_keeps q contradicted p v = tt
  again_keeps q (settled h n) p v = keep.waits positive q h p v

  steps567_keeps : (l : List Sample) (r : Option Sample) (h : Held) → Rising l → right_among r l ≡ false → All (Undecided P h.kept) l
      → All (Undecided P h.kept) (right_samples r) → Q h → AfterAdd Q (steps567 l r h)
  unfolding steps567 right_samples samples_of
  steps567_keeps [] none h i a x y v = tt
  steps567_keeps [] (some q) h i a x y v = again_keeps q (settle_held (wait_in positive q h)) y.0.0 (keep.settles (wait_in positive q h) (keep.waits positive q h y.0.0 v))
  steps567_keeps (s ∷ []) none h i a x y v = keep.waits negative s h x.0.0 v
  steps567_keeps (s ∷ []) (some q) h i a x y v =
      keep.lives (lowest_free h.slots) (record { left = s ∷ []; right = some q }) h (lowest_free-free h.slots)
      (record { some_left = tt; rising = i; two_or_more = omega arith; right_apart = a; each = (x.0, y) }) v
  steps567_keeps (s ∷ t ∷ l) r h i a x y v =
      let c : Constraint = record { left = s ∷ t ∷ l; right = r } in
      keep.lives (lowest_free h.slots) c h (lowest_free-free h.slots)
      (record { some_left = tt; rising = i; two_or_more = omega arith; right_apart = a; each = all_parts (Undecided P h.kept) c x y }) v

  steps234_keeps : (r : RightNow) (l : LeftNow) (h : Held) → RightOf (Undecided P h.kept) r → LeftOf (Undecided P h.kept) l
      → Q h → AfterAdd Q (steps234 r l h)
  unfolding steps234
  steps234_keeps right_known l h x y v = v
  steps234_keeps (right_is r) left_false h x y v = v
  steps234_keeps (right_is r) (left_is l) h x y v = go (right_among r l) refl
    where
      go : (b : Bool) → right_among r l ≡ b → AfterAdd Q (step4 b l r h)
      go true e = v
      go false e = steps567_keeps l r h y.0 e y.1 x v

  after_settling_keeps : (k : Clause) (r : Settled) → All P (samples_of k) → AfterSettling Q r → AfterAdd Q (after_settling k r)
  unfolding after_settling
  after_settling_keeps k contradicted p v = tt
  after_settling_keeps k (settled h n) p v =
      let both = parts_all P k p in
      steps234_keeps (step2 h.kept k.right) (step3 h.kept k.left) h (step2_of P h.kept k.right both.1) (step3_of P h.kept k.left both.0) v

  pub add_other_keeps : (k : Clause) (h : Held) → All P (samples_of k) → Q h → AfterAdd Q (add_other k h)
  unfolding add_other
  add_other_keeps k h p v = after_settling_keeps k (settle_held h) p (keep.settles h v)
