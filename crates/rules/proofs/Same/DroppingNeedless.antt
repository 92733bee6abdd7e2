-- A test of redundancy drops only what the others imply.
use mathlib.Core.Path.{◌≡◌, refl, ap, ◌∙◌}
use mathlib.Core.Bool.{Bool, true, false, cond, not, ◌&&◌, ◌||◌, and-not_self}
use mathlib.Core.List.{List, [], ◌∷◌}
use mathlib.Core.Option.{Option, none, some}
use mathlib.Core.Logic.Iff
use mathlib.Core.Logic.{◌↔◌, ⊎_elim}
use Prim.Native.Nat.{ℕ, zero, suc, ◌+◌}
use native.Mathlib.Omega.{arith}
use lib.Dec.{eqb}
use lib.ListN.{set}
use borrow.Author.Tests.{eq-eqb}
use Rattle.rules.specs.Values.{Sort}
use Rattle.rules.specs.Samples.{Sample}
use Rattle.rules.specs.Sets.{subset}
use Rattle.rules.specs.Contents.{Constraint, Slot, free}
use Rattle.rules.specs.Redundancy.{same_right, needless, strictly_inside, needless_slot, drop_others, inside_slot, any_inside, test_as, lives_at, test, tests}
use Rattle.rules.specs.Satisfying.{Assignment, all_inside, right_inside, holds, IfLive, AllLive}
use Rattle.rules.specs.Condition.{Mem}
use Rattle.rules.proofs.Laws.Bools.{both, and_split, or_split}
use Rattle.rules.proofs.Laws.Covering.{same_true}
use Rattle.rules.proofs.Laws.Sets.{subset_true}
use Rattle.rules.proofs.Kept.ValidSettling.{test_live}
use Rattle.rules.proofs.Same.LosingSamples.{Holds, inside_all, all_inside_lem}

same_right_true : (p q : Option Sample) → same_right p q ≡ true → p ≡ q
unfolding same_right
same_right_true none none e = refl
same_right_true none (some q) e = both e refl
same_right_true (some p) none e = both e refl
same_right_true (some p) (some q) e = ap some (same_true p q e)

-- Who lives at a number, and a number set free.
pub live_at : (P : Constraint → Type 0) (n : ℕ) (slots : List Slot) → AllLive P slots → IfLive P (lives_at n slots)
unfolding lives_at
live_at P n [] h = tt
live_at P zero (x ∷ xs) h = h.0
live_at P (suc n) (x ∷ xs) h = live_at P n xs h.1

pub live_freed : (P : Constraint → Type 0) (n : ℕ) (slots : List Slot) → IfLive P (lives_at n slots) → AllLive P (set slots n free) → AllLive P slots
unfolding lives_at
live_freed P n [] p h = tt
live_freed P zero (x ∷ xs) p h = (p, h.1)
live_freed P (suc n) (x ∷ xs) p h = (h.0, live_freed P n xs p h.1)

-- A constraint is not strictly inside itself, so its own number doesn't count.
freed_inside : (c : Constraint) (n : ℕ) (slots : List Slot) → lives_at n slots ≡ some c → any_inside c (set slots n free) ≡ any_inside c slots
unfolding any_inside lives_at strictly_inside
freed_inside c n [] e = refl
freed_inside c zero (x ∷ xs) e = rw (e, and-not_self (needless c c))
freed_inside c (suc n) (x ∷ xs) e = rw (freed_inside c n xs e)

-- Dropping the others leaves C's own number alone.
others_at : (c : Constraint) (n i m : ℕ) (slots : List Slot) → i + m ≡ n → lives_at m (drop_others c n i slots) ≡ lives_at m slots
unfolding lives_at drop_others
others_at c n i m [] e = refl
others_at c n i zero (x ∷ xs) e = rw (eq-eqb i n (omega arith))
others_at c n i (suc m) (x ∷ xs) e = others_at c n (suc i) m xs (omega arith)

module _ (a : Assignment) where
  -- What is needless beside C holds with C.
  pub needless-holds : (c d : Constraint) → needless c d ≡ true → Holds a c → Holds a d
  unfolding needless holds
  needless-holds c d e h =
      let r = and_split (same_right c.right d.right) (subset c.left d.left) e in
      go (same_right_true c.right d.right r.0) (subset_true c.left d.left r.1) (all_inside a d.left) refl
    where
      go : c.right ≡ d.right → ((x : Sample) → Mem x c.left → Mem x d.left)
          → (b : Bool) → all_inside a d.left ≡ b → (not b || right_inside a d.right) ≡ true
      go p q false k = refl
      go p q true k = rw (all_inside_lem a c.left (λ x m. inside_all a d.left k x (q x m)), p) at h

  dropped_holds : (c : Constraint) (lived : Option Constraint) → needless_slot c lived ≡ true → Holds a c → IfLive (Holds a) lived
  unfolding needless_slot
  dropped_holds c none e h = tt
  dropped_holds c (some d) e h = needless-holds c d e h

  others_hold : (c : Constraint) (n i : ℕ) (slots : List Slot) → Holds a c → AllLive (Holds a) (drop_others c n i slots) → AllLive (Holds a) slots
  unfolding drop_others
  others_hold c n i [] h k = tt
  others_hold c n i (x ∷ xs) h k = (go (not (eqb i n) && needless_slot c x.lives) refl k.0, others_hold c n (suc i) xs h k.1)
    where
      go : (b : Bool) → (not (eqb i n) && needless_slot c x.lives) ≡ b → IfLive (Holds a) (cond b free x).lives → IfLive (Holds a) x.lives
      go true e k = dropped_holds c x.lives (and_split (not (eqb i n)) (needless_slot c x.lives) e).1 h
      go false e k = k

  inside-holds : (c : Constraint) (lived : Option Constraint) → inside_slot c lived ≡ true → IfLive (Holds a) lived → Holds a c
  unfolding inside_slot
  inside-holds c none e h = both e refl
  inside-holds c (some d) e h = needless-holds d c (and_split (needless d c) (not (needless c d)) e).0 h

  any-holds : (c : Constraint) (slots : List Slot) → any_inside c slots ≡ true → AllLive (Holds a) slots → Holds a c
  unfolding any_inside
  any-holds c [] e h = both e refl
  any-holds c (x ∷ xs) e h = ⊎_elim (λ k. inside-holds c x.lives k h.0) (λ k. any-holds c xs k h.1) (or_split (inside_slot c x.lives) (any_inside c xs) e)

  -- What held before the test, if C lived at its number.
  test_back : (n : ℕ) (slots : List Slot) (lived : Option Constraint) → lives_at n slots ≡ lived → AllLive (Holds a) (test_as n lived slots) → AllLive (Holds a) slots
  unfolding test_as
  test_back n slots none e h = h
  test_back n slots (some c) e h = go (any_inside c others) refl h
    where
      others : List Slot
      others = drop_others c n 0 slots

      own : lives_at n others ≡ some c
      own = others_at c n 0 n slots (omega arith) ∙ e

      go : (b : Bool) → any_inside c others ≡ b → AllLive (Holds a) (cond b (set others n free) others) → AllLive (Holds a) slots
      go true i k =
          let p = any-holds c (set others n free) (freed_inside c n others own ∙ i) k in
          others_hold c n 0 slots p (live_freed (Holds a) n others (rw own p) k)
      go false i k = others_hold c n 0 slots (rw own at (live_at (Holds a) n others k)) k

module _ (declared : List (List Sort)) (a : Assignment) where
  pub test_sat : (n : ℕ) (slots : List Slot) → AllLive (λ c. holds a c ≡ true) slots ↔ AllLive (λ c. holds a c ≡ true) (test n slots)
  test_sat n slots = (test_live (Holds a) n slots, unfold test in test_back a n slots (lives_at n slots) refl)

  pub tests_sat : (ns : List ℕ) (slots : List Slot) → AllLive (λ c. holds a c ≡ true) slots ↔ AllLive (λ c. holds a c ≡ true) (tests ns slots)
  unfolding tests
  tests_sat [] slots = Iff.rfl
  tests_sat (n ∷ ns) slots = Iff.trans (test_sat n slots) (tests_sat ns (test n slots))
