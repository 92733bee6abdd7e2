-- Tests of redundancy only free numbers: every slot is left as it was or becomes free.
use mathlib.Core.Path.{◌≡◌, refl, ap}
use mathlib.Core.Bool.{not, ◌&&◌}
use mathlib.Core.List.{List, [], ◌∷◌}
use mathlib.Core.Option.{Option, none, some}
use Prim.Native.Nat.{ℕ, zero, suc}
use lib.Dec.{eqb}
use lib.ListN.{set, length}
use Rattle.rules.specs.Contents.{Constraint, Slot, free, is_live}
use Rattle.rules.specs.Redundancy.{needless_slot, drop_others, any_inside, test_as, lives_at, test, tests}
use Rattle.rules.specs.Satisfying.{AllLive}
use Rattle.rules.specs.Condition.{MarkedLive}
use Rattle.rules.proofs.Laws.Bools.{by_test}

pub data Freed : List Slot → List Slot → Type 0 where
  nothing : Freed [] []
  leaves : {x : Slot} {l m : List Slot} → Freed l m → Freed (x ∷ l) (x ∷ m)
  frees : {x : Slot} {l m : List Slot} → Freed l m → Freed (x ∷ l) (free ∷ m)

-- What that keeps.
pub freed_live : (P : Constraint → Type 0) {l m : List Slot} → Freed l m → AllLive P l → AllLive P m
freed_live P nothing a = tt
freed_live P (leaves f) a = (a.0, freed_live P f a.1)
freed_live P (frees f) a = (tt, freed_live P f a.1)

pub freed_marks : {l m : List Slot} → Freed l m → MarkedLive l → MarkedLive m
unfolding is_live
freed_marks nothing a = tt
freed_marks (leaves f) a = (a.0, freed_marks f a.1)
freed_marks (frees f) a = (λ e. e, freed_marks f a.1)

pub freed_length : {l m : List Slot} → Freed l m → length m ≡ length l
freed_length nothing = refl
freed_length (leaves f) = ap suc (freed_length f)
freed_length (frees f) = ap suc (freed_length f)

pub freed_same : (l : List Slot) → Freed l l
freed_same [] = nothing
freed_same (x ∷ l) = leaves (freed_same l)

pub freed_trans : {l m k : List Slot} → Freed l m → Freed m k → Freed l k
freed_trans nothing nothing = nothing
freed_trans (leaves f) (leaves g) = leaves (freed_trans f g)
freed_trans (leaves f) (frees g) = frees (freed_trans f g)
freed_trans (frees f) (leaves g) = frees (freed_trans f g)
freed_trans (frees f) (frees g) = frees (freed_trans f g)

-- What does that.
pub set_freed : (n : ℕ) (l : List Slot) → Freed l (set l n free)
set_freed n [] = nothing
set_freed zero (x ∷ l) = frees (freed_same l)
set_freed (suc n) (x ∷ l) = leaves (set_freed n l)

pub drop_others_freed : (c : Constraint) (n i : ℕ) (l : List Slot) → Freed l (drop_others c n i l)
unfolding drop_others
drop_others_freed c n i [] = nothing
drop_others_freed c n i (x ∷ l) =
    let r = drop_others_freed c n (suc i) l in
    by_test (λ y. Freed (x ∷ l) (y ∷ drop_others c n (suc i) l)) (not (eqb i n) && needless_slot c x.lives) (λ e. frees r) (λ e. leaves r)

test_as_freed : (n : ℕ) (o : Option Constraint) (slots : List Slot) → Freed slots (test_as n o slots)
unfolding test_as
test_as_freed n none slots = freed_same slots
test_as_freed n (some c) slots =
    let others = drop_others c n 0 slots in
    let r = drop_others_freed c n 0 slots in
    by_test (Freed slots) (any_inside c others) (λ e. freed_trans r (set_freed n others)) (λ e. r)

pub test_freed : (n : ℕ) (slots : List Slot) → Freed slots (test n slots)
unfolding test
test_freed n slots = test_as_freed n (lives_at n slots) slots

pub tests_freed : (ns : List ℕ) (slots : List Slot) → Freed slots (tests ns slots)
unfolding tests
tests_freed [] slots = freed_same slots
tests_freed (n ∷ ns) slots = freed_trans (test_freed n slots) (tests_freed ns (test n slots))
