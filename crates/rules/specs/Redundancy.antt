-- Redundancy of a live constraint C, among those with the same right side.
use Rattle.std.specs.Prelude.{Bool, true, false, cond, not, ◌&&◌, ◌||◌, List, [], ◌∷◌, ℕ, suc, eqb, get_or, set}
use Rattle.std.proofs.Math.Option.{Option, none, some}
use Rattle.rules.specs.Samples.{Sample, same}
use Rattle.rules.specs.Sets.{subset}
use Rattle.rules.specs.Contents.{Constraint, Slot, free}

unfoldable pub same_right : Option Sample → Option Sample → Bool
unfolding same
same_right none none = true
same_right none (some q) = false
same_right (some p) none = false
same_right (some p) (some q) = same p q

-- D is needless beside C: the same right side, and D's left contains C's or equals it.
unfoldable pub needless : Constraint → Constraint → Bool
unfolding same_right subset
needless c d = same_right c.right d.right && subset c.left d.left

-- D's left lies strictly inside C's.
unfoldable pub strictly_inside : Constraint → Constraint → Bool
unfolding needless
strictly_inside d c = needless d c && not (needless c d)

-- Each other one whose left contains C's or equals it is dropped; C has number n, and the slots are those from number i on.
unfoldable pub needless_slot : Constraint → Option Constraint → Bool
unfolding needless
needless_slot c none = false
needless_slot c (some d) = needless c d

unfoldable pub drop_others : Constraint → ℕ → ℕ → List Slot → List Slot
unfolding needless_slot
drop_others c n i [] = []
drop_others c n i (x ∷ xs) = cond (not (eqb i n) && needless_slot c x.lives) free x ∷ drop_others c n (suc i) xs

-- C is dropped if another's left lies strictly inside C's.
unfoldable pub inside_slot : Constraint → Option Constraint → Bool
unfolding strictly_inside
inside_slot c none = false
inside_slot c (some d) = strictly_inside d c

unfoldable pub any_inside : Constraint → List Slot → Bool
unfolding inside_slot
any_inside c [] = false
any_inside c (x ∷ xs) = inside_slot c x.lives || any_inside c xs

-- The test of number n, if it is live.
unfoldable pub test_as : ℕ → Option Constraint → List Slot → List Slot
unfolding drop_others any_inside
test_as n none slots = slots
test_as n (some c) slots = let others = drop_others c n 0 slots in cond (any_inside c others) (set others n free) others

unfoldable pub lives_at : ℕ → List Slot → Option Constraint
lives_at n slots = (get_or slots n free).lives

unfoldable pub test : ℕ → List Slot → List Slot
unfolding test_as lives_at
test n slots = test_as n (lives_at n slots) slots

-- The tests of several numbers, one after the other.
unfoldable pub tests : List ℕ → List Slot → List Slot
unfolding test
tests [] slots = slots
tests (n ∷ ns) slots = tests ns (test n slots)
