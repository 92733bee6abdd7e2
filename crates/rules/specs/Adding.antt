-- Adding a clause: its refusals, and steps 1 to 7.
use Rattle.std.specs.Prelude.{Bool, true, false, cond, not, ◌&&◌, List, [], ◌∷◌, ℕ, suc, ℤ, leb, length, set}
use Rattle.std.proofs.Math.Option.{Option, none, some}
use Rattle.rules.specs.Sizes.{max_samples, max_constraints}
use Rattle.rules.specs.Samples.{Sample, total}
use Rattle.rules.specs.Sets.{any, member, covered_by, include, include_all}
use Rattle.rules.specs.Waiting.{is_new}
use Rattle.rules.specs.Contents.{Sign, positive, negative, Sides, side, wait_as, Constraint, Clause, Slot, modified_slot, Held, Contents, with_held, is_live, live_count, held_samples}
use Rattle.rules.specs.Numbers.{Refusal, Outcome, done, is_marked, bad_rows, has_unknown, no_sample_room, no_constraint_room, contradiction, when, first_of, refuse, unless}
use Rattle.rules.specs.Rows.{rows_fit, rows_of, rows_refusal, samples_in, clause_of}
use Rattle.rules.specs.Redundancy.{lives_at, test}
use Rattle.rules.specs.Settling.{Settled, contradicted, settled, settle_held}

unfoldable pub several : List Sample → Bool
several l = leb 2 (length l)

-- 4: an unknown in a clause of two or more rows.
unfoldable pub unknown_among : List Sample → Bool
unfolding several any total
unknown_among l = several l && any (λ s. not (total s)) l

-- 6: held samples at entry plus new distinct ones in the clause are within 256.
unfoldable pub samples_fit : List Sample → Held → Bool
unfolding include_all held_samples
samples_fit l h = leb (length (include_all l (held_samples h))) max_samples

-- 7: a clause of two or more rows, with 128 constraints live at entry.
unfoldable pub constraints_full : List Sample → Held → Bool
unfolding several live_count
constraints_full l h = several l && leb max_constraints (live_count h.slots)

-- Order: 8; 5; for each row, left to right, 1, 2, 3; then 4, 6, 7.
unfoldable pub add_refusal : List ℤ → Bool → List Sample → Contents → Option Refusal
unfolding first_of when rows_fit rows_refusal rows_of unknown_among samples_fit constraints_full
add_refusal numbers has_right samples c =
    first_of
    (when is_marked c.marked
    ∷ when bad_rows (not (rows_fit numbers has_right))
    ∷ rows_refusal c.declared (rows_of numbers)
    ∷ when has_unknown (unknown_among samples)
    ∷ when no_sample_room (not (samples_fit samples c.held))
    ∷ when no_constraint_room (constraints_full samples c.held)
    ∷ [])

-- What adding comes to: a contradiction, or what is held and whether the clause was new.
pub data Added : Type 0 where
  refuted : Added
  added : Bool → Held → Added

abbrev pub not_new : Held → Added
not_new h = added false h

unfoldable pub wait_in : Sign → Sample → Held → Held
unfolding wait_as
wait_in sign s h = record { kept = h.kept; waiting = wait_as sign s h.waiting; slots = h.slots }

-- No left, one right: waits as positive. One left, no right: waits as negative. The answer says if it is new.
unfoldable pub add_one : Sign → Sample → Held → Added
unfolding is_new side wait_in
add_one sign s h = added (is_new s (side sign h.waiting)) (wait_in sign s h)

-- 2. Right covered by a kept positive: done, not new. Else covered by a kept negative: right dropped.
pub data RightNow : Type 0 where
  right_known : RightNow
  right_is : Option Sample → RightNow

unfoldable pub step2 : Sides → Option Sample → RightNow
unfolding covered_by
step2 kept none = right_is none
step2 kept (some q) = cond (covered_by kept.positives q) right_known (cond (covered_by kept.negatives q) (right_is none) (right_is (some q)))

-- 3. Each left sample: covered by a kept positive, dropped; else covered by a kept negative, done, not new.
-- 4. Equal left samples merge.
pub data LeftNow : Type 0 where
  left_false : LeftNow
  left_is : List Sample → LeftNow

unfoldable pub left_with : Bool → Bool → Sample → LeftNow → LeftNow
unfolding include
left_with in_positive in_negative s left_false = left_false
left_with true in_negative s (left_is l) = left_is l
left_with false true s (left_is l) = left_false
left_with false false s (left_is l) = left_is (include s l)

unfoldable pub step3 : Sides → List Sample → LeftNow
unfolding left_with covered_by
step3 kept [] = left_is []
step3 kept (s ∷ l) = left_with (covered_by kept.positives s) (covered_by kept.negatives s) s (step3 kept l)

-- 4. Right among the left: done, not new.
unfoldable pub right_among : Option Sample → List Sample → Bool
unfolding member
right_among none l = false
right_among (some q) l = member q l

-- 5. Left empty: right waits as positive, settle, right waits again; new.
unfoldable pub again : Sample → Settled → Added
unfolding wait_in
again q contradicted = refuted
again q (settled h n) = added true (wait_in positive q h)

unfoldable pub step5 : Sample → Held → Added
unfolding again settle_held wait_in
step5 q h = again q (settle_held (wait_in positive q h))

-- 6. One left, no right: it waits as negative; new.
unfoldable pub step6 : Sample → Held → Added
unfolding wait_in
step6 s h = added true (wait_in negative s h)

-- 7. Else the constraint goes live, marked modified, and is tested for redundancy; new if it stays. It takes the lowest free number.
unfoldable pub lowest_free : List Slot → ℕ
unfolding is_live
lowest_free [] = 0
lowest_free (x ∷ xs) = let above = suc (lowest_free xs) in cond (is_live x.lives) above 0

unfoldable pub goes_live : ℕ → Constraint → Held → Added
unfolding test is_live lives_at
goes_live n c h =
    let slots = test n (set h.slots n (modified_slot c)) in
    added (is_live (lives_at n slots)) (record { kept = h.kept; waiting = h.waiting; slots = slots })

unfoldable pub step7 : Constraint → Held → Added
unfolding goes_live lowest_free
step7 c h = goes_live (lowest_free h.slots) c h

-- Steps 5 to 7 by what is left of the clause. If all left samples were dropped (or there were none) and there is no right: 9.
unfoldable pub steps567 : List Sample → Option Sample → Held → Added
unfolding step5 step6 step7
steps567 [] none h = refuted
steps567 [] (some q) h = step5 q h
steps567 (s ∷ []) none h = step6 s h
steps567 (s ∷ []) (some q) h = step7 (record { left = s ∷ []; right = some q }) h
steps567 (s ∷ t ∷ l) r h = step7 (record { left = s ∷ t ∷ l; right = r }) h

unfoldable pub step4 : Bool → List Sample → Option Sample → Held → Added
unfolding steps567
step4 true l r h = not_new h
step4 false l r h = steps567 l r h

unfoldable pub steps234 : RightNow → LeftNow → Held → Added
unfolding step4 right_among
steps234 right_known l h = not_new h
steps234 (right_is r) left_false h = not_new h
steps234 (right_is r) (left_is l) h = step4 (right_among r l) l r h

-- 1. Settle.
unfoldable pub after_settling : Clause → Settled → Added
unfolding steps234 step2 step3
after_settling c contradicted = refuted
after_settling c (settled h n) = steps234 (step2 h.kept c.right) (step3 h.kept c.left) h

unfoldable pub add_other : Clause → Held → Added
unfolding after_settling settle_held
add_other c h = after_settling c (settle_held h)

-- Any other clause than one left or one right goes through the steps.
unfoldable pub add_parts : List Sample → Option Sample → Held → Added
unfolding add_one add_other
add_parts [] none h = add_other (record { left = []; right = none }) h
add_parts [] (some q) h = add_one positive q h
add_parts (s ∷ []) none h = add_one negative s h
add_parts (s ∷ []) (some q) h = add_other (record { left = s ∷ []; right = some q }) h
add_parts (s ∷ t ∷ l) r h = add_other (record { left = s ∷ t ∷ l; right = r }) h

unfoldable pub add_clause : Clause → Held → Added
unfolding add_parts
add_clause c h = add_parts c.left c.right h

-- The call: rows, and the flag that says whether the last one is the right side. The answer says if the clause is new.
unfoldable pub add_outcome : Contents → Added → Outcome Bool
unfolding refuse with_held
add_outcome c refuted = refuse contradiction c
add_outcome c (added is_new_one h) = record { answer = done is_new_one; contents = with_held h c }

unfoldable pub add : List ℤ → Bool → Contents → Outcome Bool
unfolding unless add_refusal add_outcome add_clause clause_of samples_in rows_of
add numbers has_right c =
    let samples = samples_in c.declared (rows_of numbers) in
    unless (add_refusal numbers has_right samples c) c (add_outcome c (add_clause (clause_of has_right samples) c.held))
