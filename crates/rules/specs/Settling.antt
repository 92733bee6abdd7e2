-- Settling: a draw, what it does to the live constraints, and draws until nothing waits.
use Rattle.std.specs.Prelude.{Bool, true, false, cond, List, [], ◌∷◌, ℕ, zero, suc, ◌+◌, length}
use Rattle.std.proofs.Math.Option.{Option, none, some}
use Rattle.rules.specs.Samples.{Sample, covers}
use Rattle.rules.specs.Sets.{any, without, covered_by, keep}
use Rattle.rules.specs.Contents.{Sign, positive, negative, Sides, side, with_side, wait_as, Constraint, Slot, free, modified_slot, Held, Contents, with_held, live_count}
use Rattle.rules.specs.Numbers.{Outcome, done, is_marked, contradiction, when, refuse, unless}
use Rattle.rules.specs.Redundancy.{tests}

-- What becomes of a live constraint that loses samples.
pub data Fate : Type 0 where
  untouched : Fate
  dropped : Fate
  waits : Sign → Sample → Fate
  contradicts : Fate
  stays : Constraint → Fate

-- It becomes one waiting sample with its sign, a contradiction, or stays live.
unfoldable pub remaining : List Sample → Option Sample → Fate
remaining [] none = contradicts
remaining [] (some q) = waits positive q
remaining (s ∷ []) none = waits negative s
remaining (s ∷ []) (some q) = stays (record { left = s ∷ []; right = some q })
remaining (s ∷ t ∷ l) r = stays (record { left = s ∷ t ∷ l; right = r })

-- It is dropped if a left one went and the sign is negative, or the right went and the sign is positive.
unfoldable pub judged : Sign → Bool → Bool → Fate → Fate
judged sign false false rest = untouched
judged negative true right rest = dropped
judged positive true true rest = dropped
judged positive true false rest = rest
judged positive false true rest = dropped
judged negative false true rest = rest

unfoldable pub right_goes : (Sample → Bool) → Option Sample → Bool
right_goes lost none = false
right_goes lost (some q) = lost q

unfoldable pub right_after : (Sample → Bool) → Option Sample → Option Sample
right_after lost none = none
right_after lost (some q) = cond (lost q) none (some q)

unfoldable pub fate : (Sample → Bool) → Sign → Constraint → Fate
unfolding judged any right_goes remaining without right_after
fate lost sign c = judged sign (any lost c.left) (right_goes lost c.right) (remaining (without lost c.left) (right_after lost c.right))

unfoldable pub slot_fate : (Sample → Bool) → Sign → Option Constraint → Fate
unfolding fate
slot_fate lost sign none = untouched
slot_fate lost sign (some c) = fate lost sign c

-- The live constraints by rising number, the first of them n: each loses the lost samples. Waiting ones gather on the way, and so do the numbers of those that stay as modified.
pub data Swept : Type 0 where
  broken : Swept
  swept : Sides → List Slot → List ℕ → Swept

unfoldable pub onto : Slot → Swept → Swept
onto x broken = broken
onto x (swept waiting slots modified) = swept waiting (x ∷ slots) modified

unfoldable pub noting : ℕ → Swept → Swept
noting n broken = broken
noting n (swept waiting slots modified) = swept waiting slots (n ∷ modified)

unfoldable pub turn : Fate → Slot → ℕ → Sides → (Sides → Swept) → Swept
unfolding onto noting wait_as
turn untouched x n waiting others = onto x (others waiting)
turn dropped x n waiting others = onto free (others waiting)
turn (waits sign s) x n waiting others = onto free (others (wait_as sign s waiting))
turn contradicts x n waiting others = broken
turn (stays c) x n waiting others = noting n (onto (modified_slot c) (others waiting))

unfoldable pub sweep : (Sample → Bool) → Sign → ℕ → List Slot → Sides → Swept
unfolding turn slot_fate
sweep lost sign n [] waiting = swept waiting [] []
sweep lost sign n (x ∷ xs) waiting = turn (slot_fate lost sign x.lives) x n waiting (λ w. sweep lost sign (suc n) xs w)

-- Last, the modified constraints, by rising number, are tested if still live.
unfoldable pub tested : Sides → Swept → Option Held
unfolding tests
tested kept broken = none
tested kept (swept waiting slots modified) = some (record { kept = kept; waiting = waiting; slots = tests modified slots })

-- One draw: nothing waits, a contradiction, or what is held after it, with the sign drawn and whether the sample was kept.
pub data Drawn : Type 0 where
  idle : Drawn
  clash : Drawn
  drawn : Sign → Bool → Held → Drawn

unfoldable pub drawn_kept : Sign → Option Held → Drawn
drawn_kept sign none = clash
drawn_kept sign (some h) = drawn sign true h

-- s, of this sign, is taken from what waits. If a kept one of its sign covers it, it is gone. Else kept ones that it covers go, it is kept, and the constraints lose what it covers.
unfoldable pub taken_if : Bool → Sign → Sample → Held → Drawn
unfolding drawn_kept tested keep side with_side sweep covers
taken_if true sign s h = drawn sign false h
taken_if false sign s h = drawn_kept sign (tested (with_side sign (keep s (side sign h.kept)) h.kept) (sweep (covers s) sign 0 h.slots h.waiting))

unfoldable pub taken : Sign → Sample → Held → Drawn
unfolding taken_if covered_by side
taken sign s h = taken_if (covered_by (side sign h.kept) s) sign s h

abbrev pub with_waiting : List Sample → List Sample → Held → Held
with_waiting ps ns h = record { kept = h.kept; waiting = record { positives = ps; negatives = ns }; slots = h.slots }

-- A draw takes the least waiting sample: positives first, then lower predicate, then sample order.
unfoldable pub draw_from : List Sample → List Sample → Held → Drawn
unfolding taken
draw_from [] [] h = idle
draw_from (s ∷ ps) ns h = taken positive s (with_waiting ps ns h)
draw_from [] (s ∷ ns) h = taken negative s (with_waiting [] ns h)

unfoldable pub draw : Held → Drawn
unfolding draw_from
draw h = draw_from h.waiting.positives h.waiting.negatives h

-- How many it kept as positive, as negative, and its draws.
pub record Counts : Type 0 where
  pub positives : ℕ
  pub negatives : ℕ
  pub draws : ℕ

abbrev pub no_counts : Counts
no_counts = record { positives = 0; negatives = 0; draws = 0 }

unfoldable pub counted : Sign → Bool → Counts → Counts
counted positive true n = record { positives = suc n.positives; negatives = n.negatives; draws = suc n.draws }
counted negative true n = record { positives = n.positives; negatives = suc n.negatives; draws = suc n.draws }
counted sign false n = record { positives = n.positives; negatives = n.negatives; draws = suc n.draws }

pub data Settled : Type 0 where
  contradicted : Settled
  settled : Held → Counts → Settled

unfoldable pub counting : Sign → Bool → Settled → Settled
unfolding counted
counting sign was_kept contradicted = contradicted
counting sign was_kept (settled h n) = settled h (counted sign was_kept n)

unfoldable pub follow : Drawn → Held → (Held → Settled) → Settled
unfolding counting
follow idle h more = settled h no_counts
follow clash h more = contradicted
follow (drawn sign was_kept g) h more = counting sign was_kept (more g)

-- At most this many draws.
unfoldable pub run : ℕ → Held → Settled
unfolding draw follow
run zero h = settled h no_counts
run (suc most) h = follow (draw h) h (λ g. run most g)

-- Waiting samples and live constraints: each draw lowers their number, so that many draws are enough.
unfoldable pub size : Held → ℕ
unfolding live_count
size h = length h.waiting.positives + length h.waiting.negatives + live_count h.slots

-- Settling draws until nothing waits.
unfoldable pub settle_held : Held → Settled
unfolding run size
settle_held h = run (size h) h

-- The call.
unfoldable pub settle_outcome : Contents → Settled → Outcome Counts
unfolding refuse with_held
settle_outcome c contradicted = refuse contradiction c
settle_outcome c (settled h n) = record { answer = done n; contents = with_held h c }

unfoldable pub settle : Contents → Outcome Counts
unfolding unless when settle_outcome settle_held
settle c = unless (when is_marked c.marked) c (settle_outcome c (settle_held c.held))
