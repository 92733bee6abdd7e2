-- Settling ends: each draw lowers the number of waiting samples and live constraints, so nothing waits after it, and its counts are those of its draws.
use mathlib.Core.Path.{◌≡◌, refl}
use mathlib.Core.Bool.{Bool, true, false}
use mathlib.Core.List.{List, [], ◌∷◌}
use mathlib.Core.Option.{Option, none, some}
use Prim.Native.Nat.{ℕ, zero, suc, ◌+◌, ◌≤◌}
use native.Mathlib.Omega.{arith}
use lib.ListN.{length}
use Rattle.rules.specs.Samples.{Sample, covers}
use Rattle.rules.specs.Sets.{covered_by, keep}
use Rattle.rules.specs.Contents.{Sign, positive, negative, Sides, side, with_side, wait_as, Constraint, Slot, modified_slot, Held, is_live, count_if, live_count}
use Rattle.rules.specs.Settling.{Fate, untouched, dropped, waits, contradicts, stays, slot_fate, Swept, broken, swept, onto, noting, turn, sweep, tested}
use Rattle.rules.specs.Settling.{Drawn, idle, clash, drawn, drawn_kept, taken_if, taken, with_waiting, draw_from, draw}
use Rattle.rules.specs.Settling.{Counts, counted, Settled, contradicted, settled, counting, follow, run, size, settle_held}
use Rattle.rules.specs.Demand3.{NothingWaits, Draws, stop, keep_positive, keep_negative, gone}
use Rattle.rules.proofs.Laws.Sets.{wait-length}
use Rattle.rules.proofs.Kept.Freeing.{tests_freed}
use Rattle.rules.proofs.Kept.AfterFreeing.{freed_count}

-- How many samples wait.
abbrev pub wait_count : Sides → ℕ
wait_count waiting = length waiting.positives + length waiting.negatives

wait_as_count : (sign : Sign) (s : Sample) (waiting : Sides) → wait_count (wait_as sign s waiting) ≤ suc (wait_count waiting)
unfolding wait_as
wait_as_count positive s waiting = omega (arith, wait-length s waiting.positives)
wait_as_count negative s waiting = omega (arith, wait-length s waiting.negatives)

-- A sweep leaves at most so many waiting samples and live constraints: a constraint that goes makes at most one sample wait.
abbrev pub SweptAtMost : ℕ → Swept → Type 0
SweptAtMost most broken = Unit
SweptAtMost most (swept waiting slots modified) = wait_count waiting + live_count slots ≤ most

at_most_up : (r : Swept) (m n : ℕ) → m ≤ n → SweptAtMost m r → SweptAtMost n r
at_most_up broken m n e h = tt
at_most_up (swept waiting slots modified) m n e h = omega arith

onto-free : (most : ℕ) (mark : Bool) (r : Swept) → SweptAtMost most r → SweptAtMost most (onto (record { lives = none; modified = mark }) r)
unfolding onto live_count
onto-free most mark broken h = tt
onto-free most mark (swept waiting slots modified) h = h

onto_live : (most : ℕ) (c : Constraint) (mark : Bool) (r : Swept) → SweptAtMost most r → SweptAtMost (suc most) (onto (record { lives = some c; modified = mark }) r)
unfolding onto live_count
onto_live most c mark broken h = tt
onto_live most c mark (swept waiting slots modified) h = omega arith

noting_at_most : (most n : ℕ) (r : Swept) → SweptAtMost most r → SweptAtMost most (noting n r)
unfolding noting
noting_at_most most n broken h = tt
noting_at_most most n (swept waiting slots modified) h = h

turn_at_most : (f : Fate) (c : Constraint) (mark : Bool) (n : ℕ) (waiting : Sides) (others : Sides → Swept) (rest : ℕ)
    → ((w : Sides) → SweptAtMost (wait_count w + rest) (others w))
    → SweptAtMost (suc (wait_count waiting + rest)) (turn f (record { lives = some c; modified = mark }) n waiting others)
unfolding turn
turn_at_most untouched c mark n waiting others rest h = onto_live (wait_count waiting + rest) c mark (others waiting) (h waiting)
turn_at_most dropped c mark n waiting others rest h =
    let most = wait_count waiting + rest in onto-free (suc most) false (others waiting) (at_most_up (others waiting) most (suc most) (omega arith) (h waiting))
turn_at_most (waits sign s) c mark n waiting others rest h =
    let most = wait_count waiting + rest in
    let more = wait_as sign s waiting in
    onto-free (suc most) false (others more) (at_most_up (others more) (wait_count more + rest) (suc most) (omega (arith, wait_as_count sign s waiting)) (h more))
turn_at_most contradicts c mark n waiting others rest h = tt
turn_at_most (stays d) c mark n waiting others rest h =
    let most = wait_count waiting + rest in noting_at_most (suc most) n (onto (modified_slot d) (others waiting)) (onto_live most d true (others waiting) (h waiting))

slot_at_most : (lost : Sample → Bool) (sign : Sign) (o : Option Constraint) (mark : Bool) (n : ℕ) (waiting : Sides) (others : Sides → Swept) (rest : ℕ)
    → ((w : Sides) → SweptAtMost (wait_count w + rest) (others w))
    → SweptAtMost (wait_count waiting + count_if (is_live o) rest) (turn (slot_fate lost sign o) (record { lives = o; modified = mark }) n waiting others)
unfolding slot_fate turn count_if is_live
slot_at_most lost sign none mark n waiting others rest h = onto-free (wait_count waiting + rest) mark (others waiting) (h waiting)
slot_at_most lost sign (some c) mark n waiting others rest h =
    let f = slot_fate lost sign (some c) in
    at_most_up (turn f (record { lives = some c; modified = mark }) n waiting others) (suc (wait_count waiting + rest)) (wait_count waiting + suc rest) (omega arith)
    (turn_at_most f c mark n waiting others rest h)

pub sweep_at_most : (lost : Sample → Bool) (sign : Sign) (n : ℕ) (slots : List Slot) (waiting : Sides)
    → SweptAtMost (wait_count waiting + live_count slots) (sweep lost sign n slots waiting)
unfolding sweep live_count
sweep_at_most lost sign n [] waiting = omega arith
sweep_at_most lost sign n (x ∷ xs) waiting =
    slot_at_most lost sign x.lives x.modified n waiting (λ w. sweep lost sign (suc n) xs w) (live_count xs) (λ w. sweep_at_most lost sign (suc n) xs w)

-- A draw.
abbrev pub DrawnLess : Held → Drawn → Type 0
DrawnLess h idle = NothingWaits h
DrawnLess h clash = Unit
DrawnLess h (drawn sign was_kept g) = suc (size g) ≤ size h

tested_less : (sign : Sign) (kept : Sides) (r : Swept) (most : ℕ) (h : Held) → SweptAtMost most r → suc most ≤ size h → DrawnLess h (drawn_kept sign (tested kept r))
unfolding drawn_kept tested size
tested_less sign kept broken most h a b = tt
tested_less sign kept (swept waiting slots modified) most h a b = omega (arith, freed_count (tests_freed modified slots))

taken_if_less : (covered : Bool) (sign : Sign) (s : Sample) (g h : Held) → suc (size g) ≤ size h → DrawnLess h (taken_if covered sign s g)
unfolding taken_if size
taken_if_less true sign s g h e = e
taken_if_less false sign s g h e =
    tested_less sign (with_side sign (keep s (side sign g.kept)) g.kept) (sweep (covers s) sign 0 g.slots g.waiting) (size g) h
    (sweep_at_most (covers s) sign 0 g.slots g.waiting) e

draw_from_less : (ps ns : List Sample) (h : Held) → DrawnLess (with_waiting ps ns h) (draw_from ps ns h)
unfolding draw_from taken size
draw_from_less [] [] h = record { positives = refl; negatives = refl }
draw_from_less (s ∷ ps) ns h = taken_if_less (covered_by (side positive h.kept) s) positive s (with_waiting ps ns h) (with_waiting (s ∷ ps) ns h) (omega arith)
draw_from_less [] (s ∷ ns) h = taken_if_less (covered_by (side negative h.kept) s) negative s (with_waiting [] ns h) (with_waiting [] (s ∷ ns) h) (omega arith)

pub draw_less : (h : Held) → DrawnLess h (draw h)
unfolding draw
draw_less h = draw_from_less h.waiting.positives h.waiting.negatives h

-- Settling.
pub record Rests (h g : Held) (n : Counts) : Type 0 where
  pub rests : NothingWaits g
  pub bound : n.draws ≤ size h
  pub counts : Draws h g n

abbrev pub SettledRests : Held → Settled → Type 0
SettledRests h contradicted = Unit
SettledRests h (settled g n) = Rests h g n

counted_draws : (sign : Sign) (was_kept : Bool) (h g e : Held) (n : Counts) → draw h ≡ drawn sign was_kept g → Draws g e n → Draws h e (counted sign was_kept n)
unfolding counted
counted_draws positive true h g e n d more = keep_positive d more
counted_draws negative true h g e n d more = keep_negative d more
counted_draws sign false h g e n d more = gone d more

counted_more : (sign : Sign) (was_kept : Bool) (n : Counts) → (counted sign was_kept n).draws ≡ suc n.draws
unfolding counted
counted_more positive true n = refl
counted_more negative true n = refl
counted_more sign false n = refl

counting_rests : (sign : Sign) (was_kept : Bool) (h g : Held) (r : Settled) → draw h ≡ drawn sign was_kept g → suc (size g) ≤ size h
    → SettledRests g r → SettledRests h (counting sign was_kept r)
unfolding counting
counting_rests sign was_kept h g contradicted d less t = tt
counting_rests sign was_kept h g (settled e n) d less t =
    record { rests = t.rests; bound = omega (arith, counted_more sign was_kept n); counts = counted_draws sign was_kept h g e n d t.counts }

follow_rests : (d : Drawn) (h : Held) (more : Held → Settled) → draw h ≡ d → DrawnLess h d
    → ((g : Held) → suc (size g) ≤ size h → SettledRests g (more g)) → SettledRests h (follow d h more)
unfolding follow
follow_rests idle h more e less t = record { rests = less; bound = omega arith; counts = stop }
follow_rests clash h more e less t = tt
follow_rests (drawn sign was_kept g) h more e less t = counting_rests sign was_kept h g (more g) e less (t g less)

no_length : (l : List Sample) → length l ≤ 0 → l ≡ []
no_length [] h = refl
no_length (s ∷ l) h = absurd (omega arith)

run_rests : (most : ℕ) (h : Held) → size h ≤ most → SettledRests h (run most h)
unfolding run size
run_rests zero h e =
    record {
      rests = record { positives = no_length h.waiting.positives (omega arith); negatives = no_length h.waiting.negatives (omega arith) };
      bound = omega arith;
      counts = stop;
    }
run_rests (suc most) h e = follow_rests (draw h) h (λ g. run most g) refl (draw_less h) (λ g less. run_rests most g (omega arith))

pub settle_held_rests : (h : Held) → SettledRests h (settle_held h)
unfolding settle_held
settle_held_rests h = run_rests (size h) h (omega arith)
