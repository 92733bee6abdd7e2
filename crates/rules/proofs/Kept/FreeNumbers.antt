-- Settling never makes more constraints live, so where a number was free before it, the lowest free one after it is below 128.
use mathlib.Core.Path.{◌≡◌, refl, ap}
use mathlib.Core.Bool.{Bool, true, false, cond}
use mathlib.Core.List.{List, [], ◌∷◌}
use mathlib.Core.Option.{Option, none, some}
use Prim.Native.Nat.{ℕ, suc, ◌≤◌, ◌<◌}
use native.Mathlib.Omega.{arith}
use lib.ListN.{length}
use Rattle.rules.specs.Samples.{Sample, covers}
use Rattle.rules.specs.Sets.{covered_by, keep}
use Rattle.rules.specs.Contents.{Sign, positive, negative, Sides, side, with_side, wait_as, Constraint, Slot, free, modified_slot, Held, is_live, count_if, live_count}
use Rattle.rules.specs.Redundancy.{lives_at}
use Rattle.rules.specs.Settling.{Fate, untouched, dropped, waits, contradicts, stays, slot_fate, Swept, broken, swept, onto, noting, turn, sweep, tested}
use Rattle.rules.specs.Settling.{drawn_kept, taken_if, taken, with_waiting, draw_from, draw}
use Rattle.rules.specs.Settling.{settle_held}
use Rattle.rules.specs.Adding.{lowest_free}
use Rattle.rules.proofs.Laws.Bools.{both}
use Rattle.rules.proofs.Kept.Freeing.{tests_freed}
use Rattle.rules.proofs.Kept.AfterFreeing.{freed_count}
use Rattle.rules.proofs.Kept.EachDraw.{AfterDraw, AfterSettling, settle_held_keeps}

-- y stands where x stood, and lives only if x did.
count_step : (x y : Slot) (xs ys : List Slot) → (is_live y.lives ≡ true → is_live x.lives ≡ true) → live_count ys ≤ live_count xs
    → live_count (y ∷ ys) ≤ live_count (x ∷ xs)
unfolding live_count
count_step x y xs ys f h = go (is_live x.lives) (is_live y.lives) f
  where
    go : (b c : Bool) → (c ≡ true → b ≡ true) → count_if c (live_count ys) ≤ count_if b (live_count xs)
    go true true g = omega arith
    go true false g = omega arith
    go false true g = both (g refl) refl
    go false false g = h

free_step : (x : Slot) (xs ys : List Slot) → live_count ys ≤ live_count xs → live_count (free ∷ ys) ≤ live_count (x ∷ xs)
unfolding is_live
free_step x xs ys h = count_step x free xs ys (λ e. both e refl) h

same_step : (x : Slot) (xs ys : List Slot) → live_count ys ≤ live_count xs → live_count (x ∷ ys) ≤ live_count (x ∷ xs)
same_step x xs ys h = count_step x x xs ys (λ e. e) h

-- A sweep keeps a number in use or frees it.
abbrev pub SweptCount : ℕ → Swept → Type 0
SweptCount most broken = Unit
SweptCount most (swept waiting slots modified) = live_count slots ≤ most

onto_count : (x y : Slot) (xs : List Slot) (r : Swept) → (is_live y.lives ≡ true → is_live x.lives ≡ true) → SweptCount (live_count xs) r
    → SweptCount (live_count (x ∷ xs)) (onto y r)
unfolding onto
onto_count x y xs broken f h = tt
onto_count x y xs (swept waiting slots modified) f h = count_step x y xs slots f h

noting_count : (n most : ℕ) (r : Swept) → SweptCount most r → SweptCount most (noting n r)
unfolding noting
noting_count n most broken h = h
noting_count n most (swept waiting slots modified) h = h

turn_count : (f : Fate) (x : Slot) (xs : List Slot) (n : ℕ) (waiting : Sides) (others : Sides → Swept) → is_live x.lives ≡ true
    → ((w : Sides) → SweptCount (live_count xs) (others w)) → SweptCount (live_count (x ∷ xs)) (turn f x n waiting others)
unfolding turn
turn_count untouched x xs n waiting others e h = onto_count x x xs (others waiting) (λ d. e) (h waiting)
turn_count dropped x xs n waiting others e h = onto_count x free xs (others waiting) (λ d. e) (h waiting)
turn_count (waits sign s) x xs n waiting others e h = onto_count x free xs (others (wait_as sign s waiting)) (λ d. e) (h (wait_as sign s waiting))
turn_count contradicts x xs n waiting others e h = tt
turn_count (stays c) x xs n waiting others e h =
    noting_count n (live_count (x ∷ xs)) (onto (modified_slot c) (others waiting)) (onto_count x (modified_slot c) xs (others waiting) (λ d. e) (h waiting))

pub sweep_count : (lost : Sample → Bool) (sign : Sign) (n : ℕ) (slots : List Slot) (waiting : Sides) → SweptCount (live_count slots) (sweep lost sign n slots waiting)
unfolding sweep is_live
sweep_count lost sign n [] waiting = omega arith
sweep_count lost sign n (x ∷ xs) waiting = go x.lives refl (sweep_count lost sign (suc n) xs)
  where
    go : (o : Option Constraint) → x.lives ≡ o → ((w : Sides) → SweptCount (live_count xs) (sweep lost sign (suc n) xs w))
        → SweptCount (live_count (x ∷ xs)) (turn (slot_fate lost sign o) x n waiting (λ w. sweep lost sign (suc n) xs w))
    go none e h = onto_count x x xs (sweep lost sign (suc n) xs waiting) (λ d. d) (h waiting)
    go (some c) e h = turn_count (slot_fate lost sign (some c)) x xs n waiting (λ w. sweep lost sign (suc n) xs w) (ap is_live e) h

-- So does a draw.
abbrev pub AtMostLive : ℕ → Held → Type 0
AtMostLive most h = live_count h.slots ≤ most

tested_count : (most : ℕ) (sign : Sign) (kept : Sides) (r : Swept) → SweptCount most r → AfterDraw (AtMostLive most) (drawn_kept sign (tested kept r))
unfolding drawn_kept tested
tested_count most sign kept broken h = tt
tested_count most sign kept (swept waiting slots modified) h = omega (arith, freed_count (tests_freed modified slots))

taken_count : (most : ℕ) (sign : Sign) (s : Sample) (h : Held) → AtMostLive most h → AfterDraw (AtMostLive most) (taken sign s h)
unfolding taken
taken_count most sign s h l = go (covered_by (side sign h.kept) s)
  where
    more : (r : Swept) → SweptCount (live_count h.slots) r → SweptCount most r
    more broken k = tt
    more (swept waiting slots modified) k = omega arith

    go : (b : Bool) → AfterDraw (AtMostLive most) (taken_if b sign s h)
    go true = l
    go false =
        let r = sweep (covers s) sign 0 h.slots h.waiting in
        tested_count most sign (with_side sign (keep s (side sign h.kept)) h.kept) r (more r (sweep_count (covers s) sign 0 h.slots h.waiting))

draw_from_count : (most : ℕ) (ps ns : List Sample) (h : Held) → AtMostLive most h → AfterDraw (AtMostLive most) (draw_from ps ns h)
unfolding draw_from
draw_from_count most [] [] h l = tt
draw_from_count most (s ∷ ps) ns h l = taken_count most positive s (with_waiting ps ns h) l
draw_from_count most [] (s ∷ ns) h l = taken_count most negative s (with_waiting [] ns h) l

pub draw_count : (most : ℕ) (h : Held) → AtMostLive most h → AfterDraw (AtMostLive most) (draw h)
unfolding draw
draw_count most h l = draw_from_count most h.waiting.positives h.waiting.negatives h l

pub settle_held_count : (most : ℕ) (h : Held) → AtMostLive most h → AfterSettling (AtMostLive most) (settle_held h)
settle_held_count most h l = settle_held_keeps (AtMostLive most) (draw_count most) h l

-- Nothing lives at the lowest free number, and it is a number of the list if not all of them are in use.
pub lowest_free-free : (slots : List Slot) → lives_at (lowest_free slots) slots ≡ none
unfolding lowest_free lives_at
lowest_free-free [] = refl
lowest_free-free (x ∷ xs) = go x.lives refl (lowest_free-free xs)
  where
    go : (o : Option Constraint) → x.lives ≡ o → lives_at (lowest_free xs) xs ≡ none → lives_at (cond (is_live o) (suc (lowest_free xs)) 0) (x ∷ xs) ≡ none
    go none e r = e
    go (some c) e r = r

pub lowest_free_room : (slots : List Slot) → live_count slots < length slots → lowest_free slots < length slots
unfolding lowest_free live_count
lowest_free_room [] h = h
lowest_free_room (x ∷ xs) h = go (is_live x.lives) h (lowest_free_room xs)
  where
    go : (b : Bool) → count_if b (live_count xs) < suc (length xs) → (live_count xs < length xs → lowest_free xs < length xs) → cond b (suc (lowest_free xs)) 0 < suc (length xs)
    go true l r = omega (arith, r (omega arith))
    go false l r = omega arith
