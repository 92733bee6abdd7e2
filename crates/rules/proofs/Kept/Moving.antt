-- Settling and force only move samples: what is held after them was held before.
use mathlib.Core.Path.{◌≡◌, refl}
use mathlib.Core.Bool.{Bool, true, false}
use mathlib.Core.List.{List, [], ◌∷◌, ◌++◌}
use mathlib.Core.Option.{Option, none, some}
use mathlib.Core.Logic.{◌↔◌, ◌⊎◌, inl, inr, ⊎_elim, ⊎_map}
use Prim.Native.Nat.{ℕ, suc, ◌≤◌}
use lib.ListN.{length}
use Rattle.rules.specs.Samples.{Sample, covers}
use Rattle.rules.specs.Sets.{any, without, covered_by, keep}
use Rattle.rules.specs.Waiting.{wait}
use Rattle.rules.specs.Contents.{Sign, positive, negative, Sides, side, with_side, wait_as, Constraint, Slot, free, modified_slot, Held}
use Rattle.rules.specs.Contents.{right_samples, samples_of, slot_samples, in_constraints, in_sides, held_samples}
use Rattle.rules.specs.Redundancy.{test, tests}
use Rattle.rules.specs.Settling.{Fate, untouched, dropped, waits, contradicts, stays, remaining, judged, right_goes, right_after, fate, slot_fate}
use Rattle.rules.specs.Settling.{Swept, broken, swept, onto, noting, turn, sweep, tested}
use Rattle.rules.specs.Settling.{Drawn, idle, clash, drawn, drawn_kept, taken_if, taken, with_waiting, draw_from, draw}
use Rattle.rules.specs.Settling.{Settled, settle_held}
use Rattle.rules.specs.Forcing.{names, sign_of, cleared, losses}
use Rattle.rules.specs.Condition.{Mem, Rising}
use Rattle.rules.proofs.Laws.Bools.{by_test}
use Rattle.rules.proofs.Laws.Sets.{without_mem, append_mem, include_all_mem, keep_mem, wait_mem, include_all_rising, rising_length}
use Rattle.rules.proofs.Kept.Freeing.{test_freed, tests_freed}
use Rattle.rules.proofs.Kept.AfterFreeing.{not_some, freed_samples}
use Rattle.rules.proofs.Kept.EachDraw.{AfterDraw, AfterSettling, settle_held_keeps}

-- A sample that is kept, waiting or in a live constraint.
abbrev pub HeldIn : Sample → Held → Type 0
HeldIn x h = Mem x (in_sides h.kept) ⊎ (Mem x (in_sides h.waiting) ⊎ Mem x (in_constraints h.slots))

pub held_mem : (x : Sample) (h : Held) → Mem x (held_samples h) ↔ HeldIn x h
unfolding held_samples
held_mem x h =
    let kept = in_sides h.kept in
    let waiting = in_sides h.waiting in
    let live = in_constraints h.slots in
    let all = include_all_mem (kept ++ (waiting ++ live)) [] x in
    let outer = append_mem kept (waiting ++ live) x in
    let inner = append_mem waiting live x in (
      λ m. ⊎_elim (λ k. ⊎_map (λ j. j) inner.0 (outer.0 k)) (λ k. absurd k) (all.0 m),
      λ m. all.1 (inl (outer.1 (⊎_map (λ j. j) inner.1 m))),
    )

-- Everything held in g is held in h.
abbrev pub Within : Held → Held → Type 0
Within h g = (x : Sample) → HeldIn x g → HeldIn x h

pub within_length : (h g : Held) → Within h g → length (held_samples g) ≤ length (held_samples h)
unfolding held_samples
within_length h g w = rising_length (held_samples g) (held_samples h) (rising g) (rising h) (λ x m. (held_mem x h).1 (w x ((held_mem x g).0 m)))
  where
    rising : (f : Held) → Rising (held_samples f)
    rising f = include_all_rising (in_sides f.kept ++ (in_sides f.waiting ++ in_constraints f.slots)) [] tt

-- Tests only drop constraints.
pub tests_within : (ns : List ℕ) (slots : List Slot) (x : Sample) → Mem x (in_constraints (tests ns slots)) → Mem x (in_constraints slots)
tests_within ns slots x m = freed_samples (tests_freed ns slots) x m

pub test_within : (n : ℕ) (slots : List Slot) (x : Sample) → Mem x (in_constraints (test n slots)) → Mem x (in_constraints slots)
test_within n slots x m = freed_samples (test_freed n slots) x m

-- What holds of each sample that waits or is in a live constraint holds of each one after a sweep.
abbrev pub Each : (Sample → Type 0) → List Sample → Type 0
Each P l = (x : Sample) → Mem x l → P x

each_append : (P : Sample → Type 0) (l m : List Sample) → Each P l → Each P m → Each P (l ++ m)
each_append P l m f g x k = ⊎_elim (f x) (g x) ((append_mem l m x).0 k)

each_first : (P : Sample → Type 0) (l m : List Sample) → Each P (l ++ m) → Each P l
each_first P l m f x k = f x ((append_mem l m x).1 (inl k))

each_second : (P : Sample → Type 0) (l m : List Sample) → Each P (l ++ m) → Each P m
each_second P l m f x k = f x ((append_mem l m x).1 (inr k))

abbrev pub FateEach : (Sample → Type 0) → Fate → Type 0
FateEach P untouched = Unit
FateEach P dropped = Unit
FateEach P (waits sign s) = P s
FateEach P contradicts = Unit
FateEach P (stays c) = Each P (samples_of c)

abbrev pub SweptEach : (Sample → Type 0) → Swept → Type 0
SweptEach P broken = Unit
SweptEach P (swept waiting slots modified) = Each P (in_sides waiting) × Each P (in_constraints slots)

module _ (P : Sample → Type 0) where
  remaining_each : (l : List Sample) (r : Option Sample) → Each P l → Each P (right_samples r) → FateEach P (remaining l r)
  unfolding remaining samples_of right_samples
  remaining_each [] none f g = tt
  remaining_each [] (some q) f g = g q (inl refl)
  remaining_each (s ∷ []) none f g = f s (inl refl)
  remaining_each (s ∷ []) (some q) f g = each_append P (s ∷ []) (q ∷ []) f g
  remaining_each (s ∷ t ∷ l) r f g = each_append P (s ∷ t ∷ l) (right_samples r) f g

  judged_each : (sign : Sign) (l r : Bool) (rest : Fate) → FateEach P rest → FateEach P (judged sign l r rest)
  unfolding judged
  judged_each sign false false rest f = tt
  judged_each negative true r rest f = tt
  judged_each positive true true rest f = tt
  judged_each positive true false rest f = f
  judged_each positive false true rest f = tt
  judged_each negative false true rest f = f

  right_after_each : (lost : Sample → Bool) (r : Option Sample) → Each P (right_samples r) → Each P (right_samples (right_after lost r))
  unfolding right_after right_samples
  right_after_each lost none f = f
  right_after_each lost (some q) f = by_test (λ r. Each P (right_samples r)) (lost q) (λ e x m. absurd m) (λ e. f)

  slot_fate_each : (lost : Sample → Bool) (sign : Sign) (o : Option Constraint) → Each P (slot_samples o) → FateEach P (slot_fate lost sign o)
  unfolding slot_fate fate slot_samples samples_of
  slot_fate_each lost sign none f = tt
  slot_fate_each lost sign (some c) f =
      let left = each_first P c.left (right_samples c.right) f in
      let right = each_second P c.left (right_samples c.right) f in
      judged_each sign (any lost c.left) (right_goes lost c.right) (remaining (without lost c.left) (right_after lost c.right))
      (remaining_each (without lost c.left) (right_after lost c.right) (λ x m. left x ((without_mem lost c.left x).0 m).0) (right_after_each lost c.right right))

  onto_each : (x : Slot) (r : Swept) → Each P (slot_samples x.lives) → SweptEach P r → SweptEach P (onto x r)
  unfolding onto in_constraints
  onto_each x broken f g = tt
  onto_each x (swept waiting slots modified) f g = (g.0, each_append P (slot_samples x.lives) (in_constraints slots) f g.1)

  noting_each : (n : ℕ) (r : Swept) → SweptEach P r → SweptEach P (noting n r)
  unfolding noting
  noting_each n broken f = tt
  noting_each n (swept waiting slots modified) f = f

  side_each : (sign : Sign) (x : Sides) → Each P (in_sides x) → Each P (side sign x)
  unfolding side in_sides
  side_each positive x f = each_first P x.positives x.negatives f
  side_each negative x f = each_second P x.positives x.negatives f

  with_side_each : (sign : Sign) (l : List Sample) (x : Sides) → Each P l → Each P (in_sides x) → Each P (in_sides (with_side sign l x))
  unfolding with_side in_sides
  with_side_each positive l x f g = each_append P l x.negatives f (each_second P x.positives x.negatives g)
  with_side_each negative l x f g = each_append P x.positives l (each_first P x.positives x.negatives g) f

  keep_each : (sign : Sign) (s : Sample) (x : Sides) → P s → Each P (in_sides x) → Each P (in_sides (with_side sign (keep s (side sign x)) x))
  keep_each sign s x p f =
      let old = side_each sign x f in
      with_side_each sign (keep s (side sign x)) x (λ y m. ⊎_elim (λ e. rw e p) (λ k. old y k.0) ((keep_mem s (side sign x) y).0 m)) f

  wait_as_each : (sign : Sign) (s : Sample) (waiting : Sides) → P s → Each P (in_sides waiting) → Each P (in_sides (wait_as sign s waiting))
  unfolding wait_as
  wait_as_each sign s waiting p f =
      let old = side_each sign waiting f in
      with_side_each sign (wait s (side sign waiting)) waiting (λ y m. ⊎_elim (λ e. rw e p) (old y) (wait_mem s (side sign waiting) y m)) f

  turn_each : (f : Fate) (x : Slot) (n : ℕ) (waiting : Sides) (others : Sides → Swept) → FateEach P f → Each P (slot_samples x.lives) → Each P (in_sides waiting)
      → ((w : Sides) → Each P (in_sides w) → SweptEach P (others w)) → SweptEach P (turn f x n waiting others)
  unfolding turn slot_samples
  turn_each untouched x n waiting others p q w h = onto_each x (others waiting) q (h waiting w)
  turn_each dropped x n waiting others p q w h = onto_each free (others waiting) (λ s m. absurd m) (h waiting w)
  turn_each (waits sign s) x n waiting others p q w h =
      let more = wait_as sign s waiting in onto_each free (others more) (λ t m. absurd m) (h more (wait_as_each sign s waiting p w))
  turn_each contradicts x n waiting others p q w h = tt
  turn_each (stays c) x n waiting others p q w h = noting_each n (onto (modified_slot c) (others waiting)) (onto_each (modified_slot c) (others waiting) p (h waiting w))

  pub sweep_each : (lost : Sample → Bool) (sign : Sign) (n : ℕ) (slots : List Slot) (waiting : Sides)
      → Each P (in_constraints slots) → Each P (in_sides waiting) → SweptEach P (sweep lost sign n slots waiting)
  unfolding sweep in_constraints
  sweep_each lost sign n [] waiting f w = (w, f)
  sweep_each lost sign n (x ∷ xs) waiting f w =
      let here = each_first P (slot_samples x.lives) (in_constraints xs) f in
      let later = each_second P (slot_samples x.lives) (in_constraints xs) f in
      turn_each (slot_fate lost sign x.lives) x n waiting (λ v. sweep lost sign (suc n) xs v) (slot_fate_each lost sign x.lives here) here w
      (λ v. sweep_each lost sign (suc n) xs v later)

  pub tested_each : (kept : Sides) (r : Swept) (g : Held) → Each P (in_sides kept) → SweptEach P r → tested kept r ≡ some g → (x : Sample) → HeldIn x g → P x
  unfolding tested
  tested_each kept broken g f s e = not_some e
  tested_each kept (swept waiting slots modified) g f s e =
      let is_g : record { kept = kept; waiting = waiting; slots = tests modified slots } ≡ g = cc in
      rw (← is_g) (λ x m. ⊎_elim (f x) (⊎_elim (s.0 x) (λ k. s.1 x (tests_within modified slots x k))) m)

-- The losses of a draw or a force: where every sample of the new kept set was held, so was everything that is held afterwards.
pub tested_within : (lost : Sample → Bool) (sign : Sign) (kept : Sides) (e h g : Held) → Within e h → Each (λ x. HeldIn x e) (in_sides kept)
    → tested kept (sweep lost sign 0 h.slots h.waiting) ≡ some g → Within e g
tested_within lost sign kept e h g w f t =
    tested_each (λ x. HeldIn x e) kept (sweep lost sign 0 h.slots h.waiting) g f
    (sweep_each (λ x. HeldIn x e) lost sign 0 h.slots h.waiting (λ x m. w x (inr (inr m))) (λ x m. w x (inr (inl m)))) t

-- A draw.
abbrev pub DrawnWithin : Held → Drawn → Type 0
DrawnWithin h d = AfterDraw (Within h) d

drawn_kept_within : (sign : Sign) (h : Held) (o : Option Held) → ((g : Held) → o ≡ some g → Within h g) → DrawnWithin h (drawn_kept sign o)
unfolding drawn_kept
drawn_kept_within sign h none f = tt
drawn_kept_within sign h (some g) f = f g refl

taken_if_within : (covered : Bool) (sign : Sign) (s : Sample) (e h : Held) → HeldIn s e → Within e h → DrawnWithin e (taken_if covered sign s h)
unfolding taken_if
taken_if_within true sign s e h p w = w
taken_if_within false sign s e h p w =
    let kept = with_side sign (keep s (side sign h.kept)) h.kept in
    drawn_kept_within sign e (tested kept (sweep (covers s) sign 0 h.slots h.waiting))
    (λ g t. tested_within (covers s) sign kept e h g w (keep_each (λ x. HeldIn x e) sign s h.kept p (λ x m. w x (inl m))) t)

fewer_waiting : (ps ns qs ms : List Sample) (h : Held) → ((x : Sample) → Mem x qs → Mem x ps) → ((x : Sample) → Mem x ms → Mem x ns)
    → Within (with_waiting ps ns h) (with_waiting qs ms h)
unfolding in_sides
fewer_waiting ps ns qs ms h f g x = ⊎_map (λ m. m) (⊎_map (λ m. (append_mem ps ns x).1 (⊎_map (f x) (g x) ((append_mem qs ms x).0 m))) (λ m. m))

draw_from_within : (ps ns : List Sample) (h : Held) → DrawnWithin (with_waiting ps ns h) (draw_from ps ns h)
unfolding draw_from taken in_sides
draw_from_within [] [] h = tt
draw_from_within (s ∷ ps) ns h =
    taken_if_within (covered_by (side positive h.kept) s) positive s (with_waiting (s ∷ ps) ns h) (with_waiting ps ns h)
    (inr (inl ((append_mem (s ∷ ps) ns s).1 (inl (inl refl))))) (fewer_waiting (s ∷ ps) ns ps ns h (λ x m. inr m) (λ x m. m))
draw_from_within [] (s ∷ ns) h =
    taken_if_within (covered_by (side negative h.kept) s) negative s (with_waiting [] (s ∷ ns) h) (with_waiting [] ns h)
    (inr (inl ((append_mem [] (s ∷ ns) s).1 (inr (inl refl))))) (fewer_waiting [] (s ∷ ns) [] ns h (λ x m. m) (λ x m. inr m))

pub draw_within : (h : Held) → DrawnWithin h (draw h)
unfolding draw
draw_within h = draw_from_within h.waiting.positives h.waiting.negatives h

-- Settling.
abbrev pub SettledWithin : Held → Settled → Type 0
SettledWithin h r = AfterSettling (Within h) r

pub settle_held_within : (h : Held) → SettledWithin h (settle_held h)
settle_held_within h = settle_held_keeps (Within h) (λ g w. onward g w (draw g) (draw_within g)) h (λ x m. m)
  where
    onward : (g : Held) → Within h g → (d : Drawn) → DrawnWithin g d → DrawnWithin h d
    onward g w idle v = tt
    onward g w clash v = tt
    onward g w (drawn sign was_kept k) v = λ x m. w x (v x m)

-- The losses of a force.
pub cleared_kept : (p : ℕ) (kept : Sides) (x : Sample) → Mem x (in_sides (cleared p kept)) → Mem x (in_sides kept)
unfolding cleared in_sides
cleared_kept p kept x m =
    (append_mem kept.positives kept.negatives x).1
    (⊎_map (λ k. ((without_mem (names p) kept.positives x).0 k).0) (λ k. ((without_mem (names p) kept.negatives x).0 k).0)
    ((append_mem (without (names p) kept.positives) (without (names p) kept.negatives) x).0 m))

pub losses_within : (p : ℕ) (value : Bool) (h g : Held) → losses p value h ≡ some g → Within h g
unfolding losses
losses_within p value h g e = tested_within (names p) (sign_of value) (cleared p h.kept) h h g (λ x m. m) (λ x m. inl (cleared_kept p h.kept x m)) e
