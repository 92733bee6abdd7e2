-- Settling and the losses of a force keep the condition on what is held.
use mathlib.Core.Path.{◌≡◌, refl, ◌∙◌}
use mathlib.Core.Bool.{Bool, true, false}
use mathlib.Core.List.{List, [], ◌∷◌}
use mathlib.Core.Option.{Option, none, some}
use Prim.Native.Nat.{ℕ}
use lib.ListN.{length}
use Rattle.rules.specs.Sizes.{max_constraints}
use Rattle.rules.specs.Values.{Sort}
use Rattle.rules.specs.Samples.{Sample, valid_sample, covers}
use Rattle.rules.specs.Sets.{without, covered_by, keep}
use Rattle.rules.specs.Contents.{Sign, positive, negative, Sides, side, with_side, Constraint, Slot, Held}
use Rattle.rules.specs.Redundancy.{test, tests}
use Rattle.rules.specs.Settling.{Swept, broken, swept, sweep, tested, Drawn, drawn_kept, taken_if, taken, with_waiting, draw_from, draw}
use Rattle.rules.specs.Settling.{Settled, settle_held}
use Rattle.rules.specs.Forcing.{names, sign_of, cleared, losses}
use Rattle.rules.specs.Satisfying.{AllLive}
use Rattle.rules.specs.Condition.{ValidSet, ValidConstraint, MarkedLive, Irredundant, ValidHeld}
use Rattle.rules.proofs.Laws.Sets.{without_mem}
use Rattle.rules.proofs.Kept.Irredundant.{tested_irredundant}
use Rattle.rules.proofs.Kept.ValidSets.{any_part, keep_uncovered, with_side_lem, keep_valid, without_valid, rest_valid}
use Rattle.rules.proofs.Kept.Freeing.{freed_live, freed_marks, freed_length, test_freed, tests_freed}
use Rattle.rules.proofs.Kept.EachDraw.{AfterDraw, AfterSettling, settle_held_keeps}
use Rattle.rules.proofs.Kept.ValidSweeping.{StaysUncovered, SweptValid, sweep_valid}
-- A sample that waits, where the set was valid.
pub use Rattle.rules.proofs.Kept.ValidSets.{wait_valid}

-- Tests of redundancy only drop constraints, with their marks.
pub test_live : (P : Constraint → Type 0) (n : ℕ) (slots : List Slot) → AllLive P slots → AllLive P (test n slots)
test_live P n slots a = freed_live P (test_freed n slots) a

pub test_marks : (n : ℕ) (slots : List Slot) → MarkedLive slots → MarkedLive (test n slots)
test_marks n slots m = freed_marks (test_freed n slots) m

pub test-length : (n : ℕ) (slots : List Slot) → length (test n slots) ≡ length slots
test-length n slots = freed_length (test_freed n slots)

abbrev pub DrawnValid : List (List Sort) → Drawn → Type 0
DrawnValid declared d = AfterDraw (ValidHeld declared) d

abbrev pub SettledValid : List (List Sort) → Settled → Type 0
SettledValid declared r = AfterSettling (ValidHeld declared) r

-- After losses: a contradiction, or what is held is valid.
abbrev pub IfHeld : (Held → Type 0) → Option Held → Type 0
IfHeld P none = Unit
IfHeld P (some h) = P h

-- A sample that the drawn one does not cover is covered no more than before.
keep_stays : (sign : Sign) (s : Sample) (kept : Sides) → StaysUncovered (covers s) kept (with_side sign (keep s (side sign kept)) kept)
keep_stays sign s kept x c n = with_side_lem (λ l. covered_by l x ≡ false) sign (keep s (side sign kept)) kept (keep_uncovered s (side sign kept) x (n sign) c) n

-- A force only clears kept samples, the same way on both sides.
cleared-side : (p : ℕ) (kept : Sides) (g : Sign) → side g (cleared p kept) ≡ without (names p) (side g kept)
unfolding side cleared
cleared-side p kept positive = refl
cleared-side p kept negative = refl

cleared_stays : (p : ℕ) (kept : Sides) → StaysUncovered (names p) kept (cleared p kept)
unfolding covered_by
cleared_stays p kept x c n g =
    rw (cleared-side p kept g)
    (any_part (λ k. covers k x) (side g kept) (without (names p) (side g kept)) (λ y m. ((without_mem (names p) (side g kept) y).0 m).0) (n g))

module _ (declared : List (List Sort)) where
  -- Other sets wait.
  pub waiting_valid : (h : Held) (w : Sides) → ((g : Sign) → ValidSet declared (side g w)) → ValidHeld declared h
      → ValidHeld declared (record { kept = h.kept; waiting = w; slots = h.slots })
  waiting_valid h w f v =
      record { kept = v.kept; waiting = f; constraints = v.constraints; irredundant = v.irredundant; marks = v.marks; numbers = v.numbers }

  tested_valid : (now : Sides) (n : ℕ) (w : Swept) → n ≡ max_constraints → ((g : Sign) → ValidSet declared (side g now)) → SweptValid declared now n w
      → ((g : Held) → tested now w ≡ some g → Irredundant g.slots) → IfHeld (ValidHeld declared) (tested now w)
  unfolding tested
  tested_valid now n broken e k r i = tt
  tested_valid now n (swept waiting slots modified) e k r i =
      let f = tests_freed modified slots in
      record {
        kept = k;
        waiting = r.waits;
        constraints = freed_live (ValidConstraint declared now) f r.constraints;
        irredundant = i (record { kept = now; waiting = waiting; slots = tests modified slots }) refl;
        marks = freed_marks f r.marks;
        numbers = freed_length f ∙ r.numbers ∙ e;
      }

  -- The losses of a draw or a force, and the tests after them.
  pub lost_valid : (lost : Sample → Bool) (sign : Sign) (h : Held) (now : Sides) → StaysUncovered lost h.kept now → ((g : Sign) → ValidSet declared (side g now))
      → ValidHeld declared h → IfHeld (ValidHeld declared) (tested now (sweep lost sign 0 h.slots h.waiting))
  lost_valid lost sign h now step k v =
      tested_valid now (length h.slots) (sweep lost sign 0 h.slots h.waiting) v.numbers k
      (sweep_valid declared lost h.kept now step sign 0 h.slots h.waiting v.constraints v.marks v.waiting)
      (λ g. tested_irredundant lost sign h.slots now h.waiting g v.irredundant)

  drawn_kept_valid : (sign : Sign) (o : Option Held) → IfHeld (ValidHeld declared) o → DrawnValid declared (drawn_kept sign o)
  unfolding drawn_kept
  drawn_kept_valid sign none v = tt
  drawn_kept_valid sign (some g) v = v

  taken_if_valid : (b : Bool) (sign : Sign) (s : Sample) (h : Held) → covered_by (side sign h.kept) s ≡ b → valid_sample declared s ≡ true → ValidHeld declared h
      → DrawnValid declared (taken_if b sign s h)
  unfolding taken_if
  taken_if_valid true sign s h e p v = v
  taken_if_valid false sign s h e p v =
      let own = keep s (side sign h.kept) in
      let now = with_side sign own h.kept in
      drawn_kept_valid sign (tested now (sweep (covers s) sign 0 h.slots h.waiting))
      (lost_valid (covers s) sign h now (keep_stays sign s h.kept)
      (with_side_lem (ValidSet declared) sign own h.kept (keep_valid declared s (side sign h.kept) p e (v.kept sign)) v.kept) v)

  taken_valid : (sign : Sign) (s : Sample) (h : Held) → valid_sample declared s ≡ true → ValidHeld declared h → DrawnValid declared (taken sign s h)
  unfolding taken
  taken_valid sign s h = taken_if_valid (covered_by (side sign h.kept) s) sign s h refl

  -- The least waiting sample of a sign is taken.
  first_valid : (sign : Sign) (s : Sample) (l : List Sample) (h : Held) → side sign h.waiting ≡ s ∷ l → ValidHeld declared h
      → DrawnValid declared (taken sign s (record { kept = h.kept; waiting = with_side sign l h.waiting; slots = h.slots }))
  first_valid sign s l h e v =
      let all : ValidSet declared (s ∷ l) = rw e at (v.waiting sign) in
      let others = with_side sign l h.waiting in
      taken_valid sign s (record { kept = h.kept; waiting = others; slots = h.slots }) all.valid.0
      (waiting_valid h others (with_side_lem (ValidSet declared) sign l h.waiting (rest_valid declared s l all) v.waiting) v)

  draw_from_valid : (ps ns : List Sample) (h : Held) → ValidHeld declared (with_waiting ps ns h) → DrawnValid declared (draw_from ps ns h)
  unfolding draw_from side with_side
  draw_from_valid [] [] h v = tt
  draw_from_valid (s ∷ ps) ns h v = first_valid positive s ps (with_waiting (s ∷ ps) ns h) refl v
  draw_from_valid [] (s ∷ ns) h v = first_valid negative s ns (with_waiting [] (s ∷ ns) h) refl v

pub draw_valid : (declared : List (List Sort)) (h : Held) → ValidHeld declared h → DrawnValid declared (draw h)
unfolding draw
draw_valid declared h v = draw_from_valid declared h.waiting.positives h.waiting.negatives h v

pub settle_held_valid : (declared : List (List Sort)) (h : Held) → ValidHeld declared h → SettledValid declared (settle_held h)
settle_held_valid declared h v = settle_held_keeps (ValidHeld declared) (draw_valid declared) h v

pub losses_valid : (declared : List (List Sort)) (p : ℕ) (value : Bool) (h g : Held) → ValidHeld declared h → losses p value h ≡ some g → ValidHeld declared g
unfolding losses
losses_valid declared p value h g v e =
    let r = lost_valid declared (names p) (sign_of value) h (cleared p h.kept) (cleared_stays p h.kept)
    (λ k. rw (cleared-side p h.kept k) (without_valid declared (names p) (side k h.kept) (v.kept k))) v in
    rw e at r
