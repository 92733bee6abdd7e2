-- Settling keeps the satisfying assignments, and a contradiction has none.
use mathlib.Core.Path.{◌≡◌, refl}
use mathlib.Core.Bool.{Bool, true, false}
use mathlib.Core.List.{List, [], ◌∷◌}
use mathlib.Core.Logic.Iff
use mathlib.Core.Logic.{◌↔◌}
use Prim.Native.Nat.{ℕ, zero, suc}
use Rattle.rules.specs.Values.{Sort}
use Rattle.rules.specs.Samples.{Sample, covers}
use Rattle.rules.specs.Sets.{covered_by, keep}
use Rattle.rules.specs.Contents.{Sign, positive, negative, Sides, side, with_side, Held}
use Rattle.rules.specs.Settling.{Swept, broken, swept, sweep, tested, Drawn, idle, clash, drawn, drawn_kept, taken_if, taken, with_waiting, draw_from, draw, Settled, contradicted, settled, counting, follow, run, size, settle_held}
use Rattle.rules.specs.Satisfying.{Assignment, Satisfies, AllLive, SatisfiesSides, SatisfiesHeld}
use Rattle.rules.specs.Condition.{ValidConstraint, ValidHeld}
use Rattle.rules.proofs.Kept.ValidSettling.{DrawnValid, draw_valid}
use Rattle.rules.proofs.Same.Completions.{covered_all, satisfies_side, keep_sat}
use Rattle.rules.proofs.Same.LosingSamples.{LostAs, SweptSat, sweep_sat}
use Rattle.rules.proofs.Same.DroppingNeedless.{tests_sat}
pub use Rattle.rules.proofs.Same.Completions.{total_in, satisfies_covered, wait_sat}
pub use Rattle.rules.proofs.Same.DroppingNeedless.{test_sat}

module _ (declared : List (List Sort)) (a : Assignment) where
  abbrev pub DrawnSat : Held → Drawn → Type 0
  DrawnSat h idle = SatisfiesHeld declared a h
  DrawnSat h clash = ⊥
  DrawnSat h (drawn sign was_kept g) = SatisfiesHeld declared a g

  tested_sat : (sign : Sign) (kept : Sides) (after : Swept) (h : Held)
      → (SatisfiesSides declared a kept × SweptSat declared a after) ↔ DrawnSat h (drawn_kept sign (tested kept after))
  unfolding tested drawn_kept
  tested_sat sign kept broken h = (λ k. k.1, λ k. absurd k)
  tested_sat sign kept (swept waiting slots modified) h =
      let t = tests_sat declared a modified slots in
      (λ k. record { kept = k.0; waiting = k.1.0; constraints = t.0 k.1.1 }, λ k. (k.kept, (k.waiting, t.1 k.constraints)))

  -- s is drawn, and h is what else is held; g, where nothing waited, doesn't matter.
  taken_sat : (sign : Sign) (s : Sample) (h g : Held) → AllLive (ValidConstraint declared h.kept) h.slots
      → (Satisfies declared a sign s × SatisfiesHeld declared a h) ↔ DrawnSat g (taken sign s h)
  unfolding taken taken_if
  taken_sat sign s h g v = go (covered_by (side sign h.kept) s) refl
    where
      lost : Satisfies declared a sign s → LostAs declared a sign (covers s)
      lost k x (valid, whole) e = (total_in declared a sign x valid whole).0 (satisfies_covered declared a sign s x e k)

      kept : Sides
      kept = with_side sign (keep s (side sign h.kept)) h.kept

      after : Swept
      after = sweep (covers s) sign 0 h.slots h.waiting

      there : Satisfies declared a sign s × SatisfiesHeld declared a h → SatisfiesSides declared a kept × SweptSat declared a after
      there (k, m) =
          ((keep_sat declared a sign s h.kept).1 (k, m.kept), (sweep_sat declared a (covers s) sign h.kept (lost k) 0 h.slots h.waiting v).0 (m.waiting, m.constraints))

      back : SatisfiesSides declared a kept × SweptSat declared a after → Satisfies declared a sign s × SatisfiesHeld declared a h
      back (k, m) =
          let p = (keep_sat declared a sign s h.kept).0 k in
          let q = (sweep_sat declared a (covers s) sign h.kept (lost p.0) 0 h.slots h.waiting v).1 m in
          (p.0, record { kept = p.1; waiting = q.0; constraints = q.1 })

      go : (b : Bool) → covered_by (side sign h.kept) s ≡ b → (Satisfies declared a sign s × SatisfiesHeld declared a h) ↔ DrawnSat g (taken_if b sign s h)
      go true e = (
        λ k. k.1,
        λ k. (covered_all (Satisfies declared a sign) (satisfies_covered declared a sign) s (side sign h.kept) e (satisfies_side declared a sign h.kept k.kept), k),
      )
      go false e = Iff.trans (there, back) (tested_sat sign kept after g)

  draw_from_sat : (ps ns : List Sample) (h : Held) → AllLive (ValidConstraint declared h.kept) h.slots
      → SatisfiesHeld declared a (with_waiting ps ns h) ↔ DrawnSat (with_waiting ps ns h) (draw_from ps ns h)
  unfolding draw_from
  draw_from_sat [] [] h v = Iff.rfl
  draw_from_sat (s ∷ ps) ns h v =
      Iff.trans (
        λ k. (k.waiting.positives.0, record { kept = k.kept; waiting = record { positives = k.waiting.positives.1; negatives = k.waiting.negatives }; constraints = k.constraints }),
        λ k. record { kept = k.1.kept; waiting = record { positives = (k.0, k.1.waiting.positives); negatives = k.1.waiting.negatives }; constraints = k.1.constraints },
      )
      (taken_sat positive s (with_waiting ps ns h) (with_waiting (s ∷ ps) ns h) v)
  draw_from_sat [] (s ∷ ns) h v =
      Iff.trans (
        λ k. (k.waiting.negatives.0, record { kept = k.kept; waiting = record { positives = tt; negatives = k.waiting.negatives.1 }; constraints = k.constraints }),
        λ k. record { kept = k.1.kept; waiting = record { positives = tt; negatives = (k.0, k.1.waiting.negatives) }; constraints = k.1.constraints },
      )
      (taken_sat negative s (with_waiting [] ns h) (with_waiting [] (s ∷ ns) h) v)

  pub draw_sat : (h : Held) → ValidHeld declared h → SatisfiesHeld declared a h ↔ DrawnSat h (draw h)
  unfolding draw
  draw_sat h v = draw_from_sat h.waiting.positives h.waiting.negatives h v.constraints

  abbrev pub SettledSat : Settled → Type 0
  SettledSat contradicted = ⊥
  SettledSat (settled g n) = SatisfiesHeld declared a g

  counting_sat : (sign : Sign) (was_kept : Bool) (later : Settled) → SettledSat later ↔ SettledSat (counting sign was_kept later)
  unfolding counting
  counting_sat sign was_kept contradicted = Iff.rfl
  counting_sat sign was_kept (settled h n) = Iff.rfl

  follow_sat : (first : Drawn) (h : Held) (more : Held → Settled) → DrawnValid declared first → ((g : Held) → ValidHeld declared g → SatisfiesHeld declared a g ↔ SettledSat (more g))
      → DrawnSat h first ↔ SettledSat (follow first h more)
  unfolding follow
  follow_sat idle h more v e = Iff.rfl
  follow_sat clash h more v e = Iff.rfl
  follow_sat (drawn sign was_kept g) h more v e = Iff.trans (e g v) (counting_sat sign was_kept (more g))

  run_sat : (most : ℕ) (h : Held) → ValidHeld declared h → SatisfiesHeld declared a h ↔ SettledSat (run most h)
  unfolding run
  run_sat zero h v = Iff.rfl
  run_sat (suc most) h v = Iff.trans (draw_sat h v) (follow_sat (draw h) h (λ g. run most g) (draw_valid declared h v) (λ g w. run_sat most g w))

  pub settle_held_sat : (h : Held) → ValidHeld declared h → SatisfiesHeld declared a h ↔ SettledSat (settle_held h)
  unfolding settle_held
  settle_held_sat h v = run_sat (size h) h v
