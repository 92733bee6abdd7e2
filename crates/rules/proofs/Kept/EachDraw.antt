-- What each draw keeps, settling keeps.
use mathlib.Core.Bool.{Bool}
use Prim.Native.Nat.{ℕ, zero, suc}
use Rattle.rules.specs.Contents.{Sign, Held}
use Rattle.rules.specs.Settling.{Drawn, idle, clash, drawn, draw, Settled, contradicted, settled, counting, follow, run, size, settle_held}

abbrev pub AfterDraw : (Held → Type 0) → Drawn → Type 0
AfterDraw P idle = Unit
AfterDraw P clash = Unit
AfterDraw P (drawn sign was_kept g) = P g

abbrev pub AfterSettling : (Held → Type 0) → Settled → Type 0
AfterSettling P contradicted = Unit
AfterSettling P (settled g n) = P g

module _ (P : Held → Type 0) where
  counting_keeps : (sign : Sign) (was_kept : Bool) (r : Settled) → AfterSettling P r → AfterSettling P (counting sign was_kept r)
  unfolding counting
  counting_keeps sign was_kept contradicted p = p
  counting_keeps sign was_kept (settled g n) p = p

  follow_keeps : (d : Drawn) (h : Held) (more : Held → Settled) → P h → AfterDraw P d → ((g : Held) → P g → AfterSettling P (more g)) → AfterSettling P (follow d h more)
  unfolding follow
  follow_keeps idle h more p q f = p
  follow_keeps clash h more p q f = tt
  follow_keeps (drawn sign was_kept g) h more p q f = counting_keeps sign was_kept (more g) (f g q)

  pub run_keeps : ((h : Held) → P h → AfterDraw P (draw h)) → (most : ℕ) (h : Held) → P h → AfterSettling P (run most h)
  unfolding run
  run_keeps step zero h p = p
  run_keeps step (suc most) h p = follow_keeps (draw h) h (run most) p (step h p) (run_keeps step most)

  pub settle_held_keeps : ((h : Held) → P h → AfterDraw P (draw h)) → (h : Held) → P h → AfterSettling P (settle_held h)
  unfolding settle_held
  settle_held_keeps step h p = run_keeps step (size h) h p
