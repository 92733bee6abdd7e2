-- What a numbered constraint stands for: by a table of samples, and the numbers in use in the order of their samples.
use Rattle.std.specs.Prelude.{◌≡◌, true, false, List, [], ◌∷◌, ℕ}
use Rattle.std.proofs.Math.Option.{Option, none, some}
use Rattle.rules.specs.Samples.{Sample}
use Rattle.rules.specs.Contents.{Constraint}
use Rattle.rules.specs.Settling.{Fate, untouched, dropped, waits, contradicts, stays}
use Rattle.sample.specs.Signs.{sign_of}
use Rattle.constraint.specs.Numbered.{Numbered, is_in, FateNo, untouched_no, dropped_no, waits_no, contradicts_no, stays_no}
use Rattle.pool.specs.Picks.{pick, Among}

unfoldable pub right_of : (ℕ → Sample) → Option ℕ → Option Sample
right_of at none = none
right_of at (some k) = some (at k)

unfoldable pub constraint_of : (ℕ → Sample) → List ℕ → Numbered → Constraint
constraint_of at ks c = record { left = pick at (λ k. is_in k c.left) ks; right = right_of at c.right }

unfoldable pub fate_of : (ℕ → Sample) → List ℕ → FateNo → Fate
fate_of at ks untouched_no = untouched
fate_of at ks dropped_no = dropped
fate_of at ks (waits_no g k) = waits (sign_of g) (at k)
fate_of at ks contradicts_no = contradicts
fate_of at ks (stays_no c) = stays (constraint_of at ks c)

-- Each number once.
abbrev pub Distinct : List ℕ → Type 0
Distinct [] = Unit
Distinct (k ∷ l) = (is_in k l ≡ false) × Distinct l

-- Its numbers are in use.
pub record InUse (ks : List ℕ) (c : Numbered) : Type 0 where
  pub left : (k : ℕ) → is_in k c.left ≡ true → Among k ks
  pub right : (k : ℕ) → c.right ≡ some k → Among k ks

-- The numbers of what becomes of it are in use, and the left ones distinct.
abbrev pub FateInUse : List ℕ → FateNo → Type 0
FateInUse ks untouched_no = Unit
FateInUse ks dropped_no = Unit
FateInUse ks (waits_no g k) = Among k ks
FateInUse ks contradicts_no = Unit
FateInUse ks (stays_no c) = InUse ks c × Distinct c.left
