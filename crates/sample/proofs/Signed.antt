-- Signed 64-bit values: the machine compares them by their bits, and one that goes through a local or a call is read back from its bits.
use mathlib.Core.Path.{◌≡◌, sym, ap, ◌∙◌}
use mathlib.Core.Bool.{true}
use Prim.Native.Nat.{◌^◌, ◌<◌}
use lib.IntN.{ℤ}
use lib.Dec.{eqb}
use lib.Signed.{mag}
use mir.Syntax.{w64}
use mir.Val.{of_z, to_z, SFits, hbits}
use mir.Facts.{to_z-of_z}
use borrow.Author.Tests.{eqb-true, eq-eqb}
use Rattle.rules.specs.Values.{Value, equal_value}
use Rattle.rules.proofs.Laws.Bools.{same_truth}
use Rattle.rules.proofs.Laws.Covering.{equal_true, equal_refl}

abbrev pub read_back : ℤ → ℤ
read_back x = to_z w64 (of_z w64 x)

-- It fits 64 bits, as what is known of an element of a list says it.
abbrev pub Small : ℤ → Type 0
Small x = mag x < 2 ^ hbits w64

pub read_back_lem : (x : ℤ) → Small x → read_back x ≡ x
read_back_lem x h = to_z-of_z {w = w64} (record { sfits = h })

pub equal_bits : (a b : Value) → SFits w64 a → SFits w64 b → eqb (of_z w64 a) (of_z w64 b) ≡ equal_value a b
equal_bits a b f g = same_truth (eqb (of_z w64 a) (of_z w64 b)) (equal_value a b) (λ h. rw (one h) (equal_refl b)) (λ h. eq-eqb (of_z w64 a) (of_z w64 b) (ap (of_z w64) (equal_true a b h)))
  where
    one : eqb (of_z w64 a) (of_z w64 b) ≡ true → a ≡ b
    one h = sym (to_z-of_z f) ∙ ap (to_z w64) (eqb-true (of_z w64 a) (of_z w64 b) h) ∙ to_z-of_z g
