-- The place of a sign's set beside the other's is one of two.
use Rattle.std.proofs.Common.{◌<◌}
use native.Mathlib.Omega.{arith}
use Rattle.sample.specs.declared.numbers.Sign.{Sign}
use Rattle.sample.specs.declared.numbers.Sign.TheVariants.{Positive, Negative}
use Rattle.sample.specs.Signs.{sign_no}

pub sign_no-small : (g : Sign) → sign_no g < 2
sign_no-small Positive = omega arith
sign_no-small Negative = omega arith
