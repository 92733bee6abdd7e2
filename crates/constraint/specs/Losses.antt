-- How a loss is judged by the sides that it is on, as the code's enum.
use Rattle.std.specs.Prelude.{Bool, true, false}
use Rattle.sample.specs.declared.numbers.Sign.{Sign}
use Rattle.sample.specs.declared.numbers.Sign.TheVariants.{Positive, Negative}
use Rattle.constraint.specs.declared.loss.Loss.{Loss}
use Rattle.constraint.specs.declared.loss.Loss.TheVariants.{Nothing, Drops, Decides}

unfoldable pub loss_no : Bool → Bool → Sign → Loss
loss_no false false g = Nothing
loss_no true right Negative = Drops
loss_no true true Positive = Drops
loss_no true false Positive = Decides
loss_no false true Positive = Drops
loss_no false true Negative = Decides
