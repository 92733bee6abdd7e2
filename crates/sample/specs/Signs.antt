-- The signs of the rules, and the place of a sign's set beside the other's.
use Rattle.std.specs.Prelude.{ℕ}
use Rattle.rules.specs.Contents.{Sign as RuleSign, positive, negative}
use Rattle.sample.specs.declared.numbers.Sign.{Sign}
use Rattle.sample.specs.declared.numbers.Sign.TheVariants.{Positive, Negative}

unfoldable pub sign_of : Sign → RuleSign
sign_of Positive = positive
sign_of Negative = negative

abbrev pub sign_no : Sign → ℕ
sign_no Positive = 0
sign_no Negative = 1
