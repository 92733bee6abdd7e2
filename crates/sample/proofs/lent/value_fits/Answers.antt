-- `sample::lent::value_fits` meets its contract: each of its ways out is the rules' test at what it has found out.
use Rattle.std.proofs.Common.{arith}
use Rattle.std.proofs.lemmas.Bool.Decides.{nat_tests}
use Rattle.rules.specs.Values.{equal_value, in_i64, valid_value}
use Rattle.rules.specs.Rows.{value_fits}
use Rattle.sample.specs.Declarations.{sort_by}
use Rattle.sample.proofs.lent.value_fits.Goals as goal

pub returns-in-false-default : goal.returns-in-false-default
unfolding value_fits equal_value
returns-in-false-default c = grind (arith, nat_tests)

pub returns-in-true-false : goal.returns-in-true-false
unfolding value_fits valid_value in_i64 sort_by
returns-in-true-false c = grind (arith, nat_tests)

pub returns-then-v-eq0 : goal.returns-then-v-eq0
unfolding value_fits valid_value equal_value sort_by
returns-then-v-eq0 c = grind (arith, nat_tests)

pub returns-else-v-eq0 : goal.returns-else-v-eq0
unfolding value_fits valid_value equal_value sort_by
returns-else-v-eq0 c = grind (arith, nat_tests)
