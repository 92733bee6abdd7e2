-- `sample::row::known` meets its contract: it computes the rules' `bit`.
use mathlib.Core.Path.{refl}
use Rattle.rules.specs.Rows.{bit}
use Rattle.sample.proofs.row.known.Goals as goal

pub returns : goal.returns
unfolding bit
returns c = refl
