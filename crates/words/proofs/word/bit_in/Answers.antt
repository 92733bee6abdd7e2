-- `words::word::bit_in` meets its contract: the shifted word's last digit is the rules' `bit`.
use mathlib.Core.Path.{refl}
use Rattle.rules.specs.Rows.{bit}
use Rattle.words.proofs.word.bit_in.Goals as goal

pub returns : goal.returns
unfolding bit
returns c = refl
