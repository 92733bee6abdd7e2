-- `sample::declared::Declared::positions_of` meets its contract: both conversions keep the number.
use Rattle.std.proofs.Common.{rules}
use Rattle.sample.specs.Declarations.{positions_of, signature_of}
use Rattle.sample.proofs.declared.Declared.positions_of.Goals as goal

pub returns : goal.returns
unfolding positions_of signature_of
returns c = search rules
