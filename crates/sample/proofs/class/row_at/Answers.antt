-- `sample::class::row_at` meets its contract: the part starts 8 bytes a number after the list.
use Rattle.std.proofs.Common.{refl}
use Rattle.sample.specs.Classes.{place_at}
use Rattle.sample.proofs.class.row_at.Goals as goal

pub returns-clause-start : goal.returns-clause-start
unfolding place_at
returns-clause-start c = refl
