-- `sample::row::covers_at` meets its contract: by which of the two positions are known.
use Rattle.std.proofs.Common.{rules}
use Rattle.rules.specs.Samples.{covers_at}
use Rattle.sample.proofs.Signed.{equal_bits}
use Rattle.sample.proofs.row.covers_at.Goals as goal

pub returns-in-None-default : goal.returns-in-None-default
unfolding covers_at
returns-in-None-default c = rw c.in-None-default.is-0

pub returns-in-Some-None : goal.returns-in-Some-None
unfolding covers_at
returns-in-Some-None c = rw (c.in-Some-None.is-0, c.in-Some-None.is-1)

pub returns-in-Some-Some : goal.returns-in-Some-Some
unfolding covers_at
returns-in-Some-Some c = rw (c.in-Some-Some.is-0, c.in-Some-Some.is-1) (equal_bits c.in-Some-Some.x c.in-Some-Some.y (search rules) (search rules))
