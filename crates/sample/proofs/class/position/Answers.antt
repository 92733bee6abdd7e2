-- `sample::class::position` meets its contract: the shifted mask is odd where its bit is set.
use Rattle.std.proofs.Common.{arith}
use Rattle.std.proofs.lemmas.Int.{to_z-of_z}
use lib.Signed.{mag_shr}
use Rattle.rules.specs.Rows.{position}
use Rattle.sample.proofs.Masks.{odd_is-bit}
use Rattle.sample.proofs.class.position.Goals as goal

pub returns : goal.returns
unfolding position
returns c n h =
    let e = odd_is-bit c.args.mask c.args.i n h in
    grind (arith, to_z-of_z, mag_shr)
