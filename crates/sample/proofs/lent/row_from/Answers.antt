-- `sample::lent::row_from` meets its contract: the eight numbers are read as they stand, and its two remainders are those of numbers not below 0.
use Rattle.std.proofs.Common.{refl, pos, get_or, arith}
use Rattle.std.proofs.lemmas.Int.{to_z-of_z}
use Rattle.std.proofs.lemmas.Grind.{common_steps}
use Rattle.sample.proofs.RowReads.{natural_read, reads_row}
use Rattle.sample.proofs.lent.row_from.Goals as goal

pub returns : goal.returns
returns c =
    let p = natural_read (get_or c.args.row.now 0 (pos 0)) c.requires.0 in
    let m = natural_read (get_or c.args.row.now 1 (pos 0)) c.requires.1 in
    reads_row c.args.row.now _ p.0 m.0 p.1 m.1 (grind (arith, to_z-of_z)) (grind (arith, to_z-of_z)) refl (grind (arith, common_steps, to_z-of_z))
