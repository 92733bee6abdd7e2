-- `sample::row::Row::position` meets its contract: the value, if the mask's bit says that it is known.
use Rattle.std.proofs.Common.{get_or, pos, ℤ, ◌∙◌, arith}
use Rattle.rules.specs.Rows.{bit}
use Rattle.sample.proofs.Signed.{Small, read_back_lem}
use Rattle.sample.proofs.Positions.{then_some-position}
use Rattle.sample.proofs.row.Row.position.Goals as goal

pub returns : goal.returns
returns c =
    let v : ℤ = get_or c.args.self.v c.args.i (pos 0) in
    let small : Small v = omega arith in
    rw (c.known.ensures, read_back_lem v small) at c.then_some.ensures
    ∙ then_some-position (bit c.args.self.mask c.args.i) v
