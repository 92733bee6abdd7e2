-- `sample::row::Row::positions` meets its contract: each of the six positions, by its bit of the mask and its value.
use Rattle.std.proofs.Common.{◌∙◌, rules, None}
use Rattle.sample.specs.Options.{to_code}
use Rattle.sample.proofs.Positions.{position_at, tabled_positions}
use Rattle.sample.proofs.Calls.{table_from_calls}
use Rattle.sample.proofs.row.Row.positions.Goals as goal

pub returns : goal.returns
returns c =
    let m = c.args.self.mask in
    let v = c.args.self.v in
    table_from_calls _ _ (λ i. to_code (position_at m v i)) (λ i y q k. search rules) c.from_fn.result None 6 c.from_fn.ensures.items
    ∙ tabled_positions m v 6 0
