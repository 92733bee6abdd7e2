-- `sample::row::Row::rank` meets its contract: by predicate, then by the six positions.
use Rattle.std.proofs.Common.{◌∙◌}
use Rattle.sample.specs.Ranks.{rank_rows}
use Rattle.sample.proofs.Compared.{rank_of_rows}
use Rattle.sample.proofs.row.Row.rank.Goals as goal

pub returns-clause-rows : goal.returns-clause-rows
unfolding rank_rows
returns-clause-rows c = rw (c.positions.ensures, c.positions-2.ensures) at c.cmp.ensures

pub returns-clause-samples : goal.returns-clause-samples
unfolding rank_rows
returns-clause-samples c = λ of p q. (rw (c.positions.ensures, c.positions-2.ensures) at c.cmp.ensures) ∙ rank_of_rows c.args.self c.args.b of p q
