-- `sample::row::Row::covers` meets its contract: covering is agreeing by the cover test of two positions.
use Rattle.std.proofs.Common.{refl, sym, ◌∙◌}
use Rattle.rules.specs.Samples.{covers_at}
use Rattle.sample.specs.Rows.{shown}
use Rattle.sample.proofs.Compared.{covers-agrees}
use Rattle.sample.proofs.row.Row.covers.Goals as goal

pub returns : goal.returns
unfolding covers_at
returns c = λ of p q. c.agrees.ensures covers_at (λ x y r e. e.2) refl of p q ∙ sym (covers-agrees (shown of c.args.self) (shown of c.args.b))
