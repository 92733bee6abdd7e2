-- `sample::row::Row::overlaps` meets its contract: overlapping is agreeing by the overlap test of two positions.
use Rattle.std.proofs.Common.{refl, sym, ◌∙◌}
use Rattle.rules.specs.Samples.{overlaps_at}
use Rattle.sample.specs.Rows.{shown}
use Rattle.sample.proofs.Compared.{overlaps-agrees}
use Rattle.sample.proofs.row.Row.overlaps.Goals as goal

pub returns : goal.returns
unfolding overlaps_at
returns c = λ of p q. c.agrees.ensures overlaps_at (λ x y r e. e.2) refl of p q ∙ sym (overlaps-agrees (shown of c.args.self) (shown of c.args.b))
