-- `pool::pool::Pool::keeps` meets its contract: one that is covered is gone, another joins and those that it covers go.
use Rattle.std.proofs.Common.{refl, sym, ◌∙◌}
use Rattle.pool.proofs.Covered.{keeps_new}
use Rattle.pool.proofs.pool.Pool.keeps.Goals as goal

pub returns : goal.returns
returns c = λ positions ok parts within here.
    keeps_new positions _ _ _ ok _ here c.args.kept c.below-below.result c.minus-others.result c.with.result _ within
    (sym c.if-covered_in.false ∙ c.covered_in.ensures positions ok parts within here)
    (c.below-below.ensures positions ok parts here) c.minus-others.ensures refl c.with.ensures
