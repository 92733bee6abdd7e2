-- `pool::pool::Pool::forgets` meets its contract: what is left of the set are its samples of the other predicates.
use Rattle.pool.proofs.Named.{forgotten}
use Rattle.pool.proofs.pool.Pool.forgets.Goals as goal

pub returns : goal.returns
returns c = λ positions t ok same.
    forgotten positions t _ _ _ c.args.set c.naming.result c.minus.result ok (c.naming.ensures positions t ok same) c.minus.ensures
