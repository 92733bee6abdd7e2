-- `pool::pool::Pool::row` meets its contract: the array's row.
use Rattle.pool.specs.Pools.{row_at}
use Rattle.pool.proofs.pool.Pool.row.Goals as goal

pub returns : goal.returns
unfolding row_at
returns c = rw c.from.ensures
