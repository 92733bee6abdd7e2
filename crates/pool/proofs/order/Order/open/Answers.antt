-- `pool::order::Order::open` meets its contract: the part that turns begins at the place and ends with the first free number.
use native.Mathlib.Omega.{arith}
use Rattle.pool.proofs.Shifts.{opened_by_turn}
use Rattle.pool.proofs.order.Order.open.Goals as goal

pub returns-clause-numbers : goal.returns-clause-numbers
returns-clause-numbers c = opened_by_turn _ _ _ (omega arith) (omega arith) c.rotate_right.ensures.after
