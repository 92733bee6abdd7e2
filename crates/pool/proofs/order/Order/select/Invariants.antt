-- `pool::order::Order::select` meets its contract: the set is gathered from the numbers in use that the loop has passed.
use lib.ListN.{take}
use Rattle.pool.proofs.Gathered.{Gathered}
use Rattle.pool.proofs.order.Order.select.Given as goal

abbrev pub invariant-loop-k : goal.invariant-loop-k
invariant-loop-k g l = Gathered (λ k b. goal.F-post g l.test (record { 0 = k }) b) (take l.k-index l.k-items) l.out
