-- `pool::order::Order::select` meets its contract: each number in turn joins the set if it passes, and at the end none is left.
use native.Mathlib.Omega.{arith}
use Rattle.std.proofs.Common.{of_calls}
use Rattle.std.proofs.lemmas.List.{take_more}
use Rattle.pool.proofs.Gathered.{gathered_joins, gathered_skips}
use Rattle.pool.proofs.order.Order.select.Goals as goal
use Rattle.pool.proofs.order.Order.select.Goals.{then-test, else-test}

pub loop-k-preserved : goal.loop-k-preserved
loop-k-preserved g c =
    let ks = c.in_use-k-items.result.now in
    let i = c.loop-k.k-index in
    elim c.if-test.branch [
      | then-test w ↦ rw (w.out-is, take_more ks i 0 c.loop-k-test.true) (gathered_joins (omega (arith, c.type_inv.k-items i)) c.loop-k.invariant w.with-out.ensures (search of_calls))
      | else-test w ↦ rw (w.out-is, take_more ks i 0 c.loop-k-test.true) (gathered_skips (omega (arith, c.type_inv.k-items i)) c.loop-k.invariant (search of_calls))
    ]
