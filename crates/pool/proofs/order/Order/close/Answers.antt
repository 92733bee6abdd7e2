-- `pool::order::Order::close` meets its contract: each number in turn joins those in front or those apart, and at the end these are put behind them.
use Rattle.std.proofs.Common.{refl, sym, ◌∙◌, arith}
use Rattle.pool.proofs.Shifts.{closing_none, closing_held, closing_gone, closing_count, closing_end}
use Rattle.pool.proofs.order.Order.close.Goals as goal
use Rattle.pool.proofs.order.Order.close.Goals.{then-stays, else-stays}

pub loop-i-init : goal.loop-i-init
loop-i-init c = (refl, closing_none _ _ _ c.new-leaving.ensures)

pub loop-i-preserved : goal.loop-i-preserved
loop-i-preserved c =
    elim c.if-stays.branch [
      | then-stays w ↦ rw (w.self-is, w.leaving-is, w.kept-is) (c.loop-i.invariant.0, closing_held (omega arith) c.loop-i.invariant.1 (sym c.has-stays.ensures ∙ w.if-stays.true))
      | else-stays w ↦ rw (w.self-is, w.leaving-is, w.kept-is) (c.loop-i.invariant.0, closing_gone (omega arith) c.loop-i.invariant.1 w.push.ensures.items (sym c.has-stays.ensures ∙ w.if-stays.false))
    ]

pub returns-clause-numbers : goal.returns-clause-numbers
returns-clause-numbers c = rw c.loop-i.invariant.0 (closing_end (omega arith) (omega arith) c.loop-i.invariant.1 (c.copy_from_slice.ensures.after ∙ c.as_slice.ensures.value))

pub returns-clause-count : goal.returns-clause-count
returns-clause-count c = closing_count (omega arith) (omega arith) c.loop-i.invariant.1
