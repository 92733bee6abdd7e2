-- `pool::order::Order::close` meets its contract: of the numbers in use that the loop has passed those held stand in front, the others apart.
use Rattle.std.proofs.Common.{◌≡◌}
use Rattle.words.specs.Sets.{in_set}
use Rattle.pool.proofs.Shifts.{Closing}
use Rattle.pool.proofs.order.Order.close.Given as goal

abbrev pub invariant-loop-i : goal.invariant-loop-i
invariant-loop-i l = (l.self.count ≡ l.fn.self.count) × Closing (in_set l.held) l.fn.self.numbers l.self.numbers l.leaving.items l.kept l.i
