-- `constraint::cons::needless` meets its contract: the rights, then the left sets, of which one less the other is empty.
use Rattle.std.proofs.Common.{arith}
use Rattle.constraint.specs.Numbered.{numbers_of, needless_no}
use Rattle.constraint.proofs.Members.{inside_by_sets}
use Rattle.constraint.proofs.Numbers.{same_right_no-right_no}
use Rattle.constraint.proofs.cons.needless.Goals as goal

pub returns-then-eq : goal.returns-then-eq
unfolding needless_no numbers_of
returns-then-eq c =
    rw (same_right_no-right_no c.args.c.now.right c.args.d.now.right, ← c.eq.ensures, c.if-eq.true)
    (inside_by_sets _ _ _ _ _ c.left_set.ensures c.left_set-then-eq.ensures c.minus.ensures _ c.is_empty.ensures)

pub returns-else-eq : goal.returns-else-eq
unfolding needless_no numbers_of
returns-else-eq c = grind (arith, same_right_no-right_no)
