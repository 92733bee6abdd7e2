-- `constraint::cons::Cons::free` meets its contract: none on the left, none on the right.
use Rattle.std.proofs.Common.{refl}
use Rattle.constraint.specs.Numbered.{numbers_of, plain, right_no}
use Rattle.constraint.proofs.cons.Cons.free.Goals as goal

pub returns : goal.returns
unfolding numbers_of plain right_no
returns c = (rw c.none.ensures, refl)
