-- `constraint::cons::Cons::loses` meets its contract: a loss that decides is on one side, and leaves the other as it was.
use Rattle.std.proofs.Common.{sym, ◌∙◌}
use Rattle.words.specs.Sets.{in_set}
use Rattle.constraint.specs.Numbered.{numbers_of, right_no}
use Rattle.constraint.proofs.Losing.{right_decides, left_decides}
use Rattle.constraint.proofs.cons.Cons.loses.Goals as goal
use Rattle.constraint.proofs.cons.Cons.loses.Goals.{then-right, else-right}

pub returns-after-right-clause-fate : goal.returns-after-right-clause-fate
unfolding numbers_of right_no
returns-after-right-clause-fate c =
    let a = c.args in
    let lost = in_set a.set in
    let decides = sym c.in-Decides.is ∙ (rw c.from.ensures at c.loss_of.ensures) in
    elim c.if-right.branch [
      | then-right w ↦ (rw w.rest-is at c.remaining.ensures)
          ∙ right_decides lost a.g (numbers_of a.self) _ _ c.before-at.ensures.found c.right_in-right.ensures decides w.if-right.true
      | else-right w ↦ (rw (w.rest-is, w.outside_from-rest.ensures) at c.remaining.ensures)
          ∙ left_decides lost a.g (numbers_of a.self) _ _ c.before-at.ensures.found c.right_in-right.ensures decides w.if-right.false
    ]
