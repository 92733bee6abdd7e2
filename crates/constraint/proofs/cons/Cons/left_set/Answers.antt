-- `constraint::cons::Cons::left_set` meets its contract: after each left sample the set holds those so far.
use Rattle.std.proofs.Common.{rules}
use Rattle.std.proofs.lemmas.Fn.{fold_over, fronts}
use Rattle.std.proofs.lemmas.Iterator.{YieldsList-from_slice}
use Rattle.constraint.specs.Numbered.{numbers_of, samples_of}
use Rattle.constraint.proofs.Numbers.{Gathers, gathers_none, gathers_one_more}
use Rattle.constraint.proofs.cons.Cons.left_set.Goals as goal

pub returns : goal.returns
unfolding numbers_of
returns c =
    let s = c.iter.result in
    let gives = YieldsList-from_slice {s = s} (samples_of c.args.self.now.left) cc in
    fold_over fronts _ _ Gathers _ (λ l out q r f so_far k. (gathers_one_more l out r q.now (search rules) so_far (search rules), search rules)) s _ _ _
    gives.runs (gathers_none _ c.empty.ensures) c.fold.ensures.ran
