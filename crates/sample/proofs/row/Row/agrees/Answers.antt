-- `sample::row::Row::agrees` meets its contract: by predicate, then by the test at each of the six positions.
use Rattle.std.proofs.Common.{◌≡◌, true, false, refl, ◌∙◌, rules, of_calls}
use lib.Dec.{eqb}
use Rattle.std.proofs.lemmas.Iterator.{YieldsList-from_range}
use Rattle.std.proofs.lemmas.Iterator.Search.{all_from_yields_List}
use Rattle.sample.proofs.Positions.{position_at}
use Rattle.sample.proofs.Compared.{all_from, back, agrees_of_rows}
use Rattle.sample.proofs.row.Row.agrees.Goals as goal
use Rattle.sample.proofs.row.Row.agrees.Goals.{then-eq, else-eq}

pub returns : goal.returns
returns g c = λ test computes unknown of p q.
    let a = c.args.self in
    let b = c.args.b in
    let whole = agrees_of_rows test unknown a b of p q in
    elim c.if-eq.branch [
      | then-eq w ↦
          let same : eqb a.pred.0 b.pred.0 ≡ true = search rules in
          let asked = all_from_yields_List (λ i. test (position_at a.mask a.v i) (position_at b.mask b.v i)) _ _ w.all.result w.all.ensures.ran (YieldsList-from_range 0 6 6 refl refl) (λ x r s k. search (rules, of_calls, computes, back)) in
          w.result-is ∙ (asked ∙ (all_from test a b 6 0 ∙ (rw same at whole)))
      | else-eq w ↦
          let other : eqb a.pred.0 b.pred.0 ≡ false = search rules in
          w.result-is ∙ (c.eq.ensures ∙ (other ∙ (rw other at whole)))
    ]
