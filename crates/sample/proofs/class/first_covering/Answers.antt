-- `sample::class::first_covering` meets its contract: the chunks are the rules' whole rows, and it stops at the first that covers.
use Rattle.std.proofs.Common.{ap, ◌∙◌, rules, tests}
use Rattle.std.proofs.lemmas.Iterator.Search.{position_from_yields_List}
use Rattle.std.proofs.lemmas.Iterator.Adapters.{position_from-zero}
use Rattle.rules.specs.Classifying.{whole_rows}
use Rattle.sample.specs.Options.{to_rules}
use Rattle.sample.proofs.Classes.{gives_rows, covers_row, first_found}
use Rattle.sample.proofs.class.first_covering.Goals as goal

pub returns : goal.returns
returns c =
    let a = c.args in
    let covers = covers_row a.positions a.row.now in
    let rows = gives_rows a.list.now c.chunks_exact.ensures.rest c.chunks_exact.ensures.size in
    let found = position_from_yields_List covers _ _ c.position.result c.position.ensures.ran rows (λ x b q k. search (rules, tests)) in
    ap to_rules (found ∙ position_from-zero covers (whole_rows a.list.now)) ∙ first_found a.positions a.row.now (whole_rows a.list.now) 0
