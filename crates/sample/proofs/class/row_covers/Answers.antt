-- `sample::class::row_covers` meets its contract: it asks position by position what the rules ask.
use Rattle.std.proofs.Common.{refl, ◌∙◌, rules, arith}
use Rattle.std.proofs.lemmas.Int.{to_z-of_z}
use Rattle.std.proofs.lemmas.Iterator.{YieldsList-from_range}
use Rattle.std.proofs.lemmas.Iterator.Search.{all_from_yields_List}
use Rattle.sample.proofs.Classes.{covers_one, covers_each, there_and_back}
use Rattle.sample.proofs.class.row_covers.Goals as goal

pub returns : goal.returns
returns c =
    let a = c.args in
    let l = a.listed.now in
    let r = a.row.now in
    all_from_yields_List (covers_one l r) _ _ c.all.result c.all.ensures.ran (YieldsList-from_range 0 a.positions a.positions refl (omega arith))
    (λ x b q k. (search rules, grind (arith, there_and_back, to_z-of_z)))
    ∙ covers_each a.positions l r
