-- `sample::lent::values_fit` meets its contract: it asks of each of the six positions what the rules ask there.
use Rattle.std.proofs.Common.{refl, ◌∙◌, rules, tests}
use Rattle.std.proofs.lemmas.Int.{to_z-of_z}
use Rattle.std.proofs.lemmas.Iterator.{YieldsList-from_range}
use Rattle.std.proofs.lemmas.Iterator.Search.{all_from_yields_List}
use Rattle.rules.specs.Rows.{row_of}
use Rattle.sample.proofs.Fitting.{fits_at, all_fit}
use Rattle.sample.proofs.lent.values_fit.Goals as goal

pub returns : goal.returns
unfolding row_of
returns c n le h =
    let a = c.args in
    all_from_yields_List (fits_at a.truths a.mask (row_of a.row.now).values) _ _ c.all.result c.all.ensures.ran (YieldsList-from_range 0 6 6 refl refl)
    (λ x b q k. search (rules, tests, to_z-of_z))
    ∙ all_fit a.truths a.mask n (row_of a.row.now).values h 6 0
