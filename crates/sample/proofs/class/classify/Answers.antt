-- `sample::class::classify` meets its contract: each way out is the class by what was tested and found.
use Rattle.std.proofs.Common.{sym, arith}
use Rattle.std.proofs.lemmas.Bool.Decides.{nat_tests}
use Rattle.rules.specs.Classifying.{or_negative, classify_if, classify, part, class_part}
use Rattle.sample.specs.Classes.{place_at, class_start}
use Rattle.sample.proofs.Classes.{found_below}
use Rattle.sample.proofs.class.classify.Goals as goal

pub returns-then-row-ne7-clause-contents : goal.returns-then-row-ne7-clause-contents
unfolding classify classify_if class_part
returns-then-row-ne7-clause-contents c = grind (arith, nat_tests)

pub returns-then-row-ne7-clause-start : goal.returns-then-row-ne7-clause-start
unfolding classify classify_if class_start place_at
returns-then-row-ne7-clause-start c = grind (arith, nat_tests)

pub row_at-requires : goal.row_at-requires
row_at-requires c = found_below _ _ _ c.in-Some.i (sym c.in-Some.ensures)

pub returns-in-Some-clause-contents : goal.returns-in-Some-clause-contents
unfolding classify classify_if or_negative class_part part
returns-in-Some-clause-contents c = let h = c.in-Some.ensures in grind (arith, nat_tests)

pub returns-in-Some-clause-start : goal.returns-in-Some-clause-start
unfolding classify classify_if or_negative class_start
returns-in-Some-clause-start c = let h = c.in-Some.ensures in grind (arith, nat_tests)

pub row_at-requires-in-Some-first_covering : goal.row_at-requires-in-Some-first_covering
row_at-requires-in-Some-first_covering c = found_below _ _ _ c.in-Some-first_covering.j (sym c.in-Some-first_covering.ensures)

pub returns-in-Some-first_covering-clause-contents : goal.returns-in-Some-first_covering-clause-contents
unfolding classify classify_if or_negative class_part part
returns-in-Some-first_covering-clause-contents c =
    let p = c.in_default.ensures in
    let q = c.in-Some-first_covering.ensures in
    grind (arith, nat_tests)

pub returns-in-Some-first_covering-clause-start : goal.returns-in-Some-first_covering-clause-start
unfolding classify classify_if or_negative class_start
returns-in-Some-first_covering-clause-start c =
    let p = c.in_default.ensures in
    let q = c.in-Some-first_covering.ensures in
    grind (arith, nat_tests)

pub returns-in-None-clause-contents : goal.returns-in-None-clause-contents
unfolding classify classify_if or_negative class_part
returns-in-None-clause-contents c =
    let p = c.in_default.ensures in
    let q = c.in-None.ensures in
    grind (arith, nat_tests)

pub returns-in-None-clause-start : goal.returns-in-None-clause-start
unfolding classify classify_if or_negative class_start place_at
returns-in-None-clause-start c =
    let p = c.in_default.ensures in
    let q = c.in-None.ensures in
    grind (arith, nat_tests)
