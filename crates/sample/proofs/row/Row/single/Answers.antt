-- `sample::row::Row::single` meets its contract: one position or fewer is not single, else the count of ones decides.
use mathlib.Core.Path.{◌∙◌}
use borrow.Author.Tests.{lt-ltb, le-ltb}
use Rattle.sample.proofs.ShownRows.{shown-single}
use Rattle.sample.proofs.row.Row.single.Goals as goal

pub returns-then-several : goal.returns-then-several
returns-then-several c = λ of ok e.
    let n = c.args.positions in
    let many = lt-ltb 1 n c.if-several.true in
    let s = shown-single of _ ok n e in
    rw many at s

pub returns-else-several : goal.returns-else-several
returns-else-several c = λ of ok e.
    let n = c.args.positions in
    let few = le-ltb 1 n c.if-several.false in
    let s = shown-single of _ ok n e in
    few ∙ (rw few at s)
