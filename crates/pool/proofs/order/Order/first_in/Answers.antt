-- `pool::order::Order::first_in` meets its contract: an empty set has no first number, and in another std's `find` gives it.
use mathlib.Core.Path.{sym}
use Rattle.std.proofs.Common.{rules}
use Rattle.std.proofs.lemmas.Iterator.{YieldsList-from_slice}
use Rattle.std.proofs.lemmas.Iterator.Search.{find_from_yields_List}
use Rattle.words.specs.Sets.{in_set}
use Rattle.pool.specs.Answers.{first_no}
use Rattle.pool.proofs.Searches.{first-find, first_of_none}
use Rattle.pool.proofs.order.Order.first_in.Goals as goal

pub returns-then-is_empty : goal.returns-then-is_empty
unfolding first_no
returns-then-is_empty c = sym (first_of_none c.args.set _ (c.is_empty.ensures.none c.if-is_empty.true))

pub returns-in_err-first : goal.returns-in_err-first
unfolding first_no
returns-in_err-first c =
    let f = find_from_yields_List (in_set c.args.set) _ _ c.find.result c.find.ensures.ran (YieldsList-from_slice c.in_use.result.now cc) (λ x b q k. search rules) in
    rw (c.from_residual.ensures, first-find, ← c.in_use.ensures, ← f, c.in_err-first.was)

pub returns : goal.returns
unfolding first_no
returns c =
    let f = find_from_yields_List (in_set c.args.set) _ _ c.find.result c.find.ensures.ran (YieldsList-from_slice c.in_use.result.now cc) (λ x b q k. search rules) in
    rw (first-find, ← c.in_use.ensures, ← f, c.in_ok-first.was)
