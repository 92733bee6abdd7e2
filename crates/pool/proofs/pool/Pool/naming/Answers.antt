-- `pool::pool::Pool::naming` meets its contract: each number in use, by its row's predicate.
use Rattle.std.proofs.Common.{◌≡◌, ◌∙◌, rules}
use lib.Dec.{eqb}
use Rattle.words.specs.Sets.{in_set}
use Rattle.pool.specs.Pools.{row_at}
use Rattle.pool.proofs.Named.{names_as}
use Rattle.pool.proofs.pool.Pool.naming.Goals as goal

pub returns : goal.returns
returns c = λ positions t ok same.
    let p = c.args.self.now in
    record {
      named = λ k m.
          let told : in_set c.select.result k ≡ eqb (row_at p.rows k).pred.0 c.args.p.0 = search (rules, c.select.ensures.passed k m) in
          told ∙ names_as positions t p.order.count p.order.numbers c.args.p.0 p.rows k (same k m);
      within = c.select.ensures.within;
    }
