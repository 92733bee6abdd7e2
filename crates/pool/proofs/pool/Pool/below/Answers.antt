-- `pool::pool::Pool::below` meets its contract: a total sample covers itself alone, of a partial one each number in use is asked.
use Rattle.std.proofs.Common.{refl, sym, ◌∙◌, rules}
use Rattle.words.specs.Sets.{in_set}
use Rattle.pool.specs.Answers.{CoversNo}
use Rattle.pool.proofs.Covered.{below_total}
use Rattle.pool.proofs.pool.Pool.below.Goals as goal

pub returns-then-not-has : goal.returns-then-not-has
returns-then-not-has c = λ positions ok parts here.
    below_total positions _ _ _ ok _ here c.args.self.now.partial c.empty.result c.with.result _ parts
    (sym c.has.ensures ∙ c.if-not-has.true) refl c.empty.ensures c.with.ensures

pub returns : goal.returns
returns c = λ positions ok parts here.
    record {
      covered = λ k m.
          let told : CoversNo c.args.self.now c.args.s.0 k (in_set c.select.result k) = search (rules, c.select.ensures.passed k m) in
          told positions (ok.rows c.args.s.0 here) (ok.rows k m);
      within = c.select.ensures.within;
    }
