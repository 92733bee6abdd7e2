-- `pool::pool::Pool::covered_in` meets its contract: the sample itself is a member, or a partial member covers it.
use Rattle.std.proofs.Common.{◌≡◌, ℕ, true, false, not, sym, ◌∙◌, rules}
use Rattle.std.proofs.lemmas.Iterator.{cases_from_any, YieldsList-from_slice}
use Rattle.words.specs.Sets.{in_set, Holds}
use Rattle.pool.specs.Answers.{used, CoversNo}
use Rattle.pool.proofs.Covered.{covered_here, any_told, nothing_asked}
use Rattle.pool.proofs.pool.Pool.covered_in.Goals as goal

pub returns-then-has : goal.returns-then-has
returns-then-has c = λ positions ok parts within here.
    covered_here positions _ _ _ ok _ here c.args.set (sym c.has.ensures ∙ c.if-has.true)

pub returns-else-not-is_empty : goal.returns-else-not-is_empty
returns-else-not-is_empty c = λ positions ok parts within here.
    let nothing : Holds c.meet-asked.result (λ k. false) = search rules in
    let empty : not c.is_empty.result ≡ false = search rules in
    empty ∙ nothing_asked positions _ _ _ ok _ here c.args.self.now.partial c.args.set c.meet-asked.result c.meet-asked.ensures parts (sym c.has.ensures ∙ c.if-has.false) nothing

pub returns-then-not-is_empty : goal.returns-then-not-is_empty
returns-then-not-is_empty c = λ positions ok parts within here.
    let p = c.args.self.now in
    let asked = c.meet-asked.result in
    let outside = sym c.has.ensures ∙ c.if-has.false in
    let Yes : ℕ → Type 0 = λ k. (in_set asked k ≡ true) × CoversNo p k c.args.s.0 true in
    let No : ℕ → Type 0 = λ k. in_set asked k ≡ true → CoversNo p k c.args.s.0 false in
    let told = cases_from_any c.any.new.self _ c.any.result Yes No c.any.ensures.ran (YieldsList-from_slice {s = c.iter.result} (used p) cc) (λ x q k. search rules) (λ x q k. search rules) in
    any_told positions _ _ _ ok _ here p.partial c.args.set asked c.meet-asked.ensures parts outside Yes No c.any.result
    (λ k m y. (y.0, sym (y.1 positions (ok.rows k m) (ok.rows c.args.s.0 here)))) (λ k m no h. sym (no h positions (ok.rows k m) (ok.rows c.args.s.0 here))) told
