-- `pool::pool::Pool::waits` meets its contract: it is kept among the waiting ones by the same rule.
use Rattle.std.proofs.Common.{◌≡◌, option_map, subst, rules}
use Rattle.pool.specs.Answers.{Waits}
use Rattle.pool.proofs.Covered.{waits-keeps}
use Rattle.pool.proofs.pool.Pool.waits.Goals as goal

pub returns : goal.returns
returns c = λ positions ok parts within here.
    let p = c.args.self.now in
    let mapped : option_map (λ k. k.set) c.keeps.result ≡ c.map.result = search rules in
    subst (Waits positions p.rows p.order.count p.order.numbers c.args.waiting c.args.s.0) mapped
    (waits-keeps positions p.rows p.order.count p.order.numbers c.args.waiting c.args.s.0 c.keeps.result (c.keeps.ensures positions ok parts within here))
