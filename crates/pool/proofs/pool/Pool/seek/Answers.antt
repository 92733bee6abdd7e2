-- `pool::pool::Pool::seek` meets its contract: a search by halves among rows whose ranks rise.
use Rattle.std.proofs.Common.{◌≡◌, ℕ, ◌<◌, Equal, length, get_or, ap, rules, arith}
use Rattle.std.proofs.lemmas.Fn.{always_returns_same}
use Rattle.std.proofs.lemmas.List.{get_or-take, length-take}
use Rattle.pool.proofs.Seeking.{rank_no, seek_found, seek_gap, ranks_rise}
use Rattle.pool.proofs.pool.Pool.seek.Goals as goal

pub returns-in-Ok : goal.returns-in-Ok
returns-in-Ok c = λ positions ok good.
    let p = c.args.self.now in
    let n : ℕ = p.order.count in
    let order = p.order.numbers in
    let low : c.in-Ok.place < n = omega (arith, length-take n order, ap length c.in_use-used.ensures, c.in-Ok.ensures.bound) in
    let found = c.in-Ok.ensures.position (rank_no positions p.rows n order c.args.r ok good) (always_returns_same _ _ _ (λ a r q k. search rules)) 0 in
    let here : rank_no positions p.rows n order c.args.r ok good (get_or order c.in-Ok.place 0) ≡ Equal = rw (c.in_use-used.ensures, get_or-take n order c.in-Ok.place 0 low) at found in
    rw (c.in_use-used.ensures, get_or-take n order c.in-Ok.place 0 low) (seek_found positions p.rows n order c.args.r ok good c.in-Ok.place low here)

pub returns-in-Err : goal.returns-in-Err
returns-in-Err c = λ positions ok good.
    let p = c.args.self.now in
    let n : ℕ = p.order.count in
    let order = p.order.numbers in
    let found = c.in-Err.ensures.position (rank_no positions p.rows n order c.args.r ok good) (always_returns_same _ _ _ (λ a r q k. search rules)) in
    let parts = rw c.in_use-used.ensures at found in
    seek_gap positions p.rows n order c.args.r ok good c.in-Err.gap (parts (ranks_rise positions p.rows n order c.args.r ok good)) (omega (arith, length-take n order, ap length c.in_use-used.ensures, c.in-Err.ensures.bound))
