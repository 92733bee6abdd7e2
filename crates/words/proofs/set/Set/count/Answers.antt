-- `words::set::Set::count` meets its contract: a word's members after those before it, at most 256 in all.
use Prim.Native.Nat.{◌+◌, ◌*◌}
use native.Mathlib.Omega.{arith}
use Rattle.words.specs.Sets.{in_set}
use Rattle.words.proofs.Counting.{count_le}
use Rattle.words.proofs.FourWords.{count_none, count_more}
use Rattle.words.proofs.set.Set.count.Goals as goal

pub loop-w-init : goal.loop-w-init
loop-w-init c = omega (arith, count_none c.args.self)

pub overflow_add-n : goal.overflow_add-n
overflow_add-n c =
    let s = c.args.self in
    omega (arith, count_more s c.loop-w.w-index (omega arith), count_le (in_set s) (64 * (c.loop-w.w-index + 1)))

pub loop-w-preserved : goal.loop-w-preserved
loop-w-preserved c = omega (arith, count_more c.args.self c.loop-w.w-index (omega arith))
