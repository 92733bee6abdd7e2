-- `words::set::Set::count`: the members of the words so far.
use mathlib.Core.Path.{◌≡◌}
use Prim.Native.Nat.{◌*◌}
use Rattle.words.specs.Sets.{in_set, count_of}
use Rattle.words.proofs.set.Set.count.Given as goal

abbrev pub invariant-loop-w : goal.invariant-loop-w
invariant-loop-w l = l.n ≡ count_of (in_set l.fn.self) (64 * l.w-index)
