-- `constraint::left::Left::before` meets its contract: none of those that the loop has passed is in the set.
use Rattle.std.proofs.Common.{◌≡◌, false, take}
use Rattle.words.specs.Sets.{in_set}
use Rattle.constraint.specs.Numbered.{plain, any_no, samples_of}
use Rattle.constraint.proofs.left.Left.before.Given as goal

abbrev pub invariant-loop-i : goal.invariant-loop-i
invariant-loop-i l = any_no (in_set l.set) (plain (take l.i (samples_of l.self))) ≡ false
