-- `constraint::cons::Cons::right_in` meets its contract: there is one, and its number is in the set.
use Rattle.std.proofs.Common.{rules}
use Rattle.words.specs.Sets.{in_set}
use Rattle.constraint.specs.Numbered.{numbers_of}
use Rattle.constraint.proofs.Numbers.{right_is_told}
use Rattle.constraint.proofs.cons.Cons.right_in.Goals as goal

pub returns : goal.returns
unfolding numbers_of
returns c = right_is_told (in_set c.args.set) _ _ c.is_some_and.ensures (λ s k. search rules)
