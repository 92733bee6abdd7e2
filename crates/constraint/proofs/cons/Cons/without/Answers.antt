-- `constraint::cons::Cons::without` meets its contract: those outside the set are kept.
use Rattle.std.proofs.Common.{rules}
use Rattle.words.specs.Sets.{in_set}
use Rattle.constraint.specs.Numbered.{numbers_of}
use Rattle.constraint.proofs.Numbers.{right_outside_told}
use Rattle.constraint.proofs.cons.Cons.without.Goals as goal

pub returns : goal.returns
unfolding numbers_of
returns c = (c.outside-self.ensures, right_outside_told (in_set c.args.set) _ _ c.filter-self.ensures (λ s k. search rules))
