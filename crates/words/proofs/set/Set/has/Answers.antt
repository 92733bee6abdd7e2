-- `words::set::Set::has` meets its contract: a number is a bit of a word.
use Rattle.words.specs.Sets.{in_set}
use Rattle.words.proofs.set.Set.has.Goals as goal

pub returns : goal.returns
unfolding in_set
returns c = rw (c.word.ensures, c.from.ensures) at c.bit_in.ensures
