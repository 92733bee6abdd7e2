-- `words::word::ones` meets its contract: the kit's count of a word's bits is the count of those that `bit` gives.
use Rattle.words.proofs.Counting.{count_ones}
use Rattle.words.proofs.word.ones.Goals as goal

pub returns : goal.returns
returns c = count_ones 64 c.args.x c.ranges.x.fits
