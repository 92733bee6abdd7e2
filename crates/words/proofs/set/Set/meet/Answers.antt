-- `words::set::Set::meet` meets its contract: word by word.
use mathlib.Core.Bool.{◌&&◌}
use Rattle.words.proofs.FourWords.{each_word}
use Rattle.words.proofs.set.Set.meet.Goals as goal

pub returns : goal.returns
returns c = each_word ◌&&◌ c.each_word.result c.args.self c.args.s c.each_word.ensures
