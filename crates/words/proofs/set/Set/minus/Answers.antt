-- `words::set::Set::minus` meets its contract: word by word.
use mathlib.Core.Bool.{◌&&◌, not}
use Rattle.words.proofs.FourWords.{each_word}
use Rattle.words.proofs.set.Set.minus.Goals as goal

pub returns : goal.returns
returns c = each_word (λ p q. p && not q) c.each_word.result c.args.self c.args.s c.each_word.ensures
