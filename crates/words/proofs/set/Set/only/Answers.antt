-- `words::set::Set::only` meets its contract: one word has one bit, the others none.
use Rattle.std.proofs.Common.{rules}
use Rattle.words.proofs.FourWords.{one_bit_alone}
use Rattle.words.proofs.set.Set.only.Goals as goal

pub returns : goal.returns
returns c = one_bit_alone _ c.args.k c.one_bit-bit.result c.one_bit-bit.ensures (search rules)
