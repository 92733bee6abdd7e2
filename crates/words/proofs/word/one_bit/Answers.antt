-- `words::word::one_bit` meets its contract: a shifted 1 has that bit alone.
use Rattle.words.proofs.Bits.{bit_of_shift}
use Rattle.words.proofs.word.one_bit.Goals as goal

pub returns : goal.returns
returns c = λ j h. bit_of_shift 64 c.args.i j c.requires
