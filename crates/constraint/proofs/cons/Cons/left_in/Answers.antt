-- `constraint::cons::Cons::left_in` meets its contract: a left number is in the set if a left sample's is.
use Rattle.std.proofs.Common.{rules, ◌∙◌, sym}
use Rattle.std.proofs.lemmas.Iterator.{YieldsList-from_slice}
use Rattle.std.proofs.lemmas.Iterator.Search.{any_from_yields_List}
use Rattle.words.specs.Sets.{in_set}
use Rattle.constraint.specs.Numbered.{numbers_of, samples_of}
use Rattle.constraint.proofs.Numbers.{any_no-plain}
use Rattle.constraint.proofs.cons.Cons.left_in.Goals as goal

pub returns : goal.returns
unfolding numbers_of
returns c =
    let l = samples_of c.args.self.now.left in
    any_from_yields_List _ _ _ _ c.any.ensures.ran (YieldsList-from_slice l cc) (λ x b q k. search rules) ∙ sym (any_no-plain (in_set c.args.set) l)
