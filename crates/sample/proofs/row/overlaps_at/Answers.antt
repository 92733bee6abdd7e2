-- `sample::row::overlaps_at` meets its contract: by which of the two positions are known.
use Rattle.std.proofs.Common.{arith, ◌≡◌, refl, true, false, Option, None, Some, ℤ, int_eq}
use Rattle.std.specs.Option.{is_some, option_xor, option_eq}
use Rattle.rules.specs.Samples.{overlaps_at}
use Rattle.sample.specs.Options.{to_rules}
use Rattle.sample.proofs.Compared.{int_eq-equal_value}
use Rattle.sample.proofs.row.overlaps_at.Goals as goal

one_known : (a b : Option ℤ) → is_some (option_xor a b) ≡ true → true ≡ overlaps_at (to_rules a) (to_rules b)
unfolding overlaps_at
one_known None b h = refl
one_known (Some x) None h = refl
one_known (Some x) (Some y) h = grind arith

same_known : (a b : Option ℤ) → is_some (option_xor a b) ≡ false → option_eq int_eq a b ≡ overlaps_at (to_rules a) (to_rules b)
unfolding overlaps_at
same_known None None h = refl
same_known None (Some y) h = grind arith
same_known (Some x) None h = grind arith
same_known (Some x) (Some y) h = int_eq-equal_value x y

pub returns-then-is_some : goal.returns-then-is_some
returns-then-is_some c = grind (arith, one_known c.args.a c.args.b)

pub returns-else-is_some : goal.returns-else-is_some
returns-else-is_some c = grind (arith, same_known c.args.a c.args.b)
