-- `sample::declared::Signature::mask` meets its contract: a number of eight bits is tried against the positions.
use Rattle.std.proofs.Common.{◌≡◌, refl, Bool, true, false, ℕ, ◌*◌, ◌%◌, pos, negsuc, ℤ, ◌^◌, ◌<◌, ◌≤◌, MatchOption}
use Rattle.std.specs.Bool.{then_some}
use Rattle.std.specs.Int.{FitsUnsignedBits}
use native.Mathlib.Omega.{arith}
use lib.Dec.{ltb}
use lib.Pow.{pow_mono}
use Rattle.std.proofs.lemmas.Bool.Decides.{nat_tests}
use Rattle.rules.specs.Rows.{mask_fits}
use Rattle.sample.proofs.Tried.{value_read, value_not_read}
use Rattle.sample.proofs.declared.Signature.mask.Goals as goal

-- No mask of six positions or fewer has more than eight bits.
not_fitting : (n : ℕ) (m : ℤ) → n ≤ 6 → ¬ (FitsUnsignedBits 8 m) → mask_fits n m ≡ false
unfolding mask_fits
not_fitting n (pos m) few h = grind (arith, nat_tests, pow_mono few)
not_fitting n (negsuc m) few h = refl

fitting : (n m : ℕ) → n ≤ 6 → MatchOption (then_some (ltb m (1 * 2 ^ n % 256)) m) (mask_fits n (pos m) ≡ false) (λ k. (pos m ≡ pos k) × (k < 2 ^ n))
unfolding mask_fits
fitting n m few = rw (shifted (2 ^ n) (pow_mono few)) (told (ltb m (2 ^ n)) refl)
  where
    shifted : (x : ℕ) → x ≤ 64 → 1 * x % 256 ≡ x
    shifted x h = omega (arith, h)

    told : (b : Bool) → ltb m (2 ^ n) ≡ b → MatchOption (then_some b m) (ltb m (2 ^ n) ≡ false) (λ k. (pos m ≡ pos k) × (k < 2 ^ n))
    told true e = (refl, grind (arith, nat_tests))
    told false e = e

pub returns-in_err-m : goal.returns-in_err-m
returns-in_err-m c =
    rw c.from_residual.ensures (not_fitting c.args.self.positions c.args.m c.requires (value_not_read 8 c.args.m c.ranges.m.sfits c.try_from.result c.try_from.ensures c.in_err-m.ensures.value))

pub returns : goal.returns
returns c =
    let e = value_read 8 c.args.m c.ranges.m.sfits c.try_from.result c.try_from.ensures c.in_ok-m.m c.in_ok-m.ensures.value in
    rw (e, c.then_some.ensures) (fitting c.args.self.positions c.in_ok-m.m c.requires)
