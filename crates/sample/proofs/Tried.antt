-- A signed number tried as an unsigned one: what was read is the number, and one that was not read does not fit.
use Rattle.std.proofs.Common.{◌≡◌, ℕ, Some, None, Result, Ok, Err, ℤ, pos, negsuc}
use Rattle.std.proofs.Math.IntN.{nat_abs}
use Rattle.std.specs.Int.{FitsUnsignedBits}
use Rattle.std.specs.Result.{OkIff, result_ok}
use native.Mathlib.Omega.{arith}
use Rattle.sample.proofs.Signed.{Small, read_back, read_back_lem}

module _ {E : Type 0} (k : ℕ) (z : ℤ) (small : Small z) (r : Result ℕ E) (tried : OkIff r (FitsUnsignedBits k (read_back z)) (nat_abs (read_back z))) where
  tried_value : OkIff r (FitsUnsignedBits k z) (nat_abs z)
  tried_value = rw (read_back_lem z small) at tried

  pub value_read : (n : ℕ) → Some n ≡ result_ok r → z ≡ pos n
  value_read n h = told r z tried_value h
    where
      told : (r : Result ℕ E) (z : ℤ) → OkIff r (FitsUnsignedBits k z) (nat_abs z) → Some n ≡ result_ok r → z ≡ pos n
      told (Ok m) (pos x) t h = grind arith
      told (Ok m) (negsuc x) t h = grind arith
      told (Err e) z t h = grind arith

  pub value_not_read : None ≡ result_ok r → ¬ (FitsUnsignedBits k z)
  value_not_read h = told r tried_value h
    where
      told : (r : Result ℕ E) → OkIff r (FitsUnsignedBits k z) (nat_abs z) → None ≡ result_ok r → ¬ (FitsUnsignedBits k z)
      told (Ok m) t h = grind arith
      told (Err e) t h = t
