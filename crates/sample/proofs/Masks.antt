-- The machine's bits of a signed mask are the low bits of the rules.
use mathlib.Core.Path.{◌≡◌, sym, ap, ◌∙◌}
use mathlib.Core.Bool.{not}
use Prim.Native.Nat.{ℕ, zero, suc, ◌-◌, ◌/◌, ◌%◌, ◌^◌, ◌<◌}
use native.Mathlib.Nat.{mod-lt, pow-suc, div-add-mod'}
use native.Mathlib.Omega.{arith}
use lib.IntN.{ℤ, pos, negsuc}
use lib.Dec.{eqb}
use lib.Pow.{pow_pos}
use lib.Signed.{shr_z, rem_z, mag_shr}
use mir.Syntax.{w64}
use mir.Val.{of_z, SFits}
use mir.Facts.{to_z-of_z}
use Rattle.std.specs.Int.{bit_at}
use Rattle.std.proofs.lemmas.Bool.Decides.{nat_tests}
use Rattle.std.proofs.lemmas.Nat.Bits.{bit_at_lowest, bit_at-suc, bit_at_cat_low}
use Rattle.rules.specs.Rows.{bit}
use Rattle.rules.specs.Classifying.{low_bits}
use Rattle.sample.proofs.Signed.{read_back}

-- A shifted value fits as the value does, so that it is read back as it is.
shift_fits : (z : ℤ) (m : ℕ) → SFits w64 z → SFits w64 (shr_z z m)
shift_fits z m f = record { sfits = omega (arith, mag_shr z m, f.sfits) }

pub shifted : (mask : ℤ) (m : ℕ) → SFits w64 mask → read_back (shr_z (read_back mask) m) ≡ shr_z mask m
shifted mask m f = rw (to_z-of_z f) (to_z-of_z (shift_fits mask m f))

-- Cutting off the bits from n on changes none below, and turning all of n bits over turns each over.
kept : (m n i : ℕ) → i < n → bit_at (m % 2 ^ n) i ≡ bit_at m i
kept m n i h = sym (bit_at_cat_low (m / 2 ^ n) n (m % 2 ^ n) i h) ∙ ap (λ x. bit_at x i) (div-add-mod' m (2 ^ n))

turned : (n m i : ℕ) → m < 2 ^ n → i < n → bit_at (2 ^ n - 1 - m) i ≡ 1 - bit_at m i
turned zero m i h l = absurd (omega arith)
turned (suc n) m zero h l = omega (arith, bit_at_lowest (2 ^ suc n - 1 - m), bit_at_lowest m, pow-suc 2 n)
turned (suc n) m (suc i) h l =
    let half : (2 ^ suc n - 1 - m) / 2 ≡ 2 ^ n - 1 - m / 2 = omega (arith, pow-suc 2 n) in
    rw (bit_at-suc (2 ^ suc n - 1 - m) i, half, bit_at-suc m i) (turned n (m / 2) i (omega (arith, pow-suc 2 n)) (omega arith))

-- The shifted mask is odd where the bit is set.
pub odd_is-bit : (mask : ℤ) (i n : ℕ) → i < n → not (eqb (of_z w64 (rem_z (shr_z mask (2 ^ i)) (pos 2))) 0) ≡ bit (low_bits n mask) i
unfolding bit low_bits
odd_is-bit (pos m) i n h = let e = kept m n i h in grind (arith, nat_tests)
odd_is-bit (negsuc m) i n h =
    let e = kept m n i h in
    let f = turned n (m % 2 ^ n) i (mod-lt m (pow_pos n)) h in
    grind (arith, nat_tests)

-- However many low bits are kept, those that are kept stay.
pub bit-same : (mask : ℤ) (i n : ℕ) → i < n → bit (low_bits n mask) i ≡ bit (low_bits (suc i) mask) i
bit-same mask i n h = sym (odd_is-bit mask i n h) ∙ odd_is-bit mask i (suc i) (omega arith)
