-- The bits of one word: of each word operation, of a single bit, and a bit of any word that is not 0.
use mathlib.Core.Path.{◌≡◌, refl, ◌∙◌}
use mathlib.Core.Bool.{Bool, true, false, not, ◌&&◌, ◌||◌, and_comm, or_comm}
use Prim.Native.Nat.{ℕ, zero, suc, ◌-◌, ◌*◌, ◌/◌, ◌%◌, ◌^◌, min, max, ◌<◌}
use native.Mathlib.Nat.{pow-suc}
use native.Mathlib.Omega.{arith}
use lib.Dec.{eqb}
use lib.Bits.{bit_and, bit_or}
use lib.Pow.{pow_pos, shl_exact}
use borrow.Author.Tests.{eqb-true, eqb-false}
use Rattle.std.specs.Int.{bit_at}
use Rattle.std.proofs.lemmas.Nat.Bits.{bit_at-lt, bit_at_and, bit_at_or, bit_at_lowest, bit_at-suc, bit_at-zero, bit_at-pow_same, bit_at-pow_other}
use Rattle.rules.specs.Rows.{bit}
use Rattle.words.specs.Sets.{Bits}

-- The first bit, and the later ones as those of the half.
pub bit_first : (x : ℕ) → bit x 0 ≡ eqb (x % 2) 1
unfolding bit
bit_first x = rw (bit_at_lowest x)

pub bit_later : (x i : ℕ) → bit x (suc i) ≡ bit (x / 2) i
unfolding bit
bit_later x i = rw (bit_at-suc x i)

-- A digit is 0 or 1.
pub by_digit : (P : ℕ → Type 0) → P 0 → P 1 → (d : ℕ) → d < 2 → P d
by_digit P p q zero h = p
by_digit P p q (suc zero) h = q
by_digit P p q (suc (suc d)) h = absurd (omega arith)

pub by_digits : (P : ℕ → ℕ → Type 0) → P 0 0 → P 0 1 → P 1 0 → P 1 1 → (d e : ℕ) → d < 2 → e < 2 → P d e
by_digits P p q r s d e h l = by_digit (λ d. P d e) (by_digit (P 0) p q e l) (by_digit (P 1) r s e l) d h

pub bit_and_by_bit : (i a b : ℕ) → bit (bit_and a b) i ≡ (bit a i && bit b i)
unfolding bit
bit_and_by_bit i a b =
    rw (bit_at_and a b i)
    (by_digits (λ d e. eqb (min d e) 1 ≡ (eqb d 1 && eqb e 1)) refl refl refl refl (bit_at a i) (bit_at b i) (bit_at-lt a i) (bit_at-lt b i))

pub bit_or_by_bit : (i a b : ℕ) → bit (bit_or a b) i ≡ (bit a i || bit b i)
unfolding bit
bit_or_by_bit i a b =
    rw (bit_at_or a b i)
    (by_digits (λ d e. eqb (max d e) 1 ≡ (eqb d 1 || eqb e 1)) refl refl refl refl (bit_at a i) (bit_at b i) (bit_at-lt a i) (bit_at-lt b i))

-- The complement, w bits wide.
pub bit_not : (i w x : ℕ) → i < w → x < 2 ^ w → bit ((2 ^ w - 1) - x) i ≡ not (bit x i)
bit_not zero zero x h l = absurd (omega arith)
bit_not (suc i) zero x h l = absurd (omega arith)
bit_not zero (suc w) x h l =
    let twice : 2 ^ suc w ≡ 2 ^ w * 2 = pow-suc 2 w in
    let digit : ((2 ^ suc w - 1) - x) % 2 ≡ 1 - x % 2 = omega (arith, pow_pos w) in
    rw (bit_first ((2 ^ suc w - 1) - x), bit_first x, digit)
    (by_digit (λ d. eqb (1 - d) 1 ≡ not (eqb d 1)) refl refl (x % 2) (omega arith))
bit_not (suc i) (suc w) x h l =
    let twice : 2 ^ suc w ≡ 2 ^ w * 2 = pow-suc 2 w in
    let half : ((2 ^ suc w - 1) - x) / 2 ≡ (2 ^ w - 1) - x / 2 = omega arith in
    rw (bit_later ((2 ^ suc w - 1) - x) i, bit_later x i, half) (bit_not i w (x / 2) (omega arith) (omega arith))

pub bit_of_zero : (i : ℕ) → bit 0 i ≡ false
unfolding bit
bit_of_zero i = rw (bit_at-zero i)

-- 1 shifted by i, in a word of w bits.
pub bit_of_shift : (w i j : ℕ) → i < w → bit ((1 * 2 ^ i) % 2 ^ w) j ≡ eqb j i
unfolding bit
bit_of_shift w i j h =
    let e : (1 * 2 ^ i) % 2 ^ w ≡ 1 * 2 ^ i = shl_exact 1 i w (omega arith) (omega arith) in
    let f : 1 * 2 ^ i ≡ 2 ^ i = omega arith in
    rw (e, f) (go (eqb j i) refl)
  where
    go : (b : Bool) → eqb j i ≡ b → eqb (bit_at (2 ^ i) j) 1 ≡ b
    go true e = let same : j ≡ i = eqb-true j i e in rw (same, bit_at-pow_same i)
    go false e = rw (bit_at-pow_other i j (eqb-false j i e))

-- A word that is not 0 has a bit.
pub some_bit : (w x : ℕ) → x < 2 ^ w → (x ≡ 0 → ⊥) → (i : ℕ) × (i < w) × (bit x i ≡ true)
some_bit zero x h n = absurd (n (omega arith))
some_bit (suc w) x h n =
    by_digit (λ d. x % 2 ≡ d → (i : ℕ) × (i < suc w) × (bit x i ≡ true))
    (λ e. let twice : 2 ^ suc w ≡ 2 ^ w * 2 = pow-suc 2 w in
    let r = some_bit w (x / 2) (omega arith) (λ z. n (omega arith)) in (suc r.0, omega (arith, r.1), bit_later x r.0 ∙ r.2))
    (λ e. (0, omega arith, rw (bit_first x, e))) (x % 2) (omega arith) refl

-- A word less the bits of y.
pub bits_less : (x y : ℕ) → y < 2 ^ 64 → Bits (bit_and x ((2 ^ 64 - 1) - y)) (λ i. bit x i && not (bit y i))
bits_less x y h i l = rw (bit_and_by_bit i x ((2 ^ 64 - 1) - y), bit_not i 64 y l h)

-- With and without the bits that f says, as r has them.
pub bits_with : (x r : ℕ) (f : ℕ → Bool) → Bits r f → Bits (bit_or x r) (λ i. f i || bit x i)
bits_with x r f h i l = bit_or_by_bit i x r ∙ rw (h i l) (or_comm (bit x i) (f i))

pub bits-without : (x r : ℕ) (f : ℕ → Bool) → r < 2 ^ 64 → Bits r f → Bits (bit_and x ((2 ^ 64 - 1) - r)) (λ i. not (f i) && bit x i)
bits-without x r f t h i l = bits_less x r t i l ∙ rw (h i l) (and_comm (bit x i) (not (f i)))
