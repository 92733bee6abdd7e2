-- How many numbers pass a test, in parts; how many bits a word has.
use mathlib.Core.Path.{◌≡◌, refl}
use mathlib.Core.Bool.{Bool, true, false}
use Prim.Native.Nat.{ℕ, zero, suc, ◌+◌, ◌*◌, ◌/◌, ◌%◌, ◌^◌, ◌≤◌, ◌<◌}
use native.Mathlib.Nat.{pow-suc}
use native.Mathlib.Omega.{arith}
use lib.Dec.{eqb}
use lib.Count.{ones, ones_step, ones-le}
use Rattle.rules.specs.Rows.{bit}
use Rattle.rules.specs.Contents.{count_if}
use Rattle.words.specs.Sets.{count_of}
use Rattle.words.proofs.Bits.{bit_first, bit_later, by_digit}

count_if_sum : (b : Bool) (m n : ℕ) → count_if b (m + n) ≡ m + count_if b n
unfolding count_if
count_if_sum true m n = omega arith
count_if_sum false m n = refl

count_if_le : (b : Bool) (m n : ℕ) → m ≤ n → count_if b m ≤ suc n
unfolding count_if
count_if_le true m n h = omega arith
count_if_le false m n h = omega arith

pub count_le : (test : ℕ → Bool) (n : ℕ) → count_of test n ≤ n
unfolding count_of
count_le test zero = omega arith
count_le test (suc n) = count_if_le (test n) (count_of test n) n (count_le test n)

-- Tests that agree count the same.
pub count_same : (test other : ℕ → Bool) (n : ℕ) → ((k : ℕ) → k < n → test k ≡ other k) → count_of test n ≡ count_of other n
unfolding count_of
count_same test other zero h = refl
count_same test other (suc n) h = rw (h n (omega arith), count_same test other n (λ k l. h k (omega arith)))

-- The first m, and the n after them.
pub count_parts : (test : ℕ → Bool) (m n : ℕ) → count_of test (m + n) ≡ count_of test m + count_of (λ k. test (m + k)) n
unfolding count_of
count_parts test m zero = let e : m + 0 ≡ m = omega arith in let f : count_of test m + 0 ≡ count_of test m = omega arith in rw (e, f)
count_parts test m (suc n) =
    let e : m + suc n ≡ suc (m + n) = omega arith in
    rw (e, count_parts test m n) (count_if_sum (test (m + n)) (count_of test m) (count_of (λ k. test (m + k)) n))

-- The kit's count of a word's bits.
count_first : (x : ℕ) → count_of (bit x) 1 ≡ x % 2
unfolding count_of
count_first x = rw (bit_first x) (by_digit (λ d. count_if (eqb d 1) 0 ≡ d) refl refl (x % 2) (omega arith))

pub count_ones : (w x : ℕ) → x < 2 ^ w → ones x ≡ count_of (bit x) w
count_ones zero x h = omega (arith, ones-le 0 x h, count_le (bit x) 0)
count_ones (suc w) x h =
    let twice : 2 ^ suc w ≡ 2 ^ w * 2 = pow-suc 2 w in
    let rest : ones (x / 2) ≡ count_of (bit (x / 2)) w = count_ones w (x / 2) (omega arith) in
    let shift : count_of (λ k. bit x (1 + k)) w ≡ count_of (bit (x / 2)) w = count_same (λ k. bit x (1 + k)) (bit (x / 2)) w (λ k l. later k) in
    let e : suc w ≡ 1 + w = omega arith in
    rw e (omega (arith, ones_step x, count_parts (bit x) 1 w, count_first x))
  where
    later : (k : ℕ) → bit x (1 + k) ≡ bit (x / 2) k
    later k = let e : 1 + k ≡ suc k = omega arith in rw e (bit_later x k)
