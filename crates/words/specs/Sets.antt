-- What a set of numbers below 256 holds: number k is bit k % 64 of word k / 64.
use Rattle.std.specs.Prelude.{◌≡◌, Bool, true, false, ℕ, zero, suc, ◌/◌, ◌%◌, ◌<◌, get_or, take}
use Rattle.rules.specs.Rows.{bit}
use Rattle.rules.specs.Contents.{count_if}
use Rattle.words.specs.declared.set.Set.{Set}

-- Past the four words there is nothing.
unfoldable pub word_at : Set → ℕ → ℕ
word_at s j = get_or (take 4 s.words) j 0

unfoldable pub in_set : Set → ℕ → Bool
unfolding word_at
in_set s k = bit (word_at s (k / 64)) (k % 64)

-- How many of the first n numbers pass a test.
unfoldable pub count_of : (ℕ → Bool) → ℕ → ℕ
unfolding count_if
count_of test zero = 0
count_of test (suc n) = count_if (test n) (count_of test n)

-- Each operation, by what the result holds.
abbrev pub Bits : ℕ → (ℕ → Bool) → Type 0
Bits x f = (i : ℕ) → i < 64 → bit x i ≡ f i

abbrev pub Holds : Set → (ℕ → Bool) → Type 0
Holds s f = (k : ℕ) → k < 256 → in_set s k ≡ f k

-- Whether it is empty, and if not, a member.
pub record Emptiness (s : Set) (r : Bool) : Type 0 where
  pub none : r ≡ true → Holds s (λ k. false)
  pub some : r ≡ false → (k : ℕ) × (k < 256) × (in_set s k ≡ true)
