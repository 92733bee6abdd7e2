-- The test of a row's six values, and what it says of those that are unknown or unused.
use mathlib.Core.Path.{◌≡◌, refl}
use mathlib.Core.Bool.{Bool, true, false}
use mathlib.Core.List.{List}
use mathlib.Core.Option.{Option, none, some}
use Prim.Native.Nat.{ℕ, zero, suc, ◌+◌, ◌^◌, ◌≤◌, ◌<◌}
use native.Mathlib.Nat.{zero-add}
use native.Mathlib.Numerals.{add-one}
use native.Mathlib.Omega.{arith}
use lib.ListN.{length, get_or, get_elem?}
use Rattle.std.specs.List.{list_all, range_with_len}
use Rattle.rules.specs.Values.{Value, Sort, blank}
use Rattle.rules.specs.Rows.{bit, value_fits, values_fit}
use Rattle.rules.proofs.Laws.Bools.{and_split}
use Rattle.rules.proofs.Laws.Covering.{equal_true}
use Rattle.sample.proofs.Positions.{bit_past}
use Rattle.sample.specs.Declarations.{sort_by, sorts_from}
use Rattle.sample.proofs.Tabled.{past_end, tabled_length, tabled_at}

-- The sorts that a signature gives: one for each of its positions, by the bit there.
pub sorts_length : (truths n i : ℕ) → length (sorts_from truths n i) ≡ n
unfolding sorts_from
sorts_length truths n i = tabled_length (λ j. sort_by (bit truths j)) (sorts_from truths) (λ j. refl) (λ m j. refl) n i

sorts_at : (truths n i k : ℕ) → k < n → get_elem? (sorts_from truths n i) k ≡ some (sort_by (bit truths (i + k)))
unfolding sorts_from
sorts_at truths n i k h = tabled_at (λ j. sort_by (bit truths j)) (sorts_from truths) (λ j. refl) (λ m j. refl) n i k h

-- Past them the rules ask for 0, and so does a mask with no bit there.
position_fits : (truths mask n i : ℕ) (v : Value) → mask < 2 ^ n
    → value_fits (get_elem? (sorts_from truths n 0) i) (bit mask i) v ≡ value_fits (some (sort_by (bit truths i))) (bit mask i) v
unfolding value_fits
position_fits truths mask n i v h =
    grind (arith, zero-add, sorts_at truths n 0 i, sorts_length truths n 0, past_end (sorts_from truths n 0) i, bit_past mask n i h)

-- What the code asks of position i.
abbrev pub fits_at : ℕ → ℕ → List Value → ℕ → Bool
fits_at truths mask values i = value_fits (some (sort_by (bit truths i))) (bit mask i) (get_or values i blank)

-- The code asks it of all six, whatever the number of positions that the mask leaves room for.
pub all_fit : (truths mask n : ℕ) (values : List Value) → mask < 2 ^ n → (k i : ℕ)
    → list_all (fits_at truths mask values) (range_with_len i k) ≡ values_fit (sorts_from truths n 0) mask values k i
unfolding values_fit
all_fit truths mask n values h zero i = refl
all_fit truths mask n values h (suc k) i =
    rw (position_fits truths mask n i (get_or values i blank) h, add-one i, all_fit truths mask n values h k (suc i))

-- Values that fit are 0 where the mask has no bit.
blank_at : (sort : Option Sort) (v : Value) → value_fits sort false v ≡ true → v ≡ blank
unfolding value_fits
blank_at none v h = equal_true v blank h
blank_at (some s) v h = equal_true v blank h

pub fit_blank : (sorts : List Sort) (mask : ℕ) (values : List Value) (k i : ℕ) → values_fit sorts mask values k i ≡ true
    → (j : ℕ) → i ≤ j → j < i + k → bit mask j ≡ false → get_or values j blank ≡ blank
unfolding values_fit
fit_blank sorts mask values zero i h j le less b = absurd (omega arith)
fit_blank sorts mask values (suc k) i h j le less b =
    let both_fit = and_split (value_fits (get_elem? sorts i) (bit mask i) (get_or values i blank)) (values_fit sorts mask values k (suc i)) h in
    grind (arith, blank_at (get_elem? sorts j) (get_or values j blank), fit_blank sorts mask values k (suc i) both_fit.1 j)
