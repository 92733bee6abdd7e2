-- The pool: a row for each number, the order of the numbers in use, and when they are in order.
use Rattle.std.specs.Prelude.{◌≡◌, true, not, List, [], ℕ, ◌≤◌, ◌<◌, length, get_or, take}
use Rattle.rules.specs.Samples.{Sample, total}
use Rattle.words.specs.Sets.{in_set}
use Rattle.words.specs.declared.set.Set.{Set}
use Rattle.sample.specs.declared.row.Row.{Row}
use Rattle.sample.specs.Rows.{shown, RowOk}
use Rattle.pool.specs.Picks.{pick, Among, Rises}

-- The row of each number; past the table, one that is not in order.
abbrev pub Table : Type 0
Table = List Row

abbrev pub no_row : Row
no_row = record { pred = record { 0 = 0 }; mask = 0; v = [] }

unfoldable pub row_at : Table → ℕ → Row
row_at t k = get_or t k no_row

-- The sample of a number.
abbrev pub sample_at : (ℕ → ℕ) → Table → ℕ → Sample
sample_at positions t k = shown positions (row_at t k)

-- The numbers in use: the first n of the order.
abbrev pub in_use : ℕ → List ℕ → List ℕ
in_use n order = take n order

-- The samples of a set.
abbrev pub members : (ℕ → ℕ) → Table → ℕ → List ℕ → Set → List Sample
members positions t n order set = pick (sample_at positions t) (in_set set) (in_use n order)

-- The order has each number once; those in use rise, and their rows are in order.
pub record PoolOk (positions : ℕ → ℕ) (t : Table) (n : ℕ) (order : List ℕ) : Type 0 where
  pub few : n ≤ 256
  pub full : length order ≡ 256
  pub numbers : (i : ℕ) → i < 256 → get_or order i 0 < 256
  pub once : (i j : ℕ) → i < 256 → j < 256 → get_or order i 0 ≡ get_or order j 0 → i ≡ j
  pub rises : Rises (sample_at positions t) (in_use n order)
  pub rows : (k : ℕ) → Among k (in_use n order) → RowOk positions (row_at t k)
  pub table : length t ≡ 256

-- A bit for each number in use says whether its sample is partial.
abbrev pub PartialOk : (ℕ → ℕ) → Table → ℕ → List ℕ → Set → Type 0
PartialOk positions t n order partial = (k : ℕ) → Among k (in_use n order) → in_set partial k ≡ not (total (sample_at positions t k))

-- A set holds numbers in use alone.
abbrev pub Within : ℕ → List ℕ → Set → Type 0
Within n order set = (k : ℕ) → k < 256 → in_set set k ≡ true → Among k (in_use n order)
