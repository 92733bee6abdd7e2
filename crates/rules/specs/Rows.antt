-- Rows: how samples stand in lent lists, and the tests of a row in their order.
use Rattle.std.specs.Prelude.{Bool, true, false, not, ◌&&◌, List, [], ◌∷◌, ◌++◌, ℕ, zero, suc, ◌+◌, ◌*◌, ◌-◌, ◌/◌, ◌%◌, ◌^◌, ℤ, pos, negsuc, eqb, ltb, leb, length, get_or, take, drop}
use Rattle.std.proofs.Math.Option.{Option, none, some}
use Rattle.std.proofs.Math.ListN.{get_elem?}
use Rattle.rules.specs.Sizes.{max_positions, max_left, row_size}
use Rattle.rules.specs.Values.{Value, Sort, equal_value, valid_value, blank}
use Rattle.rules.specs.Samples.{Position, Sample}
use Rattle.rules.specs.Contents.{Clause}
use Rattle.rules.specs.Numbers.{Refusal, undeclared, bad_mask, bad_value, when, or_else, first_of}

-- Predicate, mask, six values.
pub record Row : Type 0 where
  pub predicate : ℤ
  pub mask : ℤ
  pub values : List Value

unfoldable pub row_of : List ℤ → Row
row_of numbers = record { predicate = get_or numbers 0 (pos 0); mask = get_or numbers 1 (pos 0); values = drop 2 numbers }

-- The first n parts of k numbers each.
unfoldable pub parts : ℕ → ℕ → List ℤ → List (List ℤ)
parts k zero numbers = []
parts k (suc n) numbers = take k numbers ∷ parts k n (drop k numbers)

unfoldable pub row_count : List ℤ → ℕ
row_count numbers = length numbers / row_size

unfoldable pub rows_in : List (List ℤ) → List Row
unfolding row_of
rows_in [] = []
rows_in (p ∷ ps) = row_of p ∷ rows_in ps

unfoldable pub rows_of : List ℤ → List Row
unfolding rows_in parts row_count
rows_of numbers = rows_in (parts row_size (row_count numbers) numbers)

-- Mask bit i set means position i is known.
unfoldable pub bit : ℕ → ℕ → Bool
bit mask i = eqb ((mask / 2 ^ i) % 2) 1

unfoldable pub position : Bool → Value → Position
position true v = some v
position false v = none

-- The k positions from i on.
unfoldable pub positions_from : ℕ → List Value → ℕ → ℕ → List Position
unfolding bit position
positions_from mask values zero i = []
positions_from mask values (suc k) i = position (bit mask i) (get_or values i blank) ∷ positions_from mask values k (suc i)

-- A predicate or mask number that has passed its test is not below 0.
unfoldable pub natural : ℤ → ℕ
natural (pos n) = n
natural (negsuc n) = 0

-- The positions of a predicate number, if it is declared.
unfoldable pub declared_as : ℤ → List (List Sort) → Option (List Sort)
declared_as (pos p) declared = get_elem? declared p
declared_as (negsuc p) declared = none

-- 2: the mask is below 0 or has a bit past the positions.
unfoldable pub mask_fits : ℕ → ℤ → Bool
mask_fits positions (pos m) = ltb m (2 ^ positions)
mask_fits positions (negsuc m) = false

-- 3: a known position holds a value of its sort, an unknown or unused one holds 0.
unfoldable pub value_fits : Option Sort → Bool → Value → Bool
unfolding equal_value valid_value
value_fits none known v = equal_value v blank
value_fits (some sort) true v = valid_value sort v
value_fits (some sort) false v = equal_value v blank

-- The k positions from i on.
unfoldable pub values_fit : List Sort → ℕ → List Value → ℕ → ℕ → Bool
unfolding value_fits bit
values_fit sorts mask values zero i = true
values_fit sorts mask values (suc k) i = value_fits (get_elem? sorts i) (bit mask i) (get_or values i blank) && values_fit sorts mask values k (suc i)

-- The tests of one row, in order: 1, 2, 3.
unfoldable pub field_refusal : Option (List Sort) → Row → Option Refusal
unfolding first_of when mask_fits values_fit natural
field_refusal none r = some undeclared
field_refusal (some sorts) r =
    first_of
    (when bad_mask (not (mask_fits (length sorts) r.mask))
    ∷ when bad_value (not (values_fit sorts (natural r.mask) r.values max_positions 0))
    ∷ [])

unfoldable pub row_refusal : List (List Sort) → Row → Option Refusal
unfolding field_refusal declared_as
row_refusal declared r = field_refusal (declared_as r.predicate declared) r

-- For each row, left to right.
unfoldable pub rows_refusal : List (List Sort) → List Row → Option Refusal
unfolding row_refusal or_else
rows_refusal declared [] = none
rows_refusal declared (r ∷ rs) = or_else (row_refusal declared r) (rows_refusal declared rs)

-- The sample of a row of a declared predicate.
unfoldable pub position_count : Option (List Sort) → ℕ
position_count none = 0
position_count (some sorts) = length sorts

unfoldable pub sample_of : List (List Sort) → Row → Sample
unfolding natural positions_from position_count declared_as
sample_of declared r =
    record {
      pred = natural r.predicate;
      at = positions_from (natural r.mask) r.values (position_count (declared_as r.predicate declared)) 0;
    }

unfoldable pub samples_in : List (List Sort) → List Row → List Sample
unfolding sample_of
samples_in declared [] = []
samples_in declared (r ∷ rs) = sample_of declared r ∷ samples_in declared rs

-- 5: not whole rows, over 16 left rows, or the flag with no row.
unfoldable pub left_count : ℕ → Bool → ℕ
left_count rows true = rows - 1
left_count rows false = rows

unfoldable pub rows_fit : List ℤ → Bool → Bool
unfolding left_count row_count
rows_fit numbers has_right =
    eqb (length numbers % row_size) 0 && leb (left_count (row_count numbers) has_right) max_left && not (has_right && eqb (row_count numbers) 0)

-- The flag says that the last row is the right side; the others are the left.
unfoldable pub with_left : Sample → Clause → Clause
with_left s c = record { left = s ∷ c.left; right = c.right }

unfoldable pub last_is_right : List Sample → Clause
unfolding with_left
last_is_right [] = record { left = []; right = none }
last_is_right (s ∷ []) = record { left = []; right = some s }
last_is_right (s ∷ t ∷ l) = with_left s (last_is_right (t ∷ l))

unfoldable pub clause_of : Bool → List Sample → Clause
unfolding last_is_right
clause_of true l = last_is_right l
clause_of false l = record { left = l; right = none }

-- A shown row: mask and six values, unknown and unused ones 0.
unfoldable pub mask_of : List Position → ℕ
mask_of [] = 0
mask_of (none ∷ xs) = 2 * mask_of xs
mask_of (some x ∷ xs) = 1 + 2 * mask_of xs

unfoldable pub value_of : Position → Value
value_of none = blank
value_of (some x) = x

unfoldable pub values_of : ℕ → List Position → List Value
unfolding value_of
values_of zero xs = []
values_of (suc k) [] = blank ∷ values_of k []
values_of (suc k) (x ∷ xs) = value_of x ∷ values_of k xs

unfoldable pub shown_row : Sample → List ℤ
unfolding mask_of values_of
shown_row s = pos (mask_of s.at) ∷ values_of max_positions s.at

unfoldable pub shown_rows : List Sample → List ℤ
unfolding shown_row
shown_rows [] = []
shown_rows (s ∷ l) = shown_row s ++ shown_rows l
