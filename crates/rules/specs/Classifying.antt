-- Classify: the first row of two lent lists that covers a row of 7.
use Rattle.std.specs.Prelude.{Bool, true, false, cond, ◌&&◌, List, [], ◌∷◌, ℕ, suc, ◌*◌, ◌-◌, ◌/◌, ◌%◌, ◌^◌, ℤ, pos, negsuc, eqb, leb, length, get_or, take, drop}
use Rattle.std.proofs.Math.Option.{Option, none, some}
use Rattle.rules.specs.Sizes.{max_positions, shown_size}
use Rattle.rules.specs.Samples.{Position, covers_all}
use Rattle.rules.specs.Rows.{parts, positions_from}

-- Of a mask all but the lowest bits, one a position, are ignored; a number below 0 has the bits of its 64-bit form.
unfoldable pub low_bits : ℕ → ℤ → ℕ
low_bits n (pos m) = m % 2 ^ n
low_bits n (negsuc m) = 2 ^ n - 1 - m % 2 ^ n

unfoldable pub shown_positions : ℕ → List ℤ → List Position
unfolding positions_from low_bits
shown_positions n row = positions_from (low_bits n (get_or row 0 (pos 0))) (drop 1 row) n 0

-- The number of the first row that covers, of the rows from number i on. A ragged tail is ignored.
unfoldable pub first_covering : ℕ → List ℤ → ℕ → List (List ℤ) → Option ℕ
unfolding covers_all shown_positions
first_covering n row i [] = none
first_covering n row i (r ∷ rs) = let later = first_covering n row (suc i) rs in cond (covers_all (shown_positions n r) (shown_positions n row)) (some i) later

unfoldable pub whole_rows : List ℤ → List (List ℤ)
unfolding parts
whole_rows list = parts shown_size (length list / shown_size) list

-- Which list the row lies in, and its number there.
pub data Class : Type 0 where
  nowhere : Class
  among_positives : ℕ → Class
  among_negatives : ℕ → Class

unfoldable pub or_negative : Option ℕ → Option ℕ → Class
or_negative (some i) n = among_positives i
or_negative none (some i) = among_negatives i
or_negative none none = nowhere

-- Positives are asked first. None, a row not of 7, or over 6 positions: nowhere.
unfoldable pub classify_if : Bool → List ℤ → List ℤ → List ℤ → ℕ → Class
unfolding or_negative first_covering whole_rows
classify_if false positives negatives row n = nowhere
classify_if true positives negatives row n = or_negative (first_covering n row 0 (whole_rows positives)) (first_covering n row 0 (whole_rows negatives))

unfoldable pub classify : List ℤ → List ℤ → List ℤ → ℕ → Class
unfolding classify_if
classify positives negatives row n = classify_if (eqb (length row) shown_size && leb n max_positions) positives negatives row n

-- The part of the caller's list that is given back: seven numbers, or the empty part at the start of the positives.
unfoldable pub part : ℕ → List ℤ → List ℤ
part i list = take shown_size (drop (shown_size * i) list)

unfoldable pub class_part : Class → List ℤ → List ℤ → List ℤ
unfolding part
class_part nowhere positives negatives = []
class_part (among_positives i) positives negatives = part i positives
class_part (among_negatives i) positives negatives = part i negatives
