-- What a line means: a call, or nothing (`bad`). A line is read whole, and against the declarations so far, before it is carried out.
use Rattle.std.specs.Prelude.{Bool, true, false, cond, ◌&&◌, List, [], ◌∷◌, ◌++◌, ℕ, ℤ, pos, eqb, leb, length}
use Rattle.std.proofs.Math.Option.{Option, none, some}
use Prim.Native.String.{String}
use Rattle.rules.specs.Sizes.{max_positions}
use Rattle.rules.specs.Values.{Value, Sort}
use Rattle.rules.specs.Samples.{Position}
use Rattle.rules.specs.Rows.{declared_as, mask_of, values_of}
use Rattle.rules.specs.Script.Bytes.{Bytes, text, space, comma, colon, same_bytes, split, read_number}

pub data Call : Type 0 where
  declares : List ℕ → Call
  adds : List ℤ → Bool → Call
  settles : Call
  checks : Call
  forces : ℤ → Bool → Call
  asks : ℤ → Call

unfoldable pub is : String → Bytes → Bool
unfolding same_bytes text
is word w = same_bytes (text word) w

-- What a word stands for, by a list of words and their meanings; else what another reading says.
unfoldable pub or_read : {A : Type 0} → Option A → Option A → Option A
or_read none later = later
or_read (some x) later = some x

unfoldable pub meaning : {A : Type 0} → String → A → Bytes → Option A
unfolding is
meaning word x w = cond (is word w) (some x) none

-- Every one of a list read, or nothing.
unfoldable pub also : {A : Type 0} → Option A → Option (List A) → Option (List A)
also none rest = none
also (some x) none = none
also (some x) (some xs) = some (x ∷ xs)

-- `d` and a word of `i`/`b` (`-` for none).
unfoldable pub read_sort : ℕ → Option ℕ
unfolding or_read meaning
read_sort b = or_read (meaning "i" 0 (b ∷ [])) (meaning "b" 1 (b ∷ []))

unfoldable pub read_sorts : Bytes → Option (List ℕ)
unfolding read_sort also
read_sorts [] = some []
read_sorts (b ∷ bs) = also (read_sort b) (read_sorts bs)

unfoldable pub read_sort_word : Bytes → Option (List ℕ)
unfolding or_read meaning read_sorts
read_sort_word [] = none
read_sort_word (b ∷ bs) = or_read (meaning "-" [] (b ∷ bs)) (read_sorts (b ∷ bs))

-- A sample is `0:1,?,t`: values decimal or `t`, `f` for 1, 0; `0:` has none.
unfoldable pub known_value : Option Value → Option Position
known_value none = none
known_value (some v) = some (some v)

unfoldable pub read_value : Bytes → Option Position
unfolding or_read meaning known_value read_number
read_value w = or_read (meaning "?" none w) (or_read (meaning "t" (some (pos 1)) w) (or_read (meaning "f" (some (pos 0)) w) (known_value (read_number w))))

unfoldable pub read_values : List Bytes → Option (List Position)
unfolding read_value also
read_values [] = some []
read_values (w ∷ ws) = also (read_value w) (read_values ws)

unfoldable pub read_positions : Bytes → Option (List Position)
unfolding read_values split
read_positions [] = some []
read_positions (b ∷ bs) = read_values (split comma (b ∷ bs))

-- Over six values, or a wrong number of values for a declared predicate, is bad.
unfoldable pub count_fits : ℕ → Option (List Sort) → Bool
count_fits n none = leb n max_positions
count_fits n (some sorts) = leb n max_positions && eqb n (length sorts)

-- The row of a sample: predicate, mask, six values.
unfoldable pub row_for : List (List Sort) → Option ℤ → Option (List Position) → Option (List ℤ)
unfolding count_fits declared_as mask_of values_of
row_for declared none xs = none
row_for declared (some p) none = none
row_for declared (some p) (some xs) = cond (count_fits (length xs) (declared_as p declared)) (some (p ∷ pos (mask_of xs) ∷ values_of max_positions xs)) none

unfoldable pub row_of_parts : List (List Sort) → List Bytes → Option (List ℤ)
unfolding row_for read_number read_positions
row_of_parts declared [] = none
row_of_parts declared (p ∷ []) = none
row_of_parts declared (p ∷ xs ∷ []) = row_for declared (read_number p) (read_positions xs)
row_of_parts declared (p ∷ xs ∷ y ∷ ys) = none

unfoldable pub read_sample : List (List Sort) → Bytes → Option (List ℤ)
unfolding row_of_parts split
read_sample declared w = row_of_parts declared (split colon w)

-- `c LEFT > RIGHT` adds (`!` is no right): the word before the last is `>`, then `!` or one sample.
unfoldable pub with_right : Option (List ℤ) → Option Call
with_right none = none
with_right (some row) = some (adds row true)

unfoldable pub with_left_row : Option (List ℤ) → Option Call → Option Call
with_left_row none rest = none
with_left_row (some row) none = none
with_left_row (some row) (some (declares ns)) = none
with_left_row (some row) (some (adds rows has_right)) = some (adds (row ++ rows) has_right)
with_left_row (some row) (some settles) = none
with_left_row (some row) (some checks) = none
with_left_row (some row) (some (forces p v)) = none
with_left_row (some row) (some (asks p)) = none

unfoldable pub read_right : List (List Sort) → Bytes → Option Call
unfolding or_read meaning with_right read_sample
read_right declared w = or_read (meaning "!" (adds [] false) w) (with_right (read_sample declared w))

unfoldable pub read_clause : List (List Sort) → List Bytes → Option Call
unfolding is read_right with_left_row read_sample
read_clause declared [] = none
read_clause declared (w ∷ []) = none
read_clause declared (w ∷ v ∷ []) = cond (is ">" w) (read_right declared v) none
read_clause declared (w ∷ v ∷ u ∷ ws) = with_left_row (read_sample declared w) (read_clause declared (v ∷ u ∷ ws))

-- The words after the letter of each other call.
unfoldable pub read_declare : List Bytes → Option Call
unfolding read_sort_word
read_declare [] = none
read_declare (w ∷ []) = elim (read_sort_word w) [ none ↦ none | some ns ↦ some (declares ns) ]
read_declare (w ∷ v ∷ ws) = none

unfoldable pub read_alone : Call → List Bytes → Option Call
read_alone call [] = some call
read_alone call (w ∷ ws) = none

unfoldable pub forcing : Option ℤ → Option Bool → Option Call
forcing none v = none
forcing (some p) none = none
forcing (some p) (some v) = some (forces p v)

unfoldable pub read_force : List Bytes → Option Call
unfolding forcing read_number or_read meaning
read_force [] = none
read_force (p ∷ []) = none
read_force (p ∷ v ∷ []) = forcing (read_number p) (or_read (meaning "0" false v) (meaning "1" true v))
read_force (p ∷ v ∷ w ∷ ws) = none

unfoldable pub asking : Option ℤ → Option Call
asking none = none
asking (some p) = some (asks p)

unfoldable pub read_ask : List Bytes → Option Call
unfolding asking read_number
read_ask [] = none
read_ask (p ∷ []) = asking (read_number p)
read_ask (p ∷ w ∷ ws) = none

-- One space parts words; the first word says which call.
unfoldable pub after : String → Bytes → Option Call → Option Call
unfolding is
after word w call = cond (is word w) call none

unfoldable pub read_words : List (List Sort) → List Bytes → Option Call
unfolding after or_read read_declare read_clause read_alone read_force read_ask
read_words declared [] = none
read_words declared (w ∷ ws) =
    or_read (after "d" w (read_declare ws))
    (or_read (after "c" w (read_clause declared ws))
    (or_read (after "s" w (read_alone settles ws))
    (or_read (after "k" w (read_alone checks ws))
    (or_read (after "f" w (read_force ws)) (after "q" w (read_ask ws))))))

unfoldable pub read_line : List (List Sort) → Bytes → Option Call
unfolding read_words split
read_line declared line = read_words declared (split space line)
