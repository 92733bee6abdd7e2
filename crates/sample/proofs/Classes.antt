-- What covering asks at one position of two rows of seven, and the search of a covering row among the rows of a list.
use mathlib.Core.Path.{◌≡◌, refl, ap, ◌∙◌}
use mathlib.Core.Bool.{Bool}
use mathlib.Core.List.{List, [], ◌∷◌, ◌++◌}
use mathlib.Core.Option.{none, some}
use Prim.Native.Nat.{ℕ, zero, suc, ◌+◌, ◌*◌, ◌/◌, ◌≤◌, ◌<◌}
use native.Mathlib.Numerals.{add-one}
use native.Mathlib.Omega.{arith}
use lib.IntN.{ℤ, pos}
use lib.ListN.{length, get_or, drop, length-append}
use lib.Seq.{get_or-drop}
use Rattle.std.specs.List.{list_all, range_with_len, position_from}
use Rattle.std.specs.Slice.Iter.{chunks_exact_rest, chunks_exact_size, chunks_exact_steps}
use Rattle.std.specs.declared.slice.ChunksExact.{ChunksExact}
use Rattle.std.proofs.lemmas.List.{take_at, drop_at}
use Rattle.std.proofs.lemmas.Iterator.{YieldsList}
use Rattle.std.proofs.lemmas.Iterator.Splits.{YieldsList-from_shown_while}
use Rattle.rules.specs.Sizes.{shown_size}
use Rattle.rules.specs.Values.{blank}
use Rattle.rules.specs.Samples.{Position, covers_at, covers_all}
use Rattle.rules.specs.Rows.{bit, position, positions_from, parts}
use Rattle.rules.specs.Classifying.{low_bits, shown_positions, first_covering, whole_rows}
use Rattle.sample.specs.Options.{to_rules, to_code}
use Rattle.sample.proofs.Masks.{bit-same}

-- Position i of a row of seven, by the bits of the mask up to i.
abbrev shown_at : List ℤ → ℕ → Position
shown_at row i = position (bit (low_bits (suc i) (get_or row 0 (pos 0))) i) (get_or row (1 + i) blank)

-- Row a covers row b there.
abbrev pub covers_one : List ℤ → List ℤ → ℕ → Bool
covers_one a b i = covers_at (shown_at a i) (shown_at b i)

-- A position as the code's Option, and back.
pub there_and_back : (p : Position) → to_rules (to_code p) ≡ p
there_and_back none = refl
there_and_back (some v) = refl

shown_at_lem : (n : ℕ) (row : List ℤ) (i : ℕ) → i < n → shown_at row i ≡ position (bit (low_bits n (get_or row 0 (pos 0))) i) (get_or (drop 1 row) i blank)
shown_at_lem n row i h = rw (bit-same (get_or row 0 (pos 0)) i n h, get_or-drop 1 row i blank)

-- The k positions from i on.
covers_rest : (n : ℕ) (a b : List ℤ) (k i : ℕ) → i + k ≤ n
    → list_all (covers_one a b) (range_with_len i k)
    ≡ covers_all (positions_from (low_bits n (get_or a 0 (pos 0))) (drop 1 a) k i) (positions_from (low_bits n (get_or b 0 (pos 0))) (drop 1 b) k i)
unfolding covers_all positions_from
covers_rest n a b zero i h = refl
covers_rest n a b (suc k) i h = rw (shown_at_lem n a i (omega arith), shown_at_lem n b i (omega arith), add-one i, covers_rest n a b k (suc i) (omega arith))

pub covers_each : (n : ℕ) (a b : List ℤ) → list_all (covers_one a b) (range_with_len 0 n) ≡ covers_all (shown_positions n a) (shown_positions n b)
unfolding shown_positions
covers_each n a b = covers_rest n a b n 0 (omega arith)

-- The whole rows of a list: how many they are, and the first of them.
parts-length : (k n : ℕ) (l : List ℤ) → length (parts k n l) ≡ n
unfolding parts
parts-length k zero l = refl
parts-length k (suc n) l = ap suc (parts-length k n (drop k l))

rows_more : (x l : List ℤ) → length x ≡ shown_size → whole_rows (x ++ l) ≡ x ∷ whole_rows l
unfolding whole_rows parts
rows_more x l h =
    let n : length (x ++ l) / shown_size ≡ suc (length l / shown_size) = omega (arith, length-append x l) in
    rw (n, take_at x l shown_size h, drop_at x l shown_size h)

rows_none : (l : List ℤ) → length l < shown_size → length (whole_rows l) ≡ 0
unfolding whole_rows
rows_none l h = parts-length shown_size (length l / shown_size) l ∙ omega arith

-- `chunks_exact` gives them.
pub gives_rows : {s : ChunksExact ℤ} (list : List ℤ) → chunks_exact_rest s ≡ list → chunks_exact_size s ≡ shown_size
    → YieldsList chunks_exact_steps (λ x. x.now) s (whole_rows list)
gives_rows {s} list e size =
    rw (← e)
    (YieldsList-from_shown_while chunks_exact_steps (λ x. x.now) (λ t. whole_rows (chunks_exact_rest t)) (λ t. chunks_exact_size t ≡ shown_size)
    (λ t u p h. rows_none (chunks_exact_rest t) (omega (arith, h.1.0, p)))
    (λ t x u p h. (h.0 ∙ p, ap whole_rows h.1.0 ∙ rows_more x.now (chunks_exact_rest u) (h.1.1 ∙ p)))
    s size)

-- The first of them that covers.
abbrev pub covers_row : ℕ → List ℤ → List ℤ → Bool
covers_row n row r = covers_all (shown_positions n r) (shown_positions n row)

pub first_found : (n : ℕ) (row : List ℤ) (rs : List (List ℤ)) (k : ℕ) → to_rules (position_from (covers_row n row) k rs) ≡ first_covering n row k rs
unfolding first_covering
first_found n row [] k = refl
first_found n row (r ∷ rs) k = rw add-one (grind (arith, first_found n row rs (suc k)))

-- A row that is found lies in the list.
first_below : (n : ℕ) (row : List ℤ) (k : ℕ) (rs : List (List ℤ)) (i : ℕ) → first_covering n row k rs ≡ some i → i < k + length rs
unfolding first_covering
first_below n row k [] i e = cc
first_below n row k (r ∷ rs) i e = grind (arith, first_below n row (suc k) rs i)

pub found_below : (n : ℕ) (row list : List ℤ) (k : ℕ) → first_covering n row 0 (whole_rows list) ≡ some k → k * shown_size + shown_size ≤ length list
unfolding whole_rows
found_below n row list k e = omega (arith, first_below n row 0 (whole_rows list) k e, parts-length shown_size (length list / shown_size) list)
