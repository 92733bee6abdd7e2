-- The code's tests of two positions and of two lists of positions are those of the rules.
use mathlib.Core.Path.{◌≡◌, refl, sym, ap, ◌∙◌}
use mathlib.Core.Bool.{Bool, true, false, cond, ◌&&◌}
use mathlib.Core.List.{List, [], ◌∷◌, map}
use mathlib.Core.Option.{none, some}
use Prim.Native.Nat.{ℕ, zero, suc, ◌<◌, ◌≤◌}
use native.Mathlib.Omega.{arith}
use native.Mathlib.Numerals.{add-one}
use lib.Dec.{eqb, ltb}
use lib.IntN.{ℤ, pos, negsuc}
use lib.Signed.{lt_z}
use borrow.Author.Tests.{eqb-true, eqb-false, eq-eqb, ne_eqb, ltb-true, ltb-false, lt-ltb, le-ltb}
use Rattle.std.specs.Option.{option_cmp}
use Rattle.std.proofs.Common.{Less, Equal, Greater}
use Rattle.std.specs.Ordering.{ordering_then, is_eq, int_cmp, int_eq}
use Rattle.std.specs.Cmp.Lexicographic.{slice_cmp}
use Rattle.std.specs.List.{list_all, range_with_len}
use Rattle.rules.specs.Rows.{positions_from}
use Rattle.rules.specs.Values.{equal_value, lower_value}
use Rattle.rules.specs.Samples.{Position, Sample, covers_at, overlaps_at, covers_all, overlaps_all, covers, overlaps, before_at, before_all, before}
use Rattle.rules.proofs.Laws.Bools.{same_truth}
use Rattle.sample.specs.declared.row.Row.{Row}
use Rattle.sample.specs.Options.{to_rules, to_code}
use Rattle.sample.specs.Rows.{shown, RowOk}
use Rattle.sample.specs.Ranks.{rank_by, rank_at, rank_of, rank_rows}
use Rattle.sample.specs.Ways.{agrees_all, agrees}
use Rattle.sample.proofs.Positions.{position_at}
use Rattle.sample.proofs.Pairwise.{six, six_positions, rank_all, rank_laws, ranking, agreeing}

-- Values.
lt_z-lower_value : (x y : ℤ) → lt_z x y ≡ lower_value x y
unfolding lower_value
lt_z-lower_value (pos m) (pos n) = refl
lt_z-lower_value (pos m) (negsuc n) = refl
lt_z-lower_value (negsuc m) (pos n) = refl
lt_z-lower_value (negsuc m) (negsuc n) = refl

int_cmp-rank : (x y : ℤ) → int_cmp x y ≡ rank_by (lower_value x y) (lower_value y x)
unfolding rank_by
int_cmp-rank x y = rw (← lt_z-lower_value x y, ← lt_z-lower_value y x)

-- Neither of two numbers is lower exactly if they are equal.
neither_lower : (m n : ℕ) → is_eq (cond (ltb m n) Less (cond (ltb n m) Greater Equal)) ≡ eqb m n
neither_lower m n = go (ltb m n) (ltb n m) refl refl
  where
    go : (p q : Bool) → ltb m n ≡ p → ltb n m ≡ q → is_eq (cond p Less (cond q Greater Equal)) ≡ eqb m n
    go true q e f = let l : m < n = ltb-true m n e in sym (ne_eqb m n (λ h. omega arith))
    go false true e f = let l : n < m = ltb-true n m f in sym (ne_eqb m n (λ h. omega arith))
    go false false e f = let h : n ≤ m = ltb-false m n e in let l : m ≤ n = ltb-false n m f in sym (eq-eqb m n (omega arith))

pub int_eq-equal_value : (x y : ℤ) → int_eq x y ≡ equal_value x y
unfolding equal_value
int_eq-equal_value (pos m) (pos n) = neither_lower m n
int_eq-equal_value (pos m) (negsuc n) = refl
int_eq-equal_value (negsuc m) (pos n) = refl
int_eq-equal_value (negsuc m) (negsuc n) = neither_lower n m ∙ same_truth (eqb n m) (eqb m n) (λ h. eq-eqb m n (sym (eqb-true n m h))) (λ h. eq-eqb n m (sym (eqb-true m n h)))

-- Positions.
option_cmp-rank_at : (x y : Position) → option_cmp int_cmp (to_code x) (to_code y) ≡ rank_at x y
unfolding rank_at rank_by before_at
option_cmp-rank_at none none = refl
option_cmp-rank_at none (some y) = refl
option_cmp-rank_at (some x) none = refl
option_cmp-rank_at (some x) (some y) = int_cmp-rank x y

-- Lists of positions.
slice_cmp-rank_all : (xs ys : List Position) → slice_cmp (option_cmp int_cmp) (map to_code xs) (map to_code ys) ≡ rank_all xs ys
unfolding rank_by before_all
slice_cmp-rank_all [] [] = refl
slice_cmp-rank_all [] (y ∷ ys) = refl
slice_cmp-rank_all (x ∷ xs) [] = refl
slice_cmp-rank_all (x ∷ xs) (y ∷ ys) = rw (option_cmp-rank_at x y, slice_cmp-rank_all xs ys) (sym (rank_laws.at_first x y xs ys))

-- A test of two lists that goes by turns is the one by its test of two positions.
module _ (one : Position → Position → Bool) (all : List Position → List Position → Bool)
    (at_end : all [] [] ≡ true) (left_ends : (y : Position) (ys : List Position) → all [] (y ∷ ys) ≡ false) (right_ends : (x : Position) (xs : List Position) → all (x ∷ xs) [] ≡ false)
    (turn : (x y : Position) (xs ys : List Position) → all (x ∷ xs) (y ∷ ys) ≡ (one x y && all xs ys)) where
  by_turns : (xs ys : List Position) → all xs ys ≡ agrees_all one xs ys
  unfolding agrees_all
  by_turns [] [] = at_end
  by_turns [] (y ∷ ys) = left_ends y ys
  by_turns (x ∷ xs) [] = right_ends x xs
  by_turns (x ∷ xs) (y ∷ ys) = turn x y xs ys ∙ ap (λ b. one x y && b) (by_turns xs ys)

-- Covering and overlapping are such ways to agree.
pub covers-agrees : (s t : Sample) → covers s t ≡ agrees covers_at s t
unfolding covers agrees
covers-agrees s t = ap (λ b. eqb s.pred t.pred && b) (by_turns covers_at covers_all refl (λ y ys. refl) (λ x xs. refl) (λ x y xs ys. refl) s.at t.at)

pub overlaps-agrees : (s t : Sample) → overlaps s t ≡ agrees overlaps_at s t
unfolding overlaps agrees
overlaps-agrees s t = ap (λ b. eqb s.pred t.pred && b) (by_turns overlaps_at overlaps_all refl (λ y ys. refl) (λ x xs. refl) (λ x y xs ys. refl) s.at t.at)

-- Two rows by predicate, then by their six positions.
pub rank_of_rows : (a b : Row) (of : ℕ → ℕ) → RowOk of a → RowOk of b
    → rank_rows a b ≡ rank_of (shown of a) (shown of b)
unfolding rank_rows rank_of rank_by before shown
rank_of_rows a b of p q = rw (slice_cmp-rank_all (six a) (six b)) (go (ltb a.pred.0 b.pred.0) (eqb a.pred.0 b.pred.0) refl refl)
  where
    go : (l e : Bool) → ltb a.pred.0 b.pred.0 ≡ l → eqb a.pred.0 b.pred.0 ≡ e
        → ordering_then (cond l Less (cond e Equal Greater)) (rank_all (six a) (six b)) ≡ rank_of (shown of a) (shown of b)
    go true e lower r = rw lower
    go false true higher r =
        let same : a.pred.0 ≡ b.pred.0 = eqb-true a.pred.0 b.pred.0 r in
        six_positions ranking a b of p q same ∙ rw (higher, r, eq-eqb b.pred.0 a.pred.0 (sym same), le-ltb b.pred.0 a.pred.0 (omega arith))
    go false false higher r =
        let other : a.pred.0 ≡ b.pred.0 → ⊥ = eqb-false a.pred.0 b.pred.0 r in
        let above : b.pred.0 ≤ a.pred.0 = ltb-false a.pred.0 b.pred.0 higher in
        rw (higher, r, lt-ltb b.pred.0 a.pred.0 (omega arith))

pub agrees_of_rows : (test : Position → Position → Bool) (h : test none none ≡ true) (a b : Row) (of : ℕ → ℕ) → RowOk of a → RowOk of b
    → (eqb a.pred.0 b.pred.0 && agrees_all test (six a) (six b)) ≡ agrees test (shown of a) (shown of b)
unfolding agrees shown
agrees_of_rows test h a b of p q = go (eqb a.pred.0 b.pred.0) refl
  where
    go : (e : Bool) → eqb a.pred.0 b.pred.0 ≡ e → (e && agrees_all test (six a) (six b)) ≡ agrees test (shown of a) (shown of b)
    go true r = rw r (six_positions (agreeing test h) a b of p q (eqb-true a.pred.0 b.pred.0 r))
    go false r = rw r

-- The code's test of the k positions from i on.
pub all_from : (test : Position → Position → Bool) (a b : Row) (k i : ℕ)
    → list_all (λ j. test (position_at a.mask a.v j) (position_at b.mask b.v j)) (range_with_len i k) ≡ agrees_all test (positions_from a.mask a.v k i) (positions_from b.mask b.v k i)
unfolding agrees_all positions_from
all_from test a b zero i = refl
all_from test a b (suc k) i = rw (add-one i, all_from test a b k (suc i))

pub back : (p : Position) → to_rules (to_code p) ≡ p
back none = refl
back (some v) = refl
