-- Samples: when one covers another, when two overlap, which are single, and their order.
use Rattle.std.specs.Prelude.{Bool, true, false, not, ◌&&◌, ◌||◌, List, [], ◌∷◌, ℕ, suc, eqb, ltb, length, get_or}
use Rattle.std.proofs.Math.Option.{Option, none, some}
use Rattle.rules.specs.Values.{Value, equal_value, lower_value, Sort, valid_value}

-- A position is unknown (none) or holds a known value.
abbrev pub Position : Type 0
Position = Option Value

pub record Sample : Type 0 where
  pub pred : ℕ
  pub at : List Position

-- A sample is valid if its predicate is declared, with as many positions, and each known value is valid for its position's sort.
unfoldable pub valid_at : Sort → Position → Bool
unfolding valid_value
valid_at sort none = true
valid_at sort (some v) = valid_value sort v

unfoldable pub valid_positions : List Sort → List Position → Bool
unfolding valid_at
valid_positions [] [] = true
valid_positions [] (x ∷ xs) = false
valid_positions (sort ∷ sorts) [] = false
valid_positions (sort ∷ sorts) (x ∷ xs) = valid_at sort x && valid_positions sorts xs

unfoldable pub valid_sample : List (List Sort) → Sample → Bool
unfolding valid_positions
valid_sample declared s = ltb s.pred (length declared) && valid_positions (get_or declared s.pred []) s.at

-- A covers B (same predicate) if at each position A is unknown or both are known and equal.
unfoldable pub covers_at : Position → Position → Bool
unfolding equal_value
covers_at none y = true
covers_at (some x) none = false
covers_at (some x) (some y) = equal_value x y

unfoldable pub covers_all : List Position → List Position → Bool
unfolding covers_at
covers_all [] [] = true
covers_all [] (y ∷ ys) = false
covers_all (x ∷ xs) [] = false
covers_all (x ∷ xs) (y ∷ ys) = covers_at x y && covers_all xs ys

unfoldable pub covers : Sample → Sample → Bool
unfolding covers_all
covers a b = eqb a.pred b.pred && covers_all a.at b.at

-- They overlap if no position is known in both and different.
unfoldable pub overlaps_at : Position → Position → Bool
unfolding equal_value
overlaps_at none y = true
overlaps_at (some x) none = true
overlaps_at (some x) (some y) = equal_value x y

unfoldable pub overlaps_all : List Position → List Position → Bool
unfolding overlaps_at
overlaps_all [] [] = true
overlaps_all [] (y ∷ ys) = false
overlaps_all (x ∷ xs) [] = false
overlaps_all (x ∷ xs) (y ∷ ys) = overlaps_at x y && overlaps_all xs ys

unfoldable pub overlaps : Sample → Sample → Bool
unfolding overlaps_all
overlaps a b = eqb a.pred b.pred && overlaps_all a.at b.at

-- A sample is single if it has more than one position and exactly one known position.
unfoldable pub known_count : List Position → ℕ
known_count [] = 0
known_count (none ∷ xs) = known_count xs
known_count (some x ∷ xs) = suc (known_count xs)

unfoldable pub single : Sample → Bool
unfolding known_count
single s = ltb 1 (length s.at) && eqb (known_count s.at) 1

-- A sample is total if no position is unknown.
unfoldable pub total : Sample → Bool
unfolding known_count
total s = eqb (known_count s.at) (length s.at)

-- Order of samples: by position, unknown first, then rising value. Across predicates the lower one comes first.
unfoldable pub before_at : Position → Position → Bool
unfolding lower_value
before_at none none = false
before_at none (some y) = true
before_at (some x) none = false
before_at (some x) (some y) = lower_value x y

unfoldable pub before_all : List Position → List Position → Bool
unfolding before_at
before_all [] [] = false
before_all [] (y ∷ ys) = true
before_all (x ∷ xs) [] = false
before_all (x ∷ xs) (y ∷ ys) = before_at x y || (not (before_at y x) && before_all xs ys)

unfoldable pub before : Sample → Sample → Bool
unfolding before_all
before a b = ltb a.pred b.pred || (eqb a.pred b.pred && before_all a.at b.at)

-- Two samples are the same if each covers the other.
unfoldable pub same : Sample → Sample → Bool
unfolding covers
same a b = covers a b && covers b a
