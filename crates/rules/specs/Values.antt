-- Values and sorts. Of a value the rules on samples ask three things and no more: whether two are equal, which of two is the lower, and whether one is valid for a sort.
use Rattle.std.specs.Prelude.{Bool, true, false, ◌||◌, ℕ, zero, suc, ◌^◌, ℤ, pos, negsuc, eqb, ltb}
use Rattle.std.proofs.Math.Option.{Option, none, some}

abbrev pub Value : Type 0
Value = ℤ

unfoldable pub equal_value : Value → Value → Bool
equal_value (pos m) (pos n) = eqb m n
equal_value (pos m) (negsuc n) = false
equal_value (negsuc m) (pos n) = false
equal_value (negsuc m) (negsuc n) = eqb m n

unfoldable pub lower_value : Value → Value → Bool
lower_value (pos m) (pos n) = ltb m n
lower_value (pos m) (negsuc n) = false
lower_value (negsuc m) (pos n) = true
lower_value (negsuc m) (negsuc n) = ltb n m

-- What an unknown or unused position holds in a row.
abbrev pub blank : Value
blank = pos 0

pub data Sort : Type 0 where
  integer : Sort
  truth : Sort

-- Sort 0 is an integer, sort 1 a truth value; there is no other.
unfoldable pub sort_of : ℕ → Option Sort
sort_of zero = some integer
sort_of (suc zero) = some truth
sort_of (suc (suc n)) = none

-- The integers are i64.
unfoldable pub in_i64 : ℤ → Bool
in_i64 (pos n) = ltb n (2 ^ 63)
in_i64 (negsuc n) = ltb n (2 ^ 63)

unfoldable pub valid_value : Sort → Value → Bool
unfolding in_i64 equal_value
valid_value integer v = in_i64 v
valid_value truth v = equal_value v (pos 0) || equal_value v (pos 1)
