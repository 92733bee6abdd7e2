-- Bytes: texts, parts between separators, lines, and decimal numbers.
use Rattle.std.specs.Prelude.{Bool, true, false, cond, ◌&&◌, List, [], ◌∷◌, ◌++◌, ℕ, zero, suc, ◌+◌, ◌*◌, ◌-◌, ◌/◌, ◌%◌, ℤ, pos, negsuc, neg_ℤ, eqb, leb, ltb}
use Rattle.std.proofs.Math.Option.{Option, none, some}
use Prim.Native.String as S
use Prim.Native.String.{String}
use Prim.Native.Char.{code}
use Rattle.rules.specs.Values.{in_i64}

abbrev pub Bytes : Type 0
Bytes = List ℕ

-- A quoted ASCII text as bytes.
unfoldable pub text : String → Bytes
text S.[] = []
text (S.◌∷◌ c s) = code c ∷ text s

abbrev pub newline : ℕ
newline = 10

abbrev pub space : ℕ
space = 32

abbrev pub comma : ℕ
comma = 44

abbrev pub minus : ℕ
minus = 45

abbrev pub colon : ℕ
colon = 58

unfoldable pub same_bytes : Bytes → Bytes → Bool
same_bytes [] [] = true
same_bytes [] (y ∷ ys) = false
same_bytes (x ∷ xs) [] = false
same_bytes (x ∷ xs) (y ∷ ys) = eqb x y && same_bytes xs ys

-- The parts between the separators: always one more than there are separators.
unfoldable pub split_as : Bool → ℕ → List Bytes → List Bytes
split_as true b parts = [] ∷ parts
split_as false b [] = (b ∷ []) ∷ []
split_as false b (p ∷ ps) = (b ∷ p) ∷ ps

unfoldable pub split : ℕ → Bytes → List Bytes
unfolding split_as
split separator [] = [] ∷ []
split separator (b ∷ bs) = split_as (eqb b separator) b (split separator bs)

-- The lines of an input; the last newline may lack.
unfoldable pub drop_last_empty : List Bytes → List Bytes
drop_last_empty [] = []
drop_last_empty ([] ∷ []) = []
drop_last_empty ((b ∷ bs) ∷ []) = (b ∷ bs) ∷ []
drop_last_empty (l ∷ m ∷ ls) = l ∷ drop_last_empty (m ∷ ls)

unfoldable pub lines : Bytes → List Bytes
unfolding drop_last_empty split
lines input = drop_last_empty (split newline input)

-- Numbers: digits, perhaps after `-`, within i64.
unfoldable pub digit_of : ℕ → Option ℕ
digit_of b = cond (leb 48 b && leb b 57) (some (b - 48)) none

unfoldable pub on_digit : Option ℕ → ℕ → (ℕ → Option ℕ) → Option ℕ
on_digit none n more = none
on_digit (some d) n more = more (10 * n + d)

unfoldable pub digits_from : ℕ → Bytes → Option ℕ
unfolding on_digit digit_of
digits_from n [] = some n
digits_from n (b ∷ bs) = on_digit (digit_of b) n (λ m. digits_from m bs)

unfoldable pub read_digits : Bytes → Option ℕ
unfolding digits_from
read_digits [] = none
read_digits (b ∷ bs) = digits_from 0 (b ∷ bs)

unfoldable pub if_in_i64 : ℤ → Option ℤ
unfolding in_i64
if_in_i64 z = cond (in_i64 z) (some z) none

unfoldable pub signed_as : Bool → Option ℕ → Option ℤ
unfolding if_in_i64
signed_as below none = none
signed_as true (some n) = if_in_i64 (neg_ℤ (pos n))
signed_as false (some n) = if_in_i64 (pos n)

unfoldable pub read_from : Bool → ℕ → Bytes → Option ℤ
unfolding signed_as read_digits
read_from true b bs = signed_as true (read_digits bs)
read_from false b bs = signed_as false (read_digits (b ∷ bs))

unfoldable pub read_number : Bytes → Option ℤ
unfolding read_from
read_number [] = none
read_number (b ∷ bs) = read_from (eqb b minus) b bs

-- A number in decimal digits, at most k of them; twenty hold every number that is printed.
unfoldable pub decimal_digits : ℕ → ℕ → Bytes
decimal_digits zero n = []
decimal_digits (suc k) n = let rest = decimal_digits k (n / 10) ++ ((48 + n % 10) ∷ []) in cond (ltb n 10) ((48 + n) ∷ []) rest

unfoldable pub decimal : ℕ → Bytes
unfolding decimal_digits
decimal n = decimal_digits 20 n

unfoldable pub signed_decimal : ℤ → Bytes
unfolding decimal
signed_decimal (pos n) = decimal n
signed_decimal (negsuc n) = minus ∷ decimal (suc n)
