-- What an answer prints: letter, code, then its numbers.
use Rattle.std.specs.Prelude.{Bool, true, false, cond, List, [], ◌∷◌, ◌++◌, ℕ, pos, length, get_or}
use Rattle.std.proofs.Math.Option.{none, some}
use Prim.Native.String.{String}
use Rattle.rules.specs.Values.{Sort, integer, truth, equal_value}
use Rattle.rules.specs.Samples.{Position, Sample}
use Rattle.rules.specs.Numbers.{Answer, done, refused, code, beside}
use Rattle.rules.specs.Settling.{Counts, no_counts}
use Rattle.rules.specs.Checking.{Verdict, check_code}
use Rattle.rules.specs.Showing.{Groups}
use Rattle.rules.specs.Script.Bytes.{Bytes, text, newline, space, comma, colon, decimal, signed_decimal}

unfoldable pub spaced : List ℕ → Bytes
unfolding decimal
spaced [] = newline ∷ []
spaced (n ∷ ns) = space ∷ decimal n ++ spaced ns

unfoldable pub answer_line : String → List ℕ → Bytes
unfolding text spaced
answer_line letter numbers = text letter ++ spaced numbers

unfoldable pub bit01 : Bool → ℕ
bit01 true = 1
bit01 false = 0

-- `d` the predicate; `c` 1 if new; `s` positives, negatives, draws; `k` and `f` no more.
unfoldable pub print_declared : Answer ℕ → Bytes
unfolding answer_line code beside
print_declared a = answer_line "d" (code a ∷ beside 0 a ∷ [])

unfoldable pub print_added : Answer Bool → Bytes
unfolding answer_line code beside bit01
print_added a = answer_line "c" (code a ∷ bit01 (beside false a) ∷ [])

unfoldable pub print_settled : Answer Counts → Bytes
unfolding answer_line code beside
print_settled a = let n = beside no_counts a in answer_line "s" (code a ∷ n.positives ∷ n.negatives ∷ n.draws ∷ [])

unfoldable pub print_checked : Answer Verdict → Bytes
unfolding answer_line check_code
print_checked a = answer_line "k" (check_code a ∷ [])

unfoldable pub print_forced : Answer Counts → Bytes
unfolding answer_line code
print_forced a = answer_line "f" (code a ∷ [])

-- Values decimal, truth values `t` and `f`, unknown ones `?`.
unfoldable pub print_value : Sort → Position → Bytes
unfolding text signed_decimal equal_value
print_value sort none = text "?"
print_value integer (some v) = signed_decimal v
print_value truth (some v) = cond (equal_value v (pos 0)) (text "f") (text "t")

unfoldable pub print_values : List Sort → List Position → Bytes
unfolding print_value
print_values [] xs = []
print_values (s ∷ ss) [] = []
print_values (s ∷ []) (x ∷ xs) = print_value s x
print_values (s ∷ t ∷ ss) (x ∷ xs) = print_value s x ++ comma ∷ print_values (t ∷ ss) xs

unfoldable pub print_sample : List (List Sort) → Sample → Bytes
unfolding decimal print_values
print_sample declared s = decimal s.pred ++ colon ∷ print_values (get_or declared s.pred []) s.at

-- `q` counts of positives, negatives, unclassified, then one line each with `+`, `-`, `.`.
unfoldable pub sample_lines : List (List Sort) → String → List Sample → Bytes
unfolding text print_sample
sample_lines declared sign [] = []
sample_lines declared sign (s ∷ l) = text sign ++ space ∷ print_sample declared s ++ newline ∷ sample_lines declared sign l

unfoldable pub print_groups : List (List Sort) → Groups → Bytes
unfolding sample_lines
print_groups declared g = sample_lines declared "+" g.positives ++ (sample_lines declared "-" g.negatives ++ sample_lines declared "." g.unclassified)

unfoldable pub print_shown : List (List Sort) → Answer Groups → Bytes
unfolding answer_line code print_groups
print_shown declared (done g) = answer_line "q" (0 ∷ length g.positives ∷ length g.negatives ∷ length g.unclassified ∷ []) ++ print_groups declared g
print_shown declared (refused r) = answer_line "q" (code {A = Groups} (refused r) ∷ 0 ∷ 0 ∷ 0 ∷ [])
