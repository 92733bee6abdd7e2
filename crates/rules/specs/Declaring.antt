-- Declaring a predicate: the sort numbers of its positions.
use Rattle.std.specs.Prelude.{List, [], ◌∷◌, ◌++◌, ℕ, leb, ltb, length}
use Rattle.std.proofs.Math.Option.{Option, none, some}
use Rattle.rules.specs.Sizes.{max_predicates, max_positions}
use Rattle.rules.specs.Values.{Sort, sort_of}
use Rattle.rules.specs.Contents.{Contents}
use Rattle.rules.specs.Numbers.{Refusal, Outcome, done, is_marked, no_predicate_room, bad_mask, bad_value, when, first_of, unless}

unfoldable pub also_sort : Option Sort → Option (List Sort) → Option (List Sort)
also_sort none rest = none
also_sort (some s) none = none
also_sort (some s) (some rest) = some (s ∷ rest)

unfoldable pub sorts_of : List ℕ → Option (List Sort)
unfolding sort_of also_sort
sorts_of [] = some []
sorts_of (n ∷ ns) = also_sort (sort_of n) (sorts_of ns)

unfoldable pub all_sorts : Option (List Sort) → Option Refusal
all_sorts none = some bad_value
all_sorts (some sorts) = none

-- Order: 8, 10, 2, 3.
unfoldable pub declare_refusal : List ℕ → Contents → Option Refusal
unfolding first_of when all_sorts sorts_of
declare_refusal numbers c =
    first_of
    (when is_marked c.marked
    ∷ when no_predicate_room (leb max_predicates (length c.declared))
    ∷ when bad_mask (ltb max_positions (length numbers))
    ∷ all_sorts (sorts_of numbers)
    ∷ [])

unfoldable pub with_predicate : Option (List Sort) → Contents → Contents
with_predicate none c = c
with_predicate (some sorts) c = record { declared = c.declared ++ (sorts ∷ []); held = c.held; marked = c.marked }

-- The answer is the new predicate's number.
unfoldable pub declare : List ℕ → Contents → Outcome ℕ
unfolding unless declare_refusal with_predicate sorts_of
declare numbers c = unless (declare_refusal numbers c) c (record { answer = done (length c.declared); contents = with_predicate (sorts_of numbers) c })
