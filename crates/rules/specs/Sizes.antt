-- The sizes of a store and of what is lent to it.
use Rattle.std.specs.Prelude.{ℕ}

abbrev pub max_predicates : ℕ
max_predicates = 16

abbrev pub max_positions : ℕ
max_positions = 6

abbrev pub max_left : ℕ
max_left = 16

abbrev pub max_samples : ℕ
max_samples = 256

abbrev pub max_constraints : ℕ
max_constraints = 128

-- A row of a clause: predicate, mask, six values. A shown row is without the predicate.
abbrev pub row_size : ℕ
row_size = 8

abbrev pub shown_size : ℕ
shown_size = 7
