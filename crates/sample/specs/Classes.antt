-- Where in memory the part starts that classify gives back.
use Rattle.std.specs.Prelude.{ℕ, ◌+◌, ◌*◌}
use Rattle.rules.specs.Sizes.{shown_size}
use Rattle.rules.specs.Classifying.{Class, nowhere, among_positives, among_negatives}

-- Where a list's number at an index stands: a block of memory, and 8 bytes a number from where the list starts in it.
unfoldable pub place_at : ℕ → ℕ × ℕ → ℕ × ℕ
place_at index list = (list.0, index * 8 + list.1)

-- The part starts in the list of its row. Nowhere: at the start of the positives.
unfoldable pub class_start : Class → ℕ × ℕ → ℕ × ℕ → ℕ × ℕ
unfolding place_at
class_start nowhere positives negatives = place_at 0 positives
class_start (among_positives i) positives negatives = place_at (i * shown_size) positives
class_start (among_negatives i) positives negatives = place_at (i * shown_size) negatives
