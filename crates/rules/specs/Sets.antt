-- Sets of samples, as lists that strictly rise in the order of samples: two such lists with the same members are equal.
use Rattle.std.specs.Prelude.{Bool, true, false, cond, not, ◌&&◌, ◌||◌, List, [], ◌∷◌}
use Rattle.rules.specs.Samples.{Sample, covers, same, before}

-- Does some member pass the test?
unfoldable pub any : (Sample → Bool) → List Sample → Bool
any test [] = false
any test (s ∷ l) = test s || any test l

-- The members that pass the test, and those that don't.
unfoldable pub only : (Sample → Bool) → List Sample → List Sample
only test [] = []
only test (s ∷ l) = cond (test s) (s ∷ only test l) (only test l)

unfoldable pub without : (Sample → Bool) → List Sample → List Sample
unfolding only
without test l = only (λ s. not (test s)) l

unfoldable pub member : Sample → List Sample → Bool
unfolding any same
member s l = any (same s) l

unfoldable pub subset : List Sample → List Sample → Bool
unfolding member
subset [] m = true
subset (s ∷ l) m = member s m && subset l m

-- Is s covered by a member?
unfoldable pub covered_by : List Sample → Sample → Bool
unfolding any covers
covered_by l s = any (λ k. covers k s) l

-- s at its place in the order.
unfoldable pub insert : Sample → List Sample → List Sample
unfolding before
insert s [] = s ∷ []
insert s (k ∷ l) = cond (before s k) (s ∷ k ∷ l) (k ∷ insert s l)

-- The set with s, and with each of a list: equal samples merge.
unfoldable pub include : Sample → List Sample → List Sample
unfolding member insert
include s l = cond (member s l) l (insert s l)

unfoldable pub include_all : List Sample → List Sample → List Sample
unfolding include
include_all [] l = l
include_all (s ∷ more) l = include_all more (include s l)

-- s joins, and those that it covers go.
unfoldable pub keep : Sample → List Sample → List Sample
unfolding insert without covers
keep s l = insert s (without (covers s) l)
