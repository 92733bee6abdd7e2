-- A set of sample numbers as a list of samples: the numbers of a list that pass a test, in its order.
use Rattle.std.specs.Prelude.{◌≡◌, Bool, true, cond, List, [], ◌∷◌, ◌⊎◌, ℕ}
use Rattle.std.proofs.Math.Option.{Option, none, some}
use Rattle.rules.specs.Samples.{Sample, before}

unfoldable pub pick : (ℕ → Sample) → (ℕ → Bool) → List ℕ → List Sample
pick at test [] = []
pick at test (k ∷ ks) = cond (test k) (at k ∷ pick at test ks) (pick at test ks)

-- The numbers that pass, and the first of them.
unfoldable pub keep_if : (ℕ → Bool) → List ℕ → List ℕ
keep_if test [] = []
keep_if test (k ∷ ks) = cond (test k) (k ∷ keep_if test ks) (keep_if test ks)

unfoldable pub first_of : (ℕ → Bool) → List ℕ → Option ℕ
first_of test [] = none
first_of test (k ∷ ks) = cond (test k) (some k) (first_of test ks)

abbrev pub Among : ℕ → List ℕ → Type 0
Among k [] = ⊥
Among k (j ∷ js) = (k ≡ j) ⊎ Among k js

-- The numbers stand in the order of their samples.
abbrev pub Rises : (ℕ → Sample) → List ℕ → Type 0
Rises at [] = Unit
Rises at (k ∷ ks) = ((j : ℕ) → Among j ks → before (at k) (at j) ≡ true) × Rises at ks
