-- The declarations that the code's array stands for.
use Rattle.std.specs.Prelude.{◌≡◌, Bool, true, false, List, [], ◌∷◌, ℕ, zero, suc, ◌≤◌, length, get_or}
use Rattle.rules.specs.Sizes.{max_predicates, max_positions}
use Rattle.rules.specs.Values.{Sort, integer, truth}
use Rattle.rules.specs.Rows.{bit}
use Rattle.sample.specs.declared.declared.Signature.{Signature}
use Rattle.sample.specs.declared.declared.Declared.{Declared}

unfoldable pub sort_by : Bool → Sort
sort_by true = truth
sort_by false = integer

-- The k positions from i on: bit i of the truths says that position i holds a truth value.
unfoldable pub sorts_from : ℕ → ℕ → ℕ → List Sort
unfolding sort_by
sorts_from truths zero i = []
sorts_from truths (suc k) i = sort_by (bit truths i) ∷ sorts_from truths k (suc i)

unfoldable pub signature_of : Declared → ℕ → Signature
signature_of d p = get_or d.predicates p (record { positions = 0; truths = 0 })

unfoldable pub sorts_of : Declared → ℕ → List Sort
unfolding sorts_from signature_of
sorts_of d p = sorts_from (signature_of d p).truths (signature_of d p).positions 0

-- The n predicates from p on.
unfoldable pub declared_from : Declared → ℕ → ℕ → List (List Sort)
unfolding sorts_of
declared_from d zero p = []
declared_from d (suc n) p = sorts_of d p ∷ declared_from d n (suc p)

unfoldable pub declared_of : Declared → List (List Sort)
unfolding declared_from
declared_of d = declared_from d d.count 0

-- How many positions each predicate has.
unfoldable pub positions_of : Declared → ℕ → ℕ
unfolding signature_of
positions_of d p = (signature_of d p).positions

pub record DeclaredOk (d : Declared) : Type 0 where
  pub few : d.count ≤ max_predicates
  pub room : length d.predicates ≡ max_predicates
  pub positions : (p : ℕ) → positions_of d p ≤ max_positions
