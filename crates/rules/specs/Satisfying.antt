-- When an assignment satisfies what is held. Waiting samples count.
use Rattle.std.specs.Prelude.{◌≡◌, Bool, true, false, not, ◌&&◌, ◌||◌, List, [], ◌∷◌, ℕ, get_or}
use Rattle.std.proofs.Math.Option.{Option, none, some}
use Rattle.rules.specs.Values.{Value, Sort}
use Rattle.rules.specs.Samples.{Position, Sample, valid_positions, covers_all}
use Rattle.rules.specs.Contents.{Sign, positive, negative, Sides, Constraint, Slot, Held}
use Rattle.rules.specs.Rows.{value_of}

-- A total vector, and the set of total vectors that an assignment gives each predicate.
abbrev pub Vector : Type 0
Vector = List Value

abbrev pub Assignment : Type 0
Assignment = ℕ → Vector → Bool

-- The vector as positions, each known; and the vector of a total sample.
unfoldable pub known : Vector → List Position
known [] = []
known (v ∷ vs) = some v ∷ known vs

unfoldable pub vector_of : List Position → Vector
unfolding value_of
vector_of [] = []
vector_of (x ∷ xs) = value_of x ∷ vector_of xs

-- A completion of a sample: a vector of its predicate's sorts that it covers.
pub record Completes (declared : List (List Sort)) (s : Sample) (v : Vector) : Type 0 where
  pub valid : valid_positions (get_or declared s.pred []) (known v) ≡ true
  pub covered : covers_all s.at (known v) ≡ true

-- Positive: all completions are in. Negative: all are out.
abbrev pub is_in : Sign → Bool
is_in positive = true
is_in negative = false

abbrev pub Satisfies : List (List Sort) → Assignment → Sign → Sample → Type 0
Satisfies declared a sign s = (v : Vector) → Completes declared s v → a s.pred v ≡ is_in sign

-- A constraint: not all left samples are in, or the right one is there and in.
unfoldable pub inside : Assignment → Sample → Bool
unfolding vector_of
inside a s = a s.pred (vector_of s.at)

unfoldable pub all_inside : Assignment → List Sample → Bool
unfolding inside
all_inside a [] = true
all_inside a (s ∷ l) = inside a s && all_inside a l

unfoldable pub right_inside : Assignment → Option Sample → Bool
unfolding inside
right_inside a none = false
right_inside a (some q) = inside a q

unfoldable pub holds : Assignment → Constraint → Bool
unfolding all_inside right_inside
holds a c = not (all_inside a c.left) || right_inside a c.right

-- All samples of a set, all live constraints, all that a store holds.
abbrev pub All : (Sample → Type 0) → List Sample → Type 0
All P [] = Unit
All P (s ∷ l) = P s × All P l

abbrev pub IfLive : (Constraint → Type 0) → Option Constraint → Type 0
IfLive P none = Unit
IfLive P (some c) = P c

abbrev pub AllLive : (Constraint → Type 0) → List Slot → Type 0
AllLive P [] = Unit
AllLive P (x ∷ xs) = IfLive P x.lives × AllLive P xs

pub record SatisfiesSides (declared : List (List Sort)) (a : Assignment) (x : Sides) : Type 0 where
  pub positives : All (Satisfies declared a positive) x.positives
  pub negatives : All (Satisfies declared a negative) x.negatives

pub record SatisfiesHeld (declared : List (List Sort)) (a : Assignment) (h : Held) : Type 0 where
  pub kept : SatisfiesSides declared a h.kept
  pub waiting : SatisfiesSides declared a h.waiting
  pub constraints : AllLive (λ c. holds a c ≡ true) h.slots
