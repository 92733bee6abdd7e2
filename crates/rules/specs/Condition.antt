-- The condition on a store: what a new store meets and every call keeps. Nothing more is asked of a store.
use Rattle.std.specs.Prelude.{◌≡◌, true, false, List, [], ◌∷◌, ◌⊎◌, ℕ, ◌≤◌, length, get_or}
use Rattle.std.proofs.Math.Option.{some}
use Rattle.rules.specs.Sizes.{max_predicates, max_positions, max_samples, max_constraints}
use Rattle.rules.specs.Values.{Sort}
use Rattle.rules.specs.Samples.{Sample, valid_sample, covers, total, before}
use Rattle.rules.specs.Sets.{covered_by}
use Rattle.rules.specs.Contents.{Sign, Sides, side, Constraint, Slot, is_live, samples_of, Held, Contents, held_samples}
use Rattle.rules.specs.Satisfying.{All, AllLive}
use Rattle.rules.specs.Redundancy.{needless, lives_at}
use Rattle.rules.specs.Adding.{right_among}

abbrev pub Mem : Sample → List Sample → Type 0
Mem x [] = ⊥
Mem x (k ∷ l) = (x ≡ k) ⊎ Mem x l

-- A set stands in strictly rising order.
abbrev pub Rising : List Sample → Type 0
Rising [] = Unit
Rising (x ∷ l) = All (λ y. before x y ≡ true) l × Rising l

-- No member covers another one.
abbrev pub Apart : List Sample → Type 0
Apart l = (x y : Sample) → Mem x l → Mem y l → covers x y ≡ true → x ≡ y

pub record ValidSet (declared : List (List Sort)) (l : List Sample) : Type 0 where
  pub valid : All (λ s. valid_sample declared s ≡ true) l
  pub rising : Rising l
  pub apart : Apart l

abbrev pub NonEmpty : List Sample → Type 0
NonEmpty [] = ⊥
NonEmpty (s ∷ l) = Unit

-- A live constraint has a left and two or more distinct total samples, none covered by a kept one.
pub record ValidConstraint (declared : List (List Sort)) (kept : Sides) (c : Constraint) : Type 0 where
  pub some_left : NonEmpty c.left
  pub rising : Rising c.left
  pub two_or_more : 2 ≤ length (samples_of c)
  pub right_apart : right_among c.right c.left ≡ false
  pub valid : All (λ s. valid_sample declared s ≡ true) (samples_of c)
  pub total : All (λ s. total s ≡ true) (samples_of c)
  pub uncovered : (sign : Sign) → All (λ s. covered_by (side sign kept) s ≡ false) (samples_of c)

-- A modified mark stands only on a live constraint.
abbrev pub MarkedLive : List Slot → Type 0
MarkedLive [] = Unit
MarkedLive (x ∷ xs) = (x.modified ≡ true → is_live x.lives ≡ true) × MarkedLive xs

-- No live constraint is needless beside another one.
abbrev pub Irredundant : List Slot → Type 0
Irredundant slots = (m n : ℕ) (c d : Constraint) → lives_at m slots ≡ some c → lives_at n slots ≡ some d → needless c d ≡ true → m ≡ n

pub record ValidHeld (declared : List (List Sort)) (h : Held) : Type 0 where
  pub kept : (sign : Sign) → ValidSet declared (side sign h.kept)
  pub waiting : (sign : Sign) → ValidSet declared (side sign h.waiting)
  pub constraints : AllLive (ValidConstraint declared h.kept) h.slots
  pub irredundant : Irredundant h.slots
  pub marks : MarkedLive h.slots
  pub numbers : length h.slots ≡ max_constraints

pub record Valid (c : Contents) : Type 0 where
  pub predicates : length c.declared ≤ max_predicates
  pub positions : (p : ℕ) → length (get_or c.declared p []) ≤ max_positions
  pub held : ValidHeld c.declared c.held
  pub room : length (held_samples c.held) ≤ max_samples
