-- What a store contains: declarations, kept and waiting sets, constraints by number, marks. Sample numbers show nowhere.
use Rattle.std.specs.Prelude.{Bool, true, false, List, [], ◌∷◌, ◌++◌, ℕ, suc, replicate}
use Rattle.std.proofs.Math.Option.{Option, none, some}
use Rattle.rules.specs.Sizes.{max_constraints}
use Rattle.rules.specs.Values.{Sort}
use Rattle.rules.specs.Samples.{Sample}
use Rattle.rules.specs.Sets.{include_all}
use Rattle.rules.specs.Waiting.{wait}

pub data Sign : Type 0 where
  positive : Sign
  negative : Sign

-- One set of samples for each sign.
pub record Sides : Type 0 where
  pub positives : List Sample
  pub negatives : List Sample

unfoldable pub side : Sign → Sides → List Sample
side positive x = x.positives
side negative x = x.negatives

unfoldable pub with_side : Sign → List Sample → Sides → Sides
with_side positive l x = record { positives = l; negatives = x.negatives }
with_side negative l x = record { positives = x.positives; negatives = l }

abbrev pub nobody : Sides
nobody = record { positives = []; negatives = [] }

-- s waits under this sign.
unfoldable pub wait_as : Sign → Sample → Sides → Sides
unfolding wait side with_side
wait_as sign s waiting = with_side sign (wait s (side sign waiting)) waiting

-- The left samples, all of them in, make the right one be in; with no right they can't all be in. A clause that is added has the same shape.
pub record Constraint : Type 0 where
  pub left : List Sample
  pub right : Option Sample

abbrev pub Clause : Type 0
Clause = Constraint

-- A constraint number: who lives there, and whether it is marked modified.
pub record Slot : Type 0 where
  pub lives : Option Constraint
  pub modified : Bool

-- A constraint that goes loses mark and number.
abbrev pub free : Slot
free = record { lives = none; modified = false }

-- One that goes live, or that loses a sample and stays live, is marked modified.
abbrev pub modified_slot : Constraint → Slot
modified_slot c = record { lives = some c; modified = true }

-- A sample is held while it is kept, waiting or in a live constraint.
pub record Held : Type 0 where
  pub kept : Sides
  pub waiting : Sides
  pub slots : List Slot

pub record Contents : Type 0 where
  pub declared : List (List Sort)
  pub held : Held
  pub marked : Bool

-- A new store: nothing declared or held, no mark.
unfoldable pub new : Contents
new = record { declared = []; held = record { kept = nobody; waiting = nobody; slots = replicate max_constraints free }; marked = false }

unfoldable pub with_held : Held → Contents → Contents
with_held h c = record { declared = c.declared; held = h; marked = c.marked }

unfoldable pub mark : Contents → Contents
mark c = record { declared = c.declared; held = c.held; marked = true }

-- How many constraints are live.
unfoldable pub is_live : Option Constraint → Bool
is_live none = false
is_live (some c) = true

unfoldable pub count_if : Bool → ℕ → ℕ
count_if true n = suc n
count_if false n = n

unfoldable pub live_count : List Slot → ℕ
unfolding is_live count_if
live_count [] = 0
live_count (x ∷ xs) = count_if (is_live x.lives) (live_count xs)

-- The samples of a constraint, of all live ones, and all that are held, each once.
unfoldable pub right_samples : Option Sample → List Sample
right_samples none = []
right_samples (some q) = q ∷ []

unfoldable pub samples_of : Constraint → List Sample
unfolding right_samples
samples_of c = c.left ++ right_samples c.right

unfoldable pub slot_samples : Option Constraint → List Sample
unfolding samples_of
slot_samples none = []
slot_samples (some c) = samples_of c

unfoldable pub in_constraints : List Slot → List Sample
unfolding slot_samples
in_constraints [] = []
in_constraints (x ∷ xs) = slot_samples x.lives ++ in_constraints xs

unfoldable pub in_sides : Sides → List Sample
in_sides x = x.positives ++ x.negatives

unfoldable pub held_samples : Held → List Sample
unfolding in_sides in_constraints include_all
held_samples h = include_all (in_sides h.kept ++ (in_sides h.waiting ++ in_constraints h.slots)) []
