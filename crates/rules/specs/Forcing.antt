-- Force P to a truth value.
use Rattle.std.specs.Prelude.{Bool, true, false, List, [], ◌∷◌, ℕ, ℤ, eqb}
use Rattle.std.proofs.Math.Option.{Option, none, some}
use Rattle.rules.specs.Values.{Sort}
use Rattle.rules.specs.Samples.{Sample}
use Rattle.rules.specs.Sets.{without}
use Rattle.rules.specs.Contents.{Sign, positive, negative, Sides, Held, Contents}
use Rattle.rules.specs.Numbers.{Refusal, Outcome, is_marked, undeclared, when, first_of, unless}
use Rattle.rules.specs.Rows.{declared_as, natural}
use Rattle.rules.specs.Settling.{sweep, tested, Counts, Settled, contradicted, settle_held, settle_outcome}

unfoldable pub names : ℕ → Sample → Bool
names p s = eqb s.pred p

-- Each live constraint naming P loses those samples; dropped if the right went and the value is true, or a left one went and it is false: as with a drawn sample of this sign.
unfoldable pub sign_of : Bool → Sign
sign_of true = positive
sign_of false = negative

-- Kept samples of P are cleared (waiting ones are not).
unfoldable pub cleared : ℕ → Sides → Sides
unfolding without names
cleared p kept = record { positives = without (names p) kept.positives; negatives = without (names p) kept.negatives }

unfoldable pub losses : ℕ → Bool → Held → Option Held
unfolding tested cleared sweep names sign_of
losses p value h = tested (cleared p h.kept) (sweep (names p) (sign_of value) 0 h.slots h.waiting)

-- And the store settles.
unfoldable pub settle_after : Option Held → Settled
unfolding settle_held
settle_after none = contradicted
settle_after (some h) = settle_held h

unfoldable pub force_held : ℕ → Bool → Held → Settled
unfolding settle_after losses
force_held p value h = settle_after (losses p value h)

unfoldable pub if_undeclared : Option (List Sort) → Option Refusal
if_undeclared none = some undeclared
if_undeclared (some sorts) = none

-- Order: 8, 1.
unfoldable pub force_refusal : ℤ → Contents → Option Refusal
unfolding first_of when if_undeclared declared_as
force_refusal p c = first_of (when is_marked c.marked ∷ if_undeclared (declared_as p c.declared) ∷ [])

-- The call. Force returns what settling returns.
unfoldable pub force : ℤ → Bool → Contents → Outcome Counts
unfolding unless force_refusal settle_outcome force_held natural
force p value c = unless (force_refusal p c) c (settle_outcome c (force_held (natural p) value c.held))
