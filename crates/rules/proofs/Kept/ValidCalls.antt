-- A new store meets the condition, and every call keeps it, refusals and 9 included.
use mathlib.Core.Path.{◌≡◌, refl, sym, ◌∙◌}
use mathlib.Core.Bool.{Bool}
use mathlib.Core.List.{List, [], ◌∷◌, ◌++◌}
use mathlib.Core.Option.{Option, none, some}
use mathlib.Core.Logic.{◌⊎◌, ⊎_map}
use Prim.Native.Nat.{ℕ, zero, suc, ◌≤◌, ◌<◌}
use native.Mathlib.Omega.{arith}
use lib.IntN.{ℤ}
use lib.Dec.{ltb, leb}
use lib.ListN.{length, replicate, length-append, length-replicate}
use borrow.Author.Tests.{ltb-false, leb-false}
use Rattle.rules.specs.Sizes.{max_predicates, max_positions, max_samples, max_constraints}
use Rattle.rules.specs.Values.{Sort}
use Rattle.rules.specs.Samples.{Sample}
use Rattle.rules.specs.Sets.{include_all}
use Rattle.rules.specs.Contents.{Sign, positive, negative, side, nobody, Constraint, free, Held, Contents, new, with_held, mark, in_constraints, in_sides, held_samples}
use Rattle.rules.specs.Numbers.{Refusal, undeclared, bad_mask, bad_value, has_unknown, bad_rows, no_sample_room, no_constraint_room, is_marked, contradiction, no_predicate_room, short_output, leaves, done, Outcome, refuse, when, unless}
use Rattle.rules.specs.Rows.{rows_of, samples_in, clause_of, natural}
use Rattle.rules.specs.Redundancy.{lives_at}
use Rattle.rules.specs.Declaring.{sorts_of, all_sorts, declare_refusal, with_predicate, declare}
use Rattle.rules.specs.Adding.{Added, refuted, added, add_clause, add_outcome, add_refusal, add}
use Rattle.rules.specs.Settling.{Settled, contradicted, settled, settle_held, settle_outcome, settle}
use Rattle.rules.specs.Checking.{check_outcome, check}
use Rattle.rules.specs.Forcing.{losses, settle_after, force_held, force_refusal, force}
use Rattle.rules.specs.Satisfying.{AllLive}
use Rattle.rules.specs.Condition.{Mem, Rising, ValidSet, ValidConstraint, MarkedLive, ValidHeld, Valid}
use Rattle.rules.proofs.Laws.Bools.{both}
use Rattle.rules.proofs.Laws.Sets.{include_all_mem, include_all_rising, rising_length}
use Rattle.rules.proofs.Kept.Refusing.{some_none, when_none, first_of_none_lem}
use Rattle.rules.proofs.Kept.MoreDeclared.{sample_wider, held_wider, positions_wider, sorts_length}
use Rattle.rules.proofs.Kept.Moving.{HeldIn, held_mem, Within, within_length, SettledWithin, settle_held_within, losses_within}
use Rattle.rules.proofs.Kept.ValidSettling.{SettledValid, settle_held_valid, losses_valid}
use Rattle.rules.proofs.Kept.ValidAdding.{AddedValid, add_clause_valid, AddedWithin, add_clause_within}
use Rattle.rules.proofs.Kept.ClauseTests.{Passes, add-passes}

-- A new store: at every number nobody lives.
nobody_valid : (declared : List (List Sort)) (sign : Sign) → ValidSet declared (side sign nobody)
unfolding side
nobody_valid declared positive = record { valid = tt; rising = tt; apart = λ x y m n e. absurd m }
nobody_valid declared negative = record { valid = tt; rising = tt; apart = λ x y m n e. absurd m }

free_live : (P : Constraint → Type 0) (n : ℕ) → AllLive P (replicate n free)
free_live P zero = tt
free_live P (suc n) = (tt, free_live P n)

free_marks : (n : ℕ) → MarkedLive (replicate n free)
free_marks zero = tt
free_marks (suc n) = (λ e. both e refl, free_marks n)

free_at : (n m : ℕ) → lives_at m (replicate n free) ≡ none
unfolding lives_at
free_at zero m = refl
free_at (suc n) zero = refl
free_at (suc n) (suc m) = free_at n m

free-samples : (n : ℕ) → in_constraints (replicate n free) ≡ []
unfolding in_constraints
free-samples zero = refl
free-samples (suc n) = free-samples n

free_room : (n : ℕ) → length (held_samples (record { kept = nobody; waiting = nobody; slots = replicate n free })) ≤ max_samples
unfolding held_samples
free_room n = rw (free-samples n) (omega arith)

pub new_valid : Valid new
unfolding new
new_valid =
    record {
      predicates = omega arith;
      positions = λ p. omega arith;
      held = record {
        kept = nobody_valid [];
        waiting = nobody_valid [];
        constraints = free_live (ValidConstraint [] nobody) max_constraints;
        irredundant = λ m n c d at. some_none (sym at ∙ free_at max_constraints m);
        marks = free_marks max_constraints;
        numbers = length-replicate max_constraints free;
      };
      room = free_room max_constraints;
    }

-- What a refusal leaves: 9 only sets the mark.
mark_valid : (c : Contents) → Valid c → Valid (mark c)
unfolding mark
mark_valid c v = record { predicates = v.predicates; positions = v.positions; held = v.held; room = v.room }

pub leaves_valid : (r : Refusal) (c : Contents) → Valid c → Valid (leaves r c)
unfolding leaves
leaves_valid undeclared c v = v
leaves_valid bad_mask c v = v
leaves_valid bad_value c v = v
leaves_valid has_unknown c v = v
leaves_valid bad_rows c v = v
leaves_valid no_sample_room c v = v
leaves_valid no_constraint_room c v = v
leaves_valid is_marked c v = v
leaves_valid contradiction c v = mark_valid c v
leaves_valid no_predicate_room c v = v
leaves_valid short_output c v = v

pub unless_valid : {A : Type 0} (t : Option Refusal) (c : Contents) (goes : Outcome A) → Valid c → (t ≡ none → Valid goes.contents) → Valid (unless t c goes).contents
unfolding unless refuse
unless_valid none c goes v f = f refl
unless_valid (some r) c goes v f = leaves_valid r c v

-- Declaring.
predicate_valid : (o : Option (List Sort)) (c : Contents) → Valid c → length c.declared < max_predicates → ((sorts : List Sort) → o ≡ some sorts → length sorts ≤ max_positions)
    → Valid (with_predicate o c)
unfolding with_predicate
predicate_valid none c v low fit = v
predicate_valid (some sorts) c v low fit =
    record {
      predicates = simp length-append (omega arith);
      positions = positions_wider c.declared sorts (fit sorts refl) v.positions;
      held = held_wider c.declared (c.declared ++ (sorts ∷ [])) (sample_wider c.declared (sorts ∷ [])) c.held v.held;
      room = v.room;
    }

pub declare_valid : (numbers : List ℕ) (c : Contents) → Valid c → Valid (declare numbers c).contents
unfolding declare declare_refusal
declare_valid numbers c v =
    let full = leb max_predicates (length c.declared) in
    let long = ltb max_positions (length numbers) in
    unless_valid (declare_refusal numbers c) c (record { answer = done (length c.declared); contents = with_predicate (sorts_of numbers) c }) v
    (λ e. let tests = first_of_none_lem (when is_marked c.marked ∷ when no_predicate_room full ∷ when bad_mask long ∷ all_sorts (sorts_of numbers) ∷ []) e in
    predicate_valid (sorts_of numbers) c v
    (leb-false max_predicates (length c.declared) (when_none no_predicate_room full tests.1.0))
    (λ sorts at. omega (arith, sorts_length numbers sorts at, ltb-false max_positions (length numbers) (when_none bad_mask long tests.1.1.0))))

-- Settling and checking: what is held after them was held before.
held_valid : (c : Contents) (h : Held) → Valid c → ValidHeld c.declared h → length (held_samples h) ≤ max_samples → Valid (with_held h c)
unfolding with_held
held_valid c h v k room = record { predicates = v.predicates; positions = v.positions; held = k; room = room }

within_valid : (c : Contents) (h : Held) → Valid c → ValidHeld c.declared h → Within c.held h → Valid (with_held h c)
within_valid c h v k w = held_valid c h v k (omega (arith, v.room, within_length c.held h w))

settle_outcome_valid : (c : Contents) (s : Settled) → Valid c → SettledValid c.declared s → SettledWithin c.held s → Valid (settle_outcome c s).contents
unfolding settle_outcome refuse
settle_outcome_valid c contradicted v k w = leaves_valid contradiction c v
settle_outcome_valid c (settled h n) v k w = within_valid c h v k w

pub settle_valid : (c : Contents) → Valid c → Valid (settle c).contents
unfolding settle
settle_valid c v =
    unless_valid (when is_marked c.marked) c (settle_outcome c (settle_held c.held)) v
    (λ e. settle_outcome_valid c (settle_held c.held) v (settle_held_valid c.declared c.held v.held) (settle_held_within c.held))

-- A check leaves what settling leaves.
checks_settling : (t : Option Refusal) (c : Contents) (s : Settled) → (unless t c (check_outcome c s)).contents ≡ (unless t c (settle_outcome c s)).contents
unfolding unless refuse check_outcome settle_outcome
checks_settling none c contradicted = refl
checks_settling none c (settled h n) = refl
checks_settling (some r) c s = refl

pub check_settles : (c : Contents) → (check c).contents ≡ (settle c).contents
unfolding check settle
check_settles c = checks_settling (when is_marked c.marked) c (settle_held c.held)

pub check_valid : (c : Contents) → Valid c → Valid (check c).contents
check_valid c v = rw (check_settles c) (settle_valid c v)

-- Force: what settles is what its losses left.
within_after : (h g : Held) (s : Settled) → Within h g → SettledWithin g s → SettledWithin h s
within_after h g contradicted w u = tt
within_after h g (settled e n) w u = λ x m. w x (u x m)

after_valid : (declared : List (List Sort)) (o : Option Held) → ((g : Held) → o ≡ some g → ValidHeld declared g) → SettledValid declared (settle_after o)
unfolding settle_after
after_valid declared none f = tt
after_valid declared (some g) f = settle_held_valid declared g (f g refl)

after_within : (h : Held) (o : Option Held) → ((g : Held) → o ≡ some g → Within h g) → SettledWithin h (settle_after o)
unfolding settle_after
after_within h none f = tt
after_within h (some g) f = within_after h g (settle_held g) (f g refl) (settle_held_within g)

pub force_valid : (p : ℤ) (value : Bool) (c : Contents) → Valid c → Valid (force p value c).contents
unfolding force force_held
force_valid p value c v =
    let left = losses (natural p) value c.held in
    unless_valid (force_refusal p c) c (settle_outcome c (settle_after left)) v
    (λ e. settle_outcome_valid c (settle_after left) v
    (after_valid c.declared left (λ g. losses_valid c.declared (natural p) value c.held g v.held))
    (after_within c.held left (λ g. losses_within (natural p) value c.held g)))

-- Adding: every sample after it was held or is in a row, and these fit.
held_rising : (h : Held) → Rising (held_samples h)
unfolding held_samples
held_rising h = include_all_rising (in_sides h.kept ++ (in_sides h.waiting ++ in_constraints h.slots)) [] tt

added_room : (samples : List Sample) (h g : Held) → ((x : Sample) → HeldIn x g → Mem x samples ⊎ HeldIn x h)
    → length (held_samples g) ≤ length (include_all samples (held_samples h))
added_room samples h g f =
    rising_length (held_samples g) (include_all samples (held_samples h)) (held_rising g) (include_all_rising samples (held_samples h) (held_rising h))
    (λ x m. (include_all_mem samples (held_samples h) x).1 (⊎_map (λ k. k) (held_mem x h).1 (f x ((held_mem x g).0 m))))

add_outcome_valid : (samples : List Sample) (has_right : Bool) (c : Contents) (r : Added) → Valid c → Passes samples has_right c
    → AddedValid c.declared r → AddedWithin (clause_of has_right samples) c.held r → Valid (add_outcome c r).contents
unfolding add_outcome refuse
add_outcome_valid samples has_right c refuted v p k w = leaves_valid contradiction c v
add_outcome_valid samples has_right c (added is_new g) v p k w =
    held_valid c g v k (omega (arith, p.room, added_room samples c.held g (λ x m. ⊎_map (p.members x) (λ t. t) (w x m))))

pub add_valid : (numbers : List ℤ) (has_right : Bool) (c : Contents) → Valid c → Valid (add numbers has_right c).contents
unfolding add
add_valid numbers has_right c v =
    let samples = samples_in c.declared (rows_of numbers) in
    let clause = clause_of has_right samples in
    unless_valid (add_refusal numbers has_right samples c) c (add_outcome c (add_clause clause c.held)) v
    (λ e. let p = add-passes numbers has_right c e in
    add_outcome_valid samples has_right c (add_clause clause c.held) v p
    (add_clause_valid c.declared clause c.held v.held p.fits)
    (add_clause_within clause c.held))
