-- Demand 3, proved of every call. The statements are those of specs/Demand3.antt.
use mathlib.Core.Path.{◌≡◌, refl, ap}
use mathlib.Core.Bool.{Bool, false}
use mathlib.Core.List.{List, [], ◌∷◌}
use mathlib.Core.Option.{Option, none, some}
use mathlib.Core.Logic.{◌↔◌, ◌⊎◌, inl, inr}
use Prim.Native.Nat.{ℕ}
use native.Mathlib.Omega.{arith}
use lib.IntN.{ℤ}
use Rattle.rules.specs.Values.{Sort}
use Rattle.rules.specs.Samples.{Sample}
use Rattle.rules.specs.Contents.{Clause, Held, Contents, with_held}
use Rattle.rules.specs.Numbers.{Refusal, undeclared, bad_mask, bad_value, has_unknown, bad_rows, no_sample_room, no_constraint_room, is_marked, number, Outcome, refuse, when, unless}
use Rattle.rules.specs.Rows.{Row, natural, rows_of, declared_as, field_refusal, row_refusal, rows_refusal, samples_in, clause_of}
use Rattle.rules.specs.Satisfying.{Assignment, SatisfiesHeld}
use Rattle.rules.specs.Adding.{Added, refuted, added, add_clause, add_refusal, add_outcome, add}
use Rattle.rules.specs.Settling.{Settled, contradicted, settled, settle_held, settle_outcome, settle}
use Rattle.rules.specs.Checking.{Verdict, clear, overlap, verdict_on, verdict_number, check_outcome, check_code, check}
use Rattle.rules.specs.Forcing.{losses, settle_after, force_held, force_refusal, force}
use Rattle.rules.specs.Condition.{ValidHeld, Valid}
use Rattle.rules.specs.Demand3.{SatisfiedBy, Unsatisfiable, SettleKeeps, CheckDecides, AddKeeps, SatisfiesClause, clause_in, AfterLosses}
use Rattle.rules.proofs.Kept.Refusing.{when-passes, unless-passes, Below9, AllBelow9, none_below9, some_below9, when_below9, or_else_below9, first_of_below9}
use Rattle.rules.proofs.Same.Drawing.{SettledRests, settle_held_rests}
use Rattle.rules.proofs.Kept.ValidSettling.{SettledValid, settle_held_valid, losses_valid}
use Rattle.rules.proofs.Same.SameAssignments.{SettledSat, settle_held_sat}
use Rattle.rules.proofs.Same.Deciding.{VerdictDecides, verdict_decides}
use Rattle.rules.proofs.Same.SameAdding.{AddedSat, add_clause_sat}
use Rattle.rules.proofs.Kept.ClauseTests.{field_tests, add_tests, add-passes}

-- Settling h, in a store that returns to c's contents at 9.
outcome_keeps : (c : Contents) (h : Held) (s : Settled) → SettledRests h s → ((a : Assignment) → SatisfiesHeld c.declared a h ↔ SettledSat c.declared a s)
    → SettleKeeps (with_held h c) (settle_outcome c s).answer (settle_outcome c s).contents
unfolding settle_outcome refuse with_held
outcome_keeps c h contradicted r same = (refl, λ a k. (same a).0 k)
outcome_keeps c h (settled g n) r same = record { rests = r.rests; same = same; bound = r.bound; counts = r.counts }

settling_keeps : (c : Contents) (h : Held) → ValidHeld c.declared h
    → SettleKeeps (with_held h c) (settle_outcome c (settle_held h)).answer (settle_outcome c (settle_held h)).contents
settling_keeps c h v = outcome_keeps c h (settle_held h) (settle_held_rests h) (λ a. settle_held_sat c.declared a h v)

settle_goes : (c : Contents) → c.marked ≡ false → settle c ≡ settle_outcome c (settle_held c.held)
unfolding settle
settle_goes c m = unless-passes (when is_marked c.marked) c (settle_outcome c (settle_held c.held)) (when-passes is_marked c.marked m)

pub settle_keeps : (c : Contents) → Valid c → c.marked ≡ false → SettleKeeps c (settle c).answer (settle c).contents
unfolding with_held
settle_keeps c v m = rw (settle_goes c m) (settling_keeps c c.held v.held)

-- A verdict on what settling left is one on what was held before it.
verdict_code : (c : Contents) (g : Held) (v : Verdict) → ((a : Assignment) → SatisfiedBy a c ↔ SatisfiesHeld c.declared a g) → VerdictDecides c.declared g v
    → ((verdict_number v ≡ 9) ⊎ (verdict_number v ≡ 12)) ↔ Unsatisfiable c
unfolding verdict_number
verdict_code c g clear same (a, k) = (
  λ found. absurd (go found),
  λ none. absurd (none a ((same a).1 k)),
)
  where
    go : (◌≡◌ {A = ℕ} 0 9) ⊎ (◌≡◌ {A = ℕ} 0 12) → ⊥
    go (inl e) = omega arith
    go (inr e) = omega arith
verdict_code c g (overlap p n) same k = (λ found a h. k a ((same a).0 h), λ none. inr refl)

check_outcome_lem : (c : Contents) (s : Settled) → ((a : Assignment) → SatisfiedBy a c ↔ SettledSat c.declared a s) → SettledRests c.held s → SettledValid c.declared s
    → CheckDecides c (check_outcome c s).answer
unfolding check_outcome refuse check_code
check_outcome_lem c contradicted same r v = (λ found a k. (same a).0 k, λ none. inl refl)
check_outcome_lem c (settled g n) same r v = verdict_code c g (verdict_on g.kept) same (verdict_decides c.declared g v r.rests)

check_goes : (c : Contents) → c.marked ≡ false → check c ≡ check_outcome c (settle_held c.held)
unfolding check
check_goes c m = unless-passes (when is_marked c.marked) c (check_outcome c (settle_held c.held)) (when-passes is_marked c.marked m)

pub check_decides : (c : Contents) → Valid c → c.marked ≡ false → CheckDecides c (check c).answer
check_decides c v m =
    rw (check_goes c m)
    (check_outcome_lem c (settle_held c.held)
    (λ a. settle_held_sat c.declared a c.held v.held)
    (settle_held_rests c.held)
    (settle_held_valid c.declared c.held v.held))

-- Add: a refusal by its tests has a number below 9, so 9 comes from the steps.
field_tests_below9 : (sorts : List Sort) (r : Row) → AllBelow9 (field_tests sorts r)
unfolding number
field_tests_below9 sorts r = (when_below9 bad_mask _ (omega arith), (when_below9 bad_value _ (omega arith), tt))

row_below9 : (d : Option (List Sort)) (r : Row) → Below9 (field_refusal d r)
unfolding field_refusal number
row_below9 none r = some_below9 undeclared (omega arith)
row_below9 (some sorts) r = first_of_below9 (field_tests sorts r) (field_tests_below9 sorts r)

rows_below9 : (declared : List (List Sort)) (rows : List Row) → Below9 (rows_refusal declared rows)
unfolding rows_refusal row_refusal
rows_below9 declared [] = none_below9
rows_below9 declared (r ∷ rs) =
    or_else_below9 (row_refusal declared r) (rows_refusal declared rs) (row_below9 (declared_as r.predicate declared) r) (rows_below9 declared rs)

add_tests_below9 : (numbers : List ℤ) (has_right : Bool) (samples : List Sample) (c : Contents) → AllBelow9 (add_tests numbers has_right samples c)
unfolding number
add_tests_below9 numbers has_right samples c = (
  when_below9 is_marked _ (omega arith),
  (
    when_below9 bad_rows _ (omega arith),
    (
      rows_below9 c.declared (rows_of numbers),
      (
        when_below9 has_unknown _ (omega arith),
        (
          when_below9 no_sample_room _ (omega arith),
          (when_below9 no_constraint_room _ (omega arith), tt),
        ),
      ),
    ),
  ),
)

add_below9 : (numbers : List ℤ) (has_right : Bool) (samples : List Sample) (c : Contents) → Below9 (add_refusal numbers has_right samples c)
unfolding add_refusal
add_below9 numbers has_right samples c = first_of_below9 (add_tests numbers has_right samples c) (add_tests_below9 numbers has_right samples c)

unless_keeps : (c : Contents) (k : Clause) (t : Option Refusal) (goes : Outcome Bool) → Below9 t → (t ≡ none → AddKeeps c k goes.answer goes.contents)
    → AddKeeps c k (unless t c goes).answer (unless t c goes).contents
unfolding unless refuse number
unless_keeps c k none goes low f = f refl
unless_keeps c k (some r) goes low f = λ e. absurd (omega (arith, low.below r refl, ap number e))

add_outcome_keeps : (c : Contents) (k : Clause) (r : Added) → ((a : Assignment) → (SatisfiedBy a c × SatisfiesClause c.declared a k) ↔ AddedSat c.declared a r)
    → AddKeeps c k (add_outcome c r).answer (add_outcome c r).contents
unfolding add_outcome refuse with_held
add_outcome_keeps c k refuted same = λ e a h t. (same a).0 (h, t)
add_outcome_keeps c k (added is_new g) same = same

pub add_keeps : (numbers : List ℤ) (has_right : Bool) (c : Contents) → Valid c → AddKeeps c (clause_in numbers has_right c) (add numbers has_right c).answer (add numbers has_right c).contents
unfolding add
add_keeps numbers has_right c v =
    let samples = samples_in c.declared (rows_of numbers) in
    let k = clause_of has_right samples in
    unless_keeps c k (add_refusal numbers has_right samples c) (add_outcome c (add_clause k c.held)) (add_below9 numbers has_right samples c)
    (λ e. add_outcome_keeps c k (add_clause k c.held) (λ a. add_clause_sat c.declared a k c.held v.held (add-passes numbers has_right c e).fits))

force_goes : (p : ℤ) (value : Bool) (c : Contents) → force_refusal p c ≡ none → force p value c ≡ settle_outcome c (settle_after (losses (natural p) value c.held))
unfolding force force_held
force_goes p value c f = unless-passes (force_refusal p c) c (settle_outcome c (settle_after (losses (natural p) value c.held))) f

pub force_settles : (p : ℤ) (value : Bool) (c : Contents) → Valid c → force_refusal p c ≡ none
    → AfterLosses c (losses (natural p) value c.held) (force p value c).answer (force p value c).contents
unfolding settle_after settle_outcome refuse
force_settles p value c v f = rw (force_goes p value c f) (go (losses (natural p) value c.held) (λ g. losses_valid c.declared (natural p) value c.held g v.held))
  where
    go : (o : Option Held) → ((g : Held) → o ≡ some g → ValidHeld c.declared g)
        → AfterLosses c o (settle_outcome c (settle_after o)).answer (settle_outcome c (settle_after o)).contents
    go none k = refl
    go (some g) k = settling_keeps c g (k g refl)
