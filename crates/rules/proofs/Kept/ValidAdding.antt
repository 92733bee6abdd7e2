-- Adding a clause keeps the condition on what is held, and holds nothing but what was held and the clause's samples.
use mathlib.Core.Path.{◌≡◌, refl, ◌∙◌}
use mathlib.Core.Bool.{true, false}
use mathlib.Core.List.{List, [], ◌∷◌}
use mathlib.Core.Option.{Option, none, some}
use mathlib.Core.Logic.{◌⊎◌, inl, inr, ⊎_elim, ⊎_map}
use Prim.Native.Nat.{ℕ, zero, suc, ◌<◌}
use native.Mathlib.Omega.{arith}
use lib.ListN.{set, length, length-set}
use borrow.Author.Tests.{le-leb}
use Rattle.rules.specs.Sizes.{max_constraints}
use Rattle.rules.specs.Values.{Sort}
use Rattle.rules.specs.Samples.{Sample, valid_sample, total}
use Rattle.rules.specs.Sets.{covered_by}
use Rattle.rules.specs.Contents.{Sign, positive, negative, Sides, side, wait_as, Constraint, Clause, samples_of, Slot, modified_slot, Held}
use Rattle.rules.specs.Contents.{is_live, live_count, slot_samples, in_constraints, in_sides}
use Rattle.rules.specs.Redundancy.{lives_at}
use Rattle.rules.specs.Settling.{Settled, contradicted, settled, settle_held}
use Rattle.rules.specs.Adding.{several, Added, refuted, added, wait_in, goes_live, add_other, add_parts, add_clause}
use Rattle.rules.specs.Satisfying.{All, IfLive, AllLive}
use Rattle.rules.specs.Condition.{Mem, ValidConstraint, MarkedLive, ValidHeld}
use Rattle.rules.proofs.Laws.Sets.{all_mem, mem_all, append_mem, wait_mem}
use Rattle.rules.proofs.Kept.Irredundant.{live_irredundant}
use Rattle.rules.proofs.Kept.Moving.{HeldIn, SettledWithin, settle_held_within, test_within}
use Rattle.rules.proofs.Kept.ValidSettling.{wait_valid, test_live, test_marks, test-length, SettledValid, settle_held_valid}
use Rattle.rules.proofs.Kept.EachDraw.{AfterSettling}
use Rattle.rules.proofs.Kept.AddSteps.{Undecided, LivePart, AfterAdd, StepsKeep, add_other_keeps}

-- A clause that passed the tests: valid samples, total ones if there are two or more, and then a free number.
pub record ClauseFits (declared : List (List Sort)) (h : Held) (k : Clause) : Type 0 where
  pub valid : All (λ s. valid_sample declared s ≡ true) (samples_of k)
  pub total : several (samples_of k) ≡ true → All (λ s. total s ≡ true) (samples_of k)
  pub room : several (samples_of k) ≡ true → live_count h.slots < max_constraints

abbrev pub AddedValid : List (List Sort) → Added → Type 0
AddedValid declared refuted = Unit
AddedValid declared (added is_new g) = ValidHeld declared g

-- What a clause of two or more rows holds: valid samples without an unknown.
pub record Whole (declared : List (List Sort)) (s : Sample) : Type 0 where
  pub valid : valid_sample declared s ≡ true
  pub total : total s ≡ true

pub fits_whole : (declared : List (List Sort)) (h : Held) (k : Clause) → ClauseFits declared h k → several (samples_of k) ≡ true → All (Whole declared) (samples_of k)
fits_whole declared h k f e = mem_all (Whole declared) (samples_of k) λ x m.
    record { valid = all_mem (λ s. valid_sample declared s ≡ true) (samples_of k) f.valid x m; total = all_mem (λ s. total s ≡ true) (samples_of k) (f.total e) x m }

pub several-left : (s t : Sample) (l : List Sample) (r : Option Sample) → several (samples_of (record { left = s ∷ t ∷ l; right = r })) ≡ true
unfolding several samples_of
several-left s t l r = le-leb 2 (length (samples_of (record { left = s ∷ t ∷ l; right = r }))) (omega arith)

-- One slot is put at a number.
pub set_live : (P : Constraint → Type 0) (slots : List Slot) (n : ℕ) (x : Slot) → IfLive P x.lives → AllLive P slots → AllLive P (set slots n x)
set_live P [] n x p a = tt
set_live P (y ∷ ys) zero x p a = (p, a.1)
set_live P (y ∷ ys) (suc n) x p a = (a.0, set_live P ys n x p a.1)

set_marks : (slots : List Slot) (n : ℕ) (x : Slot) → (x.modified ≡ true → is_live x.lives ≡ true) → MarkedLive slots → MarkedLive (set slots n x)
set_marks [] n x p m = tt
set_marks (y ∷ ys) zero x p m = (p, m.1)
set_marks (y ∷ ys) (suc n) x p m = (m.0, set_marks ys n x p m.1)

module _ (declared : List (List Sort)) where
  pub wait_in_valid : (sign : Sign) (s : Sample) (h : Held) → valid_sample declared s ≡ true → ValidHeld declared h → ValidHeld declared (wait_in sign s h)
  unfolding wait_in
  wait_in_valid sign s h e v = record {
    kept = v.kept;
    waiting = wait_valid declared sign s h.waiting e v.waiting;
    constraints = v.constraints;
    irredundant = v.irredundant;
    marks = v.marks;
    numbers = v.numbers;
  }

  live_valid : (n : ℕ) (c : Constraint) (h : Held) → lives_at n h.slots ≡ none → LivePart (Whole declared) h.kept c → ValidHeld declared h
      → AfterAdd (ValidHeld declared) (goes_live n c h)
  unfolding goes_live
  live_valid n c h e p v = record {
    kept = v.kept;
    waiting = v.waiting;
    constraints = test_live (ValidConstraint declared h.kept) n placed (set_live (ValidConstraint declared h.kept) h.slots n (modified_slot c) sound v.constraints);
    irredundant = live_irredundant n c h.slots v.irredundant e;
    marks = test_marks n placed (set_marks h.slots n (modified_slot c) (λ d. refl) v.marks);
    numbers = test-length n placed ∙ length-set h.slots n (modified_slot c) ∙ v.numbers;
  }
    where
      placed : List Slot
      placed = set h.slots n (modified_slot c)

      each : (Q : Sample → Type 0) → ((s : Sample) → Undecided (Whole declared) h.kept s → Q s) → All Q (samples_of c)
      each Q f = mem_all Q (samples_of c) (λ s m. f s (all_mem (Undecided (Whole declared) h.kept) (samples_of c) p.each s m))

      sound : ValidConstraint declared h.kept c
      sound = record {
        some_left = p.some_left;
        rising = p.rising;
        two_or_more = p.two_or_more;
        right_apart = p.right_apart;
        valid = each (λ s. valid_sample declared s ≡ true) (λ s w. w.0.valid);
        total = each (λ s. total s ≡ true) (λ s w. w.0.total);
        uncovered = λ sign. each (λ s. covered_by (side sign h.kept) s ≡ false) (λ s w. w.1 sign);
      }

  steps_valid : StepsKeep (Whole declared) (ValidHeld declared)
  steps_valid = record {
    waits = λ sign s h w v. wait_in_valid sign s h w.valid v;
    settles = λ h v. settle_valid (settle_held h) (settle_held_valid declared h v);
    lives = live_valid;
  }
    where
      settle_valid : (r : Settled) → SettledValid declared r → AfterSettling (ValidHeld declared) r
      settle_valid contradicted v = tt
      settle_valid (settled g n) v = v

  add_other_valid : (k : Clause) (h : Held) → All (Whole declared) (samples_of k) → ValidHeld declared h → AddedValid declared (add_other k h)
  add_other_valid k h w v = same (add_other k h) (add_other_keeps (Whole declared) (ValidHeld declared) steps_valid k h w v)
    where
      same : (r : Added) → AfterAdd (ValidHeld declared) r → AddedValid declared r
      same refuted x = tt
      same (added is_new g) x = x

  add_parts_valid : (l : List Sample) (r : Option Sample) (h : Held) → ValidHeld declared h → ClauseFits declared h (record { left = l; right = r })
      → AddedValid declared (add_parts l r h)
  unfolding add_parts samples_of several
  add_parts_valid [] none h v f = add_other_valid (record { left = []; right = none }) h tt v
  add_parts_valid [] (some q) h v f = wait_in_valid positive q h f.valid.0 v
  add_parts_valid (s ∷ []) none h v f = wait_in_valid negative s h f.valid.0 v
  add_parts_valid (s ∷ []) (some q) h v f = let k : Clause = record { left = s ∷ []; right = some q } in add_other_valid k h (fits_whole declared h k f refl) v
  add_parts_valid (s ∷ t ∷ l) r h v f = let k : Clause = record { left = s ∷ t ∷ l; right = r } in add_other_valid k h (fits_whole declared h k f (several-left s t l r)) v

pub add_clause_valid : (declared : List (List Sort)) (k : Clause) (h : Held) → ValidHeld declared h → ClauseFits declared h k → AddedValid declared (add_clause k h)
unfolding add_clause
add_clause_valid declared k h v f = add_parts_valid declared k.left k.right h v f

abbrev pub AddedWithin : Clause → Held → Added → Type 0
AddedWithin k h refuted = Unit
AddedWithin k h (added is_new g) = (x : Sample) → HeldIn x g → Mem x (samples_of k) ⊎ HeldIn x h

-- What waits under either sign.
sides_mem : (x : Sample) (w : Sides) → Mem x (in_sides w) → (sign : Sign) × Mem x (side sign w)
unfolding in_sides side
sides_mem x w m = ⊎_elim {C = (sign : Sign) × Mem x (side sign w)} (λ p. (positive, p)) (λ n. (negative, n)) ((append_mem w.positives w.negatives x).0 m)

mem_sides : (x : Sample) (w : Sides) (sign : Sign) → Mem x (side sign w) → Mem x (in_sides w)
unfolding in_sides side
mem_sides x w positive m = (append_mem w.positives w.negatives x).1 (inl m)
mem_sides x w negative m = (append_mem w.positives w.negatives x).1 (inr m)

wait_as_mem : (sign g : Sign) (s x : Sample) (w : Sides) → Mem x (side g (wait_as sign s w)) → (x ≡ s) ⊎ Mem x (side g w)
unfolding wait_as
wait_as_mem positive positive s x w m = wait_mem s w.positives x m
wait_as_mem positive negative s x w m = inr m
wait_as_mem negative positive s x w m = inr m
wait_as_mem negative negative s x w m = wait_mem s w.negatives x m

-- The samples of the constraints after one goes live at a number.
set_mem : (n : ℕ) (c : Constraint) (slots : List Slot) (x : Sample) → Mem x (in_constraints (set slots n (modified_slot c))) → Mem x (samples_of c) ⊎ Mem x (in_constraints slots)
unfolding in_constraints
set_mem n c [] x m = absurd m
set_mem zero c (y ∷ ys) x m = ⊎_map (λ k. k) (λ k. (append_mem (slot_samples y.lives) (in_constraints ys) x).1 (inr k)) ((append_mem (samples_of c) (in_constraints ys) x).0 m)
set_mem (suc n) c (y ∷ ys) x m =
    let back = (append_mem (slot_samples y.lives) (in_constraints ys) x).1 in
    ⊎_elim (λ k. inr (back (inl k))) (λ k. ⊎_map (λ j. j) (λ j. back (inr j)) (set_mem n c ys x k))
    ((append_mem (slot_samples y.lives) (in_constraints (set ys n (modified_slot c))) x).0 m)

-- What is held after each step was held before it or is in the clause, whose samples are those of m.
module _ (m : List Sample) (h : Held) where
  abbrev From : Held → Type 0
  From g = (x : Sample) → HeldIn x g → Mem x m ⊎ HeldIn x h

  wait_in-from : (sign : Sign) (s : Sample) (g : Held) → Mem s m → From g → From (wait_in sign s g)
  unfolding wait_in
  wait_in-from sign s g k f x (inl p) = f x (inl p)
  wait_in-from sign s g k f x (inr (inl p)) =
      let q = sides_mem x (wait_as sign s g.waiting) p in
      ⊎_elim (λ e. inl (rw e k)) (λ j. f x (inr (inl (mem_sides x g.waiting q.0 j)))) (wait_as_mem sign q.0 s x g.waiting q.1)
  wait_in-from sign s g k f x (inr (inr p)) = f x (inr (inr p))

  settle-from : (g : Held) (r : Settled) → SettledWithin g r → From g → AfterSettling From r
  settle-from g contradicted w f = tt
  settle-from g (settled e n) w f = λ x p. f x (w x p)

  live_from : (n : ℕ) (c : Constraint) (g : Held) → lives_at n g.slots ≡ none → LivePart (λ s. Mem s m) g.kept c → From g → AfterAdd From (goes_live n c g)
  unfolding goes_live
  live_from n c g e p f x (inl k) = f x (inl k)
  live_from n c g e p f x (inr (inl k)) = f x (inr (inl k))
  live_from n c g e p f x (inr (inr k)) =
      ⊎_elim (λ j. inl (all_mem (Undecided (λ s. Mem s m) g.kept) (samples_of c) p.each x j).0) (λ j. f x (inr (inr j)))
      (set_mem n c g.slots x (test_within n (set g.slots n (modified_slot c)) x k))

  steps_from : StepsKeep (λ s. Mem s m) From
  steps_from = record { waits = wait_in-from; settles = λ g f. settle-from g (settle_held g) (settle_held_within g) f; lives = live_from }

add_other_within : (k : Clause) (h : Held) → AddedWithin k h (add_other k h)
add_other_within k h =
    let m = samples_of k in
    same (add_other k h) (add_other_keeps (λ s. Mem s m) (From m h) (steps_from m h) k h (mem_all (λ s. Mem s m) m (λ x i. i)) (λ x p. inr p))
  where
    same : (r : Added) → AfterAdd (From (samples_of k) h) r → AddedWithin k h r
    same refuted x = tt
    same (added is_new g) x = x

add_parts_within : (l : List Sample) (r : Option Sample) (h : Held) → AddedWithin (record { left = l; right = r }) h (add_parts l r h)
unfolding add_parts samples_of
add_parts_within [] none h = add_other_within (record { left = []; right = none }) h
add_parts_within [] (some q) h = wait_in-from (q ∷ []) h positive q h (inl refl) (λ x p. inr p)
add_parts_within (s ∷ []) none h = wait_in-from (s ∷ []) h negative s h (inl refl) (λ x p. inr p)
add_parts_within (s ∷ []) (some q) h = add_other_within (record { left = s ∷ []; right = some q }) h
add_parts_within (s ∷ t ∷ l) r h = add_other_within (record { left = s ∷ t ∷ l; right = r }) h

pub add_clause_within : (k : Clause) (h : Held) → AddedWithin k h (add_clause k h)
unfolding add_clause
add_clause_within k h = add_parts_within k.left k.right h
