-- Constraints that lose samples, each of them in or out as the sign says: what satisfied the store still does, and nothing else does.
-- The test says which samples are lost, so this serves a draw and a force alike.
use mathlib.Core.Path.{◌≡◌, refl, sym}
use mathlib.Core.Bool.{Bool, true, false, not, ◌&&◌, ◌||◌}
use mathlib.Core.List.{List, [], ◌∷◌}
use mathlib.Core.Option.{Option, none, some}
use mathlib.Core.Logic.Iff
use mathlib.Core.Logic.{◌↔◌, inl, inr, ⊎_elim}
use Prim.Native.Nat.{ℕ, suc}
use Rattle.rules.specs.Values.{Sort}
use Rattle.rules.specs.Samples.{Sample, valid_sample, total}
use Rattle.rules.specs.Sets.{any, without}
use Rattle.rules.specs.Contents.{Sign, positive, negative, Sides, wait_as, Constraint, Slot, free, modified_slot, right_samples, samples_of}
use Rattle.rules.specs.Settling.{Fate, untouched, dropped, waits, contradicts, stays, remaining, judged, right_goes, right_after, fate, slot_fate, Swept, broken, swept, onto, noting, turn, sweep}
use Rattle.rules.specs.Satisfying.{Assignment, Satisfies, is_in, inside, all_inside, right_inside, holds, IfLive, AllLive, SatisfiesSides}
use Rattle.rules.specs.Condition.{Mem, ValidConstraint}
use Rattle.rules.proofs.Laws.Bools.{both, by_test, and_split, and_join, or_second, refuted, same_truth}
use Rattle.rules.proofs.Laws.Sets.{all_mem, any_true, any_none, without_mem, append_mem}
use Rattle.rules.proofs.Same.Completions.{total_in, wait_sat}

abbrev pub Holds : Assignment → Constraint → Type 0
Holds a c = holds a c ≡ true

-- All are inside exactly if each one is.
pub inside_all : (a : Assignment) (l : List Sample) → all_inside a l ≡ true → (x : Sample) → Mem x l → inside a x ≡ true
unfolding all_inside
inside_all a [] h x m = absurd m
inside_all a (s ∷ l) h x (inl e) = rw e (and_split (inside a s) (all_inside a l) h).0
inside_all a (s ∷ l) h x (inr m) = inside_all a l (and_split (inside a s) (all_inside a l) h).1 x m

pub all_inside_lem : (a : Assignment) (l : List Sample) → ((x : Sample) → Mem x l → inside a x ≡ true) → all_inside a l ≡ true
unfolding all_inside
all_inside_lem a [] f = refl
all_inside_lem a (s ∷ l) f = and_join (inside a s) (all_inside a l) (f s (inl refl)) (all_inside_lem a l (λ x m. f x (inr m)))

-- One that is out is enough.
pub holds_out : (a : Assignment) (c : Constraint) (x : Sample) → Mem x c.left → inside a x ≡ false → Holds a c
unfolding holds
holds_out a c x m e = rw (refuted (all_inside a c.left) (λ h. both (inside_all a c.left h x m) e))

-- What is left of each side after the loss, by what the lost ones were.
module _ (a : Assignment) (lost : Sample → Bool) where
  inside-without : (l : List Sample) → ((x : Sample) → Mem x l → lost x ≡ true → inside a x ≡ true) → all_inside a (without lost l) ≡ all_inside a l
  inside-without l f =
      same_truth
      (all_inside a (without lost l))
      (all_inside a l)
      (λ h. all_inside_lem a l (λ x m. go x m (lost x) refl (inside_all a (without lost l) h x)))
      (λ h. all_inside_lem a (without lost l) (λ x m. inside_all a l h x ((without_mem lost l x).0 m).0))
    where
      go : (x : Sample) → Mem x l → (b : Bool) → lost x ≡ b → (Mem x (without lost l) → inside a x ≡ true) → inside a x ≡ true
      go x m true e h = f x m e
      go x m false e h = h ((without_mem lost l x).1 (m, e))

  right_after_lem : (r : Option Sample) → ((x : Sample) → Mem x (right_samples r) → lost x ≡ true → inside a x ≡ false) → right_inside a (right_after lost r) ≡ right_inside a r
  unfolding right_inside right_after right_samples
  right_after_lem none f = refl
  right_after_lem (some q) f = by_test (λ r. right_inside a r ≡ inside a q) (lost q) (λ e. sym (f q (inl refl) e)) (λ e. refl)

  right_in : (r : Option Sample) → ((x : Sample) → Mem x (right_samples r) → lost x ≡ true → inside a x ≡ true) → right_goes lost r ≡ true → right_inside a r ≡ true
  unfolding right_inside right_goes right_samples
  right_in none f e = e
  right_in (some q) f e = f q (inl refl) e

right_stays : (lost : Sample → Bool) (r : Option Sample) → right_goes lost r ≡ false → (x : Sample) → Mem x (right_samples r) → lost x ≡ false
unfolding right_goes right_samples
right_stays lost none e x m = absurd m
right_stays lost (some q) e x (inl d) = rw d e
right_stays lost (some q) e x (inr m) = absurd m

right_part : (lost : Sample → Bool) (r : Option Sample) (x : Sample) → Mem x (right_samples (right_after lost r)) → Mem x (right_samples r)
unfolding right_after right_samples
right_part lost none x m = m
right_part lost (some q) x m = by_test (λ r. Mem x (right_samples r) → Mem x (q ∷ [])) (lost q) (λ e k. absurd k) (λ e k. k) m

module _ (declared : List (List Sort)) (a : Assignment) where
  -- Valid and total, as the samples of a live constraint are: satisfied if its vector is in or out.
  abbrev pub Ground : Sample → Type 0
  Ground x = (valid_sample declared x ≡ true) × (total x ≡ true)

  pub constraint_ground : (kept : Sides) (c : Constraint) → ValidConstraint declared kept c → (x : Sample) → Mem x (samples_of c) → Ground x
  constraint_ground kept c v x m = (all_mem (λ s. valid_sample declared s ≡ true) (samples_of c) v.valid x m, all_mem (λ s. total s ≡ true) (samples_of c) v.total x m)

  -- The lost ones are in or out as the sign says.
  abbrev pub LostAs : Sign → (Sample → Bool) → Type 0
  LostAs sign lost = (x : Sample) → Ground x → lost x ≡ true → inside a x ≡ is_in sign

  -- What a fate asks of the assignment, for what lived before.
  abbrev FateSat : Option Constraint → Fate → Type 0
  FateSat lived untouched = IfLive (Holds a) lived
  FateSat lived dropped = Unit
  FateSat lived (waits sign s) = Satisfies declared a sign s
  FateSat lived contradicts = ⊥
  FateSat lived (stays c) = Holds a c

  remaining_sat : (lived : Option Constraint) (l : List Sample) (r : Option Sample) → ((x : Sample) → Mem x (samples_of (record { left = l; right = r })) → Ground x)
      → Holds a (record { left = l; right = r }) ↔ FateSat lived (remaining l r)
  unfolding remaining holds samples_of
  remaining_sat lived [] none g = (λ h. both h refl, λ h. absurd h)
  remaining_sat lived [] (some q) g = let k = g q (inl refl) in Iff.symm (total_in declared a positive q k.0 k.1)
  remaining_sat lived (s ∷ []) none g = let k = g s (inl refl) in Iff.trans (out (inside a s)) (Iff.symm (total_in declared a negative s k.0 k.1))
    where
      out : (b : Bool) → ((not (b && true) || false) ≡ true) ↔ (b ≡ false)
      out true = (sym, sym)
      out false = (λ h. refl, λ h. refl)
  remaining_sat lived (s ∷ []) (some q) g = Iff.rfl
  remaining_sat lived (s ∷ t ∷ l) r g = Iff.rfl

  fate_sat : (lost : Sample → Bool) (sign : Sign) (c : Constraint) → LostAs sign lost → ((x : Sample) → Mem x (samples_of c) → Ground x)
      → Holds a c ↔ FateSat (some c) (fate lost sign c)
  unfolding fate judged samples_of holds
  fate_sat lost sign c f g = go sign (any lost c.left) (right_goes lost c.right) refl refl f
    where
      left : (x : Sample) → Mem x c.left → Ground x
      left x m = g x ((append_mem c.left (right_samples c.right) x).1 (inl m))

      right : (x : Sample) → Mem x (right_samples c.right) → Ground x
      right x m = g x ((append_mem c.left (right_samples c.right) x).1 (inr m))

      after : Constraint
      after = record { left = without lost c.left; right = right_after lost c.right }

      rest : Fate
      rest = remaining after.left after.right

      part : (x : Sample) → Mem x (samples_of after) → Ground x
      part x m =
          ⊎_elim
          (λ k. left x ((without_mem lost c.left x).0 k).0)
          (λ k. right x (right_part lost c.right x k))
          ((append_mem after.left (right_samples after.right) x).0 m)

      -- Lost left ones were in and a lost right one was out, so the constraint holds as it did.
      stays_sat : ((x : Sample) → Mem x c.left → lost x ≡ true → inside a x ≡ true) → ((x : Sample) → Mem x (right_samples c.right) → lost x ≡ true → inside a x ≡ false)
          → Holds a c ↔ FateSat (some c) rest
      stays_sat p q =
          let e : holds a after ≡ holds a c = rw (inside-without a lost c.left p, right_after_lem a lost c.right q) in
          Iff.trans (rw e Iff.rfl) (remaining_sat (some c) after.left after.right part)

      goes_sat : Holds a c → Holds a c ↔ Unit {0}
      goes_sat h = (λ k. tt, λ k. h)

      left_out : LostAs negative lost → any lost c.left ≡ true → Holds a c
      left_out k e = let r = any_true lost c.left e in holds_out a c r.0 r.1 (k r.0 (left r.0 r.1) r.2)

      right_there : LostAs positive lost → right_goes lost c.right ≡ true → Holds a c
      right_there k e = or_second (not (all_inside a c.left)) (right_inside a c.right) (right_in a lost c.right (λ x m d. k x (right x m) d) e)

      go : (k : Sign) (l r : Bool) → any lost c.left ≡ l → right_goes lost c.right ≡ r → LostAs k lost → Holds a c ↔ FateSat (some c) (judged k l r rest)
      go k false false p q u = Iff.rfl
      go negative true r p q u = goes_sat (left_out u p)
      go positive true true p q u = goes_sat (right_there u q)
      go positive true false p q u = stays_sat (λ x m e. u x (left x m) e) (λ x m e. both e (right_stays lost c.right q x m))
      go positive false true p q u = goes_sat (right_there u q)
      go negative false true p q u = stays_sat (λ x m e. both e (any_none lost c.left p x m)) (λ x m e. u x (right x m) e)

  -- The sweep over all of them, with what waits.
  abbrev pub SweptSat : Swept → Type 0
  SweptSat broken = ⊥
  SweptSat (swept waiting slots modified) = SatisfiesSides declared a waiting × AllLive (Holds a) slots

  -- A slot in front of the others adds what it asks; W is what the waiting ones ask.
  onto_sat : (x : Slot) (later : Swept) (W Later : Type 0) → ((W × Later) ↔ SweptSat later) → (W × (IfLive (Holds a) x.lives × Later)) ↔ SweptSat (onto x later)
  unfolding onto
  onto_sat x broken W Later e = (λ h. e.0 (h.0, h.1.1), λ h. absurd h)
  onto_sat x (swept waiting slots modified) W Later e = (
    λ h. let r = e.0 (h.0, h.1.1) in (r.0, (h.1.0, r.1)),
    λ h. let r = e.1 (h.0, h.1.1) in (r.0, (h.1.0, r.1)),
  )

  noting_sat : (n : ℕ) (later : Swept) → SweptSat (noting n later) ↔ SweptSat later
  unfolding noting
  noting_sat n broken = Iff.rfl
  noting_sat n (swept waiting slots modified) = Iff.rfl

  turn_sat : (f : Fate) (x : Slot) (n : ℕ) (waiting : Sides) (others : Sides → Swept) (Later : Type 0)
      → ((w : Sides) → (SatisfiesSides declared a w × Later) ↔ SweptSat (others w))
      → (SatisfiesSides declared a waiting × (FateSat x.lives f × Later)) ↔ SweptSat (turn f x n waiting others)
  unfolding turn
  turn_sat untouched x n w others Later e = onto_sat x (others w) (SatisfiesSides declared a w) Later (e w)
  turn_sat dropped x n w others Later e = onto_sat free (others w) (SatisfiesSides declared a w) Later (e w)
  turn_sat (waits sign s) x n w others Later e =
      let v = wait_as sign s w in
      let o = onto_sat free (others v) (SatisfiesSides declared a v) Later (e v) in
      let q = wait_sat declared a sign s w in (
        λ h. o.0 (q.1 (h.1.0, h.0), (tt, h.1.1)),
        λ h. let r = o.1 h in let k = q.0 r.0 in (k.1, (k.0, r.1.1)),
      )
  turn_sat contradicts x n w others Later e = (λ h. h.1.0, λ h. absurd h)
  turn_sat (stays c) x n w others Later e =
      Iff.trans (onto_sat (modified_slot c) (others w) (SatisfiesSides declared a w) Later (e w)) (Iff.symm (noting_sat n (onto (modified_slot c) (others w))))

  module _ (lost : Sample → Bool) (sign : Sign) (kept : Sides) (f : LostAs sign lost) where
    slot_sat : (lived : Option Constraint) → IfLive (ValidConstraint declared kept) lived → IfLive (Holds a) lived ↔ FateSat lived (slot_fate lost sign lived)
    unfolding slot_fate
    slot_sat none v = Iff.rfl
    slot_sat (some c) v = fate_sat lost sign c f (constraint_ground kept c v)

    pub sweep_sat : (n : ℕ) (slots : List Slot) (waiting : Sides) → AllLive (ValidConstraint declared kept) slots
        → (SatisfiesSides declared a waiting × AllLive (Holds a) slots) ↔ SweptSat (sweep lost sign n slots waiting)
    unfolding sweep
    sweep_sat n [] w v = Iff.rfl
    sweep_sat n (x ∷ xs) w v =
        Iff.trans
        (Iff.and Iff.rfl (Iff.and (slot_sat x.lives v.0) Iff.rfl))
        (turn_sat (slot_fate lost sign x.lives) x n w (λ u. sweep lost sign (suc n) xs u) (AllLive (Holds a) xs) (λ u. sweep_sat (suc n) xs u v.1))
