-- A sweep keeps the condition: a constraint that stays live is valid beside the samples kept now, and a sample that comes to wait is valid.
use mathlib.Core.Path.{◌≡◌, refl, sym, ap, ◌∙◌}
use mathlib.Core.Bool.{Bool, true, false, cond, not, or-false}
use mathlib.Core.List.{List, [], ◌∷◌}
use mathlib.Core.Option.{Option, none, some}
use mathlib.Core.Logic.{inl, inr, ⊎_elim}
use Prim.Native.Nat.{ℕ, suc, ◌≤◌}
use native.Mathlib.Omega.{arith}
use lib.ListN.{length}
use Rattle.rules.specs.Values.{Sort}
use Rattle.rules.specs.Samples.{Sample, valid_sample, total, same}
use Rattle.rules.specs.Sets.{any, without, member, covered_by}
use Rattle.rules.specs.Contents.{Sign, positive, negative, Sides, side, wait_as, Constraint, Slot, free, modified_slot, is_live, right_samples, samples_of}
use Rattle.rules.specs.Settling.{Fate, untouched, dropped, waits, contradicts, stays, remaining, judged, right_goes, right_after, fate, slot_fate}
use Rattle.rules.specs.Settling.{Swept, broken, swept, onto, noting, turn, sweep}
use Rattle.rules.specs.Adding.{right_among}
use Rattle.rules.specs.Satisfying.{All, IfLive, AllLive}
use Rattle.rules.specs.Condition.{Mem, Rising, ValidSet, NonEmpty, ValidConstraint, MarkedLive}
use Rattle.rules.proofs.Laws.Bools.{by_test}
use Rattle.rules.proofs.Laws.Sets.{all_mem, mem_all, all_sub, any_none, without_mem, append_mem, without_rising}
use Rattle.rules.proofs.Kept.ValidSets.{any_part, wait_valid}

module _ (lost : Sample → Bool) where
  -- The right side, as a list of one or none, loses samples as the left does.
  pub right_after_lem : (r : Option Sample) → right_samples (right_after lost r) ≡ without lost (right_samples r)
  unfolding right_samples right_after without
  right_after_lem none = refl
  right_after_lem (some q) = go (lost q)
    where
      go : (b : Bool) → right_samples (cond b none (some q)) ≡ cond (not b) (q ∷ []) []
      go true = refl
      go false = refl

  pub right_goes_lem : (r : Option Sample) → right_goes lost r ≡ any lost (right_samples r)
  unfolding right_samples right_goes any
  right_goes_lem none = refl
  right_goes_lem (some q) = sym (or-false (lost q))

  -- What is left of a constraint.
  abbrev pub left_over : Constraint → Constraint
  left_over c = record { left = without lost c.left; right = right_after lost c.right }

  -- Every sample of d is one of c that is not lost.
  abbrev pub Spared : Constraint → Constraint → Type 0
  Spared c d = (x : Sample) → Mem x (samples_of d) → Mem x (samples_of c) × (lost x ≡ false)

  pub spared_over : (c : Constraint) → Spared c (left_over c)
  unfolding samples_of
  spared_over c x m =
      let back = (append_mem c.left (right_samples c.right) x).1 in
      ⊎_elim
      (λ k. let q = (without_mem lost c.left x).0 k in (back (inl q.0), q.1))
      (λ k. let q = (without_mem lost (right_samples c.right) x).0 (rw (right_after_lem c.right) at k) in (back (inr q.0), q.1))
      ((append_mem (without lost c.left) (right_samples (right_after lost c.right)) x).0 m)

  pub spared_whole : (c : Constraint) → any lost c.left ≡ false → right_goes lost c.right ≡ false → Spared c c
  unfolding samples_of
  spared_whole c a b x m = (
    m,
    ⊎_elim
        (any_none lost c.left a x)
        (any_none lost (right_samples c.right) (sym (right_goes_lem c.right) ∙ b) x)
        ((append_mem c.left (right_samples c.right) x).0 m),
  )

  over_apart : (r : Option Sample) (l : List Sample) → right_among r l ≡ false → right_among (right_after lost r) (without lost l) ≡ false
  unfolding right_among right_after member
  over_apart none l h = refl
  over_apart (some q) l h =
      by_test
      (λ o. right_among o (without lost l) ≡ false)
      (lost q)
      (λ e. refl)
      (λ e. any_part (same q) l (without lost l) (λ x m. ((without_mem lost l x).0 m).0) h)

-- A valid constraint but for the number of its samples.
record Fits (declared : List (List Sort)) (kept : Sides) (c : Constraint) : Type 0 where
  rising : Rising c.left
  right_apart : right_among c.right c.left ≡ false
  valid : All (λ s. valid_sample declared s ≡ true) (samples_of c)
  total : All (λ s. total s ≡ true) (samples_of c)
  uncovered : (sign : Sign) → All (λ s. covered_by (side sign kept) s ≡ false) (samples_of c)

module _ (declared : List (List Sort)) (now : Sides) where
  enough : (c : Constraint) → NonEmpty c.left → 2 ≤ length (samples_of c) → Fits declared now c → ValidConstraint declared now c
  enough c n two f =
      record { some_left = n; rising = f.rising; two_or_more = two; right_apart = f.right_apart; valid = f.valid; total = f.total; uncovered = f.uncovered }

  -- What a fate comes to, for who lived at the number.
  abbrev FateValid : Option Constraint → Fate → Type 0
  FateValid o untouched = IfLive (ValidConstraint declared now) o
  FateValid o dropped = Unit
  FateValid o (waits sign s) = valid_sample declared s ≡ true
  FateValid o contradicts = Unit
  FateValid o (stays c) = ValidConstraint declared now c

  -- One sample that is left alone waits; two or more, a left one among them, stay.
  remaining_valid : (o : Option Constraint) (l : List Sample) (r : Option Sample) → Fits declared now (record { left = l; right = r }) → FateValid o (remaining l r)
  unfolding remaining samples_of
  remaining_valid o [] none f = tt
  remaining_valid o [] (some q) f = f.valid.0
  remaining_valid o (s ∷ []) none f = f.valid.0
  remaining_valid o (s ∷ []) (some q) f = enough (record { left = s ∷ []; right = some q }) tt (omega arith) f
  remaining_valid o (s ∷ t ∷ l) r f = enough (record { left = s ∷ t ∷ l; right = r }) tt (omega arith) f

  judged_valid : (o : Option Constraint) (sign : Sign) (a b : Bool) (rest : Fate)
      → (a ≡ false → b ≡ false → FateValid o untouched) → FateValid o rest → FateValid o (judged sign a b rest)
  unfolding judged
  judged_valid o sign false false rest u r = u refl refl
  judged_valid o negative true b rest u r = tt
  judged_valid o positive true true rest u r = tt
  judged_valid o positive true false rest u r = r
  judged_valid o positive false true rest u r = tt
  judged_valid o negative false true rest u r = r

  -- What a sweep of n slots comes to.
  pub record SlotsValid (n : ℕ) (waiting : Sides) (slots : List Slot) : Type 0 where
    pub waits : (g : Sign) → ValidSet declared (side g waiting)
    pub constraints : AllLive (ValidConstraint declared now) slots
    pub marks : MarkedLive slots
    pub numbers : length slots ≡ n

  abbrev pub SweptValid : ℕ → Swept → Type 0
  SweptValid n broken = Unit
  SweptValid n (swept waiting slots modified) = SlotsValid n waiting slots

  onto_valid : (n : ℕ) (x : Slot) (w : Swept) → IfLive (ValidConstraint declared now) x.lives → (x.modified ≡ true → is_live x.lives ≡ true)
      → SweptValid n w → SweptValid (suc n) (onto x w)
  unfolding onto
  onto_valid n x broken c m v = tt
  onto_valid n x (swept waiting slots modified) c m v =
      record { waits = v.waits; constraints = (c, v.constraints); marks = (m, v.marks); numbers = ap suc v.numbers }

  noting_valid : (n i : ℕ) (w : Swept) → SweptValid n w → SweptValid n (noting i w)
  unfolding noting
  noting_valid n i broken v = tt
  noting_valid n i (swept waiting slots modified) v = v

  turn_valid : (f : Fate) (x : Slot) (i n : ℕ) (waiting : Sides) (others : Sides → Swept)
      → FateValid x.lives f → (x.modified ≡ true → is_live x.lives ≡ true) → ((g : Sign) → ValidSet declared (side g waiting))
      → ((w : Sides) → ((g : Sign) → ValidSet declared (side g w)) → SweptValid n (others w)) → SweptValid (suc n) (turn f x i waiting others)
  unfolding turn is_live
  turn_valid untouched x i n waiting others v m w o = onto_valid n x (others waiting) v m (o waiting w)
  turn_valid dropped x i n waiting others v m w o = onto_valid n free (others waiting) tt (λ e. e) (o waiting w)
  turn_valid (waits sign s) x i n waiting others v m w o =
      let more = wait_as sign s waiting in onto_valid n free (others more) tt (λ e. e) (o more (wait_valid declared sign s waiting v w))
  turn_valid contradicts x i n waiting others v m w o = tt
  turn_valid (stays c) x i n waiting others v m w o =
      noting_valid (suc n) i (onto (modified_slot c) (others waiting)) (onto_valid n (modified_slot c) (others waiting) v (λ e. refl) (o waiting w))

-- What a sweep asks of the samples kept before and now: one that is not lost and was not covered is not covered now.
abbrev pub StaysUncovered : (Sample → Bool) → Sides → Sides → Type 0
StaysUncovered lost old now = (x : Sample) → lost x ≡ false → ((g : Sign) → covered_by (side g old) x ≡ false) → (g : Sign) → covered_by (side g now) x ≡ false

module _ (declared : List (List Sort)) (lost : Sample → Bool) (old now : Sides) (step : StaysUncovered lost old now) where
  spared_fits : (c d : Constraint) → Spared lost c d → Rising d.left → right_among d.right d.left ≡ false → ValidConstraint declared old c → Fits declared now d
  spared_fits c d f r a v =
      record {
        rising = r;
        right_apart = a;
        valid = all_sub (λ s. valid_sample declared s ≡ true) (samples_of c) (samples_of d) (λ x m. (f x m).0) v.valid;
        total = all_sub (λ s. total s ≡ true) (samples_of c) (samples_of d) (λ x m. (f x m).0) v.total;
        uncovered = λ g. mem_all (λ s. covered_by (side g now) s ≡ false) (samples_of d) (λ x m. step x (f x m).1 (free_of x (f x m).0) g);
      }
    where
      free_of : (x : Sample) → Mem x (samples_of c) → (g : Sign) → covered_by (side g old) x ≡ false
      free_of x m g = all_mem (λ s. covered_by (side g old) s ≡ false) (samples_of c) (v.uncovered g) x m

  fate_valid : (sign : Sign) (o : Option Constraint) → IfLive (ValidConstraint declared old) o → FateValid declared now o (slot_fate lost sign o)
  unfolding slot_fate fate
  fate_valid sign none v = tt
  fate_valid sign (some c) v =
      let l = without lost c.left in
      let r = right_after lost c.right in
      judged_valid declared now (some c) sign (any lost c.left) (right_goes lost c.right) (remaining l r)
      (λ a b. enough declared now c v.some_left v.two_or_more (spared_fits c c (spared_whole lost c a b) v.rising v.right_apart v))
      (remaining_valid declared now (some c) l r
      (spared_fits c (left_over lost c) (spared_over lost c) (without_rising lost c.left v.rising) (over_apart lost c.right c.left v.right_apart) v))

  pub sweep_valid : (sign : Sign) (i : ℕ) (slots : List Slot) (waiting : Sides) → AllLive (ValidConstraint declared old) slots → MarkedLive slots
      → ((g : Sign) → ValidSet declared (side g waiting)) → SweptValid declared now (length slots) (sweep lost sign i slots waiting)
  unfolding sweep
  sweep_valid sign i [] waiting a m w = record { waits = w; constraints = tt; marks = tt; numbers = refl }
  sweep_valid sign i (x ∷ xs) waiting a m w =
      turn_valid declared now (slot_fate lost sign x.lives) x i (length xs) waiting (λ v. sweep lost sign (suc i) xs v)
      (fate_valid sign x.lives a.0) m.0 w (λ v. sweep_valid sign (suc i) xs v a.1 m.1)
