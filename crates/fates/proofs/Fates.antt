-- A numbered constraint's fate and its redundancy are those of the constraint that it stands for.
use mathlib.Core.Path.{◌≡◌, refl, sym, ap, ◌∙◌}
use mathlib.Core.Bool.{Bool, true, false, cond, not}
use mathlib.Core.List.{List, [], ◌∷◌}
use mathlib.Core.Option.{Option, none, some}
use mathlib.Core.Logic.{inl, inr}
use Prim.Native.Nat.{ℕ}
use native.Mathlib.Omega.{arith}
use lib.Dec.{eqb}
use borrow.Author.Tests.{eqb-true, eq-eqb, ne_eqb}
use Rattle.rules.specs.Samples.{Sample, same}
use Rattle.rules.specs.Sets.{any, without, subset, insert}
use Rattle.rules.specs.Condition.{Mem}
use Rattle.rules.specs.Redundancy.{same_right, needless}
use Rattle.rules.specs.Settling.{stays, remaining, judged, right_goes, right_after, fate}
use Rattle.rules.proofs.Laws.Bools.{both, and_split, same_truth}
use Rattle.rules.proofs.Laws.Covering.{same_true, same_refl}
use Rattle.rules.proofs.Laws.Sets.{any_true, any_mem, subset_true, subset_test}
use Rattle.sample.specs.Signs.{sign_of}
use Rattle.sample.specs.declared.numbers.Sign.{Sign}
use Rattle.sample.specs.declared.numbers.Sign.TheVariants.{Positive, Negative}
use Rattle.constraint.specs.Numbered.{Numbered, is_in, any_no, outside, right_is, right_outside, inside_no, same_right_no, needless_no, FateNo, remaining_no, judged_no, fate_no}
use Rattle.constraint.proofs.Members.{first_in, later_in, any-number, number-any, outside_in, inside_all, all_inside_lem}
use Rattle.pool.specs.Picks.{pick, Among, Rises}
use Rattle.pool.proofs.PickLaws.{pick_mem, pick-without, pick-insert, same_number}
use Rattle.fates.specs.Meaning.{right_of, constraint_of, fate_of, Distinct, InUse, FateInUse}

-- What is left of distinct numbers is distinct.
pub outside_distinct : (test : ℕ → Bool) (l : List ℕ) → Distinct l → Distinct (outside test l)
unfolding outside
outside_distinct test [] d = tt
outside_distinct test (k ∷ l) d = go (test k) (outside_distinct test l d.1)
  where
    go : (b : Bool) → Distinct (outside test l) → Distinct (cond b (outside test l) (k ∷ outside test l))
    go true r = r
    go false r = (rw (outside_in test k l, d.0), r)

right_outside_lem : (test : ℕ → Bool) (r : Option ℕ) (k : ℕ) → right_outside test r ≡ some k → r ≡ some k
unfolding right_outside
right_outside_lem test none k h = h
right_outside_lem test (some q) k h = go (test q) h
  where
    go : (b : Bool) → cond b none (some q) ≡ some k → some q ≡ some k
    go true e = absurd (let z : ◌≡◌ {A = ℕ} 0 1 = cc in omega arith)
    go false e = e

-- What is left of numbers in use is in use, and so are the numbers of what becomes of a constraint.
outside_in_use : (test : ℕ → Bool) (ks : List ℕ) (c : Numbered) → InUse ks c → InUse ks (record { left = outside test c.left; right = right_outside test c.right })
outside_in_use test ks c u =
    record {
      left = λ k h. u.left k (and_split (is_in k c.left) (not (test k)) (sym (outside_in test k c.left) ∙ h)).0;
      right = λ k h. u.right k (right_outside_lem test c.right k h);
    }

remaining_in_use : (ks l : List ℕ) (r : Option ℕ) → InUse ks (record { left = l; right = r }) → Distinct l → FateInUse ks (remaining_no l r)
unfolding remaining_no
remaining_in_use ks [] none u d = tt
remaining_in_use ks [] (some q) u d = u.right q refl
remaining_in_use ks (s ∷ []) none u d = u.left s (first_in s [])
remaining_in_use ks (s ∷ []) (some q) u d = (u, d)
remaining_in_use ks (s ∷ t ∷ l) r u d = (u, d)

judged_in_use : (ks : List ℕ) (g : Sign) (left right : Bool) (rest : FateNo) → FateInUse ks rest → FateInUse ks (judged_no g left right rest)
unfolding judged_no
judged_in_use ks Positive false false rest u = tt
judged_in_use ks Negative false false rest u = tt
judged_in_use ks Positive true true rest u = tt
judged_in_use ks Negative true true rest u = tt
judged_in_use ks Positive true false rest u = u
judged_in_use ks Negative true false rest u = tt
judged_in_use ks Positive false true rest u = tt
judged_in_use ks Negative false true rest u = u

pub fate_in_use : (ks : List ℕ) (lost_no : ℕ → Bool) (g : Sign) (c : Numbered) → InUse ks c → Distinct c.left → FateInUse ks (fate_no lost_no g c)
unfolding fate_no
fate_in_use ks lost_no g c u d =
    judged_in_use ks g (any_no lost_no c.left) (right_is lost_no c.right) (remaining_no (outside lost_no c.left) (right_outside lost_no c.right))
    (remaining_in_use ks (outside lost_no c.left) (right_outside lost_no c.right) (outside_in_use lost_no ks c u) (outside_distinct lost_no c.left d))

-- Two different members stay.
two_stay : (p : List Sample) (r : Option Sample) (a b : Sample) → Mem a p → Mem b p → (a ≡ b → ⊥) → remaining p r ≡ stays (record { left = p; right = r })
unfolding remaining
two_stay [] r a b m n d = absurd m
two_stay (x ∷ []) r a b (inl e) (inl f) d = absurd (d (e ∙ sym f))
two_stay (x ∷ []) r a b (inl e) (inr n) d = absurd n
two_stay (x ∷ []) r a b (inr m) n d = absurd m
two_stay (x ∷ y ∷ p) r a b m n d = refl

none_picked : (at : ℕ → Sample) (ks : List ℕ) → pick at (λ k. false) ks ≡ []
unfolding pick
none_picked at [] = refl
none_picked at (k ∷ ks) = none_picked at ks

judged_of : (at : ℕ → Sample) (ks : List ℕ) (g : Sign) (left right : Bool) (rest : FateNo)
    → judged (sign_of g) left right (fate_of at ks rest) ≡ fate_of at ks (judged_no g left right rest)
unfolding judged judged_no fate_of sign_of
judged_of at ks Positive false false rest = refl
judged_of at ks Negative false false rest = refl
judged_of at ks Positive true true rest = refl
judged_of at ks Negative true true rest = refl
judged_of at ks Positive true false rest = refl
judged_of at ks Negative true false rest = refl
judged_of at ks Positive false true rest = refl
judged_of at ks Negative false true rest = refl

module _ (at : ℕ → Sample) (ks : List ℕ) (rises : Rises at ks) where
  -- The samples that a list of numbers stands for.
  abbrev samples : List ℕ → List Sample
  samples l = pick at (λ k. is_in k l) ks

  in_samples : (l : List ℕ) (k : ℕ) → Among k ks → is_in k l ≡ true → Mem (at k) (samples l)
  in_samples l k m h = (pick_mem at (λ k. is_in k l) ks (at k)).1 (k, m, h, refl)

  in_numbers : (l : List ℕ) (k : ℕ) → Among k ks → Mem (at k) (samples l) → is_in k l ≡ true
  in_numbers l k m h = let (j, i, t, e) = (pick_mem at (λ k. is_in k l) ks (at k)).0 h in rw (same_number at ks rises k j m i e) t

  one_picked : (s : ℕ) → Among s ks → samples (s ∷ []) ≡ at s ∷ []
  unfolding is_in insert
  one_picked s m =
      pick-insert at (λ k. false) (λ k. is_in k (s ∷ [])) s ks rises m refl (first_in s []) (λ k d. rw (ne_eqb k s d))
      ∙ ap (insert (at s)) (none_picked at ks)

  empty_picked : samples [] ≡ []
  unfolding is_in
  empty_picked = none_picked at ks

  -- Redundancy, whether a number stands once or more.
  same_right_of : (p q : Option ℕ) → ((k : ℕ) → p ≡ some k → Among k ks) → ((k : ℕ) → q ≡ some k → Among k ks)
      → same_right_no p q ≡ same_right (right_of at p) (right_of at q)
  unfolding same_right_no same_right right_of
  same_right_of none none m n = refl
  same_right_of none (some q) m n = refl
  same_right_of (some p) none m n = refl
  same_right_of (some p) (some q) m n =
      same_truth (eqb p q) (same (at p) (at q)) (λ e. rw (eqb-true p q e) (same_refl (at q)))
      (λ e. eq-eqb p q (same_number at ks rises p q (m p refl) (n q refl) (same_true (at p) (at q) e)))

  inside_of : (l m : List ℕ) → ((k : ℕ) → is_in k l ≡ true → Among k ks) → inside_no l m ≡ subset (samples l) (samples m)
  inside_of l m h = same_truth (inside_no l m) (subset (samples l) (samples m)) there back
    where
      there : inside_no l m ≡ true → subset (samples l) (samples m) ≡ true
      there e = subset_test (samples l) (samples m) (λ x i. let (k, j, t, p) = (pick_mem at (λ k. is_in k l) ks x).0 i in rw p (in_samples m k j (all_inside_lem l m k e t)))

      back : subset (samples l) (samples m) ≡ true → inside_no l m ≡ true
      back e = inside_all l m (λ k t. in_numbers m k (h k t) (subset_true (samples l) (samples m) e (at k) (in_samples l k (h k t) t)))

  pub needless_of : (c d : Numbered) → InUse ks c → InUse ks d → needless_no c d ≡ needless (constraint_of at ks c) (constraint_of at ks d)
  unfolding needless_no needless constraint_of
  needless_of c d p q = rw (same_right_of c.right d.right p.right q.right, inside_of c.left d.left p.left)

  -- What remains is told by how many numbers are left, so no number may stand twice.
  remaining_of : (l : List ℕ) (r : Option ℕ) → InUse ks (record { left = l; right = r }) → Distinct l → remaining (samples l) (right_of at r) ≡ fate_of at ks (remaining_no l r)
  unfolding remaining remaining_no right_of fate_of constraint_of sign_of
  remaining_of [] none u d = rw empty_picked
  remaining_of [] (some q) u d = rw empty_picked
  remaining_of (s ∷ []) none u d = rw (one_picked s (u.left s (first_in s [])))
  remaining_of (s ∷ []) (some q) u d = rw (one_picked s (u.left s (first_in s [])))
  remaining_of (s ∷ t ∷ l) r u d =
      let m = u.left s (first_in s (t ∷ l)) in
      let n = u.left t (later_in t s (t ∷ l) (first_in t l)) in
      two_stay (samples (s ∷ t ∷ l)) (right_of at r) (at s) (at t) (in_samples (s ∷ t ∷ l) s m (first_in s (t ∷ l)))
      (in_samples (s ∷ t ∷ l) t n (later_in t s (t ∷ l) (first_in t l)))
      (λ e. both (rw (same_number at ks rises s t m n e) (first_in t l)) d.0)

  -- A loss.
  module _ (lost : Sample → Bool) (lost_no : ℕ → Bool) (agree : (k : ℕ) → Among k ks → lost_no k ≡ lost (at k)) where
    any_of : (l : List ℕ) → ((k : ℕ) → is_in k l ≡ true → Among k ks) → any lost (samples l) ≡ any_no lost_no l
    any_of l h = same_truth (any lost (samples l)) (any_no lost_no l) there back
      where
        there : any lost (samples l) ≡ true → any_no lost_no l ≡ true
        there e =
            let (x, i, p) = any_true lost (samples l) e in
            let (k, j, t, q) = (pick_mem at (λ k. is_in k l) ks x).0 i in
            number-any lost_no k l t (agree k j ∙ (rw q at p))

        back : any_no lost_no l ≡ true → any lost (samples l) ≡ true
        back e = let (k, t, p) = any-number lost_no l e in any_mem lost (samples l) (at k) (in_samples l k (h k t) t) (sym (agree k (h k t)) ∙ p)

    without_of : (l : List ℕ) → without lost (samples l) ≡ samples (outside lost_no l)
    without_of l = sym (pick-without at lost (λ k. is_in k l) (λ k. is_in k (outside lost_no l)) ks (λ k m. outside_in lost_no k l ∙ rw (agree k m)))

    right_goes_of : (r : Option ℕ) → ((k : ℕ) → r ≡ some k → Among k ks) → right_goes lost (right_of at r) ≡ right_is lost_no r
    unfolding right_goes right_is right_of
    right_goes_of none h = refl
    right_goes_of (some k) h = sym (agree k (h k refl))

    right_after_of : (r : Option ℕ) → ((k : ℕ) → r ≡ some k → Among k ks) → right_after lost (right_of at r) ≡ right_of at (right_outside lost_no r)
    unfolding right_after right_outside right_of
    right_after_of none h = refl
    right_after_of (some k) h = rw (← agree k (h k refl)) (go (lost_no k))
      where
        go : (b : Bool) → cond b none (some (at k)) ≡ right_of at (cond b none (some k))
        go true = refl
        go false = refl

    pub fate_of_lem : (g : Sign) (c : Numbered) → InUse ks c → Distinct c.left → fate lost (sign_of g) (constraint_of at ks c) ≡ fate_of at ks (fate_no lost_no g c)
    unfolding fate fate_no constraint_of
    fate_of_lem g c u d =
        rw (
          any_of c.left u.left,
          right_goes_of c.right u.right,
          without_of c.left,
          right_after_of c.right u.right,
          remaining_of (outside lost_no c.left) (right_outside lost_no c.right) (outside_in_use lost_no ks c u) (outside_distinct lost_no c.left d),
        )
        (judged_of at ks g (any_no lost_no c.left) (right_is lost_no c.right) (remaining_no (outside lost_no c.left) (right_outside lost_no c.right)))
