-- Adding: the outcome satisfies exactly what the store and the clause did, or 9 and nothing does.
use mathlib.Core.Path.{◌≡◌, refl, sym, ◌∙◌}
use mathlib.Core.Bool.{Bool, true, false, not, ◌&&◌, ◌||◌}
use mathlib.Core.List.{List, [], ◌∷◌}
use mathlib.Core.Option.{Option, none, some}
use mathlib.Core.Logic.{◌↔◌, inl, inr}
use Prim.Native.Nat.{ℕ, zero, suc, ◌<◌}
use native.Mathlib.Omega.{arith}
use lib.ListN.{set, length}
use Rattle.rules.specs.Sizes.{max_constraints}
use Rattle.rules.specs.Values.{Sort}
use Rattle.rules.specs.Samples.{Sample, covers}
use Rattle.rules.specs.Sets.{covered_by, include}
use Rattle.rules.specs.Contents.{Sign, positive, negative, Sides, side, Constraint, Clause, right_samples, samples_of, Slot, modified_slot, Held, live_count}
use Rattle.rules.specs.Redundancy.{lives_at}
use Rattle.rules.specs.Settling.{Settled, contradicted, settled, settle_held}
use Rattle.rules.specs.Adding.{several, Added, refuted, added, wait_in, RightNow, right_known, right_is, step2, LeftNow, left_false, left_is, left_with, step3, right_among}
use Rattle.rules.specs.Adding.{again, lowest_free, step7, steps567, step4, steps234, after_settling, add_other, add_parts, add_clause}
use Rattle.rules.specs.Satisfying.{Assignment, Satisfies, is_in, inside, all_inside, right_inside, holds, All, AllLive, SatisfiesSides, SatisfiesHeld}
use Rattle.rules.specs.Condition.{ValidHeld}
use Rattle.rules.specs.Demand3.{SatisfiesParts, SatisfiesClause}
use Rattle.rules.proofs.Laws.Bools.{both, by_test, and_split, and_join, or_second, same_truth}
use Rattle.rules.proofs.Laws.Sets.{all_mem, mem_all, any_true, member_true, include_mem}
use Rattle.rules.proofs.Kept.ValidSettling.{SettledValid, settle_held_valid}
use Rattle.rules.proofs.Same.SameAssignments.{total_in, satisfies_covered, wait_sat, test_sat, SettledSat, settle_held_sat}
use Rattle.rules.proofs.Kept.FreeNumbers.{AtMostLive, settle_held_count, lowest_free-free, lowest_free_room}
use Rattle.rules.proofs.Kept.EachDraw.{AfterSettling}
use Rattle.rules.proofs.Kept.AddSteps.{parts_all, include_all_lem, Undecided, RightOf, LeftOf, step2_of, step3_of}
use Rattle.rules.proofs.Kept.ValidAdding.{ClauseFits, Whole, fits_whole, several-left, set_live, wait_in_valid}

abbrev pub AddedSat : List (List Sort) → Assignment → Added → Type 0
AddedSat declared a refuted = ⊥
AddedSat declared a (added is_new g) = SatisfiesHeld declared a g

-- What goes live at a free number joins the live constraints, and nothing leaves them.
live_set : (P : Constraint → Type 0) (slots : List Slot) (n : ℕ) (c : Constraint) → n < length slots → lives_at n slots ≡ none
    → AllLive P (set slots n (modified_slot c)) → P c × AllLive P slots
unfolding lives_at
live_set P [] n c i e h = absurd (omega arith)
live_set P (y ∷ ys) zero c i e h = (h.0, (rw e tt, h.1))
live_set P (y ∷ ys) (suc n) c i e h = let r = live_set P ys n c (omega arith) e h.1 in (r.0, (h.0, r.1))

module _ (a : Assignment) where
  all_inside_true : (l : List Sample) → all_inside a l ≡ true → All (λ s. inside a s ≡ true) l
  unfolding all_inside
  all_inside_true [] h = tt
  all_inside_true (s ∷ l) h = let r = and_split (inside a s) (all_inside a l) h in (r.0, all_inside_true l r.1)

  all_inside_test : (l : List Sample) → All (λ s. inside a s ≡ true) l → all_inside a l ≡ true
  unfolding all_inside
  all_inside_test [] h = refl
  all_inside_test (s ∷ l) h = and_join (inside a s) (all_inside a l) h.0 (all_inside_test l h.1)

  -- Merging equal left samples changes nothing.
  include-inside : (s : Sample) (l : List Sample) → all_inside a (include s l) ≡ (inside a s && all_inside a l)
  include-inside s l = same_truth (all_inside a (include s l)) (inside a s && all_inside a l) there back
    where
      there : all_inside a (include s l) ≡ true → (inside a s && all_inside a l) ≡ true
      there h =
          let m = all_mem (λ x. inside a x ≡ true) (include s l) (all_inside_true (include s l) h) in
          and_join (inside a s) (all_inside a l) (m s ((include_mem s l s).1 (inl refl)))
          (all_inside_test l (mem_all (λ x. inside a x ≡ true) l (λ x k. m x ((include_mem s l x).1 (inr k)))))

      back : (inside a s && all_inside a l) ≡ true → all_inside a (include s l) ≡ true
      back h = let r = and_split (inside a s) (all_inside a l) h in all_inside_test (include s l) (include_all_lem (λ x. inside a x ≡ true) s l r.0 (all_inside_true l r.1))

  -- Right among the left: the clause holds.
  among_holds : (l : List Sample) (r : Option Sample) → right_among r l ≡ true → holds a (record { left = l; right = r }) ≡ true
  unfolding right_among holds
  among_holds l none e = both e refl
  among_holds l (some q) e = go (all_inside a l) refl
    where
      go : (b : Bool) → all_inside a l ≡ b → (not b || inside a q) ≡ true
      go true i = all_mem (λ s. inside a s ≡ true) l (all_inside_true l i) q (member_true q l e)
      go false i = refl

  -- One left, no right.
  out_holds : (s : Sample) → (inside a s ≡ false) ↔ (holds a (record { left = s ∷ []; right = none }) ≡ true)
  unfolding holds
  out_holds s = go (inside a s)
    where
      go : (b : Bool) → (b ≡ false) ↔ ((not (b && true) || false) ≡ true)
      go true = (λ e. both refl e, λ e. both e refl)
      go false = (λ e. refl, λ e. refl)

module _ (declared : List (List Sort)) (a : Assignment) where
  wait_in_sat : (sign : Sign) (s : Sample) (h : Held) → (Satisfies declared a sign s × SatisfiesHeld declared a h) ↔ SatisfiesHeld declared a (wait_in sign s h)
  unfolding wait_in
  wait_in_sat sign s h = let w = wait_sat declared a sign s h.waiting in (
    λ x. record { kept = x.1.kept; waiting = w.1 (x.0, x.1.waiting); constraints = x.1.constraints },
    λ x. let y = w.0 x.waiting in (y.0, record { kept = x.kept; waiting = y.1; constraints = x.constraints }),
  )

  -- A sample that a kept one covers is in or out as that one says.
  side_sat : (sign : Sign) (x : Sides) → SatisfiesSides declared a x → All (Satisfies declared a sign) (side sign x)
  unfolding side
  side_sat positive x h = h.positives
  side_sat negative x h = h.negatives

  covered_in : (sign : Sign) (kept : Sides) (s : Sample) → Whole declared s → SatisfiesSides declared a kept → covered_by (side sign kept) s ≡ true → inside a s ≡ is_in sign
  unfolding covered_by
  covered_in sign kept s w h e =
      let r = any_true (λ k. covers k s) (side sign kept) e in
      let k = all_mem (Satisfies declared a sign) (side sign kept) (side_sat sign kept h) r.0 r.1 in
      (total_in declared a sign s w.valid w.total).0 (satisfies_covered declared a sign r.0 s r.2 k)

  -- Steps 2 to 4: where what is kept is satisfied, what is left of the clause is as true as the clause.
  abbrev RightSays : Option Sample → RightNow → Type 0
  RightSays r right_known = right_inside a r ≡ true
  RightSays r (right_is q) = right_inside a r ≡ right_inside a q

  abbrev LeftSays : List Sample → LeftNow → Type 0
  LeftSays l left_false = all_inside a l ≡ false
  LeftSays l (left_is m) = all_inside a l ≡ all_inside a m

  step2_says : (kept : Sides) (r : Option Sample) → All (Whole declared) (right_samples r) → SatisfiesSides declared a kept → RightSays r (step2 kept r)
  unfolding step2 right_samples right_inside side
  step2_says kept none w h = refl
  step2_says kept (some q) w h =
      by_test (RightSays (some q)) (covered_by kept.positives q) (λ p. covered_in positive kept q w.0 h p) λ e.
      by_test (RightSays (some q)) (covered_by kept.negatives q) (λ n. covered_in negative kept q w.0 h n) (λ d. refl)

  step3_says : (kept : Sides) (l : List Sample) → All (Whole declared) l → SatisfiesSides declared a kept → LeftSays l (step3 kept l)
  unfolding step3 all_inside side
  step3_says kept [] w h = refl
  step3_says kept (s ∷ l) w h = go (covered_by kept.positives s) (covered_by kept.negatives s) refl refl (step3 kept l) (step3_says kept l w.1 h)
    where
      no_more : (b : Bool) → (b && false) ≡ false
      no_more true = refl
      no_more false = refl

      go : (b c : Bool) → covered_by kept.positives s ≡ b → covered_by kept.negatives s ≡ c → (r : LeftNow) → LeftSays l r → LeftSays (s ∷ l) (left_with b c s r)
      go b c p n left_false e = rw e (no_more (inside a s))
      go true c p n (left_is m) e = rw (covered_in positive kept s w.0 h p) e
      go false true p n (left_is m) e = rw (covered_in negative kept s w.0 h n)
      go false false p n (left_is m) e = rw e (sym (include-inside a s m))

  rest_holds : (k : Clause) (l : List Sample) (r : Option Sample) → LeftSays k.left (left_is l) → RightSays k.right (right_is r)
      → holds a k ≡ holds a (record { left = l; right = r })
  unfolding holds
  rest_holds k l r e d = rw (e, d)

  right_holds : (k : Clause) → right_inside a k.right ≡ true → holds a k ≡ true
  unfolding holds
  right_holds k e = or_second (not (all_inside a k.left)) (right_inside a k.right) e

  left-holds : (k : Clause) → all_inside a k.left ≡ false → holds a k ≡ true
  unfolding holds
  left-holds k e = rw e

  -- Step 5, after the right waited and the store settled.
  again_sat : (q : Sample) (r : Settled) → (Satisfies declared a positive q × SettledSat declared a r) ↔ AddedSat declared a (again q r)
  unfolding again
  again_sat q contradicted = (λ x. x.1, λ x. absurd x)
  again_sat q (settled g n) = wait_in_sat positive q g

  step5_sat : (q : Sample) (h : Held) → ValidHeld declared h → Whole declared q
      → (SatisfiesHeld declared a h × (inside a q ≡ true)) ↔ AddedSat declared a (again q (settle_held (wait_in positive q h)))
  step5_sat q h v w =
      let t = total_in declared a positive q w.valid w.total in
      let u = wait_in_sat positive q h in
      let s = settle_held_sat declared a (wait_in positive q h) (wait_in_valid declared positive q h w.valid v) in
      let g = again_sat q (settle_held (wait_in positive q h)) in (
        λ x. let p = t.1 x.1 in g.0 (p, s.0 (u.0 (p, x.0))),
        λ x. let y = u.1 (s.1 (g.1 x).1) in (y.1, t.0 y.0),
      )

  step6_sat : (s : Sample) (h : Held) → Whole declared s
      → (SatisfiesHeld declared a h × (holds a (record { left = s ∷ []; right = none }) ≡ true)) ↔ SatisfiesHeld declared a (wait_in negative s h)
  step6_sat s h w =
      let t = total_in declared a negative s w.valid w.total in
      let u = wait_in_sat negative s h in
      let o = out_holds a s in (
        λ x. u.0 (t.1 (o.1 x.1), x.0),
        λ x. let y = u.1 x in (y.1, o.0 (t.0 y.0)),
      )

  step7_sat : (c : Constraint) (h : Held) → live_count h.slots < length h.slots → (SatisfiesHeld declared a h × (holds a c ≡ true)) ↔ AddedSat declared a (step7 c h)
  unfolding step7
  step7_sat c h i =
      let P : Constraint → Type 0 = λ d. holds a d ≡ true in
      let n = lowest_free h.slots in
      let t = test_sat declared a n (set h.slots n (modified_slot c)) in (
        λ x. record { kept = x.0.kept; waiting = x.0.waiting; constraints = t.0 (set_live P h.slots n (modified_slot c) x.1 x.0.constraints) },
        λ x.
            let y = live_set P h.slots n c (lowest_free_room h.slots i) (lowest_free-free h.slots) (t.1 x.constraints) in
            (record { kept = x.kept; waiting = x.waiting; constraints = y.1 }, y.0),
      )

  steps567_sat : (l : List Sample) (r : Option Sample) (h : Held) → ValidHeld declared h → live_count h.slots < length h.slots
      → All (Undecided (Whole declared) h.kept) l → All (Undecided (Whole declared) h.kept) (right_samples r)
      → (SatisfiesHeld declared a h × (holds a (record { left = l; right = r }) ≡ true)) ↔ AddedSat declared a (steps567 l r h)
  unfolding steps567 right_samples holds
  steps567_sat [] none h v i x y = (λ z. both z.1 refl, λ z. absurd z)
  steps567_sat [] (some q) h v i x y = step5_sat q h v y.0.0
  steps567_sat (s ∷ []) none h v i x y = step6_sat s h x.0.0
  steps567_sat (s ∷ []) (some q) h v i x y = step7_sat (record { left = s ∷ []; right = some q }) h i
  steps567_sat (s ∷ t ∷ l) r h v i x y = step7_sat (record { left = s ∷ t ∷ l; right = r }) h i

  steps234_sat : (k : Clause) (r : RightNow) (l : LeftNow) (h : Held) → ValidHeld declared h → live_count h.slots < length h.slots
      → RightOf (Undecided (Whole declared) h.kept) r → LeftOf (Undecided (Whole declared) h.kept) l
      → (SatisfiesHeld declared a h → RightSays k.right r) → (SatisfiesHeld declared a h → LeftSays k.left l)
      → (SatisfiesHeld declared a h × (holds a k ≡ true)) ↔ AddedSat declared a (steps234 r l h)
  unfolding steps234
  steps234_sat k right_known l h v i x y f g = (λ z. z.0, λ z. (z, right_holds k (f z)))
  steps234_sat k (right_is r) left_false h v i x y f g = (λ z. z.0, λ z. (z, left-holds k (g z)))
  steps234_sat k (right_is r) (left_is l) h v i x y f g = go (right_among r l) refl
    where
      rest : SatisfiesHeld declared a h → holds a k ≡ holds a (record { left = l; right = r })
      rest z = rest_holds k l r (g z) (f z)

      go : (b : Bool) → right_among r l ≡ b → (SatisfiesHeld declared a h × (holds a k ≡ true)) ↔ AddedSat declared a (step4 b l r h)
      go true e = (λ z. z.0, λ z. (z, rest z ∙ among_holds a l r e))
      go false e = let t = steps567_sat l r h v i y.1 x in (λ z. t.0 (z.0, sym (rest z.0) ∙ z.1), λ z. let q = t.1 z in (q.0, rest q.0 ∙ q.1))

  after_settling_sat : (most : ℕ) (k : Clause) (r : Settled) → most < max_constraints → All (Whole declared) (samples_of k) → SettledValid declared r
      → AfterSettling (AtMostLive most) r → (SettledSat declared a r × (holds a k ≡ true)) ↔ AddedSat declared a (after_settling k r)
  unfolding after_settling
  after_settling_sat most k contradicted i w v c = (λ x. x.0, λ x. absurd x)
  after_settling_sat most k (settled h n) i w v c =
      let p = parts_all (Whole declared) k w in
      steps234_sat k (step2 h.kept k.right) (step3 h.kept k.left) h v (omega arith)
      (step2_of (Whole declared) h.kept k.right p.1) (step3_of (Whole declared) h.kept k.left p.0)
      (λ x. step2_says h.kept k.right p.1 x.kept) (λ x. step3_says h.kept k.left p.0 x.kept)

  add_other_sat : (k : Clause) (h : Held) → ValidHeld declared h → live_count h.slots < max_constraints → All (Whole declared) (samples_of k)
      → (SatisfiesHeld declared a h × (holds a k ≡ true)) ↔ AddedSat declared a (add_other k h)
  unfolding add_other
  add_other_sat k h v i w =
      let s = settle_held_sat declared a h v in
      let t = after_settling_sat (live_count h.slots) k (settle_held h) i w (settle_held_valid declared h v) (settle_held_count (live_count h.slots) h (omega arith)) in
      (λ x. t.0 (s.0 x.0, x.1), λ x. let y = t.1 x in (s.1 y.0, y.1))

  -- The empty clause: 9, whatever is held.
  empty_sat : (r : Settled) → AddedSat declared a (after_settling (record { left = []; right = none }) r) → ⊥
  unfolding after_settling
  empty_sat contradicted x = x
  empty_sat (settled h n) x = x

  add_parts_sat : (l : List Sample) (r : Option Sample) (h : Held) → ValidHeld declared h → ClauseFits declared h (record { left = l; right = r })
      → (SatisfiesHeld declared a h × SatisfiesParts declared a l r) ↔ AddedSat declared a (add_parts l r h)
  unfolding add_parts samples_of several
  add_parts_sat [] none h v f = (λ x. absurd x.1, λ x. absurd (empty_sat (settle_held h) x))
  add_parts_sat [] (some q) h v f = let w = wait_in_sat positive q h in (λ x. w.0 (x.1, x.0), λ x. let y = w.1 x in (y.1, y.0))
  add_parts_sat (s ∷ []) none h v f = let w = wait_in_sat negative s h in (λ x. w.0 (x.1, x.0), λ x. let y = w.1 x in (y.1, y.0))
  add_parts_sat (s ∷ []) (some q) h v f = let k : Clause = record { left = s ∷ []; right = some q } in add_other_sat k h v (f.room refl) (fits_whole declared h k f refl)
  add_parts_sat (s ∷ t ∷ l) r h v f =
      let k : Clause = record { left = s ∷ t ∷ l; right = r } in
      let e = several-left s t l r in add_other_sat k h v (f.room e) (fits_whole declared h k f e)

pub add_clause_sat : (declared : List (List Sort)) (a : Assignment) (k : Clause) (h : Held) → ValidHeld declared h → ClauseFits declared h k
    → (SatisfiesHeld declared a h × SatisfiesClause declared a k) ↔ AddedSat declared a (add_clause k h)
unfolding add_clause
add_clause_sat declared a k h v f = add_parts_sat declared a k.left k.right h v f
