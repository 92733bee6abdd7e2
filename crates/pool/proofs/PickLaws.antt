-- Laws of sets of numbers as picked lists of samples.
use mathlib.Core.Path.{◌≡◌, refl, sym, ap, ◌∙◌}
use mathlib.Core.Bool.{Bool, true, false, cond, not, ◌&&◌, ◌||◌}
use mathlib.Core.List.{List, [], ◌∷◌, ◌++◌, map}
use mathlib.Core.Option.{none, some}
use mathlib.Core.Logic.{◌↔◌, ◌⊎◌, inl, inr, ⊎_elim, ⊎_map}
use Prim.Native.Nat.{ℕ, zero, suc, ◌<◌}
use native.Mathlib.Nat.{not-suc-le-zero, le_of_suc-le-suc}
use native.Mathlib.Omega.{arith}
use lib.Dec.{eqb}
use lib.ListN.{length, get_or, take}
use borrow.Author.Tests.{eqb-true, eqb-false, eq-eqb}
use Rattle.rules.specs.Samples.{Sample, covers, before}
use Rattle.rules.specs.Sets.{any, only, without, covered_by, insert, include, keep}
use Rattle.rules.specs.Condition.{Mem, Rising}
use Rattle.rules.proofs.Laws.Bools.{both, by_test, or_split, or_first, or_second, refuted}
use Rattle.rules.proofs.Laws.Ordering.{sample_order}
use Rattle.rules.proofs.Laws.Sets.{mem_all, any_true, any_mem, insert_mem, include_mem, insert_rising, include_rising, keep_rising, rising_same}
use Rattle.pool.specs.Picks.{pick, keep_if, first_of, Among, Rises}

-- The numbers that pass.
pub kept_among : (held : ℕ → Bool) (ks : List ℕ) (k : ℕ) → Among k (keep_if held ks) ↔ (Among k ks × (held k ≡ true))
unfolding keep_if
kept_among held [] k = (λ m. absurd m, λ m. absurd m.0)
kept_among held (j ∷ ks) k = let r = kept_among held ks k in (there (held j) refl r.0, back (held j) refl r.1)
  where
    there : (b : Bool) → held j ≡ b → (Among k (keep_if held ks) → Among k ks × (held k ≡ true)) → Among k (cond b (j ∷ keep_if held ks) (keep_if held ks)) → Among k (j ∷ ks) × (held k ≡ true)
    there true e r (inl d) = (inl d, rw d e)
    there true e r (inr m) = let q = r m in (inr q.0, q.1)
    there false e r m = let q = r m in (inr q.0, q.1)

    back : (b : Bool) → held j ≡ b → (Among k ks × (held k ≡ true) → Among k (keep_if held ks)) → Among k (j ∷ ks) × (held k ≡ true) → Among k (cond b (j ∷ keep_if held ks) (keep_if held ks))
    back true e r (inl d, p) = inl d
    back true e r (inr m, p) = inr (r (m, p))
    back false e r (inl d, p) = both (rw d at p) e
    back false e r (inr m, p) = r (m, p)

pub first_among : (test : ℕ → Bool) (a : ℕ) (ks : List ℕ) → first_of test ks ≡ some a → Among a ks × (test a ≡ true)
unfolding first_of
first_among test a [] e = absurd (let z : ◌≡◌ {A = ℕ} 0 1 = cc in omega arith)
first_among test a (k ∷ ks) e = go (test k) refl e (first_among test a ks)
  where
    go : (b : Bool) → test k ≡ b → cond b (some k) (first_of test ks) ≡ some a → (first_of test ks ≡ some a → Among a ks × (test a ≡ true)) → Among a (k ∷ ks) × (test a ≡ true)
    go true p q f = let w : a ≡ k = cc in (inl w, rw w p)
    go false p q f = let r = f q in (inr r.0, r.1)

-- The first numbers of a list, by their places.
pub among_at : (n i : ℕ) (l : List ℕ) → i < n → i < length l → Among (get_or l i 0) (take n l)
among_at n i [] h k = absurd (not-suc-le-zero k)
among_at zero i (x ∷ l) h k = absurd (not-suc-le-zero h)
among_at (suc n) zero (x ∷ l) h k = inl refl
among_at (suc n) (suc i) (x ∷ l) h k = inr (among_at n i l (le_of_suc-le-suc h) (le_of_suc-le-suc k))

pub among_place : (n k : ℕ) (l : List ℕ) → Among k (take n l) → (i : ℕ) × (i < n) × (i < length l) × (get_or l i 0 ≡ k)
among_place zero k l m = absurd m
among_place (suc n) k [] m = absurd m
among_place (suc n) k (x ∷ l) (inl e) = (0, omega arith, omega arith, sym e)
among_place (suc n) k (x ∷ l) (inr m) = let r = among_place n k l m in (suc r.0, omega (arith, r.1), omega (arith, r.2), r.3)

-- Another table and another test that agree on the numbers of the list.
pick_agree : (at to : ℕ → Sample) (test more : ℕ → Bool) (ks : List ℕ) → ((k : ℕ) → Among k ks → (to k ≡ at k) × (more k ≡ test k)) → pick to more ks ≡ pick at test ks
unfolding pick
pick_agree at to test more [] h = refl
pick_agree at to test more (k ∷ ks) h = let e = h k (inl refl) in rw (e.0, e.1, pick_agree at to test more ks (λ j m. h j (inr m)))

module _ (at : ℕ → Sample) where
  -- A picked list holds the samples of the numbers that pass.
  pick-map : (test : ℕ → Bool) (ks : List ℕ) → pick at test ks ≡ map at (keep_if test ks)
  unfolding pick keep_if
  pick-map test [] = refl
  pick-map test (k ∷ ks) = rw (pick-map test ks) (go (test k))
    where
      go : (b : Bool) → cond b (at k ∷ map at (keep_if test ks)) (map at (keep_if test ks)) ≡ map at (cond b (k ∷ keep_if test ks) (keep_if test ks))
      go true = refl
      go false = refl

  map_mem : (ks : List ℕ) (x : Sample) → Mem x (map at ks) ↔ ((k : ℕ) × Among k ks × (x ≡ at k))
  map_mem [] x = (λ m. absurd m, λ m. absurd m.1)
  map_mem (k ∷ ks) x = let r = map_mem ks x in (there r.0, back r.1)
    where
      there : (Mem x (map at ks) → (j : ℕ) × Among j ks × (x ≡ at j)) → Mem x (map at (k ∷ ks)) → (j : ℕ) × Among j (k ∷ ks) × (x ≡ at j)
      there r (inl e) = (k, inl refl, e)
      there r (inr m) = let q = r m in (q.0, inr q.1, q.2)

      back : ((j : ℕ) × Among j ks × (x ≡ at j) → Mem x (map at ks)) → (j : ℕ) × Among j (k ∷ ks) × (x ≡ at j) → Mem x (map at (k ∷ ks))
      back r (j, inl d, e) = inl (e ∙ ap at d)
      back r (j, inr m, e) = inr (r (j, m, e))

  -- Members.
  pub pick_mem : (test : ℕ → Bool) (ks : List ℕ) (x : Sample) → Mem x (pick at test ks) ↔ ((k : ℕ) × Among k ks × (test k ≡ true) × (x ≡ at k))
  pick_mem test ks x = rw (pick-map test ks) (there, back)
    where
      there : Mem x (map at (keep_if test ks)) → (k : ℕ) × Among k ks × (test k ≡ true) × (x ≡ at k)
      there m = let r = (map_mem (keep_if test ks) x).0 m in let q = (kept_among test ks r.0).0 r.1 in (r.0, q.0, q.1, r.2)

      back : (k : ℕ) × Among k ks × (test k ≡ true) × (x ≡ at k) → Mem x (map at (keep_if test ks))
      back (k, m, t, e) = (map_mem (keep_if test ks) x).1 (k, (kept_among test ks k).1 (m, t), e)

  pub pick_rising : (test : ℕ → Bool) (ks : List ℕ) → Rises at ks → Rising (pick at test ks)
  unfolding pick
  pick_rising test [] r = tt
  pick_rising test (k ∷ ks) r = let q = pick_rising test ks r.1 in by_test Rising (test k) (λ e. (mem_all (λ y. before (at k) y ≡ true) (pick at test ks) later, q)) (λ e. q)
    where
      later : (x : Sample) → Mem x (pick at test ks) → before (at k) x ≡ true
      later x m = let p = (pick_mem test ks x).0 m in rw p.3 (r.0 p.0 p.1)

  -- No later number has the first one's sample; so equal samples have equal numbers.
  rises_once : (k j : ℕ) (ks : List ℕ) → Rises at (k ∷ ks) → Among j ks → at j ≡ at k → ⊥
  rises_once k j ks r m e = both (let b = r.0 j m in rw e at b) (sample_order.irreflexive (at k))

  pub same_number : (ks : List ℕ) → Rises at ks → (j k : ℕ) → Among j ks → Among k ks → at j ≡ at k → j ≡ k
  same_number [] r j k p q e = absurd p
  same_number (x ∷ ks) r j k (inl p) (inl q) e = p ∙ sym q
  same_number (x ∷ ks) r j k (inl p) (inr q) e = absurd (rises_once x k ks r q (sym e ∙ ap at p))
  same_number (x ∷ ks) r j k (inr p) (inl q) e = absurd (rises_once x j ks r p (e ∙ ap at q))
  same_number (x ∷ ks) r j k (inr p) (inr q) e = same_number ks r.1 j k p q e

  pub pick_ext : (test more : ℕ → Bool) (ks : List ℕ) → ((k : ℕ) → Among k ks → more k ≡ test k) → pick at more ks ≡ pick at test ks
  pick_ext test more ks h = pick_agree at at test more ks (λ k m. (refl, h k m))

  -- Those that fail a test of samples go; those that pass it stay.
  pub pick-only : (kept : Sample → Bool) (test less : ℕ → Bool) (ks : List ℕ) → ((k : ℕ) → Among k ks → less k ≡ (test k && kept (at k))) → pick at less ks ≡ only kept (pick at test ks)
  unfolding pick only
  pick-only kept test less [] h = refl
  pick-only kept test less (k ∷ ks) h = rw (h k (inl refl), pick-only kept test less ks (λ j m. h j (inr m))) (go (test k))
    where
      go : (b : Bool) → cond (b && kept (at k)) (at k ∷ only kept (pick at test ks)) (only kept (pick at test ks)) ≡ only kept (cond b (at k ∷ pick at test ks) (pick at test ks))
      go true = refl
      go false = refl

  pub pick-without : (lost : Sample → Bool) (test less : ℕ → Bool) (ks : List ℕ) → ((k : ℕ) → Among k ks → less k ≡ (test k && not (lost (at k)))) → pick at less ks ≡ without lost (pick at test ks)
  unfolding without
  pick-without lost test less ks h = pick-only (λ s. not (lost s)) test less ks h

  -- A number joins: any rising list that holds its sample and those of the old set, and no others, is the new set.
  pick_join : (test more : ℕ → Bool) (a : ℕ) (ks : List ℕ) (l : List Sample) → Rises at ks → Among a ks → ((k : ℕ) → Among k ks → more k ≡ (eqb k a || test k)) →
      Rising l → ((x : Sample) → Mem x l ↔ ((x ≡ at a) ⊎ Mem x (pick at test ks))) → pick at more ks ≡ l
  pick_join test more a ks l r i h q f = rising_same (pick at more ks) l (pick_rising more ks r) q there back
    where
      there : (x : Sample) → Mem x (pick at more ks) → Mem x l
      there x m =
          let (k, j, t, e) = (pick_mem more ks x).0 m in
          (f x).1 (⊎_map (λ d. e ∙ ap at (eqb-true k a d)) (λ u. (pick_mem test ks x).1 (k, j, u, e)) (or_split (eqb k a) (test k) (sym (h k j) ∙ t)))

      back : (x : Sample) → Mem x l → Mem x (pick at more ks)
      back x m = (pick_mem more ks x).1 (⊎_elim new old ((f x).0 m))
        where
          new : x ≡ at a → (k : ℕ) × Among k ks × (more k ≡ true) × (x ≡ at k)
          new e = (a, i, h a i ∙ or_first (eqb a a) (test a) (eq-eqb a a refl), e)

          old : Mem x (pick at test ks) → (k : ℕ) × Among k ks × (more k ≡ true) × (x ≡ at k)
          old o = let (k, j, t, e) = (pick_mem test ks x).0 o in (k, j, h k j ∙ or_second (eqb k a) (test k) t, e)

  -- Where a number is not in the set, its sample isn't either.
  pick_lacks : (test : ℕ → Bool) (a : ℕ) (ks : List ℕ) → Rises at ks → Among a ks → test a ≡ false → Mem (at a) (pick at test ks) → ⊥
  pick_lacks test a ks r i n m = let (k, j, t, e) = (pick_mem test ks (at a)).0 m in let d = same_number ks r a k i j e in both t (rw d at n)

  -- One more number.
  pub pick-insert : (test more : ℕ → Bool) (a : ℕ) (ks : List ℕ) → Rises at ks → Among a ks → test a ≡ false → more a ≡ true → ((k : ℕ) → (k ≡ a → ⊥) → more k ≡ test k) → pick at more ks ≡ insert (at a) (pick at test ks)
  pick-insert test more a ks r i n y h =
      pick_join test more a ks (insert (at a) l) r i (λ k j. one k (eqb k a) refl) (insert_rising (at a) l (pick_lacks test a ks r i n) (pick_rising test ks r)) (insert_mem (at a) l)
    where
      l : List Sample
      l = pick at test ks

      one : (k : ℕ) (b : Bool) → eqb k a ≡ b → more k ≡ (b || test k)
      one k true e = rw (eqb-true k a e) y
      one k false e = h k (eqb-false k a e)

  -- A number joins, and those that it covers go.
  pub pick-keep : (test more : ℕ → Bool) (a : ℕ) (ks : List ℕ) → Rises at ks → Among a ks → ((k : ℕ) → Among k ks → more k ≡ (eqb k a || (test k && not (covers (at a) (at k))))) → pick at more ks ≡ keep (at a) (pick at test ks)
  unfolding keep
  pick-keep test more a ks r i h =
      pick_join left more a ks (keep (at a) l) r i h (keep_rising (at a) l (pick_rising test ks r))
      (λ x. rw (pick-without (covers (at a)) test left ks (λ k j. refl)) (insert_mem (at a) (without (covers (at a)) l) x))
    where
      l : List Sample
      l = pick at test ks

      left : ℕ → Bool
      left k = test k && not (covers (at a) (at k))

  -- A number joins a set, merged with an equal sample.
  pub pick-include : (test more : ℕ → Bool) (a : ℕ) (ks : List ℕ) → Rises at ks → Among a ks → ((k : ℕ) → Among k ks → more k ≡ (eqb k a || test k)) → pick at more ks ≡ include (at a) (pick at test ks)
  pick-include test more a ks r i h =
      let l = pick at test ks in
      pick_join test more a ks (include (at a) l) r i h (include_rising (at a) l (pick_rising test ks r)) (include_mem (at a) l)

  -- Is some member covering x?
  pub pick_covered : (test : ℕ → Bool) (ks : List ℕ) (x : Sample) (k : ℕ) → Among k ks → test k ≡ true → covers (at k) x ≡ true → covered_by (pick at test ks) x ≡ true
  unfolding covered_by
  pick_covered test ks x k m t c = any_mem (λ y. covers y x) (pick at test ks) (at k) ((pick_mem test ks (at k)).1 (k, m, t, refl)) c

  pub pick_uncovered : (test : ℕ → Bool) (ks : List ℕ) (x : Sample) → ((k : ℕ) → Among k ks → test k ≡ true → covers (at k) x ≡ false) → covered_by (pick at test ks) x ≡ false
  unfolding covered_by
  pick_uncovered test ks x h = refuted (covered_by (pick at test ks) x) none_covers
    where
      none_covers : any (λ y. covers y x) (pick at test ks) ≡ true → ⊥
      none_covers p =
          let (y, m, c) = any_true (λ y. covers y x) (pick at test ks) p in
          let (k, j, t, e) = (pick_mem test ks y).0 m in
          both (rw e at c) (h k j t)

  -- The least member.
  pub first_none : (test : ℕ → Bool) (ks : List ℕ) → first_of test ks ≡ none → pick at test ks ≡ []
  unfolding pick first_of
  first_none test [] e = refl
  first_none test (k ∷ ks) e = go (test k) e (first_none test ks)
    where
      go : (b : Bool) → cond b (some k) (first_of test ks) ≡ none → (first_of test ks ≡ none → pick at test ks ≡ []) → cond b (at k ∷ pick at test ks) (pick at test ks) ≡ []
      go true q f = absurd (let z : ◌≡◌ {A = ℕ} 0 1 = cc in omega arith)
      go false q f = f q

  pub first_some : (test less : ℕ → Bool) (a : ℕ) (ks : List ℕ) → Rises at ks → first_of test ks ≡ some a → less a ≡ false → ((k : ℕ) → (k ≡ a → ⊥) → less k ≡ test k) → pick at test ks ≡ at a ∷ pick at less ks
  unfolding pick first_of
  first_some test less a [] r e n h = absurd (let z : ◌≡◌ {A = ℕ} 0 1 = cc in omega arith)
  first_some test less a (k ∷ ks) r e n h = go (test k) refl e (λ q. first_some test less a ks r.1 q n h)
    where
      go : (b : Bool) → test k ≡ b → cond b (some k) (first_of test ks) ≡ some a → (first_of test ks ≡ some a → pick at test ks ≡ at a ∷ pick at less ks) →
          cond b (at k ∷ pick at test ks) (pick at test ks) ≡ at a ∷ pick at less (k ∷ ks)
      go true p q f =
          let w : k ≡ a = cc in
          let m : less k ≡ false = rw w n in
          rw (m, pick_ext test less ks (λ j i. h j (λ u. rises_once k j ks r i (ap at (u ∙ sym w)))), w)
      go false p q f = rw (h k (λ w. both (first_among test a ks q).1 (rw w at p)), p) (f q)

  -- Numbers that no set holds may leave the order.
  pub pick_kept : (held test : ℕ → Bool) (ks : List ℕ) → ((k : ℕ) → Among k ks → test k ≡ true → held k ≡ true) → pick at test (keep_if held ks) ≡ pick at test ks
  unfolding pick keep_if
  pick_kept held test [] h = refl
  pick_kept held test (k ∷ ks) h = go (held k) refl (pick_kept held test ks (λ j m. h j (inr m)))
    where
      go : (b : Bool) → held k ≡ b → pick at test (keep_if held ks) ≡ pick at test ks → pick at test (cond b (k ∷ keep_if held ks) (keep_if held ks)) ≡ pick at test (k ∷ ks)
      go true e p = rw p
      go false e p = rw (refuted (test k) (λ t. both (h k (inl refl) t) e)) p

  pub kept_rises : (held : ℕ → Bool) (ks : List ℕ) → Rises at ks → Rises at (keep_if held ks)
  unfolding keep_if
  kept_rises held [] r = tt
  kept_rises held (k ∷ ks) r = let q = kept_rises held ks r.1 in by_test (Rises at) (held k) (λ e. (λ j m. r.0 j ((kept_among held ks j).0 m).0, q)) (λ e. q)

-- The table changes where no number in use stands.
pub pick_table : (at to : ℕ → Sample) (test : ℕ → Bool) (ks : List ℕ) → ((k : ℕ) → Among k ks → to k ≡ at k) → pick to test ks ≡ pick at test ks
pick_table at to test ks h = pick_agree at to test test ks (λ k m. (h k m, refl))

-- A fresh number at its place: between what stands before it and what stands after it.
pub pick_fresh : (at : ℕ → Sample) (test : ℕ → Bool) (a : ℕ) (ks js : List ℕ) → test a ≡ false → pick at test (ks ++ (a ∷ js)) ≡ pick at test (ks ++ js)
unfolding pick
pick_fresh at test a [] js h = rw h
pick_fresh at test a (k ∷ ks) js h = rw (pick_fresh at test a ks js h)

pub fresh_among : (a : ℕ) (ks js : List ℕ) (j : ℕ) → Among j (ks ++ (a ∷ js)) → (j ≡ a) ⊎ Among j (ks ++ js)
fresh_among a [] js j m = m
fresh_among a (k ∷ ks) js j (inl e) = inr (inl e)
fresh_among a (k ∷ ks) js j (inr m) = ⊎_map (λ e. e) inr (fresh_among a ks js j m)

pub among_fresh : (a : ℕ) (ks js : List ℕ) (j : ℕ) → (j ≡ a) ⊎ Among j (ks ++ js) → Among j (ks ++ (a ∷ js))
among_fresh a [] js j m = m
among_fresh a (k ∷ ks) js j (inl e) = inr (among_fresh a ks js j (inl e))
among_fresh a (k ∷ ks) js j (inr (inl e)) = inl e
among_fresh a (k ∷ ks) js j (inr (inr m)) = inr (among_fresh a ks js j (inr m))

pub fresh_rises : (at : ℕ → Sample) (a : ℕ) (ks js : List ℕ) → Rises at (ks ++ js) → ((k : ℕ) → Among k ks → before (at k) (at a) ≡ true) → ((k : ℕ) → Among k js → before (at a) (at k) ≡ true) → Rises at (ks ++ (a ∷ js))
fresh_rises at a [] js r l h = (h, r)
fresh_rises at a (k ∷ ks) js r l h =
    (λ j m. ⊎_elim (λ e. rw e (l k (inl refl))) (λ i. r.0 j i) (fresh_among a ks js j m), fresh_rises at a ks js r.1 (λ j m. l j (inr m)) h)
