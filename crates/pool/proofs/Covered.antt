-- Covering by number: what a total sample covers, whether a member covers s, which numbers s covers, and a sample that waits or is drawn.
use mathlib.Core.Path.{◌≡◌, refl, sym, subst, ◌∙◌}
use mathlib.Core.Bool.{Bool, true, false, not, ◌&&◌, ◌||◌}
use mathlib.Core.List.{List, [], ◌∷◌}
use mathlib.Core.Logic.{◌⊎◌, inl, inr}
use mathlib.Core.Option.{none, some}
use Prim.Native.Nat.{ℕ, ◌≤◌, ◌<◌}
use native.Mathlib.Omega.{arith}
use lib.Dec.{eqb}
use lib.ListN.{length, get_or}
use borrow.Author.Tests.{eqb-true, eq-eqb}
use Rattle.std.specs.Prelude.{Option, None, Some, option_map}
use Rattle.pool.specs.declared.covering.Kept.{Kept}
use Rattle.std.specs.Bool.{MatchBool}
use Rattle.std.proofs.lemmas.List.{get_or-take, length-take}
use Rattle.std.specs.List.{HoldsAt, AllWithin}
use Rattle.rules.specs.Samples.{Position, Sample, covers, known_count, total}
use Rattle.rules.specs.Sets.{covered_by, keep}
use Rattle.rules.specs.Waiting.{is_new, wait}
use Rattle.rules.proofs.Laws.Bools.{both, not-false, refuted, same_truth, and_split, or_split}
use Rattle.rules.proofs.Laws.Covering.{CoversAll, covers_true, covers_refl}
use Rattle.words.specs.Sets.{in_set, Holds}
use Rattle.words.specs.declared.set.Set.{Set}
use Rattle.pool.specs.Pools.{Table, sample_at, in_use, members, PoolOk, PartialOk, Within}
use Rattle.pool.specs.Answers.{Below, Waits, Keeps}
use Rattle.pool.proofs.PickLaws.{among_place, same_number, pick-keep, pick_covered, pick_uncovered}
use Rattle.pool.proofs.Gathered.{Used, used, low}

-- A total sample covers itself alone.
known_few : (xs : List Position) → known_count xs ≤ length xs
unfolding known_count
known_few [] = omega arith
known_few (none ∷ xs) = let h = known_few xs in omega arith
known_few (some x ∷ xs) = let h = known_few xs in omega arith

all_known : (xs ys : List Position) → known_count xs ≡ length xs → CoversAll xs ys → xs ≡ ys
unfolding known_count
all_known [] [] e c = refl
all_known [] (y ∷ ys) e c = absurd c
all_known (x ∷ xs) [] e c = absurd c
all_known (none ∷ xs) (y ∷ ys) e c = absurd (let h = known_few xs in omega arith)
all_known (some x ∷ xs) (none ∷ ys) e c = absurd c.0
all_known (some x ∷ xs) (some y ∷ ys) e c = rw (c.0, all_known xs ys (omega arith) c.1)

pub total-covers : (a b : Sample) → total a ≡ true → covers a b ≡ true → a ≡ b
unfolding total
total-covers a b t c =
    let h = covers_true a b c in
    let e : a.at ≡ b.at = all_known a.at b.at (eqb-true (known_count a.at) (length a.at) t) h.at in
    λ i. record { pred = h.pred i; at = e i }

-- Covering, by number.
abbrev pub covers_no : (ℕ → ℕ) → Table → ℕ → ℕ → Bool
covers_no positions t a b = covers (sample_at positions t a) (sample_at positions t b)

abbrev pub covered_no : (ℕ → ℕ) → Table → ℕ → List ℕ → Set → ℕ → Bool
covered_no positions t n order set s = covered_by (members positions t n order set) (sample_at positions t s)

module _ (positions : ℕ → ℕ) (t : Table) (n : ℕ) (order : List ℕ) (ok : PoolOk positions t n order) where
  -- A total sample in use covers no other number's.
  pub alone : (a b : ℕ) → Used n order a → Used n order b → total (sample_at positions t a) ≡ true → covers_no positions t a b ≡ true → a ≡ b
  alone a b p q whole c =
      same_number (sample_at positions t) (in_use n order) ok.rises a b p q (total-covers (sample_at positions t a) (sample_at positions t b) whole c)

  module _ (s : ℕ) (here : Used n order s) where
    -- Is s covered by a member? It is where it is a member, or where one that is asked covers it.
    pub covered_here : (set : Set) → in_set set s ≡ true → true ≡ covered_no positions t n order set s
    covered_here set h = sym (pick_covered (sample_at positions t) (in_set set) (in_use n order) (sample_at positions t s) s here h (covers_refl (sample_at positions t s)))

    module _ (partial set asked : Set) (met : Holds asked (λ k. in_set set k && in_set partial k)) where
      pub covered_at : (k : ℕ) → Used n order k → in_set asked k ≡ true → covers_no positions t k s ≡ true → true ≡ covered_no positions t n order set s
      covered_at k m h c =
          let p = and_split (in_set set k) (in_set partial k) (sym (met k (low positions t n order ok k m)) ∙ h) in
          sym (pick_covered (sample_at positions t) (in_set set) (in_use n order) (sample_at positions t s) k m p.0 c)

      -- It is not where neither holds: a total member would have to be s.
      uncovered : PartialOk positions t n order partial → in_set set s ≡ false
          → ((k : ℕ) → Used n order k → in_set asked k ≡ true → covers_no positions t k s ≡ false) → false ≡ covered_no positions t n order set s
      uncovered parts out none_asked =
          sym (pick_uncovered (sample_at positions t) (in_set set) (in_use n order) (sample_at positions t s) (λ k m h. go k m h (total (sample_at positions t k)) refl))
        where
          go : (k : ℕ) → Used n order k → in_set set k ≡ true → (b : Bool) → total (sample_at positions t k) ≡ b → covers_no positions t k s ≡ false
          go k m h true e = refuted (covers_no positions t k s) (λ c. both h (rw (alone k s m here e c) out))
          go k m h false e = none_asked k m (met k (low positions t n order ok k m) ∙ (rw (h, parts k m, e)))

      -- What `any` tells of the numbers in use, one by one.
      pub any_told : PartialOk positions t n order partial → in_set set s ≡ false → (Yes No : ℕ → Type 0) (r : Bool)
          → ((k : ℕ) → Used n order k → Yes k → (in_set asked k ≡ true) × (covers_no positions t k s ≡ true))
          → ((k : ℕ) → Used n order k → No k → in_set asked k ≡ true → covers_no positions t k s ≡ false)
          → MatchBool r ((j : ℕ) × (j < length (in_use n order)) × HoldsAt Yes (in_use n order) j) (AllWithin No (in_use n order) 0 (length (in_use n order)))
          → r ≡ covered_no positions t n order set s
      any_told parts out Yes No true passes fails told =
          let (j, l, here_yes) = told in
          let low : j < n = omega (arith, length-take n order) in
          let k : ℕ = get_or order j 0 in
          let m : Used n order k = used positions t n order ok j low in
          let passed : Yes k = subst Yes (get_or-take n order j 0 low) (here_yes 0) in
          covered_at k m (passes k m passed).0 (passes k m passed).1
      any_told parts out Yes No false passes fails told = uncovered parts out (λ k m h.
          let (j, low, inside, e) = among_place n k order m in
          let refused : No (get_or (in_use n order) j 0) = told j 0 (omega arith) (omega (arith, length-take n order)) in
          fails k m (subst No (get_or-take n order j 0 low ∙ e) refused) h)

      pub nothing_asked : PartialOk positions t n order partial → in_set set s ≡ false → Holds asked (λ k. false) → false ≡ covered_no positions t n order set s
      nothing_asked parts out empty = uncovered parts out (λ k m h. both h (empty k (low positions t n order ok k m)))

    -- A total sample: itself alone.
    pub below_total : (partial empty out : Set) (r : ℕ) → PartialOk positions t n order partial → in_set partial s ≡ false → r ≡ s
        → Holds empty (λ k. false) → Holds out (λ k. eqb k r || in_set empty k) → Below positions t n order s out
    below_total partial empty out r parts outside e none_there joined = record {
      covered = λ k m. only k (low positions t n order ok k m) ∙ same_truth (eqb k s) (covers_no positions t s k)
          (λ h. rw (eqb-true k s h) (covers_refl (sample_at positions t s)))
          (λ c. eq-eqb k s (sym (alone s k here m whole c)));
      within = λ k h p. rw (eqb-true k s (sym (only k h) ∙ p)) here;
    }
      where
        whole : total (sample_at positions t s) ≡ true
        whole = not-false (total (sample_at positions t s)) (sym (parts s here) ∙ outside)

        by : (b : Bool) → (b || false) ≡ b
        by true = refl
        by false = refl

        only : (k : ℕ) → k < 256 → in_set out k ≡ eqb k s
        only k h = joined k h ∙ (rw (none_there k h, e) (by (eqb k s)))

    -- s joins a set, and those of the set that it covers go.
    joins : (set below left out : Set) (r : ℕ) → Within n order set → Below positions t n order s below
        → Holds left (λ k. in_set set k && not (in_set below k)) → r ≡ s → Holds out (λ k. eqb k r || in_set left k)
        → (members positions t n order out ≡ keep (sample_at positions t s) (members positions t n order set)) × Within n order out
    joins set below left out r within under lost e joined = (
      pick-keep (sample_at positions t) (in_set set) (in_set out) s (in_use n order) ok.rises here (λ k m. each k m),
      λ k h p. inside k h (or_split (eqb k s) (in_set left k) (sym (now k h) ∙ p)),
    )
      where
        now : (k : ℕ) → k < 256 → in_set out k ≡ (eqb k s || in_set left k)
        now k h = rw (← e) (joined k h)

        each : (k : ℕ) → Used n order k → in_set out k ≡ (eqb k s || (in_set set k && not (covers_no positions t s k)))
        each k m = let l = low positions t n order ok k m in now k l ∙ (rw (lost k l, under.covered k m))

        inside : (k : ℕ) → k < 256 → (eqb k s ≡ true) ⊎ (in_set left k ≡ true) → Used n order k
        inside k h (inl d) = rw (eqb-true k s d) here
        inside k h (inr d) = within k h (and_split (in_set set k) (not (in_set below k)) (sym (lost k h) ∙ d)).0

    -- A drawn sample that no member covers joins.
    module _ (set below left out : Set) (r : ℕ) (within : Within n order set) (c : false ≡ covered_no positions t n order set s) (under : Below positions t n order s below)
        (lost : Holds left (λ k. in_set set k && not (in_set below k))) (e : r ≡ s) (joined : Holds out (λ k. eqb k r || in_set left k)) where
      pub keeps_new : Keeps positions t n order set s (Some (record { set = out; below = below }))
      keeps_new =
          let j = joins set below left out r within under lost e joined in
          record {
            asked = rw (← c);
            set = j.0;
            within = j.1;
            below = λ k h. let same : below ≡ k.below = cc in subst (Below positions t n order s) same under;
          }

-- A sample that waits is kept among the waiting ones by the same rule.
pub waits-keeps : (positions : ℕ → ℕ) (t : Table) (n : ℕ) (order : List ℕ) (set : Set) (s : ℕ) (r : Option Kept) → Keeps positions t n order set s r
    → Waits positions t n order set s (option_map (λ k. k.set) r)
unfolding wait is_new
waits-keeps positions t n order set s None k = record { set = rw (← k.asked); fresh = k.asked; within = k.within }
waits-keeps positions t n order set s (Some new) k = record { set = rw (← k.asked) k.set; fresh = k.asked; within = k.within }
