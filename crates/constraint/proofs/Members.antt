-- Which numbers a list holds, and when one list lies inside another.
use mathlib.Core.Path.{◌≡◌, refl, sym, ◌∙◌}
use mathlib.Core.Bool.{Bool, true, false, cond, not, ◌&&◌, ◌||◌}
use mathlib.Core.List.{List, [], ◌∷◌}
use mathlib.Core.Logic.{⊎_elim}
use Prim.Native.Nat.{ℕ, ◌<◌}
use lib.Dec.{eqb, ltb}
use borrow.Author.Tests.{ltb-true, ltb-false, eqb-true, eq-eqb}
use Rattle.rules.proofs.Laws.Bools.{both, and_split, and_join, or_split, or_first, or_second, not-true, same_truth}
use Rattle.words.specs.Sets.{in_set, Holds, Emptiness}
use Rattle.words.proofs.FourWords.{past}
use Rattle.words.specs.declared.set.Set.{Set}
use Rattle.constraint.specs.Numbered.{is_in, any_no, outside, inside_no}

pub first_in : (k : ℕ) (l : List ℕ) → is_in k (k ∷ l) ≡ true
unfolding is_in
first_in k l = or_first (eqb k k) (is_in k l) (eq-eqb k k refl)

pub later_in : (k j : ℕ) (l : List ℕ) → is_in k l ≡ true → is_in k (j ∷ l) ≡ true
unfolding is_in
later_in k j l h = or_second (eqb k j) (is_in k l) h

-- A list inside another.
pub inside_all : (l m : List ℕ) → ((k : ℕ) → is_in k l ≡ true → is_in k m ≡ true) → inside_no l m ≡ true
unfolding inside_no
inside_all [] m h = refl
inside_all (j ∷ l) m h =
    and_join (is_in j m) (inside_no l m) (h j (first_in j l)) (inside_all l m (λ k p. h k (later_in k j l p)))

pub all_inside_lem : (l m : List ℕ) (k : ℕ) → inside_no l m ≡ true → is_in k l ≡ true → is_in k m ≡ true
unfolding inside_no
all_inside_lem [] m k h p = both p refl
all_inside_lem (j ∷ l) m k h p =
    let r = and_split (is_in j m) (inside_no l m) h in
    ⊎_elim (λ e. rw (eqb-true k j e) r.0) (λ q. all_inside_lem l m k r.1 q) (or_split (eqb k j) (is_in k l) p)

-- A number that passes.
pub any-number : (test : ℕ → Bool) (l : List ℕ) → any_no test l ≡ true → (k : ℕ) × (is_in k l ≡ true) × (test k ≡ true)
unfolding any_no
any-number test [] h = both h refl
any-number test (j ∷ l) h =
    ⊎_elim (λ p. (j, first_in j l, p)) (λ p. let r = any-number test l p in (r.0, later_in r.0 j l r.1, r.2)) (or_split (test j) (any_no test l) h)

pub number-any : (test : ℕ → Bool) (k : ℕ) (l : List ℕ) → is_in k l ≡ true → test k ≡ true → any_no test l ≡ true
unfolding any_no is_in
number-any test k [] h p = both h refl
number-any test k (j ∷ l) h p =
    ⊎_elim (λ e. or_first (test j) (any_no test l) (rw (eqb-true k j e) at p)) (λ q. or_second (test j) (any_no test l) (number-any test k l q p))
    (or_split (eqb k j) (is_in k l) h)

and_false : (a : Bool) → (a && false) ≡ false
and_false true = refl
and_false false = refl

-- The numbers outside a test are those that fail it.
pub outside_in : (test : ℕ → Bool) (k : ℕ) (l : List ℕ) → is_in k (outside test l) ≡ (is_in k l && not (test k))
unfolding outside is_in
outside_in test k [] = refl
outside_in test k (j ∷ l) = go (test j) (eqb k j) refl refl (outside_in test k l)
  where
    go : (b c : Bool) → test j ≡ b → eqb k j ≡ c → is_in k (outside test l) ≡ (is_in k l && not (test k))
        → is_in k (cond b (outside test l) (j ∷ outside test l)) ≡ ((c || is_in k l) && not (test k))
    go true true e f r = let t : test k ≡ true = rw (eqb-true k j f) e in rw (r, t) (and_false (is_in k l))
    go true false e f r = r
    go false true e f r = let t : test k ≡ false = rw (eqb-true k j f) e in rw (f, t)
    go false false e f r = rw f r

-- One list lies inside another if nothing of its set is outside the other's.
module _ (l m : List ℕ) (s t rest : Set) (first : (k : ℕ) → in_set s k ≡ is_in k l) (second : (k : ℕ) → in_set t k ≡ is_in k m)
    (less : Holds rest (λ k. in_set s k && not (in_set t k))) where
  none_outside : Holds rest (λ k. false) → (k : ℕ) → is_in k l ≡ true → is_in k m ≡ true
  none_outside none k p = go (ltb k 256) (is_in k m) refl refl
    where
      go : (b c : Bool) → ltb k 256 ≡ b → is_in k m ≡ c → c ≡ true
      go b true e f = refl
      go true false e f = both (rw (first k, second k, p, f) at (less k (ltb-true k 256 e))) (none k (ltb-true k 256 e))
      go false false e f = both (first k ∙ p) (past s k (ltb-false k 256 e))

  one_outside : (k : ℕ) → k < 256 → in_set rest k ≡ true → inside_no l m ≡ true → ⊥
  one_outside k h p q =
      let r = and_split (in_set s k) (not (in_set t k)) (sym (less k h) ∙ p) in
      both (second k ∙ all_inside_lem l m k q (sym (first k) ∙ r.0)) (not-true (in_set t k) r.1)

  pub inside_by_sets : (b : Bool) → Emptiness rest b → b ≡ inside_no l m
  inside_by_sets b e = same_truth b (inside_no l m) (λ p. inside_all l m (none_outside (e.none p))) (λ q. go b refl q)
    where
      go : (c : Bool) → b ≡ c → inside_no l m ≡ true → c ≡ true
      go true f q = refl
      go false f q = let k = e.some f in absurd (one_outside k.0 k.1 k.2 q)
