-- A list of numbers rearranged: the same sum for every weight of a number, so that each number stands in it as often as before.
use mathlib.Core.Path.{◌≡◌, refl, sym, ap, ◌∙◌}
use mathlib.Core.Bool.{Bool, true, false, cond, not}
use mathlib.Core.List.{List, [], ◌∷◌, ◌++◌}
use Prim.Native.Nat.{ℕ, zero, suc, ◌+◌, ◌≤◌, ◌<◌}
use native.Mathlib.Nat.{not-suc-le-zero, le_of_suc-le-suc}
use native.Mathlib.Omega.{arith}
use lib.Dec.{eqb}
use lib.ListN.{length, get_or}
use borrow.Author.Tests.{eqb-true, eq-eqb}
use Rattle.std.specs.List.{filter}
use Rattle.pool.specs.Picks.{keep_if}

unfoldable pub sum : (ℕ → ℕ) → List ℕ → ℕ
sum weight [] = 0
sum weight (k ∷ ks) = weight k + sum weight ks

pub record Rearranged (l m : List ℕ) : Type 0 where
  pub sums : (weight : ℕ → ℕ) → sum weight l ≡ sum weight m

-- std's filter keeps the same numbers.
pub keep-filter : (test : ℕ → Bool) (ks : List ℕ) → keep_if test ks ≡ filter test ks
unfolding keep_if
keep-filter test [] = refl
keep-filter test (k ∷ ks) = rw (keep-filter test ks)

pub sum_append : (weight : ℕ → ℕ) (ks js : List ℕ) → sum weight (ks ++ js) ≡ sum weight ks + sum weight js
unfolding sum
sum_append weight [] js = omega arith
sum_append weight (k ∷ ks) js = omega (arith, sum_append weight ks js)

-- The numbers that pass a test and those that fail it.
pub sum_parted : (weight : ℕ → ℕ) (test : ℕ → Bool) (ks : List ℕ) → sum weight (keep_if test ks) + sum weight (keep_if (λ k. not (test k)) ks) ≡ sum weight ks
unfolding sum keep_if
sum_parted weight test [] = omega arith
sum_parted weight test (k ∷ ks) = go (test k) (sum_parted weight test ks)
  where
    go : (b : Bool) → sum weight (keep_if test ks) + sum weight (keep_if (λ j. not (test j)) ks) ≡ sum weight ks
        → sum weight (cond b (k ∷ keep_if test ks) (keep_if test ks)) + sum weight (cond (not b) (k ∷ keep_if (λ j. not (test j)) ks) (keep_if (λ j. not (test j)) ks)) ≡ weight k + sum weight ks
    go true e = omega arith
    go false e = omega arith

sum-length : (l : List ℕ) → sum (λ k. 1) l ≡ length l
unfolding sum
sum-length [] = refl
sum-length (k ∷ ks) = omega (arith, sum-length ks)

pub kept_lengths : (test : ℕ → Bool) (ks : List ℕ) → length (keep_if test ks) + length (keep_if (λ k. not (test k)) ks) ≡ length ks
kept_lengths test ks = omega (arith, sum_parted (λ k. 1) test ks, sum-length (keep_if test ks), sum-length (keep_if (λ k. not (test k)) ks), sum-length ks)

pub kept_fewer : (test : ℕ → Bool) (ks : List ℕ) → length (keep_if test ks) ≤ length ks
kept_fewer test ks = omega (arith, kept_lengths test ks)

pub same_length : (l m : List ℕ) → Rearranged l m → length l ≡ length m
same_length l m r = sym (sum-length l) ∙ r.sums (λ k. 1) ∙ sum-length m

-- How often a number stands in a list.
one : ℕ → ℕ → ℕ
one a k = cond (eqb a k) 1 0

times : ℕ → List ℕ → ℕ
times a l = sum (one a) l

times_at : (l : List ℕ) (i : ℕ) → i < length l → 0 < times (get_or l i 0) l
unfolding sum one times
times_at [] i h = absurd (not-suc-le-zero h)
times_at (k ∷ l) zero h = rw (eq-eqb k k refl) (omega arith)
times_at (k ∷ l) (suc i) h = omega (arith, times_at l i (le_of_suc-le-suc h))

place_of : (a : ℕ) (l : List ℕ) → 0 < times a l → (i : ℕ) × (i < length l) × (get_or l i 0 ≡ a)
unfolding sum one times
place_of a [] h = absurd (omega arith)
place_of a (k ∷ l) h = go (eqb a k) refl h (place_of a l)
  where
    go : (b : Bool) → eqb a k ≡ b → 0 < cond b 1 0 + sum (one a) l → (0 < times a l → (i : ℕ) × (i < length l) × (get_or l i 0 ≡ a)) → (i : ℕ) × (i < length (k ∷ l)) × (get_or (k ∷ l) i 0 ≡ a)
    go true e p f = (0, omega arith, sym (eqb-true a k e))
    go false e p f = let r = f (omega arith) in (suc r.0, omega (arith, r.1), r.2)

-- Each number once, by its places and by how often it stands there.
abbrev pub Once : List ℕ → Type 0
Once l = (i j : ℕ) → i < length l → j < length l → get_or l i 0 ≡ get_or l j 0 → i ≡ j

once_times : (l : List ℕ) → Once l → (a : ℕ) → times a l ≤ 1
unfolding sum one times
once_times [] o a = omega arith
once_times (k ∷ l) o a = go (eqb a k) refl (once_times l (λ i j h m e. let q = o (suc i) (suc j) (omega arith) (omega arith) e in omega arith) a)
  where
    none : a ≡ k → 0 < sum (one a) l → ⊥
    none e p = let r = place_of a l p in let q = o 0 (suc r.0) (omega arith) (omega (arith, r.1)) (sym e ∙ sym r.2) in omega arith

    go : (b : Bool) → eqb a k ≡ b → sum (one a) l ≤ 1 → cond b 1 0 + sum (one a) l ≤ 1
    go true e p = few (sum (one a) l) (none (eqb-true a k e))
      where
        few : (x : ℕ) → (0 < x → ⊥) → 1 + x ≤ 1
        few zero f = omega arith
        few (suc x) f = absurd (f (omega arith))
    go false e p = omega arith

not_twice : (k : ℕ) (l : List ℕ) (j : ℕ) → times k (k ∷ l) ≤ 1 → j < length l → k ≡ get_or l j 0 → ⊥
unfolding sum one times
not_twice k l j f h e =
    let here : 1 + sum (one k) l ≤ 1 = rw (eq-eqb k k refl) at f in
    let later : 0 < sum (one k) l = rw e (times_at l j h) in
    omega arith

times_once : (l : List ℕ) → ((a : ℕ) → times a l ≤ 1) → Once l
unfolding sum one times
times_once [] f i j h m e = absurd (not-suc-le-zero h)
times_once (k ∷ l) f zero zero h m e = refl
times_once (k ∷ l) f zero (suc j) h m e = absurd (not_twice k l j (f k) (le_of_suc-le-suc m) e)
times_once (k ∷ l) f (suc i) zero h m e = absurd (not_twice k l i (f k) (le_of_suc-le-suc h) (sym e))
times_once (k ∷ l) f (suc i) (suc j) h m e = ap suc (times_once l (λ a. let q = f a in omega arith) i j (le_of_suc-le-suc h) (le_of_suc-le-suc m) e)

module _ (l m : List ℕ) (r : Rearranged l m) where
  pub same_once : Once m → Once l
  unfolding times
  same_once o = times_once l (λ a. omega (arith, r.sums (one a), once_times m o a))

  -- What holds of every number of the one holds of those of the other.
  pub same_each : (P : ℕ → Type 0) → ((i : ℕ) → i < length m → P (get_or m i 0)) → (i : ℕ) → i < length l → P (get_or l i 0)
  unfolding times
  same_each P f i h =
      let p : 0 < times (get_or l i 0) m = omega (arith, r.sums (one (get_or l i 0)), times_at l i h) in
      let q = place_of (get_or l i 0) m p in
      rw q.2 at (f q.0 q.1)
