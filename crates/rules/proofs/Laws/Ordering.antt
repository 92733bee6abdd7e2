-- The order of samples is strict and total.
use mathlib.Core.Path.{◌≡◌, refl, sym, ap, ◌∙◌}
use mathlib.Core.Bool.{Bool, true, false, not, ◌&&◌, ◌||◌}
use mathlib.Core.List.{List, [], ◌∷◌}
use mathlib.Core.Option.{none, some}
use mathlib.Core.Logic.{◌⊎◌, inl, inr}
use Prim.Native.Nat.{ℕ}
use native.Mathlib.Omega.{arith}
use lib.IntN.{pos, negsuc}
use lib.Dec.{ltb, eqb}
use borrow.Author.Tests.{ltb-true, ltb-false, lt-ltb, le-ltb, eqb-true, eq-eqb}
use Rattle.rules.specs.Values.{Value, lower_value}
use Rattle.rules.specs.Samples.{Position, Sample, before_at, before_all, before}
use Rattle.rules.proofs.Laws.Bools.{both, and_split, and_join, or_split, or_second, not-true, refuted}

-- A strict total order, as a test.
pub record StrictOrder (A : Type 0) (less : A → A → Bool) : Type 0 where
  pub irreflexive : (x : A) → less x x ≡ false
  pub transitive : (x y z : A) → less x y ≡ true → less y z ≡ true → less x z ≡ true
  pub total : (x y : A) → (less x y ≡ true) ⊎ ((x ≡ y) ⊎ (less y x ≡ true))

-- Each of three cases carried over; the middle one only; the outer ones in each other's place.
three : {P E Q P' E' Q' : Type 0} → (P → P') → (E → E') → (Q → Q') → P ⊎ (E ⊎ Q) → P' ⊎ (E' ⊎ Q')
three f g h (inl p) = inl (f p)
three f g h (inr (inl e)) = inr (inl (g e))
three f g h (inr (inr q)) = inr (inr (h q))

middle : {P E E' Q : Type 0} → (E → E') → P ⊎ (E ⊎ Q) → P ⊎ (E' ⊎ Q)
middle g = three (λ p. p) g (λ q. q)

turned : {P E Q : Type 0} → P ⊎ (E ⊎ Q) → Q ⊎ (E ⊎ P)
turned (inl p) = inr (inr p)
turned (inr (inl e)) = inr (inl e)
turned (inr (inr q)) = inl q

number_order : StrictOrder ℕ ltb
number_order = record { irreflexive = λ x. le-ltb x x (omega arith); transitive = trans; total = λ x y. cases x y (ltb x y) (ltb y x) refl refl }
  where
    trans : (x y z : ℕ) → ltb x y ≡ true → ltb y z ≡ true → ltb x z ≡ true
    trans x y z p q = lt-ltb x z (omega (arith, ltb-true x y p, ltb-true y z q))

    cases : (x y : ℕ) (b c : Bool) → ltb x y ≡ b → ltb y x ≡ c → (ltb x y ≡ true) ⊎ ((x ≡ y) ⊎ (ltb y x ≡ true))
    cases x y true c p q = inl p
    cases x y false true p q = inr (inr q)
    cases x y false false p q = inr (inl (omega (arith, ltb-false x y p, ltb-false y x q)))

pub value_order : StrictOrder Value lower_value
unfolding lower_value
value_order = record { irreflexive = irr; transitive = trans; total = cases }
  where
    irr : (x : Value) → lower_value x x ≡ false
    irr (pos m) = number_order.irreflexive m
    irr (negsuc m) = number_order.irreflexive m

    trans : (x y z : Value) → lower_value x y ≡ true → lower_value y z ≡ true → lower_value x z ≡ true
    trans (pos a) (pos b) (pos c) p q = number_order.transitive a b c p q
    trans (pos a) (pos b) (negsuc c) p q = q
    trans (pos a) (negsuc b) z p q = both p refl
    trans (negsuc a) (pos b) (pos c) p q = refl
    trans (negsuc a) (pos b) (negsuc c) p q = both q refl
    trans (negsuc a) (negsuc b) (pos c) p q = refl
    trans (negsuc a) (negsuc b) (negsuc c) p q = number_order.transitive c b a q p

    cases : (x y : Value) → (lower_value x y ≡ true) ⊎ ((x ≡ y) ⊎ (lower_value y x ≡ true))
    cases (pos a) (pos b) = middle (ap pos) (number_order.total a b)
    cases (pos a) (negsuc b) = inr (inr refl)
    cases (negsuc a) (pos b) = inl refl
    cases (negsuc a) (negsuc b) = middle (ap negsuc) (turned (number_order.total a b))

pub position_order : StrictOrder Position before_at
unfolding before_at
position_order = record { irreflexive = irr; transitive = trans; total = cases }
  where
    irr : (x : Position) → before_at x x ≡ false
    irr none = refl
    irr (some x) = value_order.irreflexive x

    trans : (x y z : Position) → before_at x y ≡ true → before_at y z ≡ true → before_at x z ≡ true
    trans none none z p q = both p refl
    trans none (some y) none p q = both q refl
    trans none (some y) (some z) p q = refl
    trans (some x) none z p q = both p refl
    trans (some x) (some y) none p q = both q refl
    trans (some x) (some y) (some z) p q = value_order.transitive x y z p q

    cases : (x y : Position) → (before_at x y ≡ true) ⊎ ((x ≡ y) ⊎ (before_at y x ≡ true))
    cases none none = inr (inl refl)
    cases none (some y) = inl refl
    cases (some x) none = inr (inr refl)
    cases (some x) (some y) = middle (ap some) (value_order.total x y)

-- One step of an order by parts: the first parts decide, or they are equal and the test on the rest, `later`, decides.
module _ {A : Type 0} {less : A → A → Bool} (order : StrictOrder A less) where
  abbrev Step : A → A → Bool → Type 0
  Step x y later = (less x y ≡ true) ⊎ ((x ≡ y) × (later ≡ true))

  step_irreflexive : (x : A) (later : Bool) → later ≡ false → Step x x later → ⊥
  step_irreflexive x later n (inl p) = both p (order.irreflexive x)
  step_irreflexive x later n (inr (e, q)) = both q n

  step_transitive : (x y z : A) {a b c : Bool} → (a ≡ true → b ≡ true → c ≡ true) → Step x y a → Step y z b → Step x z c
  step_transitive x y z f (inl p) (inl q) = inl (order.transitive x y z p q)
  step_transitive x y z f (inl p) (inr (e, b)) = inl (rw e at p)
  step_transitive x y z f (inr (e, a)) (inl q) = inl (rw e q)
  step_transitive x y z f (inr (d, a)) (inr (e, b)) = inr (d ∙ e, f a b)

  step_total : (x y : A) {a b : Bool} {E : Type 0} → (a ≡ true) ⊎ (E ⊎ (b ≡ true)) → Step x y a ⊎ (((x ≡ y) × E) ⊎ Step y x b)
  step_total x y {a} {b} {E} rest = go (order.total x y) rest
    where
      go : (less x y ≡ true) ⊎ ((x ≡ y) ⊎ (less y x ≡ true)) → (a ≡ true) ⊎ (E ⊎ (b ≡ true)) → Step x y a ⊎ (((x ≡ y) × E) ⊎ Step y x b)
      go (inl p) r = inl (inl p)
      go (inr (inr q)) r = inr (inr (inl q))
      go (inr (inl e)) (inl a) = inl (inr (e, a))
      go (inr (inl e)) (inr (inl d)) = inr (inl (e, d))
      go (inr (inl e)) (inr (inr b)) = inr (inr (inr (sym e, b)))

-- Positions one by one. The test asks for equal first positions by asking that neither comes first.
row_step : (x y : Position) (later : Bool) → (before_at x y || (not (before_at y x) && later)) ≡ true → Step position_order x y later
row_step x y later h = go (or_split (before_at x y) (not (before_at y x) && later) h) (position_order.total x y)
  where
    go : (before_at x y ≡ true) ⊎ ((not (before_at y x) && later) ≡ true) → (before_at x y ≡ true) ⊎ ((x ≡ y) ⊎ (before_at y x ≡ true)) → Step position_order x y later
    go (inl p) c = inl p
    go (inr r) (inl p) = inl p
    go (inr r) (inr (inl e)) = inr (e, (and_split (not (before_at y x)) later r).1)
    go (inr r) (inr (inr q)) = both q (not-true (before_at y x) (and_split (not (before_at y x)) later r).0)

step_row : (x y : Position) (later : Bool) → Step position_order x y later → (before_at x y || (not (before_at y x) && later)) ≡ true
step_row x y later (inl p) = rw p
step_row x y later (inr (e, q)) = rw (e, position_order.irreflexive y) q

row_order : StrictOrder (List Position) before_all
unfolding before_all
row_order = record { irreflexive = irr; transitive = trans; total = cases }
  where
    irr : (xs : List Position) → before_all xs xs ≡ false
    irr [] = refl
    irr (x ∷ xs) = refuted (before_all (x ∷ xs) (x ∷ xs)) (λ h. step_irreflexive position_order x (before_all xs xs) (irr xs) (row_step x x (before_all xs xs) h))

    trans : (xs ys zs : List Position) → before_all xs ys ≡ true → before_all ys zs ≡ true → before_all xs zs ≡ true
    trans [] [] zs p q = both p refl
    trans [] (y ∷ ys) [] p q = both q refl
    trans [] (y ∷ ys) (z ∷ zs) p q = refl
    trans (x ∷ xs) [] zs p q = both p refl
    trans (x ∷ xs) (y ∷ ys) [] p q = both q refl
    trans (x ∷ xs) (y ∷ ys) (z ∷ zs) p q =
        step_row x z (before_all xs zs) (step_transitive position_order x y z (trans xs ys zs) (row_step x y (before_all xs ys) p) (row_step y z (before_all ys zs) q))

    cases : (xs ys : List Position) → (before_all xs ys ≡ true) ⊎ ((xs ≡ ys) ⊎ (before_all ys xs ≡ true))
    cases [] [] = inr (inl refl)
    cases [] (y ∷ ys) = inl refl
    cases (x ∷ xs) [] = inr (inr refl)
    cases (x ∷ xs) (y ∷ ys) =
        three (step_row x y (before_all xs ys)) (λ e. rw (e.0, e.1)) (step_row y x (before_all ys xs)) (step_total position_order x y (cases xs ys))

-- Samples: by predicate, then by positions.
before_true : (a b : Sample) → before a b ≡ true → Step number_order a.pred b.pred (before_all a.at b.at)
unfolding before
before_true a b h = go (or_split (ltb a.pred b.pred) (eqb a.pred b.pred && before_all a.at b.at) h)
  where
    go : (ltb a.pred b.pred ≡ true) ⊎ ((eqb a.pred b.pred && before_all a.at b.at) ≡ true) → Step number_order a.pred b.pred (before_all a.at b.at)
    go (inl p) = inl p
    go (inr q) = let r = and_split (eqb a.pred b.pred) (before_all a.at b.at) q in inr (eqb-true a.pred b.pred r.0, r.1)

before_test : (a b : Sample) → Step number_order a.pred b.pred (before_all a.at b.at) → before a b ≡ true
unfolding before
before_test a b (inl p) = rw p
before_test a b (inr (e, q)) = or_second (ltb a.pred b.pred) (eqb a.pred b.pred && before_all a.at b.at)
    (and_join (eqb a.pred b.pred) (before_all a.at b.at) (eq-eqb a.pred b.pred e) q)

pub sample_order : StrictOrder Sample before
sample_order = record { irreflexive = irr; transitive = trans; total = cases }
  where
    irr : (s : Sample) → before s s ≡ false
    irr s = refuted (before s s) (λ h. step_irreflexive number_order s.pred (before_all s.at s.at) (row_order.irreflexive s.at) (before_true s s h))

    trans : (a b c : Sample) → before a b ≡ true → before b c ≡ true → before a c ≡ true
    trans a b c p q = before_test a c (step_transitive number_order a.pred b.pred c.pred (row_order.transitive a.at b.at c.at) (before_true a b p) (before_true b c q))

    equal : (a b : Sample) → (a.pred ≡ b.pred) × (a.at ≡ b.at) → a ≡ b
    equal a b (p, q) = λ i. record { pred = p i; at = q i }

    cases : (a b : Sample) → (before a b ≡ true) ⊎ ((a ≡ b) ⊎ (before b a ≡ true))
    cases a b = three (before_test a b) (equal a b) (before_test b a) (step_total number_order a.pred b.pred (row_order.total a.at b.at))

pub before-not-after : (a b : Sample) → before a b ≡ true → before b a ≡ false
before-not-after a b h = refuted (before b a) (λ k. both (sample_order.transitive a b a h k) (sample_order.irreflexive a))
