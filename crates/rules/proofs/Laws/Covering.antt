-- Covering is reflexive and transitive, and two samples that cover each other are equal; overlap is symmetric and follows from covering.
use mathlib.Core.Path.{◌≡◌, refl, sym, ap, ◌∙◌}
use mathlib.Core.Bool.{true}
use mathlib.Core.List.{List, [], ◌∷◌}
use mathlib.Core.Option.{none, some}
use Prim.Native.Nat.{ℕ}
use lib.IntN.{pos, negsuc}
use lib.Dec.{eqb}
use borrow.Author.Tests.{eqb-true, eq-eqb}
use Rattle.rules.specs.Values.{Value, equal_value}
use Rattle.rules.specs.Samples.{Position, Sample, covers_at, covers_all, covers, overlaps_at, overlaps_all, overlaps, same}
use Rattle.rules.proofs.Laws.Bools.{both, same_truth, and_split, and_join}

-- Values: the test is equality.
pub equal_true : (x y : Value) → equal_value x y ≡ true → x ≡ y
unfolding equal_value
equal_true (pos m) (pos n) h = ap pos (eqb-true m n h)
equal_true (pos m) (negsuc n) h = both h refl
equal_true (negsuc m) (pos n) h = both h refl
equal_true (negsuc m) (negsuc n) h = ap negsuc (eqb-true m n h)

pub equal_refl : (x : Value) → equal_value x x ≡ true
unfolding equal_value
equal_refl (pos m) = eq-eqb m m refl
equal_refl (negsuc m) = eq-eqb m m refl

pub equal_sym : (x y : Value) → equal_value x y ≡ equal_value y x
equal_sym x y = same_truth (equal_value x y) (equal_value y x) (λ h. rw (equal_true x y h) (equal_refl y)) (λ h. rw (equal_true y x h) (equal_refl x))

-- The tests as statements.
abbrev pub CoversAt : Position → Position → Type 0
CoversAt none y = Unit
CoversAt (some x) none = ⊥
CoversAt (some x) (some y) = x ≡ y

abbrev pub CoversAll : List Position → List Position → Type 0
CoversAll [] [] = Unit
CoversAll [] (y ∷ ys) = ⊥
CoversAll (x ∷ xs) [] = ⊥
CoversAll (x ∷ xs) (y ∷ ys) = CoversAt x y × CoversAll xs ys

pub record Covers (a b : Sample) : Type 0 where
  pub pred : a.pred ≡ b.pred
  pub at : CoversAll a.at b.at

pub covers_at_true : (x y : Position) → covers_at x y ≡ true → CoversAt x y
unfolding covers_at
covers_at_true none y h = tt
covers_at_true (some x) none h = both h refl
covers_at_true (some x) (some y) h = equal_true x y h

pub covers_at_test : (x y : Position) → CoversAt x y → covers_at x y ≡ true
unfolding covers_at
covers_at_test none y h = refl
covers_at_test (some x) none h = absurd h
covers_at_test (some x) (some y) h = rw h (equal_refl y)

pub covers_all_true : (xs ys : List Position) → covers_all xs ys ≡ true → CoversAll xs ys
unfolding covers_all
covers_all_true [] [] h = tt
covers_all_true [] (y ∷ ys) h = both h refl
covers_all_true (x ∷ xs) [] h = both h refl
covers_all_true (x ∷ xs) (y ∷ ys) h = let r = and_split (covers_at x y) (covers_all xs ys) h in (covers_at_true x y r.0, covers_all_true xs ys r.1)

pub covers_all_test : (xs ys : List Position) → CoversAll xs ys → covers_all xs ys ≡ true
unfolding covers_all
covers_all_test [] [] h = refl
covers_all_test [] (y ∷ ys) h = absurd h
covers_all_test (x ∷ xs) [] h = absurd h
covers_all_test (x ∷ xs) (y ∷ ys) h = and_join (covers_at x y) (covers_all xs ys) (covers_at_test x y h.0) (covers_all_test xs ys h.1)

pub covers_true : (a b : Sample) → covers a b ≡ true → Covers a b
unfolding covers
covers_true a b h =
    let r = and_split (eqb a.pred b.pred) (covers_all a.at b.at) h in
    record { pred = eqb-true a.pred b.pred r.0; at = covers_all_true a.at b.at r.1 }

pub covers_test : (a b : Sample) → Covers a b → covers a b ≡ true
unfolding covers
covers_test a b h = and_join (eqb a.pred b.pred) (covers_all a.at b.at) (eq-eqb a.pred b.pred h.pred) (covers_all_test a.at b.at h.at)

-- One position.
covers_at_refl : (x : Position) → CoversAt x x
covers_at_refl none = tt
covers_at_refl (some x) = refl

covers_at_trans : (x y z : Position) → CoversAt x y → CoversAt y z → CoversAt x z
covers_at_trans none y z p q = tt
covers_at_trans (some x) none z p q = absurd p
covers_at_trans (some x) (some y) none p q = absurd q
covers_at_trans (some x) (some y) (some z) p q = p ∙ q

covers_at_both : (x y : Position) → CoversAt x y → CoversAt y x → x ≡ y
covers_at_both none none p q = refl
covers_at_both none (some y) p q = absurd q
covers_at_both (some x) none p q = absurd p
covers_at_both (some x) (some y) p q = ap some p

-- Rows of positions.

pub covers_all_refl : (xs : List Position) → CoversAll xs xs
covers_all_refl [] = tt
covers_all_refl (x ∷ xs) = (covers_at_refl x, covers_all_refl xs)

pub covers_all_trans : (xs ys zs : List Position) → CoversAll xs ys → CoversAll ys zs → CoversAll xs zs
covers_all_trans [] [] zs p q = q
covers_all_trans [] (y ∷ ys) zs p q = absurd p
covers_all_trans (x ∷ xs) [] zs p q = absurd p
covers_all_trans (x ∷ xs) (y ∷ ys) [] p q = absurd q
covers_all_trans (x ∷ xs) (y ∷ ys) (z ∷ zs) p q = (covers_at_trans x y z p.0 q.0, covers_all_trans xs ys zs p.1 q.1)

pub covers_all_both : (xs ys : List Position) → CoversAll xs ys → CoversAll ys xs → xs ≡ ys
covers_all_both [] [] p q = refl
covers_all_both [] (y ∷ ys) p q = absurd p
covers_all_both (x ∷ xs) [] p q = absurd p
covers_all_both (x ∷ xs) (y ∷ ys) p q = rw (covers_at_both x y p.0 q.0, covers_all_both xs ys p.1 q.1)

-- The laws.
pub covers_refl : (s : Sample) → covers s s ≡ true
covers_refl s = covers_test s s (record { pred = refl; at = covers_all_refl s.at })

pub covers_trans : (a b c : Sample) → covers a b ≡ true → covers b c ≡ true → covers a c ≡ true
covers_trans a b c p q =
    let f = covers_true a b p in
    let g = covers_true b c q in
    covers_test a c (record { pred = f.pred ∙ g.pred; at = covers_all_trans a.at b.at c.at f.at g.at })

pub covers_both : (a b : Sample) → covers a b ≡ true → covers b a ≡ true → a ≡ b
covers_both a b p q =
    let f = covers_true a b p in
    let g = covers_true b a q in
    let e : a.at ≡ b.at = covers_all_both a.at b.at f.at g.at in
    λ i. record { pred = f.pred i; at = e i }

pub same_true : (a b : Sample) → same a b ≡ true → a ≡ b
unfolding same
same_true a b h = let r = and_split (covers a b) (covers b a) h in covers_both a b r.0 r.1

pub same_refl : (s : Sample) → same s s ≡ true
unfolding same
same_refl s = and_join (covers s s) (covers s s) (covers_refl s) (covers_refl s)

eqb_sym : (m n : ℕ) → eqb m n ≡ eqb n m
eqb_sym m n = same_truth (eqb m n) (eqb n m) (λ h. eq-eqb n m (sym (eqb-true m n h))) (λ h. eq-eqb m n (sym (eqb-true n m h)))

overlaps_at_sym : (x y : Position) → overlaps_at x y ≡ overlaps_at y x
unfolding overlaps_at
overlaps_at_sym none none = refl
overlaps_at_sym none (some y) = refl
overlaps_at_sym (some x) none = refl
overlaps_at_sym (some x) (some y) = equal_sym x y

overlaps_all_sym : (xs ys : List Position) → overlaps_all xs ys ≡ overlaps_all ys xs
unfolding overlaps_all
overlaps_all_sym [] [] = refl
overlaps_all_sym [] (y ∷ ys) = refl
overlaps_all_sym (x ∷ xs) [] = refl
overlaps_all_sym (x ∷ xs) (y ∷ ys) = rw (overlaps_at_sym x y, overlaps_all_sym xs ys)

pub overlaps_sym : (a b : Sample) → overlaps a b ≡ overlaps b a
unfolding overlaps
overlaps_sym a b = rw (eqb_sym a.pred b.pred, overlaps_all_sym a.at b.at)

covers_at-overlaps : (x y : Position) → covers_at x y ≡ true → overlaps_at x y ≡ true
unfolding covers_at overlaps_at
covers_at-overlaps none y h = refl
covers_at-overlaps (some x) none h = refl
covers_at-overlaps (some x) (some y) h = h

covers_all-overlaps : (xs ys : List Position) → covers_all xs ys ≡ true → overlaps_all xs ys ≡ true
unfolding covers_all overlaps_all
covers_all-overlaps [] [] h = refl
covers_all-overlaps [] (y ∷ ys) h = h
covers_all-overlaps (x ∷ xs) [] h = h
covers_all-overlaps (x ∷ xs) (y ∷ ys) h =
    let r = and_split (covers_at x y) (covers_all xs ys) h in
    and_join (overlaps_at x y) (overlaps_all xs ys) (covers_at-overlaps x y r.0) (covers_all-overlaps xs ys r.1)

pub covers-overlaps : (a b : Sample) → covers a b ≡ true → overlaps a b ≡ true
unfolding covers overlaps
covers-overlaps a b h =
    let r = and_split (eqb a.pred b.pred) (covers_all a.at b.at) h in
    and_join (eqb a.pred b.pred) (overlaps_all a.at b.at) r.0 (covers_all-overlaps a.at b.at r.1)
