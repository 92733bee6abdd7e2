-- The numbers of a constraint's left samples, and of its right one: tests of them, and what passes, as lists and as sets.
use Rattle.std.proofs.Common.{◌≡◌, ap, sym, ◌∙◌, refl, ℕ, ◌≤◌, ◌<◌, Bool, true, false, cond, not, ◌||◌, zero, suc, eqb, ltb, ltb-true, ltb-false, List, [], ◌∷◌, ◌++◌, get_or, take, set, ◌+◌, length, add-one, MatchOption, Option, Some, None, arith}
use Rattle.std.proofs.Math.Seq.{take-suc-set}
use Rattle.std.proofs.lemmas.List.{take_more}
use mathlib.Core.List.{append-nil}
use Rattle.std.specs.Bool.{then_some}
use Rattle.std.specs.List.{list_any}
use Rattle.std.specs.Option.{option_eq}
use Rattle.std.proofs.Math.Option.{none, some}
use borrow.Author.Tests.{ne_eqb}
use Rattle.words.specs.Sets.{in_set, Holds}
use Rattle.words.proofs.FourWords.{past}
use Rattle.words.specs.declared.set.Set.{Set}
use Rattle.sample.specs.declared.numbers.SampleNo.{SampleNo}
use Rattle.constraint.specs.Numbered.{plain, right_no, is_in, any_no, outside, right_is, right_outside, same_right_no}

-- The left.
pub any_no-plain : (test : ℕ → Bool) (l : List SampleNo) → any_no test (plain l) ≡ list_any (λ s. test s.0) l
unfolding any_no plain
any_no-plain test [] = refl
any_no-plain test (s ∷ l) = rw (any_no-plain test l)

plain_one_more : (l : List SampleNo) (s : SampleNo) → plain (l ++ s ∷ []) ≡ plain l ++ s.0 ∷ []
unfolding plain
plain_one_more [] s = refl
plain_one_more (t ∷ l) s = rw (plain_one_more l s)

outside_one_more : (test : ℕ → Bool) (l : List SampleNo) (s : SampleNo) → outside test (plain (l ++ s ∷ [])) ≡ outside test (plain l) ++ cond (test s.0) [] (s.0 ∷ [])
unfolding outside plain
outside_one_more test [] s = refl
outside_one_more test (t ∷ l) s = rw (outside_one_more test l s) (go (test t.0) (outside test (plain l)) (cond (test s.0) [] (s.0 ∷ [])))
  where
    go : (b : Bool) (x y : List ℕ) → cond b (x ++ y) (t.0 ∷ (x ++ y)) ≡ cond b x (t.0 ∷ x) ++ y
    go true x y = refl
    go false x y = refl

or-none : (a : Bool) → (a || false) ≡ a
or-none true = refl
or-none false = refl

any_one_more : (test : ℕ → Bool) (l : List SampleNo) (s : SampleNo) → any_no test (plain (l ++ s ∷ [])) ≡ (any_no test (plain l) || test s.0)
unfolding any_no plain
any_one_more test [] s = or-none (test s.0)
any_one_more test (t ∷ l) s = rw (any_one_more test l s) (go (test t.0) (any_no test (plain l)) (test s.0))
  where
    go : (a b c : Bool) → (a || (b || c)) ≡ ((a || b) || c)
    go true b c = refl
    go false b c = refl

-- A search for one that passes a test: none so far, and one at i.
pub none_more : (test : ℕ → Bool) (items : List SampleNo) (i : ℕ) (d : SampleNo) → i < length items → any_no test (plain (take i items)) ≡ false
    → test (get_or items i d).0 ≡ false → any_no test (plain (take (i + 1) items)) ≡ false
none_more test items i d h so_far e = rw (take_more items i d h, any_one_more test (take i items) (get_or items i d), so_far, e)

pub any_at : (test : ℕ → Bool) (items : List SampleNo) (i : ℕ) (d : SampleNo) → i < length items → test (get_or items i d).0 ≡ true → any_no test (plain items) ≡ true
unfolding any_no plain
any_at test [] i d h e = absurd (omega arith)
any_at test (s ∷ l) zero d h e = rw e
any_at test (s ∷ l) (suc i) d h e = rw (any_at test l i d (omega arith) e) (go (test s.0))
  where
    go : (b : Bool) → (b || true) ≡ true
    go true = refl
    go false = refl

-- Those outside a set, written to the front of a list one by one: the next one is in the set, or it is written at k.
module _ (test : ℕ → Bool) (items out : List SampleNo) (i k : ℕ) (d : SampleNo) (h : i < length items) (room : k < length out)
    (so_far : plain (take k out) ≡ outside test (plain (take i items))) where
  pub one_gone : test (get_or items i d).0 ≡ true → plain (take k out) ≡ outside test (plain (take (i + 1) items))
  one_gone e = rw (take_more items i d h, outside_one_more test (take i items) (get_or items i d), e, append-nil) so_far

  pub one_kept : test (get_or items i d).0 ≡ false → plain (take (k + 1) (set out k (get_or items i d))) ≡ outside test (plain (take (i + 1) items))
  one_kept e =
      rw (take_more items i d h, outside_one_more test (take i items) (get_or items i d), e, add-one, take-suc-set out k (get_or items i d) room)
      (plain_one_more (take k out) (get_or items i d) ∙ rw so_far)

or_swap : (a b c : Bool) → (a || (b || c)) ≡ (b || (a || c))
or_swap a b c = grind arith

is_in_one_more : (k : ℕ) (l : List SampleNo) (s : SampleNo) → is_in k (plain (l ++ s ∷ [])) ≡ (eqb k s.0 || is_in k (plain l))
unfolding is_in plain
is_in_one_more k [] s = refl
is_in_one_more k (t ∷ l) s = rw (is_in_one_more k l s) (or_swap (eqb k t.0) (eqb k s.0) (is_in k (plain l)))

-- What holds of a set below 256 holds everywhere.
below_all : (f : ℕ → Bool) (s : Set) → ((j : ℕ) → 256 ≤ j → f j ≡ false) → Holds s f → (j : ℕ) → in_set s j ≡ f j
below_all f s h g j = go (ltb j 256) refl
  where
    go : (b : Bool) → ltb j 256 ≡ b → in_set s j ≡ f j
    go true e = g j (ltb-true j 256 e)
    go false e = let l : 256 ≤ j = ltb-false j 256 e in past s j l ∙ sym (h j l)

-- A set that holds the numbers of these samples.
abbrev pub Gathers : List SampleNo → Set → Type 0
Gathers l s = (k : ℕ) → in_set s k ≡ is_in k (plain l)

pub gathers_none : (s : Set) → Holds s (λ j. false) → Gathers [] s
unfolding is_in plain
gathers_none s = below_all (λ j. false) s (λ j l. refl)

pub gathers_one_more : (l : List SampleNo) (s r : Set) (q : SampleNo) → q.0 < 256
    → Gathers l s → Holds r (λ j. eqb j q.0 || in_set s j) → Gathers (l ++ q ∷ []) r
gathers_one_more l s r q h g more k =
    below_all (λ j. eqb j q.0 || in_set s j) r (λ j b. rw (ne_eqb j q.0 (λ e. omega arith), past s j b)) more k
    ∙ (ap (λ b. eqb k q.0 || b) (g k) ∙ sym (is_in_one_more k l q))

-- The right: what a closure's test tells of it.
pub right_is_told : (test : ℕ → Bool) (r : Option SampleNo) (b : Bool) {P : SampleNo → Type 0}
    → MatchOption r (b ≡ false) P → ((s : SampleNo) → P s → b ≡ test s.0) → b ≡ right_is test (right_no r)
unfolding right_is right_no
right_is_told test None b h say = h
right_is_told test (Some q) b h say = say q h

pub right_outside_told : (test : ℕ → Bool) (r t : Option SampleNo) {P : SampleNo → Type 0}
    → MatchOption r (t ≡ None) P → ((s : SampleNo) → P s → t ≡ then_some (not (test s.0)) s) → right_no t ≡ right_outside test (right_no r)
unfolding right_outside right_no
right_outside_told test None t h say = rw h
right_outside_told test (Some q) t h say = rw (say q h) (go (test q.0))
  where
    go : (b : Bool) → right_no (then_some (not b) q) ≡ cond b none (some q.0)
    go true = refl
    go false = refl

pub same_right_no-right_no : (p q : Option SampleNo) → same_right_no (right_no p) (right_no q) ≡ option_eq (λ a b. eqb a.0 b.0) p q
unfolding same_right_no right_no
same_right_no-right_no None None = refl
same_right_no-right_no None (Some q) = refl
same_right_no-right_no (Some p) None = refl
same_right_no-right_no (Some p) (Some q) = refl
