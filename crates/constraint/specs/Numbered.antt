-- A constraint of the code as sample numbers, and the rules of a loss and of redundancy on numbers.
use Rattle.std.specs.Prelude.{Option as CodeOption, None, Some, Bool, true, false, cond, ◌&&◌, ◌||◌, List, [], ◌∷◌, ℕ, eqb, take}
use Rattle.std.proofs.Math.Option.{Option, none, some}
use Rattle.sample.specs.declared.numbers.SampleNo.{SampleNo}
use Rattle.sample.specs.declared.numbers.Sign.{Sign}
use Rattle.sample.specs.declared.numbers.Sign.TheVariants.{Positive, Negative}
use Rattle.constraint.specs.declared.cons.Cons.{Cons}
use Rattle.constraint.specs.declared.left.Left.{Left}
use Rattle.constraint.specs.declared.loss.Outcome.{Outcome}
use Rattle.constraint.specs.declared.loss.Outcome.TheVariants.{Untouched, Stays, Dropped, Waits, Contradiction}

pub record Numbered : Type 0 where
  pub left : List ℕ
  pub right : Option ℕ

-- Those of a left, which lie in front.
abbrev pub samples_of : Left → List SampleNo
samples_of l = take l.count l.numbers

unfoldable pub plain : List SampleNo → List ℕ
plain [] = []
plain (s ∷ l) = s.0 ∷ plain l

unfoldable pub right_no : CodeOption SampleNo → Option ℕ
right_no None = none
right_no (Some q) = some q.0

unfoldable pub numbers_of : Cons → Numbered
unfolding plain right_no
numbers_of c = record { left = plain (samples_of c.left); right = right_no c.right }

unfoldable pub is_in : ℕ → List ℕ → Bool
is_in k [] = false
is_in k (j ∷ js) = eqb k j || is_in k js

unfoldable pub any_no : (ℕ → Bool) → List ℕ → Bool
any_no test [] = false
any_no test (k ∷ ks) = test k || any_no test ks

unfoldable pub outside : (ℕ → Bool) → List ℕ → List ℕ
outside test [] = []
outside test (k ∷ ks) = cond (test k) (outside test ks) (k ∷ outside test ks)

unfoldable pub right_is : (ℕ → Bool) → Option ℕ → Bool
right_is test none = false
right_is test (some k) = test k

unfoldable pub right_outside : (ℕ → Bool) → Option ℕ → Option ℕ
right_outside test none = none
right_outside test (some k) = cond (test k) none (some k)

-- What becomes of it, as `fate` of the rules, on numbers.
pub data FateNo : Type 0 where
  untouched_no : FateNo
  dropped_no : FateNo
  waits_no : Sign → ℕ → FateNo
  contradicts_no : FateNo
  stays_no : Numbered → FateNo

unfoldable pub remaining_no : List ℕ → Option ℕ → FateNo
remaining_no [] none = contradicts_no
remaining_no [] (some q) = waits_no Positive q
remaining_no (s ∷ []) none = waits_no Negative s
remaining_no (s ∷ []) (some q) = stays_no (record { left = s ∷ []; right = some q })
remaining_no (s ∷ t ∷ l) r = stays_no (record { left = s ∷ t ∷ l; right = r })

unfoldable pub judged_no : Sign → Bool → Bool → FateNo → FateNo
judged_no g false false rest = untouched_no
judged_no Negative true right rest = dropped_no
judged_no Positive true true rest = dropped_no
judged_no Positive true false rest = rest
judged_no Positive false true rest = dropped_no
judged_no Negative false true rest = rest

unfoldable pub fate_no : (ℕ → Bool) → Sign → Numbered → FateNo
unfolding judged_no any_no right_is remaining_no outside right_outside
fate_no lost g c = judged_no g (any_no lost c.left) (right_is lost c.right) (remaining_no (outside lost c.left) (right_outside lost c.right))

-- What an answer of `loses` says.
unfoldable pub says_no : Outcome → FateNo
unfolding numbers_of
says_no (Untouched c) = untouched_no
says_no (Stays c) = stays_no (numbers_of c)
says_no Dropped = dropped_no
says_no (Waits g s) = waits_no g s.0
says_no Contradiction = contradicts_no

-- d is needless beside c, on numbers.
unfoldable pub same_right_no : Option ℕ → Option ℕ → Bool
same_right_no none none = true
same_right_no none (some q) = false
same_right_no (some p) none = false
same_right_no (some p) (some q) = eqb p q

unfoldable pub inside_no : List ℕ → List ℕ → Bool
unfolding is_in
inside_no [] m = true
inside_no (k ∷ l) m = is_in k m && inside_no l m

unfoldable pub needless_no : Numbered → Numbered → Bool
unfolding same_right_no inside_no
needless_no c d = same_right_no c.right d.right && inside_no c.left d.left

-- Whether it names a number that passes.
unfoldable pub names_no : (ℕ → Bool) → Numbered → Bool
unfolding any_no right_is
names_no test c = right_is test c.right || any_no test c.left
