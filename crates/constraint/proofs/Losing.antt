-- What a loss leaves of a constraint, by how many are left: one and no right waits, more stay, and what is left was touched.
-- A loss that decides is on one side, and the other stays as it was.
use Rattle.std.proofs.Common.{◌≡◌, refl, sym, ◌∙◌, Bool, true, false, cond, ◌||◌, ℕ, suc, ◌≤◌, ◌<◌, List, [], ◌∷◌, length, get_or, Option, Some, None, arith}
use Rattle.std.proofs.Math.Option.{Option as RuleOption, none, some}
use Rattle.sample.specs.declared.numbers.SampleNo.{SampleNo}
use Rattle.sample.specs.declared.numbers.Sign.{Sign}
use Rattle.sample.specs.declared.numbers.Sign.TheVariants.{Positive, Negative}
use Rattle.constraint.specs.declared.loss.Loss.TheVariants.{Decides}
use Rattle.constraint.specs.Losses.{loss_no}
use Rattle.constraint.specs.Numbered.{Numbered, outside, any_no, right_is, right_outside, plain, right_no, untouched_no, waits_no, stays_no, remaining_no, judged_no, fate_no}

-- A loss leaves no more.
pub outside_short : (test : ℕ → Bool) (l : List ℕ) → length (outside test l) ≤ length l
unfolding outside
outside_short test [] = omega arith
outside_short test (k ∷ l) = go (test k) (outside_short test l)
  where
    go : (b : Bool) → length (outside test l) ≤ length l → length (cond b (outside test l) (k ∷ outside test l)) ≤ suc (length l)
    go true h = omega arith
    go false h = omega arith

pub one_remains : (l : List SampleNo) (d : SampleNo) → 1 ≤ length l → length l < 2 → waits_no Negative (get_or l 0 d).0 ≡ remaining_no (plain l) none
unfolding remaining_no plain
one_remains [] d h k = absurd (omega arith)
one_remains (s ∷ []) d h k = refl
one_remains (s ∷ t ∷ l) d h k = absurd (omega arith)

pub several_remain : (l : List SampleNo) (r : Option SampleNo) → (length l ≡ 0 → ⊥) → (length l ≡ 1 → r ≡ None → ⊥)
    → stays_no (record { left = plain l; right = right_no r }) ≡ remaining_no (plain l) (right_no r)
unfolding remaining_no plain right_no
several_remain [] r h k = absurd (h refl)
several_remain (s ∷ []) None h k = absurd (k refl refl)
several_remain (s ∷ []) (Some q) h k = refl
several_remain (s ∷ t ∷ l) r h k = refl

pub remaining_touched : (l : List ℕ) (r : RuleOption ℕ) → remaining_no l r ≡ untouched_no → ⊥
unfolding remaining_no
remaining_touched [] none e = cc
remaining_touched [] (some q) e = cc
remaining_touched (s ∷ []) none e = cc
remaining_touched (s ∷ []) (some q) e = cc
remaining_touched (s ∷ t ∷ l) r e = cc

-- A side that loses nothing stays as it is, and a right that is lost is gone.
pub none_lost : (test : ℕ → Bool) (l : List ℕ) → any_no test l ≡ false → outside test l ≡ l
unfolding any_no outside
none_lost test [] h = refl
none_lost test (k ∷ l) h = go (test k) h (none_lost test l)
  where
    go : (b : Bool) → (b || any_no test l) ≡ false → (any_no test l ≡ false → outside test l ≡ l) → cond b (outside test l) (k ∷ outside test l) ≡ k ∷ l
    go true h more = cc
    go false h more = rw (more h)

right_gone : (test : ℕ → Bool) (r : RuleOption ℕ) → right_is test r ≡ true → right_outside test r ≡ none
unfolding right_is right_outside
right_gone test none h = refl
right_gone test (some q) h = rw h

right_kept : (test : ℕ → Bool) (r : RuleOption ℕ) → right_is test r ≡ false → right_outside test r ≡ r
unfolding right_is right_outside
right_kept test none h = refl
right_kept test (some q) h = rw h

-- A loss that decides, by the side that it is on.
module _ (test : ℕ → Bool) (g : Sign) (c : Numbered) (left right : Bool) (e : left ≡ any_no test c.left) (f : right ≡ right_is test c.right)
    (d : Decides ≡ loss_no left right g) where
  pub right_decides : right ≡ true → remaining_no c.left none ≡ fate_no test g c
  unfolding fate_no judged_no loss_no
  right_decides h = rw (← e, ← f, h) (go left g e (rw h at d))
    where
      go : (left : Bool) (g : Sign) → left ≡ any_no test c.left → Decides ≡ loss_no left true g
          → remaining_no c.left none ≡ judged_no g left true (remaining_no (outside test c.left) (right_outside test c.right))
      go true Positive e d = cc
      go true Negative e d = cc
      go false Positive e d = cc
      go false Negative e d = rw (none_lost test c.left (sym e), right_gone test c.right (sym f ∙ h))

  pub left_decides : right ≡ false → remaining_no (outside test c.left) c.right ≡ fate_no test g c
  unfolding fate_no judged_no loss_no
  left_decides h = rw (← e, ← f, h) (go left g (rw h at d))
    where
      go : (left : Bool) (g : Sign) → Decides ≡ loss_no left false g
          → remaining_no (outside test c.left) c.right ≡ judged_no g left false (remaining_no (outside test c.left) (right_outside test c.right))
      go true Positive d = rw (right_kept test c.right (sym f ∙ h))
      go true Negative d = cc
      go false Positive d = cc
      go false Negative d = cc
