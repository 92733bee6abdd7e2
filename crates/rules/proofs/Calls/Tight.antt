-- How tight the promises are: every rule is a function, so two outcomes of a call on equal contents and equal input are equal; and contents are equal when their sets have the same members.
use mathlib.Core.Path.{◌≡◌, sym, ◌∙◌}
use mathlib.Core.Bool.{Bool}
use mathlib.Core.List.{List}
use Prim.Native.Nat.{ℕ}
use lib.IntN.{ℤ}
use Rattle.rules.specs.Samples.{Sample}
use Rattle.rules.specs.Contents.{Sides, Contents}
use Rattle.rules.specs.Settling.{settle}
use Rattle.rules.specs.Declaring.{declare}
use Rattle.rules.specs.Adding.{add}
use Rattle.rules.specs.Checking.{check}
use Rattle.rules.specs.Forcing.{force}
use Rattle.rules.specs.Showing.{show}
use Rattle.rules.specs.Classifying.{classify}
use Rattle.rules.specs.Script.Bytes.{Bytes}
use Rattle.rules.specs.Script.Running.{script}
use Rattle.rules.specs.Condition.{Mem, Rising}
use Rattle.rules.proofs.Laws.Sets.{rising_same}

-- Any two outcomes that a rule allows, on equal input and equal contents, are equal.
abbrev pub OneOutcome : {I O : Type 0} → (I → Contents → O) → Type 0
OneOutcome {I} {O} rule = (i j : I) (c d : Contents) (o p : O) → i ≡ j → c ≡ d → o ≡ rule i c → p ≡ rule j d → o ≡ p

pub one_outcome : {I O : Type 0} (rule : I → Contents → O) → OneOutcome rule
one_outcome rule i j c d o p e f g h = g ∙ ((rw (e, f)) ∙ sym h)

-- The calls, each as a rule over its whole input.
pub record Tight : Type 0 where
  pub declares : OneOutcome declare
  pub adds : OneOutcome (λ (i : List ℤ × Bool). add i.0 i.1)
  pub settles : OneOutcome (λ (i : Unit {0}). settle)
  pub checks : OneOutcome (λ (i : Unit {0}). check)
  pub forces : OneOutcome (λ (i : ℤ × Bool). force i.0 i.1)
  pub shows : OneOutcome (λ (i : ℤ × List ℤ). show i.0 i.1)
  pub classifies : OneOutcome (λ (i : List ℤ × List ℤ × List ℤ × ℕ) c. classify i.0 i.1 i.2 i.3)
  pub plays : OneOutcome (λ (i : Bytes) c. script i)

pub tight : Tight
tight =
    record {
      declares = one_outcome declare;
      adds = one_outcome (λ (i : List ℤ × Bool). add i.0 i.1);
      settles = one_outcome (λ (i : Unit {0}). settle);
      checks = one_outcome (λ (i : Unit {0}). check);
      forces = one_outcome (λ (i : ℤ × Bool). force i.0 i.1);
      shows = one_outcome (λ (i : ℤ × List ℤ). show i.0 i.1);
      classifies = one_outcome (λ (i : List ℤ × List ℤ × List ℤ × ℕ) c. classify i.0 i.1 i.2 i.3);
      plays = one_outcome (λ (i : Bytes) c. script i);
    }

-- Two sides whose sets have the same members are equal.
pub record SameMembers (l m : List Sample) : Type 0 where
  pub rising_left : Rising l
  pub rising_right : Rising m
  pub there : (x : Sample) → Mem x l → Mem x m
  pub back : (x : Sample) → Mem x m → Mem x l

pub same_sides : (x y : Sides) → SameMembers x.positives y.positives → SameMembers x.negatives y.negatives → x ≡ y
same_sides x y p n =
    let e = rising_same x.positives y.positives p.rising_left p.rising_right p.there p.back in
    let f = rising_same x.negatives y.negatives n.rising_left n.rising_right n.there n.back in
    λ i. record { positives = e i; negatives = f i }
