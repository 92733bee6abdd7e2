-- The numbers returned: one table of what each refusal is and what it leaves, and the answer of a call.
use Rattle.std.specs.Prelude.{Bool, true, false, List, [], ◌∷◌, ℕ}
use Rattle.std.proofs.Math.Option.{Option, none, some}
use Rattle.rules.specs.Contents.{Contents, mark}

pub data Refusal : Type 0 where
  undeclared : Refusal
  bad_mask : Refusal
  bad_value : Refusal
  has_unknown : Refusal
  bad_rows : Refusal
  no_sample_room : Refusal
  no_constraint_room : Refusal
  is_marked : Refusal
  contradiction : Refusal
  no_predicate_room : Refusal
  short_output : Refusal

unfoldable pub number : Refusal → ℕ
number undeclared = 1
number bad_mask = 2
number bad_value = 3
number has_unknown = 4
number bad_rows = 5
number no_sample_room = 6
number no_constraint_room = 7
number is_marked = 8
number contradiction = 9
number no_predicate_room = 10
number short_output = 11

-- The two numbers of a call that did its work: done, and a check that found an overlapping pair.
abbrev pub done_number : ℕ
done_number = 0

abbrev pub overlap_number : ℕ
overlap_number = 12

-- What a refusal leaves: 9 the contents as at entry with the mark set, any other all unchanged.
unfoldable pub leaves : Refusal → Contents → Contents
unfolding mark
leaves undeclared c = c
leaves bad_mask c = c
leaves bad_value c = c
leaves has_unknown c = c
leaves bad_rows c = c
leaves no_sample_room c = c
leaves no_constraint_room c = c
leaves is_marked c = c
leaves contradiction c = mark c
leaves no_predicate_room c = c
leaves short_output c = c

-- The answer of a call: done, with what it returns, or refused.
pub data Answer (A : Type 0) : Type 0 where
  done : A → Answer A
  refused : Refusal → Answer A

unfoldable pub code : {A : Type 0} → Answer A → ℕ
unfolding number
code (done a) = done_number
code (refused r) = number r

-- What stands beside the number: what the call returns, or its zero beside a refusal.
unfoldable pub beside : {A : Type 0} → A → Answer A → A
beside zeros (done a) = a
beside zeros (refused r) = zeros

-- A call's answer, and the contents after it.
pub record Outcome (A : Type 0) : Type 0 where
  pub answer : Answer A
  pub contents : Contents

unfoldable pub refuse : {A : Type 0} → Refusal → Contents → Outcome A
unfolding leaves
refuse r c = record { answer = refused r; contents = leaves r c }

-- The first refusal of a list of tests in order; a call that meets none goes on.
unfoldable pub when : Refusal → Bool → Option Refusal
when r true = some r
when r false = none

unfoldable pub or_else : Option Refusal → Option Refusal → Option Refusal
or_else none later = later
or_else (some r) later = some r

unfoldable pub first_of : List (Option Refusal) → Option Refusal
unfolding or_else
first_of [] = none
first_of (t ∷ ts) = or_else t (first_of ts)

unfoldable pub unless : {A : Type 0} → Option Refusal → Contents → Outcome A → Outcome A
unfolding refuse
unless none c goes = goes
unless (some r) c goes = refuse r c
