-- A call's tests, read from its refusal: with none, each test passed and the call goes on; a list of tests refuses only by one of its own numbers.
use mathlib.Core.Path.{◌≡◌, refl, sym}
use mathlib.Core.Bool.{Bool, true, false}
use mathlib.Core.List.{List, [], ◌∷◌}
use mathlib.Core.Option.{Option, none, some}
use Prim.Native.Nat.{ℕ, ◌<◌}
use native.Mathlib.Omega.{arith}
use Rattle.rules.specs.Contents.{Contents}
use Rattle.rules.specs.Numbers.{Refusal, number, Outcome, when, or_else, first_of, unless}
use Rattle.rules.proofs.Laws.Bools.{both}

-- A refusal is not the lack of one.
pub some_none : {A B : Type 0} {x : A} → some x ≡ none → B
some_none e = absurd (let z : ◌≡◌ {A = ℕ} 0 1 = cc in omega arith)

pub when_none : (r : Refusal) (b : Bool) → when r b ≡ none → b ≡ false
unfolding when
when_none r true e = some_none e
when_none r false e = refl

pub when-passes : (r : Refusal) (b : Bool) → b ≡ false → when r b ≡ none
unfolding when
when-passes r true e = both refl e
when-passes r false e = refl

pub or_else_none : (t later : Option Refusal) → or_else t later ≡ none → (t ≡ none) × (later ≡ none)
unfolding or_else
or_else_none none later e = (refl, e)
or_else_none (some r) later e = some_none e

-- All the tests of a list.
abbrev pub Passed : List (Option Refusal) → Type 0
Passed [] = Unit
Passed (t ∷ ts) = (t ≡ none) × Passed ts

pub first_of_none_lem : (ts : List (Option Refusal)) → first_of ts ≡ none → Passed ts
unfolding first_of
first_of_none_lem [] e = tt
first_of_none_lem (t ∷ ts) e = let tests = or_else_none t (first_of ts) e in (tests.0, first_of_none_lem ts tests.1)

-- The call goes on.
pub unless-passes : {A : Type 0} (t : Option Refusal) (c : Contents) (goes : Outcome A) → t ≡ none → unless t c goes ≡ goes
unfolding unless
unless-passes none c goes e = refl
unless-passes (some r) c goes e = some_none e

-- No refusal, or one with a number below 9.
pub record Below9 (t : Option Refusal) : Type 0 where
  pub below : (r : Refusal) → t ≡ some r → number r < 9

pub none_below9 : Below9 none
none_below9 = record { below = λ q e. some_none (sym e) }

pub some_below9 : (r : Refusal) → number r < 9 → Below9 (some r)
some_below9 r p = record { below = λ q e. let same : r ≡ q = cc in rw same at p }

pub when_below9 : (r : Refusal) (b : Bool) → number r < 9 → Below9 (when r b)
unfolding when
when_below9 r true p = some_below9 r p
when_below9 r false p = none_below9

pub or_else_below9 : (t later : Option Refusal) → Below9 t → Below9 later → Below9 (or_else t later)
unfolding or_else
or_else_below9 none later p q = q
or_else_below9 (some r) later p q = p

abbrev pub AllBelow9 : List (Option Refusal) → Type 0
AllBelow9 [] = Unit
AllBelow9 (t ∷ ts) = Below9 t × AllBelow9 ts

pub first_of_below9 : (ts : List (Option Refusal)) → AllBelow9 ts → Below9 (first_of ts)
unfolding first_of
first_of_below9 [] p = none_below9
first_of_below9 (t ∷ ts) p = or_else_below9 t (first_of ts) p.0 (first_of_below9 ts p.1)
