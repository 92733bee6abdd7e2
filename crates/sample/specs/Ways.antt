-- How a sample agrees with another by a test of two positions: covering and overlapping are such ways.
use Rattle.std.specs.Prelude.{◌≡◌, Bool, true, false, ◌&&◌, List, [], ◌∷◌, eqb, ℤ, Option}
use Rattle.rules.specs.Samples.{Position, Sample}
use Rattle.sample.specs.Options.{to_rules}

unfoldable pub agrees_all : (Position → Position → Bool) → List Position → List Position → Bool
agrees_all test [] [] = true
agrees_all test [] (y ∷ ys) = false
agrees_all test (x ∷ xs) [] = false
agrees_all test (x ∷ xs) (y ∷ ys) = test x y && agrees_all test xs ys

unfoldable pub agrees : (Position → Position → Bool) → Sample → Sample → Bool
unfolding agrees_all
agrees test a b = eqb a.pred b.pred && agrees_all test a.at b.at

-- What a function of two positions answers is what the test says of them.
abbrev pub Computes : (Option ℤ → Option ℤ → Bool → Type 0) → (Position → Position → Bool) → Type 0
Computes answers test = (x y : Option ℤ) (r : Bool) → answers x y r → r ≡ test (to_rules x) (to_rules y)
