-- The first number of the order that is in a set.
use mathlib.Core.Path.{◌≡◌, refl}
use mathlib.Core.Bool.{Bool, true, false, cond}
use mathlib.Core.List.{List, [], ◌∷◌}
use mathlib.Core.Option.{none, some}
use Prim.Native.Nat.{ℕ}
use lib.Dec.{ltb}
use borrow.Author.Tests.{ltb-true, ltb-false}
use Rattle.std.proofs.Common.{Some}
use Rattle.std.specs.List.{find}
use Rattle.words.specs.Sets.{in_set, Holds}
use Rattle.words.specs.declared.set.Set.{Set}
use Rattle.words.proofs.FourWords.{past}
use Rattle.sample.specs.Options.{to_rules}
use Rattle.pool.specs.Picks.{first_of}

-- The first number that passes is the one that std's `find` gives.
pub first-find : (test : ℕ → Bool) (ks : List ℕ) → first_of test ks ≡ to_rules (find test ks)
unfolding first_of
first-find test [] = refl
first-find test (k ∷ ks) = rw (first-find test ks) (go (test k))
  where
    go : (b : Bool) → cond b (some k) (to_rules (find test ks)) ≡ to_rules (cond b (Some k) (find test ks))
    go true = refl
    go false = refl

-- An empty set has no number at all.
nowhere : (s : Set) → Holds s (λ k. false) → (k : ℕ) → in_set s k ≡ false
nowhere s h k = go (ltb k 256) refl
  where
    go : (b : Bool) → ltb k 256 ≡ b → in_set s k ≡ false
    go true e = h k (ltb-true k 256 e)
    go false e = past s k (ltb-false k 256 e)

pub first_of_none : (s : Set) (ks : List ℕ) → Holds s (λ k. false) → first_of (in_set s) ks ≡ none
unfolding first_of
first_of_none s [] h = refl
first_of_none s (k ∷ ks) h = rw (nowhere s h k) (first_of_none s ks h)
