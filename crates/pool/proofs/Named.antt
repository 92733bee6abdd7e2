-- The samples of a predicate by number, and a set without them.
use mathlib.Core.Path.{◌≡◌, refl, sym, ap, ◌∙◌}
use mathlib.Core.Bool.{not, ◌&&◌}
use mathlib.Core.List.{List}
use Prim.Native.Nat.{ℕ}
use lib.Dec.{eqb}
use Rattle.rules.specs.Forcing.{names}
use Rattle.rules.proofs.Laws.Bools.{and_split}
use Rattle.words.specs.Sets.{in_set, Holds}
use Rattle.words.specs.declared.set.Set.{Set}
use Rattle.sample.specs.Rows.{shown}
use Rattle.pool.specs.Pools.{Table, row_at, sample_at, in_use, PoolOk}
use Rattle.pool.specs.Answers.{Naming, Forgets}
use Rattle.pool.proofs.PickLaws.{pick-without}
use Rattle.pool.proofs.Gathered.{low}

module _ (positions : ℕ → ℕ) (t : Table) (n : ℕ) (order : List ℕ) (p : ℕ) where
  -- The predicate of a number's row is that of its sample.
  pub names_at : (k : ℕ) → eqb (row_at t k).pred.0 p ≡ names p (sample_at positions t k)
  unfolding names shown
  names_at k = refl

  -- So is that of another table's row, where the two are the same.
  pub names_as : (rows : Table) (k : ℕ) → (row_at t k).pred.0 ≡ (row_at rows k).pred.0 → eqb (row_at rows k).pred.0 p ≡ names p (sample_at positions t k)
  names_as rows k e = ap (λ (q : ℕ). eqb q p) (sym e) ∙ names_at k

  pub forgotten : (set gone out : Set) → PoolOk positions t n order → Naming positions t n order p gone → Holds out (λ k. in_set set k && not (in_set gone k))
      → Forgets positions t n order set p out
  forgotten set gone out ok those left = record {
    is = pick-without (sample_at positions t) (names p) (in_set set) (in_set out) (in_use n order)
        (λ k m. left k (low positions t n order ok k m) ∙ ap (λ b. in_set set k && not b) (those.named k m));
    within = λ inside k h e. inside k h (and_split (in_set set k) (not (in_set gone k)) (sym (left k h) ∙ e)).0;
  }
