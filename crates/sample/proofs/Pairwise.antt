-- A test of two samples that goes by position. Covering, overlapping and the rank are three of them; what they need is said once, of any.
use mathlib.Core.Path.{◌≡◌, refl, sym, ap, ◌∙◌}
use mathlib.Core.Bool.{Bool, true, false, not, ◌&&◌, ◌||◌}
use mathlib.Core.List.{List, [], ◌∷◌}
use mathlib.Core.Option.{none}
use Prim.Native.Nat.{ℕ, zero, suc, ◌+◌, ◌^◌, ◌≤◌, ◌<◌}
use native.Mathlib.Omega.{arith}
use Rattle.std.proofs.Common.{Ordering, Equal}
use Rattle.std.specs.Ordering.{ordering_then}
use Rattle.rules.specs.Values.{Value}
use Rattle.rules.specs.Samples.{Position, before_at, before_all}
use Rattle.rules.specs.Rows.{positions_from}
use Rattle.sample.specs.declared.row.Row.{Row}
use Rattle.sample.specs.Rows.{shown, RowOk}
use Rattle.sample.specs.Ranks.{rank_by, rank_at}
use Rattle.sample.specs.Ways.{agrees_all}
use Rattle.sample.proofs.Positions.{position_at, position_past}

-- `one` is the test of two positions, `all` that of two lists of them, `join` takes the answer for the first positions and that for the rest.
-- Two unknown positions leave the answer to the rest.
pub record PairwiseLaws {B : Type 0} (one : Position → Position → B) (all : List Position → List Position → B) (done : B) (join : B → B → B) : Type 0 where
  pub at_end : all [] [] ≡ done
  pub at_first : (x y : Position) (xs ys : List Position) → all (x ∷ xs) (y ∷ ys) ≡ join (one x y) (all xs ys)
  pub unknown : (r : B) → join (one none none) r ≡ r

pub record Pairwise (B : Type 0) : Type 0 where
  pub one : Position → Position → B
  pub all : List Position → List Position → B
  pub done : B
  pub join : B → B → B
  pub laws : PairwiseLaws one all done join

pub agree_laws : (test : Position → Position → Bool) → test none none ≡ true → PairwiseLaws test (agrees_all test) true ◌&&◌
unfolding agrees_all
agree_laws test h = record { at_end = refl; at_first = λ x y xs ys. refl; unknown = λ r. rw h }

abbrev pub rank_all : List Position → List Position → Ordering
rank_all xs ys = rank_by (before_all xs ys) (before_all ys xs)

pub rank_laws : PairwiseLaws rank_at rank_all Equal ordering_then
unfolding rank_at before_all
rank_laws = record { at_end = refl; at_first = first; unknown = λ r. refl }
  where
    by : (p q r s : Bool) → rank_by (p || (not q && r)) (q || (not p && s)) ≡ ordering_then (rank_by p q) (rank_by r s)
    by true q r s = refl
    by false true r s = refl
    by false false r s = refl

    first : (x y : Position) (xs ys : List Position) → rank_all (x ∷ xs) (y ∷ ys) ≡ ordering_then (rank_at x y) (rank_all xs ys)
    first x y xs ys = by (before_at x y) (before_at y x) (before_all xs ys) (before_all ys xs)

abbrev pub agreeing : (test : Position → Position → Bool) → test none none ≡ true → Pairwise Bool
agreeing test h = record { one = test; all = agrees_all test; done = true; join = ◌&&◌; laws = agree_laws test h }

abbrev pub ranking : Pairwise Ordering
ranking = record { one = rank_at; all = rank_all; done = Equal; join = ordering_then; laws = rank_laws }

-- Positions past the n that both masks have are unknown in both, and change no answer.
module _ {B : Type 0} (T : Pairwise B) (n m m' : ℕ) (v v' : List Value) (few : m < 2 ^ n) (few' : m' < 2 ^ n) where
  all_unknown : (k i : ℕ) → n ≤ i → T.all (positions_from m v k i) (positions_from m' v' k i) ≡ T.done
  unfolding positions_from
  all_unknown zero i h = T.laws.at_end
  all_unknown (suc k) i h =
      T.laws.at_first (position_at m v i) (position_at m' v' i) (positions_from m v k (suc i)) (positions_from m' v' k (suc i))
      ∙ (rw (position_past m v n i few h, position_past m' v' n i few' h) (T.laws.unknown (T.all (positions_from m v k (suc i)) (positions_from m' v' k (suc i)))))
      ∙ all_unknown k (suc i) (omega arith)

  pub past_positions : (j k i : ℕ) → n ≤ i + j → j ≤ k → T.all (positions_from m v j i) (positions_from m' v' j i) ≡ T.all (positions_from m v k i) (positions_from m' v' k i)
  unfolding positions_from
  past_positions zero k i h l = T.laws.at_end ∙ sym (all_unknown k i (omega arith))
  past_positions (suc j) zero i h l = absurd (omega arith)
  past_positions (suc j) (suc k) i h l =
      T.laws.at_first (position_at m v i) (position_at m' v' i) (positions_from m v j (suc i)) (positions_from m' v' j (suc i))
      ∙ ap (T.join (T.one (position_at m v i) (position_at m' v' i))) (past_positions j k (suc i) (omega arith) (omega arith))
      ∙ sym (T.laws.at_first (position_at m v i) (position_at m' v' i) (positions_from m v k (suc i)) (positions_from m' v' k (suc i)))

-- The six positions of a row, the unused ones among them.
abbrev pub six : Row → List Position
six r = positions_from r.mask r.v 6 0

-- Over the six positions as over those of the predicate.
pub six_positions : {B : Type 0} (T : Pairwise B) (a b : Row) (of : ℕ → ℕ) → RowOk of a → RowOk of b → a.pred.0 ≡ b.pred.0
    → T.all (six a) (six b) ≡ T.all (shown of a).at (shown of b).at
unfolding shown
six_positions T a b of p q e =
    rw (← e) (sym (past_positions T (of a.pred.0) a.mask b.mask a.v b.v p.mask (rw e q.mask) (of a.pred.0) 6 0 (omega arith) p.few))
