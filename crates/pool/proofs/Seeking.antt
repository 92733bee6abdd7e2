-- The place of a row among rows that rise: what its rank beside each says, and that the ranks rise.
use mathlib.Core.Path.{◌≡◌, refl, subst}
use mathlib.Core.Bool.{Bool, true, false}
use mathlib.Core.List.{List, [], ◌∷◌}
use mathlib.Core.Logic.{⊎_elim}
use Prim.Native.Nat.{ℕ, zero, suc, ◌≤◌, ◌<◌}
use native.Mathlib.Nat.{not-suc-le-zero, le_of_suc-le-suc, eq-or-lt_of_le}
use native.Mathlib.Omega.{arith}
use lib.ListN.{length, get_or, take}
use Rattle.rules.specs.Samples.{Sample, before}
use Rattle.rules.proofs.Laws.Bools.{both}
use Rattle.rules.proofs.Laws.Ordering.{sample_order}
use Rattle.std.proofs.Common.{Ordering, Less, Equal, Greater}
use Rattle.std.specs.Ordering.{ordering_index}
use Rattle.std.specs.List.Sorted.{IsNonDecreasingBy, IsPartitionPoint}
use Rattle.sample.specs.Ranks.{rank_by, rank_of, rank_rows}
use Rattle.std.proofs.lemmas.List.{get_or-take, length-take, get_or_default}
use Rattle.sample.proofs.Compared.{rank_of_rows}
use Rattle.sample.specs.declared.row.Row.{Row}
use Rattle.sample.specs.Rows.{shown, RowOk}
use Rattle.pool.specs.Picks.{Among, Rises}
use Rattle.pool.specs.Pools.{Table, row_at, sample_at, in_use, PoolOk}
use Rattle.pool.specs.Answers.{FoundAt, GapAt}
use Rattle.pool.proofs.PickLaws.{among_at}

-- Of two places the sample at the first is before that at the second.
pub rises_at : (at : ℕ → Sample) (n : ℕ) (l : List ℕ) → Rises at (take n l) → (i j : ℕ) → i < j → j < n → j < length l → before (at (get_or l i 0)) (at (get_or l j 0)) ≡ true
rises_at at n [] r i j h k m = absurd (not-suc-le-zero m)
rises_at at zero (x ∷ l) r i j h k m = absurd (not-suc-le-zero k)
rises_at at (suc n) (x ∷ l) r i zero h k m = absurd (not-suc-le-zero h)
rises_at at (suc n) (x ∷ l) r zero (suc j) h k m = r.0 (get_or l j 0) (among_at n j l (le_of_suc-le-suc k) (le_of_suc-le-suc m))
rises_at at (suc n) (x ∷ l) r (suc i) (suc j) h k m = rises_at at n l r.1 i j (le_of_suc-le-suc h) (le_of_suc-le-suc k) (le_of_suc-le-suc m)

-- What a rank says of two samples.
abbrev pub Told : Sample → Sample → Ordering → Type 0
Told a b Less = before a b ≡ true
Told a b Equal = a ≡ b
Told a b Greater = before b a ≡ true

pub rank_told : (a b : Sample) → Told a b (rank_of a b)
unfolding rank_by rank_of
rank_told a b = go (before a b) (before b a) refl refl
  where
    go : (p q : Bool) → before a b ≡ p → before b a ≡ q → Told a b (rank_by p q)
    go true q e d = e
    go false true e d = d
    go false false e d = ⊎_elim (λ y. both y e) (⊎_elim (λ y. y) (λ y. both y d)) (sample_order.total a b)

-- Of two samples in order, the earlier one does not rank higher beside a third.
never : {A : Type 0} (r : Sample) → before r r ≡ true → A
never r h = both h (sample_order.irreflexive r)

rank_rises : (a b r : Sample) (o p : Ordering) → before a b ≡ true → Told a r o → Told b r p → ordering_index o ≤ ordering_index p
rank_rises a b r Less p h e f = omega arith
rank_rises a b r Equal Less h e f = never r (let h2 = sample_order.transitive a b r h f in rw e at h2)
rank_rises a b r Equal Equal h e f = omega arith
rank_rises a b r Equal Greater h e f = omega arith
rank_rises a b r Greater Less h e f = never r (sample_order.transitive r a r e (sample_order.transitive a b r h f))
rank_rises a b r Greater Equal h e f = never r (sample_order.transitive r a r e (rw f at h))
rank_rises a b r Greater Greater h e f = omega arith

-- A search by halves for the place of a row: what the row's rank beside a number's says of their samples.
module _ (positions : ℕ → ℕ) (t : Table) (n : ℕ) (order : List ℕ) (r : Row) (ok : PoolOk positions t n order) (good : RowOk positions r) where
  -- The rank of the number's row beside r, as the code computes it.
  abbrev pub rank_no : ℕ → Ordering
  rank_no k = rank_rows (row_at t k) r

  used_at : (i : ℕ) → i < n → Among (get_or order i 0) (in_use n order)
  used_at i h = among_at n i order h (omega (arith, ok.few, ok.full))

  told : (i : ℕ) → i < n → Told (sample_at positions t (get_or order i 0)) (shown positions r) (rank_no (get_or order i 0))
  told i h =
      let e = rank_of_rows (row_at t (get_or order i 0)) r positions (ok.rows (get_or order i 0) (used_at i h)) good in
      rw e (rank_told (sample_at positions t (get_or order i 0)) (shown positions r))

  told_as : (i : ℕ) → i < n → (o : Ordering) → rank_no (get_or order i 0) ≡ o → Told (sample_at positions t (get_or order i 0)) (shown positions r) o
  told_as i h o e = subst (Told (sample_at positions t (get_or order i 0)) (shown positions r)) e (told i h)

  pub seek_found : (i : ℕ) → i < n → rank_no (get_or order i 0) ≡ Equal → FoundAt positions t n order r (get_or order i 0)
  seek_found i h e = record { used = used_at i h; same = told_as i h Equal e }

  -- The ranks rise.
  pub ranks_rise : IsNonDecreasingBy (λ k. ordering_index (rank_no k)) (in_use n order)
  ranks_rise i j d l h =
      let low : j < n = omega (arith, length-take n order) in
      let inside : j < length order = omega (arith, length-take n order) in
      rw (get_or-take n order i d (omega arith), get_or-take n order j d low, get_or_default order i d 0 (omega arith), get_or_default order j d 0 inside)
      (⊎_elim (λ e. let same : i ≡ j = e in rw same (omega arith))
      (λ m. rank_rises (sample_at positions t (get_or order i 0)) (sample_at positions t (get_or order j 0)) (shown positions r) (rank_no (get_or order i 0)) (rank_no (get_or order j 0))
      (rises_at (sample_at positions t) n order ok.rises i j m low inside) (told i (omega arith)) (told j low)) (eq-or-lt_of_le l))

  pub seek_gap : (g : ℕ) → IsPartitionPoint (λ k. rank_no k ≡ Less) (λ k. rank_no k ≡ Greater) (in_use n order) g → g ≤ n → GapAt positions t n order r g
  seek_gap g parts few = record {
    few = few;
    lower = λ i l. told_as i (omega arith) Less (let e = parts.0 i 0 (omega arith) l in rw (get_or-take n order i 0 (omega arith)) at e);
    higher = λ i l h. told_as i h Greater (let e = parts.1 i 0 l (omega (arith, length-take n order, ok.few, ok.full)) in rw (get_or-take n order i 0 h) at e);
  }
