-- Lists that are made entry by entry from a number on.
use mathlib.Core.Path.{◌≡◌, refl, ap}
use mathlib.Core.List.{List, [], ◌∷◌}
use mathlib.Core.Option.{none, some}
use Prim.Native.Nat.{ℕ, zero, suc, ◌+◌, ◌≤◌, ◌<◌}
use native.Mathlib.Nat.{add-zero}
use native.Mathlib.Omega.{arith}
use lib.ListN.{length, get_elem?}

-- Nothing stands past the end of a list.
pub past_end : {A : Type 0} (l : List A) (k : ℕ) → length l ≤ k → get_elem? l k ≡ none
past_end [] k h = refl
past_end (x ∷ l) zero h = absurd (omega arith)
past_end (x ∷ l) (suc k) h = past_end l k (omega arith)

-- `list n i` has n entries, `entry i` and those after it.
module _ {A : Type 0} (entry : ℕ → A) (list : ℕ → ℕ → List A) (empty : (i : ℕ) → list 0 i ≡ [])
    (more : (n i : ℕ) → list (suc n) i ≡ (entry i ∷ list n (suc i))) where
  pub tabled_length : (n i : ℕ) → length (list n i) ≡ n
  tabled_length zero i = rw (empty i)
  tabled_length (suc n) i = rw (more n i) (ap suc (tabled_length n (suc i)))

  pub tabled_at : (n i k : ℕ) → k < n → get_elem? (list n i) k ≡ some (entry (i + k))
  tabled_at zero i k h = absurd (omega arith)
  tabled_at (suc n) i zero h = rw (more n i, add-zero i)
  tabled_at (suc n) i (suc k) h = let e : suc i + k ≡ i + suc k = omega arith in rw (more n i, ← e) (tabled_at n (suc i) k (omega arith))
