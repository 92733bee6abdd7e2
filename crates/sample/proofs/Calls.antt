-- An array that `from_fn` made by a closure that computes a function of the index is that function's table.
use mathlib.Core.Path.{◌≡◌, subst, ◌∙◌}
use mathlib.Core.List.{List, map}
use mathlib.Core.Logic.{inl, inr}
use Prim.Native.Nat.{ℕ, zero, suc, ◌+◌, ◌≤◌, ◌<◌}
use native.Mathlib.Omega.{arith}
use lib.ListN.{get_or}
use denote.Param.Members.{Mut}
use Rattle.std.specs.Array.{IsFromFnResult, IsFromFnResultFrom}
use Rattle.std.specs.Fn.{Called}
use Rattle.std.specs.List.{range_with_len}
use Rattle.std.proofs.lemmas.Bool.{cases_eq}
use Rattle.std.proofs.lemmas.List.FromFn.{fill_by_all}

module _ {F B : Type 0} (g : Mut F (ℕ × Unit {0}) B) (f : F) (h : ℕ → B) (computes : (i : ℕ) (y : B) (q : F) → Called g f (i, tt) y q → (q ≡ f) × (y ≡ h i)) where
  call_at : (ys : List B) (d : B) (n i : ℕ) → IsFromFnResultFrom g f ys i n → (k : ℕ) → i ≤ k → k < i + n → get_or ys k d ≡ h k
  call_at ys d zero i r k l m = absurd (omega arith)
  call_at ys d (suc n) i (q, y, here, called, later) k l m =
      let (stays, value) = computes i y q called in
      let rest : IsFromFnResultFrom g f ys (i + 1) n = subst (λ p. IsFromFnResultFrom g p ys (i + 1) n) stays later in
      elim (cases_eq i k) [
        | inl e ↦ subst (λ j. get_or ys j d ≡ h j) e (here.1 d ∙ value)
        | inr other ↦ call_at ys d n (i + 1) rest k (omega arith) (omega arith)
      ]

  pub table_from_calls : (ys : List B) (d : B) (n : ℕ) → IsFromFnResult g f ys n → ys ≡ map h (range_with_len 0 n)
  table_from_calls ys d n r = fill_by_all h ys n d r.long (λ k l. call_at ys d n 0 r.each k (omega arith) (omega arith))
