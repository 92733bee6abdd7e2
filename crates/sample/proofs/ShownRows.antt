-- A row in order and the sample that it shows: what is shown of it again is its mask and values, so that equal samples mean equal rows.
use mathlib.Core.Path.{◌≡◌, sym, ap, ◌∙◌}
use mathlib.Core.Bool.{◌&&◌}
use mathlib.Core.List.{◌∷◌}
use Prim.Native.Nat.{ℕ, ◌/◌, ◌^◌, ◌<◌}
use native.Mathlib.Nat.{div-one}
use native.Mathlib.Omega.{arith}
use lib.Count.{ones}
use lib.Dec.{eqb, ltb}
use lib.IntN.{pos}
use lib.ListN.{length}
use Rattle.rules.specs.Samples.{single, total, known_count}
use Rattle.rules.specs.Rows.{shown_row}
use Rattle.sample.specs.declared.row.Row.{Row}
use Rattle.sample.specs.Rows.{shown, RowOk}
use Rattle.sample.proofs.Positions.{positions_length_lem, known_count_lem, mask_back, values_back}

module _ (of : ℕ → ℕ) (r : Row) (ok : RowOk of r) where
  whole_mask : r.mask / 2 ^ 0 ≡ r.mask
  whole_mask = div-one r.mask

  fits : r.mask / 2 ^ 0 < 2 ^ of r.pred.0
  fits = rw whole_mask ok.mask

  pub shown_count : ones r.mask ≡ known_count (shown of r).at
  unfolding shown
  shown_count = ap ones (sym whole_mask) ∙ known_count_lem r.mask r.v (of r.pred.0) 0 fits

  pub shown-length : length (shown of r).at ≡ of r.pred.0
  unfolding shown
  shown-length = positions_length_lem r.mask r.v (of r.pred.0) 0

  -- The count of ones decides whether the sample is single, and whether it is total.
  pub shown-single : (n : ℕ) → n ≡ of r.pred.0 → (ltb 1 n && eqb (ones r.mask) 1) ≡ single (shown of r)
  unfolding single
  shown-single n e = rw (e, shown_count, shown-length)

  pub shown-total : (n : ℕ) → n ≡ of r.pred.0 → eqb (ones r.mask) n ≡ total (shown of r)
  unfolding total
  shown-total n e = rw (e, shown_count, shown-length)

  pub row_shown : shown_row (shown of r) ≡ pos r.mask ∷ r.v
  unfolding shown_row shown
  row_shown =
      rw (
        mask_back r.mask r.v (of r.pred.0) 0 fits,
        whole_mask,
        values_back r.mask r.v ok.blanks (of r.pred.0) ok.mask 6 (of r.pred.0) 0 ok.few ok.six (omega arith),
      )

pub shown_injective : (of : ℕ → ℕ) (a b : Row) → RowOk of a → RowOk of b → shown of a ≡ shown of b → a ≡ b
unfolding shown
shown_injective of a b p q e =
    let rows : pos a.mask ∷ a.v ≡ pos b.mask ∷ b.v = sym (row_shown of a p) ∙ ap shown_row e ∙ row_shown of b q in
    let m : a.mask ≡ b.mask = cc in
    let v : a.v ≡ b.v = cc in
    λ i. record { pred = record { 0 = (e i).pred }; mask = m i; v = v i }
