-- A row read from eight numbers, and the sample that it shows once they have passed their tests.
use mathlib.Core.Path.{◌≡◌, refl, ◌∙◌}
use mathlib.Core.Bool.{true, false}
use mathlib.Core.List.{List}
use mathlib.Core.Option.{none, some}
use Prim.Native.Nat.{ℕ, ◌%◌, ◌^◌, ◌≤◌, ◌<◌}
use native.Mathlib.Nat.{mod-eq_of_lt}
use native.Mathlib.Omega.{arith}
use lib.IntN.{ℤ, pos, negsuc}
use lib.ListN.{length, get_or, drop, get_or-eq_default}
use lib.Pow.{pow_mono}
use lib.Signed.{non_neg}
use Rattle.rules.specs.Values.{blank}
use Rattle.rules.specs.Rows.{row_of, bit, natural, declared_as, position_count, values_fit, row_refusal, sample_of}
use Rattle.sample.specs.declared.declared.Declared.{Declared}
use Rattle.sample.specs.declared.row.Row.{Row}
use Rattle.sample.specs.Rows.{shown, RowOk}
use Rattle.sample.specs.Declarations.{sorts_of, declared_of, positions_of, DeclaredOk}
use Rattle.sample.specs.Tests.{ReadsRow}
use Rattle.sample.proofs.Fitting.{fit_blank}
use Rattle.sample.proofs.RowTests.{declared_below, declared_past, sorts_of-length, not_declared, passed_natural}

-- A predicate or mask number that is not below 0.
pub natural_read : (x : ℤ) → non_neg x ≡ true → (n : ℕ) × (x ≡ pos n)
natural_read (pos n) h = (n, refl)
natural_read (negsuc n) h = cc

-- The code takes the predicate number modulo 16 and the mask modulo 64: of a row that has passed its tests these are the numbers themselves.
module _ (numbers : List ℤ) (r : Row) (p m : ℕ) (is_p : get_or numbers 0 (pos 0) ≡ pos p) (is_m : get_or numbers 1 (pos 0) ≡ pos m)
    (pred : r.pred.0 ≡ p % 16) (mask : r.mask ≡ m % 64) (six : length r.v ≡ 6) (values : r.v ≡ drop 2 numbers)
    (d : Declared) (ok : DeclaredOk d) (none_refused : row_refusal (declared_of d) (row_of numbers) ≡ none) where
  is_below : p < d.count
  is_below = grind (arith, declared_past d p, not_declared numbers (declared_of d))

  declared : declared_as (get_or numbers 0 (pos 0)) (declared_of d) ≡ some (sorts_of d p)
  declared = rw is_p (declared_below d p is_below)

  same_pred : r.pred.0 ≡ p
  same_pred = pred ∙ mod-eq_of_lt (omega (arith, is_below, ok.few))

  tested : (m < 2 ^ positions_of d p) × (values_fit (sorts_of d p) m (row_of numbers).values 6 0 ≡ true)
  tested = passed_natural numbers d p declared m is_m none_refused

  same_mask : r.mask ≡ m
  same_mask = mask ∙ mod-eq_of_lt (let less : 2 ^ positions_of d p ≤ 64 = pow_mono (ok.positions p) in omega (arith, tested.0))

  blanks : (i : ℕ) → bit r.mask i ≡ false → get_or r.v i blank ≡ blank
  unfolding row_of
  blanks i h = grind (arith, same_mask, fit_blank (sorts_of d p) m (row_of numbers).values 6 0 tested.1 i, get_or-eq_default r.v blank {n = i})

  row_ok : RowOk (positions_of d) r
  row_ok =
      record {
        few = rw same_pred (ok.positions p);
        mask = rw (same_pred, same_mask) tested.0;
        six = six;
        blanks = blanks;
      }

  row_shown : shown (positions_of d) r ≡ sample_of (declared_of d) (row_of numbers)
  unfolding shown sample_of natural position_count row_of
  row_shown = rw (declared, is_p, is_m, sorts_of-length d p, same_pred, same_mask, values)

-- So the code's row is the rules' row.
pub reads_row : (numbers : List ℤ) (r : Row) (p m : ℕ) → get_or numbers 0 (pos 0) ≡ pos p → get_or numbers 1 (pos 0) ≡ pos m
    → r.pred.0 ≡ p % 16 → r.mask ≡ m % 64 → length r.v ≡ 6 → r.v ≡ drop 2 numbers → ReadsRow numbers r
reads_row numbers r p m is_p is_m pred mask six values =
    record {
      six = six;
      reads = λ d ok h. (row_ok numbers r p m is_p is_m pred mask six values d ok h, row_shown numbers r p m is_p is_m pred mask six values d ok h);
    }
