-- What the test of a row answers, by the rules; and a row as eight numbers.
use Rattle.std.specs.Prelude.{◌≡◌, List, ◌∷◌, ◌++◌, ℕ, ◌+◌, ℤ, pos, length, take, drop, Result, Ok, Err}
use Rattle.std.proofs.Math.Option.{Option, none, some}
use Rattle.rules.specs.Sizes.{shown_size}
use Rattle.rules.specs.Numbers.{Refusal, undeclared, bad_mask, bad_value}
use Rattle.rules.specs.Rows.{row_of, row_refusal, sample_of}
use Rattle.sample.specs.declared.row.Row.{Row}
use Rattle.sample.specs.declared.lent.RowError.{RowError}
use Rattle.sample.specs.declared.lent.RowError.TheVariants.{Undeclared, BadMask, BadValue}
use Rattle.sample.specs.declared.declared.Declared.{Declared}
use Rattle.sample.specs.Rows.{shown, RowOk}
use Rattle.sample.specs.Declarations.{declared_of, positions_of, DeclaredOk}

unfoldable pub refusal_of : Result (Unit {0}) RowError → Option Refusal
refusal_of (Ok done) = none
refusal_of (Err Undeclared) = some undeclared
refusal_of (Err BadMask) = some bad_mask
refusal_of (Err BadValue) = some bad_value

-- A row that passed its tests is read as the rules read it.
pub record ReadsRow (numbers : List ℤ) (r : Row) : Type 0 where
  pub six : length r.v ≡ 6
  pub reads : (d : Declared) → DeclaredOk d → row_refusal (declared_of d) (row_of numbers) ≡ none
      → RowOk (positions_of d) r × (shown (positions_of d) r ≡ sample_of (declared_of d) (row_of numbers))

-- The seven numbers of a shown row, written at `at`.
unfoldable pub written_at : Row → ℕ → List ℤ → List ℤ
written_at r at out = take at out ++ ((pos r.mask ∷ r.v) ++ drop (at + shown_size) out)
