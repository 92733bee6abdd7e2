-- The sample that a row of the code shows, and when a row is in order.
use Rattle.std.specs.Prelude.{◌≡◌, false, ℕ, ◌^◌, ◌≤◌, ◌<◌, length, get_or}
use Rattle.rules.specs.Values.{blank}
use Rattle.rules.specs.Samples.{Sample}
use Rattle.rules.specs.Rows.{bit, positions_from}
use Rattle.sample.specs.declared.row.Row.{Row}

-- `positions` says how many positions each predicate has.
unfoldable pub shown : (ℕ → ℕ) → Row → Sample
shown positions r = record { pred = r.pred.0; at = positions_from r.mask r.v (positions r.pred.0) 0 }

-- At most six positions, no mask bit past them, and 0 at each unknown or unused position.
pub record RowOk (positions : ℕ → ℕ) (r : Row) : Type 0 where
  pub few : positions r.pred.0 ≤ 6
  pub mask : r.mask < 2 ^ positions r.pred.0
  pub six : length r.v ≡ 6
  pub blanks : (i : ℕ) → bit r.mask i ≡ false → get_or r.v i blank ≡ blank
