-- The order of refusals: each number is given exactly when its test fails and every test before it passes.
use mathlib.Core.Path.{◌≡◌}
use mathlib.Core.Bool.{Bool, true, false}
use mathlib.Core.List.{List}
use mathlib.Core.Option.{none, some}
use Prim.Native.Nat.{ℕ}
use lib.IntN.{ℤ}
use lib.Dec.{leb, ltb}
use lib.ListN.{length}
use Rattle.rules.specs.Sizes.{max_predicates, max_positions}
use Rattle.rules.specs.Samples.{Sample}
use Rattle.rules.specs.Contents.{Contents}
use Rattle.rules.specs.Numbers.{Refusal, undeclared, bad_mask, bad_value, has_unknown, bad_rows, no_sample_room, no_constraint_room, is_marked, no_predicate_room, short_output}
use Rattle.rules.specs.Rows.{Row, declared_as, mask_fits, values_fit, natural, row_refusal, rows_refusal, rows_fit, rows_of}
use Rattle.rules.specs.Declaring.{declare_refusal, sorts_of}
use Rattle.rules.specs.Adding.{add_refusal, unknown_among, samples_fit, constraints_full}
use Rattle.rules.specs.Forcing.{force_refusal}
use Rattle.rules.specs.Showing.{show_refusal}
use Rattle.rules.specs.Values.{Sort}

-- Adding: 8; 5; for each row 1, 2, 3; then 4, 6, 7.
module _ (numbers : List ℤ) (has_right : Bool) (samples : List Sample) (c : Contents) where
  pub record AddTests : Type 0 where
    pub gives8 : c.marked ≡ true → add_refusal numbers has_right samples c ≡ some is_marked
    pub gives5 : c.marked ≡ false → rows_fit numbers has_right ≡ false → add_refusal numbers has_right samples c ≡ some bad_rows
    pub gives123 : c.marked ≡ false → rows_fit numbers has_right ≡ true → (r : Refusal) → rows_refusal c.declared (rows_of numbers) ≡ some r
        → add_refusal numbers has_right samples c ≡ some r
    pub gives4 : c.marked ≡ false → rows_fit numbers has_right ≡ true → rows_refusal c.declared (rows_of numbers) ≡ none → unknown_among samples ≡ true
        → add_refusal numbers has_right samples c ≡ some has_unknown
    pub gives6 : c.marked ≡ false → rows_fit numbers has_right ≡ true → rows_refusal c.declared (rows_of numbers) ≡ none → unknown_among samples ≡ false
        → samples_fit samples c.held ≡ false → add_refusal numbers has_right samples c ≡ some no_sample_room
    pub gives7 : c.marked ≡ false → rows_fit numbers has_right ≡ true → rows_refusal c.declared (rows_of numbers) ≡ none → unknown_among samples ≡ false
        → samples_fit samples c.held ≡ true → constraints_full samples c.held ≡ true → add_refusal numbers has_right samples c ≡ some no_constraint_room
    pub gives_none : c.marked ≡ false → rows_fit numbers has_right ≡ true → rows_refusal c.declared (rows_of numbers) ≡ none → unknown_among samples ≡ false
        → samples_fit samples c.held ≡ true → constraints_full samples c.held ≡ false → add_refusal numbers has_right samples c ≡ none

  pub add-tests : AddTests
  unfolding add_refusal
  add-tests =
      record {
        gives8 = λ m. rw m;
        gives5 = λ m f. rw (m, f);
        gives123 = λ m f r e. rw (m, f, e);
        gives4 = λ m f e u. rw (m, f, e, u);
        gives6 = λ m f e u s. rw (m, f, e, u, s);
        gives7 = λ m f e u s k. rw (m, f, e, u, s, k);
        gives_none = λ m f e u s k. rw (m, f, e, u, s, k);
      }

-- A row: 1, 2, 3.
module _ (declared : List (List Sort)) (r : Row) where
  pub record RowTests : Type 0 where
    pub gives1 : declared_as r.predicate declared ≡ none → row_refusal declared r ≡ some undeclared
    pub gives2 : (sorts : List Sort) → declared_as r.predicate declared ≡ some sorts → mask_fits (length sorts) r.mask ≡ false → row_refusal declared r ≡ some bad_mask
    pub gives3 : (sorts : List Sort) → declared_as r.predicate declared ≡ some sorts → mask_fits (length sorts) r.mask ≡ true
        → values_fit sorts (natural r.mask) r.values max_positions 0 ≡ false → row_refusal declared r ≡ some bad_value
    pub gives_none : (sorts : List Sort) → declared_as r.predicate declared ≡ some sorts → mask_fits (length sorts) r.mask ≡ true
        → values_fit sorts (natural r.mask) r.values max_positions 0 ≡ true → row_refusal declared r ≡ none

  pub row_tests : RowTests
  unfolding row_refusal
  row_tests =
      record {
        gives1 = λ d. rw d;
        gives2 = λ sorts d m. rw (d, m);
        gives3 = λ sorts d m v. rw (d, m, v);
        gives_none = λ sorts d m v. rw (d, m, v);
      }

-- Declaring: 8, 10, 2, 3.
module _ (numbers : List ℕ) (c : Contents) where
  pub record DeclareTests : Type 0 where
    pub gives8 : c.marked ≡ true → declare_refusal numbers c ≡ some is_marked
    pub gives10 : c.marked ≡ false → leb max_predicates (length c.declared) ≡ true → declare_refusal numbers c ≡ some no_predicate_room
    pub gives2 : c.marked ≡ false → leb max_predicates (length c.declared) ≡ false → ltb max_positions (length numbers) ≡ true → declare_refusal numbers c ≡ some bad_mask
    pub gives3 : c.marked ≡ false → leb max_predicates (length c.declared) ≡ false → ltb max_positions (length numbers) ≡ false → sorts_of numbers ≡ none
        → declare_refusal numbers c ≡ some bad_value
    pub gives_none : c.marked ≡ false → leb max_predicates (length c.declared) ≡ false → ltb max_positions (length numbers) ≡ false
        → (sorts : List Sort) → sorts_of numbers ≡ some sorts → declare_refusal numbers c ≡ none

  pub declare-tests : DeclareTests
  unfolding declare_refusal
  declare-tests =
      record {
        gives8 = λ m. rw m;
        gives10 = λ m p. rw (m, p);
        gives2 = λ m p l. rw (m, p, l);
        gives3 = λ m p l s. rw (m, p, l, s);
        gives_none = λ m p l sorts s. rw (m, p, l, s);
      }

-- Force: 8, 1. Showing: 1, 11.
module _ (p : ℤ) (c : Contents) where
  pub record ForceTests : Type 0 where
    pub gives8 : c.marked ≡ true → force_refusal p c ≡ some is_marked
    pub gives1 : c.marked ≡ false → declared_as p c.declared ≡ none → force_refusal p c ≡ some undeclared
    pub gives_none : c.marked ≡ false → (sorts : List Sort) → declared_as p c.declared ≡ some sorts → force_refusal p c ≡ none

  pub force-tests : ForceTests
  unfolding force_refusal
  force-tests = record { gives8 = λ m. rw m; gives1 = λ m d. rw (m, d); gives_none = λ m sorts d. rw (m, d) }

  pub record ShowTests (rows out : List ℤ) : Type 0 where
    pub gives1 : declared_as p c.declared ≡ none → show_refusal p rows out c ≡ some undeclared
    pub gives11 : (sorts : List Sort) → declared_as p c.declared ≡ some sorts → ltb (length out) (length rows) ≡ true → show_refusal p rows out c ≡ some short_output
    pub gives_none : (sorts : List Sort) → declared_as p c.declared ≡ some sorts → ltb (length out) (length rows) ≡ false → show_refusal p rows out c ≡ none

  pub show-tests : (rows out : List ℤ) → ShowTests rows out
  unfolding show_refusal
  show-tests rows out = record { gives1 = λ d. rw d; gives11 = λ sorts d l. rw (d, l); gives_none = λ sorts d l. rw (d, l) }
