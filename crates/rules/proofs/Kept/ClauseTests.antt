-- What the tests of an add give: a clause that passed them is valid, total where it must be, and there is room for it.
use mathlib.Core.Path.{◌≡◌, refl, sym, ap}
use mathlib.Core.Bool.{Bool, true, false, not, ◌&&◌}
use mathlib.Core.List.{List, [], ◌∷◌, append-nil}
use mathlib.Core.Option.{Option, none, some}
use Prim.Native.Nat.{ℕ, zero, suc, ◌+◌, ◌≤◌, ◌<◌}
use native.Mathlib.Omega.{arith}
use native.Mathlib.Nat.{zero-add, suc-add, add-zero, add-suc}
use lib.IntN.{ℤ, pos, negsuc}
use lib.Dec.{ltb, leb}
use lib.ListN.{get_or, get_elem?, take, drop, length, length-take, length-drop, get_or-eq_default}
use borrow.Author.Tests.{lt-ltb, ltb-true, ltb-false, leb-true, leb-false}
use Rattle.rules.specs.Sizes.{max_positions, max_samples, max_constraints, row_size}
use Rattle.rules.specs.Values.{Value, Sort, integer, truth, valid_value, blank}
use Rattle.rules.specs.Samples.{Sample, valid_at, valid_positions, valid_sample, total}
use Rattle.rules.specs.Sets.{any, include_all}
use Rattle.rules.specs.Contents.{Held, Contents, samples_of, held_samples, live_count}
use Rattle.rules.specs.Numbers.{Refusal, bad_mask, bad_value, has_unknown, bad_rows, no_sample_room, no_constraint_room, is_marked, when}
use Rattle.rules.specs.Rows.{Row, row_of, parts, row_count, rows_in, rows_of, bit, position, positions_from, natural, declared_as, mask_fits, value_fits, values_fit, field_refusal, row_refusal, rows_refusal, position_count, sample_of, samples_in, rows_fit, clause_of}
use Rattle.rules.specs.Satisfying.{All}
use Rattle.rules.specs.Adding.{several, unknown_among, samples_fit, constraints_full, add_refusal}
use Rattle.rules.specs.Condition.{Mem}
use Rattle.rules.proofs.Laws.Bools.{both, and_split, and_join, not-false}
use Rattle.rules.proofs.Laws.Sets.{mem_all, any_none}
use Rattle.rules.proofs.Kept.Refusing.{some_none, when_none, or_else_none, first_of_none_lem}
use Rattle.rules.proofs.Kept.ValidAdding.{ClauseFits}

-- The sorts that a list of declarations gives a number.
pub found : (declared : List (List Sort)) (p : ℕ) (sorts : List Sort) → get_elem? declared p ≡ some sorts → (p < length declared) × (get_or declared p [] ≡ sorts)
found [] p sorts e = some_none (sym e)
found (d ∷ declared) zero sorts e = (omega arith, cc)
found (d ∷ declared) (suc p) sorts e = let later = found declared p sorts e in (omega arith, later.1)

declared_found : (declared : List (List Sort)) (p : ℤ) (sorts : List Sort) → declared_as p declared ≡ some sorts
    → (natural p < length declared) × (get_or declared (natural p) [] ≡ sorts)
unfolding declared_as natural
declared_found declared (pos p) sorts e = found declared p sorts e
declared_found declared (negsuc p) sorts e = some_none (sym e)

-- A row has six values, and past them every position is blank, which is valid for each sort.
blank_valid : (sort : Sort) → valid_value sort blank ≡ true
unfolding valid_value
blank_valid integer = refl
blank_valid truth = refl

at_valid : (sort : Sort) (is_known : Bool) (v : Value) → (is_known ≡ true → valid_value sort v ≡ true) → valid_at sort (position is_known v) ≡ true
unfolding valid_at position
at_valid sort true v f = f refl
at_valid sort false v f = refl

module _ (mask : ℕ) (values : List Value) where
  -- The test of the k positions from i on, at one of them.
  fits_at : (sorts : List Sort) (k i d : ℕ) → values_fit sorts mask values k i ≡ true → d < k
      → value_fits (get_elem? sorts (i + d)) (bit mask (i + d)) (get_or values (i + d) blank) ≡ true
  unfolding values_fit
  fits_at sorts zero i d e low = absurd (omega arith)
  fits_at sorts (suc k) i zero e low = rw add-zero (and_split _ _ e).0
  fits_at sorts (suc k) i (suc d) e low =
      let later = (and_split (value_fits (get_elem? sorts i) (bit mask i) (get_or values i blank)) (values_fit sorts mask values k (suc i)) e).1 in
      rw (add-suc, ← suc-add) (fits_at sorts k (suc i) d later (omega arith))

  values_valid : (sorts : List Sort) → length values ≤ max_positions → values_fit sorts mask values max_positions 0 ≡ true
      → (j : ℕ) (sort : Sort) → get_elem? sorts j ≡ some sort → valid_at sort (position (bit mask j) (get_or values j blank)) ≡ true
  unfolding value_fits
  values_valid sorts short e j sort at = at_valid sort (bit mask j) (get_or values j blank) (go (ltb j max_positions) refl)
    where
      go : (b : Bool) → ltb j max_positions ≡ b → bit mask j ≡ true → valid_value sort (get_or values j blank) ≡ true
      go true low is_known =
          let fits : value_fits (get_elem? sorts j) (bit mask j) (get_or values j blank) ≡ true = rw zero-add at (fits_at sorts max_positions 0 j e (ltb-true j max_positions low)) in
          rw (at, is_known) at fits
      go false high is_known = rw (get_or-eq_default values blank {n = j} (omega (arith, ltb-false j max_positions high))) (blank_valid sort)

  -- The positions from i on against the sorts from there on.
  positions_valid : (sorts : List Sort) (i : ℕ)
      → ((j : ℕ) (sort : Sort) → get_elem? sorts j ≡ some sort → valid_at sort (position (bit mask (i + j)) (get_or values (i + j) blank)) ≡ true)
      → valid_positions sorts (positions_from mask values (length sorts) i) ≡ true
  unfolding valid_positions positions_from
  positions_valid [] i f = refl
  positions_valid (sort ∷ sorts) i f =
      and_join _ _ (rw add-zero at (f 0 sort refl)) (positions_valid sorts (suc i) (λ j t e. rw (suc-add, ← add-suc) (f (suc j) t e)))

-- The tests of a row whose predicate is declared.
abbrev pub field_tests : List Sort → Row → List (Option Refusal)
field_tests sorts r = when bad_mask (not (mask_fits (length sorts) r.mask)) ∷ when bad_value (not (values_fit sorts (natural r.mask) r.values max_positions 0)) ∷ []

row_valid : (declared : List (List Sort)) (r : Row) → length r.values ≤ max_positions → row_refusal declared r ≡ none → valid_sample declared (sample_of declared r) ≡ true
unfolding row_refusal valid_sample sample_of
row_valid declared r short e = go (declared_as r.predicate declared) refl e
  where
    go : (d : Option (List Sort)) → declared_as r.predicate declared ≡ d → field_refusal d r ≡ none
        → (ltb (natural r.predicate) (length declared)
        && valid_positions (get_or declared (natural r.predicate) []) (positions_from (natural r.mask) r.values (position_count d) 0)) ≡ true
    go none at e = some_none e
    go (some sorts) at e =
        let values_pass = values_fit sorts (natural r.mask) r.values max_positions 0 in
        let tests = first_of_none_lem (field_tests sorts r) e in
        let place = declared_found declared r.predicate sorts at in
        let fits = values_valid (natural r.mask) r.values sorts short (not-false values_pass (when_none bad_value (not values_pass) tests.1.0)) in
        and_join _ _ (lt-ltb _ _ place.0)
        (rw place.1 (positions_valid (natural r.mask) r.values sorts 0 (λ j sort k. rw zero-add (fits j sort k))))

short_values : (numbers : List ℤ) → length (row_of (take row_size numbers)).values ≤ max_positions
unfolding row_of
short_values numbers = simp (length-drop, length-take) (omega arith)

rows_valid : (declared : List (List Sort)) (n : ℕ) (numbers : List ℤ) → rows_refusal declared (rows_in (parts row_size n numbers)) ≡ none
    → All (λ s. valid_sample declared s ≡ true) (samples_in declared (rows_in (parts row_size n numbers)))
unfolding rows_refusal rows_in parts samples_in
rows_valid declared zero numbers e = tt
rows_valid declared (suc n) numbers e =
    let row = row_of (take row_size numbers) in let numbers' = drop row_size numbers in
    let tests = or_else_none (row_refusal declared row) (rows_refusal declared (rows_in (parts row_size n numbers'))) e in
    (row_valid declared row (short_values numbers) tests.0, rows_valid declared n numbers' tests.1)

-- The samples of a clause are those of its rows, in their order.
pub clause_samples : (has_right : Bool) (l : List Sample) → samples_of (clause_of has_right l) ≡ l
unfolding samples_of clause_of
clause_samples false l = append-nil l
clause_samples true [] = refl
clause_samples true (s ∷ []) = refl
clause_samples true (s ∷ t ∷ l) = ap (λ (r : List Sample). s ∷ r) (clause_samples true (t ∷ l))

pub record Passes (samples : List Sample) (has_right : Bool) (c : Contents) : Type 0 where
  pub unmarked : c.marked ≡ false
  pub fits : ClauseFits c.declared c.held (clause_of has_right samples)
  pub members : (x : Sample) → Mem x (samples_of (clause_of has_right samples)) → Mem x samples
  pub room : length (include_all samples (held_samples c.held)) ≤ max_samples

-- The second of two tests that don't both pass.
second_fails : (a b : Bool) → (a && b) ≡ false → a ≡ true → b ≡ false
second_fails true b e p = e
second_fails false b e p = both p refl

totals : (l : List Sample) → unknown_among l ≡ false → several l ≡ true → All (λ s. total s ≡ true) l
unfolding unknown_among
totals l e two = mem_all (λ s. total s ≡ true) l (λ x m. not-false (total x) (any_none (λ s. not (total s)) l (second_fails (several l) (any (λ s. not (total s)) l) e two) x m))

number-free : (l : List Sample) (h : Held) → constraints_full l h ≡ false → several l ≡ true → live_count h.slots < max_constraints
unfolding constraints_full
number-free l h e two = leb-false max_constraints (live_count h.slots) (second_fails (several l) (leb max_constraints (live_count h.slots)) e two)

-- The tests of an add.
abbrev pub add_tests : List ℤ → Bool → List Sample → Contents → List (Option Refusal)
add_tests numbers has_right samples c =
    when is_marked c.marked
    ∷ when bad_rows (not (rows_fit numbers has_right))
    ∷ rows_refusal c.declared (rows_of numbers)
    ∷ when has_unknown (unknown_among samples)
    ∷ when no_sample_room (not (samples_fit samples c.held))
    ∷ when no_constraint_room (constraints_full samples c.held)
    ∷ []

pub add-passes : (numbers : List ℤ) (has_right : Bool) (c : Contents)
    → add_refusal numbers has_right (samples_in c.declared (rows_of numbers)) c ≡ none → Passes (samples_in c.declared (rows_of numbers)) has_right c
unfolding add_refusal rows_of samples_fit constraints_full
add-passes numbers has_right c e =
    let samples = samples_in c.declared (rows_of numbers) in
    let tests = first_of_none_lem (add_tests numbers has_right samples c) e in
    let same = clause_samples has_right samples in
    let fit = samples_fit samples c.held in
    record {
      unmarked = when_none is_marked c.marked tests.0;
      fits = record {
        valid = rw same (rows_valid c.declared (row_count numbers) numbers tests.1.1.0);
        total = rw same (totals samples (when_none has_unknown (unknown_among samples) tests.1.1.1.0));
        room = rw same (number-free samples c.held (when_none no_constraint_room (constraints_full samples c.held) tests.1.1.1.1.1.0));
      };
      members = rw same (λ x m. m);
      room = leb-true _ max_samples (not-false fit (when_none no_sample_room (not fit) tests.1.1.1.1.0));
    }
