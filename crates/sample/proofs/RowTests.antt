-- The tests of a row: what each of them finds, and the refusal that it is by the rules.
use mathlib.Core.Path.{◌≡◌, refl, ◌∙◌}
use mathlib.Core.Bool.{Bool, true, false, not}
use mathlib.Core.List.{List, [], ◌∷◌}
use mathlib.Core.Option.{none, some}
use Prim.Native.Nat.{ℕ, ◌^◌, ◌≤◌, ◌<◌}
use native.Mathlib.Nat.{zero-add}
use native.Mathlib.Omega.{arith}
use lib.IntN.{ℤ, pos}
use lib.ListN.{length, get_or}
use Rattle.std.proofs.lemmas.Bool.Decides.{nat_tests}
use Rattle.rules.specs.Values.{Sort}
use Rattle.rules.specs.Numbers.{undeclared, bad_mask, bad_value, when, or_else, first_of}
use Rattle.rules.specs.Rows.{row_of, natural, declared_as, mask_fits, values_fit, field_refusal, row_refusal}
use Rattle.sample.specs.declared.declared.Declared.{Declared}
use Rattle.sample.specs.Declarations.{signature_of, sorts_of, declared_from, declared_of, positions_of}
use Rattle.sample.proofs.Tabled.{past_end, tabled_length, tabled_at}
use Rattle.sample.proofs.Fitting.{sorts_length}

-- The declarations: a number below the count has the positions that its signature says, any other is not declared.
module _ (d : Declared) where
  pub declared_length : length (declared_of d) ≡ d.count
  unfolding declared_of declared_from
  declared_length = tabled_length (sorts_of d) (declared_from d) (λ i. refl) (λ n i. refl) d.count 0

  pub declared_below : (p : ℕ) → p < d.count → declared_as (pos p) (declared_of d) ≡ some (sorts_of d p)
  unfolding declared_as declared_of declared_from
  declared_below p h = tabled_at (sorts_of d) (declared_from d) (λ i. refl) (λ n i. refl) d.count 0 p h ∙ (rw zero-add)

  pub declared_past : (p : ℕ) → d.count ≤ p → declared_as (pos p) (declared_of d) ≡ none
  unfolding declared_as
  declared_past p h = past_end (declared_of d) p (rw declared_length h)

pub sorts_of-length : (d : Declared) (p : ℕ) → length (sorts_of d p) ≡ positions_of d p
unfolding sorts_of positions_of
sorts_of-length d p = sorts_length (signature_of d p).truths (signature_of d p).positions 0

-- The refusal of a row, by what its three tests find.
module _ (numbers : List ℤ) where
  pub not_declared : (declared : List (List Sort)) → declared_as (get_or numbers 0 (pos 0)) declared ≡ none → some undeclared ≡ row_refusal declared (row_of numbers)
  unfolding row_refusal field_refusal row_of
  not_declared declared h = rw h

  module _ (d : Declared) (q : ℕ) (declared : declared_as (get_or numbers 0 (pos 0)) (declared_of d) ≡ some (sorts_of d q)) where
    pub refused_mask : mask_fits (positions_of d q) (get_or numbers 1 (pos 0)) ≡ false → some bad_mask ≡ row_refusal (declared_of d) (row_of numbers)
    unfolding row_refusal field_refusal row_of first_of when or_else
    refused_mask h = rw (declared, sorts_of-length d q, h)

    -- `fit` is what the code finds of the values.
    pub refused_values : (m : ℕ) (fit : Bool) → get_or numbers 1 (pos 0) ≡ pos m → m < 2 ^ positions_of d q
        → fit ≡ values_fit (sorts_of d q) m (row_of numbers).values 6 0 → when bad_value (not fit) ≡ row_refusal (declared_of d) (row_of numbers)
    unfolding row_refusal field_refusal row_of mask_fits natural first_of when or_else
    refused_values m fit is_m below h = rw (declared, sorts_of-length d q, is_m) (grind (arith, nat_tests))

    -- Whatever number the mask is.
    pub passed : row_refusal (declared_of d) (row_of numbers) ≡ none
        → (mask_fits (positions_of d q) (get_or numbers 1 (pos 0)) ≡ true)
        × (values_fit (sorts_of d q) (natural (get_or numbers 1 (pos 0))) (row_of numbers).values 6 0 ≡ true)
    unfolding row_refusal field_refusal row_of first_of when or_else
    passed h =
        told
        (mask_fits (positions_of d q) (get_or numbers 1 (pos 0)))
        (values_fit (sorts_of d q) (natural (get_or numbers 1 (pos 0))) (row_of numbers).values 6 0)
        (rw (declared, sorts_of-length d q) at h)
      where
        told : (a b : Bool) → first_of (when bad_mask (not a) ∷ when bad_value (not b) ∷ []) ≡ none → (a ≡ true) × (b ≡ true)
        told true true e = (refl, refl)
        told true false e = grind arith
        told false b e = grind arith

    pub passed_natural : (m : ℕ) → get_or numbers 1 (pos 0) ≡ pos m → row_refusal (declared_of d) (row_of numbers) ≡ none
        → (m < 2 ^ positions_of d q) × (values_fit (sorts_of d q) m (row_of numbers).values 6 0 ≡ true)
    unfolding mask_fits natural
    passed_natural m is_m h = let t = rw is_m at (passed h) in (grind (arith, nat_tests), t.1)
