-- The positions of a row one by one: the next one, those past the mask, how many there are, how many are known, and the mask and values that they give back.
use mathlib.Core.Path.{◌≡◌, refl, sym, ap, ◌∙◌}
use mathlib.Core.Bool.{Bool, true, false, cond}
use mathlib.Core.List.{List, [], ◌∷◌, map}
use mathlib.Core.Option.{none}
use Prim.Native.Nat.{ℕ, zero, suc, ◌+◌, ◌-◌, ◌/◌, ◌%◌, ◌^◌, ◌≤◌, ◌<◌}
use native.Mathlib.Nat.{div-eq_of_lt, lt_of_lt_of_le, mod-lt, zero-lt-suc, div-add-mod'}
use native.Mathlib.Numerals.{add-one}
use native.Mathlib.Omega.{arith}
use lib.Dec.{eqb}
use lib.Pow.{pow_mono, shr_lt, shr-shr}
use lib.Count.{ones, ones_step}
use lib.ListN.{length, get_or, drop, drop_of_length-le}
use lib.Seq.{drop-cons}
use borrow.Author.Tests.{eqb-true, eqb-false}
use Rattle.std.specs.Bool.{then_some}
use Rattle.std.specs.List.{range_with_len}
use Rattle.rules.specs.Values.{Value, blank}
use Rattle.rules.specs.Samples.{Position, known_count}
use Rattle.rules.specs.Rows.{bit, position, positions_from, mask_of, value_of, values_of}
use Rattle.sample.specs.Options.{to_code}

-- Position i of a row with this mask and these values.
abbrev pub position_at : ℕ → List Value → ℕ → Position
position_at mask values i = position (bit mask i) (get_or values i blank)

-- Past the last position there is none.
pub no_position : (mask : ℕ) (values : List Value) (n i : ℕ) → n ≤ i → positions_from mask values (n - i) i ≡ []
unfolding positions_from
no_position mask values n i h = let e : n - i ≡ 0 = omega arith in rw e

-- A mask of n positions has no bit past them.
pub bit_past : (mask n i : ℕ) → mask < 2 ^ n → n ≤ i → bit mask i ≡ false
unfolding bit
bit_past mask n i h k = let e : mask / 2 ^ i ≡ 0 = div-eq_of_lt (lt_of_lt_of_le h (pow_mono k)) in rw e

pub position_past : (mask : ℕ) (values : List Value) (n i : ℕ) → mask < 2 ^ n → n ≤ i → position_at mask values i ≡ none
unfolding position
position_past mask values n i h k = rw (bit_past mask n i h k)

pub positions_length_lem : (mask : ℕ) (values : List Value) (n i : ℕ) → length (positions_from mask values n i) ≡ n
unfolding positions_from
positions_length_lem mask values zero i = refl
positions_length_lem mask values (suc n) i = ap suc (positions_length_lem mask values n (suc i))

-- The digits of a mask from i on: the lowest says whether position i is known, the others are those from i + 1 on.
abbrev pub digit : Bool → ℕ
digit b = cond b 1 0

digit_at : (mask i : ℕ) → mask / 2 ^ i % 2 ≡ digit (bit mask i)
unfolding bit
digit_at mask i = go (eqb (mask / 2 ^ i % 2) 1) refl
  where
    go : (b : Bool) → eqb (mask / 2 ^ i % 2) 1 ≡ b → mask / 2 ^ i % 2 ≡ digit b
    go true e = eqb-true (mask / 2 ^ i % 2) 1 e
    go false e = let other = eqb-false (mask / 2 ^ i % 2) 1 e in omega (arith, mod-lt (mask / 2 ^ i) (zero-lt-suc 1))

rest_of_mask : (mask i : ℕ) → mask / 2 ^ i / 2 ≡ mask / 2 ^ suc i
rest_of_mask mask i = shr-shr mask i 1 ∙ (rw add-one)

fewer : (mask n i : ℕ) → mask / 2 ^ i < 2 ^ suc n → mask / 2 ^ suc i < 2 ^ n
fewer mask n i h = let g : mask / 2 ^ i / 2 ^ 1 < 2 ^ n = shr_lt n 1 (rw add-one h) in rw (← rest_of_mask mask i) g

-- As many known positions as the mask has ones.
pub known_count_lem : (mask : ℕ) (values : List Value) (n i : ℕ) → mask / 2 ^ i < 2 ^ n → ones (mask / 2 ^ i) ≡ known_count (positions_from mask values n i)
unfolding positions_from known_count ones
known_count_lem mask values zero i h = let e : mask / 2 ^ i ≡ 0 = omega arith in rw e
known_count_lem mask values (suc n) i h =
    ones_step (mask / 2 ^ i) ∙ (rw (rest_of_mask mask i, known_count_lem mask values n (suc i) (fewer mask n i h)) (go (bit mask i) (digit_at mask i)))
  where
    go : (b : Bool) → mask / 2 ^ i % 2 ≡ digit b →
        mask / 2 ^ i % 2 + known_count (positions_from mask values n (suc i)) ≡ known_count (position b (get_or values i blank) ∷ positions_from mask values n (suc i))
    go true e = omega arith
    go false e = omega arith

-- The mask and the values that the positions give back.
pub mask_back : (mask : ℕ) (values : List Value) (n i : ℕ) → mask / 2 ^ i < 2 ^ n → mask_of (positions_from mask values n i) ≡ mask / 2 ^ i
unfolding positions_from mask_of
mask_back mask values zero i h = omega arith
mask_back mask values (suc n) i h = go (bit mask i) (digit_at mask i) (mask_back mask values n (suc i) (fewer mask n i h) ∙ sym (rest_of_mask mask i))
  where
    go : (b : Bool) → mask / 2 ^ i % 2 ≡ digit b → mask_of (positions_from mask values n (suc i)) ≡ mask / 2 ^ i / 2
        → mask_of (position b (get_or values i blank) ∷ positions_from mask values n (suc i)) ≡ mask / 2 ^ i
    go true e rest = omega (arith, div-add-mod' (mask / 2 ^ i) 2)
    go false e rest = omega (arith, div-add-mod' (mask / 2 ^ i) 2)

module _ (mask : ℕ) (values : List Value) (blanks : (i : ℕ) → bit mask i ≡ false → get_or values i blank ≡ blank) where
  value_back : (i : ℕ) → value_of (position_at mask values i) ≡ get_or values i blank
  unfolding value_of position
  value_back i = go (bit mask i) refl
    where
      go : (b : Bool) → bit mask i ≡ b → value_of (position b (get_or values i blank)) ≡ get_or values i blank
      go true e = refl
      go false e = sym (blanks i e)

  -- n positions among k values, from i on; the mask has no bit past them.
  pub values_back : (last : ℕ) → mask < 2 ^ last → (k n i : ℕ) → n ≤ k → length values ≡ i + k → last ≤ i + n → values_of k (positions_from mask values n i) ≡ drop i values
  unfolding positions_from values_of
  values_back last m zero n i h l p = sym (drop_of_length-le values {i = i} (omega arith))
  values_back last m (suc k) zero i h l p =
      let some_left : i < length values = omega arith in
      rw (drop-cons values i blank, blanks i (bit_past mask last i m (omega arith)), ← values_back last m k zero (suc i) (omega arith) (omega arith) (omega arith))
  values_back last m (suc k) (suc n) i h l p =
      let some_left : i < length values = omega arith in
      rw (drop-cons values i blank, value_back i, values_back last m k n (suc i) (omega arith) (omega arith) (omega arith))

-- The positions as a table of the position at each index.
pub tabled_positions : (mask : ℕ) (values : List Value) (n i : ℕ) → map (λ k. to_code (position_at mask values k)) (range_with_len i n) ≡ map to_code (positions_from mask values n i)
unfolding positions_from
tabled_positions mask values zero i = refl
tabled_positions mask values (suc n) i = rw add-one (ap (λ l. to_code (position_at mask values i) ∷ l) (tabled_positions mask values n (suc i)))

-- The code's way to a position.
pub then_some-position : (known : Bool) (v : Value) → then_some known v ≡ to_code (position known v)
unfolding position
then_some-position true v = refl
then_some-position false v = refl
