-- What a turn of a part of the order leaves, a copy of two lists over its front, and the loop that parts the numbers in use.
use mathlib.Core.Path.{◌≡◌, refl, sym, ap, ◌∙◌}
use mathlib.Core.Bool.{Bool, true, false, cond, not}
use mathlib.Core.List.{List, [], ◌∷◌, ◌++◌, append_assoc, append-nil}
use Prim.Native.Nat.{ℕ, suc, ◌+◌, ◌-◌, ◌≤◌, ◌<◌}
use native.Mathlib.Numerals.{add-one}
use native.Mathlib.Omega.{arith}
use borrow.Rule.Slice.PartMut.{put_mid}
use lib.ListN.{length, get_or, take, drop, set, length-append, length-drop}
use lib.Seq.{length-take-le, take_at, drop_at, take-suc, drop-cons, drop-drop, get_or-drop, set_at}
use Rattle.std.proofs.lemmas.List.{get_or-append_right}
use Rattle.std.proofs.lemmas.List.Elements.{filter_more}
use Rattle.pool.specs.Picks.{keep_if}
use Rattle.pool.specs.Answers.{opened, closed}
use Rattle.pool.proofs.Rearranged.{keep-filter, kept_lengths}

-- The numbers from place g to place n turn by one: the last of them comes first.
module _ (n g : ℕ) (order : List ℕ) (h : g ≤ n) (l : n < length order) where
  abbrev turning : List ℕ
  turning = take (n + 1 - g) (drop g order)

  abbrev upper : List ℕ
  upper = take (n - g) (drop g order)

  length_upper : length upper ≡ n - g
  length_upper = length-take-le (n - g) (drop g order) (omega (arith, length-drop g order))

  turning_parts : turning ≡ upper ++ (get_or order n 0 ∷ [])
  turning_parts =
      let e : n + 1 - g ≡ suc (n - g) = omega arith in
      let d : g + (n - g) ≡ n = omega arith in
      rw (e, take-suc (drop g order) (n - g) 0 (omega (arith, length-drop g order)), get_or-drop g order (n - g) 0, d)

  pub opened_by_turn : {new : List ℕ} → new ≡ drop (length turning - 1) turning ++ take (length turning - 1) turning → put_mid g (n + 1 - g) order new ≡ opened n g order
  unfolding opened
  opened_by_turn e =
      let f : length turning - 1 ≡ n - g = omega (arith, ap length turning_parts, length-append upper (get_or order n 0 ∷ []), length_upper) in
      let d : g + (n + 1 - g) ≡ suc n = omega arith in
      rw (e, f, turning_parts, drop_at upper (get_or order n 0 ∷ []) (n - g) length_upper, take_at upper (get_or order n 0 ∷ []) (n - g) length_upper, drop-drop (n + 1 - g) g order, d)

-- The numbers in use that are held, and those that are not, copied over the front.
module _ (n : ℕ) (held : ℕ → Bool) (order staying leaving : List ℕ) (few : n ≤ length order) (s : staying ≡ keep_if held (take n order)) (l : leaving ≡ keep_if (λ k. not (held k)) (take n order)) where
  pub parted_lengths : length staying + length leaving ≡ n
  parted_lengths = omega (arith, ap length s, ap length l, kept_lengths held (take n order), length-take-le n order few)

  pub closed_by_copy : {kept : ℕ} → kept ≡ length staying → put_mid kept (n - kept) (staying ++ drop kept order) leaving ≡ closed n held order
  unfolding closed
  closed_by_copy {kept} e =
      let d : kept + (n - kept) ≡ n = omega (arith, parted_lengths) in
      rw (take_at staying (drop kept order) kept (sym e), drop_at staying (drop kept order) kept (sym e), drop-drop (n - kept) kept order, d, s, l)

-- One number more of a list that is sieved.
module _ (test : ℕ → Bool) (ks : List ℕ) (i : ℕ) (h : i < length ks) where
  keep_next : keep_if test (take (i + 1) ks) ≡ keep_if test (take i ks) ++ cond (test (get_or ks i 0)) (get_or ks i 0 ∷ []) []
  keep_next = simp keep-filter (filter_more test ks i 0 h)

  keep_more : test (get_or ks i 0) ≡ true → keep_if test (take (i + 1) ks) ≡ keep_if test (take i ks) ++ (get_or ks i 0 ∷ [])
  keep_more e = keep_next ∙ rw e

  keep_less : test (get_or ks i 0) ≡ false → keep_if test (take (i + 1) ks) ≡ keep_if test (take i ks)
  keep_less e = keep_next ∙ rw e (append-nil (keep_if test (take i ks)))

-- The loop that closes the order, past its first i numbers: those held stand in front, the others apart, and from place `kept` on all is as it was.
pub record Closing (held : ℕ → Bool) (order now leaving : List ℕ) (kept i : ℕ) : Type 0 where
  pub counts : kept + length leaving ≡ i
  pub front : kept ≡ length (keep_if held (take i order))
  pub stay : now ≡ keep_if held (take i order) ++ drop kept order
  pub leave : leaving ≡ keep_if (λ k. not (held k)) (take i order)

pub closing_none : (held : ℕ → Bool) (order leaving : List ℕ) → leaving ≡ [] → Closing held order order leaving 0 0
unfolding keep_if
closing_none held order leaving e = record { counts = omega (arith, ap length e); front = refl; stay = refl; leave = e }

module _ {held : ℕ → Bool} {order now leaving : List ℕ} {kept i : ℕ} (h : i < length order) (c : Closing held order now leaving kept i) where
  abbrev front_of : List ℕ
  front_of = keep_if held (take i order)

  -- The next number.
  next : get_or now i 0 ≡ get_or order i 0
  next =
      let past : kept ≤ i = omega (arith, c.counts) in
      let d : kept + (i - kept) ≡ i = omega arith in
      ap (λ (l : List ℕ). get_or l i 0) c.stay ∙ get_or-append_right front_of (drop kept order) kept i 0 (sym c.front) past ∙ get_or-drop kept order (i - kept) 0 ∙ ap (λ (j : ℕ). get_or order j 0) d

  pub closing_held : held (get_or now i 0) ≡ true → Closing held order (set now kept (get_or now i 0)) leaving (kept + 1) (i + 1)
  closing_held e =
      let x = get_or order i 0 in
      let m = keep_more held order i h (rw next at e) in
      record {
        counts = omega (arith, c.counts);
        front = rw m (omega (arith, c.front, length-append front_of (x ∷ [])));
        stay = rw (next, c.stay, drop-cons order kept 0 (omega (arith, c.counts)), set_at front_of (get_or order kept 0) (drop (suc kept) order) x kept (sym c.front), m, append_assoc, add-one);
        leave = c.leave ∙ sym (keep_less (λ k. not (held k)) order i h (rw (rw next at e)));
      }

  pub closing_gone : {more : List ℕ} → more ≡ leaving ++ (get_or now i 0 ∷ []) → held (get_or now i 0) ≡ false → Closing held order now more kept (i + 1)
  closing_gone joined e =
      let less = keep_less held order i h (rw next at e) in
      record {
        counts = omega (arith, c.counts, ap length joined, length-append leaving (get_or now i 0 ∷ []));
        front = c.front ∙ sym (ap length less);
        stay = rw less c.stay;
        leave = joined ∙ (rw (c.leave, next)) ∙ sym (keep_more (λ k. not (held k)) order i h (rw (rw next at e)));
      }

-- At the end of the loop.
module _ {held : ℕ → Bool} {order now leaving : List ℕ} {kept i n : ℕ} (few : n ≤ length order) (whole : i ≡ n) (c : Closing held order now leaving kept i) where
  pub closing_count : kept ≡ length (keep_if held (take n order))
  closing_count = rw whole at c.front

  pub closing_end : {part : List ℕ} → part ≡ leaving → put_mid kept (n - kept) now part ≡ closed n held order
  closing_end {part} e =
      let stay : now ≡ keep_if held (take n order) ++ drop kept order = rw whole at c.stay in
      let leave : leaving ≡ keep_if (λ k. not (held k)) (take n order) = rw whole at c.leave in
      rw stay (closed_by_copy n held order (keep_if held (take n order)) part few refl (e ∙ leave) closing_count)
