-- A set by its four words: from what holds of each word to what holds of the set.
use mathlib.Core.Path.{◌≡◌, refl, ap, sym, ◌∙◌}
use mathlib.Core.Bool.{Bool, true, false, cond, ◌||◌}
use mathlib.Core.Logic.{inl, inr}
use Prim.Native.Nat.{ℕ, zero, suc, ◌+◌, ◌*◌, ◌/◌, ◌%◌, ◌^◌, ◌≤◌, ◌<◌}
use native.Mathlib.Omega.{arith}
use lib.Dec.{eqb, ltb}
use lib.ListN.{length, get_or, take, set}
use lib.Bits.{bit_or, or_lt}
use Rattle.std.proofs.lemmas.List.{get_or-take, get_or_past, length-take, get_or-set_same, get_or-set_other}
use borrow.Author.Tests.{eqb-true, eqb-false, eq-eqb, ne_eqb, ltb-true, ltb-false}
use Rattle.rules.specs.Rows.{bit}
use Rattle.rules.proofs.Laws.Bools.{same_truth, both, or_split, or_neither}
use Rattle.words.specs.Sets.{word_at, in_set, count_of, Bits, Holds, Emptiness}
use Rattle.words.specs.declared.set.Set.{Set}
use Rattle.words.proofs.Bits.{bit_or_by_bit, bit_of_zero, some_bit}
use Rattle.words.proofs.Counting.{count_le, count_same, count_parts}

-- A fact of each of the four words.
pub by_word : (P : ℕ → Type 0) → P 0 → P 1 → P 2 → P 3 → (j : ℕ) → j < 4 → P j
by_word P a b c d zero h = a
by_word P a b c d (suc zero) h = b
by_word P a b c d (suc (suc zero)) h = c
by_word P a b c d (suc (suc (suc zero))) h = d
by_word P a b c d (suc (suc (suc (suc j)))) h = absurd (omega arith)

-- The number of a word and a bit.
pub in_word : (s : Set) (j i : ℕ) → i < 64 → in_set s (64 * j + i) ≡ bit (word_at s j) i
unfolding in_set
in_word s j i h = let e : (64 * j + i) / 64 ≡ j = omega arith in let f : (64 * j + i) % 64 ≡ i = omega arith in rw (e, f)

-- Within the four words, what an index reads.
pub word_read : (s : Set) (j : ℕ) → j < 4 → get_or s.words j 0 ≡ word_at s j
unfolding word_at
word_read s j h = rw (get_or-take 4 s.words j 0 h)

-- An operation that f does on each bit of each word does f on each number.
pub each_word : (f : Bool → Bool → Bool) (r s t : Set)
    → ((j : ℕ) → j < 4 → Bits (get_or r.words j 0) (λ i. f (bit (get_or s.words j 0) i) (bit (get_or t.words j 0) i)))
    → Holds r (λ k. f (in_set s k) (in_set t k))
unfolding in_set
each_word f r s t h k l =
    let j : k / 64 < 4 = omega arith in
    rw (← word_read r (k / 64) j, ← word_read s (k / 64) j, ← word_read t (k / 64) j) (h (k / 64) j (k % 64) (omega arith))

-- The set with x for its word j.
abbrev pub Put : Set → Set → ℕ → ℕ → Type 0
Put r s j x = (i : ℕ) → i < 4 → word_at r i ≡ cond (eqb i j) x (word_at s i)

pub put_word : (r s : Set) (j x : ℕ) → j < length s.words → r.words ≡ set s.words j x → Put r s j x
put_word r s j x room written i h = go (eqb i j) refl
  where
    here : word_at r i ≡ get_or (set s.words j x) i 0
    here = sym (word_read r i h) ∙ ap (λ l. get_or l i 0) written

    go : (b : Bool) → eqb i j ≡ b → word_at r i ≡ cond b x (word_at s i)
    go true e = let same : i ≡ j = eqb-true i j e in here ∙ rw (same, get_or-set_same s.words j x 0 room)
    go false e = here ∙ (get_or-set_other s.words j i x 0 (eqb-false i j e) ∙ word_read s i h)

-- A word changed by f at one bit, and put back, changes the set by f at one number.
pub one_bit_put : (f : Bool → Bool → Bool) (r s : Set) (k w x : ℕ) → ((b : Bool) → f false b ≡ b) → w ≡ word_at s (k / 64)
    → Bits x (λ i. f (eqb i (k % 64)) (bit w i)) → Put r s (k / 64) x → Holds r (λ n. f (eqb n k) (in_set s n))
unfolding in_set
one_bit_put f r s k w x keep old changed put n l = go (eqb (n / 64) (k / 64)) refl
  where
    here : word_at r (n / 64) ≡ cond (eqb (n / 64) (k / 64)) x (word_at s (n / 64))
    here = put (n / 64) (omega arith)

    go : (b : Bool) → eqb (n / 64) (k / 64) ≡ b → bit (word_at r (n / 64)) (n % 64) ≡ f (eqb n k) (bit (word_at s (n / 64)) (n % 64))
    go true e =
        let same : n / 64 ≡ k / 64 = eqb-true (n / 64) (k / 64) e in
        let new : word_at r (n / 64) ≡ x = rw e at here in
        let word : w ≡ word_at s (n / 64) = old ∙ ap (word_at s) (sym same) in
        let number : eqb n k ≡ eqb (n % 64) (k % 64) =
        same_truth (eqb n k) (eqb (n % 64) (k % 64)) (λ h. eq-eqb (n % 64) (k % 64) (omega (arith, eqb-true n k h)))
        (λ h. eq-eqb n k (omega (arith, eqb-true (n % 64) (k % 64) h))) in
        cc (changed (n % 64) (omega arith))
    go false e =
        let other : n / 64 ≡ k / 64 → ⊥ = eqb-false (n / 64) (k / 64) e in
        let kept : word_at r (n / 64) ≡ word_at s (n / 64) = rw e at here in
        let number : eqb n k ≡ false = ne_eqb n k (λ h. other (ap (λ (m : ℕ). m / 64) h)) in
        rw (kept, number) (sym (keep (bit (word_at s (n / 64)) (n % 64))))

-- One word that has bit k % 64 alone, among words that are 0: the set of k alone.
pub one_bit_alone : (r : Set) (k x : ℕ) → Bits x (λ i. eqb i (k % 64))
    → ((j : ℕ) → j < 4 → get_or r.words j 0 ≡ cond (eqb j (k / 64)) x 0) → Holds r (λ n. eqb n k)
unfolding in_set
one_bit_alone r k x alone words n l = go (eqb (n / 64) (k / 64)) refl
  where
    here : word_at r (n / 64) ≡ cond (eqb (n / 64) (k / 64)) x 0
    here = sym (word_read r (n / 64) (omega arith)) ∙ words (n / 64) (omega arith)

    go : (b : Bool) → eqb (n / 64) (k / 64) ≡ b → bit (word_at r (n / 64)) (n % 64) ≡ eqb n k
    go true e =
        let same : n / 64 ≡ k / 64 = eqb-true (n / 64) (k / 64) e in
        let word : word_at r (n / 64) ≡ x = rw e at here in
        let number : eqb n k ≡ eqb (n % 64) (k % 64) =
        same_truth (eqb n k) (eqb (n % 64) (k % 64)) (λ h. eq-eqb (n % 64) (k % 64) (omega (arith, eqb-true n k h)))
        (λ h. eq-eqb n k (omega (arith, eqb-true (n % 64) (k % 64) h))) in
        rw (word, number) (alone (n % 64) (omega arith))
    go false e =
        let other : n / 64 ≡ k / 64 → ⊥ = eqb-false (n / 64) (k / 64) e in
        let word : word_at r (n / 64) ≡ 0 = rw e at here in
        let number : eqb n k ≡ false = ne_eqb n k (λ h. other (ap (λ (m : ℕ). m / 64) h)) in
        rw (word, number) (bit_of_zero (n % 64))

-- Past the four words there is nothing.
pub word_past : (s : Set) (j : ℕ) → 4 ≤ j → word_at s j ≡ 0
unfolding word_at
word_past s j h = get_or_past (take 4 s.words) j 0 (omega (arith, length-take 4 s.words))

pub past : (s : Set) (k : ℕ) → 256 ≤ k → in_set s k ≡ false
unfolding in_set
past s k h = rw (word_past s (k / 64) (omega arith), bit_of_zero (k % 64))

-- Sets that agree below 256 agree everywhere.
pub everywhere : (s t : Set) → Holds s (in_set t) → (k : ℕ) → in_set s k ≡ in_set t k
everywhere s t h k = go (ltb k 256) refl
  where
    go : (b : Bool) → ltb k 256 ≡ b → in_set s k ≡ in_set t k
    go true e = h k (ltb-true k 256 e)
    go false e = let l : 256 ≤ k = ltb-false k 256 e in past s k l ∙ sym (past t k l)

-- Empty: each word is 0.
pub no_word : (s : Set) → ((j : ℕ) → j < 4 → word_at s j ≡ 0) → Holds s (λ k. false)
unfolding in_set
no_word s h k l = rw (h (k / 64) (omega arith), bit_of_zero (k % 64))

-- A word that is not 0 has a member.
pub member : (s : Set) (j : ℕ) → j < 4 → word_at s j < 2 ^ 64 → (word_at s j ≡ 0 → ⊥) → (k : ℕ) × (k < 256) × (in_set s k ≡ true)
member s j h fits n =
    let i = some_bit 64 (word_at s j) fits n in (64 * j + i.0, omega (arith, i.1), in_word s j i.0 i.1 ∙ i.2)

-- The members below a word's end: those before the word, and its bits.
pub count_word : (s : Set) (j : ℕ) → count_of (in_set s) (64 * j + 64) ≡ count_of (in_set s) (64 * j) + count_of (bit (word_at s j)) 64
count_word s j =
    count_parts (in_set s) (64 * j) 64
    ∙ ap (λ (n : ℕ). count_of (in_set s) (64 * j) + n) (count_same (λ i. in_set s (64 * j + i)) (bit (word_at s j)) 64 (in_word s j))

-- The members are counted a word at a time.
pub count_none : (s : Set) → count_of (in_set s) (64 * 0) ≡ 0
count_none s = omega (arith, count_le (in_set s) 0)

pub count_more : (s : Set) (j : ℕ) → j < 4 → count_of (in_set s) (64 * j) + count_of (bit (get_or s.words j 0)) 64 ≡ count_of (in_set s) (64 * (j + 1))
count_more s j h =
    let e : 64 * (j + 1) ≡ 64 * j + 64 = omega arith in
    rw (word_read s j h, e) (sym (count_word s j))

-- All the words' bits, in one word: none, or one that is a member.
pub emptiness : (s : Set)
    → get_or s.words 0 0 < 2 ^ 64 → get_or s.words 1 0 < 2 ^ 64 → get_or s.words 2 0 < 2 ^ 64 → get_or s.words 3 0 < 2 ^ 64
    → Emptiness s (eqb (bit_or (bit_or (bit_or (get_or s.words 0 0) (get_or s.words 1 0)) (get_or s.words 2 0)) (get_or s.words 3 0)) 0)
unfolding in_set
emptiness s first second third last = go (eqb all 0) refl
  where
    word : ℕ → ℕ
    word j = get_or s.words j 0

    all : ℕ
    all = bit_or (bit_or (bit_or (word 0) (word 1)) (word 2)) (word 3)

    fits : all < 2 ^ 64
    fits = or_lt 64 _ _ (or_lt 64 _ _ (or_lt 64 _ _ first second) third) last

    bits : (i : ℕ) → bit all i ≡ (((bit (word 0) i || bit (word 1) i) || bit (word 2) i) || bit (word 3) i)
    bits i =
        rw (bit_or_by_bit i (bit_or (bit_or (word 0) (word 1)) (word 2)) (word 3), bit_or_by_bit i (bit_or (word 0) (word 1)) (word 2), bit_or_by_bit i (word 0) (word 1))

    member : (i j : ℕ) → i < 64 → j < 4 → bit (word j) i ≡ true → (k : ℕ) × (k < 256) × (in_set s k ≡ true)
    member i j h l e = (64 * j + i, omega arith, in_word s j i h ∙ (ap (λ w. bit w i) (sym (word_read s j l)) ∙ e))

    none_in : all ≡ 0 → (i j : ℕ) → j < 4 → bit (word j) i ≡ false
    none_in z i =
        let last = or_neither ((bit (word 0) i || bit (word 1) i) || bit (word 2) i) (bit (word 3) i) (sym (bits i) ∙ (ap (λ w. bit w i) z ∙ bit_of_zero i)) in
        let third = or_neither (bit (word 0) i || bit (word 1) i) (bit (word 2) i) last.0 in
        let first = or_neither (bit (word 0) i) (bit (word 1) i) third.0 in
        by_word (λ j. bit (word j) i ≡ false) first.0 first.1 third.1 last.1

    found : (i : ℕ) → i < 64 → (((bit (word 0) i || bit (word 1) i) || bit (word 2) i) || bit (word 3) i) ≡ true → (k : ℕ) × (k < 256) × (in_set s k ≡ true)
    found i h t =
        elim (or_split ((bit (word 0) i || bit (word 1) i) || bit (word 2) i) (bit (word 3) i) t) [
          | inl t ↦ elim (or_split (bit (word 0) i || bit (word 1) i) (bit (word 2) i) t) [
            | inl t ↦ elim (or_split (bit (word 0) i) (bit (word 1) i) t) [ inl t ↦ member i 0 h (omega arith) t | inr t ↦ member i 1 h (omega arith) t ]
            | inr t ↦ member i 2 h (omega arith) t
          ]
          | inr t ↦ member i 3 h (omega arith) t
        ]

    go : (told : Bool) → eqb all 0 ≡ told → Emptiness s told
    go true e = record {
      none = λ r k l. rw (← word_read s (k / 64) (omega arith)) (none_in (eqb-true all 0 e) (k % 64) (k / 64) (omega arith));
      some = λ r. both refl r;
    }
    go false e = record {
      none = λ r. both r refl;
      some = λ r. let i = some_bit 64 all fits (eqb-false all 0 e) in found i.0 i.1 (sym (bits i.0) ∙ i.2);
    }
