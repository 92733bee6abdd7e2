-- No live constraint is needless beside another: the tests after a draw, a force or an add restore that.
use mathlib.Core.Path.{◌≡◌, refl, sym, ap, ◌∙◌}
use mathlib.Core.Bool.{Bool, true, false, not, ◌&&◌}
use mathlib.Core.List.{List, [], ◌∷◌}
use mathlib.Core.Option.{Option, none, some}
use mathlib.Core.Logic.{◌⊎◌, inl, inr, ⊎_elim, ⊎_map}
use Prim.Native.Nat.{ℕ, zero, suc, ◌+◌}
use native.Mathlib.Omega.{arith}
use lib.Dec.{eqb}
use lib.ListN.{set}
use borrow.Author.Tests.{eqb-true}
use Rattle.rules.specs.Samples.{Sample}
use Rattle.rules.specs.Contents.{Sign, Sides, Constraint, Slot, free, modified_slot, Held}
use Rattle.rules.specs.Redundancy.{needless, strictly_inside, needless_slot, drop_others, inside_slot, any_inside, test_as, lives_at, test, tests}
use Rattle.rules.specs.Settling.{Fate, untouched, dropped, waits, contradicts, stays, slot_fate, Swept, broken, swept, onto, noting, turn, sweep, tested}
use Rattle.rules.specs.Condition.{Irredundant}
use Rattle.rules.proofs.Laws.Bools.{both, by_test, or_neither, not-false}
use Rattle.rules.proofs.Kept.Freeing.{Freed, set_freed, test_freed}
use Rattle.rules.proofs.Kept.AfterFreeing.{not_some, freed_lives}

-- A number among those that are yet to be tested.
abbrev pub Among : ℕ → List ℕ → Type 0
Among m [] = ⊥
Among m (n ∷ ns) = (m ≡ n) ⊎ Among m ns

-- Where a live constraint is needless beside another, one of the two is yet to be tested.
abbrev pub Clean : List ℕ → List Slot → Type 0
Clean ns slots = (m k : ℕ) (c d : Constraint) → lives_at m slots ≡ some c → lives_at k slots ≡ some d → needless c d ≡ true → (m ≡ k) ⊎ (Among m ns ⊎ Among k ns)

pub clean_irredundant : (slots : List Slot) → Clean [] slots → Irredundant slots
clean_irredundant slots h m k c d p q w = ⊎_elim (λ e. e) (λ n. absurd (⊎_elim (λ x. x) (λ x. x) n)) (h m k c d p q w)

-- Where each live constraint is yet to be tested or lived there before.
changed_clean : (ns : List ℕ) (before after : List Slot) → Irredundant before
    → ((m : ℕ) (c : Constraint) → lives_at m after ≡ some c → Among m ns ⊎ (lives_at m before ≡ some c)) → Clean ns after
changed_clean ns before after i f m k c d p q w = go (f m c p) (f k d q)
  where
    go : Among m ns ⊎ (lives_at m before ≡ some c) → Among k ns ⊎ (lives_at k before ≡ some d) → (m ≡ k) ⊎ (Among m ns ⊎ Among k ns)
    go (inl a) b = inr (inl a)
    go (inr a) (inl b) = inr (inr b)
    go (inr a) (inr b) = inl (i m k c d a b w)

-- What lives at number j after C, number n, was tested: C itself or what is not needless beside C; and while C lives, nothing strictly inside it.
pub record AfterTest (n : ℕ) (c : Constraint) (after : List Slot) : Type 0 where
  pub others : (j : ℕ) (d : Constraint) → lives_at j after ≡ some d → (j ≡ n) ⊎ (needless c d ≡ false)
  pub inner : (e : Constraint) → lives_at n after ≡ some e → (j : ℕ) (d : Constraint) → lives_at j after ≡ some d → strictly_inside d c ≡ false

and_false : (a b : Bool) → (a && b) ≡ false → (a ≡ false) ⊎ (b ≡ false)
and_false true b h = inr h
and_false false b h = inl refl

drop_others_others : (c d : Constraint) (n i : ℕ) (slots : List Slot) (j : ℕ) → lives_at j (drop_others c n i slots) ≡ some d → (i + j ≡ n) ⊎ (needless c d ≡ false)
unfolding drop_others lives_at needless_slot
drop_others_others c d n i [] j e = not_some e
drop_others_others c d n i (x ∷ xs) zero e =
    by_test (λ (y : Slot). y.lives ≡ some d → (i + 0 ≡ n) ⊎ (needless c d ≡ false)) (not (eqb i n) && needless_slot c x.lives)
    (λ t l. not_some l)
    (λ t l. ⊎_map (λ f. omega (arith, eqb-true i n (not-false (eqb i n) f))) (λ f. rw l at f) (and_false (not (eqb i n)) (needless_slot c x.lives) t))
    e
drop_others_others c d n i (x ∷ xs) (suc j) e = ⊎_map (λ f. omega arith) (λ f. f) (drop_others_others c d n (suc i) xs j e)

any_inside_none : (c d : Constraint) (slots : List Slot) (j : ℕ) → any_inside c slots ≡ false → lives_at j slots ≡ some d → strictly_inside d c ≡ false
unfolding any_inside inside_slot lives_at
any_inside_none c d [] j a e = not_some e
any_inside_none c d (x ∷ xs) zero a e = rw e at (or_neither (inside_slot c x.lives) (any_inside c xs) a).0
any_inside_none c d (x ∷ xs) (suc j) a e = any_inside_none c d xs j (or_neither (inside_slot c x.lives) (any_inside c xs) a).1 e

freed : (slots : List Slot) (n : ℕ) (d : Constraint) → lives_at n (set slots n free) ≡ some d → ⊥
unfolding lives_at
freed [] n d e = not_some e
freed (x ∷ xs) zero d e = not_some e
freed (x ∷ xs) (suc n) d e = freed xs n d e

test-after : (n : ℕ) (c : Constraint) (slots : List Slot) → AfterTest n c (test_as n (some c) slots)
unfolding test_as
test-after n c slots =
    by_test (λ l. AfterTest n c l) (any_inside c left)
    (λ a. record { others = λ j d e. spared j d (freed_lives (set_freed n left) j d e); inner = λ e l. absurd (freed left n e l) })
    (λ a. record { others = spared; inner = λ e l j d k. any_inside_none c d left j a k })
  where
    left : List Slot
    left = drop_others c n 0 slots

    spared : (j : ℕ) (d : Constraint) → lives_at j left ≡ some d → (j ≡ n) ⊎ (needless c d ≡ false)
    spared j d e = ⊎_map (λ f. omega arith) (λ f. f) (drop_others_others c d n 0 slots j e)

-- A test takes its number off those yet to be tested.
take_off : (n : ℕ) (ns : List ℕ) (m k : ℕ) → (m ≡ n → m ≡ k) → (k ≡ n → m ≡ k)
    → (m ≡ k) ⊎ (Among m (n ∷ ns) ⊎ Among k (n ∷ ns)) → (m ≡ k) ⊎ (Among m ns ⊎ Among k ns)
take_off n ns m k f g (inl e) = inl e
take_off n ns m k f g (inr (inl (inl e))) = inl (f e)
take_off n ns m k f g (inr (inl (inr a))) = inr (inl a)
take_off n ns m k f g (inr (inr (inl e))) = inl (g e)
take_off n ns m k f g (inr (inr (inr a))) = inr (inr a)

same_lives : (slots : List Slot) (m n : ℕ) (c d : Constraint) → lives_at m slots ≡ some c → lives_at n slots ≡ some d → m ≡ n → c ≡ d
same_lives slots m n c d p q e = cc

not_strictly : (c d : Constraint) → strictly_inside d c ≡ false → needless d c ≡ true → needless c d ≡ true
unfolding strictly_inside
not_strictly c d s w = not-false (needless c d) (⊎_elim (λ f. both w f) (λ f. f) (and_false (needless d c) (not (needless c d)) s))

test_as_clean : (n : ℕ) (ns : List ℕ) (slots : List Slot) (o : Option Constraint) → lives_at n slots ≡ o → Freed slots (test_as n o slots)
    → Clean (n ∷ ns) slots → Clean ns (test_as n o slots)
unfolding test_as
test_as_clean n ns slots none l f h m k c d p q w = take_off n ns m k (λ e. not_some (sym l ∙ rw e at p)) (λ e. not_some (sym l ∙ rw e at q)) (h m k c d p q w)
test_as_clean n ns slots (some t) l f h m k c d p q w = take_off n ns m k first second (h m k c d at_m at_k w)
  where
    after : AfterTest n t (test_as n (some t) slots)
    after = test-after n t slots

    at_m : lives_at m slots ≡ some c
    at_m = freed_lives f m c p

    at_k : lives_at k slots ≡ some d
    at_k = freed_lives f k d q

    first : m ≡ n → m ≡ k
    first e = ⊎_elim (λ i. e ∙ sym i) (λ i. both (rw (same_lives slots m n c t at_m l e) at w) i) (after.others k d q)

    second : k ≡ n → m ≡ k
    second e =
        let is_t : d ≡ t = same_lives slots k n d t at_k l e in
        let at_n : lives_at n (test_as n (some t) slots) ≡ some d = rw e at q in
        ⊎_elim (λ i. i ∙ sym e) (λ i. both (not_strictly t c (after.inner d at_n m c p) (rw is_t at w)) i) (after.others m c p)

pub test_clean : (n : ℕ) (ns : List ℕ) (slots : List Slot) → Clean (n ∷ ns) slots → Clean ns (test n slots)
unfolding test
test_clean n ns slots h = test_as_clean n ns slots (lives_at n slots) refl (test_freed n slots) h

pub tests_clean : (ns : List ℕ) (slots : List Slot) → Clean ns slots → Irredundant (tests ns slots)
unfolding tests
tests_clean [] slots h = clean_irredundant slots h
tests_clean (n ∷ ns) slots h = tests_clean ns (test n slots) (test_clean n ns slots h)

-- A sweep notes the numbers of those that it changes and leaves live.
abbrev pub Noted : ℕ → List Slot → Swept → Type 0
Noted n before broken = Unit
Noted n before (swept waiting after ns) = (m : ℕ) (c : Constraint) → lives_at m after ≡ some c → Among (n + m) ns ⊎ (lives_at m before ≡ some c)

cons_noted : (n : ℕ) (x y : Slot) (before after : List Slot) (ns : List ℕ)
    → ((c : Constraint) → y.lives ≡ some c → Among n ns ⊎ (x.lives ≡ some c))
    → ((m : ℕ) (c : Constraint) → lives_at m after ≡ some c → Among (suc n + m) ns ⊎ (lives_at m before ≡ some c))
    → (m : ℕ) (c : Constraint) → lives_at m (y ∷ after) ≡ some c → Among (n + m) ns ⊎ (lives_at m (x ∷ before) ≡ some c)
unfolding lives_at
cons_noted n x y before after ns f g zero c e = let same : n + 0 ≡ n = omega arith in rw same (f c e)
cons_noted n x y before after ns f g (suc m) c e = let same : n + suc m ≡ suc n + m = omega arith in rw same (g m c e)

onto_noted : (n : ℕ) (x y : Slot) (xs : List Slot) (r : Swept) → ((c : Constraint) → y.lives ≡ some c → x.lives ≡ some c)
    → Noted (suc n) xs r → Noted n (x ∷ xs) (onto y r)
unfolding onto
onto_noted n x y xs broken f h = tt
onto_noted n x y xs (swept waiting after ns) f h = cons_noted n x y xs after ns (λ c e. inr (f c e)) h

stays_noted : (n : ℕ) (x y : Slot) (xs : List Slot) (r : Swept) → Noted (suc n) xs r → Noted n (x ∷ xs) (noting n (onto y r))
unfolding onto noting
stays_noted n x y xs broken h = tt
stays_noted n x y xs (swept waiting after ns) h = cons_noted n x y xs after (n ∷ ns) (λ c e. inl (inl refl)) (λ m c e. ⊎_map (λ a. inr a) (λ l. l) (h m c e))

turn_noted : (f : Fate) (x : Slot) (n : ℕ) (waiting : Sides) (others : Sides → Swept) (xs : List Slot)
    → ((w : Sides) → Noted (suc n) xs (others w)) → Noted n (x ∷ xs) (turn f x n waiting others)
unfolding turn
turn_noted untouched x n waiting others xs h = onto_noted n x x xs (others waiting) (λ c e. e) (h waiting)
turn_noted dropped x n waiting others xs h = onto_noted n x free xs (others waiting) (λ c e. not_some e) (h waiting)
turn_noted (waits sign s) x n waiting others xs h = onto_noted n x free xs (others _) (λ c e. not_some e) (h _)
turn_noted contradicts x n waiting others xs h = tt
turn_noted (stays c) x n waiting others xs h = stays_noted n x (modified_slot c) xs (others waiting) (h waiting)

pub sweep_noted : (lost : Sample → Bool) (sign : Sign) (n : ℕ) (slots : List Slot) (waiting : Sides) → Noted n slots (sweep lost sign n slots waiting)
unfolding sweep lives_at
sweep_noted lost sign n [] waiting = λ m c e. inr e
sweep_noted lost sign n (x ∷ xs) waiting =
    turn_noted (slot_fate lost sign x.lives) x n waiting (λ w. sweep lost sign (suc n) xs w) xs (λ w. sweep_noted lost sign (suc n) xs w)

-- After the losses of a draw or a force.
noted_irredundant : (slots : List Slot) (kept : Sides) (r : Swept) (h : Held) → Irredundant slots → Noted 0 slots r → tested kept r ≡ some h → Irredundant h.slots
unfolding tested
noted_irredundant slots kept broken h i f e = not_some e
noted_irredundant slots kept (swept waiting after ns) h i f e =
    let is_h : record { kept = kept; waiting = waiting; slots = tests ns after } ≡ h = cc in
    rw (← is_h) (tests_clean ns after (changed_clean ns slots after i (λ m c l. let same : 0 + m ≡ m = omega arith in rw same at (f m c l))))

pub tested_irredundant : (lost : Sample → Bool) (sign : Sign) (slots : List Slot) (kept waiting : Sides) (h : Held)
    → Irredundant slots → tested kept (sweep lost sign 0 slots waiting) ≡ some h → Irredundant h.slots
tested_irredundant lost sign slots kept waiting h i e = noted_irredundant slots kept (sweep lost sign 0 slots waiting) h i (sweep_noted lost sign 0 slots waiting) e

-- After a constraint goes live at a number.
set_lives : (slots : List Slot) (n : ℕ) (x : Slot) (m : ℕ) (c : Constraint) → lives_at m (set slots n x) ≡ some c → Among m (n ∷ []) ⊎ (lives_at m slots ≡ some c)
unfolding lives_at
set_lives [] n x m c e = inr e
set_lives (y ∷ ys) zero x zero c e = inl (inl refl)
set_lives (y ∷ ys) zero x (suc m) c e = inr e
set_lives (y ∷ ys) (suc n) x zero c e = inr e
set_lives (y ∷ ys) (suc n) x (suc m) c e = ⊎_map (⊎_map (ap suc) (λ a. a)) (λ l. l) (set_lives ys n x m c e)

pub live_irredundant : (n : ℕ) (c : Constraint) (slots : List Slot) → Irredundant slots → lives_at n slots ≡ none → Irredundant (test n (set slots n (modified_slot c)))
live_irredundant n c slots i e =
    let after = set slots n (modified_slot c) in
    clean_irredundant (test n after) (test_clean n [] after (changed_clean (n ∷ []) slots after i (set_lives slots n (modified_slot c))))
