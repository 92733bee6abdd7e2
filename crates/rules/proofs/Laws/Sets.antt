-- Sets as strictly rising lists: the same members make the same list, and what each operation does to members, to rising lists and to what holds of all members.
use mathlib.Core.Path.{◌≡◌, refl, sym, ap, subst, ◌∙◌}
use mathlib.Core.Bool.{Bool, true, false, cond, not}
use mathlib.Core.List.{List, [], ◌∷◌, ◌++◌}
use mathlib.Core.Logic.Iff
use mathlib.Core.Logic.{◌↔◌, ◌⊎◌, inl, inr, ⊎_elim, ⊎_map}
use Prim.Native.Nat.{suc, ◌≤◌}
use native.Mathlib.Omega.{arith}
use lib.ListN.{length}
use Rattle.rules.specs.Samples.{Sample, covers, same, before}
use Rattle.rules.specs.Sets.{any, only, without, member, subset, covered_by, insert, include, include_all, keep}
use Rattle.rules.specs.Waiting.{is_new, wait}
use Rattle.rules.specs.Satisfying.{All}
use Rattle.rules.specs.Condition.{Mem, Rising, Apart}
use Rattle.rules.proofs.Laws.Bools.{both, by_test, and_split, and_join, or_split, or_first, or_second, not-true, refuted}
use Rattle.rules.proofs.Laws.Covering.{covers_refl, same_true, same_refl}
use Rattle.rules.proofs.Laws.Ordering.{sample_order, before-not-after}

-- All and membership.
pub all_mem : (P : Sample → Type 0) (l : List Sample) → All P l → (x : Sample) → Mem x l → P x
all_mem P [] h x m = absurd m
all_mem P (k ∷ l) h x (inl e) = rw e h.0
all_mem P (k ∷ l) h x (inr m) = all_mem P l h.1 x m

pub mem_all : (P : Sample → Type 0) (l : List Sample) → ((x : Sample) → Mem x l → P x) → All P l
mem_all P [] f = tt
mem_all P (k ∷ l) f = (f k (inl refl), mem_all P l (λ x m. f x (inr m)))

-- What holds of all members holds of all members of a part.
pub all_sub : (P : Sample → Type 0) (l m : List Sample) → ((x : Sample) → Mem x m → Mem x l) → All P l → All P m
all_sub P l m f h = mem_all P m (λ x k. all_mem P l h x (f x k))

-- The head of a rising list comes before the rest, and so is not among them.
pub rising_head : (x : Sample) (l : List Sample) → Rising (x ∷ l) → (y : Sample) → Mem y l → before x y ≡ true
rising_head x l r = all_mem (λ y. before x y ≡ true) l r.0

pub rising_once : (x : Sample) (l : List Sample) → Rising (x ∷ l) → Mem x l → ⊥
rising_once x l r m = both (rising_head x l r x m) (sample_order.irreflexive x)

-- Where the heads are equal, a part's rest is part of the rest.
rest_sub : (x y : Sample) (l m : List Sample) → Rising (x ∷ l) → x ≡ y → ((z : Sample) → Mem z (x ∷ l) → Mem z (y ∷ m)) → (z : Sample) → Mem z l → Mem z m
rest_sub x y l m r e f z k = ⊎_elim (λ d. absurd (rising_once x l r (rw (e, ← d) k))) (λ j. j) (f z (inr k))

-- Two rising lists with the same members are equal.
pub rising_same : (l m : List Sample) → Rising l → Rising m → ((x : Sample) → Mem x l → Mem x m) → ((x : Sample) → Mem x m → Mem x l) → l ≡ m
rising_same [] [] p q f g = refl
rising_same [] (y ∷ m) p q f g = absurd (g y (inl refl))
rising_same (x ∷ l) [] p q f g = absurd (f x (inl refl))
rising_same (x ∷ l) (y ∷ m) p q f g =
    let e : x ≡ y = heads (f x (inl refl)) (g y (inl refl)) in
    rw (e, rising_same l m p.1 q.1 (rest_sub x y l m p e f) (rest_sub y x m l q (sym e) g))
  where
    heads : (x ≡ y) ⊎ Mem x m → (y ≡ x) ⊎ Mem y l → x ≡ y
    heads (inl e) k = e
    heads (inr j) (inl e) = sym e
    heads (inr j) (inr k) = both (rising_head x l p y k) (before-not-after y x (rising_head y m q x j))

-- The tests.
pub any_true : (t : Sample → Bool) (l : List Sample) → any t l ≡ true → (x : Sample) × Mem x l × (t x ≡ true)
unfolding any
any_true t [] h = both h refl
any_true t (k ∷ l) h = go (or_split (t k) (any t l) h) (any_true t l)
  where
    go : (t k ≡ true) ⊎ (any t l ≡ true) → (any t l ≡ true → (x : Sample) × Mem x l × (t x ≡ true)) → (x : Sample) × Mem x (k ∷ l) × (t x ≡ true)
    go (inl p) r = (k, inl refl, p)
    go (inr p) r = let q = r p in (q.0, inr q.1, q.2)

pub any_mem : (t : Sample → Bool) (l : List Sample) (x : Sample) → Mem x l → t x ≡ true → any t l ≡ true
unfolding any
any_mem t [] x m h = absurd m
any_mem t (k ∷ l) x (inl e) h = or_first (t k) (any t l) (rw e at h)
any_mem t (k ∷ l) x (inr m) h = or_second (t k) (any t l) (any_mem t l x m h)

pub any_none : (t : Sample → Bool) (l : List Sample) → any t l ≡ false → (x : Sample) → Mem x l → t x ≡ false
any_none t l h x m = refuted (t x) (λ p. both (any_mem t l x m p) h)

pub member_true : (x : Sample) (l : List Sample) → member x l ≡ true → Mem x l
unfolding member
member_true x l h = let r = any_true (same x) l h in rw (same_true x r.0 r.2) r.1

pub mem-member : (x : Sample) (l : List Sample) → Mem x l → member x l ≡ true
unfolding member
mem-member x l m = any_mem (same x) l x m (same_refl x)

pub subset_true : (l m : List Sample) → subset l m ≡ true → (x : Sample) → Mem x l → Mem x m
unfolding subset
subset_true [] m h x k = absurd k
subset_true (s ∷ l) m h x (inl e) = rw e (member_true s m (and_split (member s m) (subset l m) h).0)
subset_true (s ∷ l) m h x (inr k) = subset_true l m (and_split (member s m) (subset l m) h).1 x k

pub subset_test : (l m : List Sample) → ((x : Sample) → Mem x l → Mem x m) → subset l m ≡ true
unfolding subset
subset_test [] m f = refl
subset_test (s ∷ l) m f = and_join (member s m) (subset l m) (mem-member s m (f s (inl refl))) (subset_test l m (λ x k. f x (inr k)))

-- The members that each operation leaves.
pub only_mem : (t : Sample → Bool) (l : List Sample) (x : Sample) → Mem x (only t l) ↔ (Mem x l × (t x ≡ true))
unfolding only
only_mem t [] x = (λ m. absurd m, λ m. absurd m.0)
only_mem t (k ∷ l) x = let r = only_mem t l x in (there (t k) refl r.0, back (t k) refl r.1)
  where
    there : (b : Bool) → t k ≡ b → (Mem x (only t l) → Mem x l × (t x ≡ true)) → Mem x (cond b (k ∷ only t l) (only t l)) → Mem x (k ∷ l) × (t x ≡ true)
    there true e r (inl d) = (inl d, rw d e)
    there true e r (inr m) = let q = r m in (inr q.0, q.1)
    there false e r m = let q = r m in (inr q.0, q.1)

    back : (b : Bool) → t k ≡ b → (Mem x l × (t x ≡ true) → Mem x (only t l)) → Mem x (k ∷ l) × (t x ≡ true) → Mem x (cond b (k ∷ only t l) (only t l))
    back true e r (inl d, p) = inl d
    back true e r (inr m, p) = inr (r (m, p))
    back false e r (inl d, p) = both (rw d at p) e
    back false e r (inr m, p) = r (m, p)

pub without_mem : (t : Sample → Bool) (l : List Sample) (x : Sample) → Mem x (without t l) ↔ (Mem x l × (t x ≡ false))
unfolding without
without_mem t l x =
    let r = only_mem (λ s. not (t s)) l x in
    (λ m. let q = r.0 m in (q.0, not-true (t x) q.1), λ m. r.1 (m.0, rw m.1))

pub insert_mem : (s : Sample) (l : List Sample) (x : Sample) → Mem x (insert s l) ↔ ((x ≡ s) ⊎ Mem x l)
unfolding insert
insert_mem s [] x = (λ m. m, λ m. m)
insert_mem s (k ∷ l) x = let r = insert_mem s l x in (there (before s k) r.0, back (before s k) r.1)
  where
    there : (b : Bool) → (Mem x (insert s l) → (x ≡ s) ⊎ Mem x l) → Mem x (cond b (s ∷ k ∷ l) (k ∷ insert s l)) → (x ≡ s) ⊎ Mem x (k ∷ l)
    there true r m = m
    there false r (inl e) = inr (inl e)
    there false r (inr m) = ⊎_map (λ e. e) inr (r m)

    back : (b : Bool) → ((x ≡ s) ⊎ Mem x l → Mem x (insert s l)) → (x ≡ s) ⊎ Mem x (k ∷ l) → Mem x (cond b (s ∷ k ∷ l) (k ∷ insert s l))
    back true r m = m
    back false r (inl e) = inr (r (inl e))
    back false r (inr (inl e)) = inl e
    back false r (inr (inr m)) = inr (r (inr m))

pub include_mem : (s : Sample) (l : List Sample) (x : Sample) → Mem x (include s l) ↔ ((x ≡ s) ⊎ Mem x l)
unfolding include
include_mem s l x = by_test (λ m. Mem x m ↔ ((x ≡ s) ⊎ Mem x l)) (member s l) (λ e. (inr, ⊎_elim (λ d. rw d (member_true s l e)) (λ m. m))) (λ e. insert_mem s l x)

pub include_all_mem : (m l : List Sample) (x : Sample) → Mem x (include_all m l) ↔ (Mem x m ⊎ Mem x l)
unfolding include_all
include_all_mem [] l x = (inr, ⊎_elim (λ e. absurd e) (λ k. k))
include_all_mem (s ∷ m) l x = Iff.trans (include_all_mem m (include s l) x) (there, back)
  where
    there : Mem x m ⊎ Mem x (include s l) → Mem x (s ∷ m) ⊎ Mem x l
    there (inl k) = inl (inr k)
    there (inr k) = ⊎_map inl (λ j. j) ((include_mem s l x).0 k)

    back : Mem x (s ∷ m) ⊎ Mem x l → Mem x m ⊎ Mem x (include s l)
    back (inl (inl e)) = inr ((include_mem s l x).1 (inl e))
    back (inl (inr k)) = inl k
    back (inr k) = inr ((include_mem s l x).1 (inr k))

pub append_mem : (l m : List Sample) (x : Sample) → Mem x (l ++ m) ↔ (Mem x l ⊎ Mem x m)
append_mem [] m x = (inr, ⊎_elim (λ e. absurd e) (λ k. k))
append_mem (s ∷ l) m x = let r = append_mem l m x in (there r.0, back r.1)
  where
    there : (Mem x (l ++ m) → Mem x l ⊎ Mem x m) → Mem x (s ∷ (l ++ m)) → Mem x (s ∷ l) ⊎ Mem x m
    there r (inl e) = inl (inl e)
    there r (inr k) = ⊎_map inr (λ j. j) (r k)

    back : (Mem x l ⊎ Mem x m → Mem x (l ++ m)) → Mem x (s ∷ l) ⊎ Mem x m → Mem x (s ∷ (l ++ m))
    back r (inl (inl e)) = inl e
    back r (inl (inr k)) = inr (r (inl k))
    back r (inr k) = inr (r (inr k))

pub keep_mem : (s : Sample) (l : List Sample) (x : Sample) → Mem x (keep s l) ↔ ((x ≡ s) ⊎ (Mem x l × (covers s x ≡ false)))
unfolding keep
keep_mem s l x =
    let r = without_mem (covers s) l x in
    Iff.trans (insert_mem s (without (covers s) l) x) (⊎_map (λ e. e) r.0, ⊎_map (λ e. e) r.1)

-- What waits afterwards: s, or what waited before.
pub wait_mem : (s : Sample) (l : List Sample) (x : Sample) → Mem x (wait s l) → (x ≡ s) ⊎ Mem x l
unfolding wait
wait_mem s l x = by_test (λ m. Mem x m → (x ≡ s) ⊎ Mem x l) (is_new s l) (λ e m. ⊎_map (λ d. d) (λ k. k.0) ((keep_mem s l x).0 m)) (λ e m. inr m)

-- Each operation leaves a rising list rising.
pub only_rising : (t : Sample → Bool) (l : List Sample) → Rising l → Rising (only t l)
unfolding only
only_rising t [] r = tt
only_rising t (k ∷ l) r =
    let q = only_rising t l r.1 in
    by_test Rising (t k) (λ e. (all_sub (λ y. before k y ≡ true) l (only t l) (λ x m. ((only_mem t l x).0 m).0) r.0, q)) (λ e. q)

pub without_rising : (t : Sample → Bool) (l : List Sample) → Rising l → Rising (without t l)
unfolding without
without_rising t l r = only_rising (λ s. not (t s)) l r

pub insert_rising : (s : Sample) (l : List Sample) → (Mem s l → ⊥) → Rising l → Rising (insert s l)
unfolding insert
insert_rising s [] n r = (tt, tt)
insert_rising s (k ∷ l) n r =
    by_test
    Rising
    (before s k)
    (λ e. (mem_all (λ x. before s x ≡ true) (k ∷ l) (first e), r))
    (λ e. last e (sample_order.total s k) (insert_rising s l (λ m. n (inr m)) r.1))
  where
    first : before s k ≡ true → (x : Sample) → Mem x (k ∷ l) → before s x ≡ true
    first e x (inl d) = rw d e
    first e x (inr m) = sample_order.transitive s k x e (rising_head k l r x m)

    later : before k s ≡ true → (x : Sample) → (x ≡ s) ⊎ Mem x l → before k x ≡ true
    later e x (inl d) = rw d e
    later e x (inr m) = rising_head k l r x m

    last : before s k ≡ false → (before s k ≡ true) ⊎ ((s ≡ k) ⊎ (before k s ≡ true)) → Rising (insert s l) → Rising (k ∷ insert s l)
    last e (inl d) q = both d e
    last e (inr (inl d)) q = absurd (n (inl d))
    last e (inr (inr d)) q = (mem_all (λ x. before k x ≡ true) (insert s l) (λ x m. later d x ((insert_mem s l x).0 m)), q)

pub include_rising : (s : Sample) (l : List Sample) → Rising l → Rising (include s l)
unfolding include
include_rising s l r = by_test Rising (member s l) (λ e. r) (λ e. insert_rising s l (λ m. both (mem-member s l m) e) r)

pub include_all_rising : (m l : List Sample) → Rising l → Rising (include_all m l)
unfolding include_all
include_all_rising [] l r = r
include_all_rising (s ∷ m) l r = include_all_rising m (include s l) (include_rising s l r)

pub keep_rising : (s : Sample) (l : List Sample) → Rising l → Rising (keep s l)
unfolding keep
keep_rising s l r = insert_rising s (without (covers s) l) (λ m. both (covers_refl s) ((without_mem (covers s) l s).0 m).1) (without_rising (covers s) l r)

pub wait_rising : (s : Sample) (l : List Sample) → Rising l → Rising (wait s l)
unfolding wait
wait_rising s l r = by_test Rising (is_new s l) (λ e. keep_rising s l r) (λ e. r)

-- A sample that no member covers joins without a covering pair.
pub keep_apart : (s : Sample) (l : List Sample) → covered_by l s ≡ false → Apart l → Apart (keep s l)
unfolding covered_by
keep_apart s l n a x y i j c = go ((keep_mem s l x).0 i) ((keep_mem s l y).0 j)
  where
    go : (x ≡ s) ⊎ (Mem x l × (covers s x ≡ false)) → (y ≡ s) ⊎ (Mem y l × (covers s y ≡ false)) → x ≡ y
    go (inl d) (inl e) = d ∙ sym e
    go (inl d) (inr (k, u)) = both (rw d at c) u
    go (inr (k, u)) (inl e) = both (rw e at c) (any_none (λ z. covers z s) l n x k)
    go (inr (k, u)) (inr (m, v)) = a x y k m c

pub wait_apart : (s : Sample) (l : List Sample) → Apart l → Apart (wait s l)
unfolding wait is_new
wait_apart s l a = by_test Apart (is_new s l) (λ e. keep_apart s l (not-true (covered_by l s) e) a) (λ e. a)

-- Lengths: an operation never makes more than one new member, and a subset is no longer than its set.
pub only-length : (t : Sample → Bool) (l : List Sample) → length (only t l) ≤ length l
unfolding only
only-length t [] = omega arith
only-length t (k ∷ l) = go (t k) (only-length t l)
  where
    go : (b : Bool) → length (only t l) ≤ length l → length (cond b (k ∷ only t l) (only t l)) ≤ suc (length l)
    go true h = omega arith
    go false h = omega arith

pub insert-length : (s : Sample) (l : List Sample) → length (insert s l) ≡ suc (length l)
unfolding insert
insert-length s [] = refl
insert-length s (k ∷ l) = by_test (λ (m : List Sample). length m ≡ suc (suc (length l))) (before s k) (λ e. refl) (λ e. ap suc (insert-length s l))

pub keep-length : (s : Sample) (l : List Sample) → length (keep s l) ≤ suc (length l)
unfolding keep without
keep-length s l = omega (arith, insert-length s (without (covers s) l), only-length (λ x. not (covers s x)) l)

pub wait-length : (s : Sample) (l : List Sample) → length (wait s l) ≤ suc (length l)
unfolding wait
wait-length s l = by_test (λ (m : List Sample). length m ≤ suc (length l)) (is_new s l) (λ e. keep-length s l) (λ e. omega arith)

pub rising_length : (l m : List Sample) → Rising l → Rising m → ((x : Sample) → Mem x l → Mem x m) → length l ≤ length m
rising_length [] m p q f = omega arith
rising_length (x ∷ l) [] p q f = absurd (f x (inl refl))
rising_length (x ∷ l) (y ∷ m) p q f =
    go (f x (inl refl)) (λ e. rising_length l m p.1 q.1 (rest_sub x y l m p e f)) (λ k. rising_length (x ∷ l) m p q.1 (within k))
  where
    -- y comes before x, and so before all of x ∷ l.
    within : Mem x m → (z : Sample) → Mem z (x ∷ l) → Mem z m
    within k z (inl e) = rw e k
    within k z (inr j) = ⊎_elim (λ d. both (rising_head x l p y (subst (λ (w : Sample). Mem w l) d j)) (before-not-after y x (rising_head y m q x k))) (λ i. i) (f z (inr j))

    go : (x ≡ y) ⊎ Mem x m → (x ≡ y → length l ≤ length m) → (Mem x m → suc (length l) ≤ length m) → suc (length l) ≤ suc (length m)
    go (inl e) g h = omega (arith, g e)
    go (inr k) g h = omega (arith, h k)
