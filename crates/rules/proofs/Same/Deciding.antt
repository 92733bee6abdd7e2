-- A settled store with no overlapping pair has a satisfying assignment: what its kept positives cover. So check decides.
use mathlib.Core.Path.{◌≡◌, refl, sym, ◌∙◌}
use mathlib.Core.Bool.{true, false}
use mathlib.Core.List.{List, [], ◌∷◌}
use mathlib.Core.Option.{Option, none, some}
use mathlib.Core.Logic.{◌⊎◌, inl, inr, ⊎_elim}
use lib.Dec.{eqb}
use lib.ListN.{get_or}
use borrow.Author.Tests.{eqb-true, eq-eqb}
use Rattle.rules.specs.Values.{Value, Sort, integer, truth, blank, valid_value}
use Rattle.rules.specs.Samples.{Position, Sample, valid_at, valid_positions, valid_sample, covers_at, covers_all, covers, total, overlaps_at, overlaps_all, overlaps}
use Rattle.rules.specs.Sets.{covered_by}
use Rattle.rules.specs.Contents.{positive, negative, side, Constraint, right_samples, samples_of, Slot, Sides, Held}
use Rattle.rules.specs.Satisfying.{Vector, Assignment, known, Completes, Satisfies, inside, All, IfLive, AllLive, SatisfiesHeld}
use Rattle.rules.specs.Checking.{Verdict, clear, overlap, seek_negative, seek, verdict_on}
use Rattle.rules.specs.Condition.{Mem, NonEmpty, ValidConstraint, ValidHeld}
use Rattle.rules.specs.Demand3.{NothingWaits}
use Rattle.rules.proofs.Laws.Bools.{both, by_test, and_split, and_join, refuted}
use Rattle.rules.proofs.Laws.Covering.{CoversAt, CoversAll, covers_true, covers_all_true, covers_test, equal_refl}
use Rattle.rules.proofs.Laws.Sets.{all_mem, mem_all, any_true, any_mem, append_mem}
use Rattle.rules.proofs.Same.Completions.{total-known, valid_positions_lem}
use Rattle.rules.proofs.Same.LosingSamples.{Holds, holds_out}

-- Two that cover one and the same overlap.
covering_overlap_at : (x y z : Position) → CoversAt x z → CoversAt y z → overlaps_at x y ≡ true
unfolding overlaps_at
covering_overlap_at none y z p q = refl
covering_overlap_at (some x) none z p q = refl
covering_overlap_at (some x) (some y) none p q = absurd p
covering_overlap_at (some x) (some y) (some z) p q = rw (p, q) (equal_refl z)

covering_overlap_all : (xs ys zs : List Position) → CoversAll xs zs → CoversAll ys zs → overlaps_all xs ys ≡ true
unfolding overlaps_all
covering_overlap_all [] [] zs p q = refl
covering_overlap_all [] (y ∷ ys) [] p q = absurd q
covering_overlap_all [] (y ∷ ys) (z ∷ zs) p q = absurd p
covering_overlap_all (x ∷ xs) [] [] p q = absurd p
covering_overlap_all (x ∷ xs) [] (z ∷ zs) p q = absurd q
covering_overlap_all (x ∷ xs) (y ∷ ys) [] p q = absurd p
covering_overlap_all (x ∷ xs) (y ∷ ys) (z ∷ zs) p q =
    and_join (overlaps_at x y) (overlaps_all xs ys) (covering_overlap_at x y z p.0 q.0) (covering_overlap_all xs ys zs p.1 q.1)

pub covering_overlap : (a b c : Sample) → covers a c ≡ true → covers b c ≡ true → overlaps a b ≡ true
unfolding overlaps
covering_overlap a b c p q =
    let f = covers_true a c p in
    let g = covers_true b c q in
    and_join (eqb a.pred b.pred) (overlaps_all a.at b.at) (eq-eqb a.pred b.pred (f.pred ∙ sym g.pred)) (covering_overlap_all a.at b.at c.at f.at g.at)

-- Two valid ones that overlap have a completion in common: what is known in either, and 0 where neither is known.
record CommonAt (sort : Sort) (x y : Position) : Type 0 where
  value : Value
  valid : valid_value sort value ≡ true
  first : covers_at x (some value) ≡ true
  second : covers_at y (some value) ≡ true

blank_valid : (sort : Sort) → valid_value sort blank ≡ true
unfolding valid_value
blank_valid integer = refl
blank_valid truth = refl

common_at : (sort : Sort) (x y : Position) → valid_at sort x ≡ true → valid_at sort y ≡ true → overlaps_at x y ≡ true → CommonAt sort x y
unfolding valid_at overlaps_at covers_at
common_at sort none none p q e = record { value = blank; valid = blank_valid sort; first = refl; second = refl }
common_at sort none (some y) p q e = record { value = y; valid = q; first = refl; second = equal_refl y }
common_at sort (some x) none p q e = record { value = x; valid = p; first = equal_refl x; second = refl }
common_at sort (some x) (some y) p q e = record { value = y; valid = q; first = e; second = equal_refl y }

record Common (sorts : List Sort) (xs ys : List Position) : Type 0 where
  vector : Vector
  valid : valid_positions sorts (known vector) ≡ true
  first : covers_all xs (known vector) ≡ true
  second : covers_all ys (known vector) ≡ true

common : (sorts : List Sort) (xs ys : List Position) → valid_positions sorts xs ≡ true → valid_positions sorts ys ≡ true → overlaps_all xs ys ≡ true → Common sorts xs ys
unfolding valid_positions overlaps_all covers_all known
common [] [] [] p q e = record { vector = []; valid = refl; first = refl; second = refl }
common [] [] (y ∷ ys) p q e = both q refl
common [] (x ∷ xs) ys p q e = both p refl
common (sort ∷ sorts) [] ys p q e = both p refl
common (sort ∷ sorts) (x ∷ xs) [] p q e = both q refl
common (sort ∷ sorts) (x ∷ xs) (y ∷ ys) p q e =
    let u = and_split (valid_at sort x) (valid_positions sorts xs) p in
    let w = and_split (valid_at sort y) (valid_positions sorts ys) q in
    let o = and_split (overlaps_at x y) (overlaps_all xs ys) e in
    let h = common_at sort x y u.0 w.0 o.0 in
    let r = common sorts xs ys u.1 w.1 o.1 in
    record {
      vector = h.value ∷ r.vector;
      valid = and_join (valid_value sort h.value) (valid_positions sorts (known r.vector)) h.valid r.valid;
      first = and_join (covers_at x (some h.value)) (covers_all xs (known r.vector)) h.first r.first;
      second = and_join (covers_at y (some h.value)) (covers_all ys (known r.vector)) h.second r.second;
    }

-- So they can't be satisfied under different signs.
overlap_clash : (declared : List (List Sort)) (a : Assignment) (p n : Sample) → valid_sample declared p ≡ true → valid_sample declared n ≡ true → overlaps p n ≡ true
    → Satisfies declared a positive p → Satisfies declared a negative n → ⊥
unfolding overlaps
overlap_clash declared a p n v w o f g =
    clash (common (get_or declared p.pred []) p.at n.at (valid_positions_lem declared p v) (rw e (valid_positions_lem declared n w)) r.1)
  where
    r : (eqb p.pred n.pred ≡ true) × (overlaps_all p.at n.at ≡ true)
    r = and_split (eqb p.pred n.pred) (overlaps_all p.at n.at) o

    e : p.pred ≡ n.pred
    e = eqb-true p.pred n.pred r.0

    clash : Common (get_or declared p.pred []) p.at n.at → ⊥
    clash c =
        let in_it = f c.vector (record { valid = c.valid; covered = c.first }) in
        let out = g c.vector (record { valid = rw e at c.valid; covered = c.second }) in
        both (rw e at in_it) out

-- What seeking finds among the pairs: none that overlaps, or one that does.
abbrev Pairs : Type 1
Pairs = Sample → Sample → Type 0

abbrev Sought : Pairs → Verdict → Type 0
Sought R clear = (p n : Sample) → R p n → overlaps p n ≡ false
Sought R (overlap p n) = R p n × (overlaps p n ≡ true)

-- More pairs, none of which overlaps.
sought_more : (R S : Pairs) → ((p n : Sample) → R p n → S p n) → ((p n : Sample) → S p n → R p n ⊎ (overlaps p n ≡ false)) → (found : Verdict) → Sought R found → Sought S found
sought_more R S there back clear h = λ p n s. ⊎_elim (h p n) (λ e. e) (back p n s)
sought_more R S there back (overlap p n) h = (there p n h.0, h.1)

abbrev Among : List Sample → List Sample → Pairs
Among ps ns p n = Mem p ps × Mem n ns

abbrev Beside : Sample → List Sample → Pairs → Pairs
Beside p ns R q n = ((q ≡ p) × Mem n ns) ⊎ R q n

seek_negative_sought : (R : Pairs) (p : Sample) (ns : List Sample) (later : Verdict) → Sought R later → Sought (Beside p ns R) (seek_negative p ns later)
unfolding seek_negative
seek_negative_sought R p [] later h = sought_more R (Beside p [] R) (λ q n r. inr r) (λ q n. ⊎_elim (λ m. absurd m.1) inl) later h
seek_negative_sought R p (k ∷ ns) later h =
    let r = seek_negative_sought R p ns later h in
    by_test
    (Sought (Beside p (k ∷ ns) R))
    (overlaps p k)
    (λ o. (inl (refl, inl refl), o))
    (λ o. sought_more (Beside p ns R) (Beside p (k ∷ ns) R) there (back o) (seek_negative p ns later) r)
  where
    there : (q n : Sample) → Beside p ns R q n → Beside p (k ∷ ns) R q n
    there q n (inl (d, m)) = inl (d, inr m)
    there q n (inr m) = inr m

    back : overlaps p k ≡ false → (q n : Sample) → Beside p (k ∷ ns) R q n → Beside p ns R q n ⊎ (overlaps q n ≡ false)
    back o q n (inl (d, inl e)) = inr (rw (d, e) o)
    back o q n (inl (d, inr m)) = inl (inl (d, m))
    back o q n (inr m) = inl (inr m)

seek_sought : (ps ns : List Sample) → Sought (Among ps ns) (seek ps ns)
unfolding seek
seek_sought [] ns = λ p n m. absurd m.0
seek_sought (p ∷ ps) ns =
    let r = seek_negative_sought (Among ps ns) p ns (seek ps ns) (seek_sought ps ns) in
    sought_more (Beside p ns (Among ps ns)) (Among (p ∷ ps) ns) there back (seek_negative p ns (seek ps ns)) r
  where
    there : (q n : Sample) → Beside p ns (Among ps ns) q n → Among (p ∷ ps) ns q n
    there q n (inl (d, m)) = (inl d, m)
    there q n (inr (k, m)) = (inr k, m)

    back : (q n : Sample) → Among (p ∷ ps) ns q n → Beside p ns (Among ps ns) q n ⊎ (overlaps q n ≡ false)
    back q n (inl d, m) = inl (inl (d, m))
    back q n (inr k, m) = inl (inr (k, m))

-- The assignment: what the kept positives cover.
pub just : List Sample → Assignment
just positives p v = covered_by positives (record { pred = p; at = known v })

completion_covered : (declared : List (List Sort)) (s : Sample) (v : Vector) → Completes declared s v → covers s (record { pred = s.pred; at = known v }) ≡ true
completion_covered declared s v k = covers_test s (record { pred = s.pred; at = known v }) (record { pred = refl; at = covers_all_true s.at (known v) k.covered })

just_positives : (declared : List (List Sort)) (ps : List Sample) → All (Satisfies declared (just ps) positive) ps
unfolding just covered_by
just_positives declared ps =
    mem_all
    (Satisfies declared (just ps) positive)
    ps
    (λ s m v k. any_mem (λ p. covers p (record { pred = s.pred; at = known v })) ps s m (completion_covered declared s v k))

just_negatives : (declared : List (List Sort)) (ps ns : List Sample) → Sought (Among ps ns) clear → All (Satisfies declared (just ps) negative) ns
unfolding just covered_by
just_negatives declared ps ns h = mem_all (Satisfies declared (just ps) negative) ns (λ s m v k. refuted (just ps s.pred v) (met s m v k))
  where
    met : (s : Sample) → Mem s ns → (v : Vector) → Completes declared s v → just ps s.pred v ≡ true → ⊥
    met s m v k e =
        let t : Sample = record { pred = s.pred; at = known v } in
        let r = any_true (λ p. covers p t) ps e in
        both (covering_overlap r.0 s t r.2 (completion_covered declared s v k)) (h r.0 s (r.1, m))

-- A live constraint has a left sample, which no kept positive covers.
just_holds : (declared : List (List Sort)) (kept : Sides) (c : Constraint) → ValidConstraint declared kept c → Holds (just kept.positives) c
unfolding samples_of side
just_holds declared kept c v = go c.left (λ x m. m) v.some_left
  where
    out : (x : Sample) → total x ≡ true → covered_by kept.positives x ≡ false → inside (just kept.positives) x ≡ false
    out x t u = unfold inside just in rw (total-known x t) u

    go : (l : List Sample) → ((x : Sample) → Mem x l → Mem x c.left) → NonEmpty l → Holds (just kept.positives) c
    go [] f o = absurd o
    go (x ∷ l) f o =
        let m = (append_mem c.left (right_samples c.right) x).1 (inl (f x (inl refl))) in
        holds_out
        (just kept.positives)
        c
        x
        (f x (inl refl))
        (out x (all_mem (λ s. total s ≡ true) (samples_of c) v.total x m) (all_mem (λ s. covered_by kept.positives s ≡ false) (samples_of c) (v.uncovered positive) x m))

live_map : (P Q : Constraint → Type 0) → ((c : Constraint) → P c → Q c) → (slots : List Slot) → AllLive P slots → AllLive Q slots
live_map P Q f [] h = tt
live_map P Q f (x ∷ xs) h = (go x.lives h.0, live_map P Q f xs h.1)
  where
    go : (lived : Option Constraint) → IfLive P lived → IfLive Q lived
    go none k = tt
    go (some c) k = f c k

abbrev pub VerdictDecides : List (List Sort) → Held → Verdict → Type 0
VerdictDecides declared h clear = (a : Assignment) × SatisfiesHeld declared a h
VerdictDecides declared h (overlap p n) = (a : Assignment) → SatisfiesHeld declared a h → ⊥

pub verdict_decides : (declared : List (List Sort)) (h : Held) → ValidHeld declared h → NothingWaits h → VerdictDecides declared h (verdict_on h.kept)
unfolding verdict_on side
verdict_decides declared h v r = go (seek ps ns) (seek_sought ps ns)
  where
    ps : List Sample
    ps = h.kept.positives

    ns : List Sample
    ns = h.kept.negatives

    valid : (l : List Sample) → All (λ s. valid_sample declared s ≡ true) l → (x : Sample) → Mem x l → valid_sample declared x ≡ true
    valid l = all_mem (λ s. valid_sample declared s ≡ true) l

    go : (found : Verdict) → Sought (Among ps ns) found → VerdictDecides declared h found
    go clear f = (
      just ps,
      record {
        kept = record { positives = just_positives declared ps; negatives = just_negatives declared ps ns f };
        waiting = record { positives = rw r.positives tt; negatives = rw r.negatives tt };
        constraints = live_map (ValidConstraint declared h.kept) (Holds (just ps)) (just_holds declared h.kept) h.slots v.constraints;
      },
    )
    go (overlap p n) ((i, j), o) = λ a k.
        overlap_clash
        declared
        a
        p
        n
        (valid ps (v.kept positive).valid p i)
        (valid ns (v.kept negative).valid n j)
        o
        (all_mem (Satisfies declared a positive) ps k.kept.positives p i)
        (all_mem (Satisfies declared a negative) ns k.kept.negatives n j)
