-- The pool after a number has come into use at its place, and after numbers have gone out of use.
use mathlib.Core.Path.{◌≡◌, refl, sym, ap, ◌∙◌}
use mathlib.Core.Bool.{Bool, true, false, not}
use mathlib.Core.List.{List, [], ◌∷◌, ◌++◌, append_assoc}
use mathlib.Core.Logic.{◌⊎◌, inl, inr, ⊎_elim, ◌↔◌}
use Prim.Native.Nat.{ℕ, suc, ◌+◌, ◌-◌, ◌≤◌, ◌<◌}
use native.Mathlib.Omega.{arith}
use lib.ListN.{length, get_or, take, drop, length-append, length-drop, take-append-drop}
use lib.Seq.{length-take-le, take-add, take_at, drop-cons, get_or-drop}
use Rattle.rules.specs.Samples.{Sample, total, before}
use Rattle.rules.proofs.Laws.Bools.{refuted}
use Rattle.words.specs.Sets.{in_set}
use Rattle.words.specs.declared.set.Set.{Set}
use Rattle.sample.specs.declared.row.Row.{Row}
use Rattle.sample.specs.Rows.{shown, RowOk}
use Rattle.pool.specs.Picks.{pick, keep_if, Among, Rises}
use Rattle.pool.specs.Pools.{Table, row_at, sample_at, in_use, members, PoolOk, PartialOk, Within}
use Rattle.pool.specs.Answers.{FoundAt, GapAt, opened, closed}
use Rattle.pool.proofs.PickLaws.{kept_among, among_at, among_place, pick_table, pick_fresh, fresh_among, among_fresh, fresh_rises, pick_kept, kept_rises}
use Rattle.pool.proofs.Rearranged.{sum, Rearranged, sum_append, sum_parted, kept_fewer, same_length, same_once, same_each}

-- Each of the 256 numbers once.
pub record Numbered (order : List ℕ) : Type 0 where
  pub full : length order ≡ 256
  pub numbers : (i : ℕ) → i < 256 → get_or order i 0 < 256
  pub once : (i j : ℕ) → i < 256 → j < 256 → get_or order i 0 ≡ get_or order j 0 → i ≡ j

pub rearranged_numbered : (l m : List ℕ) → Rearranged l m → Numbered m → Numbered l
rearranged_numbered l m r ok =
    let full : length l ≡ 256 = same_length l m r ∙ ok.full in
    record {
      full = full;
      numbers = λ i h. same_each l m r (λ k. k < 256) (λ j p. ok.numbers j (omega (arith, ok.full))) i (omega arith);
      once = λ i j h k e. same_once l m r (λ a b p q d. ok.once a b (omega (arith, ok.full)) (omega (arith, ok.full)) d) i j (omega arith) (omega arith) e;
    }

pub pool_numbered : {positions : ℕ → ℕ} {t : Table} {n : ℕ} {order : List ℕ} → PoolOk positions t n order → Numbered order
pool_numbered ok = record { full = ok.full; numbers = ok.numbers; once = ok.once }

-- The numbers in use from place g on.
abbrev upper : ℕ → ℕ → List ℕ → List ℕ
upper n g order = take (n - g) (drop g order)

-- The order once its first free number has moved down to place g.
module _ (n g : ℕ) (order : List ℕ) (h : g ≤ n) (l : n < length order) where
  used_parts : take n order ≡ take g order ++ upper n g order
  used_parts = let e : g + (n - g) ≡ n = omega arith in let a = take-add g (n - g) order in rw e at a

  order_parts : order ≡ (take g order ++ upper n g order) ++ (get_or order n 0 ∷ drop (suc n) order)
  order_parts = sym (take-append-drop n order) ∙ (rw (used_parts, drop-cons order n 0 l))

  pub opened_rearranged : Rearranged (opened n g order) order
  unfolding opened sum
  opened_rearranged = record { sums = λ w. same w ∙ ap (sum w) (sym order_parts) }
    where
      same : (w : ℕ → ℕ) → sum w (opened n g order) ≡ sum w ((take g order ++ upper n g order) ++ (get_or order n 0 ∷ drop (suc n) order))
      same w = simp (sum_append, sum) (omega arith)

  pub opened_numbered : Numbered order → Numbered (opened n g order)
  opened_numbered ok = rearranged_numbered (opened n g order) order opened_rearranged ok

  pub opened_used : in_use (n + 1) (opened n g order) ≡ take g order ++ (get_or order n 0 ∷ upper n g order)
  unfolding opened
  opened_used = ap (take (n + 1)) (sym (append_assoc (take g order) (get_or order n 0 ∷ upper n g order) (drop (suc n) order)))
      ∙ take_at (take g order ++ (get_or order n 0 ∷ upper n g order)) (drop (suc n) order) (n + 1) long
    where
      long : length (take g order ++ (get_or order n 0 ∷ upper n g order)) ≡ n + 1
      long = length-append (take g order) (get_or order n 0 ∷ upper n g order)
          ∙ omega (arith, length-take-le g order (omega arith), length-take-le (n - g) (drop g order) (omega (arith, length-drop g order)))

  -- In use are the fresh number and those that were.
  pub opened_among : (k : ℕ) → Among k (in_use (n + 1) (opened n g order)) ↔ ((k ≡ get_or order n 0) ⊎ Among k (in_use n order))
  opened_among k = rw (opened_used, used_parts) (fresh_among (get_or order n 0) (take g order) (upper n g order) k, among_fresh (get_or order n 0) (take g order) (upper n g order) k)

  pub opened_within : (set : Set) → Within n order set → Within (n + 1) (opened n g order) set
  opened_within set within k b e = (opened_among k).1 (inr (within k b e))

-- The first free number is not in use, nor in a set of numbers in use.
module _ {positions : ℕ → ℕ} {t : Table} {n : ℕ} {order : List ℕ} (ok : PoolOk positions t n order) (room : n < 256) where
  pub fresh_unused : Among (get_or order n 0) (in_use n order) → ⊥
  fresh_unused m = let p = among_place n (get_or order n 0) order m in let e = ok.once p.0 n (omega (arith, p.1)) room p.3 in omega (arith, p.1)

  pub fresh_outside : (set : Set) → Within n order set → in_set set (get_or order n 0) ≡ false
  fresh_outside set within = refuted (in_set set (get_or order n 0)) (λ e. fresh_unused (within (get_or order n 0) (ok.numbers n room) e))

-- Another table that has the same samples at the numbers of a list.
rises_table : (at to : ℕ → Sample) (ks : List ℕ) → ((k : ℕ) → Among k ks → to k ≡ at k) → Rises at ks → Rises to ks
rises_table at to [] e r = tt
rises_table at to (k ∷ ks) e r = (λ j m. rw (e k (inl refl), e j (inr m)) (r.0 j m), rises_table at to ks (λ j m. e j (inr m)) r.1)

-- The pool once row r has come into use at its place, under the first free number.
module _ (positions : ℕ → ℕ) (t u : Table) (n : ℕ) (order : List ℕ) (r : Row) (g : ℕ) (ok : PoolOk positions t n order) (gap : GapAt positions t n order r g) (room : n < 256)
    (here : row_at u (get_or order n 0) ≡ r) (others : (k : ℕ) → (k ≡ get_or order n 0 → ⊥) → row_at u k ≡ row_at t k) where
  more : n < length order
  more = omega (arith, ok.full)

  same_rows : (k : ℕ) → Among k (in_use n order) → row_at u k ≡ row_at t k
  same_rows k m = others k (λ e. fresh_unused ok room (rw e at m))

  same-samples : (k : ℕ) → Among k (in_use n order) → sample_at positions u k ≡ sample_at positions t k
  same-samples k m = ap (shown positions) (same_rows k m)

  -- The members of a set that does not have the fresh number.
  pub opened-pick : (test : ℕ → Bool) → test (get_or order n 0) ≡ false
      → pick (sample_at positions u) test (in_use (n + 1) (opened n g order)) ≡ pick (sample_at positions t) test (in_use n order)
  opened-pick test e =
      ap (pick (sample_at positions u) test) (opened_used n g order gap.few more)
      ∙ pick_fresh (sample_at positions u) test (get_or order n 0) (take g order) (upper n g order) e
      ∙ ap (pick (sample_at positions u) test) (sym (used_parts n g order gap.few more))
      ∙ pick_table (sample_at positions t) (sample_at positions u) test (in_use n order) same-samples

  pub opened-members : (set : Set) → Within n order set → members positions u (n + 1) (opened n g order) set ≡ members positions t n order set
  opened-members set within = opened-pick (in_set set) (fresh_outside ok room set within)

  pub opened_partial : (old new : Set) → PartialOk positions t n order old → in_set new (get_or order n 0) ≡ not (total (shown positions r))
      → ((k : ℕ) → Among k (in_use n order) → in_set new k ≡ in_set old k) → PartialOk positions u (n + 1) (opened n g order) new
  opened_partial old new p fresh same k m = ⊎_elim first then ((opened_among n g order gap.few more k).0 m)
    where
      first : k ≡ get_or order n 0 → in_set new k ≡ not (total (sample_at positions u k))
      first e = ap (in_set new) e ∙ fresh ∙ ap (λ (row : Row). not (total (shown positions row))) (sym (ap (row_at u) e ∙ here))

      then : Among k (in_use n order) → in_set new k ≡ not (total (sample_at positions u k))
      then i = same k i ∙ p k i ∙ ap (λ (s : Sample). not (total s)) (sym (same-samples k i))

  pub opened_found : FoundAt positions u (n + 1) (opened n g order) r (get_or order n 0)
  opened_found = record { used = (opened_among n g order gap.few more (get_or order n 0)).1 (inl refl); same = ap (shown positions) here }

  -- The samples before and after the fresh one.
  below_fresh : (k : ℕ) → Among k (take g order) → before (sample_at positions u k) (sample_at positions u (get_or order n 0)) ≡ true
  below_fresh k m =
      let (i, p, q, e) = among_place g k order m in
      let used : Among k (in_use n order) = rw (← e) (among_at n i order (omega (arith, gap.few)) q) in
      let b : before (sample_at positions t (get_or order i 0)) (shown positions r) ≡ true = gap.lower i p in
      rw (same-samples k used, here, ← e) b

  above_fresh : (k : ℕ) → Among k (upper n g order) → before (sample_at positions u (get_or order n 0)) (sample_at positions u k) ≡ true
  above_fresh k m =
      let (i, p, q, d) = among_place (n - g) k (drop g order) m in
      let e : get_or order (g + i) 0 ≡ k = sym (get_or-drop g order i 0) ∙ d in
      let used : Among k (in_use n order) = rw (← e) (among_at n (g + i) order (omega (arith, gap.few)) (omega (arith, gap.few, more))) in
      let b : before (shown positions r) (sample_at positions t (get_or order (g + i) 0)) ≡ true = gap.higher (g + i) (omega arith) (omega (arith, gap.few)) in
      rw (same-samples k used, here, ← e) b

  pub opened_pool : RowOk positions r → length u ≡ 256 → PoolOk positions u (n + 1) (opened n g order)
  opened_pool good table =
      let no = opened_numbered n g order gap.few more (pool_numbered ok) in
      record {
        few = omega arith;
        full = no.full;
        numbers = no.numbers;
        once = no.once;
        rises = rw (opened_used n g order gap.few more) (fresh_rises (sample_at positions u) (get_or order n 0) (take g order) (upper n g order) rising below_fresh above_fresh);
        rows = λ k m. ⊎_elim (λ e. let d : row_at u k ≡ r = ap (row_at u) e ∙ here in rw d good) (λ i. rw (same_rows k i) (ok.rows k i)) ((opened_among n g order gap.few more k).0 m);
        table = table;
      }
    where
      rising : Rises (sample_at positions u) (take g order ++ upper n g order)
      rising = let q = rises_table (sample_at positions t) (sample_at positions u) (in_use n order) same-samples ok.rises in rw (used_parts n g order gap.few more) at q

-- The order once the numbers that are not held have gone out of use.
module _ (n : ℕ) (held : ℕ → Bool) (order : List ℕ) where
  -- How many stay.
  abbrev pub kept_of : ℕ
  kept_of = length (keep_if held (take n order))

  pub closed_rearranged : Rearranged (closed n held order) order
  unfolding closed
  closed_rearranged = record { sums = λ w. same w ∙ ap (sum w) (take-append-drop n order) }
    where
      same : (w : ℕ → ℕ) → sum w (closed n held order) ≡ sum w (take n order ++ drop n order)
      same w = simp sum_append (omega (arith, sum_parted w held (take n order)))

  pub closed_numbered : Numbered order → Numbered (closed n held order)
  closed_numbered ok = rearranged_numbered (closed n held order) order closed_rearranged ok

  pub closed_used : in_use kept_of (closed n held order) ≡ keep_if held (in_use n order)
  unfolding closed
  closed_used = take_at (keep_if held (take n order)) (keep_if (λ k. not (held k)) (take n order) ++ drop n order) kept_of refl

  pub closed_among : (k : ℕ) → Among k (in_use kept_of (closed n held order)) ↔ (Among k (in_use n order) × (held k ≡ true))
  closed_among k = rw closed_used (kept_among held (in_use n order) k)

  -- A set of held numbers.
  pub closed_within : (set : Set) → Within n order set → ((k : ℕ) → k < 256 → in_set set k ≡ true → held k ≡ true) → Within kept_of (closed n held order) set
  closed_within set within h k l e = (closed_among k).1 (within k l e, h k l e)

  module _ (positions : ℕ → ℕ) (t : Table) (ok : PoolOk positions t n order) where
    pub closed_partial : (partial : Set) → PartialOk positions t n order partial → PartialOk positions t kept_of (closed n held order) partial
    closed_partial partial p k m = p k ((closed_among k).0 m).0

    -- The members of a set of held numbers.
    pub closed-pick : (test : ℕ → Bool) → ((k : ℕ) → Among k (in_use n order) → test k ≡ true → held k ≡ true)
        → pick (sample_at positions t) test (in_use kept_of (closed n held order)) ≡ pick (sample_at positions t) test (in_use n order)
    closed-pick test h = rw closed_used (pick_kept (sample_at positions t) held test (in_use n order) h)

    pub closed_pool : PoolOk positions t kept_of (closed n held order)
    closed_pool =
        let no = closed_numbered (pool_numbered ok) in
        record {
          few = omega (arith, kept_fewer held (take n order), length-take-le n order (omega (arith, ok.few, ok.full)), ok.few);
          full = no.full;
          numbers = no.numbers;
          once = no.once;
          rises = rw closed_used (kept_rises (sample_at positions t) held (in_use n order) ok.rises);
          rows = λ k m. ok.rows k ((closed_among k).0 m).0;
          table = ok.table;
        }
