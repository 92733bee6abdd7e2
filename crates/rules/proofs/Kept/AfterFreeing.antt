-- After numbers were freed: no more constraints are live, each that lives is as it was, and their samples are among the earlier ones.
use mathlib.Core.Path.{◌≡◌}
use mathlib.Core.Bool.{Bool, true, false}
use mathlib.Core.List.{List}
use mathlib.Core.Option.{none, some}
use mathlib.Core.Logic.{inr, ⊎_map}
use Prim.Native.Nat.{ℕ, zero, suc, ◌≤◌}
use native.Mathlib.Omega.{arith}
use Rattle.rules.specs.Samples.{Sample}
use Rattle.rules.specs.Contents.{Constraint, Slot, is_live, count_if, live_count, slot_samples, in_constraints}
use Rattle.rules.specs.Redundancy.{lives_at}
use Rattle.rules.specs.Condition.{Mem}
use Rattle.rules.proofs.Laws.Sets.{append_mem}
use Rattle.rules.proofs.Kept.Freeing.{Freed, nothing, leaves, frees}

pub not_some : {A B : Type 0} {x : A} → none ≡ some x → B
not_some {x} e = absurd (let z : ◌≡◌ {A = ℕ} 0 1 = cc in omega arith)

count_if_up : (b : Bool) (m n : ℕ) → m ≤ n → count_if b m ≤ count_if b n
unfolding count_if
count_if_up true m n h = omega arith
count_if_up false m n h = h

count_if_most : (b : Bool) (m n : ℕ) → m ≤ n → m ≤ count_if b n
unfolding count_if
count_if_most true m n h = omega arith
count_if_most false m n h = h

pub freed_count : {l m : List Slot} → Freed l m → live_count m ≤ live_count l
unfolding live_count
freed_count nothing = omega arith
freed_count (leaves {x} {l} {m} f) = count_if_up (is_live x.lives) (live_count m) (live_count l) (freed_count f)
freed_count (frees {x} {l} {m} f) = count_if_most (is_live x.lives) (live_count m) (live_count l) (freed_count f)

pub freed_lives : {l m : List Slot} → Freed l m → (n : ℕ) (c : Constraint) → lives_at n m ≡ some c → lives_at n l ≡ some c
unfolding lives_at
freed_lives nothing n c e = e
freed_lives (leaves f) zero c e = e
freed_lives (leaves f) (suc n) c e = freed_lives f n c e
freed_lives (frees f) zero c e = not_some e
freed_lives (frees f) (suc n) c e = freed_lives f n c e

pub freed_samples : {l m : List Slot} → Freed l m → (s : Sample) → Mem s (in_constraints m) → Mem s (in_constraints l)
unfolding in_constraints
freed_samples nothing s k = k
freed_samples (leaves {x} {l} {m} f) s k =
    let here = slot_samples x.lives in
    (append_mem here (in_constraints l) s).1 (⊎_map (λ j. j) (λ j. freed_samples f s j) ((append_mem here (in_constraints m) s).0 k))
freed_samples (frees {x} {l} {m} f) s k = (append_mem (slot_samples x.lives) (in_constraints l) s).1 (inr (freed_samples f s k))
