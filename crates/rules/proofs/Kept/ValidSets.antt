-- Valid sets stay valid: when a sample is kept or waits, when members go, and on both sides when one side changes.
use mathlib.Core.Path.{◌≡◌}
use mathlib.Core.Bool.{Bool, true, false}
use mathlib.Core.List.{List, ◌∷◌}
use mathlib.Core.Logic.{◌⊎◌, inl, inr, ⊎_elim}
use Rattle.rules.specs.Values.{Sort}
use Rattle.rules.specs.Samples.{Sample, valid_sample, covers}
use Rattle.rules.specs.Sets.{any, without, covered_by, keep}
use Rattle.rules.specs.Waiting.{is_new, wait}
use Rattle.rules.specs.Contents.{Sign, positive, negative, Sides, side, with_side, wait_as}
use Rattle.rules.specs.Condition.{Mem, Rising, ValidSet}
use Rattle.rules.proofs.Laws.Bools.{both, by_test, not-true, refuted}
use Rattle.rules.proofs.Laws.Sets.{all_mem, mem_all, all_sub, any_true, any_mem, any_none, without_mem, keep_mem, without_rising, keep_rising, keep_apart}

-- A test that no member passes: no member of a part does.
pub any_part : (t : Sample → Bool) (l m : List Sample) → ((x : Sample) → Mem x m → Mem x l) → any t l ≡ false → any t m ≡ false
any_part t l m f n = refuted (any t m) (λ h. let r = any_true t m h in both (any_mem t l r.0 (f r.0 r.1) r.2) n)

-- What neither s nor a member covers is not covered once s is kept.
pub keep_uncovered : (s : Sample) (l : List Sample) (x : Sample) → covered_by l x ≡ false → covers s x ≡ false → covered_by (keep s l) x ≡ false
unfolding covered_by
keep_uncovered s l x n c =
    refuted (any (λ k. covers k x) (keep s l)) (λ h. let r = any_true (λ k. covers k x) (keep s l) h in go r.0 r.2 ((keep_mem s l r.0).0 r.1))
  where
    go : (k : Sample) → covers k x ≡ true → (k ≡ s) ⊎ (Mem k l × (covers s k ≡ false)) → ⊥
    go k h (inl e) = both (rw e at h) c
    go k h (inr m) = both h (any_none (λ j. covers j x) l n k m.0)

-- What holds of both sides and of a new list holds of both sides with the list on one of them.
pub with_side_lem : (P : List Sample → Type 0) (sign : Sign) (l : List Sample) (x : Sides) → P l → ((g : Sign) → P (side g x)) → (g : Sign) → P (side g (with_side sign l x))
unfolding side with_side
with_side_lem P positive l x p q positive = p
with_side_lem P positive l x p q negative = q negative
with_side_lem P negative l x p q positive = q positive
with_side_lem P negative l x p q negative = p

module _ (declared : List (List Sort)) where
  -- A rising part of a valid set.
  pub part_valid : (l m : List Sample) → Rising m → ((x : Sample) → Mem x m → Mem x l) → ValidSet declared l → ValidSet declared m
  part_valid l m r f v =
      record { valid = all_sub (λ s. valid_sample declared s ≡ true) l m f v.valid; rising = r; apart = λ x y i j. v.apart x y (f x i) (f y j) }

  pub without_valid : (t : Sample → Bool) (l : List Sample) → ValidSet declared l → ValidSet declared (without t l)
  without_valid t l v = part_valid l (without t l) (without_rising t l v.rising) (λ x m. ((without_mem t l x).0 m).0) v

  pub rest_valid : (s : Sample) (l : List Sample) → ValidSet declared (s ∷ l) → ValidSet declared l
  rest_valid s l v = part_valid (s ∷ l) l v.rising.1 (λ x m. inr m) v

  -- A valid sample that no member covers is kept.
  pub keep_valid : (s : Sample) (l : List Sample) → valid_sample declared s ≡ true → covered_by l s ≡ false → ValidSet declared l → ValidSet declared (keep s l)
  keep_valid s l p n v =
      record { valid = mem_all (λ x. valid_sample declared x ≡ true) (keep s l) each; rising = keep_rising s l v.rising; apart = keep_apart s l n v.apart }
    where
      each : (x : Sample) → Mem x (keep s l) → valid_sample declared x ≡ true
      each x m = ⊎_elim (λ e. rw e p) (λ k. all_mem (λ y. valid_sample declared y ≡ true) l v.valid x k.0) ((keep_mem s l x).0 m)

  pub wait_set_valid : (s : Sample) (l : List Sample) → valid_sample declared s ≡ true → ValidSet declared l → ValidSet declared (wait s l)
  unfolding wait is_new
  wait_set_valid s l p v = by_test (ValidSet declared) (is_new s l) (λ e. keep_valid s l p (not-true (covered_by l s) e) v) (λ e. v)

  -- A sample that waits, where the sets were valid.
  pub wait_valid : (sign : Sign) (s : Sample) (waiting : Sides) → valid_sample declared s ≡ true
      → ((g : Sign) → ValidSet declared (side g waiting)) → (g : Sign) → ValidSet declared (side g (wait_as sign s waiting))
  unfolding wait_as
  wait_valid sign s waiting p w = with_side_lem (ValidSet declared) sign (wait s (side sign waiting)) waiting (wait_set_valid s (side sign waiting) p (w sign)) w
