-- `sample::lent::row_into` meets its contract: the mask stands at `at`, the values after it, and the rest is as it was.
use Rattle.std.proofs.Common.{arith, ◌≡◌, ◌∙◌, List, ◌∷◌, ◌++◌, ℕ, ◌+◌, ◌<◌, ◌≤◌, ℤ, pos, length, get_or, set, take, drop}
use Rattle.std.proofs.Math.Seq.{paste}
use Rattle.std.proofs.lemmas.Grind.{common_steps}
use Rattle.std.proofs.lemmas.List.Edits.{paste_none, paste_more, paste_all}
use Rattle.std.proofs.lemmas.Int.{to_z-of_z}
use native.Mathlib.Nat.{add-zero}
use Rattle.sample.specs.Tests.{written_at}
use Rattle.sample.proofs.lent.row_into.Goals as goal

module _ (out shown : List ℤ) (at : ℕ) (room : at + 7 ≤ length out) (seven : length shown ≡ 7) where
  -- One more number written.
  turn : (i : ℕ) (x : List ℤ) (v : ℤ) → i < 7 → x ≡ paste out at shown i → v ≡ get_or shown i (pos 0) → set x (at + i) v ≡ paste out at shown (i + 1)
  turn i x v less before value = rw (before, value) (paste_more out at shown i (pos 0) (omega arith) (omega arith))

  first : (m : ℤ) → m ≡ get_or shown 0 (pos 0) → set out at m ≡ paste out at shown 1
  first m value = rw add-zero at (turn 0 out m (omega arith) (paste_none out at shown) value)

  -- All seven.
  all_written : (m a b c d e f : ℤ) → m ≡ get_or shown 0 (pos 0) → a ≡ get_or shown 1 (pos 0) → b ≡ get_or shown 2 (pos 0) → c ≡ get_or shown 3 (pos 0)
      → d ≡ get_or shown 4 (pos 0) → e ≡ get_or shown 5 (pos 0) → f ≡ get_or shown 6 (pos 0)
      → set (set (set (set (set (set (set out at m) (at + 1) a) (at + 2) b) (at + 3) c) (at + 4) d) (at + 5) e) (at + 6) f ≡ take at out ++ (shown ++ drop (at + 7) out)
  all_written m a b c d e f is_m is_a is_b is_c is_d is_e is_f =
      let one = first m is_m in
      let two = turn 1 _ a (omega arith) one is_a in
      let three = turn 2 _ b (omega arith) two is_b in
      let four = turn 3 _ c (omega arith) three is_c in
      let five = turn 4 _ d (omega arith) four is_d in
      let six = turn 5 _ e (omega arith) five is_e in
      turn 6 _ f (omega arith) six is_f ∙ paste_all out at shown 7 (omega (arith, seven))

pub returns : goal.returns
unfolding written_at
returns c =
    all_written c.args.out.now (pos c.args.r.mask ∷ c.args.r.v) c.args.at c.requires (grind (arith, common_steps))
    _ _ _ _ _ _ _
    (grind (arith, to_z-of_z)) (grind (arith, to_z-of_z)) (grind (arith, to_z-of_z)) (grind (arith, to_z-of_z)) (grind (arith, to_z-of_z)) (grind (arith, to_z-of_z)) (grind (arith, to_z-of_z))
