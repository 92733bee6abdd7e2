-- `sample::declared::Declared::signature` meets its contract: a number that is not below 0 is looked up among the declared predicates.
use Rattle.std.proofs.Common.{rules, ◌≡◌, refl, ◌∙◌, ℕ, pos, negsuc, ℤ, ◌<◌, ◌≤◌, length, take, MatchOption, Option, Some, None, Bor}
use Rattle.std.proofs.Math.Option.{none, some}
use Rattle.std.specs.Option.{option_copied}
use Rattle.std.specs.List.{HoldsAt}
use Rattle.std.specs.Int.{FitsUnsignedBits}
use native.Mathlib.Omega.{arith}
use Rattle.std.proofs.lemmas.List.{length-take-le, get_or-take}
use Rattle.rules.specs.Rows.{declared_as}
use Rattle.sample.specs.declared.declared.Signature.{Signature}
use Rattle.sample.specs.declared.declared.Declared.{Declared}
use Rattle.sample.specs.Declarations.{declared_of, signature_of, sorts_of}
use Rattle.sample.proofs.RowTests.{declared_below, declared_past}
use Rattle.sample.proofs.Tried.{value_read, value_not_read}
use Rattle.sample.proofs.declared.Declared.signature.Goals as goal

module _ (d : Declared) (few : d.count ≤ 16) (room : length d.predicates ≡ 16) where
  in_use : length (take d.count d.predicates) ≡ d.count
  in_use = length-take-le d.count d.predicates (rw room few)

  found : (q : ℕ) (s : Option (Bor Signature))
      → MatchOption s (length (take d.count d.predicates) ≤ q) (λ x. (q < length (take d.count d.predicates)) × HoldsAt (λ y. x.now ≡ y) (take d.count d.predicates) q)
      → MatchOption (option_copied s) (declared_as (pos q) (declared_of d) ≡ none) (λ s. (x : ℕ) × (s ≡ signature_of d x) × (declared_as (pos q) (declared_of d) ≡ some (sorts_of d x)))
  unfolding signature_of
  found q None h = declared_past d q (rw in_use at h)
  found q (Some x) h =
      let below : q < d.count = rw in_use at h.0 in
      (q, h.1 _ ∙ get_or-take d.count d.predicates q _ below, declared_below d q below)

  not_found : (p : ℤ) → ¬ (FitsUnsignedBits 64 p) → declared_as p (declared_of d) ≡ none
  unfolding declared_as
  not_found (pos q) h = declared_past d q (grind (arith, few))
  not_found (negsuc q) h = refl

pub returns-in_err-p : goal.returns-in_err-p
returns-in_err-p c =
    rw c.from_residual.ensures (not_found c.args.self c.requires (search rules) c.args.p (value_not_read 64 c.args.p c.ranges.p.sfits c.try_from.result c.try_from.ensures c.in_err-p.ensures.value))

pub returns : goal.returns
returns c =
    let e = value_read 64 c.args.p c.ranges.p.sfits c.try_from.result c.try_from.ensures c.in_ok-p.p c.in_ok-p.ensures.value in
    rw (e, c.copied.ensures) (found c.args.self c.requires (search rules) c.in_ok-p.p c.get.result c.get.ensures.lookup.3)
