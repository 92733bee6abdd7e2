-- `sample::lent::row_test` meets its contract: each way out is the rules' refusal at what the tests before it have found.
use Rattle.std.proofs.Common.{◌≡◌, Option, None, Result, Err}
use mathlib.Core.Bool.{not}
use Prim.Native.Nat.{◌^◌, ◌<◌}
use native.Mathlib.Omega.{arith}
use Rattle.std.proofs.lemmas.Int.{to_z-of_z}
use Rattle.std.specs.Option.{ok_or}
use Rattle.std.specs.Result.{IsErrAnd}
use Rattle.std.proofs.lemmas.Result.{err_from_is_err_and}
use Rattle.rules.specs.Numbers.{bad_value, when}
use Rattle.rules.specs.Rows.{row_of, row_refusal}
use Rattle.sample.specs.declared.lent.RowError.{RowError}
use Rattle.sample.specs.declared.lent.RowError.TheVariants.{Undeclared, BadMask}
use Rattle.sample.specs.Declarations.{sorts_of, positions_of, declared_of}
use Rattle.sample.specs.Tests.{refusal_of}
use Rattle.sample.proofs.RowTests.{not_declared, refused_mask, refused_values}
use Rattle.sample.proofs.lent.row_test.Goals as goal
use Rattle.sample.proofs.lent.row_test.Goals.{After-values_fit}

-- `?` hands up the error that `ok_or` put in place of nothing.
handed_up : {S T : Type 0} (s : Option S) (e f : RowError) (r : Result T RowError) → s ≡ None → ◌≡◌ {A = Result S RowError} (Err f) (ok_or s e) → IsErrAnd r (λ y. y ≡ f) → r ≡ Err e
handed_up s e f r none_there was is = let (y, at, same) = err_from_is_err_and r is in grind arith

pub returns-in_err-predicate : goal.returns-in_err-predicate
unfolding refusal_of
returns-in_err-predicate c =
    let e = c.in_err-predicate.ensures in
    let gone = rw e.ok_part at c.signature.ensures in
    rw (handed_up c.signature.result Undeclared c.in_err-predicate.field-0.0 c.from_residual.result e.ok_part e.value c.from_residual.ensures.1)
    (not_declared c.args.row.now (declared_of c.args.d) (grind (arith, to_z-of_z)))

pub mask-requires : goal.mask-requires
unfolding positions_of
mask-requires c =
    let (p, s, declared) = rw c.in_ok-predicate.ensures.ok_part at c.signature.ensures in
    rw s (c.requires.positions p)

pub returns-in_err-mask : goal.returns-in_err-mask
unfolding refusal_of positions_of
returns-in_err-mask c =
    let e = c.in_err-mask.ensures in
    let (p, s, declared) = rw c.in_ok-predicate.ensures.ok_part at c.signature.ensures in
    let gone = rw e.ok_part at c.mask.ensures in
    rw (handed_up c.mask.result BadMask c.in_err-mask.field-0.0 c.from_residual-in_err-mask.result e.ok_part e.value c.from_residual-in_err-mask.ensures.1)
    (refused_mask c.args.row.now c.args.d p (grind (arith, to_z-of_z)) (grind (arith, to_z-of_z)))

values_told : (c : After-values_fit) → when bad_value (not c.values_fit.result) ≡ row_refusal (declared_of c.args.d) (row_of c.args.row.now)
unfolding sorts_of positions_of
values_told c =
    let (p, s, declared) = rw c.in_ok-predicate.ensures.ok_part at c.signature.ensures in
    let (m, fits) = rw c.in_ok-mask.ensures.ok_part at c.mask.ensures in
    let below : c.in_ok-mask.mask < 2 ^ positions_of c.args.d p = rw s at fits in
    let fit = rw s at c.values_fit.ensures in
    refused_values c.args.row.now c.args.d p (grind (arith, to_z-of_z)) c.in_ok-mask.mask c.values_fit.result
    (grind (arith, to_z-of_z)) below (fit (positions_of c.args.d p) (c.requires.positions p) below)

pub returns-then-not-values_fit : goal.returns-then-not-values_fit
unfolding refusal_of when
returns-then-not-values_fit c = rw c.if-not-values_fit.true at (values_told (goal.at.returns-then-not-values_fit c).After-values_fit)

pub returns : goal.returns
unfolding refusal_of when
returns c = rw c.if-not-values_fit.false at (values_told (goal.at.returns c).After-values_fit)
