-- `sample::declared::Declared::none` meets its contract: each of the 16 signatures has no position.
use Rattle.std.proofs.Common.{refl, arith, ◌≤◌, get_or, replicate, ℕ, zero, suc}
use Rattle.sample.specs.declared.declared.Signature.{Signature}
use Rattle.sample.specs.Declarations.{declared_of, declared_from, positions_of, signature_of}
use Rattle.sample.proofs.declared.Declared.none.Goals as goal

abbrev unused : Signature
unused = record { positions = 0; truths = 0 }

no_position : (n p : ℕ) → (get_or (replicate n unused) p unused).positions ≤ 6
no_position zero p = omega arith
no_position (suc n) zero = omega arith
no_position (suc n) (suc p) = no_position n p

pub returns : goal.returns
unfolding declared_of declared_from positions_of signature_of
returns c = (record { few = omega arith; room = refl; positions = no_position 16 }, refl)
