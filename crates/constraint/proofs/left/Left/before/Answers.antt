-- `constraint::left::Left::before` meets its contract: the loop ends at the first sample that is in the set, or behind the last.
use Rattle.std.proofs.Common.{◌<◌, length, refl, ap, sym, ◌∙◌, arith, length-take, lt-ltb}
use Rattle.words.specs.Sets.{in_set}
use Rattle.constraint.specs.Numbered.{plain, any_no, samples_of}
use Rattle.constraint.proofs.Numbers.{none_more, any_at}
use Rattle.constraint.proofs.left.Left.before.Goals as goal

pub loop-i-init : goal.loop-i-init
unfolding plain any_no
loop-i-init c = refl

pub loop-i-preserved : goal.loop-i-preserved
loop-i-preserved c =
    none_more (in_set c.args.set) (samples_of c.args.self.now) c.loop-i.i _ (rw c.samples-s-items.ensures at c.loop-i-test.true) c.loop-i.invariant
    (sym (rw c.samples-s-items.ensures at c.has.ensures) ∙ c.if-has.false)

pub returns-then-has-clause-found : goal.returns-then-has-clause-found
returns-then-has-clause-found c =
    let here : c.loop-i.i < c.args.self.now.count = omega (arith, simp length-take at (ap length c.samples-s-items.ensures)) in
    lt-ltb c.loop-i.i c.args.self.now.count here
    ∙ sym (any_at (in_set c.args.set) (samples_of c.args.self.now) c.loop-i.i _ (rw c.samples-s-items.ensures at c.loop-i-test.true) (sym (rw c.samples-s-items.ensures at c.has.ensures) ∙ c.if-has.true))
