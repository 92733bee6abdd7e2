-- `constraint::left::Left::outside_from` meets its contract: the next sample is in the set, or it is written behind those kept.
use Rattle.std.proofs.Common.{◌<◌, length, ap, sym, ◌∙◌, arith, rules, length-take}
use Rattle.std.proofs.Math.ListN.{length-set}
use Rattle.std.proofs.lemmas.List.{take-take, take_all}
use Rattle.words.specs.Sets.{in_set}
use Rattle.constraint.specs.Numbered.{plain, outside}
use Rattle.constraint.proofs.Numbers.{one_gone, one_kept}
use Rattle.constraint.proofs.Losing.{none_lost}
use Rattle.constraint.proofs.left.Left.outside_from.Goals as goal
use Rattle.constraint.proofs.left.Left.outside_from.Goals.{then-not-has, else-not-has}

pub loop-i-init : goal.loop-i-init
loop-i-init c =
    let a = c.args in
    record {
      few = omega arith;
      room = search rules;
      passed = rw c.samples-samples.ensures (ap plain (sym (take-take a.at a.self.count a.self.numbers c.requires.few)) ∙ sym (none_lost (in_set a.set) _ c.requires.free));
    }

pub loop-i-preserved : goal.loop-i-preserved
loop-i-preserved c =
    let p = c.loop-i in
    let set = in_set c.args.set in
    let items = c.samples-samples.result.now in
    let room : p.kept < length p.numbers = omega (arith, simp length-take at (ap length c.samples-samples.ensures), c.args.self.few) in
    elim c.if-not-has.branch [
      | then-not-has w ↦ rw (w.numbers-is, w.kept-is) record {
        few = omega arith;
        room = simp length-set p.invariant.room;
        passed = one_kept set items p.numbers p.i p.kept _ c.loop-i-test.true room p.invariant.passed (sym c.has.ensures ∙ w.if-not-has.true);
      }
      | else-not-has w ↦ rw (w.numbers-is, w.kept-is) record {
        few = omega arith;
        room = p.invariant.room;
        passed = one_gone set items p.numbers p.i p.kept _ c.loop-i-test.true room p.invariant.passed (sym c.has.ensures ∙ w.if-not-has.false);
      }
    ]

pub returns : goal.returns
returns c = c.loop-i.invariant.passed ∙ (rw (take_all c.loop-i.i c.samples-samples.result.now c.loop-i-test.false) (ap (λ l. outside (in_set c.args.set) (plain l)) c.samples-samples.ensures))
