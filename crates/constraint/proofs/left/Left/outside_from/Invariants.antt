-- `constraint::left::Left::outside_from` meets its contract: those written in front are those outside the set that the loop has passed.
use Rattle.std.proofs.Common.{◌≡◌, ◌≤◌, length, take}
use Rattle.words.specs.Sets.{in_set}
use Rattle.constraint.specs.Numbered.{plain, outside}
use Rattle.constraint.proofs.left.Left.outside_from.Given as goal

abbrev pub invariant-loop-i : goal.invariant-loop-i
invariant-loop-i l = record {
  few : l.kept ≤ l.i;
  room : length l.numbers ≡ 16;
  passed : plain (take l.kept l.numbers) ≡ outside (in_set l.set) (plain (take l.i l.samples));
}
