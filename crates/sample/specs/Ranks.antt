-- How two samples stand in the order, and two rows by their predicate and six positions, as the code's Ordering.
use Rattle.std.specs.Prelude.{Bool, cond, map}
use Rattle.std.specs.declared.cmp.Ordering.{Ordering}
use Rattle.std.specs.declared.cmp.Ordering.TheVariants.{Less, Equal, Greater}
use Rattle.std.specs.Ordering.{ordering_then, nat_cmp, int_cmp}
use Rattle.std.specs.Option.{option_cmp}
use Rattle.std.specs.Cmp.Lexicographic.{slice_cmp}
use Rattle.rules.specs.Samples.{Position, Sample, before_at, before}
use Rattle.rules.specs.Rows.{positions_from}
use Rattle.sample.specs.declared.row.Row.{Row}
use Rattle.sample.specs.Options.{to_code}

unfoldable pub rank_by : Bool → Bool → Ordering
rank_by is_before is_after = cond is_before Less (cond is_after Greater Equal)

unfoldable pub rank_at : Position → Position → Ordering
unfolding rank_by
rank_at x y = rank_by (before_at x y) (before_at y x)

unfoldable pub rank_of : Sample → Sample → Ordering
unfolding rank_by
rank_of a b = rank_by (before a b) (before b a)

-- Of any two rows, in order or not: by predicate, then by the positions that the code compares.
unfoldable pub rank_rows : Row → Row → Ordering
unfolding positions_from
rank_rows a b = ordering_then (nat_cmp a.pred.0 b.pred.0) (slice_cmp (option_cmp int_cmp) (map to_code (positions_from a.mask a.v 6 0)) (map to_code (positions_from b.mask b.v 6 0)))
