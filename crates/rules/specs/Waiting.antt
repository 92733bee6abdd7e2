-- The waiting rule.
use Rattle.std.specs.Prelude.{Bool, cond, not, List}
use Rattle.rules.specs.Samples.{Sample}
use Rattle.rules.specs.Sets.{covered_by, keep}

-- A sample covered by a waiting one of its sign and predicate is not new.
unfoldable pub is_new : Sample → List Sample → Bool
unfolding covered_by
is_new s waiting = not (covered_by waiting s)

-- Otherwise it displaces those that it covers, and is new. Kept samples are not asked.
unfoldable pub wait : Sample → List Sample → List Sample
unfolding is_new keep
wait s waiting = cond (is_new s waiting) (keep s waiting) waiting
