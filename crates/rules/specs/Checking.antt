-- Check: settle, then seek a kept positive and a kept negative that overlap.
use Rattle.std.specs.Prelude.{cond, List, [], ◌∷◌, ℕ, ℤ, pos, replicate}
use Rattle.rules.specs.Sizes.{shown_size}
use Rattle.rules.specs.Samples.{Sample, overlaps}
use Rattle.rules.specs.Contents.{Sides, Contents, with_held}
use Rattle.rules.specs.Numbers.{Answer, Outcome, done, refused, is_marked, contradiction, number, done_number, overlap_number, when, refuse, unless}
use Rattle.rules.specs.Rows.{shown_row}
use Rattle.rules.specs.Settling.{Settled, contradicted, settled, settle_held}

pub data Verdict : Type 0 where
  clear : Verdict
  overlap : Sample → Sample → Verdict

-- The first by predicate, positive, negative: the sets stand in that order.
unfoldable pub seek_negative : Sample → List Sample → Verdict → Verdict
unfolding overlaps
seek_negative p [] later = later
seek_negative p (n ∷ ns) later = let rest = seek_negative p ns later in cond (overlaps p n) (overlap p n) rest

unfoldable pub seek : List Sample → List Sample → Verdict
unfolding seek_negative
seek [] ns = clear
seek (p ∷ ps) ns = seek_negative p ns (seek ps ns)

unfoldable pub verdict_on : Sides → Verdict
unfolding seek
verdict_on kept = seek kept.positives kept.negatives

unfoldable pub check_outcome : Contents → Settled → Outcome Verdict
unfolding refuse verdict_on with_held
check_outcome c contradicted = refuse contradiction c
check_outcome c (settled h n) = record { answer = done (verdict_on h.kept); contents = with_held h c }

-- The call.
unfoldable pub check : Contents → Outcome Verdict
unfolding unless when check_outcome settle_held
check c = unless (when is_marked c.marked) c (check_outcome c (settle_held c.held))

-- A pair is returned with 12, as predicate and shown rows; beside any other number they are 0.
unfoldable pub verdict_number : Verdict → ℕ
verdict_number clear = done_number
verdict_number (overlap p n) = overlap_number

unfoldable pub check_code : Answer Verdict → ℕ
unfolding number verdict_number
check_code (done v) = verdict_number v
check_code (refused r) = number r

pub record Pair : Type 0 where
  pub predicate : ℕ
  pub positive_row : List ℤ
  pub negative_row : List ℤ

abbrev pub no_pair : Pair
no_pair = record { predicate = 0; positive_row = replicate shown_size (pos 0); negative_row = replicate shown_size (pos 0) }

unfoldable pub verdict_pair : Verdict → Pair
unfolding shown_row
verdict_pair clear = no_pair
verdict_pair (overlap p n) = record { predicate = p.pred; positive_row = shown_row p; negative_row = shown_row n }

unfoldable pub check_pair : Answer Verdict → Pair
unfolding verdict_pair
check_pair (done v) = verdict_pair v
check_pair (refused r) = no_pair
