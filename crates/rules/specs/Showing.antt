-- Show P, without settling, into one lent list.
use Rattle.std.specs.Prelude.{List, [], ◌∷◌, ◌++◌, ℕ, ℤ, ltb, length, drop}
use Rattle.std.proofs.Math.Option.{Option, none, some}
use Rattle.rules.specs.Samples.{Sample, single}
use Rattle.rules.specs.Sets.{only, include_all}
use Rattle.rules.specs.Contents.{Held, Contents, in_constraints}
use Rattle.rules.specs.Numbers.{Refusal, Answer, done, refused, short_output, when, first_of}
use Rattle.rules.specs.Rows.{declared_as, natural, shown_rows}
use Rattle.rules.specs.Forcing.{names, if_undeclared}

-- Positives, negatives, unclassified (in live constraints), single positives, single negatives, each rising.
pub record Groups : Type 0 where
  pub positives : List Sample
  pub negatives : List Sample
  pub unclassified : List Sample
  pub single_positives : List Sample
  pub single_negatives : List Sample

unfoldable pub groups_of : List Sample → List Sample → List Sample → Groups
unfolding only single
groups_of ps ns us = record { positives = ps; negatives = ns; unclassified = us; single_positives = only single ps; single_negatives = only single ns }

unfoldable pub groups : ℕ → Held → Groups
unfolding groups_of only names include_all in_constraints
groups p h = groups_of (only (names p) h.kept.positives) (only (names p) h.kept.negatives) (include_all (only (names p) (in_constraints h.slots)) [])

unfoldable pub in_order : Groups → List Sample
in_order g = g.positives ++ (g.negatives ++ (g.unclassified ++ (g.single_positives ++ g.single_negatives)))

-- The five counts.
pub record GroupCounts : Type 0 where
  pub positives : ℕ
  pub negatives : ℕ
  pub unclassified : ℕ
  pub single_positives : ℕ
  pub single_negatives : ℕ

abbrev pub no_groups : GroupCounts
no_groups = record { positives = 0; negatives = 0; unclassified = 0; single_positives = 0; single_negatives = 0 }

unfoldable pub group_counts : Groups → GroupCounts
group_counts g =
    record {
      positives = length g.positives;
      negatives = length g.negatives;
      unclassified = length g.unclassified;
      single_positives = length g.single_positives;
      single_negatives = length g.single_negatives;
    }

-- The answer, and the lent list afterwards. The contents stay as they are, and a marked store can be shown.
pub record Shown : Type 0 where
  pub answer : Answer GroupCounts
  pub list : List ℤ

-- Numbers after the rows stay.
unfoldable pub written : List ℤ → List ℤ → List ℤ
written rows out = rows ++ drop (length rows) out

-- Order: 1, 11.
unfoldable pub show_refusal : ℤ → List ℤ → List ℤ → Contents → Option Refusal
unfolding first_of if_undeclared declared_as when
show_refusal p rows out c = first_of (if_undeclared (declared_as p c.declared) ∷ when short_output (ltb (length out) (length rows)) ∷ [])

unfoldable pub show_unless : Option Refusal → Groups → List ℤ → List ℤ → Shown
unfolding group_counts written
show_unless none g rows out = record { answer = done (group_counts g); list = written rows out }
show_unless (some r) g rows out = record { answer = refused r; list = out }

-- The call.
unfoldable pub show : ℤ → List ℤ → Contents → Shown
unfolding show_unless show_refusal shown_rows in_order groups natural
show p out c =
    let g = groups (natural p) c.held in
    let rows = shown_rows (in_order g) in
    show_unless (show_refusal p rows out c) g rows out
