-- What the pool's functions answer.
use Rattle.std.specs.Prelude.{◌≡◌, Bool, true, cond, not, List, ◌∷◌, ◌++◌, ℕ, suc, ◌-◌, ◌≤◌, ◌<◌, get_or, take, drop, Option, Some, None, is_some, Result, Ok, Err}
use Rattle.std.proofs.Math.Option.{Option as RuleOption, none, some}
use Rattle.rules.specs.Samples.{Sample, covers, before}
use Rattle.rules.specs.Sets.{covered_by, keep, without}
use Rattle.rules.specs.Forcing.{names}
use Rattle.rules.specs.Waiting.{is_new, wait}
use Rattle.words.specs.Sets.{in_set}
use Rattle.words.specs.declared.set.Set.{Set}
use Rattle.sample.specs.declared.numbers.SampleNo.{SampleNo}
use Rattle.sample.specs.declared.row.Row.{Row}
use Rattle.sample.specs.Rows.{shown, RowOk}
use Rattle.pool.specs.declared.covering.Kept.{Kept}
use Rattle.pool.specs.declared.pool.Pool.{Pool}
use Rattle.pool.specs.Picks.{keep_if, Among}
use Rattle.pool.specs.Pools.{Table, row_at, sample_at, in_use, members, PoolOk, PartialOk, Within}

-- A pool's own: the numbers in use, the samples of a set, and when all is in order.
abbrev pub used : Pool → List ℕ
used p = in_use p.order.count p.order.numbers

abbrev pub samples : (ℕ → ℕ) → Pool → Set → List Sample
samples positions p set = members positions p.rows p.order.count p.order.numbers set

abbrev pub InOrder : (ℕ → ℕ) → Pool → Type 0
InOrder positions p = PoolOk positions p.rows p.order.count p.order.numbers

abbrev pub PartialTold : (ℕ → ℕ) → Pool → Type 0
PartialTold positions p = PartialOk positions p.rows p.order.count p.order.numbers p.partial

abbrev pub WithinUsed : Pool → Set → Type 0
WithinUsed p set = Within p.order.count p.order.numbers set

-- Whether the sample of number a covers that of number b.
abbrev pub CoversNo : Pool → ℕ → ℕ → Bool → Type 0
CoversNo p a b r = (positions : ℕ → ℕ) → RowOk positions (row_at p.rows a) → RowOk positions (row_at p.rows b) → r ≡ covers (sample_at positions p.rows a) (sample_at positions p.rows b)

-- Whether a sample of the set covers number s.
abbrev pub CoveredIn : Pool → Set → ℕ → Bool → Type 0
CoveredIn p set s r = (positions : ℕ → ℕ) → InOrder positions p → PartialTold positions p → WithinUsed p set → Among s (used p)
    → r ≡ covered_by (samples positions p set) (sample_at positions p.rows s)

-- The numbers in use whose samples number s covers.
pub record Below (positions : ℕ → ℕ) (t : Table) (n : ℕ) (order : List ℕ) (s : ℕ) (r : Set) : Type 0 where
  pub covered : (k : ℕ) → Among k (in_use n order) → in_set r k ≡ covers (sample_at positions t s) (sample_at positions t k)
  pub within : Within n order r

abbrev pub IsBelow : Pool → ℕ → Set → Type 0
IsBelow p s r = (positions : ℕ → ℕ) → InOrder positions p → PartialTold positions p → Among s (used p) → Below positions p.rows p.order.count p.order.numbers s r

-- The set after an answer: as it was, or the new one.
abbrev pub set_after : Set → Option Set → Set
set_after set None = set
set_after set (Some new) = new

abbrev pub kept_after : Set → Option Kept → Set
kept_after set None = set
kept_after set (Some new) = new.set

-- A sample that waits, if it is new.
pub record Waits (positions : ℕ → ℕ) (t : Table) (n : ℕ) (order : List ℕ) (waiting : Set) (s : ℕ) (r : Option Set) : Type 0 where
  pub set : members positions t n order (set_after waiting r) ≡ wait (sample_at positions t s) (members positions t n order waiting)
  pub fresh : is_some r ≡ is_new (sample_at positions t s) (members positions t n order waiting)
  pub within : Within n order (set_after waiting r)

abbrev pub WaitsIn : Pool → Set → ℕ → Option Set → Type 0
WaitsIn p waiting s r = (positions : ℕ → ℕ) → InOrder positions p → PartialTold positions p → WithinUsed p waiting → Among s (used p)
    → Waits positions p.rows p.order.count p.order.numbers waiting s r

-- A drawn sample: gone if a kept one covers it; else it is kept, and kept ones that it covers go.
pub record Keeps (positions : ℕ → ℕ) (t : Table) (n : ℕ) (order : List ℕ) (kept : Set) (s : ℕ) (r : Option Kept) : Type 0 where
  pub asked : is_some r ≡ not (covered_by (members positions t n order kept) (sample_at positions t s))
  pub set : members positions t n order (kept_after kept r) ≡ cond (is_some r) (keep (sample_at positions t s) (members positions t n order kept)) (members positions t n order kept)
  pub within : Within n order (kept_after kept r)
  pub below : (k : Kept) → r ≡ Some k → Below positions t n order s k.below

abbrev pub KeepsIn : Pool → Set → ℕ → Option Kept → Type 0
KeepsIn p kept s r = (positions : ℕ → ℕ) → InOrder positions p → PartialTold positions p → WithinUsed p kept → Among s (used p)
    → Keeps positions p.rows p.order.count p.order.numbers kept s r

-- The samples of a predicate, and a set without them.
pub record Naming (positions : ℕ → ℕ) (t : Table) (n : ℕ) (order : List ℕ) (p : ℕ) (r : Set) : Type 0 where
  pub named : (k : ℕ) → Among k (in_use n order) → in_set r k ≡ names p (sample_at positions t k)
  pub within : Within n order r

-- A table that has the predicates of the pool's rows at every number in use; masks and values may be others.
abbrev pub SamePredicates : Pool → Table → Type 0
SamePredicates p t = (k : ℕ) → Among k (used p) → (row_at t k).pred.0 ≡ (row_at p.rows k).pred.0

-- Both are said of every table in order that has these predicates, the pool's own among them: the answer comes from the predicates alone.
abbrev pub NamingIn : Pool → ℕ → Set → Type 0
NamingIn p pred r = (positions : ℕ → ℕ) (t : Table) → PoolOk positions t p.order.count p.order.numbers → SamePredicates p t → Naming positions t p.order.count p.order.numbers pred r

pub record Forgets (positions : ℕ → ℕ) (t : Table) (n : ℕ) (order : List ℕ) (set : Set) (p : ℕ) (r : Set) : Type 0 where
  pub is : members positions t n order r ≡ without (names p) (members positions t n order set)
  pub within : Within n order set → Within n order r

abbrev pub ForgetsIn : Pool → Set → ℕ → Set → Type 0
ForgetsIn p set pred r = (positions : ℕ → ℕ) (t : Table) → PoolOk positions t p.order.count p.order.numbers → SamePredicates p t → Forgets positions t p.order.count p.order.numbers set pred r

-- The first number of the order that is in the set.
unfoldable pub first_no : Option SampleNo → RuleOption ℕ
first_no None = none
first_no (Some s) = some s.0

-- Where a row stands: the number whose sample it is, or the place that it would take.
pub record FoundAt (positions : ℕ → ℕ) (t : Table) (n : ℕ) (order : List ℕ) (r : Row) (k : ℕ) : Type 0 where
  pub used : Among k (in_use n order)
  pub same : sample_at positions t k ≡ shown positions r

pub record GapAt (positions : ℕ → ℕ) (t : Table) (n : ℕ) (order : List ℕ) (r : Row) (g : ℕ) : Type 0 where
  pub few : g ≤ n
  pub lower : (i : ℕ) → i < g → before (sample_at positions t (get_or order i 0)) (shown positions r) ≡ true
  pub higher : (i : ℕ) → g ≤ i → i < n → before (shown positions r) (sample_at positions t (get_or order i 0)) ≡ true

abbrev pub Placed : (ℕ → ℕ) → Table → ℕ → List ℕ → Row → Result SampleNo ℕ → Type 0
Placed positions t n order r (Ok s) = FoundAt positions t n order r s.0
Placed positions t n order r (Err g) = GapAt positions t n order r g

abbrev pub Seeks : Pool → Row → Result SampleNo ℕ → Type 0
Seeks p r place = (positions : ℕ → ℕ) → InOrder positions p → RowOk positions r → Placed positions p.rows p.order.count p.order.numbers r place

-- The first free number moves down to place g.
unfoldable pub opened : ℕ → ℕ → List ℕ → List ℕ
opened n g order = take g order ++ (get_or order n 0 ∷ (take (n - g) (drop g order) ++ drop (suc n) order))

-- The numbers in use that are held come first, then those that are not, then the free ones.
unfoldable pub closed : ℕ → (ℕ → Bool) → List ℕ → List ℕ
closed n held order = keep_if held (take n order) ++ (keep_if (λ k. not (held k)) (take n order) ++ drop n order)
