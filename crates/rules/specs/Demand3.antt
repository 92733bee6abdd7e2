-- Demand 3, as statements without proofs: the page to read. The proofs stand in proofs/Demand3.antt.
use Rattle.std.specs.Prelude.{◌≡◌, Bool, true, false, List, [], ◌∷◌, ◌↔◌, ◌⊎◌, ℕ, suc, ◌≤◌, ℤ}
use Rattle.std.proofs.Math.Option.{Option, none, some}
use Rattle.rules.specs.Values.{Sort}
use Rattle.rules.specs.Samples.{Sample}
use Rattle.rules.specs.Contents.{Sign, positive, negative, Clause, Held, Contents, with_held}
use Rattle.rules.specs.Numbers.{contradiction, Answer, done, refused}
use Rattle.rules.specs.Rows.{rows_of, samples_in, clause_of}
use Rattle.rules.specs.Satisfying.{Assignment, Satisfies, holds, SatisfiesHeld}
use Rattle.rules.specs.Settling.{drawn, draw, Counts, size}
use Rattle.rules.specs.Checking.{Verdict, check_code}

-- An assignment satisfies what the store holds, waiting samples included; none does.
abbrev pub SatisfiedBy : Assignment → Contents → Type 0
SatisfiedBy a c = SatisfiesHeld c.declared a c.held

abbrev pub Unsatisfiable : Contents → Type 0
Unsatisfiable c = (a : Assignment) → SatisfiedBy a c → ⊥

abbrev pub SameAssignments : Contents → Contents → Type 0
SameAssignments c d = (a : Assignment) → SatisfiedBy a c ↔ SatisfiedBy a d

pub record NothingWaits (h : Held) : Type 0 where
  pub positives : h.waiting.positives ≡ []
  pub negatives : h.waiting.negatives ≡ []

-- A series of draws, each with its sign and whether the sample was kept.
pub data Draws : Held → Held → Counts → Type 0 where
  stop : {h : Held} → Draws h h (record { positives = 0; negatives = 0; draws = 0 })
  keep_positive : {h g e : Held} {p n d : ℕ} → draw h ≡ drawn positive true g → Draws g e (record { positives = p; negatives = n; draws = d })
      → Draws h e (record { positives = suc p; negatives = n; draws = suc d })
  keep_negative : {h g e : Held} {p n d : ℕ} → draw h ≡ drawn negative true g → Draws g e (record { positives = p; negatives = n; draws = d })
      → Draws h e (record { positives = p; negatives = suc n; draws = suc d })
  gone : {h g e : Held} {sign : Sign} {p n d : ℕ} → draw h ≡ drawn sign false g → Draws g e (record { positives = p; negatives = n; draws = d })
      → Draws h e (record { positives = p; negatives = n; draws = suc d })

-- "Settling either reports contradiction, and then no assignment satisfies what was held, or leaves nothing waiting and exactly the same
-- satisfying assignments, after at most as many draws as there were waiting samples (one that waits under both signs counts twice) and live
-- constraints." The counts are those of the draws made.
pub record SettlesTo (c d : Contents) (n : Counts) : Type 0 where
  pub rests : NothingWaits d.held
  pub same : SameAssignments c d
  pub bound : n.draws ≤ size c.held
  pub counts : Draws c.held d.held n

abbrev pub SettleKeeps : Contents → Answer Counts → Contents → Type 0
SettleKeeps c (done n) d = SettlesTo c d n
SettleKeeps c (refused r) d = (r ≡ contradiction) × Unsatisfiable c

-- "Checking such a store finds it contradictory exactly if no assignment satisfies what it held, waiting samples included."
abbrev pub FoundContradictory : Answer Verdict → Type 0
FoundContradictory v = (check_code v ≡ 9) ⊎ (check_code v ≡ 12)

abbrev pub CheckDecides : Contents → Answer Verdict → Type 0
CheckDecides c v = FoundContradictory v ↔ Unsatisfiable c

-- What these give for add: the outcome satisfies exactly what the store and the clause did, or 9 and nothing does.
abbrev pub SatisfiesParts : List (List Sort) → Assignment → List Sample → Option Sample → Type 0
SatisfiesParts declared a [] none = ⊥
SatisfiesParts declared a [] (some q) = Satisfies declared a positive q
SatisfiesParts declared a (s ∷ []) none = Satisfies declared a negative s
SatisfiesParts declared a (s ∷ []) (some q) = holds a (record { left = s ∷ []; right = some q }) ≡ true
SatisfiesParts declared a (s ∷ t ∷ l) r = holds a (record { left = s ∷ t ∷ l; right = r }) ≡ true

abbrev pub SatisfiesClause : List (List Sort) → Assignment → Clause → Type 0
SatisfiesClause declared a k = SatisfiesParts declared a k.left k.right

abbrev pub AddKeeps : Contents → Clause → Answer Bool → Contents → Type 0
AddKeeps c k (done is_new) d = (a : Assignment) → (SatisfiedBy a c × SatisfiesClause c.declared a k) ↔ SatisfiedBy a d
AddKeeps c k (refused r) d = r ≡ contradiction → (a : Assignment) → SatisfiedBy a c → SatisfiesClause c.declared a k → ⊥

abbrev pub clause_in : List ℤ → Bool → Contents → Clause
clause_in numbers has_right c = clause_of has_right (samples_in c.declared (rows_of numbers))

-- And for force, of the store that its losses left: settling that store.
abbrev pub AfterLosses : Contents → Option Held → Answer Counts → Contents → Type 0
AfterLosses c none v d = v ≡ refused contradiction
AfterLosses c (some h) v d = SettleKeeps (with_held h c) v d
