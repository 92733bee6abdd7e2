-- Worked points are played as questions to the rules, each beside the text that is promised: script lines, and questions that no script line asks.
use mathlib.Core.Bool.{Bool, true, false}
use mathlib.Core.List.{List, [], ◌∷◌, ◌++◌}
use mathlib.Core.Option.{none, some}
use Prim.Native.Nat.{ℕ, suc}
use Prim.Native.String.{String}
use Rattle.rules.specs.Samples.{Sample, covers, overlaps, single}
use Rattle.rules.specs.Contents.{Sign, side, Slot, Contents, new, is_live}
use Rattle.rules.specs.Rows.{row_of, sample_of}
use Rattle.rules.specs.Script.Bytes.{Bytes, text, newline}
use Rattle.rules.specs.Script.Reading.{read_sample}
use Rattle.rules.specs.Script.Printing.{spaced, print_sample}
use Rattle.rules.specs.Script.Running.{Played, play_line}

pub data Question : Type 0 where
  line : String → Question
  covering : String → String → Question
  overlapping : String → String → Question
  is_single : String → Question
  live_numbers : Question
  modified_numbers : Question
  kept_ones : Sign → Question
  waiting_ones : Sign → Question

infix 70 ◌gives◌
pub data Step : Type 0 where
  ◌gives◌ : Question → String → Step

-- The samples of words; a word that is no sample gives none, and then the answer is no.
unfoldable pub sample_word : Contents → String → List Sample
unfolding read_sample text sample_of row_of
sample_word c w = elim (read_sample c.declared (text w)) [ none ↦ [] | some row ↦ sample_of c.declared (row_of row) ∷ [] ]

unfoldable pub yes_no : Bool → Bytes
unfolding text
yes_no true = text "yes\n"
yes_no false = text "no\n"

unfoldable pub of_two : (Sample → Sample → Bool) → List Sample → List Sample → Bool
of_two test [] bs = false
of_two test (a ∷ as') [] = false
of_two test (a ∷ as') (b ∷ bs) = test a b

unfoldable pub of_one : (Sample → Bool) → List Sample → Bool
of_one test [] = false
of_one test (a ∷ as') = test a

unfoldable pub numbers_where : (Slot → Bool) → ℕ → List Slot → List ℕ
numbers_where test n [] = []
numbers_where test n (x ∷ xs) = elim (test x) as (λ b. List ℕ) [ true ↦ n ∷ numbers_where test (suc n) xs | false ↦ numbers_where test (suc n) xs ]

unfoldable pub listed : Contents → List Sample → Bytes
unfolding print_sample
listed c [] = newline ∷ []
listed c (s ∷ l) = 32 ∷ print_sample c.declared s ++ listed c l

-- What a question answers, and the contents after it.
unfoldable pub asked : Question → Contents → Played
unfolding play_line text yes_no of_two of_one sample_word covers overlaps single numbers_where is_live spaced listed side
asked (line l) c = play_line (text l) c
asked (covering a b) c = record { output = yes_no (of_two covers (sample_word c a) (sample_word c b)); contents = c }
asked (overlapping a b) c = record { output = yes_no (of_two overlaps (sample_word c a) (sample_word c b)); contents = c }
asked (is_single a) c = record { output = yes_no (of_one single (sample_word c a)); contents = c }
asked live_numbers c = record { output = spaced (numbers_where (λ x. is_live x.lives) 0 c.held.slots); contents = c }
asked modified_numbers c = record { output = spaced (numbers_where (λ x. x.modified) 0 c.held.slots); contents = c }
asked (kept_ones sign) c = record { output = listed c (side sign c.held.kept); contents = c }
asked (waiting_ones sign) c = record { output = listed c (side sign c.held.waiting); contents = c }

-- The answers to a point's questions, one after the other from a new store; and those promised.
unfoldable pub onto : Played → (Contents → List Bytes) → List Bytes
onto r more = r.output ∷ more r.contents

unfoldable pub play : List Step → Contents → List Bytes
unfolding onto asked
play [] c = []
play ((q gives a) ∷ steps) c = onto (asked q c) (λ d. play steps d)

unfoldable pub played : List (List Step) → List (List Bytes)
unfolding play new
played [] = []
played (p ∷ ps) = play p new ∷ played ps

unfoldable pub promise : List Step → List Bytes
unfolding text
promise [] = []
promise ((q gives a) ∷ steps) = (text a ++ (newline ∷ [])) ∷ promise steps

unfoldable pub promised : List (List Step) → List (List Bytes)
unfolding promise
promised [] = []
promised (p ∷ ps) = promise p ∷ promised ps
