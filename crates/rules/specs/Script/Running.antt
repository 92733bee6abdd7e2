-- The whole output for a whole input.
use Rattle.std.specs.Prelude.{cond, List, [], ◌∷◌, ◌++◌, ℕ, ℤ, ltb, length}
use Rattle.std.proofs.Math.Option.{Option, none, some}
use Rattle.rules.specs.Contents.{Contents, new}
use Rattle.rules.specs.Numbers.{Refusal, Answer, done, refused, Outcome}
use Rattle.rules.specs.Rows.{declared_as, natural}
use Rattle.rules.specs.Declaring.{declare}
use Rattle.rules.specs.Adding.{add}
use Rattle.rules.specs.Settling.{settle}
use Rattle.rules.specs.Checking.{check}
use Rattle.rules.specs.Forcing.{force, if_undeclared}
use Rattle.rules.specs.Showing.{Groups, groups}
use Rattle.rules.specs.Script.Bytes.{Bytes, text, lines}
use Rattle.rules.specs.Script.Reading.{Call, declares, adds, settles, checks, forces, asks, read_line}
use Rattle.rules.specs.Script.Printing.{print_declared, print_added, print_settled, print_checked, print_forced, print_shown}

-- What a line prints, and the contents after it.
pub record Played : Type 0 where
  pub output : Bytes
  pub contents : Contents

unfoldable pub played : {A : Type 0} → (Answer A → Bytes) → Outcome A → Played
played print o = record { output = print o.answer; contents = o.contents }

unfoldable pub asked_if : Option Refusal → Groups → Answer Groups
asked_if none g = done g
asked_if (some r) g = refused r

unfoldable pub ask : ℤ → Contents → Answer Groups
unfolding asked_if if_undeclared declared_as groups natural
ask p c = asked_if (if_undeclared (declared_as p c.declared)) (groups (natural p) c.held)

unfoldable pub bad : Bytes
unfolding text
bad = text "bad\n"

unfoldable pub carry_out : Option Call → Contents → Played
unfolding played print_declared declare print_added add print_settled settle print_checked check print_forced force print_shown ask bad
carry_out none c = record { output = bad; contents = c }
carry_out (some (declares sorts)) c = played print_declared (declare sorts c)
carry_out (some (adds rows has_right)) c = played print_added (add rows has_right c)
carry_out (some settles) c = played print_settled (settle c)
carry_out (some checks) c = played print_checked (check c)
carry_out (some (forces p value)) c = played print_forced (force p value c)
carry_out (some (asks p)) c = record { output = print_shown c.declared (ask p c); contents = c }

unfoldable pub play_line : Bytes → Contents → Played
unfolding carry_out read_line
play_line line c = carry_out (read_line c.declared line) c

unfoldable pub onward : Played → (Contents → Bytes) → Bytes
onward r more = r.output ++ more r.contents

unfoldable pub play_lines : List Bytes → Contents → Bytes
unfolding onward play_line
play_lines [] c = []
play_lines (l ∷ ls) c = onward (play_line l c) (λ d. play_lines ls d)

-- 64 KiB.
abbrev pub max_input : ℕ
max_input = 65536

-- Input over 64 KiB prints one `bad` in all.
unfoldable pub script : Bytes → Bytes
unfolding bad play_lines lines new
script input = let answers = play_lines (lines input) new in cond (ltb max_input (length input)) bad answers
