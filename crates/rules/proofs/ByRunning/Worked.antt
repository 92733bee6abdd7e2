-- The worked points of document 01, computed: those marked * by one statement over one table, further ones by the same means, and the script example to the byte.
use mathlib.Core.Path.{◌≡◌, refl}
use mathlib.Core.List.{List, [], ◌∷◌}
use Rattle.rules.specs.Contents.{positive, negative}
use Rattle.rules.specs.Script.Bytes.{text}
use Rattle.rules.specs.Script.Running.{script}
use Rattle.rules.proofs.ByRunning.Questions.{line, covering, overlapping, is_single, live_numbers, modified_numbers, kept_ones, waiting_ones, Step, ◌gives◌, played, promised}

unfoldable pub starred : List (List Step)
starred =
    -- (?,2) covers (1,2), not the reverse.
    (line "d ii" gives "d 0 0" ∷ covering "0:?,2" "0:1,2" gives "yes" ∷ covering "0:1,2" "0:?,2" gives "no" ∷ [])
    -- (?,2) and (1,?): neither covers; they overlap.
    ∷ (line "d ii" gives "d 0 0" ∷ covering "0:?,2" "0:1,?" gives "no" ∷ covering "0:1,?" "0:?,2" gives "no" ∷ overlapping "0:?,2" "0:1,?" gives "yes" ∷ [])
    -- (1,?) and (2,?) do not.
    ∷ (line "d ii" gives "d 0 0" ∷ overlapping "0:1,?" "0:2,?" gives "no" ∷ [])
    -- No positions: covers and overlaps itself.
    ∷ (line "d -" gives "d 0 0" ∷ covering "0:" "0:" gives "yes" ∷ overlapping "0:" "0:" gives "yes" ∷ [])
    -- (?,5,?) is single; (5), (?,?), (4,5) are not.
    ∷ (line "d iii" gives "d 0 0" ∷ line "d i" gives "d 0 1" ∷ line "d ii" gives "d 0 2"
    ∷ is_single "0:?,5,?" gives "yes" ∷ is_single "1:5" gives "no" ∷ is_single "2:?,?" gives "no" ∷ is_single "2:4,5" gives "no" ∷ [])
    -- p(1) p(1), no right: p(1) waits as negative, new.
    ∷ (line "d i" gives "d 0 0" ∷ line "c 0:1 0:1 > !" gives "c 0 1" ∷ waiting_ones negative gives " 0:1" ∷ waiting_ones positive gives "" ∷ live_numbers gives "" ∷ [])
    -- The empty clause: 9.
    ∷ (line "c > !" gives "c 9 0" ∷ [])
    -- p(1) ⇒ q(1) twice: both new, number 1 alone lives.
    ∷ (line "d i" gives "d 0 0" ∷ line "d i" gives "d 0 1" ∷ line "c 0:1 > 1:1" gives "c 0 1" ∷ line "c 0:1 > 1:1" gives "c 0 1"
    ∷ live_numbers gives " 1" ∷ modified_numbers gives " 1" ∷ [])
    -- p(1) p(2), no right, then +p(?): settle gives 9.
    ∷ (line "d i" gives "d 0 0" ∷ line "c 0:1 0:2 > !" gives "c 0 1" ∷ line "c > 0:?" gives "c 0 1" ∷ line "s" gives "s 9 0 0 0" ∷ [])
    -- p(1) ⇒ p(2), then -p(?): settle gives 0, 1 and 1 draw.
    ∷ (line "d i" gives "d 0 0" ∷ line "c 0:1 > 0:2" gives "c 0 1" ∷ line "c 0:? > !" gives "c 0 1" ∷ line "s" gives "s 0 0 1 1" ∷ [])
    -- +p(1) settled, then p(1) ⇒ q(3): q(3) is kept and waits; adding +q(3) is not new.
    ∷ (line "d i" gives "d 0 0" ∷ line "d i" gives "d 0 1" ∷ line "c > 0:1" gives "c 0 1" ∷ line "s" gives "s 0 1 0 1" ∷ line "c 0:1 > 1:3" gives "c 0 1"
    ∷ kept_ones positive gives " 0:1 1:3" ∷ waiting_ones positive gives " 1:3" ∷ line "c > 1:3" gives "c 0 0" ∷ [])
    ∷ []

pub starred_points : played starred ≡ promised starred
unfolding starred played promised
starred_points = refl

-- What else is cheap to compute: the wrong readings of 01, each beside what the rules say; and each refusal that a short script meets.
unfoldable pub further : List (List Step)
further =
    -- A later negative does not take back a kept positive: both stay, and a check finds them.
    (line "d i" gives "d 0 0" ∷ line "c > 0:1" gives "c 0 1" ∷ line "s" gives "s 0 1 0 1" ∷ line "c 0:1 > !" gives "c 0 1" ∷ line "s" gives "s 0 0 1 1"
    ∷ line "q 0" gives "q 0 1 1 0\n+ 0:1\n- 0:1" ∷ line "k" gives "k 12" ∷ line "k" gives "k 12" ∷ [])
    -- A check finds a kept positive and a kept negative that overlap, and only then.
    ∷ (line "d ii" gives "d 0 0" ∷ line "c > 0:1,?" gives "c 0 1" ∷ line "c 0:2,? > !" gives "c 0 1" ∷ line "k" gives "k 0"
    ∷ line "c 0:?,5 > !" gives "c 0 1" ∷ line "k" gives "k 12" ∷ [])
    -- Different right sides are not compared.
    ∷ (line "d i" gives "d 0 0" ∷ line "c 0:1 > 0:2" gives "c 0 1" ∷ line "c 0:1 > 0:3" gives "c 0 1" ∷ live_numbers gives " 0 1" ∷ modified_numbers gives " 0 1" ∷ [])
    -- A smaller left drops the larger one, before it or after it.
    ∷ (line "d i" gives "d 0 0" ∷ line "c 0:1 0:2 > 0:3" gives "c 0 1" ∷ line "c 0:1 > 0:3" gives "c 0 1" ∷ live_numbers gives " 1" ∷ modified_numbers gives " 1"
    ∷ line "c 0:1 0:4 > 0:3" gives "c 0 0" ∷ live_numbers gives " 1" ∷ [])
    -- Positive p(?) on p(1) ⇒ p(2) drops the constraint, with its mark; p(2) doesn't wait.
    ∷ (line "d i" gives "d 0 0" ∷ line "c 0:1 > 0:2" gives "c 0 1" ∷ line "c > 0:?" gives "c 0 1" ∷ line "s" gives "s 0 1 0 1"
    ∷ live_numbers gives "" ∷ modified_numbers gives "" ∷ waiting_ones positive gives "" ∷ [])
    -- Samples stand by position, unknown first, then rising value.
    ∷ (line "d ii" gives "d 0 0" ∷ line "c > 0:3,1" gives "c 0 1" ∷ line "c > 0:?,7" gives "c 0 1" ∷ line "c > 0:-2,?" gives "c 0 1" ∷ line "c > 0:3,0" gives "c 0 1"
    ∷ waiting_ones positive gives " 0:?,7 0:-2,? 0:3,0 0:3,1" ∷ [])
    -- A sample covered by a waiting one is not new; one that covers displaces.
    ∷ (line "d ii" gives "d 0 0" ∷ line "c > 0:1,2" gives "c 0 1" ∷ line "c > 0:?,2" gives "c 0 1" ∷ line "c > 0:3,2" gives "c 0 0"
    ∷ waiting_ones positive gives " 0:?,2" ∷ line "c 0:3,2 > !" gives "c 0 1" ∷ [])
    -- A draw that a kept sample covers is counted as a draw, and not as kept.
    ∷ (line "d i" gives "d 0 0" ∷ line "c > 0:?" gives "c 0 1" ∷ line "s" gives "s 0 1 0 1" ∷ line "c > 0:1" gives "c 0 1" ∷ line "s" gives "s 0 0 0 1" ∷ [])
    -- Force: true drops a constraint whose right names P and shortens one whose left does; kept samples of P go, waiting ones don't.
    ∷ (line "d i" gives "d 0 0" ∷ line "d i" gives "d 0 1" ∷ line "c 0:1 > 1:1" gives "c 0 1" ∷ line "c 1:2 > 0:2" gives "c 0 1" ∷ line "c > 0:5" gives "c 0 1"
    ∷ line "s" gives "s 0 1 0 1" ∷ line "f 0 1" gives "f 0" ∷ live_numbers gives "" ∷ kept_ones positive gives " 1:1" ∷ line "q 0" gives "q 0 0 0 0" ∷ [])
    ∷ (line "d i" gives "d 0 0" ∷ line "d i" gives "d 0 1" ∷ line "c 0:1 > 1:1" gives "c 0 1" ∷ line "c 1:2 > 0:2" gives "c 0 1" ∷ line "c > 0:5" gives "c 0 1"
    ∷ line "f 0 0" gives "f 0" ∷ live_numbers gives "" ∷ kept_ones positive gives " 0:5" ∷ kept_ones negative gives " 1:2" ∷ [])
    -- The refusals that a short script meets: 1, 2, 3, 4, 5, 8, 9, 10.
    ∷ (line "d ib" gives "d 0 0" ∷ line "c > 1:1,t" gives "c 1 0" ∷ line "f 1 0" gives "f 1" ∷ line "q -1" gives "q 1 0 0 0" ∷ line "d iiiiiii" gives "d 2 0"
    ∷ line "c > 0:1,7" gives "c 3 0" ∷ line "c 0:1,? > 0:2,f" gives "c 4 0" ∷ line "c 0:1,7 0:1,? > !" gives "c 3 0" ∷ line "c > !" gives "c 9 0"
    ∷ line "c > 0:1,t" gives "c 8 0" ∷ line "s" gives "s 8 0 0 0" ∷ line "k" gives "k 8" ∷ line "f 0 1" gives "f 8" ∷ line "d -" gives "d 8 0" ∷ line "q 0" gives "q 0 0 0 0" ∷ [])
    -- 16 left rows pass, 17 give 5, and 5 comes before 1.
    ∷ (line "d i" gives "d 0 0" ∷ line "c 0:1 0:2 0:3 0:4 0:5 0:6 0:7 0:8 0:9 0:10 0:11 0:12 0:13 0:14 0:15 0:16 > 0:17" gives "c 0 1"
    ∷ line "c 0:1 0:2 0:3 0:4 0:5 0:6 0:7 0:8 0:9 0:10 0:11 0:12 0:13 0:14 0:15 0:16 1:17 > !" gives "c 5 0" ∷ [])
    ∷ (line "d -" gives "d 0 0" ∷ line "d -" gives "d 0 1" ∷ line "d -" gives "d 0 2" ∷ line "d -" gives "d 0 3" ∷ line "d -" gives "d 0 4" ∷ line "d -" gives "d 0 5"
    ∷ line "d -" gives "d 0 6" ∷ line "d -" gives "d 0 7" ∷ line "d -" gives "d 0 8" ∷ line "d -" gives "d 0 9" ∷ line "d -" gives "d 0 10" ∷ line "d -" gives "d 0 11"
    ∷ line "d -" gives "d 0 12" ∷ line "d -" gives "d 0 13" ∷ line "d -" gives "d 0 14" ∷ line "d bbbbbb" gives "d 0 15" ∷ line "d iiiiiii" gives "d 10 0"
    ∷ line "c > 15:t,f,?,1,0,?" gives "c 0 1" ∷ waiting_ones positive gives " 15:t,f,?,t,f,?" ∷ [])
    ∷ []

pub further_points : played further ≡ promised further
unfolding further played promised
further_points = refl

-- The script example of document 01.
pub example :
    script (text "d i\nd ii\nc 0:1 > 1:1,2\nc 0:1 1:1,2 > !\ns\nq 0\nc > 0:?\ns\nk\n")
    ≡ text "d 0 0\nd 0 1\nc 0 1\nc 0 1\ns 0 0 0 0\nq 0 0 0 1\n. 0:1\nc 0 1\ns 0 2 1 3\nk 12\n"
unfolding script text
example = refl

-- The last newline may lack; an empty input prints nothing; what can't be read prints `bad` and changes nothing.
pub unreadable :
    script (text "\nd\nd \nd i-\n d i\nd  i\nd i \nD i\nd i\ns 1\nk k\nq\nq 0 0\nq +0\nf 0 2\nf 0 01\nc >\nc ! > 0:1\nc 0:1\nc 0:1 > \nc > 0:1,2\nc > 0:\nc > 0:1:2\nc > 0:1,\nc > 7:1,2,3,4,5,6,7\nc > 0:--1\nc > 0:9223372036854775808\nc > 0:-9223372036854775808\nc > 0:007\nc > 7:1,2,3,4,5,6\nq 00")
    ≡ text "bad\nbad\nbad\nbad\nbad\nbad\nbad\nbad\nd 0 0\nbad\nbad\nbad\nbad\nbad\nbad\nbad\nbad\nbad\nbad\nbad\nbad\nbad\nbad\nbad\nbad\nbad\nbad\nc 0 1\nc 0 1\nc 1 0\nq 0 0 0 0\n"
unfolding script text
unreadable = refl
