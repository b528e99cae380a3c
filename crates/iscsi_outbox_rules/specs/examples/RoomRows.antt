-- Worked lists: room, and the window that is shown.
use Rattle.std.specs.Prelude.{◌≡◌, ℕ, ◌+◌, ◌*◌, nat_le, List, [], ◌∷◌, ◌++◌, map, refl, true, false}
use Rattle.std.specs.List.{range_with_len, flat_map}
use Rattle.iscsi_wire.specs.declared.reply.Reply.TheVariants.{Nop}
use Rattle.iscsi_tasks.specs.Rules as Rules
use Rattle.iscsi_rules.specs.declared.event.Event.TheVariants.{Arrive}
use Rattle.iscsi_rules.specs.examples.Rows.{nop, nop_now, immediate_command, setting, of_two}
use Rattle.iscsi_outbox_rules.specs.rules.Calls.{Opening, Joins}
use Rattle.iscsi_outbox_rules.specs.rules.Boxes.{Notices}
use Rattle.iscsi_outbox_rules.specs.rules.Words.{may_take, replies_waiting, numbered_waiting, numbered_room}
use Rattle.iscsi_outbox_rules.specs.promises.Room.{Step, Happens as Comes, Other, all_are, is_read_with_room, is_within_shown, after_steps, begun, places, tasks_kept}
use Rattle.iscsi_outbox_rules.specs.examples.Rows.{outbox, Move, Happens, Calls, Row, Worked, box_after, arrives, joins, is_lost, goes, replies, none_goes}

-- so many NOP-Outs from this number on, and none of their answers is handed out
abbrev pub nops : ℕ → ℕ → ℕ → List Row
nops conn count from = map (λ n. arrives conn (nop 0xc1 n)) (range_with_len from count)

-- a window of 1 and a connection have a numbered room of 14: with fifteen replies to numbered requests the window is shut
-- where it is shown, though the session has it open; with thirteen it is open
abbrev pub window_shown_rows : List Row
window_shown_rows =
    joins 1 1
    ∷ nops 1 16 1 ++ (
    replies 1 (Nop 0xc1) 1 17 16
    ∷ replies 1 (Nop 0xc1) 2 17 16
    ∷ replies 1 (Nop 0xc1) 3 17 17
    ∷ replies 1 (Nop 0xc1) 4 17 17
    ∷ [])

pub window_shown : Worked (outbox (setting 1 1)) window_shown_rows
unfolding Rules.bars_as
window_shown = refl

-- the window opens as a connection is lost, with what waited there: a NOP-In says so
abbrev pub window_opens_rows : List Row
window_opens_rows =
    joins 1 1
    ∷ joins 2 1
    ∷ nops 2 26 1 ++ (
    arrives 1 (nop_now 0xc2 27)
    ∷ replies 1 (Nop 0xc2) 1 27 26
    ∷ none_goes 1
    ∷ is_lost 2
    ∷ goes 1 Notices 2 27 27
    ∷ none_goes 1
    ∷ [])

pub window_opens : Worked (outbox (of_two 1)) window_opens_rows
unfolding Rules.bars_as
window_opens = refl

-- what a lost connection showed may not have been read: it is shown again
abbrev pub shown_again_rows : List Row
shown_again_rows =
    joins 1 1
    ∷ joins 2 1
    ∷ arrives 2 (nop 0xc1 1)
    ∷ replies 2 (Nop 0xc1) 1 2 2
    ∷ none_goes 1
    ∷ is_lost 2
    ∷ goes 1 Notices 1 2 2
    ∷ none_goes 1
    ∷ []

pub shown_again : Worked (outbox (of_two 1)) shown_again_rows
unfolding Rules.bars_as
shown_again = refl

abbrev pub immediate_nops : ℕ → List Move
immediate_nops count = map (λ n. Happens (Arrive 1 (nop_now 0xc1 1))) (range_with_len 0 count)

-- a window of 1 and a connection have room for 26 replies that wait
pub room_left : may_take (outbox (setting 1 1)) (box_after (outbox (setting 1 1)) (Calls (Joins 1 1) ∷ immediate_nops 25)) ≡ true
unfolding Rules.bars_as
room_left = refl

pub no_room_left : may_take (outbox (setting 1 1)) (box_after (outbox (setting 1 1)) (Calls (Joins 1 1) ∷ immediate_nops 26)) ≡ false
unfolding Rules.bars_as
no_room_left = refl

-- eight immediate commands on each of so many connections, from this one on
abbrev commands_on : ℕ → ℕ → List Step
commands_on conn count = flat_map (λ c. map (λ n. Comes (Arrive c (immediate_command (16 * c + n)))) (range_with_len 0 8)) (range_with_len conn count)

-- on its own connection a session has eight live at the most; with five that it doesn't have forty would be live, which are more than
-- a window of 1 and a connection have places for
pub strangers_live : nat_le (tasks_kept (outbox (setting 1 1)) (after_steps (outbox (setting 1 1)) (begun (outbox (setting 1 1))) (commands_on 2 5)).box) (places (outbox (setting 1 1))) ≡ false
unfolding Rules.bars_as
strangers_live = refl

-- so a session refuses what comes on them, and they aren't read
pub strangers_unread : all_are (is_read_with_room (outbox (setting 1 1))) (outbox (setting 1 1)) (begun (outbox (setting 1 1))) (commands_on 2 5) ≡ false
unfolding Rules.bars_as
strangers_unread = refl

pub own_read : all_are (is_read_with_room (outbox (setting 1 1))) (outbox (setting 1 1)) (begun (outbox (setting 1 1))) (commands_on 1 1) ≡ true
unfolding Rules.bars_as
own_read = refl

-- ---- a CID that stands twice

-- a session of a window of 27 whose one CID stands twice, which no session is opened with
abbrev twice : Opening
twice = outbox (record (setting 1 27) { conns = (1, 1) ∷ (1, 1) ∷ [] })

-- of 27 numbered NOP-Outs the first one comes last, behind fifty immediate ones, so that all of the 27 are answered at once
abbrev last_first : List Step
last_first =
    Other (Joins 1 1)
    ∷ map (λ n. Comes (Arrive 1 (nop 0xc1 n))) (range_with_len 2 26)
    ++ map (λ n. Comes (Arrive 1 (nop_now 0xc1 1))) (range_with_len 0 50)
    ++ Comes (Arrive 1 (nop 0xc1 1))
    ∷ []

pub twice_read : all_are (is_read_with_room twice) twice (begun twice) last_first ≡ true
unfolding Rules.bars_as
twice_read = refl

-- each answer waits twice, and there are no places for so many
pub twice_waiting : nat_le (replies_waiting (after_steps twice (begun twice) last_first).box) (places twice) ≡ false
unfolding Rules.bars_as
twice_waiting = refl

-- a session of a window of 37 whose one CID stands thrice: each of 37 answers waits thrice, which is more than the numbered room
abbrev thrice : Opening
thrice = outbox (record (setting 1 37) { conns = (1, 1) ∷ (1, 1) ∷ (1, 1) ∷ [] })

abbrev as_shown : List Step
as_shown = Other (Joins 1 1) ∷ map (λ n. Comes (Arrive 1 (nop 0xc1 n))) (range_with_len 1 37)

pub thrice_within : all_are (is_within_shown thrice) thrice (begun thrice) as_shown ≡ true
unfolding Rules.bars_as
thrice_within = refl

pub thrice_waiting : nat_le (numbered_waiting (after_steps thrice (begun thrice) as_shown).box) (numbered_room thrice) ≡ false
unfolding Rules.bars_as
thrice_waiting = refl
