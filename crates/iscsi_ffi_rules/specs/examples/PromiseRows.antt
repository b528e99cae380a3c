-- What the promises speak of, computed of worked lists.
use Rattle.std.specs.Prelude.{◌≡◌, List, [], ◌∷◌, map, take, refl}
use Rattle.iscsi_tasks.specs.Rules as Rules
use Rattle.iscsi_rules.specs.examples.Rows.{of_two, setting}
use Rattle.iscsi_ffi_rules.specs.rules.Calls.{Call}
use Rattle.iscsi_ffi_rules.specs.examples.Rows.{interface, Row}
use Rattle.iscsi_ffi_rules.specs.examples.CommandRows.{one_command_rows, held_rows}
use Rattle.iscsi_ffi_rules.specs.examples.ConnectionRows.{own_rows, lost_rows}
use Rattle.iscsi_ffi_rules.specs.promises.Deeds.{deeds_of, side_of}
use Rattle.iscsi_ffi_rules.specs.promises.Words.{Names, Forgets, mentions}
use Rattle.iscsi_ffi_rules.specs.promises.Needed.{events_taken}

abbrev calls : List Row → List Call
calls rows = map (λ (r : Row). r.call) rows

-- a command starts, its response goes out, and its word comes back
pub one_command_mentions : mentions (deeds_of (interface (setting 1 4)) (calls one_command_rows)) ≡ Names 7 ∷ Names 7 ∷ Forgets 7 ∷ []
unfolding Rules.bars_as
one_command_mentions = refl

-- data of a command has the word of its request, and a PDU that is of no command its own
pub own_mentions : mentions (deeds_of (interface (setting 1 4)) (calls own_rows)) ≡ Names 7 ∷ Names 5 ∷ Names 6 ∷ Forgets 5 ∷ Names 7 ∷ Forgets 6 ∷ []
unfolding Rules.bars_as
own_mentions = refl

-- on a lost connection nothing is mentioned that was forgotten
pub lost_mentions : mentions (deeds_of (interface (of_two 4)) (calls lost_rows)) ≡ Names 7 ∷ Names 9 ∷ Names 8 ∷ Names 7 ∷ Names 8 ∷ Forgets 8 ∷ Forgets 7 ∷ []
unfolding Rules.bars_as
lost_mentions = refl

-- the request is kept until its response is written
pub one_command_taken : events_taken (interface (setting 1 4)) (calls one_command_rows) ≡ 0 ∷ []
unfolding Rules.bars_as
one_command_taken = refl

pub one_command_kept : (side_of (interface (setting 1 4)) (calls (take 6 one_command_rows))).asked ≡ record { event = 0; cookie = 7 } ∷ []
unfolding Rules.bars_as
one_command_kept = refl

pub one_command_over : (side_of (interface (setting 1 4)) (calls one_command_rows)).asked ≡ []
unfolding Rules.bars_as
one_command_over = refl

-- of four requests the first is held, two are forgotten at once, and the last one takes the first out
pub held_taken : events_taken (interface (setting 1 4)) (calls held_rows) ≡ 0 ∷ 1 ∷ 2 ∷ 3 ∷ []
unfolding Rules.bars_as
held_taken = refl

pub held_kept : (side_of (interface (setting 1 4)) (calls (take 4 held_rows))).asked ≡ record { event = 0; cookie = 9 } ∷ []
unfolding Rules.bars_as
held_kept = refl
