-- Worked lists, computed: those of the rules. By what is kept each is answered, and tells, as the rules have it.
use Rattle.std.specs.Prelude.{◌≡◌, List, map, refl}
use Rattle.iscsi_tasks.specs.Rules as Rules
use Rattle.iscsi_rules.specs.examples.Rows.{setting, of_two}
use Rattle.iscsi_outbox_steps.specs.Rows.{pdu_said}
use Rattle.iscsi_ffi_rules.specs.declared.action.Action.{Action}
use Rattle.iscsi_ffi_rules.specs.rules.Calls.{Interface}
use Rattle.iscsi_ffi_rules.specs.examples.Rows.{Row, Said, IsTaken, IsRefused, IsStale, IsPut, IsJoined, GoesOut, IsBlocked, Nothing, NothingMore, interface}
use Rattle.iscsi_ffi_rules.specs.examples.CommandRows.{one_command_rows, aborted_rows, held_rows}
use Rattle.iscsi_ffi_rules.specs.examples.ClearRows.{cleared_rows, aborted_too_rows, busy_still_rows}
use Rattle.iscsi_ffi_rules.specs.examples.ConnectionRows.{cut_rows, lost_rows, own_rows}
use Rattle.iscsi_ffi_rules.specs.examples.LogoutRows.{logout_rows, unstarted_rows, shared, shared_rows, exhausted_rows}
use Rattle.iscsi_ffi_rules.specs.examples.OtherRows.{late_rows, marked_rows, refused_rows, heard_rows, told_again_rows}
use Rattle.iscsi_ffi_steps.specs.Steps.{Answer, Taken, Refused, Stale, Put, Joined, Goes, Blocked, NoneGoes, NoneIsLeft, answered_by}

abbrev pub said : Answer → Said
said Taken = IsTaken
said (Refused refusal) = IsRefused refusal
said Stale = IsStale
said (Put refusal) = IsPut refusal
said (Joined may) = IsJoined may
said (Goes h cookie) = GoesOut (pdu_said h.pdu) h.stat_sn h.exp h.max cookie
said Blocked = IsBlocked
said NoneGoes = Nothing
said NoneIsLeft = NothingMore

abbrev pub Worked : Interface → List Row → Type 0
Worked i rows =
    map {B = Said × List Action} (λ (r : Answer × List Action). (said r.0, r.1)) (answered_by i (map (λ (r : Row). r.call) rows))
    ≡ map {B = Said × List Action} (λ (r : Row). (r.answer, r.actions)) rows

pub one_command : Worked (interface (setting 1 4)) one_command_rows
unfolding Rules.bars_as
one_command = refl

pub aborted : Worked (interface (setting 1 4)) aborted_rows
unfolding Rules.bars_as
aborted = refl

pub held : Worked (interface (setting 1 4)) held_rows
unfolding Rules.bars_as
held = refl

pub is_cleared : Worked (interface (setting 1 4)) cleared_rows
unfolding Rules.bars_as
is_cleared = refl

pub lost : Worked (interface (of_two 4)) lost_rows
unfolding Rules.bars_as
lost = refl

pub own : Worked (interface (setting 1 4)) own_rows
unfolding Rules.bars_as
own = refl

pub cut : Worked (interface (of_two 4)) cut_rows
unfolding Rules.bars_as
cut = refl

pub logout : Worked (interface (setting 1 4)) logout_rows
unfolding Rules.bars_as
logout = refl

pub unstarted : Worked (interface (setting 1 4)) unstarted_rows
unfolding Rules.bars_as
unstarted = refl

pub is_shared : Worked (shared (interface (setting 1 4))) shared_rows
unfolding Rules.bars_as
is_shared = refl

pub exhausted : Worked (interface (record (setting 1 4) { events = 77 })) exhausted_rows
unfolding Rules.bars_as
exhausted = refl

pub late : Worked (interface (setting 1 4)) late_rows
unfolding Rules.bars_as
late = refl

pub marked : Worked (interface (setting 1 4)) marked_rows
unfolding Rules.bars_as
marked = refl

pub refused : Worked (interface (setting 1 4)) refused_rows
unfolding Rules.bars_as
refused = refl

pub heard : Worked (interface (of_two 4)) heard_rows
unfolding Rules.bars_as
heard = refl

pub told_again : Worked (interface (setting 1 4)) told_again_rows
unfolding Rules.bars_as
told_again = refl

pub is_aborted_too : Worked (interface (setting 1 4)) aborted_too_rows
unfolding Rules.bars_as
is_aborted_too = refl

pub is_busy_still : Worked (interface (setting 1 8)) busy_still_rows
unfolding Rules.bars_as
is_busy_still = refl
