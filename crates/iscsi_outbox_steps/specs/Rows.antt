-- Worked lists, computed: those of the rules. By what is kept each is answered as the rules have it.
use Rattle.std.specs.Prelude.{◌≡◌, ℕ, true, false, List, [], ◌∷◌, filter_map, map, Option, Some, None, refl}
use Rattle.iscsi_tasks.specs.Rules as Rules
use Rattle.iscsi_wire.specs.declared.reply.Reply.TheVariants.{Nop}
use Rattle.iscsi_rules.specs.examples.Rows.{nop_now, setting, of_two}
use Rattle.iscsi_outbox_rules.specs.rules.Boxes.{Pdu as RulesPdu, Replies, Owns, Pings, Notices}
use Rattle.iscsi_outbox_rules.specs.rules.Calls.{Opening}
use Rattle.iscsi_outbox_rules.specs.examples.Rows.{Row, Said, Quiet, Goes, NoneGoes, NoneIsLeft, arrives, calls_of, joins, outbox, replies, said_by_join, said_by_put, said_by_stopped}
use Rattle.iscsi_outbox_rules.specs.examples.AbortRows.{abort_held_rows, others_go_on_rows, second_abort_rows, reset_after_abort_rows, never_started_rows, data_of_commands_rows, data_under_way_rows, behind_data_rows}
use Rattle.iscsi_outbox_rules.specs.examples.FenceRows.{fence_rows, ping_first_rows, unjoined_fence_rows, two_fences_rows, one_connection_rows, lost_before_fence_rows, not_handed_out_yet_rows, written_is_enough_rows}
use Rattle.iscsi_outbox_rules.specs.examples.CloseRows.{logout_behind_abort_rows, logout_held_rows, closed_by_another_rows, session_closed_rows, connection_lost_rows, join_refused_rows}
use Rattle.iscsi_outbox_rules.specs.examples.RoomRows.{window_shown_rows, window_opens_rows, shown_again_rows}
use Rattle.iscsi_outbox_rules.specs.examples.NumberRows.{numbered_at_the_moment_rows, refused_own_pdus_rows, reset_of_shared_rows}
use Rattle.iscsi_outbox_steps.specs.declared.given.Given.{Given}
use Rattle.iscsi_outbox_steps.specs.declared.given.Given.TheVariants.{Hands, Nothing, IsOver}
use Rattle.iscsi_outbox_steps.specs.declared.given.Pdu.{Pdu}
use Rattle.iscsi_outbox_steps.specs.declared.given.Pdu.TheVariants.{Reply, Own, Ping, Notice}
use Rattle.iscsi_outbox_steps.specs.Run.{Answered, Silent, Put, Stopped, Gives, Joined, answered_by}

abbrev pub pdu_said : Pdu → RulesPdu
pdu_said (Reply sent) = Replies sent.reply
pdu_said (Own own) = Owns own
pdu_said (Ping tag) = Pings tag
pdu_said Notice = Notices

abbrev pub said_by_given : Given → Said
said_by_given (Hands h) = Goes (pdu_said h.pdu) h.stat_sn h.exp h.max
said_by_given Nothing = NoneGoes
said_by_given IsOver = NoneIsLeft

abbrev pub said : Answered → Said
said Silent = Quiet
said (Put refusal) = said_by_put refusal
said (Stopped was) = said_by_stopped was
said (Gives given) = said_by_given given
said (Joined may) = said_by_join may

-- what is kept answers so
abbrev pub Worked : Opening → List Row → Type 0
Worked o rows = map said (answered_by o (calls_of o (map (λ (r : Row). r.0) rows))) ≡ map (λ (r : Row). r.1) rows

pub abort_held : Worked (outbox (setting 1 4)) abort_held_rows
unfolding Rules.bars_as
abort_held = refl

pub others_go_on : Worked (outbox (setting 1 4)) others_go_on_rows
unfolding Rules.bars_as
others_go_on = refl

pub second_abort : Worked (outbox (setting 1 4)) second_abort_rows
unfolding Rules.bars_as
second_abort = refl

pub reset_after_abort : Worked (outbox (setting 1 4)) reset_after_abort_rows
unfolding Rules.bars_as
reset_after_abort = refl

pub never_started : Worked (outbox (setting 1 4)) never_started_rows
unfolding Rules.bars_as
never_started = refl

pub data_of_commands : Worked (outbox (setting 1 4)) data_of_commands_rows
unfolding Rules.bars_as
data_of_commands = refl

pub data_under_way : Worked (outbox (of_two 4)) data_under_way_rows
unfolding Rules.bars_as
data_under_way = refl

pub behind_data : Worked (outbox (of_two 4)) behind_data_rows
unfolding Rules.bars_as
behind_data = refl

pub fence : Worked (outbox (of_two 4)) fence_rows
unfolding Rules.bars_as
fence = refl

pub ping_first : Worked (outbox (of_two 4)) ping_first_rows
unfolding Rules.bars_as
ping_first = refl

pub unjoined_fence : Worked (outbox (of_two 4)) unjoined_fence_rows
unfolding Rules.bars_as
unjoined_fence = refl

pub two_fences : Worked (outbox (of_two 4)) two_fences_rows
unfolding Rules.bars_as
two_fences = refl

pub one_connection : Worked (outbox (of_two 4)) one_connection_rows
unfolding Rules.bars_as
one_connection = refl

pub lost_before_fence : Worked (outbox (of_two 4)) lost_before_fence_rows
unfolding Rules.bars_as
lost_before_fence = refl

pub not_handed_out_yet : Worked (outbox (of_two 4)) not_handed_out_yet_rows
unfolding Rules.bars_as
not_handed_out_yet = refl

pub written_is_enough : Worked (record (outbox (of_two 4)) { acknowledged = false }) written_is_enough_rows
unfolding Rules.bars_as
written_is_enough = refl

pub logout_behind_abort : Worked (outbox (of_two 4)) logout_behind_abort_rows
unfolding Rules.bars_as
logout_behind_abort = refl

pub logout_held : Worked (outbox (of_two 4)) logout_held_rows
unfolding Rules.bars_as
logout_held = refl

pub closed_by_another : Worked (outbox (of_two 4)) closed_by_another_rows
unfolding Rules.bars_as
closed_by_another = refl

pub session_closed : Worked (outbox (of_two 4)) session_closed_rows
unfolding Rules.bars_as
session_closed = refl

pub connection_lost : Worked (outbox (of_two 4)) connection_lost_rows
unfolding Rules.bars_as
connection_lost = refl

pub join_refused : Worked (outbox (of_two 4)) join_refused_rows
unfolding Rules.bars_as
join_refused = refl

pub window_shown : Worked (outbox (setting 1 1)) window_shown_rows
unfolding Rules.bars_as
window_shown = refl

pub window_opens : Worked (outbox (of_two 1)) window_opens_rows
unfolding Rules.bars_as
window_opens = refl

pub shown_again : Worked (outbox (of_two 1)) shown_again_rows
unfolding Rules.bars_as
shown_again = refl

pub numbered_at_the_moment : Worked (outbox (setting 1 4)) numbered_at_the_moment_rows
unfolding Rules.bars_as
numbered_at_the_moment = refl

pub refused_own_pdus : Worked (outbox (setting 1 4)) refused_own_pdus_rows
unfolding Rules.bars_as
refused_own_pdus = refl

pub reset_of_shared : Worked (record (outbox (setting 1 4)) { shared = true }) reset_of_shared_rows
unfolding Rules.bars_as
reset_of_shared = refl

-- ---- places

-- which reply is handed out
abbrev pub place_given : Answered → Option ℕ
place_given (Gives (Hands h)) = elim (h.pdu) [ Reply sent ↦ Some sent.place | Own own ↦ None | Ping tag ↦ None | Notice ↦ None ]
place_given _ = None

-- the places of the replies that are handed out, in order
abbrev pub places_given : Opening → List Row → List ℕ
places_given o rows = filter_map place_given (answered_by o (calls_of o (map (λ (r : Row). r.0) rows)))

-- the answer to an abort is overtaken by what was sent behind it
pub overtaken_places : places_given (outbox (setting 1 4)) others_go_on_rows ≡ 1 ∷ 0 ∷ []
unfolding Rules.bars_as
overtaken_places = refl

pub reset_places : places_given (outbox (setting 1 4)) reset_after_abort_rows ≡ 2 ∷ 0 ∷ 1 ∷ []
unfolding Rules.bars_as
reset_places = refl

-- own PDUs have none
pub data_places : places_given (outbox (setting 1 4)) data_of_commands_rows ≡ 0 ∷ 1 ∷ []
unfolding Rules.bars_as
data_places = refl

-- what was dropped had places
pub dropped_places : places_given (outbox (of_two 4)) closed_by_another_rows ≡ 2 ∷ []
unfolding Rules.bars_as
dropped_places = refl

-- a reply to a connection that hasn't joined goes nowhere, and has a place all the same
abbrev pub goes_nowhere_rows : List Row
goes_nowhere_rows = joins 1 1 ∷ arrives 2 (nop_now 0xc1 1) ∷ arrives 1 (nop_now 0xc2 1) ∷ replies 1 (Nop 0xc2) 1 1 4 ∷ []

pub goes_nowhere : Worked (outbox (of_two 4)) goes_nowhere_rows
unfolding Rules.bars_as
goes_nowhere = refl

pub nowhere_places : places_given (outbox (of_two 4)) goes_nowhere_rows ≡ 1 ∷ []
unfolding Rules.bars_as
nowhere_places = refl
