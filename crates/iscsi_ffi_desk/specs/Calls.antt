-- What the calls of a desk make of it, by the steps of its side. For private contracts, and those of the side.
use Rattle.std.specs.Prelude.{ℕ, ◌&&◌, nat_le, Bool, false, List, [], ◌∷◌, length, Option, Some, None, option_map, slice_set, if◌then◌else◌}
use Rattle.iscsi_rules.specs.declared.effect.Effect.{Effect}
use Rattle.iscsi_outbox_rules.specs.declared.own_pdu.OwnPdu.{OwnPdu}
use Rattle.iscsi_outbox_rules.specs.rules.Items.{reply_sent}
use Rattle.iscsi_arrivals.specs.Counts.{is_open_by}
use Rattle.iscsi_outbox_steps.specs.declared.given.Given.{Given}
use Rattle.iscsi_outbox_steps.specs.declared.given.Given.TheVariants.{Hands, Nothing, IsOver}
use Rattle.iscsi_outbox_steps.specs.declared.given.Pdu.{Pdu}
use Rattle.iscsi_outbox_steps.specs.State.{State as OutboxState, link_at}
use Rattle.iscsi_outbox_steps.specs.Steps.{given, is_running_ticket, lost, next, put as put_out, put_refusal, stopped, written}
use Rattle.iscsi_requests.specs.Conns.{of_conn}
use Rattle.iscsi_requests.specs.Cookies.{cookie_at, next_place}
use Rattle.iscsi_requests.specs.Replies.{taken}
use Rattle.iscsi_ffi_rules.specs.rules.Happening.{is_complete}
use Rattle.iscsi_ffi_commands.specs.Commands.{find_ticket}
use Rattle.iscsi_ffi_steps.specs.State.{State}
use Rattle.iscsi_ffi_steps.specs.Walk.{Doing, drop_waiting, in_state, release}
use Rattle.iscsi_ffi_steps.specs.Steps.{close_each, drop_unwritten, enter_request, leaves_queue, note, pushed_with_room, request_handed, status_of, tell_each, used_again, write_on}

abbrev pub with_outbox : OutboxState → Doing → Doing
with_outbox o d = in_state (λ s. record s { outbox = o }) d

-- ---- requests

abbrev pub entered_request : ℕ → Doing → Doing
entered_request cookie d = elim (next_place d.state.cookies) [ Some place ↦ enter_request cookie place d | None ↦ d ]

-- ---- events

-- the effect is the answer that a function is complete
abbrev pub is_completing : Effect → Bool
is_completing effect = elim (reply_sent effect) [ Some sent ↦ is_complete (sent.1) | None ↦ false ]

-- ---- commands

abbrev pub first_of_withheld : State → List ℕ → Option (ℕ × ℕ)
first_of_withheld s [] = None
first_of_withheld s (ticket ∷ tickets) = Some (ticket, status_of s ticket)

-- the first of the commands that are to be completed and never start, and its status
abbrev pub first_withheld : State → Option (ℕ × ℕ)
first_withheld s = first_of_withheld s s.withheld

abbrev pub behind_first : List ℕ → List ℕ
behind_first [] = []
behind_first (ticket ∷ tickets) = tickets

abbrev pub popped_withheld : Doing → Doing
popped_withheld d = in_state (λ s. record s { withheld = behind_first s.withheld }) d

-- a command that was taken out, and ran, has stopped
abbrev pub stopped_running : ℕ → Doing → Doing
stopped_running ticket d =
    if is_running_ticket ticket d.state.outbox then
    (let d' = with_outbox (stopped ticket d.state.outbox) d in
    elim (find_ticket ticket d.state.commands) [ Some c ↦ release (c.request) d' | None ↦ d' ])
    else d

-- ---- connections

abbrev pub lost_on : ℕ → ℕ → Doing → Doing
lost_on cid conn d =
    let d' = drop_waiting conn (with_outbox (lost cid d.state.outbox) d) in
    drop_unwritten (length (of_conn conn d'.state.unwritten.handed)) conn d'

-- ---- what goes out

abbrev pub is_blocked : ℕ → ℕ → State → Bool
is_blocked most conn s = is_open_by (link_at s.outbox conn) && nat_le most (length (of_conn conn s.unwritten.handed))

abbrev pub cookie_of_place : State → Option ℕ → Option ℕ
cookie_of_place s request = option_map (λ place. cookie_at place s.cookies) request

-- the word of what the PDU belongs to
abbrev pub cookie_handed : ℕ → Given → State → Option ℕ
cookie_handed conn (Hands h) s = cookie_of_place s (request_handed s conn h.pdu)
cookie_handed conn Nothing s = None
cookie_handed conn IsOver s = None

abbrev pub reply_left : ℕ → Doing → Doing
reply_left log_place d = in_state (λ s. record s { replies = taken log_place s.replies }) d

abbrev pub request_of_command : ℕ → State → Option ℕ
request_of_command ticket s = elim (find_ticket ticket s.commands) [ Some c ↦ Some (c.request) | None ↦ None ]

-- a PDU of the command is handed out: its request has a use more
abbrev pub command_used : ℕ → Doing → Doing
command_used ticket d = in_state (λ s. elim (request_of_command ticket s) as (λ (o : Option ℕ). State) [ Some place ↦ used_again place s | None ↦ s ]) d

-- what waited first leaves its queue
abbrev pub left_queue : ℕ → Pdu → Doing → Doing
left_queue conn pdu d = in_state (λ s. leaves_queue conn pdu (request_handed s conn pdu) s) d

-- .. and is handed out, and not written
abbrev pub pushed_out : ℕ → Option ℕ → Doing → Doing
pushed_out conn request d = in_state (λ s. record s { unwritten = pushed_with_room conn request s.unwritten }) d

abbrev pub after_given : ℕ → ℕ → Given → Doing → Doing
after_given cid conn (Hands h) d = with_outbox (next cid d.state.outbox) (pushed_out conn (request_handed d.state conn h.pdu) (left_queue conn h.pdu d))
after_given cid conn Nothing d = d
after_given cid conn IsOver d = d

abbrev pub handed_out : ℕ → ℕ → Doing → Doing
handed_out cid conn d = after_given cid conn (given cid d.state.outbox) d

abbrev pub written_on : ℕ → ℕ → Doing → Doing
written_on cid conn d = write_on conn (with_outbox (written cid d.state.outbox) d)

abbrev pub put : OwnPdu → ℕ → Doing → Doing
put p cookie d = elim (put_refusal p d.state.outbox) [
  | Some refusal ↦ d
  | None ↦ in_state (λ s. note p cookie (record s { outbox = put_out p s.outbox })) d
]

abbrev pub noted_more : ℕ → ℕ → Doing → Doing
noted_more conn place d = in_state (λ s. record s { noted = pushed_with_room conn (Some place) s.noted }) d

-- ---- at the end of a call

abbrev pub ended : Doing → Doing
ended d = let cids = d.state.outbox.limits.cids in close_each 0 cids (tell_each 0 cids d)

abbrev pub asleep : ℕ → Doing → Doing
asleep conn d = in_state (λ s. record s { awake = slice_set s.awake conn false }) d
