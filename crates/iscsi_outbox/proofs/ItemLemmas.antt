-- An item, part by part.
use Rattle.std.proofs.Common.{◌≡◌, ◌==◌, ℕ, ◌∙◌, ◌&&◌, ◌||◌, not, Bool, true, false, List, [], ◌∷◌, length, filter, filter_map, Option, Some, None, get_or, refl, sym, ap, subst, if◌then◌else◌}
use Rattle.std.specs.List.{list_any, position}
use Rattle.iscsi_wire.specs.declared.reply.Reply.{Reply}
use Rattle.iscsi_wire.specs.declared.request.Request.{Request}
use Rattle.iscsi_wire.specs.Fields.{connection_of}
use Rattle.iscsi_rules.specs.declared.effect.Effect.{Effect}
use Rattle.iscsi_rules.specs.declared.effect.Effect.TheVariants.{Deliver, Immediate, Wait, Void, Empty, Enter, Enable, Leave, Send, CloseConn, CloseSession, Ignore}
use Rattle.iscsi_rules.specs.rules.Trace.{first_of}
use Rattle.iscsi_arrivals.specs.Counts.{Counts, new_counts}
use Rattle.iscsi_outbox_rules.specs.rules.Items.{executing, reply_sent, ticket_enabled, tickets_left}
use Rattle.iscsi_tracked.specs.declared.command.Command.{Command}
use Rattle.iscsi_tracked.specs.declared.command.Entering.{Entering}
use Rattle.iscsi_tracked.specs.declared.command.Phase.TheVariants.{Running, Gone}
use Rattle.iscsi_tracked.specs.Tracked.{entered as entered_command, in_phase, is_out, next_place, removed}
use Rattle.iscsi_outbox_state.specs.Lane.{any_in, has_left, is_command}
use Rattle.iscsi_outbox_state.specs.Waits.{dropped_of}
use Rattle.iscsi_outbox_steps.specs.State.{Limits, State, place_of}
use Rattle.iscsi_outbox_steps.specs.Steps.{after_item, close, close_each, closed_in, completed, enable, enter_command, enter_commands, enter_each, enter_one, entering, is_numbered, is_started, leave, leave_one, live_command, may_enter, newly_closed, send, settle, taken_out}
use Rattle.iscsi_outbox.specs.private.Walks.{ends_with}
use Rattle.iscsi_outbox.proofs.CloseLemmas.{closed_all_same, each_limits}

-- the connections stay as they are
pub record Keeps (old new : State) : Type 0 where
  pub limits : new.limits ≡ old.limits
  pub links : new.links ≡ old.links

keeps_all : (s : State) → Keeps s s
keeps_all s = record { limits = refl; links = refl }

keeps_then : {a b c : State} → Keeps a b → Keeps b c → Keeps a c
keeps_then p q = record { limits = q.limits ∙ p.limits; links = q.links ∙ p.links }

out_keeps : (c : Command) (s : State) → Keeps s (taken_out c s)
out_keeps c s =
    let running = is_started c in
    let s' = record s { waits = dropped_of c.place s.waits } in
    elim ((running || is_out c) && not (any_in (is_command c.place) s.lane)) as (λ b. Keeps s (if b then record s' {
      lane = has_left (record { command = c.place; conn = c.conn; unit = c.unit; tag = c.tag; running = running; under_way = is_out c }) s.lane;
      tracked = in_phase (if running then Running else Gone) c.place s.tracked;
    } else record s' { tracked = removed c.place s.tracked })) [
      | true ↦ record { limits = refl; links = refl }
      | false ↦ record { limits = refl; links = refl }
    ]

one_keeps_by : (o : Option Command) (r : Option Request) (s : State) → Keeps s (elim o as (λ (p : Option Command). State) [
  | Some c ↦ elim r as (λ (q : Option Request). State) [ Some request ↦ taken_out c s | None ↦ completed c s ]
  | None ↦ s
])
one_keeps_by None r s = keeps_all s
one_keeps_by (Some c) None s = record { limits = refl; links = refl }
one_keeps_by (Some c) (Some request) s = out_keeps c s

leave_keeps : (r : Option Request) (tickets : List ℕ) (s : State) → Keeps s (leave r tickets s)
leave_keeps r [] s = keeps_all s
leave_keeps r (ticket ∷ tickets) s = keeps_then (one_keeps_by (live_command s ticket) r s) (leave_keeps r tickets (leave_one r ticket s))

command_keeps_by : (e : Entering) (o : Option ℕ) (s : State) → Keeps s (elim o as (λ (q : Option ℕ). State) [
  | Some place ↦ if may_enter e s then record s { tracked = entered_command e place s.tracked } else s
  | None ↦ s
])
command_keeps_by e None s = keeps_all s
command_keeps_by e (Some place) s = elim (may_enter e s) as (λ b. Keeps s (if b then record s { tracked = entered_command e place s.tracked } else s)) [
  | true ↦ record { limits = refl; links = refl }
  | false ↦ keeps_all s
]

enter_keeps_by : (r : Request) (ticket unit : ℕ) (o : Option ℕ) (s : State) → Keeps s (elim o as (λ (q : Option ℕ). State) [ Some conn ↦ enter_command (entering conn r ticket unit) s | None ↦ s ])
enter_keeps_by r ticket unit None s = keeps_all s
enter_keeps_by r ticket unit (Some conn) s = command_keeps_by (entering conn r ticket unit) (next_place s.tracked) s

one_enters : (r : Request) (e : Effect) (s : State) → Keeps s (enter_one r e s)
one_enters r (Enter ticket unit attr) s = enter_keeps_by r ticket unit (place_of s (connection_of r)) s
one_enters r (Deliver q) s = keeps_all s
one_enters r (Immediate q) s = keeps_all s
one_enters r (Wait q) s = keeps_all s
one_enters r (Void sn) s = keeps_all s
one_enters r (Empty sn) s = keeps_all s
one_enters r (Enable ticket unit) s = keeps_all s
one_enters r (Leave ticket unit) s = keeps_all s
one_enters r (Send conn stat_sn reply) s = keeps_all s
one_enters r (CloseConn conn) s = keeps_all s
one_enters r CloseSession s = keeps_all s
one_enters r (Ignore why) s = keeps_all s

each_enters : (r : Request) (es : List Effect) (s : State) → Keeps s (enter_each r es s)
each_enters r [] s = keeps_all s
each_enters r (e ∷ es) s = keeps_then (one_enters r e s) (each_enters r es (enter_one r e s))

enter_keeps : (r : Option Request) (es : List Effect) (s : State) → Keeps s (enter_commands r es s)
enter_keeps None es s = keeps_all s
enter_keeps (Some r) es s = each_enters r es s

-- ---- closing, with the connections of before

newly_same : (s t : State) (es : List Effect) → Keeps s t → newly_closed t (closed_in t es) ≡ newly_closed s (closed_in s es)
newly_same s t es k =
    ap (λ (links : List Counts). filter (λ (conn : ℕ). not (get_or links conn new_counts).closed) (closed_in t es)) k.links
    ∙ ap (λ xs. newly_closed s xs) (closed_all_same t s es k.limits (ap length k.links))

close_limits_by : (o : Option ℕ) (conns : List ℕ) (s : State) → (elim o as (λ (q : Option ℕ). State) [ Some by ↦ close_each by conns s | None ↦ s ]).limits ≡ s.limits
close_limits_by None conns s = refl
close_limits_by (Some by) conns s = each_limits by conns s

close_limits : (r : Option Request) (conns : List ℕ) (s : State) → (close r conns s).limits ≡ s.limits
close_limits None conns s = refl
close_limits (Some r) conns s = close_limits_by (place_of s (connection_of r)) conns s

ends_same : (closes : List ℕ) (sent : Option (ℕ × Reply)) (s t : State) → s.limits ≡ t.limits → ends_with closes sent s ≡ ends_with closes sent t
ends_same closes None s t same = refl
ends_same closes (Some x) s t same =
    ap (λ (o : Limits). elim (position (λ (c : ℕ). c == x.0) o.cids) as (λ (q : Option ℕ). Bool) [ Some conn ↦ list_any (λ p. p == conn) closes | None ↦ false ]) same

-- ---- the whole item

pub record Parts (item : List Effect) (now : State) : Type 0 where
  pub request : Option Request
  pub numbered : Bool
  pub sent : Option (ℕ × Reply)
  pub ends : Bool
  pub left : State
  pub entered : State
  pub closed : State
  pub replied : State
  pub enabled : State
  pub settled : State
  pub of_request : request ≡ executing item
  pub of_numbered : numbered ≡ is_numbered now request (tickets_left item)
  pub of_sent : sent ≡ first_of (filter_map reply_sent item)
  pub of_ends : ends ≡ ends_with (newly_closed now (closed_in now item)) sent now
  pub of_left : left ≡ leave request (tickets_left item) now
  pub of_entered : entered ≡ enter_commands request item left
  pub of_closed : closed ≡ close request (newly_closed entered (closed_in entered item)) entered
  pub of_replied : (closes : List ℕ) → ends ≡ ends_with closes sent closed → replied ≡ send request item numbered closes sent closed
  pub of_enabled : enabled ≡ enable (filter_map ticket_enabled item) replied
  pub of_settled : settled ≡ settle enabled

pub is_item : (item : List Effect) (now : State) (p : Parts item now) → p.settled ≡ after_item item now
is_item item now p =
    let r = executing item in
    let tickets = tickets_left item in
    let closes = newly_closed now (closed_in now item) in
    let left = p.of_left ∙ ap (λ q. leave q tickets now) p.of_request in
    let entered = p.of_entered ∙ ap (λ q. enter_commands q item p.left) p.of_request ∙ ap (λ s. enter_commands r item s) left in
    let keeps = subst (λ s. Keeps now s) (sym entered) (keeps_then (leave_keeps r tickets now) (enter_keeps r item (leave r tickets now))) in
    let newly = newly_same now p.entered item keeps in
    let limits = ap (λ (s : State). s.limits) p.of_closed ∙ close_limits p.request (newly_closed p.entered (closed_in p.entered item)) p.entered ∙ keeps.limits in
    let replied = p.of_replied closes (p.of_ends ∙ ends_same closes p.sent now p.closed (sym limits)) in
    let closed = p.of_closed ∙ ap (λ xs. close p.request xs p.entered) newly ∙ ap (λ q. close q closes p.entered) p.of_request ∙ ap (λ s. close r closes s) entered in
    let numbered = p.of_numbered ∙ ap (λ q. is_numbered now q tickets) p.of_request in
    p.of_settled
    ∙ ap settle (
    p.of_enabled
    ∙ ap (λ s. enable (filter_map ticket_enabled item) s) (
    replied
    ∙ ap (λ q. send q item p.numbered closes p.sent p.closed) p.of_request
    ∙ ap (λ n. send r item n closes p.sent p.closed) numbered
    ∙ ap (λ x. send r item (is_numbered now r tickets) closes x p.closed) p.of_sent
    ∙ ap (λ s. send r item (is_numbered now r tickets) closes (first_of (filter_map reply_sent item)) s) closed
    )
    )
