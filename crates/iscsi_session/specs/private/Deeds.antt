-- What a request does that executes: what a session finds, what it keeps afterwards, and the effects. For private contracts alone.
use Rattle.std.specs.Prelude.{◌≡◌, ℕ, ℤ, pos, ◌-ℤ◌, ◌+◌, ◌-◌, ◌<◌, ◌==◌, ◌&&◌, not, Bool, true, false, nat_lt, [], ◌∷◌, ◌++◌, length, filter, find, count_by, is_some, Option, Some, None, option_map, if◌then◌else◌}
use Rattle.std.specs.List.{list_any}
use Rattle.iscsi_wire.specs.declared.request.Request.{Request}
use Rattle.iscsi_wire.specs.Serial.{lift, number_of_first}
use Rattle.iscsi_wire.specs.Fields.{connection_of, is_immediate, opcode, itt, rtt, cid, cmd_sn, ref_cmd_sn}
use Rattle.iscsi_window.specs.declared.held_request.HeldRequest.{HeldRequest}
use Rattle.iscsi_window.specs.declared.answer.Place.TheVariants.{Inside, Outside}
use Rattle.iscsi_window.specs.Windows.{HasRoom, number_expected, room_of, place_in, find_held, number_shown, emptied, advanced, is_next}
use Rattle.iscsi_tasks.specs.declared.cover.Cover.TheVariants.{All as AllOfThem, Below}
use Rattle.iscsi_tasks.specs.Sets.{is_covered}
use Rattle.iscsi_commands.specs.declared.live.Live.{Live}
use Rattle.iscsi_rules.specs.declared.effect.Effect.TheVariants.{Deliver, Immediate, Wait as Waits, Empty as EmptyNumber}
use Rattle.iscsi_rules.specs.declared.deed.Answer.{Answer}
use Rattle.iscsi_rules.specs.declared.deed.Answer.TheVariants.{Respond}
use Rattle.iscsi_rules.specs.declared.deed.Deed.{Deed}
use Rattle.iscsi_rules.specs.declared.deed.Deed.TheVariants.{Nothing, Wait, Reply, Enter, Void, Empty, Abort, AbortEarlier, AbortAll, CloseConn, CloseSession}
use Rattle.iscsi_rules.specs.rules.Settings.{is_known}
use Rattle.iscsi_rules.specs.rules.Execution.{unit_named, reply_of}
use Rattle.iscsi_rules.specs.rules.Management.{MOST_WAITING, may_wait, refusal, by_its_number}
use Rattle.iscsi_rules.specs.rules.Deeds.{Facts, of_unit, function_deed, deed_of}
use Rattle.iscsi_session.specs.declared.session.waiting.Waiting.{Waiting}
use Rattle.iscsi_session.specs.private.Standing.{Core, is_held}
use Rattle.iscsi_session.specs.private.Steps.{Step, unchanged, and_then, after_effect, set_at, is_set_full, is_tag_kept, is_crowded_by, waiting_in, number_by, replied, command_entered, covers_ticket, left_answered, number_voided, is_among_open, logged_out}

-- ---- what is found

-- the live command of the unit with this tag
abbrev pub tagged_in : Core → ℕ → ℕ → Option Live
tagged_in s tag unit = find (λ l. l.unit == unit && l.itt == tag) s.live

-- the function is immediate, and the number to which it refers has a place, and is below its own
abbrev pub missing_by : Core → Request → Bool
missing_by s r = elim (place_in s.window (ref_cmd_sn r)) [
  | Inside k ↦ is_immediate r && nat_lt (number_expected s.window + k) (lift (number_expected s.window) (cmd_sn r))
  | Outside ↦ false
]

abbrev pub facts_by : Core → Request → Facts
facts_by s r = record {
  level = s.level;
  unit = unit_named (length s.sets) r;
  is_used = is_tag_kept s (itt r);
  is_crowded = is_crowded_by s r;
  is_full = of_unit (unit_named (length s.sets) r) false (λ unit. is_set_full s.depth (set_at s unit));
  has_commands = of_unit (unit_named (length s.sets) r) false (λ unit. list_any (λ l. l.unit == unit) s.live);
  live = of_unit (unit_named (length s.sets) r) None (λ unit. option_map (λ (l : Live). l.ticket) (tagged_in s (rtt r) unit));
  held = of_unit (unit_named (length s.sets) r) None (λ unit. option_map (number_shown s.window) (find_held s.window (rtt r) unit (cmd_sn r)));
  is_missing = missing_by s r;
  is_open = is_among_open (cid r) s.open_conns;
}

-- what it does, at its turn, or at its arrival where it doesn't wait
abbrev pub deed_by : Core → Request → Deed
deed_by s r = deed_of (facts_by s r) r

-- how a function is refused, if it is, and what it does, refused or not
abbrev pub refusal_by : Core → Request → Option Answer
refusal_by s r = refusal s.level (unit_named (length s.sets) r) r

abbrev pub managed_by : Core → Request → Deed
managed_by s r = elim (refusal_by s r) [ Some x ↦ Reply x | None ↦ function_deed (facts_by s r) r ]

-- a function that may wait, and isn't refused, at its arrival
abbrev pub waits_by : Core → Request → Deed
waits_by s r =
    let exp = number_expected s.window in
    by_its_number (lift exp (cmd_sn r)) exp (exp + room_of s.window) (waiting_in s.waiting (connection_of r)) Reply (function_deed (facts_by s r) r) Wait

-- an immediate request at its arrival
abbrev pub arrival_by : Core → Request → Deed
arrival_by s r =
    if opcode r == 0x02 && may_wait r then elim (refusal_by s r) [ Some x ↦ Reply x | None ↦ waits_by s r ]
    else deed_by s r

-- ---- when it does that

-- what is found where a request does this
abbrev pub Fits : Core → Request → Deed → Type 0
Fits s r Wait = (may_wait r ≡ true) × (number_expected s.window < lift (number_expected s.window) (cmd_sn r)) × (waiting_in s.waiting (connection_of r) < MOST_WAITING)
Fits s r (Enter unit) = (unit < length s.sets) × (is_set_full s.depth (set_at s unit) ≡ false) × (is_tag_kept s (itt r) ≡ false) × (is_crowded_by s r ≡ false)
Fits s r Void = missing_by s r ≡ true
Fits s r (Empty unit sn) = (unit < length s.sets) × (option_map (number_shown s.window) (find_held s.window (rtt r) unit (cmd_sn r)) ≡ Some sn)
Fits s r (Abort unit ticket) = (unit < length s.sets) × (option_map (λ (l : Live). l.ticket) (tagged_in s (rtt r) unit) ≡ Some ticket)
Fits s r (AbortEarlier unit) = unit < length s.sets
Fits s r (AbortAll unit) = unit < length s.sets
Fits s r _ = Unit {0}

-- the numbers and counts have room for it
abbrev pub IsReady : Core → Request → Deed → Type 0
IsReady s r (Enter unit) = (is_immediate r ≡ false → HasRoom s.window) × (s.entered + count_by is_some s.window.places < s.taken) × (is_known (connection_of r) s.conns ≡ true)
IsReady s r Void = (s.window.turned + count_by is_some s.window.places < s.taken) × (s.entered + count_by is_some s.window.places < s.taken)
IsReady s r _ = Unit {0}

-- how many held requests may be taken out
abbrev pub most_emptied : Core → Deed → ℕ
most_emptied s (CloseConn conn) = count_by is_held s.window.places
most_emptied s CloseSession = count_by is_held s.window.places
most_emptied s _ = 0

-- ---- what it comes to

-- its number less the first one
abbrev pub position_by : Core → Request → ℤ
position_by s r = pos (number_by s r) -ℤ pos (number_of_first s.window.first)

-- a request does this, whose number less the first one is this one, and which arrived in this event
abbrev pub carried : Core → Request → ℤ → ℕ → Deed → Step
carried s r number event Nothing = unchanged s
carried s r number event Wait = unchanged s
carried s r number event (Reply x) = replied s (connection_of r) (reply_of r x)
carried s r number event (Enter unit) = command_entered s r unit
carried s r number event Void = and_then (number_voided s (ref_cmd_sn r)) (λ s'. replied s' (connection_of r) (reply_of r (Respond 0)))
carried s r number event (Empty unit sn) = after_effect (EmptyNumber sn) (replied (record s { window = emptied s.window sn }) (connection_of r) (reply_of r (Respond 0)))
carried s r number event (Abort unit ticket) = left_answered s unit (covers_ticket ticket) (connection_of r) (reply_of r (Respond 0))
carried s r number event (AbortEarlier unit) = left_answered s unit (is_covered (Below number event)) (connection_of r) (reply_of r (Respond 0))
carried s r number event (AbortAll unit) = left_answered s unit (is_covered AllOfThem) (connection_of r) (reply_of r (Respond 0))
carried s r number event (CloseConn conn) = logged_out s r (Some conn)
carried s r number event CloseSession = logged_out s r None

-- a request that arrived in this event executes
abbrev pub executed : Core → Request → ℕ → Step
executed s r event = carried s r (position_by s r) event (deed_by s r)

-- ---- a turn

-- the next number turns, if it is received, and the request that was held executes, if there was one
abbrev pub turn_taken : Core → Option (Option HeldRequest) → Step
turn_taken s None = unchanged s
turn_taken s (Some None) = unchanged (record s { window = advanced s.window })
turn_taken s (Some (Some h)) = after_effect (Deliver h.request) (executed (record s { window = advanced s.window }) h.request h.event)

-- the first function that waits for the next number
abbrev pub next_waiting : Core → Option Waiting
next_waiting s = find (λ w. w.turn == s.window.turned) s.waiting

abbrev pub next_position : Core → ℤ
next_position s = pos (number_expected s.window) -ℤ pos (number_of_first s.window.first)

-- it waits no more, and executes, if there is one
abbrev pub function_taken : Core → Option Waiting → Step
function_taken s None = unchanged s
function_taken s (Some w) =
    let rest = record s { waiting = filter (λ v. not (v.event == w.event)) s.waiting } in after_effect (Immediate w.request) (carried rest w.request (next_position s) w.event (function_deed (facts_by rest w.request) w.request))

-- ---- an arrival

-- a numbered request can be delivered as it comes: its number is the expected one, and no function waits for that
abbrev pub comes_next : Core → Request → Bool
comes_next s r = not (is_some (next_waiting s)) && is_next s.window r

-- an immediate request waits, or does this at its arrival
abbrev pub immediate_taken : Core → Request → Deed → Step
immediate_taken s r Wait = record {
  core = record s { waiting = s.waiting ++ record { request = r; turn = lift (number_expected s.window) (cmd_sn r) - number_of_first s.window.first; event = s.taken - 1 } ∷ [] };
  effects = Waits r ∷ [];
}
immediate_taken s r deed = after_effect (Immediate r) (carried s r (position_by s r) (s.taken - 1) deed)
