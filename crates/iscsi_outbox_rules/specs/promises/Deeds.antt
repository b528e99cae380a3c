-- Calls with what they answered, and what these show. No state is looked at.
use Rattle.std.specs.Prelude.{◌≡◌, ◌≤◌, ℕ, ◌==◌, ◌&&◌, Bool, true, false, List, [], ◌∷◌, filter, filter_map, map, Option, Some, None}
use Rattle.std.specs.List.{list_any, list_all, flat_map}
use Rattle.iscsi_rules.specs.declared.effect.Effect.{Effect}
use Rattle.iscsi_rules.specs.declared.event.Event.{Event}
use Rattle.iscsi_rules.specs.declared.entry.Entry.{Entry}
use Rattle.iscsi_rules.specs.rules.Agenda.{belongs}
use Rattle.iscsi_rules.specs.rules.Run.{run_of}
use Rattle.iscsi_rules.specs.promises.Flow.{FlowsThrough}
use Rattle.iscsi_rules.specs.promises.Order.{in_parts}
use Rattle.iscsi_outbox_rules.specs.rules.Calls.{Opening, Call, Takes, Puts, Stops, Nexts, Writes, Hears, Joins, Loses, Clears}
use Rattle.iscsi_outbox_rules.specs.rules.Boxes.{Handed, Box}
use Rattle.iscsi_outbox_rules.specs.rules.Handing.{Hands}
use Rattle.iscsi_outbox_rules.specs.rules.Run.{Answered, Silent, Put, Stopped, Gives, Joined, opened, after_call, answered}

-- a call with its answer
abbrev pub Deed : Type 0
Deed = Call × Answered

abbrev pub deeds_from : Opening → Box → List Call → List Deed
deeds_from o b [] = []
deeds_from o b (c ∷ cs) = (c, answered o b c) ∷ deeds_from o (after_call o b c) cs

-- what was called, and answered, in order
abbrev pub deeds_of : Opening → List Call → List Deed
deeds_of o cs = deeds_from o (opened o) cs

-- ---- what was taken

abbrev pub effects_taken : Call → List Effect
effects_taken (Takes effects numbers) = effects
effects_taken _ = []

abbrev pub items_of_call : Call → List (List Effect)
items_of_call (Takes effects numbers) = in_parts effects
items_of_call _ = []

-- the items of all events that were taken, in order
abbrev pub items_in : List Deed → List (List Effect)
items_in ds = flat_map (λ (d : Deed). items_of_call d.0) ds

-- ---- what was handed out

abbrev pub given_in : Answered → Option Handed
given_in (Gives (Hands h)) = Some h
given_in _ = None

-- a PDU was handed out on a connection
abbrev pub handed_by : Call → Option Handed → Option (ℕ × Handed)
handed_by (Nexts conn) (Some h) = Some (conn, h)
handed_by _ _ = None

abbrev pub handed_in_deed : Deed → Option (ℕ × Handed)
handed_in_deed d = handed_by d.0 (given_in d.1)

abbrev pub is_handed_on : ℕ → Deed → Bool
is_handed_on conn d = elim (handed_in_deed d) [ Some g ↦ g.0 == conn | None ↦ false ]

-- all that was handed out, in order, each with its connection
abbrev pub handed_in : List Deed → List (ℕ × Handed)
handed_in ds = filter_map handed_in_deed ds

-- what was handed out on a connection, in order
abbrev pub handed_on : ℕ → List Deed → List Handed
handed_on conn ds = map (λ (g : ℕ × Handed). g.1) (filter (λ (g : ℕ × Handed). g.0 == conn) (handed_in ds))

-- ---- connections

abbrev pub is_join_of : ℕ → Deed → Bool
is_join_of conn d = elim (d.0) [
  | Joins c stat_sn ↦ c == conn && elim (d.1) [ Joined may ↦ may | Silent ↦ false | Put refusal ↦ false | Stopped was ↦ false | Gives given ↦ false ]
  | Takes effects numbers ↦ false
  | Puts p ↦ false
  | Stops ticket ↦ false
  | Nexts c ↦ false
  | Writes c ↦ false
  | Hears c stat_sn tag ↦ false
  | Loses c ↦ false
  | Clears unit ↦ false
]

abbrev pub is_lose_of : ℕ → Call → Bool
is_lose_of conn (Loses c) = c == conn
is_lose_of conn _ = false

abbrev pub has_joined : List Deed → ℕ → Bool
has_joined ds conn = list_any (is_join_of conn) ds

abbrev pub was_lost : List Deed → ℕ → Bool
was_lost ds conn = list_any (λ (d : Deed). is_lose_of conn d.0) ds

-- ---- the session

abbrev pub entry_taken : Call → List Entry
entry_taken (Takes effects numbers) = record { numbers = numbers; effects = effects } ∷ []
entry_taken _ = []

-- what was taken is what a session gave, event by event
abbrev pub FollowsSession : Opening → List Call → Type 0
FollowsSession o cs = (h : List Event) × (flat_map entry_taken cs ≡ run_of o.session h)

-- and MaxCmdSN flows from event to event, as it does in a session, whose window has at most 1024 places
pub record FollowsFlow (o : Opening) (cs : List Call) : Type 0 where
  pub events : List Event
  pub follows : flat_map entry_taken cs ≡ run_of o.session events
  pub flows : FlowsThrough o.session events
  pub window : o.session.window ≤ 1024

-- and each request came on a connection of the session, which refuses those of others
pub record FollowsKnown (o : Opening) (cs : List Call) : Type 0 where
  pub events : List Event
  pub follows : flat_map entry_taken cs ≡ run_of o.session events
  pub known : list_all (belongs o.session) events ≡ true
