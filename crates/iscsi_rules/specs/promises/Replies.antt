-- The request that executes in an item, and the replies that are sent to a request.
use Rattle.std.specs.Prelude.{ℕ, ◌==◌, Bool, false, List, [], ◌∷◌, ◌++◌, Option, Some, None, filter_map, if◌then◌else◌}
use Rattle.iscsi_wire.specs.declared.reply.Reply.{Reply}
use Rattle.iscsi_rules.specs.rules.Trace.{Arrival, Mark, Delivers, Executes, Leaves, Sends, Trace}

-- the request that executes in an item, at its turn or at once
abbrev pub executed_in : List Mark → Option Arrival
executed_in (Delivers a ∷ ms) = Some a
executed_in (Executes a ∷ ms) = Some a
executed_in _ = None

-- the request that an item answers, if it answers one: the one that executes in it, or that of the command which leaves first
abbrev pub answered_in : List Mark → Option Arrival
answered_in (Delivers a ∷ ms) = Some a
answered_in (Executes a ∷ ms) = Some a
answered_in (Leaves c ∷ ms) = Some c.arrival
answered_in _ = None

-- the item answers the request that arrived in this event
abbrev pub is_answer_to : ℕ → List Mark → Bool
is_answer_to event item = elim (answered_in item) [ Some a ↦ a.event == event | None ↦ false ]

abbrev pub reply_sent : Mark → Option Reply
reply_sent (Sends conn reply) = Some reply
reply_sent _ = None

-- the replies to the request that arrived in this event
abbrev pub replies_to : ℕ → Trace → List Reply
replies_to event [] = []
replies_to event (item ∷ t) = replies_to event t ++ (if is_answer_to event item then filter_map reply_sent item else [])
