-- When the answer to an abort or Logout enters its queue (RFC 7143 sections 4.2.3.3 and 11.14, SAM-5 section 7).
use Rattle.std.specs.Prelude.{◌==◌, ◌&&◌, ◌||◌, not, Bool, true, false, List, [], ◌∷◌, ◌++◌, if◌then◌else◌}
use Rattle.std.specs.List.{list_any}
use Rattle.iscsi_outbox_rules.specs.rules.Calls.{Opening}
use Rattle.iscsi_outbox_rules.specs.rules.Boxes.{Aim, AtTag, AtUnit, AtConns, Answer, Link, Box}
use Rattle.iscsi_outbox_rules.specs.rules.Words.{contains, is_running, has_under_way}
use Rattle.iscsi_outbox_rules.specs.rules.Queues.{enter}

abbrev pub is_of_logout : Aim → Bool
is_of_logout AtConns = true
is_of_logout _ = false

-- aborts of one tag, and functions of one unit, are answered in their order
abbrev pub is_same_aim : Aim → Aim → Bool
is_same_aim (AtTag tag unit) (AtTag t u) = t == tag
is_same_aim (AtUnit unit) (AtUnit u) = u == unit
is_same_aim _ _ = false

-- something of the answer's scope is under way on this connection, which isn't its own: there the answer goes behind it. A
-- Logout waits for none: what lies on a connection that is closed isn't read
abbrev pub holds : Opening → Answer → Link → Bool
holds o a l = not (is_of_logout a.aim) && not (l.conn == a.conn) && has_under_way o (contains a.out.scope) l

-- an answer before it in the log, which isn't due, has to be first: on its connection where it closes that; of the same aim
abbrev pub goes_behind : Answer → Answer → Bool
goes_behind a before = (before.conn == a.conn && contains a.out.closes a.conn) || is_same_aim a.aim before.aim

-- no command of its scope is running, and nothing of one is under way elsewhere
-- outbox: due/stopped, due/arrived, due/cleared, due/behind
abbrev pub is_due : Opening → Box → List Answer → Answer → Bool
is_due o b before a =
    not (list_any (is_running b) a.out.scope)
    && not (list_any (holds o a) b.links)
    && not a.uncleared
    && not (list_any (goes_behind a) before)

-- what is due enters, in the order of the log
abbrev pub settle_from : Opening → List Answer → List Answer → Box → Box
settle_from o before [] b = record b { undue = before }
settle_from o before (a ∷ rest) b =
    if is_due o b before a then settle_from o before rest (enter a.conn a.out b)
    else settle_from o (before ++ a ∷ []) rest b

abbrev pub settle : Opening → Box → Box
settle o b = settle_from o [] b.undue b
