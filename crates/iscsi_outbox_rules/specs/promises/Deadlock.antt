-- No deadlock: where units and transports have done what they owe, something goes out as long as anything waits. Nothing need be
-- acknowledged but by answers to pings.
use Rattle.std.specs.Prelude.{◌≡◌, ◌&&◌, ◌||◌, not, Bool, true, List, [], ◌∷◌, Some, None}
use Rattle.std.specs.List.{list_any, list_all}
use Rattle.iscsi_outbox_rules.specs.rules.Calls.{Opening, Call}
use Rattle.iscsi_outbox_rules.specs.rules.Boxes.{Task, Outgoing, Handed, Answer, Link, Box}
use Rattle.iscsi_outbox_rules.specs.rules.Words.{is_running_phase, is_open, unwritten, unarrived}
use Rattle.iscsi_outbox_rules.specs.rules.Handing.{is_ping, is_over, chosen}
use Rattle.iscsi_outbox_rules.specs.rules.Run.{opened, after_calls}
use Rattle.iscsi_outbox_rules.specs.promises.Deeds.{FollowsKnown}

abbrev pub is_some_handed : List Handed → Bool
is_some_handed hs = list_any (λ (h : Handed). true) hs

-- an open connection has written all, its pings are answered, and it isn't one that is to be lost
abbrev pub is_served : Box → Link → Bool
is_served b l = not (is_open l) || (not (is_some_handed (unwritten l)) && not (list_any is_ping (unarrived l)) && not (is_over b l))

-- no command runs, no connection owes anything, and no reset waits for other sessions
abbrev pub is_quiet : Box → Bool
is_quiet b =
    not (list_any (λ (t : Task). is_running_phase t.phase) b.tasks)
    && list_all (is_served b) b.links
    && not (list_any (λ (a : Answer). a.uncleared) b.undue)

abbrev pub waits_somewhere : Box → Bool
waits_somewhere b =
    list_any (λ (a : Answer). true) b.undue
    || list_any (λ (l : Link). is_open l && list_any (λ (out : Outgoing). true) l.queue) b.links

abbrev pub gives_somewhere : Opening → Box → Bool
gives_somewhere o b = list_any (λ (l : Link). list_any (λ (out : Outgoing). true) (elim (chosen o b l) [ Some out ↦ out ∷ [] | None ↦ [] ])) b.links

abbrev pub NoDeadlock : Opening → Type 0
NoDeadlock o = (cs : List Call) → FollowsKnown o cs → let b = after_calls o (opened o) cs in
    is_quiet b ≡ true → waits_somewhere b ≡ true → gives_somewhere o b ≡ true
