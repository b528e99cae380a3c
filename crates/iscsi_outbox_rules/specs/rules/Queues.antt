-- What enters a queue, and what is taken out of one.
use Rattle.std.specs.Prelude.{ℕ, ◌+◌, ◌==◌, ◌&&◌, not, Bool, List, [], ◌∷◌, ◌++◌, map, filter, if◌then◌else◌}
use Rattle.iscsi_outbox_rules.specs.rules.Boxes.{Outgoing, Answer, Link, Box}
use Rattle.iscsi_outbox_rules.specs.rules.Words.{is_of, is_open}

abbrev pub at_link : ℕ → (Link → Link) → List Link → List Link
at_link conn change links = map (λ (l : Link). if l.conn == conn then change l else l) links

-- a connection takes nothing before it joined, nor once it was lost or another one's Logout closed it; one that a Logout on itself
-- closes still takes the answers that had to wait
abbrev pub takes_more : Link → Bool
takes_more l = is_open l && not l.cut

abbrev pub append : Outgoing → Link → Link
append out l = if takes_more l then record l { queue = l.queue ++ out ∷ [] } else l

-- it enters the queue of a connection
abbrev pub enter : ℕ → Outgoing → Box → Box
enter conn out b = record b { time = b.time + 1; links = at_link conn (append (record out { time = b.time })) b.links }

abbrev pub without : (ℕ → Bool) → Link → Link
without these l = record l { queue = filter (λ out. not (is_of these out)) l.queue }

-- what waits of these commands is dropped
abbrev pub drop_of : (ℕ → Bool) → Box → Box
drop_of these b = record b { links = map (without these) b.links }

abbrev pub emptied : Link → Link
emptied l = record l { queue = [] }

-- what waits on a connection is dropped, and the answers that would go there
abbrev pub drop_on : ℕ → Box → Box
drop_on conn b = record b {
  links = at_link conn emptied b.links;
  undue = filter (λ (a : Answer). not (a.conn == conn)) b.undue;
}
