-- What waits on the connections of a session, in order, and what becomes of it. Connections go by their places, from 0 on.
use Rattle.std.specs.Prelude.{ℕ, ◌+◌, ◌==◌, ◌&&◌, not, nat_lt, Bool, true, false, List, [], ◌∷◌, ◌++◌, map, drop, filter, count_by, sum_by, replicate, Option, Some, None, slice_index_or, slice_set, if◌then◌else◌}
use Rattle.std.specs.List.{list_any}
use Rattle.iscsi_outbox_state.specs.declared.waiting.Content.TheVariants.{Reply as IsReply, Own as IsOwn}
use Rattle.iscsi_outbox_state.specs.declared.waiting.Front.{Front}
use Rattle.iscsi_outbox_state.specs.declared.waiting.Waiting.{Waiting}

-- a PDU that waits, and when it entered its queue: one order for all connections
pub record Entry : Type 0 where
  pub time : ℕ
  pub item : Waiting

abbrev pub entry : ℕ → Waiting → Entry
entry time item = record { time = time; item = item }

pub record Waits : Type 0 where
  pub queues : List (List Entry)  -- of each connection
  pub time : ℕ  -- when the next one enters
  pub commands : ℕ  -- commands have the places from 1 up to this
  pub room : ℕ  -- so many may wait

-- nothing waits on so many connections
abbrev pub opened : ℕ → ℕ → ℕ → Waits
opened conns commands room = record { queues = replicate conns []; time = 0; commands = commands; room = room }

abbrev pub queue_at : Waits → ℕ → List Entry
queue_at v conn = slice_index_or v.queues conn []

-- ---- what callers ask

-- how many like this wait on all connections
abbrev pub count_in : (Entry → Bool) → Waits → ℕ
count_in test v = sum_by (λ (q : List Entry). count_by test q) v.queues

-- one like this waits
abbrev pub any_in : (Entry → Bool) → Waits → Bool
any_in test v = list_any (λ (q : List Entry). list_any test q) v.queues

abbrev pub is_any : Entry → Bool
is_any e = true

abbrev pub is_reply : Entry → Bool
is_reply e = elim (e.item.content) [ IsReply reply ↦ true | IsOwn own ↦ false ]

abbrev pub is_own : Entry → Bool
is_own e = elim (e.item.content) [ IsReply reply ↦ false | IsOwn own ↦ true ]

abbrev pub is_numbered : Entry → Bool
is_numbered e = e.item.numbered

abbrev pub is_fenced : Entry → Bool
is_fenced e = e.item.fenced

abbrev pub is_taking : Entry → Bool
is_taking e = e.item.takes

-- fenced, and entered before this time
abbrev pub is_fenced_before : ℕ → Entry → Bool
is_fenced_before time e = e.item.fenced && nat_lt e.time time

-- takes a StatSN, and entered before this time
abbrev pub is_taking_before : ℕ → Entry → Bool
is_taking_before time e = e.item.takes && nat_lt e.time time

abbrev pub front_of : List Entry → Option Front
front_of [] = None
front_of (e ∷ es) = Some (record { time = e.time; takes = e.item.takes; fenced = e.item.fenced })

abbrev pub first_item : List Entry → Option Waiting
first_item [] = None
first_item (e ∷ es) = Some e.item

-- ---- what becomes of it

-- a PDU enters the queue of a connection
abbrev pub entered : ℕ → Waiting → Waits → Waits
entered conn item v = record v { queues = slice_set v.queues conn (queue_at v conn ++ entry v.time item ∷ []); time = v.time + 1 }

-- the first PDU of a connection is taken out
abbrev pub popped : ℕ → Waits → Waits
popped conn v = record v { queues = slice_set v.queues conn (drop 1 (queue_at v conn)) }

-- all that waits on a connection is dropped
abbrev pub dropped_on : ℕ → Waits → Waits
dropped_on conn v = record v { queues = slice_set v.queues conn [] }

abbrev pub is_of : ℕ → Entry → Bool
is_of command e = elim (e.item.command) [ Some c ↦ c == command | None ↦ false ]

-- all that waits of a command is dropped
abbrev pub dropped_of : ℕ → Waits → Waits
dropped_of command v = record v { queues = map (λ (q : List Entry). filter (λ e. not (is_of command e)) q) v.queues }

abbrev pub of_none : Waiting → Waiting
of_none w = record { content = w.content; takes = w.takes; fenced = w.fenced; numbered = w.numbered; ends = w.ends; command = None }

abbrev pub released : ℕ → Entry → Entry
released command e = if is_of command e then entry e.time (of_none e.item) else e

-- what waits of a command waits on, and is of none
abbrev pub released_of : ℕ → Waits → Waits
released_of command v = record v { queues = map (λ (q : List Entry). map (released command) q) v.queues }
