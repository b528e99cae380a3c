-- How what waits stands in lists over shared slots. For private contracts alone.
use Rattle.std.specs.Prelude.{◌≡◌, ℕ, ◌-◌, ◌<◌, ◌≤◌, false, List, [], length, map, slice_set, unwrap_or, None, if◌then◌else◌}
use Rattle.iscsi_lists.specs.Lists.{Listed, times_in, with_last, without}
use Rattle.iscsi_outbox_rules.specs.declared.own_pdu.OwnPdu.TheVariants.{OfConnection}
use Rattle.iscsi_outbox_state.specs.declared.waiting.Content.TheVariants.{Own}
use Rattle.iscsi_outbox_state.specs.declared.waiting.Waiting.{Waiting}
use Rattle.iscsi_outbox_state.specs.Waits.{Entry, Waits, entry, of_none}
use Rattle.iscsi_waiting.specs.Counting.{counts_in, counts_of}
use Rattle.iscsi_waiting.specs.Known.{Ascend, IsFit}
use Rattle.iscsi_waiting.specs.Marks.{AreMarked, slots_at, value_at}
use Rattle.iscsi_waiting.specs.declared.counts.Counts.{Counts}
use Rattle.iscsi_waiting.specs.declared.slots.Kept.{Kept}
use Rattle.iscsi_waiting.specs.declared.slots.Slots.{Slots}

-- anything that may wait: what a slot has that was never used
abbrev pub BLANK : Kept
BLANK = record { item = record { content = Own (OfConnection 0 []); takes = false; fenced = false; numbered = false; ends = false; command = None }; time = 0 }

abbrev pub kept_at : Listed Kept → ℕ → Kept
kept_at v slot = value_at BLANK v slot

abbrev pub entry_at : Listed Kept → ℕ → Entry
entry_at v slot = let k = kept_at v slot in entry k.time k.item

abbrev pub queue_of : Listed Kept → List ℕ → List Entry
queue_of v slots = map (entry_at v) slots

abbrev pub queues_of : Listed Kept → List (List Entry)
queues_of v = map (queue_of v) v.lists

-- the list of what it is of: 0 is that of no command
abbrev pub place_of : Waiting → ℕ
place_of w = unwrap_or w.command 0

-- 1 for a fenced PDU, 2 for another one that takes a StatSN
abbrev pub kind_of : Waiting → ℕ
kind_of w = if w.fenced then 1 else (if w.takes then 2 else 0)

abbrev pub place_in : Kept → ℕ
place_in k = place_of k.item

abbrev pub kind_in : Kept → ℕ
kind_in k = kind_of k.item

abbrev pub moments_of : Listed Kept → List ℕ → List ℕ
moments_of v slots = map (λ s. (kept_at v s).time) slots

pub record IsKept (v : Listed Kept) (owned fence : Listed ℕ) (each_conn : List Counts) (all : Counts) (time : ℕ) : Type 0 where
  pub commands : AreMarked BLANK place_in v owned
  pub fences : AreMarked BLANK kind_in v fence
  pub kinds : length fence.lists ≡ 3
  pub fit : (slot : ℕ) → 1 ≤ times_in slot v.lists → IsFit time (length owned.lists - 1) (entry_at v slot)
  pub ascend : (conn : ℕ) → Ascend (moments_of v (slots_at v conn))
  pub kinds_ascend : (kind : ℕ) → 1 ≤ kind → Ascend (moments_of v (slots_at fence kind))
  pub conns : each_conn ≡ map counts_of (queues_of v)
  pub total : all ≡ counts_in (queues_of v)

abbrev pub AreKept : Slots → Type 0
AreKept s = IsKept s.waiting s.owned s.fence s.counts.items s.all s.time

-- what callers see
abbrev pub waits_of : Slots → Waits
waits_of s = record { queues = queues_of s.waiting; time = s.time; commands = length s.owned.lists - 1; room = s.waiting.room }

-- ---- changes

-- a slot goes to the end of a list, or stays in the first one: from list 1 on that is the same
pub record GoesTo (old new : Listed ℕ) (list slot : ℕ) : Type 0 where
  pub free : new.free ≡ old.free
  pub room : new.room ≡ old.room
  pub long : length new.lists ≡ length old.lists
  pub lists : (k : ℕ) → 1 ≤ k → slots_at new k ≡ slots_at (record old { lists = with_last list slot (map (without slot) old.lists) }) k

-- a slot is in no queue any more
pub record Leaves (old new : Slots) (slot : ℕ) : Type 0 where
  pub lists : new.waiting.lists ≡ map (without slot) old.waiting.lists
  pub values : new.waiting.values ≡ old.waiting.values
  pub room : new.waiting.room ≡ old.waiting.room
  pub owned : GoesTo old.owned new.owned 0 slot
  pub time : new.time ≡ old.time

abbrev pub let_go : Kept → Kept
let_go k = record { item = of_none k.item; time = k.time }

-- what a slot has is of no command any more
pub record LetsGo (old new : Slots) (slot : ℕ) : Type 0 where
  pub lists : new.waiting.lists ≡ old.waiting.lists
  pub values : new.waiting.values ≡ slice_set old.waiting.values slot (let_go (kept_at old.waiting slot))
  pub room : new.waiting.room ≡ old.waiting.room
  pub owned : GoesTo old.owned new.owned 0 slot
  pub time : new.time ≡ old.time

-- ---- what entered before a time

-- something of a kind waits that did
pub record IsBehind (v : Listed Kept) (kind time : ℕ) : Type 0 where
  pub slot : ℕ
  pub waits : 1 ≤ times_in slot v.lists
  pub of_kind : kind_in (kept_at v slot) ≡ kind
  pub before : (kept_at v slot).time < time

-- nothing of a kind does
abbrev pub IsBehindNone : Listed Kept → ℕ → ℕ → Type 0
IsBehindNone v kind time = (slot : ℕ) → 1 ≤ times_in slot v.lists → kind_in (kept_at v slot) ≡ kind → time ≤ (kept_at v slot).time

-- ---- all slots in one list

pub record AreInFirst (m : Listed ℕ) (count size : ℕ) : Type 0 where
  pub all : m.free ≡ []
  pub room : m.room ≡ size
  pub lists : length m.lists ≡ count
  pub none : (list : ℕ) → 1 ≤ list → slots_at m list ≡ []
