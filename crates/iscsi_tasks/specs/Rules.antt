-- When a command of a task set is free to be executed (SAM-5 section 8, task attributes). The rules see a command as
-- its ticket and its attribute. Tickets go up in the order of entering, so the older command has the lower one.
use Rattle.std.specs.Prelude.{◌≡◌, ℕ, ◌==◌, ◌&&◌, ◌||◌, not, Bool, true, false, nat_lt, List, filter}
use Rattle.std.specs.List.{list_any}
use Rattle.iscsi_tasks.specs.declared.task.Attr.{Attr}
use Rattle.iscsi_tasks.specs.declared.task.Attr.TheVariants.{Simple, Ordered, Head}

pub record Queued : Type 0 where
  pub ticket : ℕ
  pub attr : Attr

abbrev pub is_head_of : Attr → Bool
is_head_of Head = true
is_head_of Simple = false
is_head_of Ordered = false

abbrev pub is_ordered_of : Attr → Bool
is_ordered_of Ordered = true
is_ordered_of Simple = false
is_ordered_of Head = false

-- The other command keeps one with this attribute and ticket from being free. Nothing does that to HEAD OF QUEUE. To
-- ORDERED every older command and any other HEAD OF QUEUE do it, to SIMPLE every older ORDERED and any HEAD OF QUEUE
-- rules: free/head-of-queue, free/ordered, free/simple
unfoldable pub bars_as : Attr → ℕ → Queued → Bool
bars_as Head ticket other = false
bars_as Ordered ticket other = nat_lt other.ticket ticket || (is_head_of other.attr && not (other.ticket == ticket))
bars_as Simple ticket other = (is_ordered_of other.attr && nat_lt other.ticket ticket) || is_head_of other.attr

abbrev pub bars : Queued → Queued → Bool
bars command other = bars_as command.attr command.ticket other

-- no command of the set bars it
abbrev pub is_free : Queued → List Queued → Bool
is_free command set = not (list_any (bars command) set)

-- a command that is free stays free when others leave
abbrev pub StaysFree : Type 0
StaysFree = (command : Queued) (set : List Queued) (stays : Queued → Bool) → is_free command set ≡ true → is_free command (filter stays set) ≡ true
