-- The names of the crate's definitions that its proofs need.
pub use Rattle.iscsi_slots.specs.Slots.{AreShared, times}
pub use Rattle.iscsi_tasks.specs.Chains.{AreApart, BLANK, BLANK_NODE, Chained, IsAdded, IsChained, IsLinked, IsReused, IsTaken, after_of, before_of, chained, free_in, freed_before, linked_to, member_at, member_of, node_at, order_from, order_in, points_to, with_after, with_before}
pub use Rattle.iscsi_tasks.specs.Changes.{AllBelow, Change, Entered, Gave, IsEnabled, IsMoment, Left, StandsFor, WasFree, after_all_left, after_giving, is_free_in, is_live, live, next_after, was_free, was_given}
pub use Rattle.iscsi_tasks.specs.Counted.{Counts, IsAscending, IsAscendingTo, IsCounted, IsCoveredFrom, IsSettled, ascends_with, covered_from, covered_from_first, covered_from_in, covered_from_with, enabled_now, given_now, greatest_number, is_below, is_free_behind, is_head_in, is_ordered_in, plus_one_if, shifted_by, taken_in, without_one}
pub use Rattle.iscsi_tasks.specs.Linked.{IsInSlots, IsPlaced, Linked, linked}
pub use Rattle.iscsi_tasks.specs.Marked.{HasTicket, IsFirstNew, IsKeptLinked, IsMarked, IsPastNone, IsSpan, covered_tickets, enabled_by, is_free_by, is_none_marked, moved_off, pushed_by}
pub use Rattle.iscsi_tasks.specs.Rules.{Queued, StaysFree, bars, is_head_of, is_ordered_of}
pub use Rattle.iscsi_tasks.specs.Sets.{InOrder, IsNewest, Members, after_moment, entered_to, given_by, given_in, is_covered, is_enabled_in, is_enabled_with, is_free, is_free_among, is_new, left_by, list_staying, looked_at, next_in, queued, set_staying, tasks_in, uncovered, with_tag, with_ticket, without}
pub use Rattle.iscsi_tasks.specs.declared.cover.Cover.{Cover}
pub use Rattle.iscsi_tasks.specs.declared.marks.Marks.{Marks}
pub use Rattle.iscsi_tasks.specs.declared.member.Member.{Member}
pub use Rattle.iscsi_tasks.specs.declared.node.Node.{Node}
pub use Rattle.iscsi_tasks.specs.declared.task.Attr.{Attr}
pub use Rattle.iscsi_tasks.specs.declared.task.Attr.TheVariants.{Head, Ordered, Simple}
pub use Rattle.iscsi_tasks.specs.declared.task.Task.{Task}
pub use Rattle.std.proofs.lemmas.Bool.Decides.{nat_tests}
pub use Rattle.std.proofs.lemmas.Grind.{common_steps}
