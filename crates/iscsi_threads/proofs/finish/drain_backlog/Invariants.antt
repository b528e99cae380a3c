use Rattle.std.proofs.Common.{◌≡◌, ◌+◌, ◌++◌, map, vec_len, vec_capacity}
use Rattle.std.specs.VecDeque.{deque_len}
use Rattle.iscsi_threads.specs.promises.Outcomes.{ticket_of}
use Rattle.iscsi_threads.proofs.finish.drain_backlog.Given as goal

abbrev pub invariant-loop : goal.invariant-loop
invariant-loop l = record {
  moved : l.untaken.items ++ map ticket_of l.backlog.items ≡ l.initial.untaken.items ++ map ticket_of l.initial.backlog.items;
  count : deque_len l.backlog + l.counter ≡ deque_len l.initial.backlog;
  len : vec_len l.untaken + deque_len l.backlog ≡ vec_len l.initial.untaken + deque_len l.initial.backlog;
  capacity : vec_capacity l.untaken ≡ vec_capacity l.initial.untaken;
}
