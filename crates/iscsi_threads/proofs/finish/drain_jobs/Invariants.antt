use Rattle.std.proofs.Common.{◌≡◌, ◌+◌, ◌++◌, ◌≤◌, length, map, vec_len, vec_capacity}
use Rattle.rtrb.specs.Ring.{sent, received, known_items, consumer_capacity}
use Rattle.iscsi_threads.specs.promises.Outcomes.{ticket_of}
use Rattle.iscsi_threads.proofs.finish.drain_jobs.Given as goal

abbrev pub invariant-loop : goal.invariant-loop
invariant-loop l = record {
  moved : map ticket_of (received l.consumer) ≡ map ticket_of (received l.fn.consumer) ++ l.untaken.items;
  whole : received l.consumer ++ known_items l.consumer ≡ sent l.producer;
  count : length (known_items l.consumer) + l.counter ≡ l.waiting;
  room : vec_len l.untaken + length (known_items l.consumer) ≤ consumer_capacity l.fn.consumer;
  capacity : vec_capacity l.untaken ≡ vec_capacity l.fn.untaken;
  places : consumer_capacity l.consumer ≡ consumer_capacity l.fn.consumer;
}
