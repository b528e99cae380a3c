use Rattle.std.proofs.Common.{◌≡◌, ◌+◌, ◌++◌, ◌≤◌, length, vec_len, vec_capacity}
use Rattle.rtrb.specs.Ring.{sent, received, known_items, producer_capacity, consumer_capacity}
use Rattle.iscsi_threads.proofs.finish.drain_ring.Given as goal

abbrev pub invariant-loop : goal.invariant-loop
invariant-loop g l = record {
  moved : received l.consumer ≡ received l.fn.consumer ++ l.rest.items;
  whole : received l.consumer ++ known_items l.consumer ≡ sent l.producer;
  count : length (known_items l.consumer) + l.counter ≡ l.count;
  room : vec_len l.rest + length (known_items l.consumer) ≤ vec_capacity l.rest;
  places : consumer_capacity l.consumer ≡ consumer_capacity l.fn.consumer;
  sender_places : producer_capacity l.producer ≡ producer_capacity l.fn.producer;
}
