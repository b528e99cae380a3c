use Rattle.std.proofs.Common.{◌≡◌, ℕ, ◌+◌, ◌<◌, ◌++◌, length, map, slice_index_or, vec_len, Vec}
use Rattle.std.specs.VecDeque.{deque_len}
use Rattle.std.specs.declared.alloc.Global.{Global}
use Rattle.iscsi_threads.specs.rules.Journal.{jobs_of}
use Rattle.iscsi_threads.specs.promises.Outcomes.{ticket_of}
use Rattle.iscsi_threads.specs.private.Finishing.{HaveRoom}
use Rattle.iscsi_threads.proofs.finish.drain_fresh.Given as goal

abbrev pub invariant-loop : goal.invariant-loop
invariant-loop l = record {
  moved : (u : ℕ) (v w : Vec ℕ Global) → u < length l.initial.untaken.items
      → (slice_index_or l.untaken.items u w).items ++ map ticket_of (jobs_of u l.fresh.items)
      ≡ (slice_index_or l.initial.untaken.items u v).items ++ map ticket_of (jobs_of u l.initial.fresh.items);
  room : HaveRoom (deque_len l.fresh) l.untaken.items;
  len : vec_len l.untaken ≡ vec_len l.initial.untaken;
  count : deque_len l.fresh + l.counter ≡ deque_len l.initial.fresh;
}
