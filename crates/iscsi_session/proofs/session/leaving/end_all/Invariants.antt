use Rattle.iscsi_session.proofs.Names.{◌≡◌, ◌+◌, ◌≤◌, true, length, count_by, take, drop, are_ascending, are_known, Continues, AreCounted, is_numbered, finished_by, leave_each, without_tickets}
use Rattle.iscsi_session.proofs.session.leaving.end_all.Given as goal

-- those are over whose tickets came so far
abbrev pub invariant-loop-k : goal.invariant-loop-k
invariant-loop-k over l = record {
  live : l.live.items ≡ without_tickets (take l.k l.tickets) l.fn.live.items;
  window : l.window ≡ finished_by l.fn.window l.fn.live.items l.live.items;
  fewer : count_by is_numbered l.live.items ≤ count_by is_numbered l.fn.live.items;
  connections : l.connections ≡ record l.fn.connections { immediate = l.connections.immediate };
  counted : AreCounted l.connections.immediate l.fn.connections.conns l.live.items;
  ascending : are_ascending l.live.items ≡ true;
  known : are_known l.live.items l.fn.connections.conns ≡ true;
  live_capacity : l.live.room ≡ l.fn.live.room;
  effects : Continues over.S.EffectSink.has (leave_each l.unit l.tickets) (leave_each l.unit (drop l.k l.tickets)) l.fn.out l.out;
  spent : over.S.EffectSink.len l.out + length l.live.items ≤ over.S.EffectSink.len l.fn.out + length l.fn.live.items;
  capacity : over.S.EffectSink.capacity l.out ≡ over.S.EffectSink.capacity l.fn.out;
}
