use Rattle.iscsi_session.proofs.Names.{◌≡◌, ◌+◌, ◌-◌, ◌≤◌, length, range_with_len, is_covered, Continues, all_commands_left, cover_of, owed}
use Rattle.iscsi_session.proofs.session.Session.leave_all.Given as goal

-- the units that are done and those that are still to do are the whole
abbrev pub invariant-loop-unit : goal.invariant-loop-unit
invariant-loop-unit over l = record {
  session : (all_commands_left l.self (range_with_len l.unit (l.unit-end - l.unit)) (is_covered (cover_of l.fn.scope))).core ≡ (all_commands_left l.initial.self (range_with_len 0 (length l.initial.self.sets)) (is_covered (cover_of l.fn.scope))).core;
  effects : Continues over.S.EffectSink.has (all_commands_left l.initial.self (range_with_len 0 (length l.initial.self.sets)) (is_covered (cover_of l.fn.scope))).effects (all_commands_left l.self (range_with_len l.unit (l.unit-end - l.unit)) (is_covered (cover_of l.fn.scope))).effects l.initial.out l.out;
  cover : l.cover ≡ cover_of l.fn.scope;
  units : length l.self.sets ≡ l.unit-end;
  places : l.self.window.places ≡ l.initial.self.window.places;
  spent : over.S.EffectSink.len l.out + owed l.self.live l.self.sets ≤ over.S.EffectSink.len l.initial.out + owed l.initial.self.live l.initial.self.sets;
  capacity : over.S.EffectSink.capacity l.out ≡ over.S.EffectSink.capacity l.initial.out;
}
