use Rattle.iscsi_session.proofs.Names.{◌≡◌, ◌+◌, ◌-◌, ◌<◌, ◌≤◌, ℕ, length, get_or, range_with_len, flat_map, opened, Continues, set_at, all_given, enable_effects, all_told, owed}
use Rattle.iscsi_session.proofs.session.Session.announce_all.Given as goal

-- the units that were told, and what is still to be told
abbrev pub invariant-loop-unit : goal.invariant-loop-unit
invariant-loop-unit over l = record {
  session : (all_told l.self).core ≡ (all_told l.initial.self).core;
  told : (unit : ℕ) → unit < l.unit → all_given (get_or l.self.sets unit (opened 0)) ≡ get_or l.self.sets unit (opened 0);
  effects : Continues over.S.EffectSink.has (all_told l.initial.self).effects (flat_map (λ unit. enable_effects unit (set_at l.self unit).list) (range_with_len l.unit (l.unit-end - l.unit))) l.initial.out l.out;
  units : length l.self.sets ≡ l.unit-end;
  spent : over.S.EffectSink.len l.out + owed l.self.live l.self.sets ≤ over.S.EffectSink.len l.initial.out + owed l.initial.self.live l.initial.self.sets;
  capacity : over.S.EffectSink.capacity l.out ≡ over.S.EffectSink.capacity l.initial.out;
}
