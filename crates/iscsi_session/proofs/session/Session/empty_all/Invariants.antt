use Rattle.iscsi_session.proofs.Names.{◌≡◌, ◌+◌, ◌≤◌, true, length, count_by, is_held, Continues, is_clear_below, all_emptied}
use Rattle.iscsi_session.proofs.session.Session.empty_all.Given as goal

-- those that were taken out and those that are still to be are the whole, and the places that were looked at have none
abbrev pub invariant-loop-ahead : goal.invariant-loop-ahead
invariant-loop-ahead over l = record {
  session : (all_emptied l.self l.fn.scope).core ≡ (all_emptied l.initial.self l.fn.scope).core;
  effects : Continues over.S.EffectSink.has (all_emptied l.initial.self l.fn.scope).effects (all_emptied l.self l.fn.scope).effects l.initial.out l.out;
  clear : is_clear_below l.fn.scope l.ahead l.self.window.places ≡ true;
  long : length l.self.window.places ≡ l.ahead-end;
  spent : over.S.EffectSink.len l.out + count_by is_held l.self.window.places ≤ over.S.EffectSink.len l.initial.out + count_by is_held l.initial.self.window.places;
  capacity : over.S.EffectSink.capacity l.out ≡ over.S.EffectSink.capacity l.initial.out;
}
