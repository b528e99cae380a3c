use Rattle.iscsi_session.proofs.Names.{◌≡◌, ◌≤◌, ◌+◌, ◌*◌, length, number_expected, Setting, Trace, functions_at, Agrees, KeepsPace, owed}
use Rattle.iscsi_session.proofs.AgendaLemmas.{Leads, left_functions}
use Rattle.iscsi_session.proofs.session.Session.execute_all_waiting.Given as goal

-- those that executed and those that wait still are the whole
abbrev pub invariant-loop : goal.invariant-loop
invariant-loop over l = record {
  due : (o : Setting) (t : Trace) → Agrees o l.initial.self t → Leads over.S.EffectSink.has o t l.initial.out (functions_at o (number_expected l.initial.self.window) t) l.self l.out (left_functions o l.self);
  places : l.self.window.places ≡ l.initial.self.window.places;
  turned : l.self.window.turned ≡ l.initial.self.window.turned;
  first : l.self.window.first ≡ l.initial.self.window.first;
  taken : l.self.taken ≡ l.initial.self.taken;
  pace : KeepsPace l.initial.self.window l.self.window;
  spent : over.S.EffectSink.len l.out + owed l.self.live l.self.sets + 6 * length l.self.waiting ≤ over.S.EffectSink.len l.initial.out + owed l.initial.self.live l.initial.self.sets + 6 * length l.initial.self.waiting;
  capacity : over.S.EffectSink.capacity l.out ≡ over.S.EffectSink.capacity l.initial.out;
}

abbrev pub decreases-loop : goal.decreases-loop
decreases-loop over l = length l.self.waiting
