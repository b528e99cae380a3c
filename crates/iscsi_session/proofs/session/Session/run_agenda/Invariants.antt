use Rattle.iscsi_session.proofs.Names.{◌≤◌, ◌≡◌, ◌+◌, ◌*◌, List, length, count_by, is_some, Setting, Trace, Mark, is_held, KeepsPace, owed}
use Rattle.iscsi_session.proofs.AgendaLemmas.{Leads, left_after}
use Rattle.iscsi_session.proofs.session.Session.run_agenda.Given as goal

-- what is done of the turns and what is still due are the whole
abbrev pub invariant-loop-self : goal.invariant-loop-self
invariant-loop-self over l = record {
  due : (o : Setting) (t : Trace) (out : over.row.S.Denot) (whole : List (List Mark)) → Leads over.S.EffectSink.has o t out whole l.initial.self l.initial.out (left_after o t l.initial.self) → Leads over.S.EffectSink.has o t out whole l.self l.out (left_after o t l.self);
  pace : KeepsPace l.initial.self.window l.self.window;
  taken : l.self.taken ≡ l.initial.self.taken;
  spent : over.S.EffectSink.len l.out + owed l.self.live l.self.sets + 6 * (count_by is_held l.self.window.places + length l.self.waiting) ≤ over.S.EffectSink.len l.initial.out + owed l.initial.self.live l.initial.self.sets + 6 * (count_by is_held l.initial.self.window.places + length l.initial.self.waiting);
  capacity : over.S.EffectSink.capacity l.out ≡ over.S.EffectSink.capacity l.initial.out;
}

abbrev pub decreases-loop-self : goal.decreases-loop-self
decreases-loop-self over l = count_by is_some l.self.window.places
