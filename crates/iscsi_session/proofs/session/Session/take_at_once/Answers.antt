use Rattle.iscsi_session.proofs.AgreeLemmas.{known_of}
use Rattle.iscsi_session.proofs.AgendaLemmas.{at_once}
use Rattle.iscsi_session.proofs.session.Session.take_at_once.Goals as goal

pub returns-clause-items : goal.returns-clause-items
returns-clause-items over c = λ o index t taken h.
    at_once over.S.EffectSink.has over.S.EffectSink.capacity o c.args.self.now c.receive_immediate.new.self c.run_agenda.new.self index t c.args.request.now c.args.out.now c.receive_immediate.new.out c.run_agenda.new.out h c.requires.executes c.requires.immediate
    (known_of o c.args.self.now t _ h.agrees c.requires.known) taken c.requires.waited c.receive_immediate.ensures.done c.run_agenda.ensures.items
