use Rattle.iscsi_session.proofs.AgreeLemmas.{handled}
use Rattle.iscsi_session.proofs.DeedLemmas.{pace-completed}
use Rattle.iscsi_session.proofs.AgendaLemmas.{Stepped-completion}
use Rattle.iscsi_session.proofs.session.Session.apply.Goals as goal

pub returns-in-Arrive-clause-items : goal.returns-in-Arrive-clause-items
returns-in-Arrive-clause-items over c = λ o index t taken h. rw c.in-Arrive.is (c.arrive_apart.ensures.items o index t taken h)

pub returns-in-Done-clause-items : goal.returns-in-Done-clause-items
returns-in-Done-clause-items over c = λ o index t taken h.
    rw c.in-Done.is (handled over.S.EffectSink.has o _ t _ _ _ _ (Stepped-completion o c.args.self.now t index c.in-Done.ticket c.in-Done.status h) c.complete.ensures.done.core c.complete.ensures.done.effects)

pub returns-in-Done-clause-pace : goal.returns-in-Done-clause-pace
returns-in-Done-clause-pace over c = rw c.complete.ensures.done.core (pace-completed c.args.self.now _ c.in-Done.status)
