use Rattle.iscsi_session.proofs.Names.{not, arith, ap, connection_of, is_asked, Queued, Waiting}
use Rattle.iscsi_session.proofs.SoundLemmas.{fewer_sound}
use Rattle.iscsi_session.proofs.session.Session.drop_waiting.Goals as goal

pub invariant_of-self : goal.invariant_of-self
invariant_of-self c =
    fewer_sound c.self.invariant (λ (w : Waiting). not (is_asked c.args.scope (connection_of w.request))) (ap (λ (q : Queued Waiting). q.items) c.drop_of.ensures) (omega (arith, ap (λ (q : Queued Waiting). q.room) c.drop_of.ensures))
