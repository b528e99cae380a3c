use Rattle.iscsi_session.proofs.Names.{◌≡◌, None, arith, next_waiting, is_none, nat_tests}
use Rattle.iscsi_session.proofs.AgendaLemmas.{none_wait}
use Rattle.iscsi_session.proofs.session.Session.execute_waiting.Goals as goal

pub returns-else-has_due-clause-items : goal.returns-else-has_due-clause-items
returns-else-has_due-clause-items over c = λ o t a.
    let none : next_waiting c.args.self.now ≡ None = grind (arith, nat_tests, is_none) in
    none_wait over.S.EffectSink.has o t c.args.self.now c.args.out.now none a
