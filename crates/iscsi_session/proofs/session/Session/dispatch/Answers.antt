use Rattle.iscsi_session.proofs.Names.{sym, subst, List, Mark, HasOneMore, Handles, is_numbered_arrival}
use Rattle.iscsi_session.proofs.session.Session.dispatch.Goals as goal

pub returns-then-is_numbered_command-clause-items : goal.returns-then-is_numbered_command-clause-items
returns-then-is_numbered_command-clause-items over c = λ o index t taken h.
    subst (λ (items : List (List Mark)). Handles over.S.EffectSink.has o t items HasOneMore c.receive_numbered.new.self c.args.out.now c.receive_numbered.new.out) (sym (is_numbered_arrival o index t c.args.request.now (c.is_numbered_command.ensures.executes c.if-is_numbered_command.true) (c.is_numbered_command.ensures.numbered c.if-is_numbered_command.true))) (c.receive_numbered.ensures.items o index t taken h)
