use Rattle.iscsi_session.proofs.Names.{◌∙◌, sym, subst, refl, List, Mark, HasOneMore, Handles, is_numbered_arrival}
use Rattle.iscsi_session.proofs.AgreeLemmas.{handled, known_of}
use Rattle.iscsi_session.proofs.AgendaLemmas.{passed_over, rejected_opcode}
use Rattle.iscsi_session.proofs.session.Session.dispatch_otherwise.Goals as goal

pub returns-in-PassedOver-clause-items : goal.returns-in-PassedOver-clause-items
returns-in-PassedOver-clause-items over c = λ o index t taken h.
    let kind = sym c.kind_of.ensures ∙ c.in-PassedOver.is in
    handled over.S.EffectSink.has o _ t _ c.args.self.now c.args.out.now c.put_ignore.new.self (passed_over o c.args.self.now index t c.args.request.now h kind) refl c.put_ignore.ensures.has

pub returns-in-Unknown-clause-items : goal.returns-in-Unknown-clause-items
returns-in-Unknown-clause-items over c = λ o index t taken h.
    let kind = sym c.kind_of.ensures ∙ c.in-Unknown.is in
    let x = c.reject_opcode.ensures.done in
    handled over.S.EffectSink.has o _ t _ c.reject_opcode.new.self c.args.out.now c.reject_opcode.new.out (rejected_opcode o c.args.self.now index t c.args.request.now h kind (known_of o c.args.self.now t _ h.agrees c.requires.known)) x.core x.effects

pub returns-else-immediate-clause-items : goal.returns-else-immediate-clause-items
returns-else-immediate-clause-items over c = λ o index t taken h.
    subst (λ (items : List (List Mark)). Handles over.S.EffectSink.has o t items HasOneMore c.receive_numbered.new.self c.args.out.now c.receive_numbered.new.out) (sym (is_numbered_arrival o index t c.args.request.now (sym c.kind_of.ensures ∙ c.in-Executes.is) (sym c.immediate.ensures ∙ c.if-immediate.false))) (c.receive_numbered.ensures.items o index t taken h)
