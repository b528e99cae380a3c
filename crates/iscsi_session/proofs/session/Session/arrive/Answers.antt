use Rattle.iscsi_session.proofs.Names.{◌≡◌, ◌∙◌, sym, subst, refl, true, false, List, connection_of, Request, Mark, HasOneMore, Core, is_among_open, Handles}
use Rattle.iscsi_session.proofs.AgreeLemmas.{handled, known_of}
use Rattle.iscsi_session.proofs.AgendaLemmas.{opened_arrival, closed_arrival}
use Rattle.iscsi_session.proofs.session.Session.arrive.Goals as goal

pub returns-then-is_open-clause-items : goal.returns-then-is_open-clause-items
returns-then-is_open-clause-items over c = λ o index t taken h.
    let s : Core = c.args.self.now in
    let request : Request = c.args.request.now in
    let there : is_among_open (connection_of request) s.open_conns ≡ true = sym c.requires.open ∙ c.if-is_open.true in
    subst (λ (items : List (List Mark)). Handles over.S.EffectSink.has o t items HasOneMore c.dispatch.new.self c.args.out.now c.dispatch.new.out) (sym (opened_arrival o s index t request h.agrees (known_of o s t _ h.agrees c.requires.known) there)) (c.dispatch.ensures.items o index t taken h)

pub returns-else-is_open-clause-items : goal.returns-else-is_open-clause-items
returns-else-is_open-clause-items over c = λ o index t taken h.
    let s : Core = c.args.self.now in
    let known = known_of o s t _ h.agrees c.requires.known in
    let request : Request = c.args.request.now in
    let gone : is_among_open (connection_of request) s.open_conns ≡ false = sym c.requires.open ∙ c.if-is_open.false in
    handled over.S.EffectSink.has o _ t _ s c.args.out.now c.put_ignore.new.self (closed_arrival o s index t request h known gone) refl c.put_ignore.ensures.has
