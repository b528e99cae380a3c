use Rattle.iscsi_session.proofs.Names.{◌∙◌, sym, arrived}
use Rattle.iscsi_session.proofs.AgendaLemmas.{refusal_as}
use Rattle.iscsi_session.proofs.session.Session.arrive_into.Goals as goal

pub returns-in-Some-clause-refused : goal.returns-in-Some-clause-refused
returns-in-Some-clause-refused over c = λ o h stands. rw (refusal_as o _ h (arrived c.args.request.now) _ stands (sym (rw c.conn.ensures at c.refusal_on.ensures) ∙ c.in-Some.is))

pub returns-clause-refused : goal.returns-clause-refused
returns-clause-refused over c = λ o h stands. rw (refusal_as o _ h (arrived c.args.request.now) _ stands (sym (rw c.conn.ensures at c.refusal_on.ensures) ∙ c.in_default.is)) tt
