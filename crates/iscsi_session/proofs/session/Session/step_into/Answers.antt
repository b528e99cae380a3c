use Rattle.std.proofs.Common.{◌∙◌, sym}
use Rattle.iscsi_session.proofs.AgendaLemmas.{refusal_as}
use Rattle.iscsi_session.proofs.session.Session.step_into.Goals as goal

pub returns-in-Some-clause-refused : goal.returns-in-Some-clause-refused
returns-in-Some-clause-refused over c = λ o h stands. rw (refusal_as o _ h _ _ stands (sym c.refusal.ensures ∙ c.in-Some.is))

pub returns-clause-refused : goal.returns-clause-refused
returns-clause-refused over c = λ o h stands. rw (refusal_as o _ h _ _ stands (sym c.refusal.ensures ∙ c.in_default.is)) tt
