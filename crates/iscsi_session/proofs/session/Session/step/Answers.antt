use Rattle.iscsi_session.proofs.Names.{◌∙◌, ◌++◌, refl, ap, sym, arith, List, [], ◌∷◌, length, length-append, Effect, next_entry, counts_replies}
use Rattle.iscsi_session.proofs.AgendaLemmas.{refusal_as}
use Rattle.iscsi_session.proofs.RunLemmas.{bound_is}
use Rattle.iscsi_session.proofs.session.Session.step.Goals as goal

pub returns-in-Some-clause-refused : goal.returns-in-Some-clause-refused
returns-in-Some-clause-refused c = λ o h stands. rw (refusal_as o _ h _ _ stands (sym c.refusal.ensures ∙ c.in-Some.is))

pub returns-then-is_err-clause-refused : goal.returns-then-is_err-clause-refused
returns-then-is_err-clause-refused c = λ o h stands. rw (refusal_as o _ h _ _ stands (sym c.refusal.ensures ∙ c.in_default.is))

pub returns-clause-refused : goal.returns-clause-refused
returns-clause-refused c = λ o h stands. rw (refusal_as o _ h _ _ stands (sym c.refusal.ensures ∙ c.in_default.is)) tt

pub returns-clause-effects : goal.returns-clause-effects
returns-clause-effects c = λ o h stands. c.take.ensures.effects o h stands [] c.reserve.new.self.items refl ∙ ap (λ (es : List Effect). es ++ (next_entry o h c.args.event.now).effects) c.reserve.ensures.items

pub returns-clause-stat_sns : goal.returns-clause-stat_sns
returns-clause-stat_sns c = λ o h stands. counts_replies o (h ++ c.args.event.now ∷ [])

pub returns-clause-bound : goal.returns-clause-bound
returns-clause-bound c = λ o h stands.
    let es : List Effect = (next_entry o h c.args.event.now).effects in
    let added = ap length (c.take.ensures.effects o h stands [] c.reserve.new.self.items refl) ∙ length-append c.reserve.new.self.items es in
    omega (arith, added, c.take.new.out.ok.0, c.reserve.new.self.ok.0, c.take.ensures.spent, bound_is o _ h stands)
