use Rattle.std.proofs.Common.{◌∙◌, ap, sym, subst, false, true, Option, ℕ, IsSome}
use Rattle.iscsi_tasks.proofs.Names.{Member, IsEnabled, member_of}
use Rattle.iscsi_tasks.proofs.SearchLemmas.{enabled_read, not_enabled, enabled_nowhere, enabled_here}
use Rattle.iscsi_tasks.proofs.EnabledLemmas.{enabled_is}
use Rattle.iscsi_tasks.proofs.set.TaskSet.enabled_place.Goals as goal

pub returns-in_err-at-clause-since : goal.returns-in_err-at-clause-since
returns-in_err-at-clause-since c = λ h st.
    subst (λ (r : Option ℕ). (IsSome r → IsEnabled c.args.ticket h) × (IsEnabled c.args.ticket h → IsSome r)) (sym c.from_residual.ensures)
    (enabled_is c.args.self.now c.args.ticket false (sym (not_enabled c.args.self.now.list c.args.ticket c.in_err-at.ensures.place)) h st)

pub returns-then-not-at-clause-answer : goal.returns-then-not-at-clause-answer
returns-then-not-at-clause-answer c =
    let place = c.in_ok-at.ensures.place in
    enabled_nowhere c.args.self.now.list c.args.ticket (sym (enabled_read c.args.self.now.list c.in_ok-at.ensures.order c.args.ticket c.in_ok-at.at place.0 place.1 (member_of c.at.result.now) c.at.ensures.member) ∙ c.if-not-at.true)

pub returns-then-not-at-clause-since : goal.returns-then-not-at-clause-since
returns-then-not-at-clause-since c =
    let place = c.in_ok-at.ensures.place in
    enabled_is c.args.self.now c.args.ticket false (sym c.if-not-at.true ∙ enabled_read c.args.self.now.list c.in_ok-at.ensures.order c.args.ticket c.in_ok-at.at place.0 place.1 (member_of c.at.result.now) c.at.ensures.member)

pub returns-clause-answer : goal.returns-clause-answer
returns-clause-answer c =
    let place = c.in_ok-at.ensures.place in
    let m : Member = member_of c.at.result.now in
    enabled_here c.args.self.now.list c.in_ok-at.ensures.order c.args.ticket c.in_ok-at.at place.0 place.1 m (ap (λ (x : Member). x.enabled) (sym (c.at.ensures.member m)) ∙ c.if-not-at.false)

pub returns-clause-since : goal.returns-clause-since
returns-clause-since c =
    let place = c.in_ok-at.ensures.place in
    enabled_is c.args.self.now c.args.ticket true (sym c.if-not-at.false ∙ enabled_read c.args.self.now.list c.in_ok-at.ensures.order c.args.ticket c.in_ok-at.at place.0 place.1 (member_of c.at.result.now) c.at.ensures.member)
