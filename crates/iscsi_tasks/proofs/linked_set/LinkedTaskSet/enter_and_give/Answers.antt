use Rattle.std.proofs.Common.{◌≡◌, ◌∙◌, ◌∷◌, ◌&&◌, ap, sym, subst, arith}
use Rattle.iscsi_tasks.proofs.Names.{common_steps, Members, IsNewest, entered_to, given_by, next_in, Entered, StandsFor, taken_in, Linked}
use Rattle.iscsi_tasks.proofs.AloneLemmas.{alone_state, alone_next, alone_stands}
use Rattle.iscsi_tasks.proofs.HistoryLemmas.{StandsFor-entered}
use Rattle.iscsi_tasks.proofs.linked_set.LinkedTaskSet.enter_and_give.Goals as goal

-- where another one may be new, it is as if both were called
pub returns-then-not-is_alone-clause-stands : goal.returns-then-not-is_alone-clause-stands
returns-then-not-is_alone-clause-stands c = λ h st below.
    let was = c.self.inside.tasks.shown in
    let e = c.in_ok-taken.taken.enabled in
    let ok = c.in_ok-taken.ensures.ok in
    let entered : c.take_in.new.self.shown ≡ entered_to was c.args.task =
    ap (λ (l : Linked). l.shown) ok.1 ∙ ap (λ b. taken_in was c.args.task e (b && e)) c.if-not-is_alone.true ∙ sym ok.2 in
    c.next_new-ticket.ensures.stands (Entered c.args.task ∷ h)
    (subst (λ (s : Members). StandsFor s (Entered c.args.task ∷ h)) (sym entered)
    (StandsFor-entered was c.args.task h (subst (λ (s : Members). StandsFor s h) (sym c.self.view_is) st) below))

-- else no other one is new
state : (c : goal.After-ticket_if-ticket) → c.take_in.new.self.shown ≡ given_by (entered_to c.self.inside.tasks.shown c.args.task)
state c = grind (arith, common_steps, alone_state)

next : (c : goal.After-ticket_if-ticket) → c.ticket_if-ticket.result ≡ next_in (entered_to c.self.inside.tasks.shown c.args.task).list
next c = c.ticket_if-ticket.ensures ∙ sym (alone_next c.self.inside.tasks.shown c.args.task (c.is_none_new-is_alone.ensures c.if-not-is_alone.false) c.in_ok-taken.taken.enabled c.in_ok-taken.ensures.ok.2)

pub returns-clause-ok : goal.returns-clause-ok
returns-clause-ok c = grind (arith, common_steps, state)

pub returns-clause-given : goal.returns-clause-given
returns-clause-given c = subst (λ (s : Members). c.ticket_if-ticket.result ≡ next_in (entered_to s c.args.task).list) c.self.view_is (next c)

pub returns-clause-stands : goal.returns-clause-stands
returns-clause-stands c = λ h st below.
    let was = c.self.inside.tasks.shown in
    alone_stands was c.args.task (c.is_none_new-is_alone.ensures c.if-not-is_alone.false) c.in_ok-taken.taken.enabled c.in_ok-taken.ensures.ok.2 c.self.invariant.order
    (subst (λ (s : Members). IsNewest c.args.task.ticket s) (sym c.self.view_is) c.requires) h (subst (λ (s : Members). StandsFor s h) (sym c.self.view_is) st) below
    c.ticket_if-ticket.result c.take_in.new.self.shown (next c) (state c)
