use Rattle.std.proofs.Common.{◌≡◌, not, Some, is_some, option_map, sym, ap, ◌∙◌}
use Rattle.iscsi_outbox_steps.specs.State.{State, is_over, place_of}
use Rattle.iscsi_outbox_steps.specs.Steps.{chosen}
use Rattle.iscsi_outbox.specs.private.Choices.{choice_of}
use Rattle.iscsi_outbox.proofs.AskLemmas.{beside, gives_no_more_at, turned, without}
use Rattle.iscsi_outbox.proofs.outbox.Outbox.gives_no_more.Goals as goal

pub returns-then-is_over : goal.returns-then-is_over
returns-then-is_over c =
    let at : place_of c.args.self.now c.args.cid ≡ Some c.in-Some.conn = ap (λ (s : State). place_of s c.args.cid) (sym c.self.view_is) ∙ sym c.place.ensures ∙ c.in-Some.is in
    turned c.is_none.result _ (sym c.is_none.ensures)
    ∙ ap (λ o. not (is_some o)) c.chosen.ensures
    ∙ beside (not (is_some (option_map choice_of (chosen c.in-Some.conn c.args.self.now)))) (is_over c.in-Some.conn c.args.self.now) (sym c.is_over.ensures ∙ c.if-is_over.true)
    ∙ gives_no_more_at c.args.cid c.in-Some.conn c.args.self.now at

pub returns-else-is_over : goal.returns-else-is_over
returns-else-is_over c =
    let at : place_of c.args.self.now c.args.cid ≡ Some c.in-Some.conn = ap (λ (s : State). place_of s c.args.cid) (sym c.self.view_is) ∙ sym c.place.ensures ∙ c.in-Some.is in
    c.if-is_over.false
    ∙ without (not (is_some (option_map choice_of (chosen c.in-Some.conn c.args.self.now)))) (is_over c.in-Some.conn c.args.self.now) (sym c.is_over.ensures ∙ c.if-is_over.false)
    ∙ gives_no_more_at c.args.cid c.in-Some.conn c.args.self.now at
