use Rattle.std.proofs.Common.{◌≡◌, Some, is_some, sym, ap, ◌∙◌}
use Rattle.iscsi_outbox_steps.specs.State.{State, place_of}
use Rattle.iscsi_outbox.proofs.AskLemmas.{gives_nowhere, gives_pdu_at}
use Rattle.iscsi_outbox.proofs.outbox.Outbox.gives_pdu.Goals as goal

pub returns-in-Some : goal.returns-in-Some
returns-in-Some c =
    let at : place_of c.args.self.now c.args.cid ≡ Some c.in-Some.conn = ap (λ (s : State). place_of s c.args.cid) (sym c.self.view_is) ∙ sym c.place.ensures ∙ c.in-Some.is in
    c.is_some.ensures ∙ ap (λ o. is_some o) c.chosen.ensures ∙ gives_pdu_at c.args.cid c.in-Some.conn c.args.self.now at

pub returns-in-None : goal.returns-in-None
returns-in-None c =
    gives_nowhere c.args.cid c.args.self.now (ap (λ (s : State). place_of s c.args.cid) (sym c.self.view_is) ∙ sym c.place.ensures ∙ c.in-None.is)
