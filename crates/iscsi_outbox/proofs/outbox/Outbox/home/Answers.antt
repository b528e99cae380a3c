use Rattle.std.proofs.Common.{◌≡◌, ℕ, Option, Some, None, sym, ap, ◌∙◌}
use Rattle.iscsi_outbox_rules.specs.declared.own_pdu.OwnPdu.{OwnPdu}
use Rattle.iscsi_outbox_steps.specs.State.{State, place_of}
use Rattle.iscsi_outbox_steps.specs.Steps.{home_of}
use Rattle.iscsi_outbox.proofs.outbox.Outbox.home.Goals as goal

pub returns-in-None-place-clause-answer : goal.returns-in-None-place-clause-answer
returns-in-None-place-clause-answer c =
    let at : place_of c.args.self.now c.in-OfConnection.conn ≡ None = ap (λ (s : State). place_of s c.in-OfConnection.conn) (sym c.self.view_is) ∙ sym c.place.ensures ∙ c.in-None-place.is in
    sym (
    ap (λ (p : OwnPdu). home_of p c.args.self.now) c.in-OfConnection.is
    ∙ ap (λ (o : Option ℕ). elim o as (λ (q : Option ℕ). Option (ℕ × Option ℕ)) [ Some n ↦ Some (n, None) | None ↦ None ]) at
    )
