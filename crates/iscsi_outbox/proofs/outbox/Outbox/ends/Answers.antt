use Rattle.std.proofs.Common.{◌≡◌, ℕ, Option, Some, None, refl, sym, ap, ◌∙◌}
use Rattle.iscsi_wire.specs.declared.reply.Reply.{Reply}
use Rattle.iscsi_outbox_steps.specs.State.{State, place_of}
use Rattle.iscsi_outbox_steps.specs.Steps.{closed_in, newly_closed}
use Rattle.iscsi_outbox.specs.private.Walks.{ends_with}
use Rattle.iscsi_outbox.proofs.SendLemmas.{ends_at, ends_nowhere, place_is}
use Rattle.iscsi_outbox.proofs.outbox.Outbox.ends.Goals as goal

pub returns-in-Some-place : goal.returns-in-Some-place
returns-in-Some-place c =
    let now = c.args.self.now in
    let closes = newly_closed now (closed_in now c.args.item.now) in
    let at : place_of now c.in-Some.cid ≡ Some c.in-Some-place.conn = place_is now c.self.inside.cids.cids c.in-Some.cid c.in-Some.cid (Some c.in-Some-place.conn) (ap (λ (s : State). s.limits.cids) c.self.view_is) refl (sym c.place.ensures ∙ c.in-Some-place.is) in
    c.closes.ensures ∙ sym (ap (λ (x : Option (ℕ × Reply)). ends_with closes x now) c.in-Some.is ∙ ends_at closes c.in-Some.cid c.in-Some-place.conn c.in-Some.field-0-1 now at)

pub returns-in-None : goal.returns-in-None
returns-in-None c =
    let now = c.args.self.now in
    let closes = newly_closed now (closed_in now c.args.item.now) in
    let at : place_of now c.in-Some.cid ≡ None = place_is now c.self.inside.cids.cids c.in-Some.cid c.in-Some.cid None (ap (λ (s : State). s.limits.cids) c.self.view_is) refl (sym c.place.ensures ∙ c.in-None.is) in
    sym (ap (λ (x : Option (ℕ × Reply)). ends_with closes x now) c.in-Some.is ∙ ends_nowhere closes c.in-Some.cid c.in-Some.field-0-1 now at)
