use Rattle.std.proofs.Common.{◌≡◌, Bool, Some, None, refl, sym, ap, ◌∙◌}
use Rattle.iscsi_outbox_steps.specs.State.{State, place_of}
use Rattle.iscsi_outbox_steps.specs.Steps.{send_on}
use Rattle.iscsi_outbox.proofs.SendLemmas.{ends_at, place_is, send_at, send_nowhere}
use Rattle.iscsi_outbox.proofs.outbox.Outbox.send_placed.Goals as goal

pub returns-in-Some : goal.returns-in-Some
returns-in-Some c = λ closes e.
    let now = c.args.self.now in
    let at : place_of now c.args.cid ≡ Some c.in-Some.conn = place_is now c.self.inside.cids.cids c.args.cid c.args.cid (Some c.in-Some.conn) (ap (λ (s : State). s.limits.cids) c.self.view_is) refl (sym c.place.ensures ∙ c.in-Some.is) in
    c.send_on.ensures
    ∙ ap (λ (b : Bool). send_on c.in-Some.conn c.args.request c.args.item.now c.args.numbered b c.args.reply now) (e ∙ ends_at closes c.args.cid c.in-Some.conn c.args.reply.reply now at)
    ∙ sym (send_at c.args.request c.args.item.now c.args.numbered closes c.args.cid c.in-Some.conn c.args.reply now at)

pub returns-in-None : goal.returns-in-None
returns-in-None c = λ closes e.
    let now = c.args.self.now in
    let at : place_of now c.args.cid ≡ None = place_is now c.self.inside.cids.cids c.args.cid c.args.cid None (ap (λ (s : State). s.limits.cids) c.self.view_is) refl (sym c.place.ensures ∙ c.in-None.is) in
    c.pass_time.ensures ∙ sym (send_nowhere c.args.request c.args.item.now c.args.numbered closes c.args.cid c.args.reply now at)
