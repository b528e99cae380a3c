use Rattle.std.proofs.Common.{◌≡◌, [], Some, None, refl, sym, ap, ◌∙◌}
use Rattle.iscsi_outbox_steps.specs.State.{State, place_of}
use Rattle.iscsi_outbox_steps.specs.Steps.{placed}
use Rattle.iscsi_outbox.proofs.SendLemmas.{place_is, send_at, send_nowhere}
use Rattle.iscsi_outbox.proofs.outbox.Outbox.send_at_once.Goals as goal

pub returns-in-Some : goal.returns-in-Some
returns-in-Some c =
    let now = c.args.self.now in
    let reply = placed c.args.reply.now now in
    let at : place_of now c.args.cid ≡ Some c.in-Some.conn = place_is now c.self.inside.cids.cids c.args.cid c.args.cid (Some c.in-Some.conn) (ap (λ (s : State). s.limits.cids) c.self.view_is) refl (sym c.place.ensures ∙ c.in-Some.is) in
    c.enter_reply.ensures ∙ sym (send_at None [] c.args.numbered [] c.args.cid c.in-Some.conn reply now at)

pub returns-in-None : goal.returns-in-None
returns-in-None c =
    let now = c.args.self.now in
    let at : place_of now c.args.cid ≡ None = place_is now c.self.inside.cids.cids c.args.cid c.args.cid None (ap (λ (s : State). s.limits.cids) c.self.view_is) refl (sym c.place.ensures ∙ c.in-None.is) in
    c.pass_time.ensures ∙ sym (send_nowhere None [] c.args.numbered [] c.args.cid (placed c.args.reply.now now) now at)
