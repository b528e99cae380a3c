use Rattle.std.proofs.Common.{ℕ, Option, sym, ap, ◌∙◌}
use Rattle.iscsi_wire.specs.declared.reply.Reply.{Reply}
use Rattle.iscsi_outbox_state.specs.declared.waiting.SentReply.{SentReply}
use Rattle.iscsi_outbox_steps.specs.Steps.{counted, send, send_placed}
use Rattle.iscsi_outbox.specs.private.Walks.{ends_with}
use Rattle.iscsi_outbox.proofs.outbox.Outbox.send.Goals as goal

pub returns : goal.returns
returns c = λ closes e.
    let now = c.args.self.now in
    c.count_reply.ensures
    ∙ ap counted (
    c.send_placed.ensures closes (e ∙ ap (λ (x : Option (ℕ × Reply)). ends_with closes x now) c.in-Some.is)
    ∙ ap (λ (p : SentReply). send_placed c.args.request c.args.item.now c.args.numbered closes c.in-Some.cid p now) c.placed-reply.ensures
    )
    ∙ sym (ap (λ (x : Option (ℕ × Reply)). send c.args.request c.args.item.now c.args.numbered closes x now) c.in-Some.is)
