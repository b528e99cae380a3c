use Rattle.std.proofs.Common.{◌∙◌, ap, Option, ℕ}
use Rattle.iscsi_wire.specs.declared.reply.Reply.TheVariants.{Nop}
use Rattle.iscsi_outbox_steps.specs.declared.given.Pdu.TheVariants.{Reply}
use Rattle.iscsi_requests.specs.Replies.{find_log_place}
use Rattle.iscsi_ffi_steps.specs.Walk.{Doing}
use Rattle.iscsi_ffi_desk.specs.Calls.{cookie_of_place, pushed_out}
use Rattle.iscsi_ffi_desk.proofs.WordLemmas.{words_stay}
use Rattle.iscsi_ffi_desk.proofs.desk.Desk.hand_out_reply.Goals as goal

pub returns-clause-cookie : goal.returns-clause-cookie
returns-clause-cookie c =
    let request = find_log_place c.args.log_place c.args.self.now.state.replies in
    c.cookie_of.ensures
    ∙ ap (λ (r : Option ℕ). cookie_of_place c.push_unwritten.new.self.state r) c.take_reply-answered.ensures.request
    ∙ ap (λ (d : Doing). cookie_of_place d.state request) (c.push_unwritten.ensures ∙ ap (λ (d : Doing). pushed_out c.args.conn c.take_reply-answered.result d) c.take_reply-answered.ensures.state)
    ∙ words_stay c.args.conn (Reply (record { reply = Nop 0; place = c.args.log_place })) c.args.self.now c.take_reply-answered.result request
