-- A SCSI Response without sense that goes out.
use Rattle.std.proofs.Common.{◌≡◌, ◌∙◌, ℕ, Option, Some, None, option_map, sym, ap, refl}
use Rattle.iscsi_wire.specs.declared.reply.Reply.{Reply as ReplyValue}
use Rattle.iscsi_wire.specs.declared.reply.Reply.TheVariants.{Scsi, Task, Logout, Nop, Reject}
use Rattle.iscsi_outbox_state.specs.declared.waiting.Content.{Content}
use Rattle.iscsi_outbox_state.specs.declared.waiting.Content.TheVariants.{Reply as IsReply, Own as IsOwn}
use Rattle.iscsi_outbox_state.specs.declared.waiting.Waiting.{Waiting}
use Rattle.iscsi_outbox_state.specs.Waits.{first_item, queue_at}
use Rattle.iscsi_waiting.specs.Firsts.{plain_response, response_in, response_of}
use Rattle.iscsi_waiting.specs.declared.first.Response.{Response}
use Rattle.iscsi_outbox_steps.specs.declared.given.Pdu.{Pdu}
use Rattle.iscsi_outbox_steps.specs.declared.given.Pdu.TheVariants.{Reply as ReplyPdu, Own as OwnedPdu, Notice}
use Rattle.iscsi_outbox_steps.specs.State.{State}
use Rattle.iscsi_outbox_steps.specs.Steps.{Noticed, Out, Pinged, Waited, chosen, pdu_of}
use Rattle.iscsi_outbox.specs.declared.outbox.choosing.Choice.TheVariants.{Waiting as ToWaiting}
use Rattle.iscsi_outbox.specs.private.Choices.{choice_of}
use Rattle.iscsi_outbox.specs.promises.Responses.{response_next, response_out}
use Rattle.iscsi_outbox.proofs.ChoiceLemmas.{GoesOut, waiting_goes}

abbrev shown : Response → Pdu
shown r = ReplyPdu (record { reply = Scsi r.itt r.status None; place = r.place })

by_reply : (place : ℕ) (reply : ReplyValue) (r : Response) → plain_response place reply ≡ Some r → ReplyPdu (record { reply = reply; place = place }) ≡ shown r
by_reply place (Scsi itt status None) r e = ap (λ (o : Option Response). elim o as (λ (q : Option Response). Pdu) [ Some x ↦ shown x | None ↦ Notice ]) e
by_reply place (Scsi itt status (Some sense)) r e = cc
by_reply place (Task itt response) r e = cc
by_reply place (Logout itt response) r e = cc
by_reply place (Nop itt) r e = cc
by_reply place (Reject reason header) r e = cc

by_content : (c : Content) (r : Response) → response_in c ≡ Some r → elim c as (λ (d : Content). Pdu) [ IsReply reply ↦ ReplyPdu reply | IsOwn own ↦ OwnedPdu own ] ≡ shown r
by_content (IsReply sent) r e = by_reply sent.place sent.reply r e
by_content (IsOwn own) r e = cc

-- it goes out as what it is
pub response_pdu : (w : Waiting) (r : Response) → response_in w.content ≡ Some r → shown r ≡ pdu_of (Waited w)
response_pdu w r e = sym (by_content w.content r e)

-- what waits first goes out
pub first_next : (conn : ℕ) (s : State) → option_map choice_of (chosen conn s) ≡ Some ToWaiting → response_of (first_item (queue_at s.waits conn)) ≡ response_next conn s
first_next conn s goes = let w = waiting_goes conn s goes in ap response_of w.first ∙ sym (ap response_out w.is)

-- a response goes out next: it waits first
pub record ResponseGoes (conn : ℕ) (r : Response) (s : State) : Type 0 where
  pub out : GoesOut conn s
  pub item : Waiting
  pub is : chosen conn s ≡ Some (Waited item)
  pub first : first_item (queue_at s.waits conn) ≡ Some item
  pub response : response_in item.content ≡ Some r

waits : (o : Option Out) (r : Response) → response_out o ≡ Some r → option_map choice_of o ≡ Some ToWaiting
waits (Some (Waited item)) r e = refl
waits (Some (Pinged tag)) r e = cc
waits (Some Noticed) r e = cc
waits None r e = cc

pub response_goes : (conn : ℕ) (s : State) (r : Response) → response_next conn s ≡ Some r → ResponseGoes conn r s
response_goes conn s r e =
    let w = waiting_goes conn s (waits (chosen conn s) r e) in
    record { out = w.out; item = w.item; is = w.is; first = w.first; response = sym (ap response_out w.is) ∙ e }
