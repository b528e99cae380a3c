use Rattle.std.proofs.Common.{Option, refl, sym, ap, subst, ◌∙◌, IsSome}
use Rattle.iscsi_outbox_steps.specs.declared.given.Given.TheVariants.{Hands}
use Rattle.iscsi_outbox_state.specs.declared.waiting.Waiting.{Waiting}
use Rattle.iscsi_outbox_steps.specs.State.{State}
use Rattle.iscsi_outbox_steps.specs.Steps.{Waited}
use Rattle.iscsi_outbox.proofs.ChoiceLemmas.{given_at, next_at}
use Rattle.iscsi_outbox.proofs.LimitsLemmas.{out_stays}
use Rattle.iscsi_outbox.proofs.ResponseLemmas.{response_goes}
use Rattle.iscsi_outbox.proofs.CalledLemmas.{follows_nexts}
use Rattle.iscsi_outbox.proofs.outbox.Outbox.next_response.Goals as goal

pub hand_out_response-requires-clause-open : goal.hand_out_response-requires-clause-open
hand_out_response-requires-clause-open c = (response_goes c.args.conn c.args.self.now c.args.response c.requires.goes).out.is_open

pub hand_out_response-requires-clause-room : goal.hand_out_response-requires-clause-room
hand_out_response-requires-clause-room c = (response_goes c.args.conn c.args.self.now c.args.response c.requires.goes).out.room

pub hand_out_response-requires-clause-some : goal.hand_out_response-requires-clause-some
hand_out_response-requires-clause-some c = subst (λ (o : Option Waiting). IsSome o) (sym (response_goes c.args.conn c.args.self.now c.args.response c.requires.goes).first) refl

pub returns-clause-answer : goal.returns-clause-answer
returns-clause-answer c = λ cid at.
    let g = response_goes c.args.conn c.args.self.now c.args.response c.requires.goes in
    given_at cid c.args.conn c.args.self.now (Waited g.item) at g.is ∙ sym (ap Hands (c.hand_out_response.ensures.answer g.item g.first g.response))

pub returns-clause-state : goal.returns-clause-state
returns-clause-state c = λ cid at.
    let g = response_goes c.args.conn c.args.self.now c.args.response c.requires.goes in
    c.hand_out_response.ensures.state g.item g.first ∙ sym (next_at cid c.args.conn c.args.self.now (Waited g.item) at g.is)

pub returns-clause-limits : goal.returns-clause-limits
returns-clause-limits c =
    let g = response_goes c.args.conn c.args.self.now c.args.response c.requires.goes in
    ap (λ (s : State). s.limits) (c.hand_out_response.ensures.state g.item g.first) ∙ out_stays c.args.conn (Waited g.item) c.args.self.now

pub returns-clause-rules : goal.returns-clause-rules
returns-clause-rules c = λ cid at. follows_nexts _ cid _ _ (sym (returns-clause-answer c cid at)) (returns-clause-state c cid at)
