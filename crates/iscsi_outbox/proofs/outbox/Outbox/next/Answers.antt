use Rattle.std.proofs.lemmas.Grind.{common_steps}
use Rattle.std.proofs.Common.{arith, ◌≡◌, Option, Some, None, refl, sym, ap, subst, ◌∙◌, IsSome}
use Rattle.iscsi_outbox_steps.specs.declared.given.Given.TheVariants.{Hands, Nothing}
use Rattle.iscsi_outbox_state.specs.declared.waiting.Waiting.{Waiting}
use Rattle.iscsi_outbox_steps.specs.State.{State, place_of}
use Rattle.iscsi_outbox_steps.specs.Steps.{Noticed, Waited}
use Rattle.iscsi_outbox.proofs.ChoiceLemmas.{given_at, given_none, next_at, next_none, nothing_goes, notice_goes, ping_goes, waiting_goes}
use Rattle.iscsi_outbox.proofs.CalledLemmas.{follows_nexts}
use Rattle.iscsi_outbox.proofs.outbox.Outbox.next.Goals as goal

pub hand_out_waiting-requires-clause-open : goal.hand_out_waiting-requires-clause-open
hand_out_waiting-requires-clause-open c = (waiting_goes c.in-Some.conn c.args.self.now (sym c.chosen.ensures ∙ c.in-Some-Waiting.is ∙ ap Some c.in-Some-Waiting.field-0-is)).out.is_open

pub hand_out_waiting-requires-clause-room : goal.hand_out_waiting-requires-clause-room
hand_out_waiting-requires-clause-room c = (waiting_goes c.in-Some.conn c.args.self.now (sym c.chosen.ensures ∙ c.in-Some-Waiting.is ∙ ap Some c.in-Some-Waiting.field-0-is)).out.room

pub hand_out_ping-requires-clause-open : goal.hand_out_ping-requires-clause-open
hand_out_ping-requires-clause-open c = (ping_goes c.in-Some.conn c.args.self.now (sym c.chosen.ensures ∙ c.in-Some-Ping.is ∙ ap Some c.in-Some-Ping.field-0-is)).out.is_open

pub hand_out_ping-requires-clause-room : goal.hand_out_ping-requires-clause-room
hand_out_ping-requires-clause-room c = (ping_goes c.in-Some.conn c.args.self.now (sym c.chosen.ensures ∙ c.in-Some-Ping.is ∙ ap Some c.in-Some-Ping.field-0-is)).out.room

pub hand_out_notice-requires-clause-open : goal.hand_out_notice-requires-clause-open
hand_out_notice-requires-clause-open c = (notice_goes c.in-Some.conn c.args.self.now (sym c.chosen.ensures ∙ c.in-Some-Notice.is ∙ ap Some c.in-Some-Notice.field-0-is)).out.is_open

pub hand_out_notice-requires-clause-room : goal.hand_out_notice-requires-clause-room
hand_out_notice-requires-clause-room c = (notice_goes c.in-Some.conn c.args.self.now (sym c.chosen.ensures ∙ c.in-Some-Notice.is ∙ ap Some c.in-Some-Notice.field-0-is)).out.room

pub hand_out_waiting-requires-clause-some : goal.hand_out_waiting-requires-clause-some
hand_out_waiting-requires-clause-some c = let w = waiting_goes c.in-Some.conn c.args.self.now (sym c.chosen.ensures ∙ c.in-Some-Waiting.is ∙ ap Some c.in-Some-Waiting.field-0-is) in subst (λ (o : Option Waiting). IsSome o) (sym w.first) refl

pub hand_out_ping-requires-clause-none : goal.hand_out_ping-requires-clause-none
hand_out_ping-requires-clause-none c = (ping_goes c.in-Some.conn c.args.self.now (sym c.chosen.ensures ∙ c.in-Some-Ping.is ∙ ap Some c.in-Some-Ping.field-0-is)).none

pub returns-in-Some-Waiting-clause-answer : goal.returns-in-Some-Waiting-clause-answer
returns-in-Some-Waiting-clause-answer c =
    let w = waiting_goes c.in-Some.conn c.args.self.now (sym c.chosen.ensures ∙ c.in-Some-Waiting.is ∙ ap Some c.in-Some-Waiting.field-0-is) in
    let at : place_of c.args.self.now c.args.cid ≡ Some c.in-Some.conn = ap (λ (s : State). place_of s c.args.cid) (sym c.self.view_is) ∙ sym c.place.ensures ∙ c.in-Some.is in
    let e = c.hand_out_waiting.ensures w.item w.first in
    ap Hands e.0 ∙ sym (given_at c.args.cid c.in-Some.conn c.args.self.now (Waited w.item) at w.is)

pub returns-in-Some-Waiting-clause-state : goal.returns-in-Some-Waiting-clause-state
returns-in-Some-Waiting-clause-state c =
    let w = waiting_goes c.in-Some.conn c.args.self.now (sym c.chosen.ensures ∙ c.in-Some-Waiting.is ∙ ap Some c.in-Some-Waiting.field-0-is) in
    let at : place_of c.args.self.now c.args.cid ≡ Some c.in-Some.conn = ap (λ (s : State). place_of s c.args.cid) (sym c.self.view_is) ∙ sym c.place.ensures ∙ c.in-Some.is in
    let e = c.hand_out_waiting.ensures w.item w.first in
    e.1 ∙ sym (next_at c.args.cid c.in-Some.conn c.args.self.now (Waited w.item) at w.is)

pub returns-in-Some-Ping-clause-answer : goal.returns-in-Some-Ping-clause-answer
returns-in-Some-Ping-clause-answer c =
    let w = ping_goes c.in-Some.conn c.args.self.now (sym c.chosen.ensures ∙ c.in-Some-Ping.is ∙ ap Some c.in-Some-Ping.field-0-is) in
    let at : place_of c.args.self.now c.args.cid ≡ Some c.in-Some.conn = ap (λ (s : State). place_of s c.args.cid) (sym c.self.view_is) ∙ sym c.place.ensures ∙ c.in-Some.is in
    ap Hands c.hand_out_ping.ensures.answer ∙ sym (given_at c.args.cid c.in-Some.conn c.args.self.now _ at w.is)

pub returns-in-Some-Ping-clause-state : goal.returns-in-Some-Ping-clause-state
returns-in-Some-Ping-clause-state c =
    let w = ping_goes c.in-Some.conn c.args.self.now (sym c.chosen.ensures ∙ c.in-Some-Ping.is ∙ ap Some c.in-Some-Ping.field-0-is) in
    let at : place_of c.args.self.now c.args.cid ≡ Some c.in-Some.conn = ap (λ (s : State). place_of s c.args.cid) (sym c.self.view_is) ∙ sym c.place.ensures ∙ c.in-Some.is in
    c.hand_out_ping.ensures.state ∙ sym (next_at c.args.cid c.in-Some.conn c.args.self.now _ at w.is)

pub returns-in-Some-Notice-clause-answer : goal.returns-in-Some-Notice-clause-answer
returns-in-Some-Notice-clause-answer c =
    let w = notice_goes c.in-Some.conn c.args.self.now (sym c.chosen.ensures ∙ c.in-Some-Notice.is ∙ ap Some c.in-Some-Notice.field-0-is) in
    let at : place_of c.args.self.now c.args.cid ≡ Some c.in-Some.conn = ap (λ (s : State). place_of s c.args.cid) (sym c.self.view_is) ∙ sym c.place.ensures ∙ c.in-Some.is in
    ap Hands c.hand_out_notice.ensures.answer ∙ sym (given_at c.args.cid c.in-Some.conn c.args.self.now Noticed at w.is)

pub returns-in-Some-Notice-clause-state : goal.returns-in-Some-Notice-clause-state
returns-in-Some-Notice-clause-state c =
    let w = notice_goes c.in-Some.conn c.args.self.now (sym c.chosen.ensures ∙ c.in-Some-Notice.is ∙ ap Some c.in-Some-Notice.field-0-is) in
    let at : place_of c.args.self.now c.args.cid ≡ Some c.in-Some.conn = ap (λ (s : State). place_of s c.args.cid) (sym c.self.view_is) ∙ sym c.place.ensures ∙ c.in-Some.is in
    c.hand_out_notice.ensures.state ∙ sym (next_at c.args.cid c.in-Some.conn c.args.self.now Noticed at w.is)

pub returns-in-None-clause-answer : goal.returns-in-None-clause-answer
returns-in-None-clause-answer c =
    let at : place_of c.args.self.now c.args.cid ≡ Some c.in-Some.conn = ap (λ (s : State). place_of s c.args.cid) (sym c.self.view_is) ∙ sym c.place.ensures ∙ c.in-Some.is in
    c.given_nothing.ensures ∙ sym (given_none c.args.cid c.in-Some.conn c.args.self.now at (nothing_goes c.in-Some.conn c.args.self.now (sym c.chosen.ensures ∙ c.in-None.is)))

pub returns-in-None-clause-state : goal.returns-in-None-clause-state
returns-in-None-clause-state c =
    let at : place_of c.args.self.now c.args.cid ≡ Some c.in-Some.conn = ap (λ (s : State). place_of s c.args.cid) (sym c.self.view_is) ∙ sym c.place.ensures ∙ c.in-Some.is in
    sym (next_none c.args.cid c.in-Some.conn c.args.self.now at (nothing_goes c.in-Some.conn c.args.self.now (sym c.chosen.ensures ∙ c.in-None.is)))

pub returns-in_default-clause-rules : goal.returns-in_default-clause-rules
returns-in_default-clause-rules c =
    let at : place_of c.args.self.now c.args.cid ≡ None = ap (λ (s : State). place_of s c.args.cid) (sym c.self.view_is) ∙ sym c.place.ensures ∙ c.in_default.is in
    follows_nexts c.args.self.now c.args.cid Nothing c.args.self.now (grind (arith, common_steps)) (grind (arith, common_steps))

pub returns-in-Some-Waiting-clause-rules : goal.returns-in-Some-Waiting-clause-rules
returns-in-Some-Waiting-clause-rules c = follows_nexts _ c.args.cid _ _ (returns-in-Some-Waiting-clause-answer c) (returns-in-Some-Waiting-clause-state c)

pub returns-in-Some-Ping-clause-rules : goal.returns-in-Some-Ping-clause-rules
returns-in-Some-Ping-clause-rules c = follows_nexts _ c.args.cid _ _ (returns-in-Some-Ping-clause-answer c) (returns-in-Some-Ping-clause-state c)

pub returns-in-Some-Notice-clause-rules : goal.returns-in-Some-Notice-clause-rules
returns-in-Some-Notice-clause-rules c = follows_nexts _ c.args.cid _ _ (returns-in-Some-Notice-clause-answer c) (returns-in-Some-Notice-clause-state c)

pub returns-in-None-clause-rules : goal.returns-in-None-clause-rules
returns-in-None-clause-rules c = follows_nexts _ c.args.cid _ _ (returns-in-None-clause-answer c) (returns-in-None-clause-state c)
