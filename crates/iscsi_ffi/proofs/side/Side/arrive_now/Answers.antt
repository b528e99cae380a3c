use Rattle.std.proofs.Common.{◌≡◌, ◌∙◌, ℕ, Some, None, sym, ap, subst}
use Rattle.iscsi_requests.specs.Cookies.{next_place}
use Rattle.iscsi_ffi_rules.specs.rules.Run.{tag_heard, word_at}
use Rattle.iscsi_ffi_steps.specs.Walk.{Doing}
use Rattle.iscsi_ffi_steps.specs.Steps.{Going, going, enter_request}
use Rattle.iscsi_ffi_desk.specs.Calls.{entered_request}
use Rattle.iscsi_ffi.specs.Standing.{Begun, Sided}
use Rattle.iscsi_ffi.specs.contracts.side.Side.{the_view}
use Rattle.iscsi_ffi.proofs.StandLemmas.{set_desk}
use Rattle.iscsi_outbox_rules.specs.rules.Calls.{Hears}
use Rattle.iscsi_outbox_steps.specs.Steps.{heard as hears}
use Rattle.iscsi_outbox.proofs.LimitsLemmas.{limits_stay}
use Rattle.iscsi_ffi_desk.specs.Calls.{with_outbox}
use Rattle.iscsi_ffi.proofs.CallLemmas.{entered_with, entered_without, heard_doing, not_refused, place_known, taken_going, untaken_going}
use Rattle.iscsi_ffi.proofs.side.Side.arrive_now.Goals as goal

pub returns-in-Some-enter_request-clause-stands : goal.returns-in-Some-enter_request-clause-stands
returns-in-Some-enter_request-clause-stands c = λ i s b.
    let P : Sided → Type 0 = λ v. Begun i v (going s) in
    let here : Begun i (the_view c.self.inside) (going s) = subst P (sym c.self.view_is) b in
    let none = sym c.in_default.is ∙ c.refusal_of.ensures i s b in
    let r = not_refused i s c.args.cid none in
    let heard : c.hear.new.self ≡ heard_doing c.args.cid c.args.header.now c.self.inside.desk =
    c.hear.ensures
    ∙ ap (λ (m : ℕ). with_outbox (hears c.args.cid m c.transfer_tag.result c.self.inside.desk.state.outbox) c.self.inside.desk) c.word_at.ensures
    ∙ ap (λ (m : ℕ). with_outbox (hears c.args.cid (word_at 28 c.args.header.now) m c.self.inside.desk.state.outbox) c.self.inside.desk) c.transfer_tag.ensures in
    let told : c.hear.new.self ≡ heard_doing c.args.cid c.args.header.now (going s).doing = heard ∙ ap (heard_doing c.args.cid c.args.header.now) here.stands.doing in
    let limits = limits_stay s.state.outbox (Hears c.args.cid (word_at 28 c.args.header.now) (tag_heard c.args.header.now)) in
    let place = c.in-Some-enter_request.place in
    let at : next_place s.state.cookies ≡ Some place = ap (λ (d : Doing). next_place d.state.cookies) (sym told) ∙ sym c.enter_request.ensures.answer ∙ c.in-Some-enter_request.is in
    let e = enter_request c.args.cookie place (heard_doing c.args.cid c.args.header.now (going s).doing) in
    let entered : c.enter_request.new.self ≡ e =
    c.enter_request.ensures.state ∙ ap (entered_request c.args.cookie) told ∙ entered_with c.args.cookie place (heard_doing c.args.cid c.args.header.now (going s).doing) at in
    let b' = set_desk i (the_view c.self.inside) (going s) c.enter_request.new.self e here entered limits in
    let Q : Going → Type 0 = λ x. Begun i c.take_request.new.self x in
    subst Q (taken_going i c.args.cid c.args.header.now c.args.cookie place s none at)
    (c.take_request.ensures i (record (going s) { doing = e }) b' (place_known i s.state.outbox c.args.cid r.0 here.stands.limits r.1.0) r.1.1)

pub returns-in_default-enter_request-clause-stands : goal.returns-in_default-enter_request-clause-stands
returns-in_default-enter_request-clause-stands c = λ i s b.
    let P : Sided → Type 0 = λ v. Begun i v (going s) in
    let here : Begun i (the_view c.self.inside) (going s) = subst P (sym c.self.view_is) b in
    let none = sym c.in_default.is ∙ c.refusal_of.ensures i s b in
    let r = not_refused i s c.args.cid none in
    let heard : c.hear.new.self ≡ heard_doing c.args.cid c.args.header.now c.self.inside.desk =
    c.hear.ensures
    ∙ ap (λ (m : ℕ). with_outbox (hears c.args.cid m c.transfer_tag.result c.self.inside.desk.state.outbox) c.self.inside.desk) c.word_at.ensures
    ∙ ap (λ (m : ℕ). with_outbox (hears c.args.cid (word_at 28 c.args.header.now) m c.self.inside.desk.state.outbox) c.self.inside.desk) c.transfer_tag.ensures in
    let told : c.hear.new.self ≡ heard_doing c.args.cid c.args.header.now (going s).doing = heard ∙ ap (heard_doing c.args.cid c.args.header.now) here.stands.doing in
    let limits = limits_stay s.state.outbox (Hears c.args.cid (word_at 28 c.args.header.now) (tag_heard c.args.header.now)) in
    let at : next_place s.state.cookies ≡ None = ap (λ (d : Doing). next_place d.state.cookies) (sym told) ∙ sym c.enter_request.ensures.answer ∙ c.in_default-enter_request.is in
    let e = heard_doing c.args.cid c.args.header.now (going s).doing in
    let entered : c.enter_request.new.self ≡ e =
    c.enter_request.ensures.state ∙ ap (entered_request c.args.cookie) told ∙ entered_without c.args.cookie e at in
    let b' = set_desk i (the_view c.self.inside) (going s) c.enter_request.new.self e here entered limits in
    let Q : Going → Type 0 = λ x. Begun i (record (the_view c.self.inside) { desk = c.enter_request.new.self }) x in
    subst Q (untaken_going i c.args.cid c.args.header.now c.args.cookie s none at) b'
