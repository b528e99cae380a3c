use Rattle.std.proofs.Common.{◌≡◌, ◌∙◌, Some, false, sym, ap, subst}
use Rattle.iscsi_ffi_steps.specs.Walk.{Doing}
use Rattle.iscsi_ffi_steps.specs.Steps.{Going, going}
use Rattle.iscsi_ffi.specs.Standing.{Begun, Sided}
use Rattle.iscsi_ffi.specs.contracts.side.Side.{the_view}
use Rattle.iscsi_ffi.proofs.StandLemmas.{set_desk}
use Rattle.iscsi_outbox_steps.specs.declared.given.Given.TheVariants.{Hands}
use Rattle.iscsi_outbox_steps.specs.State.{State, place_of}
use Rattle.iscsi_outbox_steps.specs.Steps.{given}
use Rattle.iscsi_ffi_desk.specs.Calls.{handed_out, is_blocked}
use Rattle.iscsi_ffi.proofs.CallLemmas.{hands_going, handed_limits}
use Rattle.iscsi_ffi.proofs.side.Side.next_now.Goals as goal

pub returns-in-Hands-default-clause-stands : goal.returns-in-Hands-default-clause-stands
returns-in-Hands-default-clause-stands c = λ i s b.
    let P : Sided → Type 0 = λ v. Begun i v (going s) in
    let here : Begun i (the_view c.self.inside) (going s) = subst P (sym c.self.view_is) b in
    let conn = c.in-Some.conn in
    let at : place_of s.state.outbox c.args.cid ≡ Some conn =
    ap (λ (d : Doing). place_of d.state.outbox c.args.cid) (sym here.stands.doing) ∙ ap (λ (o : State). place_of o c.args.cid) (sym c.outbox.ensures) ∙ sym c.place.ensures ∙ c.in-Some.is in
    let may : is_blocked i.unwritten conn s.state ≡ false =
    ap (λ n. is_blocked n conn s.state) (sym here.stands.unwritten) ∙ ap (λ (d : Doing). is_blocked c.self.inside.unwritten conn d.state) (sym here.stands.doing)
    ∙ sym c.is_blocked.ensures ∙ c.if-is_blocked.false in
    let hands : given c.args.cid s.state.outbox ≡ Hands c.in-Hands-default.handed =
    ap (λ (d : Doing). given c.args.cid d.state.outbox) (sym here.stands.doing) ∙ sym c.next.ensures.answer ∙ c.in-Hands-default.is-0 in
    let Q : Going → Type 0 = λ g. Begun i (record (the_view c.self.inside) { desk = c.next.new.self }) g in
    subst Q (sym (hands_going i c.args.cid conn c.in-Hands-default.handed s at may hands))
    (set_desk i (the_view c.self.inside) (going s) c.next.new.self (handed_out c.args.cid conn (going s).doing) here (c.next.ensures.state ∙ ap (handed_out c.args.cid conn) here.stands.doing) (handed_limits c.args.cid conn (going s).doing))
