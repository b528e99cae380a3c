use Rattle.std.proofs.Common.{◌≡◌, ◌∙◌, Some, sym, ap, subst}
use Rattle.iscsi_ffi_steps.specs.Walk.{Doing}
use Rattle.iscsi_ffi_steps.specs.Steps.{Going, going}
use Rattle.iscsi_ffi.specs.Standing.{Begun, Sided}
use Rattle.iscsi_ffi.specs.contracts.side.Side.{the_view}
use Rattle.iscsi_ffi.proofs.StandLemmas.{set_desk}
use Rattle.iscsi_outbox_steps.specs.State.{State, place_of}
use Rattle.iscsi_ffi_desk.specs.Calls.{written_on}
use Rattle.iscsi_ffi.proofs.CallLemmas.{write_going, write_limits}
use Rattle.iscsi_ffi.proofs.side.Side.written_now.Goals as goal

pub returns-in-Some : goal.returns-in-Some
returns-in-Some c = λ i s b.
    let P : Sided → Type 0 = λ v. Begun i v (going s) in
    let here : Begun i (the_view c.self.inside) (going s) = subst P (sym c.self.view_is) b in
    let conn = c.in-Some.conn in
    let at : place_of s.state.outbox c.args.cid ≡ Some conn =
    ap (λ (d : Doing). place_of d.state.outbox c.args.cid) (sym here.stands.doing) ∙ ap (λ (o : State). place_of o c.args.cid) (sym c.outbox.ensures) ∙ sym c.place.ensures ∙ c.in-Some.is in
    let Q : Going → Type 0 = λ g. Begun i (record (the_view c.self.inside) { desk = c.write.new.self }) g in
    subst Q (sym (write_going c.args.cid conn s at))
    (set_desk i (the_view c.self.inside) (going s) c.write.new.self (written_on c.args.cid conn (going s).doing) here (c.write.ensures ∙ ap (written_on c.args.cid conn) here.stands.doing) (write_limits c.args.cid conn (going s).doing))
