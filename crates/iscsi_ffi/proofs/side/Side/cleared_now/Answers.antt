use Rattle.std.proofs.Common.{◌∙◌, sym, ap, subst}
use Rattle.iscsi_ffi_steps.specs.Walk.{Doing}
use Rattle.iscsi_ffi_steps.specs.Steps.{going}
use Rattle.iscsi_ffi.specs.Standing.{Begun, Sided}
use Rattle.iscsi_ffi.specs.contracts.side.Side.{the_view}
use Rattle.iscsi_ffi.proofs.StandLemmas.{set_desk}
use Rattle.iscsi_outbox_rules.specs.rules.Calls.{Clears}
use Rattle.iscsi_outbox_steps.specs.Steps.{cleared_of}
use Rattle.iscsi_outbox.proofs.LimitsLemmas.{limits_stay}
use Rattle.iscsi_ffi_desk.specs.Calls.{with_outbox}
use Rattle.iscsi_ffi.proofs.side.Side.cleared_now.Goals as goal

pub returns : goal.returns
returns c = λ i s b.
    let P : Sided → Type 0 = λ v. Begun i v (going s) in
    let here : Begun i (the_view c.self.inside) (going s) = subst P (sym c.self.view_is) b in
    let change : Doing → Doing = λ d. with_outbox (cleared_of c.args.unit d.state.outbox) d in
    set_desk i (the_view c.self.inside) (going s) c.clear_elsewhere.new.self (change (going s).doing) here (c.clear_elsewhere.ensures ∙ ap change here.stands.doing) (limits_stay s.state.outbox (Clears c.args.unit))
