use Rattle.std.proofs.Common.{◌∙◌, sym, ap, subst}
use Rattle.iscsi_ffi_steps.specs.Walk.{Doing}
use Rattle.iscsi_ffi_steps.specs.Steps.{going}
use Rattle.iscsi_ffi.specs.Standing.{Begun, Sided}
use Rattle.iscsi_ffi.specs.contracts.side.Side.{the_view}
use Rattle.iscsi_ffi.proofs.StandLemmas.{set_desk}
use Rattle.iscsi_outbox_steps.specs.State.{State}
use Rattle.iscsi_ffi_commands.specs.Commands.{of_unit}
use Rattle.iscsi_ffi_steps.specs.Steps.{clear_each}
use Rattle.iscsi_ffi.proofs.Outboxes.{clear_each_box}
use Rattle.iscsi_ffi.proofs.side.Side.clear_now.Goals as goal

pub returns : goal.returns
returns c = λ i s b.
    let P : Sided → Type 0 = λ v. Begun i v (going s) in
    let here : Begun i (the_view c.self.inside) (going s) = subst P (sym c.self.view_is) b in
    let change : Doing → Doing = λ d. clear_each (of_unit c.args.unit d.state.commands) d in
    set_desk i (the_view c.self.inside) (going s) c.clear.new.self (change (going s).doing) here (c.clear.ensures ∙ ap change here.stands.doing) (ap (λ (o : State). o.limits) (clear_each_box (of_unit c.args.unit s.state.commands) (going s).doing))
