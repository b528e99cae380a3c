use Rattle.std.proofs.Common.{◌∙◌, sym, ap, subst}
use Rattle.iscsi_ffi_steps.specs.Steps.{Going, going}
use Rattle.iscsi_ffi.specs.Standing.{Begun, Sided}
use Rattle.iscsi_ffi.specs.contracts.side.Side.{the_view}
use Rattle.iscsi_ffi.proofs.StandLemmas.{set_desk}
use Rattle.iscsi_ffi_desk.specs.Calls.{stopped_running}
use Rattle.iscsi_ffi.proofs.CallLemmas.{stop_going, stop_limits}
use Rattle.iscsi_ffi.proofs.side.Side.stop_now.Goals as goal

pub returns-clause-stands : goal.returns-clause-stands
returns-clause-stands c = λ i s b.
    let P : Sided → Type 0 = λ v. Begun i v (going s) in
    let here : Begun i (the_view c.self.inside) (going s) = subst P (sym c.self.view_is) b in
    let Q : Going → Type 0 = λ g. Begun i (record (the_view c.self.inside) { desk = c.stop_running.new.self }) g in
    subst Q (sym (stop_going c.args.ticket s))
    (set_desk i (the_view c.self.inside) (going s) c.stop_running.new.self (stopped_running c.args.ticket (going s).doing) here (c.stop_running.ensures.state ∙ ap (stopped_running c.args.ticket) here.stands.doing) (stop_limits c.args.ticket (going s).doing))
