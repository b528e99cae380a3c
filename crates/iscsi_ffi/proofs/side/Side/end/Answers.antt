use Rattle.std.proofs.Common.{◌∙◌, sym, ap, subst}
use Rattle.iscsi_ffi.specs.Standing.{Begun, Sided}
use Rattle.iscsi_ffi.specs.contracts.side.Side.{the_view}
use Rattle.iscsi_ffi.proofs.StandLemmas.{set_desk}
use Rattle.iscsi_ffi_desk.specs.Calls.{ended}
use Rattle.iscsi_ffi.proofs.CallLemmas.{ended_limits}
use Rattle.iscsi_ffi.proofs.side.Side.end.Goals as goal

pub returns : goal.returns
returns c = λ i g b.
    let P : Sided → Type 0 = λ v. Begun i v g in
    let here : Begun i (the_view c.self.inside) g = subst P (sym c.self.view_is) b in
    set_desk i (the_view c.self.inside) g c.end.new.self (ended g.doing) here (c.end.ensures ∙ ap ended here.stands.doing) (ended_limits g.doing)
