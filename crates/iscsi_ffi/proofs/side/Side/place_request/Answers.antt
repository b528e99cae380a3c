use Rattle.std.proofs.Common.{◌≡◌, ◌∙◌, Bool, true, List, sym, ap, if◌then◌else◌}
use Rattle.iscsi_wire.specs.Fields.{request_of}
use Rattle.iscsi_rules.specs.declared.effect.Effect.{Effect}
use Rattle.iscsi_ffi_steps.specs.Walk.{Doing}
use Rattle.iscsi_ffi_steps.specs.Steps.{hold, is_held_first}
use Rattle.iscsi_ffi.specs.Held.{held_of}
use Rattle.iscsi_ffi.specs.Standing.{Sided}
use Rattle.iscsi_ffi.specs.contracts.side.Side.{the_view}
use Rattle.iscsi_ffi.proofs.side.Side.place_request.Goals as goal

pub returns-then-is_held_first-clause-state : goal.returns-then-is_held_first-clause-state
returns-then-is_held_first-clause-state c =
    let v = the_view c.self.inside in
    let r = request_of c.args.cid c.args.header.now in
    let held = c.hold_number.ensures r (sym c.word_at.ensures) in
    let is : is_held_first r v.host.effects ≡ true =
    sym (c.is_held_first.ensures ∙ ap (λ (es : List Effect). is_held_first r es) c.effects.ensures) ∙ c.if-is_held_first.true in
    ap (λ (d : Doing). record v { desk = d }) held
    ∙ ap (λ (b : Bool). record v { desk = if b then hold r c.args.place v.desk else v.desk }) (sym is)
    ∙ ap (λ (w : Sided). record w { desk = held_of r c.args.place w.host.effects w.desk }) c.self.view_is
