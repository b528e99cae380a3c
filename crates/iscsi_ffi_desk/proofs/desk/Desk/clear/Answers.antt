use Rattle.std.proofs.Common.{◌≡◌, ap, subst, ◌∙◌, length, arith}
use Rattle.iscsi_ffi_commands.specs.Commands.{AreKnown, Commands, next_of}
use Rattle.iscsi_ffi_steps.specs.Walk.{Doing}
use Rattle.iscsi_ffi_desk.proofs.ClearLemmas.{IsClearing, clearing_ends, clearing_goes, clearing_past, clears_none}
use Rattle.iscsi_ffi_desk.proofs.desk.Desk.clear.Goals as goal

pub returns-then-from-units : goal.returns-then-from-units
returns-then-from-units c =
    let now = c.args.self.now in
    let commands : c.self.inside.commands ≡ now.state.commands = ap (λ (d : Doing). d.state.commands) c.self.view_is in
    let outbox = ap (λ (d : Doing). d.state.outbox.limits.units) c.self.view_is in
    let units = c.self.invariant.units in
    let same = ap (λ (v : Commands). v.units) commands in
    clears_none c.args.unit now (omega (arith, c.if-from-units.true, c.from.ensures, c.units.ensures, outbox, units, same)) (subst AreKnown commands c.known.ensures)

pub returns-in_default : goal.returns-in_default
returns-in_default c =
    clearing_ends c.args.unit c.loop-gone._gone c.args.self.now c.loop-gone.self
    (subst (λ n. IsClearing c.args.unit c.loop-gone._gone n c.args.self.now c.loop-gone.self) c.in_default.is c.loop-gone.invariant)

pub loop-gone-preserved : goal.loop-gone-preserved
loop-gone-preserved c =
    let now = c.loop-gone.self in
    clearing_goes c.args.unit c.loop-gone._gone c.in-Some.ticket c.args.self.now now c.clear_ticket.new.self c.next_of-next.result
    (subst (λ n. IsClearing c.args.unit c.loop-gone._gone n c.args.self.now now) c.in-Some.is c.loop-gone.invariant)
    (subst AreKnown (ap (λ (d : Doing). d.state.commands) c.self-in-loop-gone.view_is) c.known-in-loop-gone.ensures)
    (c.clear_ticket.ensures)
    (c.next_of-next.ensures ∙ ap (λ (d : Doing). next_of c.in-Some.ticket d.state.commands) c.self-in-loop-gone-2.view_is)

pub returns : goal.returns
returns c =
    let now = c.loop-gone.self in
    let long = ap (λ (d : Doing). length d.state.commands.items) c.self.view_is in
    clearing_past c.args.unit c.loop-gone._gone c.loop-gone.next c.args.self.now now
    (omega (arith, c.loop-gone-test.false, c.loop-gone.auto._gone-end, c.len-gone-end.ensures, long)) c.loop-gone.invariant
