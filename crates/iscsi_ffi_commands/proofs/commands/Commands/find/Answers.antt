use Rattle.std.proofs.Common.{◌∙◌, Some, ap, sym, arith}
use Rattle.iscsi_ffi_commands.specs.Commands.{find_ticket}
use Rattle.iscsi_ffi_commands.specs.Kept.{BLANK, command_at}
use Rattle.iscsi_ffi_commands.proofs.StateLemmas.{found_none, found_some, shown, slot_high}
use Rattle.iscsi_ffi_commands.proofs.commands.Commands.find.Goals as goal

pub returns-in_err-slot : goal.returns-in_err-slot
returns-in_err-slot c =
    let i = c.self.inside in
    let k = c.self.invariant in
    c.from_residual.ensures
    ∙ sym (ap (find_ticket c.args.ticket) (sym c.self.view_is ∙ shown i.tickets i.kept i.slots.items i.marked.items k.cells k.are)
    ∙ found_none i.tickets i.kept i.slots.items i.marked.items k.cells k.are c.args.ticket (sym c.in_err-slot.ensures))

pub at-requires : goal.at-requires
at-requires c =
    let i = c.self.inside in
    let k = c.self.invariant in
    let f = found_some i.tickets i.kept i.slots.items i.marked.items k.cells k.are c.args.ticket c.in_ok-slot.slot (sym c.in_ok-slot.ensures) in
    let high = slot_high i.tickets i.kept i.slots.items i.marked.items k.cells k.are c.known.ensures.apart f.cell f.there in
    let is = f.slot_is in
    omega (arith, high, is)

pub returns : goal.returns
returns c =
    let i = c.self.inside in
    let k = c.self.invariant in
    let f = found_some i.tickets i.kept i.slots.items i.marked.items k.cells k.are c.args.ticket c.in_ok-slot.slot (sym c.in_ok-slot.ensures) in
    ap Some (c.at.ensures BLANK ∙ ap (command_at i.kept.values) (sym f.slot_is) ∙ k.are.values f.cell f.there)
    ∙ sym f.found
    ∙ ap (find_ticket c.args.ticket) (sym (shown i.tickets i.kept i.slots.items i.marked.items k.cells k.are) ∙ c.self.view_is)
