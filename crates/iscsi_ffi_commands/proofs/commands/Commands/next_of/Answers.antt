use Rattle.std.proofs.Common.{◌∙◌, Some, None, map, ap, sym, arith}
use Rattle.iscsi_ffi_commands.specs.declared.command.Command.{Command}
use Rattle.iscsi_ffi_commands.specs.Commands.{next_of}
use Rattle.iscsi_ffi_commands.specs.Kept.{BLANK, slot_of}
use Rattle.iscsi_ffi_commands.proofs.StateLemmas.{found_none, found_some, shown, slot_high, unit_below}
use Rattle.iscsi_ffi_commands.proofs.KnownLemmas.{next_none, next_parts, next_told, walk}
use Rattle.iscsi_ffi_commands.proofs.commands.Commands.next_of.Goals as goal

pub returns-in_err-slot : goal.returns-in_err-slot
returns-in_err-slot c =
    let i = c.self.inside in
    let k = c.self.invariant in
    c.from_residual.ensures
    ∙ sym (ap (next_of c.args.ticket) (sym c.self.view_is ∙ shown i.tickets i.kept i.slots.items i.marked.items k.cells k.are)
    ∙ next_none i.tickets i.kept i.slots.items i.marked.items k.cells k.are c.args.ticket
    (found_none i.tickets i.kept i.slots.items i.marked.items k.cells k.are c.args.ticket (sym c.in_err-slot.ensures)))

pub next-requires : goal.next-requires
next-requires c =
    let i = c.self.inside in
    let k = c.self.invariant in
    let f = found_some i.tickets i.kept i.slots.items i.marked.items k.cells k.are c.args.ticket c.in_ok-slot.slot (sym c.in_ok-slot.ensures) in
    let high = slot_high i.tickets i.kept i.slots.items i.marked.items k.cells k.are c.known.ensures.apart f.cell f.there in
    let is = f.slot_is in
    omega (arith, high, is)

pub returns-in_err-next : goal.returns-in_err-next
returns-in_err-next c =
    let i = c.self.inside in
    let k = c.self.invariant in
    let slot = c.in_ok-slot.slot in
    let f = found_some i.tickets i.kept i.slots.items i.marked.items k.cells k.are c.args.ticket slot (sym c.in_ok-slot.ensures) in
    let w = walk i.tickets i.kept i.slots.items i.marked.items k.cells k.are f.cell f.there in
    let none = c.in_err-next.ensures.slot (f.cell.command.unit) (map slot_of w.before) (map slot_of w.after)
    (unit_below i.tickets i.kept i.slots.items i.marked.items k.cells k.are f.cell f.there)
    (next_parts i.tickets i.kept i.slots.items i.marked.items k.cells k.are c.args.ticket slot f) in
    c.from_residual-in_err-next.ensures
    ∙ next_told i.tickets i.kept i.slots.items i.marked.items k.cells k.are c.args.ticket slot f None none
    ∙ ap (next_of c.args.ticket) (sym (shown i.tickets i.kept i.slots.items i.marked.items k.cells k.are) ∙ c.self.view_is)

pub returns : goal.returns
returns c =
    let i = c.self.inside in
    let k = c.self.invariant in
    let slot = c.in_ok-slot.slot in
    let f = found_some i.tickets i.kept i.slots.items i.marked.items k.cells k.are c.args.ticket slot (sym c.in_ok-slot.ensures) in
    let w = walk i.tickets i.kept i.slots.items i.marked.items k.cells k.are f.cell f.there in
    let some = c.in_ok-next.ensures.slot (f.cell.command.unit) (map slot_of w.before) (map slot_of w.after)
    (unit_below i.tickets i.kept i.slots.items i.marked.items k.cells k.are f.cell f.there)
    (next_parts i.tickets i.kept i.slots.items i.marked.items k.cells k.are c.args.ticket slot f) in
    ap (λ (x : Command). Some x.ticket) (c.at.ensures BLANK)
    ∙ next_told i.tickets i.kept i.slots.items i.marked.items k.cells k.are c.args.ticket slot f (Some c.in_ok-next.next) some
    ∙ ap (next_of c.args.ticket) (sym (shown i.tickets i.kept i.slots.items i.marked.items k.cells k.are) ∙ c.self.view_is)
