use Rattle.std.proofs.Common.{◌∙◌, nat_eq, slice_index_or, ap, sym, arith}
use Rattle.iscsi_ffi_commands.specs.Commands.{may_enter}
use Rattle.iscsi_ffi_commands.proofs.StateLemmas.{shown, slot_low}
use Rattle.iscsi_ffi_commands.proofs.KnownLemmas.{may_told, told_alone}
use Rattle.iscsi_ffi_commands.proofs.commands.Commands.may_enter.Goals as goal

pub returns : goal.returns
returns c =
    let i = c.self.inside in
    let k = c.self.invariant in
    let command = c.args.command.now in
    let newest = c.if-command-last.false in
    let last = c.last.ensures in
    let unit = c.if-from-len.false in
    let from = c.from.ensures in
    let len = c.len.ensures in
    let marked = i.marked.ok.0 in
    let marked_long = k.are.marked_long in
    let some = c.if-command-eq0.false in
    let place = c.if-command-len.false in
    let slots = c.len-2.ensures in
    let slots_are = i.slots.ok.0 in
    let slots_long = k.are.slots_long in
    ap (λ n. nat_eq n 0) (c.slot_at.ensures ∙ ap (λ ns. slice_index_or ns command.request 0) c.deref.ensures.value)
    ∙ told_alone i.tickets i.kept i.slots.items i.marked.items k.cells k.are (slot_low i.tickets i.kept i.slots.items i.marked.items k.cells k.are c.known-2.ensures.apart) command.request
    ∙ sym (may_told i.tickets i.kept i.slots.items i.marked.items k.cells k.are command
    (omega (arith, newest, last)) (omega (arith, unit, from, len, marked, marked_long)) (omega (arith, some)) (omega (arith, place, slots, slots_are, slots_long)))
    ∙ ap (may_enter command) (sym (shown i.tickets i.kept i.slots.items i.marked.items k.cells k.are) ∙ c.self.view_is)
