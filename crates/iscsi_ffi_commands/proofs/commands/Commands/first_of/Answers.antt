use Rattle.std.proofs.Common.{◌∙◌, Some, option_map, ap, sym}
use Rattle.iscsi_lists.specs.Lists.{first_of as first_slot}
use Rattle.iscsi_ffi_commands.specs.declared.command.Command.{Command}
use Rattle.iscsi_ffi_commands.specs.Commands.{first_of}
use Rattle.iscsi_ffi_commands.specs.Kept.{BLANK, command_at, slots_at}
use Rattle.iscsi_ffi_commands.proofs.StateLemmas.{shown}
use Rattle.iscsi_ffi_commands.proofs.KnownLemmas.{first_shown}
use Rattle.iscsi_ffi_commands.proofs.commands.Commands.first_of.Goals as goal

pub returns-in_err-slot : goal.returns-in_err-slot
returns-in_err-slot c =
    let i = c.self.inside in
    let k = c.self.invariant in
    c.from_residual.ensures
    ∙ ap (option_map (λ s. (command_at i.kept.values s).ticket)) (c.in_err-slot.ensures.slot ∙ ap (λ n. first_slot (slots_at i.kept n)) c.from.ensures)
    ∙ first_shown i.tickets i.kept i.slots.items i.marked.items k.cells k.are c.args.unit
    ∙ ap (first_of c.args.unit) (sym (shown i.tickets i.kept i.slots.items i.marked.items k.cells k.are) ∙ c.self.view_is)

pub returns : goal.returns
returns c =
    let i = c.self.inside in
    let k = c.self.invariant in
    ap (λ (x : Command). Some x.ticket) (c.at.ensures BLANK)
    ∙ ap (option_map (λ s. (command_at i.kept.values s).ticket)) (c.in_ok-slot.ensures.slot ∙ ap (λ n. first_slot (slots_at i.kept n)) c.from.ensures)
    ∙ first_shown i.tickets i.kept i.slots.items i.marked.items k.cells k.are c.args.unit
    ∙ ap (first_of c.args.unit) (sym (shown i.tickets i.kept i.slots.items i.marked.items k.cells k.are) ∙ c.self.view_is)
