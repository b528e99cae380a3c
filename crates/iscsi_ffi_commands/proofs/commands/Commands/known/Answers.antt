use Rattle.std.proofs.Common.{◌∙◌, sym, subst}
use Rattle.iscsi_ffi_commands.specs.Commands.{AreKnown}
use Rattle.iscsi_ffi_commands.proofs.StateLemmas.{shown}
use Rattle.iscsi_ffi_commands.proofs.KnownLemmas.{are_known}
use Rattle.iscsi_ffi_commands.proofs.commands.Commands.known.Goals as goal

pub returns : goal.returns
returns c =
    let i = c.self.inside in
    let k = c.self.invariant in
    subst AreKnown (sym (shown i.tickets i.kept i.slots.items i.marked.items k.cells k.are) ∙ c.self.view_is)
    (are_known i.tickets i.kept i.slots.items i.marked.items k.cells k.are c.known.ensures.ascending c.known.ensures.newest)
