use Rattle.std.proofs.Common.{◌<◌, ◌∙◌, get_or, nat_lt, ap, sym, subst, arith}
use Rattle.std.proofs.lemmas.List.{get_or_default}
use Rattle.iscsi_ffi_commands.specs.Commands.{Commands, is_clearing}
use Rattle.iscsi_ffi_commands.proofs.StateLemmas.{shown}
use Rattle.iscsi_ffi_commands.proofs.KnownLemmas.{clearing_shown}
use Rattle.iscsi_ffi_commands.proofs.commands.Commands.is_clearing.Goals as goal

pub returns : goal.returns
returns c =
    let i = c.self.inside in
    let k = c.self.invariant in
    let within = subst (λ (v : Commands). c.args.unit < v.units) (sym c.self.view_is) c.requires in
    let long = k.are.marked_long in
    let at = c.from.ensures in
    ap (nat_lt 0)
    (c.index.ensures ∙ get_or_default i.marked.items c.from.result c.index.result.now 0 (omega (arith, within, long, at)) ∙ ap (λ n. get_or i.marked.items n 0) at)
    ∙ sym (clearing_shown i.tickets i.kept i.slots.items i.marked.items k.cells k.are c.args.unit)
    ∙ ap (is_clearing c.args.unit) (sym (shown i.tickets i.kept i.slots.items i.marked.items k.cells k.are) ∙ c.self.view_is)
