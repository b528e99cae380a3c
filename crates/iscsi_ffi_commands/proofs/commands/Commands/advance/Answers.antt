use Rattle.std.proofs.Common.{◌∙◌, set, ap, sym, subst, arith}
use Rattle.iscsi_lists.specs.Lists.{Listed}
use Rattle.iscsi_ffi_commands.specs.declared.command.Command.{Command}
use Rattle.iscsi_ffi_commands.specs.Commands.{find_ticket, in_stage, staged}
use Rattle.iscsi_ffi_commands.specs.Kept.{AreKept, BLANK, command_at, commands_of, marks}
use Rattle.iscsi_ffi_commands.proofs.StateLemmas.{cell_of, request_in, shown, slot_high, slot_told, value}
use Rattle.iscsi_ffi_commands.proofs.ChangeLemmas.{count_short, count_some, counted_as, counts_as, stages_kept, stages_shown, unit_in}
use Rattle.iscsi_ffi_commands.proofs.commands.Commands.advance.Goals as goal

pub index-slot-requires : goal.index-slot-requires
index-slot-requires c =
    let i = c.self.inside in
    let k = c.self.invariant in
    let h = cell_of i.tickets i.kept i.slots.items i.marked.items k.cells k.are c.args.ticket c.args.command.now
    (ap (find_ticket c.args.ticket) (sym (shown i.tickets i.kept i.slots.items i.marked.items k.cells k.are) ∙ c.self.view_is) ∙ c.requires) in
    let within = request_in i.tickets i.kept i.slots.items i.marked.items k.cells k.are c.args.ticket c.args.command.now h in
    let len = i.slots.ok.0 in omega (arith, within, len)

pub at-kept-requires : goal.at-kept-requires
at-kept-requires c =
    let i = c.self.inside in
    let k = c.self.invariant in
    let h = cell_of i.tickets i.kept i.slots.items i.marked.items k.cells k.are c.args.ticket c.args.command.now
    (ap (find_ticket c.args.ticket) (sym (shown i.tickets i.kept i.slots.items i.marked.items k.cells k.are) ∙ c.self.view_is) ∙ c.requires) in
    let slot_is = slot_told i.tickets i.kept i.slots.items i.marked.items k.cells k.are c.args.ticket c.args.command.now h c.index-slot.result.now c.index-slot.ensures in
    let high = slot_high i.tickets i.kept i.slots.items i.marked.items k.cells k.are c.known-2.ensures.apart h.cell h.there in
    omega (arith, high, slot_is)

pub set-requires : goal.set-requires
set-requires c =
    let i = c.self.inside in
    let k = c.self.invariant in
    let h = cell_of i.tickets i.kept i.slots.items i.marked.items k.cells k.are c.args.ticket c.args.command.now
    (ap (find_ticket c.args.ticket) (sym (shown i.tickets i.kept i.slots.items i.marked.items k.cells k.are) ∙ c.self.view_is) ∙ c.requires) in
    let slot_is = slot_told i.tickets i.kept i.slots.items i.marked.items k.cells k.are c.args.ticket c.args.command.now h c.index-slot.result.now c.index-slot.ensures in
    let high = slot_high i.tickets i.kept i.slots.items i.marked.items k.cells k.are c.known-2.ensures.apart h.cell h.there in
    omega (arith, high, slot_is)

pub index-count-requires : goal.index-count-requires
index-count-requires c =
    let i = c.self.inside in
    let k = c.self.invariant in
    let h = cell_of i.tickets i.kept i.slots.items i.marked.items k.cells k.are c.args.ticket c.args.command.now
    (ap (find_ticket c.args.ticket) (sym (shown i.tickets i.kept i.slots.items i.marked.items k.cells k.are) ∙ c.self.view_is) ∙ c.requires) in
    let within = unit_in i.tickets i.kept i.slots.items i.marked.items k.cells k.are h.cell h.there c.args.command.now (sym h.is) c.from-unit.result c.from-unit.ensures in
    let len = i.marked.ok.0 in omega (arith, within, len)

pub index_mut-requires : goal.index_mut-requires
index_mut-requires c =
    let i = c.self.inside in
    let k = c.self.invariant in
    let h = cell_of i.tickets i.kept i.slots.items i.marked.items k.cells k.are c.args.ticket c.args.command.now
    (ap (find_ticket c.args.ticket) (sym (shown i.tickets i.kept i.slots.items i.marked.items k.cells k.are) ∙ c.self.view_is) ∙ c.requires) in
    let within = unit_in i.tickets i.kept i.slots.items i.marked.items k.cells k.are h.cell h.there c.args.command.now (sym h.is) c.from-unit.result c.from-unit.ensures in
    let len = i.marked.ok.0 in omega (arith, within, len)

pub recounted-requires-clause-some : goal.recounted-requires-clause-some
recounted-requires-clause-some c =
    let i = c.self.inside in
    let k = c.self.invariant in
    let h = cell_of i.tickets i.kept i.slots.items i.marked.items k.cells k.are c.args.ticket c.args.command.now
    (ap (find_ticket c.args.ticket) (sym (shown i.tickets i.kept i.slots.items i.marked.items k.cells k.are) ∙ c.self.view_is) ∙ c.requires) in
    count_some i.tickets i.kept i.slots.items i.marked.items k.cells k.are h.cell h.there c.args.command.now (sym h.is) c.from-unit.result c.from-unit.ensures c.index-count.result.now c.index-count.ensures

pub recounted-requires-clause-short : goal.recounted-requires-clause-short
recounted-requires-clause-short c =
    let i = c.self.inside in
    let k = c.self.invariant in
    let h = cell_of i.tickets i.kept i.slots.items i.marked.items k.cells k.are c.args.ticket c.args.command.now
    (ap (find_ticket c.args.ticket) (sym (shown i.tickets i.kept i.slots.items i.marked.items k.cells k.are) ∙ c.self.view_is) ∙ c.requires) in
    count_short i.tickets i.kept i.slots.items i.marked.items k.cells k.are h.cell h.there c.args.command.now (sym h.is) c.from-unit.result c.from-unit.ensures c.index-count.result.now c.index-count.ensures
    c.known-2.ensures.short

pub invariant_of-self : goal.invariant_of-self
invariant_of-self c =
    let i = c.self.inside in
    let k = c.self.invariant in
    let h = cell_of i.tickets i.kept i.slots.items i.marked.items k.cells k.are c.args.ticket c.args.command.now
    (ap (find_ticket c.args.ticket) (sym (shown i.tickets i.kept i.slots.items i.marked.items k.cells k.are) ∙ c.self.view_is) ∙ c.requires) in
    let slot_is = slot_told i.tickets i.kept i.slots.items i.marked.items k.cells k.are c.args.ticket c.args.command.now h c.index-slot.result.now c.index-slot.ensures in
    let same = c.at-kept.ensures BLANK ∙ ap (command_at i.kept.values) (sym slot_is) ∙ k.are.values h.cell h.there in
    let counted = counted_as i.tickets i.kept i.slots.items i.marked.items k.cells k.are h.cell h.there c.args.command.now (sym h.is) c.from-unit.result c.from-unit.ensures c.index-count.result.now c.index-count.ensures
    c.recounted.result (marks c.args.stage) c.recounted.ensures in
    let is = c.set.ensures
    ∙ ap (λ (x : Command). record i.kept { values = set i.kept.values c.index-slot.result.now (in_stage c.args.stage x) }) same
    ∙ ap (λ n. record i.kept { values = set i.kept.values n (in_stage c.args.stage h.cell.command) }) (sym slot_is) in
    subst (λ (u : Listed Command). AreKept i.tickets u i.slots.items (set i.marked.items c.from-unit.result c.recounted.result)) (sym is)
    (subst (AreKept i.tickets (record i.kept { values = set i.kept.values (h.cell.slot) (in_stage c.args.stage h.cell.command) }) i.slots.items)
    (sym (counts_as i.tickets i.kept i.slots.items i.marked.items k.cells k.are h.cell h.there c.args.command.now (sym h.is) c.from-unit.result c.from-unit.ensures c.index-count.result.now c.index-count.ensures
    c.recounted.result))
    (stages_kept i.tickets i.kept i.slots.items i.marked.items k.cells k.are c.known-2.ensures.apart h.cell h.there c.known-2.ensures.values c.args.stage c.recounted.result counted))

pub returns : goal.returns
returns c =
    let i = c.self.inside in
    let k = c.self.invariant in
    let h = cell_of i.tickets i.kept i.slots.items i.marked.items k.cells k.are c.args.ticket c.args.command.now
    (ap (find_ticket c.args.ticket) (sym (shown i.tickets i.kept i.slots.items i.marked.items k.cells k.are) ∙ c.self.view_is) ∙ c.requires) in
    let slot_is = slot_told i.tickets i.kept i.slots.items i.marked.items k.cells k.are c.args.ticket c.args.command.now h c.index-slot.result.now c.index-slot.ensures in
    let same = c.at-kept.ensures BLANK ∙ ap (command_at i.kept.values) (sym slot_is) ∙ k.are.values h.cell h.there in
    let counted = counted_as i.tickets i.kept i.slots.items i.marked.items k.cells k.are h.cell h.there c.args.command.now (sym h.is) c.from-unit.result c.from-unit.ensures c.index-count.result.now c.index-count.ensures
    c.recounted.result (marks c.args.stage) c.recounted.ensures in
    let is = c.set.ensures
    ∙ ap (λ (x : Command). record i.kept { values = set i.kept.values c.index-slot.result.now (in_stage c.args.stage x) }) same
    ∙ ap (λ n. record i.kept { values = set i.kept.values n (in_stage c.args.stage h.cell.command) }) (sym slot_is) in
    ap (commands_of i.tickets) is
    ∙ stages_shown i.tickets i.kept i.slots.items i.marked.items k.cells k.are c.known-2.ensures.apart h.cell h.there c.known-2.ensures.values c.args.stage c.recounted.result counted
    ∙ ap (λ (x : Command). staged c.args.stage x.ticket (value i.tickets i.kept i.slots.items i.marked.items k.cells k.are)) h.is
    ∙ ap (staged c.args.stage c.args.command.now.ticket) (sym (shown i.tickets i.kept i.slots.items i.marked.items k.cells k.are) ∙ c.self.view_is)
