use Rattle.std.proofs.Common.{◌∙◌, set, ap, sym, subst, arith}
use Rattle.iscsi_lists.specs.Lists.{Listed}
use Rattle.iscsi_ffi_commands.specs.declared.command.Command.{Command}
use Rattle.iscsi_ffi_commands.specs.Commands.{in_stage, staged}
use Rattle.iscsi_ffi_commands.specs.Kept.{AreKept, BLANK, command_at, commands_of, marks}
use Rattle.iscsi_ffi_commands.proofs.StateLemmas.{found_some, shown, slot_high, value}
use Rattle.iscsi_ffi_commands.proofs.ChangeLemmas.{count_short, count_some, counted_as, counts_as, staged_same, stages_kept, stages_shown, unit_in}
use Rattle.iscsi_ffi_commands.proofs.commands.Commands.set_stage.Goals as goal

pub returns-in_default : goal.returns-in_default
returns-in_default c =
    let i = c.self.inside in
    let k = c.self.invariant in
    let is = shown i.tickets i.kept i.slots.items i.marked.items k.cells k.are in
    sym (ap (staged c.args.stage c.args.ticket) (sym c.self.view_is ∙ is)
    ∙ staged_same i.tickets i.kept i.slots.items i.marked.items k.cells k.are c.args.stage c.args.ticket (sym c.find.ensures ∙ c.in_default.is)
    ∙ sym is ∙ c.self.view_is)

pub at-command-requires : goal.at-command-requires
at-command-requires c =
    let i = c.self.inside in
    let k = c.self.invariant in
    let f = found_some i.tickets i.kept i.slots.items i.marked.items k.cells k.are c.args.ticket c.in-Some.slot (sym c.find.ensures ∙ c.in-Some.is) in
    let high = slot_high i.tickets i.kept i.slots.items i.marked.items k.cells k.are c.known-2.ensures.apart f.cell f.there in
    let is = f.slot_is in omega (arith, high, is)

pub set-requires : goal.set-requires
set-requires c =
    let i = c.self.inside in
    let k = c.self.invariant in
    let f = found_some i.tickets i.kept i.slots.items i.marked.items k.cells k.are c.args.ticket c.in-Some.slot (sym c.find.ensures ∙ c.in-Some.is) in
    let high = slot_high i.tickets i.kept i.slots.items i.marked.items k.cells k.are c.known-2.ensures.apart f.cell f.there in
    let is = f.slot_is in omega (arith, high, is)

pub index-requires : goal.index-requires
index-requires c =
    let i = c.self.inside in
    let k = c.self.invariant in
    let f = found_some i.tickets i.kept i.slots.items i.marked.items k.cells k.are c.args.ticket c.in-Some.slot (sym c.find.ensures ∙ c.in-Some.is) in
    let same = c.at-command.ensures BLANK ∙ ap (command_at i.kept.values) (sym f.slot_is) ∙ k.are.values f.cell f.there in
    let within = unit_in i.tickets i.kept i.slots.items i.marked.items k.cells k.are f.cell f.there c.at-command.result.now same c.from-unit.result c.from-unit.ensures in
    let len = i.marked.ok.0 in omega (arith, within, len)

pub recounted-requires-clause-some : goal.recounted-requires-clause-some
recounted-requires-clause-some c =
    let i = c.self.inside in
    let k = c.self.invariant in
    let f = found_some i.tickets i.kept i.slots.items i.marked.items k.cells k.are c.args.ticket c.in-Some.slot (sym c.find.ensures ∙ c.in-Some.is) in
    let same = c.at-command.ensures BLANK ∙ ap (command_at i.kept.values) (sym f.slot_is) ∙ k.are.values f.cell f.there in
    count_some i.tickets i.kept i.slots.items i.marked.items k.cells k.are f.cell f.there c.at-command.result.now same c.from-unit.result c.from-unit.ensures c.index.result.now c.index.ensures

pub recounted-requires-clause-short : goal.recounted-requires-clause-short
recounted-requires-clause-short c =
    let i = c.self.inside in
    let k = c.self.invariant in
    let f = found_some i.tickets i.kept i.slots.items i.marked.items k.cells k.are c.args.ticket c.in-Some.slot (sym c.find.ensures ∙ c.in-Some.is) in
    let same = c.at-command.ensures BLANK ∙ ap (command_at i.kept.values) (sym f.slot_is) ∙ k.are.values f.cell f.there in
    count_short i.tickets i.kept i.slots.items i.marked.items k.cells k.are f.cell f.there c.at-command.result.now same c.from-unit.result c.from-unit.ensures c.index.result.now c.index.ensures
    c.known-2.ensures.short

pub index_mut-requires : goal.index_mut-requires
index_mut-requires c =
    let i = c.self.inside in
    let k = c.self.invariant in
    let f = found_some i.tickets i.kept i.slots.items i.marked.items k.cells k.are c.args.ticket c.in-Some.slot (sym c.find.ensures ∙ c.in-Some.is) in
    let same = c.at-command.ensures BLANK ∙ ap (command_at i.kept.values) (sym f.slot_is) ∙ k.are.values f.cell f.there in
    let within = unit_in i.tickets i.kept i.slots.items i.marked.items k.cells k.are f.cell f.there c.at-command.result.now same c.from-unit.result c.from-unit.ensures in
    let len = i.marked.ok.0 in omega (arith, within, len)

pub invariant_of-self : goal.invariant_of-self
invariant_of-self c =
    let i = c.self.inside in
    let k = c.self.invariant in
    let f = found_some i.tickets i.kept i.slots.items i.marked.items k.cells k.are c.args.ticket c.in-Some.slot (sym c.find.ensures ∙ c.in-Some.is) in
    let same = c.at-command.ensures BLANK ∙ ap (command_at i.kept.values) (sym f.slot_is) ∙ k.are.values f.cell f.there in
    let counted = counted_as i.tickets i.kept i.slots.items i.marked.items k.cells k.are f.cell f.there c.at-command.result.now same c.from-unit.result c.from-unit.ensures c.index.result.now c.index.ensures
    c.recounted.result (marks c.args.stage) c.recounted.ensures in
    let is = c.set.ensures
    ∙ ap (λ (x : Command). record i.kept { values = set i.kept.values c.in-Some.slot (in_stage c.args.stage x) }) same
    ∙ ap (λ n. record i.kept { values = set i.kept.values n (in_stage c.args.stage f.cell.command) }) (sym f.slot_is) in
    subst (λ (u : Listed Command). AreKept i.tickets u i.slots.items (set i.marked.items c.from-unit.result c.recounted.result)) (sym is)
    (subst (AreKept i.tickets (record i.kept { values = set i.kept.values (f.cell.slot) (in_stage c.args.stage f.cell.command) }) i.slots.items)
    (sym (counts_as i.tickets i.kept i.slots.items i.marked.items k.cells k.are f.cell f.there c.at-command.result.now same c.from-unit.result c.from-unit.ensures c.index.result.now c.index.ensures
    c.recounted.result))
    (stages_kept i.tickets i.kept i.slots.items i.marked.items k.cells k.are c.known-2.ensures.apart f.cell f.there c.known-2.ensures.values c.args.stage c.recounted.result counted))

pub returns : goal.returns
returns c =
    let i = c.self.inside in
    let k = c.self.invariant in
    let f = found_some i.tickets i.kept i.slots.items i.marked.items k.cells k.are c.args.ticket c.in-Some.slot (sym c.find.ensures ∙ c.in-Some.is) in
    let same = c.at-command.ensures BLANK ∙ ap (command_at i.kept.values) (sym f.slot_is) ∙ k.are.values f.cell f.there in
    let counted = counted_as i.tickets i.kept i.slots.items i.marked.items k.cells k.are f.cell f.there c.at-command.result.now same c.from-unit.result c.from-unit.ensures c.index.result.now c.index.ensures
    c.recounted.result (marks c.args.stage) c.recounted.ensures in
    let is = c.set.ensures
    ∙ ap (λ (x : Command). record i.kept { values = set i.kept.values c.in-Some.slot (in_stage c.args.stage x) }) same
    ∙ ap (λ n. record i.kept { values = set i.kept.values n (in_stage c.args.stage f.cell.command) }) (sym f.slot_is) in
    ap (commands_of i.tickets) is
    ∙ stages_shown i.tickets i.kept i.slots.items i.marked.items k.cells k.are c.known-2.ensures.apart f.cell f.there c.known-2.ensures.values c.args.stage c.recounted.result counted
    ∙ ap (λ n. staged c.args.stage n (value i.tickets i.kept i.slots.items i.marked.items k.cells k.are)) f.ticket_is
    ∙ ap (staged c.args.stage c.args.ticket) (sym (shown i.tickets i.kept i.slots.items i.marked.items k.cells k.are) ∙ c.self.view_is)
