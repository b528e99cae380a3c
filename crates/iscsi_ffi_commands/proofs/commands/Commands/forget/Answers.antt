use Rattle.std.proofs.Common.{◌≤◌, ◌∙◌, ◌++◌, [], ◌∷◌, map, set, slice_index_or, ap, sym, subst, arith}
use Rattle.iscsi_lists.specs.Lists.{Listed, times_in, without}
use Rattle.iscsi_tickets.specs.Tickets.{Known, known, without_ticket}
use Rattle.iscsi_ffi_commands.specs.declared.command.Command.{Command}
use Rattle.iscsi_ffi_commands.specs.Commands.{forgotten}
use Rattle.iscsi_ffi_commands.specs.Kept.{AreKept, BLANK, command_at, commands_of, ticket_of}
use Rattle.iscsi_ffi_commands.proofs.StateLemmas.{in_lists, shown, slot_low, value}
use Rattle.iscsi_ffi_commands.proofs.KnownLemmas.{held_slot, slot_none}
use Rattle.iscsi_ffi_commands.proofs.ChangeLemmas.{count_short, count_some, counted_as, counts_as, forgets_kept, forgets_shown, forgotten_same, unit_in}
use Rattle.iscsi_ffi_commands.proofs.commands.Commands.forget.Goals as goal

pub returns-then-slot-eq0 : goal.returns-then-slot-eq0
returns-then-slot-eq0 c =
    let i = c.self.inside in
    let k = c.self.invariant in
    let is = shown i.tickets i.kept i.slots.items i.marked.items k.cells k.are in
    let read = c.slot_at-slot.ensures ∙ ap (λ ns. slice_index_or ns c.args.request 0) c.deref.ensures.value in
    sym (ap (forgotten c.args.request) (sym c.self.view_is ∙ is)
    ∙ forgotten_same i.tickets i.kept i.slots.items i.marked.items k.cells k.are c.args.request
    (slot_none i.tickets i.kept i.slots.items i.marked.items k.cells k.are
    (slot_low i.tickets i.kept i.slots.items i.marked.items k.cells k.are c.known-2.ensures.apart) c.args.request (sym read ∙ c.if-slot-eq0.true))
    ∙ sym is ∙ c.self.view_is)

pub remove-command-requires : goal.remove-command-requires
remove-command-requires c =
    let i = c.self.inside in
    let k = c.self.invariant in
    let read = c.slot_at-slot.ensures ∙ ap (λ ns. slice_index_or ns c.args.request 0) c.deref.ensures.value in
    let h = held_slot i.tickets i.kept i.slots.items i.marked.items k.cells k.are c.args.request c.slot_at-slot.result read c.if-slot-eq0.false in
    subst (λ s. 1 ≤ times_in s i.kept.lists) h.slot_is (in_lists i.tickets i.kept i.slots.items i.marked.items k.cells k.are h.cell h.there)

pub index-requires : goal.index-requires
index-requires c =
    let i = c.self.inside in
    let k = c.self.invariant in
    let read = c.slot_at-slot.ensures ∙ ap (λ ns. slice_index_or ns c.args.request 0) c.deref.ensures.value in
    let h = held_slot i.tickets i.kept i.slots.items i.marked.items k.cells k.are c.args.request c.slot_at-slot.result read c.if-slot-eq0.false in
    let same = c.remove-command.ensures.value BLANK ∙ ap (command_at i.kept.values) (sym h.slot_is) ∙ k.are.values h.cell h.there in
    let within = unit_in i.tickets i.kept i.slots.items i.marked.items k.cells k.are h.cell h.there c.remove-command.result same c.from-unit.result c.from-unit.ensures in
    let len = i.marked.ok.0 in omega (arith, within, len)

pub recounted-requires-clause-some : goal.recounted-requires-clause-some
recounted-requires-clause-some c =
    let i = c.self.inside in
    let k = c.self.invariant in
    let read = c.slot_at-slot.ensures ∙ ap (λ ns. slice_index_or ns c.args.request 0) c.deref.ensures.value in
    let h = held_slot i.tickets i.kept i.slots.items i.marked.items k.cells k.are c.args.request c.slot_at-slot.result read c.if-slot-eq0.false in
    let same = c.remove-command.ensures.value BLANK ∙ ap (command_at i.kept.values) (sym h.slot_is) ∙ k.are.values h.cell h.there in
    count_some i.tickets i.kept i.slots.items i.marked.items k.cells k.are h.cell h.there c.remove-command.result same c.from-unit.result c.from-unit.ensures c.index.result.now c.index.ensures

pub recounted-requires-clause-short : goal.recounted-requires-clause-short
recounted-requires-clause-short c =
    let i = c.self.inside in
    let k = c.self.invariant in
    let read = c.slot_at-slot.ensures ∙ ap (λ ns. slice_index_or ns c.args.request 0) c.deref.ensures.value in
    let h = held_slot i.tickets i.kept i.slots.items i.marked.items k.cells k.are c.args.request c.slot_at-slot.result read c.if-slot-eq0.false in
    let same = c.remove-command.ensures.value BLANK ∙ ap (command_at i.kept.values) (sym h.slot_is) ∙ k.are.values h.cell h.there in
    count_short i.tickets i.kept i.slots.items i.marked.items k.cells k.are h.cell h.there c.remove-command.result same c.from-unit.result c.from-unit.ensures c.index.result.now c.index.ensures
    c.known-2.ensures.short

pub index_mut-requires-2 : goal.index_mut-requires-2
index_mut-requires-2 c =
    let i = c.self.inside in
    let k = c.self.invariant in
    let read = c.slot_at-slot.ensures ∙ ap (λ ns. slice_index_or ns c.args.request 0) c.deref.ensures.value in
    let h = held_slot i.tickets i.kept i.slots.items i.marked.items k.cells k.are c.args.request c.slot_at-slot.result read c.if-slot-eq0.false in
    let same = c.remove-command.ensures.value BLANK ∙ ap (command_at i.kept.values) (sym h.slot_is) ∙ k.are.values h.cell h.there in
    let within = unit_in i.tickets i.kept i.slots.items i.marked.items k.cells k.are h.cell h.there c.remove-command.result same c.from-unit.result c.from-unit.ensures in
    let len = i.marked.ok.0 in omega (arith, within, len)

pub invariant_of-self : goal.invariant_of-self
invariant_of-self c =
    let i = c.self.inside in
    let k = c.self.invariant in
    let read = c.slot_at-slot.ensures ∙ ap (λ ns. slice_index_or ns c.args.request 0) c.deref.ensures.value in
    let h = held_slot i.tickets i.kept i.slots.items i.marked.items k.cells k.are c.args.request c.slot_at-slot.result read c.if-slot-eq0.false in
    let same = c.remove-command.ensures.value BLANK ∙ ap (command_at i.kept.values) (sym h.slot_is) ∙ k.are.values h.cell h.there in
    let counted = counted_as i.tickets i.kept i.slots.items i.marked.items k.cells k.are h.cell h.there c.remove-command.result same c.from-unit.result c.from-unit.ensures c.index.result.now c.index.ensures
    c.recounted.result 0 c.recounted.ensures in
    let tickets = c.take.ensures.others ∙ ap (λ (x : Command). known (without_ticket x.ticket i.tickets.entries) i.tickets.last i.tickets.room) same in
    let kept = c.remove-command.ensures.state ∙ ap (λ s. record i.kept { free = i.kept.free ++ s ∷ []; lists = map (without s) i.kept.lists }) (sym h.slot_is) in
    let then_tickets : Known = known (without_ticket (ticket_of h.cell) i.tickets.entries) i.tickets.last i.tickets.room in
    let then_kept : Listed Command = record i.kept { free = i.kept.free ++ h.cell.slot ∷ []; lists = map (without (h.cell.slot)) i.kept.lists } in
    let counts = set i.marked.items c.from-unit.result c.recounted.result in
    subst (λ (t : Known). AreKept t c.remove-command.new.self (set i.slots.items c.args.request 0) counts) (sym tickets)
    (subst (λ (u : Listed Command). AreKept then_tickets u (set i.slots.items c.args.request 0) counts) (sym kept)
    (subst (λ r. AreKept then_tickets then_kept (set i.slots.items r 0) counts) h.is
    (subst (AreKept then_tickets then_kept (set i.slots.items (h.cell.command.request) 0))
    (sym (counts_as i.tickets i.kept i.slots.items i.marked.items k.cells k.are h.cell h.there c.remove-command.result same c.from-unit.result c.from-unit.ensures c.index.result.now c.index.ensures
    c.recounted.result))
    (forgets_kept i.tickets i.kept i.slots.items i.marked.items k.cells k.are h.cell h.there c.recounted.result (omega (arith, counted))))))

pub returns : goal.returns
returns c =
    let i = c.self.inside in
    let k = c.self.invariant in
    let read = c.slot_at-slot.ensures ∙ ap (λ ns. slice_index_or ns c.args.request 0) c.deref.ensures.value in
    let h = held_slot i.tickets i.kept i.slots.items i.marked.items k.cells k.are c.args.request c.slot_at-slot.result read c.if-slot-eq0.false in
    let same = c.remove-command.ensures.value BLANK ∙ ap (command_at i.kept.values) (sym h.slot_is) ∙ k.are.values h.cell h.there in
    let counted = counted_as i.tickets i.kept i.slots.items i.marked.items k.cells k.are h.cell h.there c.remove-command.result same c.from-unit.result c.from-unit.ensures c.index.result.now c.index.ensures
    c.recounted.result 0 c.recounted.ensures in
    let tickets = c.take.ensures.others ∙ ap (λ (x : Command). known (without_ticket x.ticket i.tickets.entries) i.tickets.last i.tickets.room) same in
    let kept = c.remove-command.ensures.state ∙ ap (λ s. record i.kept { free = i.kept.free ++ s ∷ []; lists = map (without s) i.kept.lists }) (sym h.slot_is) in
    ap (λ (t : Known). commands_of t c.remove-command.new.self) tickets
    ∙ ap (commands_of (known (without_ticket (ticket_of h.cell) i.tickets.entries) i.tickets.last i.tickets.room)) kept
    ∙ forgets_shown i.tickets i.kept i.slots.items i.marked.items k.cells k.are h.cell h.there c.recounted.result (omega (arith, counted))
    ∙ ap (λ r. forgotten r (value i.tickets i.kept i.slots.items i.marked.items k.cells k.are)) h.is
    ∙ ap (forgotten c.args.request) (sym (shown i.tickets i.kept i.slots.items i.marked.items k.cells k.are) ∙ c.self.view_is)
