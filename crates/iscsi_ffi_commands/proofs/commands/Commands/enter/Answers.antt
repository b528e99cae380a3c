use Rattle.std.proofs.Common.{◌≡◌, ◌∙◌, ◌++◌, [], ◌∷◌, true, set, ap, sym, subst}
use Rattle.iscsi_lists.specs.Lists.{Listed, with_last, without}
use Rattle.iscsi_tickets.specs.Tickets.{Known, known}
use Rattle.iscsi_ffi_commands.specs.declared.command.Command.{Command}
use Rattle.iscsi_ffi_commands.specs.Commands.{Commands, entered, may_enter}
use Rattle.iscsi_ffi_commands.specs.Kept.{AreKept, commands_of, marks}
use Rattle.iscsi_ffi_commands.proofs.StateLemmas.{shown}
use Rattle.iscsi_ffi_commands.proofs.KnownLemmas.{may_parts}
use Rattle.iscsi_ffi_commands.proofs.ChangeLemmas.{enters_kept, enters_shown, free_slot}
use Rattle.iscsi_ffi_commands.proofs.commands.Commands.enter.Goals as goal

pub push_back-slot-requires-clause-room : goal.push_back-slot-requires-clause-room
push_back-slot-requires-clause-room c =
    let i = c.self.inside in
    let k = c.self.invariant in
    let e = may_parts i.tickets i.kept i.slots.items i.marked.items k.cells k.are c.args.command
    (subst (λ (v : Commands). may_enter c.args.command v ≡ true) (sym c.self.view_is ∙ shown i.tickets i.kept i.slots.items i.marked.items k.cells k.are) c.requires.may) in
    free_slot i.tickets i.kept i.slots.items i.marked.items k.cells k.are c.known-2.ensures.apart c.args.command e

pub invariant_of-self : goal.invariant_of-self
invariant_of-self c =
    let i = c.self.inside in
    let k = c.self.invariant in
    let p = c.push_back-slot in
    let e = may_parts i.tickets i.kept i.slots.items i.marked.items k.cells k.are c.args.command
    (subst (λ (v : Commands). may_enter c.args.command v ≡ true) (sym c.self.view_is ∙ shown i.tickets i.kept i.slots.items i.marked.items k.cells k.are) c.requires.may) in
    let is = p.ensures.state
    ∙ ap (λ n. record i.kept { free = without p.result i.kept.free; lists = with_last n p.result i.kept.lists; values = set i.kept.values p.result c.args.command }) c.from.ensures in
    let slots = set i.slots.items c.args.command.request p.result in
    subst (λ (t : Known). AreKept t p.new.self slots i.marked.items) (sym c.push.ensures)
    (subst (λ (u : Listed Command). AreKept (known (i.tickets.entries ++ (c.args.command.ticket, p.result) ∷ []) c.args.command.ticket i.tickets.room) u slots i.marked.items) (sym is)
    (enters_kept i.tickets i.kept i.slots.items i.marked.items k.cells k.are c.known-2.ensures.apart c.args.command e
    p.result p.ensures.fresh p.ensures.slot c.known-2.ensures.values c.known.ensures.newest (ap marks c.requires.stage)))

pub returns : goal.returns
returns c =
    let i = c.self.inside in
    let k = c.self.invariant in
    let p = c.push_back-slot in
    let e = may_parts i.tickets i.kept i.slots.items i.marked.items k.cells k.are c.args.command
    (subst (λ (v : Commands). may_enter c.args.command v ≡ true) (sym c.self.view_is ∙ shown i.tickets i.kept i.slots.items i.marked.items k.cells k.are) c.requires.may) in
    let is = p.ensures.state
    ∙ ap (λ n. record i.kept { free = without p.result i.kept.free; lists = with_last n p.result i.kept.lists; values = set i.kept.values p.result c.args.command }) c.from.ensures in
    ap (λ (t : Known). commands_of t p.new.self) c.push.ensures
    ∙ ap (commands_of (known (i.tickets.entries ++ (c.args.command.ticket, p.result) ∷ []) c.args.command.ticket i.tickets.room)) is
    ∙ enters_shown i.tickets i.kept i.slots.items i.marked.items k.cells k.are c.known-2.ensures.apart c.args.command e
    p.result p.ensures.fresh p.ensures.slot c.known-2.ensures.values c.known.ensures.newest (ap marks c.requires.stage)
    ∙ ap (entered c.args.command) (sym (shown i.tickets i.kept i.slots.items i.marked.items k.cells k.are) ∙ c.self.view_is)
