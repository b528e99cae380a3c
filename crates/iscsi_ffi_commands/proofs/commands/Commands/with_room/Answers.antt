use Rattle.std.proofs.Common.{ℕ, ◌+◌, List, [], replicate, sym, subst}
use Rattle.iscsi_lists.specs.Lists.{Listed, counted}
use Rattle.iscsi_tickets.specs.Tickets.{Known, known}
use Rattle.iscsi_ffi_commands.specs.declared.command.Command.{Command}
use Rattle.iscsi_ffi_commands.specs.Kept.{AreKept, BLANK}
use Rattle.iscsi_ffi_commands.proofs.ChangeLemmas.{opened_are}
use Rattle.iscsi_ffi_commands.proofs.commands.Commands.with_room.Goals as goal

pub invariant_of-result : goal.invariant_of-result
invariant_of-result c =
    let kept : Listed Command = record { free = counted 1 c.args.room; lists = replicate c.args.units []; room = c.args.room; values = replicate (c.args.room + 1) BLANK } in
    subst (λ (t : Known). AreKept t c.in_ok-with_room-2.field-0 c.in_ok-zeros.field-0.items c.in_ok-zeros-2.field-0.items) (sym c.in_ok-with_room.ensures)
    (subst (λ (u : Listed Command). AreKept (known [] 0 c.args.room) u c.in_ok-zeros.field-0.items c.in_ok-zeros-2.field-0.items) (sym c.in_ok-with_room-2.ensures)
    (subst (λ (ns : List ℕ). AreKept (known [] 0 c.args.room) kept ns c.in_ok-zeros-2.field-0.items) (sym c.in_ok-zeros.ensures)
    (subst (AreKept (known [] 0 c.args.room) kept (replicate (c.args.room + 1) 0)) (sym c.in_ok-zeros-2.ensures)
    (record { cells = []; are = opened_are c.args.room c.args.units }))))
