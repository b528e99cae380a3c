use Rattle.std.proofs.Common.{ap, sym, ◌∙◌}
use Rattle.iscsi_ffi_commands.specs.Commands.{find_ticket}
use Rattle.iscsi_ffi_desk.specs.Courses.{entering}
use Rattle.iscsi_ffi_desk.proofs.EnterLemmas.{entered_found, may_late}
use Rattle.iscsi_ffi_desk.proofs.desk.Desk.enter.Goals as goal

pub returns-clause-entered : goal.returns-clause-entered
returns-clause-entered c = λ some.
    let command = entering c.args.ticket c.in-Some.request c.args.unit c.args.attr in
    let commands = c.self.inside.commands in
    ap (find_ticket c.args.ticket) c.enter.ensures
    ∙ entered_found command commands c.known.ensures (may_late command commands (sym c.may_enter.ensures ∙ c.if-not-may_enter.false))
