use Rattle.std.proofs.Common.{None, arith}
use Rattle.std.proofs.lemmas.Bool.Decides.{nat_tests}
use Rattle.iscsi_commands.specs.Log.{IsLivePlace}
use Rattle.iscsi_commands.proofs.LogLemmas.{found_ticket, live_within, no_ticket, same_ticket}
use Rattle.iscsi_commands.proofs.live_commands.LiveCommands.find_located.Goals as goal

pub returns-then-not-entry_at-clause-command : goal.returns-then-not-entry_at-clause-command
returns-then-not-entry_at-clause-command c =
    let log = c.self.inside.log.items in
    let none : IsLivePlace log c.args.ticket None = λ k live is. grind (arith, nat_tests, same_ticket log c.self.invariant.ascending k c.from-hint.result, live_within log k live) in
    grind (arith, nat_tests, no_ticket, none)

pub returns-then-is_at-clause-command : goal.returns-then-is_at-clause-command
returns-then-is_at-clause-command c = grind (arith, nat_tests, found_ticket)

pub returns-in_err-place-clause-command : goal.returns-in_err-place-clause-command
returns-in_err-place-clause-command c = grind (arith, nat_tests, no_ticket)

pub returns-clause-command : goal.returns-clause-command
returns-clause-command c = grind (arith, nat_tests, found_ticket)
