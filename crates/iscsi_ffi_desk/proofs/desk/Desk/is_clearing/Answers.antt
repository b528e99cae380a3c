use Rattle.std.proofs.Common.{◌≡◌, ◌≤◌, nat_lt, false, sym, ap, ◌∙◌, arith}
use Rattle.std.proofs.lemmas.Bool.Decides.{nat_tests}
use Rattle.iscsi_ffi_commands.specs.Commands.{is_clearing}
use Rattle.iscsi_ffi_steps.specs.Walk.{Doing}
use Rattle.iscsi_ffi_desk.proofs.AskLemmas.{no_clearing}
use Rattle.iscsi_ffi_desk.proofs.desk.Desk.is_clearing.Goals as goal

pub returns-else-from-units : goal.returns-else-from-units
returns-else-from-units c =
    let past : c.self.inside.commands.units ≤ c.args.unit = omega arith in
    let not_below : nat_lt c.from.result c.units.result ≡ false = grind (arith, nat_tests) in
    not_below ∙ sym (ap (λ (d : Doing). is_clearing c.args.unit d.state.commands) (sym c.self.view_is) ∙ no_clearing c.args.unit c.self.inside.commands c.known.ensures past)
