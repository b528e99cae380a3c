use Rattle.std.proofs.Common.{◌∙◌, sym, ap}
use Rattle.iscsi_ffi_steps.specs.Steps.{write_on}
use Rattle.iscsi_ffi_steps.specs.Walk.{Doing}
use Rattle.iscsi_ffi_desk.specs.contracts.desk.Desk.{the_view}
use Rattle.iscsi_ffi_desk.proofs.CallLemmas.{nothing_written}
use Rattle.iscsi_ffi_desk.proofs.desk.Desk.write_oldest.Goals as goal

pub returns-in_default : goal.returns-in_default
returns-in_default c =
    nothing_written c.args.conn (the_view c.self.inside) c.pop.new.self c.pop.ensures.state (sym c.pop.ensures.answer ∙ c.in_default.is)
    ∙ ap (λ (d : Doing). write_on c.args.conn d) c.self.view_is
