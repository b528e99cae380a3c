use Rattle.std.proofs.Common.{◌≡◌, ◌∙◌, false, sym, ap}
use Rattle.iscsi_outbox.specs.rules.Words.{has_closed}
use Rattle.iscsi_ffi_steps.specs.Walk.{Doing}
use Rattle.iscsi_ffi_desk.proofs.EndLemmas.{none_closed}
use Rattle.iscsi_ffi_desk.proofs.desk.Desk.tell_closed.Goals as goal

pub returns-else-has_closed : goal.returns-else-has_closed
returns-else-has_closed c =
    let now = c.args.self.now in
    let none : has_closed now.state.outbox ≡ false = ap (λ (d : Doing). has_closed d.state.outbox) (sym c.self.view_is) ∙ sym c.has_closed.ensures ∙ c.if-has_closed.false in
    sym (none_closed 0 now.state.outbox.limits.cids now none)
