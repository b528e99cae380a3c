use Rattle.std.proofs.Common.{◌≡◌, ◌<◌, ◌∙◌, sym, length, position, Some, None, arith}
use Rattle.std.proofs.lemmas.List.Quantifiers.{position-Some}
use Rattle.iscsi_rules.proofs.general.PlaceLemmas.{found_there, found_nowhere}
use Rattle.iscsi_threads.specs.rules.Desks.{is_for}
use Rattle.iscsi_threads.proofs.DeskLemmas.{some_job}
use Rattle.iscsi_threads.proofs.desk.Desk.take.Goals as goal

pub returns-in_err-at-clause-job : goal.returns-in_err-at-clause-job
returns-in_err-at-clause-job c =
    let none : position (is_for c.args.ticket) c.args.self.now.dormant.items ≡ None = sym c.place_of.ensures ∙ c.in_err-at.was in
    c.from_residual.ensures ∙ sym (found_nowhere (is_for c.args.ticket) c.args.self.now.dormant.items none)

pub returns-clause-job : goal.returns-clause-job
returns-clause-job c =
    let js = c.args.self.now.dormant.items in let at = c.in_ok-at.at in
    let found : position (is_for c.args.ticket) js ≡ Some at = sym c.place_of.ensures ∙ c.in_ok-at.was in
    let within : at < length js = (position-Some (is_for c.args.ticket) js at some_job found).0 in
    c.remove.ensures.succeeds some_job (omega (arith, within, c.args.self.now.dormant.ok.0)) ∙ sym (found_there (is_for c.args.ticket) js at some_job found)
