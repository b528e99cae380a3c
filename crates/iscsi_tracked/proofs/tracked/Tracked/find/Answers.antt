use Rattle.std.proofs.Common.{◌∙◌, Some, option_map, ap, sym}
use Rattle.iscsi_tracked.specs.Tracked.{find_ticket}
use Rattle.iscsi_tracked.specs.Kept.{BLANK, command_at}
use Rattle.iscsi_tracked.proofs.TrackedLemmas.{found_ticket}
use Rattle.iscsi_tracked.proofs.StateLemmas.{found_there, high}
use Rattle.iscsi_tracked.proofs.tracked.Tracked.find.Goals as goal

pub returns-in_err-place : goal.returns-in_err-place
returns-in_err-place c =
    let i = c.self.inside in
    c.from_residual.ensures ∙ sym (ap (find_ticket c.args.ticket) (sym c.self.view_is) ∙ found_ticket i.kept i.tickets.entries c.self.invariant.each c.args.ticket ∙ ap (option_map (command_at i.kept.values)) (sym c.in_err-place.ensures))

pub at-requires : goal.at-requires
at-requires c =
    let i = c.self.inside in
    high i.tickets i.kept c.self.invariant c.known.ensures.apart c.in_ok-place.place (found_there i.tickets i.kept c.self.invariant c.known.ensures.apart c.args.ticket c.in_ok-place.place (sym c.in_ok-place.ensures))

pub returns : goal.returns
returns c =
    let i = c.self.inside in
    ap Some (c.at.ensures BLANK) ∙ sym (ap (find_ticket c.args.ticket) (sym c.self.view_is) ∙ found_ticket i.kept i.tickets.entries c.self.invariant.each c.args.ticket ∙ ap (option_map (command_at i.kept.values)) (sym c.in_ok-place.ensures))
