use Rattle.std.proofs.Common.{◌≡◌, ◌∙◌, true, Some, ap, sym, subst}
use Rattle.iscsi_tracked.specs.declared.command.Command.{Command}
use Rattle.iscsi_tracked.specs.Tracked.{Tracked, find_place, has_place}
use Rattle.iscsi_tracked.specs.Kept.{BLANK}
use Rattle.iscsi_tracked.proofs.StateLemmas.{find_there, has_there, high, place_here}
use Rattle.iscsi_tracked.proofs.tracked.Tracked.at.Goals as goal

pub at-requires : goal.at-requires
at-requires c =
    let i = c.self.inside in
    let there = has_there c.self.inside.tickets c.self.inside.kept c.self.invariant c.known.ensures.apart c.args.place (subst (λ (v : Tracked). has_place c.args.place v ≡ true) (sym c.self.view_is) c.requires) in
    high i.tickets i.kept c.self.invariant c.known.ensures.apart c.args.place there

pub returns-clause-found : goal.returns-clause-found
returns-clause-found c =
    let i = c.self.inside in
    let there = has_there c.self.inside.tickets c.self.inside.kept c.self.invariant c.known.ensures.apart c.args.place (subst (λ (v : Tracked). has_place c.args.place v ≡ true) (sym c.self.view_is) c.requires) in
    ap (find_place c.args.place) (sym c.self.view_is) ∙ find_there i.tickets i.kept c.self.invariant c.known.ensures.apart c.args.place there ∙ ap Some (sym (c.at.ensures BLANK))

pub returns-clause-place : goal.returns-clause-place
returns-clause-place c =
    let i = c.self.inside in
    let there = has_there c.self.inside.tickets c.self.inside.kept c.self.invariant c.known.ensures.apart c.args.place (subst (λ (v : Tracked). has_place c.args.place v ≡ true) (sym c.self.view_is) c.requires) in
    ap (λ (x : Command). x.place) (c.at.ensures BLANK) ∙ place_here i.tickets i.kept c.self.invariant c.known.ensures.apart c.args.place there
