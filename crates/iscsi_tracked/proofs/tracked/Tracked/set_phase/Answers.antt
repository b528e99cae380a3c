use Rattle.std.proofs.Common.{◌≡◌, ◌∙◌, true, set, ap, sym, subst}
use Rattle.iscsi_tracked.specs.declared.command.Command.{Command}
use Rattle.iscsi_tracked.specs.Tracked.{Tracked, has_place, in_phase, to_phase}
use Rattle.iscsi_tracked.specs.Kept.{AreTracked, BLANK, tracked_of}
use Rattle.iscsi_tracked.proofs.StateLemmas.{has_there, high, phased_are, phased_state}
use Rattle.iscsi_tracked.proofs.tracked.Tracked.set_phase.Goals as goal

pub at-command-requires : goal.at-command-requires
at-command-requires c =
    let i = c.self.inside in
    high i.tickets i.kept c.self.invariant c.known.ensures.apart c.args.place
    (has_there i.tickets i.kept c.self.invariant c.known.ensures.apart c.args.place (subst (λ (v : Tracked). has_place c.args.place v ≡ true) (sym c.self.view_is) c.requires))

pub set-requires : goal.set-requires
set-requires c =
    let i = c.self.inside in
    high i.tickets i.kept c.self.invariant c.known.ensures.apart c.args.place
    (has_there i.tickets i.kept c.self.invariant c.known.ensures.apart c.args.place (subst (λ (v : Tracked). has_place c.args.place v ≡ true) (sym c.self.view_is) c.requires))

pub invariant_of-self : goal.invariant_of-self
invariant_of-self c =
    let i = c.self.inside in
    let there = has_there i.tickets i.kept c.self.invariant c.known.ensures.apart c.args.place (subst (λ (v : Tracked). has_place c.args.place v ≡ true) (sym c.self.view_is) c.requires) in
    let is = c.set.ensures ∙ ap (λ (x : Command). record i.kept { values = set i.kept.values c.args.place (to_phase c.args.phase x) }) (c.at-command.ensures BLANK) in
    subst (AreTracked i.tickets) (sym is) (phased_are i.tickets i.kept c.self.invariant c.known.ensures.apart c.args.place there c.known.ensures.values c.args.phase)

pub returns : goal.returns
returns c =
    let i = c.self.inside in
    let there = has_there i.tickets i.kept c.self.invariant c.known.ensures.apart c.args.place (subst (λ (v : Tracked). has_place c.args.place v ≡ true) (sym c.self.view_is) c.requires) in
    let is = c.set.ensures ∙ ap (λ (x : Command). record i.kept { values = set i.kept.values c.args.place (to_phase c.args.phase x) }) (c.at-command.ensures BLANK) in
    ap (tracked_of i.tickets) is
    ∙ phased_state i.tickets i.kept c.self.invariant c.known.ensures.apart c.args.place there c.known.ensures.values c.args.phase
    ∙ ap (in_phase c.args.phase c.args.place) c.self.view_is
