use Rattle.std.proofs.Common.{◌≡◌, ◌≤◌, ◌∙◌, true, map, set, None, ap, sym, subst}
use Rattle.iscsi_lists.specs.Lists.{Listed, times_in, with_last, without}
use Rattle.iscsi_tracked.specs.declared.command.Command.{Command}
use Rattle.iscsi_tracked.specs.Tracked.{Tracked, arrived, has_place, with_out}
use Rattle.iscsi_tracked.specs.Kept.{AreTracked, BLANK, tracked_of}
use Rattle.iscsi_tracked.proofs.StateLemmas.{arrived_are, arrived_state, has_there, high}
use Rattle.iscsi_tracked.proofs.tracked.Tracked.arrive.Goals as goal

pub at-command-requires : goal.at-command-requires
at-command-requires c =
    let i = c.self.inside in
    let there = has_there c.self.inside.tickets c.self.inside.kept c.self.invariant c.known.ensures.apart c.args.place (subst (λ (v : Tracked). has_place c.args.place v ≡ true) (sym c.self.view_is) c.requires) in
    high i.tickets i.kept c.self.invariant c.known.ensures.apart c.args.place there

pub set-requires : goal.set-requires
set-requires c =
    let i = c.self.inside in
    let there = has_there c.self.inside.tickets c.self.inside.kept c.self.invariant c.known.ensures.apart c.args.place (subst (λ (v : Tracked). has_place c.args.place v ≡ true) (sym c.self.view_is) c.requires) in
    high i.tickets i.kept c.self.invariant c.known.ensures.apart c.args.place there

pub move_to_back-requires-clause-slot : goal.move_to_back-requires-clause-slot
move_to_back-requires-clause-slot c =
    let i = c.self.inside in
    let there = has_there c.self.inside.tickets c.self.inside.kept c.self.invariant c.known.ensures.apart c.args.place (subst (λ (v : Tracked). has_place c.args.place v ≡ true) (sym c.self.view_is) c.requires) in
    subst (λ (u : Listed Command). 1 ≤ times_in c.args.place u.lists) (sym c.set.ensures) there

pub invariant_of-self : goal.invariant_of-self
invariant_of-self c =
    let i = c.self.inside in
    let there = has_there c.self.inside.tickets c.self.inside.kept c.self.invariant c.known.ensures.apart c.args.place (subst (λ (v : Tracked). has_place c.args.place v ≡ true) (sym c.self.view_is) c.requires) in
    let is = c.move_to_back.ensures.state
    ∙ ap (λ (u : Listed Command). record u { lists = with_last 0 c.args.place (map (without c.args.place) u.lists) })
    (c.set.ensures ∙ ap (λ (x : Command). record i.kept { values = set i.kept.values c.args.place (with_out None x) }) (c.at-command.ensures BLANK)) in
    subst (AreTracked i.tickets) (sym is) (arrived_are i.tickets i.kept c.self.invariant c.known.ensures.apart c.args.place there c.known.ensures.values)

pub returns : goal.returns
returns c =
    let i = c.self.inside in
    let there = has_there c.self.inside.tickets c.self.inside.kept c.self.invariant c.known.ensures.apart c.args.place (subst (λ (v : Tracked). has_place c.args.place v ≡ true) (sym c.self.view_is) c.requires) in
    let is = c.move_to_back.ensures.state
    ∙ ap (λ (u : Listed Command). record u { lists = with_last 0 c.args.place (map (without c.args.place) u.lists) })
    (c.set.ensures ∙ ap (λ (x : Command). record i.kept { values = set i.kept.values c.args.place (with_out None x) }) (c.at-command.ensures BLANK)) in
    ap (tracked_of i.tickets) is ∙ arrived_state i.tickets i.kept c.self.invariant c.known.ensures.apart c.args.place there c.known.ensures.values ∙ ap (arrived c.args.place) c.self.view_is
