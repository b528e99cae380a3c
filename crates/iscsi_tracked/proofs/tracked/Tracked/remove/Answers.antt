use Rattle.std.proofs.Common.{◌≡◌, ◌∙◌, true, ap, sym, subst}
use Rattle.iscsi_tickets.specs.Tickets.{Known, known, without_ticket}
use Rattle.iscsi_tracked.specs.declared.command.Command.{Command}
use Rattle.iscsi_tracked.specs.Tracked.{Tracked, has_place, removed}
use Rattle.iscsi_tracked.specs.Kept.{AreTracked, BLANK, command_at, tracked_of}
use Rattle.iscsi_tracked.proofs.StateLemmas.{has_there, removed_are, removed_state}
use Rattle.iscsi_tracked.proofs.tracked.Tracked.remove.Goals as goal

pub remove-command-requires : goal.remove-command-requires
remove-command-requires c =
    let i = c.self.inside in
    let there = has_there c.self.inside.tickets c.self.inside.kept c.self.invariant c.known-2.ensures.apart c.args.place (subst (λ (v : Tracked). has_place c.args.place v ≡ true) (sym c.self.view_is) c.requires) in
    there

pub invariant_of-self : goal.invariant_of-self
invariant_of-self c =
    let i = c.self.inside in
    let there = has_there c.self.inside.tickets c.self.inside.kept c.self.invariant c.known-2.ensures.apart c.args.place (subst (λ (v : Tracked). has_place c.args.place v ≡ true) (sym c.self.view_is) c.requires) in
    let ticket = ap (λ (x : Command). x.ticket) (c.remove-command.ensures.value BLANK) in
    let ist = c.take.ensures.others ∙ ap (λ n. known (without_ticket n i.tickets.entries) i.tickets.last i.tickets.room) ticket in
    subst (λ (t : Known). AreTracked t c.remove-command.new.self) (sym ist)
    (subst (AreTracked (known (without_ticket (command_at i.kept.values c.args.place).ticket i.tickets.entries) i.tickets.last i.tickets.room)) (sym c.remove-command.ensures.state)
    (removed_are i.tickets i.kept c.self.invariant c.known-2.ensures.apart c.args.place there c.known.ensures.ascending))

pub returns : goal.returns
returns c =
    let i = c.self.inside in
    let there = has_there c.self.inside.tickets c.self.inside.kept c.self.invariant c.known-2.ensures.apart c.args.place (subst (λ (v : Tracked). has_place c.args.place v ≡ true) (sym c.self.view_is) c.requires) in
    let ticket = ap (λ (x : Command). x.ticket) (c.remove-command.ensures.value BLANK) in
    let ist = c.take.ensures.others ∙ ap (λ n. known (without_ticket n i.tickets.entries) i.tickets.last i.tickets.room) ticket in
    ap (λ (t : Known). tracked_of t c.remove-command.new.self) ist
    ∙ ap (tracked_of (known (without_ticket (command_at i.kept.values c.args.place).ticket i.tickets.entries) i.tickets.last i.tickets.room)) c.remove-command.ensures.state
    ∙ removed_state i.tickets i.kept c.self.invariant c.known-2.ensures.apart c.args.place there c.known.ensures.ascending ∙ ap (removed c.args.place) c.self.view_is
