use Rattle.std.proofs.Common.{◌<◌, ◌∙◌, ◌++◌, [], ◌∷◌, length, set, ap, sym, subst}
use Rattle.std.specs.Prelude.{unwrap_or}
use Rattle.iscsi_lists.specs.Lists.{Listed, with_last, without}
use Rattle.iscsi_tickets.specs.Tickets.{Known, known}
use Rattle.iscsi_tracked.specs.declared.command.Command.{Command}
use Rattle.iscsi_tracked.specs.Tracked.{Tracked, as_command, entered}
use Rattle.iscsi_tracked.specs.Kept.{AreTracked, tracked_of}
use Rattle.iscsi_tracked.proofs.StateLemmas.{entered_are, entered_state}
use Rattle.iscsi_tracked.proofs.tracked.Tracked.enter.Goals as goal

pub invariant_of-self : goal.invariant_of-self
invariant_of-self c =
    let i = c.self.inside in
    let p = c.push_back-place in
    let slot = p.result in
    let conn = subst (λ (v : Tracked). c.args.command.conn < length v.trails) (sym c.self.view_is) c.requires.conn in
    let above = subst (λ (v : Tracked). v.last < c.args.command.ticket) (sym c.self.view_is) c.requires.newest in
    let same = ap (λ o. unwrap_or o 0) (sym c.free_slot-free.ensures ∙ p.ensures.slot) in
    let is = p.ensures.state
    ∙ ap (λ (x : Command). record i.kept { free = without slot i.kept.free; lists = with_last 0 slot i.kept.lists; values = set i.kept.values slot x }) (c.at.ensures ∙ ap (as_command c.args.command) same) in
    subst (λ (t : Known). AreTracked t p.new.self) (sym c.push.ensures)
    (subst (AreTracked (known (i.tickets.entries ++ (c.args.command.ticket, slot) ∷ []) c.args.command.ticket i.tickets.room)) (sym is)
    (entered_are i.tickets i.kept c.self.invariant c.known-2.ensures.apart c.args.command slot p.ensures.fresh p.ensures.slot c.known-2.ensures.values conn c.known.ensures.newest above))

pub returns-clause-state : goal.returns-clause-state
returns-clause-state c =
    let i = c.self.inside in
    let p = c.push_back-place in
    let slot = p.result in
    let conn = subst (λ (v : Tracked). c.args.command.conn < length v.trails) (sym c.self.view_is) c.requires.conn in
    let above = subst (λ (v : Tracked). v.last < c.args.command.ticket) (sym c.self.view_is) c.requires.newest in
    let same = ap (λ o. unwrap_or o 0) (sym c.free_slot-free.ensures ∙ p.ensures.slot) in
    let is = p.ensures.state
    ∙ ap (λ (x : Command). record i.kept { free = without slot i.kept.free; lists = with_last 0 slot i.kept.lists; values = set i.kept.values slot x }) (c.at.ensures ∙ ap (as_command c.args.command) same) in
    ap (λ (t : Known). tracked_of t p.new.self) c.push.ensures
    ∙ ap (tracked_of (known (i.tickets.entries ++ (c.args.command.ticket, slot) ∷ []) c.args.command.ticket i.tickets.room)) is
    ∙ entered_state i.tickets i.kept c.self.invariant c.known-2.ensures.apart c.args.command slot p.ensures.fresh p.ensures.slot c.known-2.ensures.values conn c.known.ensures.newest above ∙ ap (entered c.args.command slot) c.self.view_is
