use Rattle.std.proofs.Common.{◌≡◌, ◌≤◌, ◌+◌, ◌∙◌, suc, true, length, map, set, Some, ap, sym, subst, arith}
use Rattle.iscsi_lists.specs.Lists.{Listed, times_in, with_last, without}
use Rattle.iscsi_tracked.specs.declared.command.Command.{Command}
use Rattle.iscsi_tracked.specs.Tracked.{Tracked, handed_out, has_place, with_out}
use Rattle.iscsi_tracked.specs.Kept.{AreTracked, BLANK, command_at, tracked_of}
use Rattle.iscsi_tracked.proofs.StateLemmas.{handed_are, handed_state, has_there, high}
use Rattle.iscsi_tracked.proofs.tracked.Tracked.hand_out.Goals as goal

pub at-command-requires : goal.at-command-requires
at-command-requires c =
    let i = c.self.inside in
    let there = has_there c.self.inside.tickets c.self.inside.kept c.self.invariant c.known.ensures.apart c.args.place (subst (λ (v : Tracked). has_place c.args.place v ≡ true) (sym c.self.view_is) c.requires) in
    high i.tickets i.kept c.self.invariant c.known.ensures.apart c.args.place there

pub set-requires : goal.set-requires
set-requires c =
    let i = c.self.inside in
    let there = has_there c.self.inside.tickets c.self.inside.kept c.self.invariant c.known.ensures.apart c.args.place (subst (λ (v : Tracked). has_place c.args.place v ≡ true) (sym c.self.view_is) c.requires) in
    high i.tickets i.kept c.self.invariant c.known.ensures.apart c.args.place there

pub overflow_add-from : goal.overflow_add-from
overflow_add-from c =
    let i = c.self.inside in
    let there = has_there c.self.inside.tickets c.self.inside.kept c.self.invariant c.known.ensures.apart c.args.place (subst (λ (v : Tracked). has_place c.args.place v ≡ true) (sym c.self.view_is) c.requires) in
    let conn = c.from.ensures ∙ ap (λ (x : Command). x.conn) (c.at-command.ensures BLANK) in
    let inside = c.self.invariant.conns c.args.place there in
    let short = c.known.ensures.short in
    omega (arith, conn, inside, short)

pub move_to_back-requires-clause-slot : goal.move_to_back-requires-clause-slot
move_to_back-requires-clause-slot c =
    let i = c.self.inside in
    let there = has_there c.self.inside.tickets c.self.inside.kept c.self.invariant c.known.ensures.apart c.args.place (subst (λ (v : Tracked). has_place c.args.place v ≡ true) (sym c.self.view_is) c.requires) in
    subst (λ (u : Listed Command). 1 ≤ times_in c.args.place u.lists) (sym c.set.ensures) there

pub move_to_back-requires-clause-list : goal.move_to_back-requires-clause-list
move_to_back-requires-clause-list c =
    let i = c.self.inside in
    let there = has_there c.self.inside.tickets c.self.inside.kept c.self.invariant c.known.ensures.apart c.args.place (subst (λ (v : Tracked). has_place c.args.place v ≡ true) (sym c.self.view_is) c.requires) in
    let conn = c.from.ensures ∙ ap (λ (x : Command). x.conn) (c.at-command.ensures BLANK) in
    let inside = c.self.invariant.conns c.args.place there in
    let long = ap (λ (u : Listed Command). length u.lists) c.set.ensures in
    omega (arith, conn, inside, long)

pub invariant_of-self : goal.invariant_of-self
invariant_of-self c =
    let i = c.self.inside in
    let there = has_there c.self.inside.tickets c.self.inside.kept c.self.invariant c.known.ensures.apart c.args.place (subst (λ (v : Tracked). has_place c.args.place v ≡ true) (sym c.self.view_is) c.requires) in
    let at : c.from.result + 1 ≡ suc (command_at i.kept.values c.args.place).conn = let conn = c.from.ensures ∙ ap (λ (x : Command). x.conn) (c.at-command.ensures BLANK) in omega (arith, conn) in
    let is = c.move_to_back.ensures.state
    ∙ ap (λ (u : Listed Command). record u { lists = with_last (c.from.result + 1) c.args.place (map (without c.args.place) u.lists) })
    (c.set.ensures ∙ ap (λ (x : Command). record i.kept { values = set i.kept.values c.args.place (with_out (Some c.args.stamp) x) }) (c.at-command.ensures BLANK))
    ∙ ap (λ n. record i.kept { values = set i.kept.values c.args.place (with_out (Some c.args.stamp) (command_at i.kept.values c.args.place)); lists = with_last n c.args.place (map (without c.args.place) i.kept.lists) }) at in
    subst (AreTracked i.tickets) (sym is) (handed_are i.tickets i.kept c.self.invariant c.known.ensures.apart c.args.place there c.known.ensures.values c.args.stamp)

pub returns : goal.returns
returns c =
    let i = c.self.inside in
    let there = has_there c.self.inside.tickets c.self.inside.kept c.self.invariant c.known.ensures.apart c.args.place (subst (λ (v : Tracked). has_place c.args.place v ≡ true) (sym c.self.view_is) c.requires) in
    let at : c.from.result + 1 ≡ suc (command_at i.kept.values c.args.place).conn = let conn = c.from.ensures ∙ ap (λ (x : Command). x.conn) (c.at-command.ensures BLANK) in omega (arith, conn) in
    let is = c.move_to_back.ensures.state
    ∙ ap (λ (u : Listed Command). record u { lists = with_last (c.from.result + 1) c.args.place (map (without c.args.place) u.lists) })
    (c.set.ensures ∙ ap (λ (x : Command). record i.kept { values = set i.kept.values c.args.place (with_out (Some c.args.stamp) x) }) (c.at-command.ensures BLANK))
    ∙ ap (λ n. record i.kept { values = set i.kept.values c.args.place (with_out (Some c.args.stamp) (command_at i.kept.values c.args.place)); lists = with_last n c.args.place (map (without c.args.place) i.kept.lists) }) at in
    ap (tracked_of i.tickets) is ∙ handed_state i.tickets i.kept c.self.invariant c.known.ensures.apart c.args.place there c.known.ensures.values c.args.stamp ∙ ap (handed_out c.args.place c.args.stamp) c.self.view_is
