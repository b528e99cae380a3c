use Rattle.std.proofs.Common.{◌≡◌, ◌∙◌, ◌+◌, ◌≤◌, ◌++◌, ◌∷◌, [], false, refl, ap, length, sym, subst, arith}
use Rattle.iscsi_lists.proofs.WithoutLemmas.{without_none}
use Rattle.iscsi_outbox_state.specs.declared.lane.Standing.TheVariants.{Left as IsLeft}
use Rattle.iscsi_outbox_state.specs.Lane.{Lane, any_in, is_command, with_items}
use Rattle.iscsi_lane.specs.Standings.{slots_at}
use Rattle.iscsi_lane.proofs.StandLemmas.{not_behind}
use Rattle.iscsi_lane.proofs.LaneLemmas.{come_lane, come_view, few_owing, in_lists, not_there}
use Rattle.iscsi_lane.proofs.standings.Standings.leave.Goals as goal

pub enter-requires-clause-none : goal.enter-requires-clause-none
enter-requires-clause-none c =
    let i = c.self.inside in
    let slot = c.args.left.command in
    let within = subst (λ (v : Lane). slot ≤ v.commands) (sym c.self.view_is) c.requires.within in
    let none = subst (λ (v : Lane). any_in (is_command slot) v ≡ false) (sym c.self.view_is) c.requires.none in
    not_there i.log i.commands c.self.invariant.lane.standing c.known.ensures.apart slot within none

pub move_to_back-requires-clause-slot : goal.move_to_back-requires-clause-slot
move_to_back-requires-clause-slot c =
    let i = c.self.inside in
    let lane = c.self.invariant.lane in
    let known = c.known.ensures.apart in
    let within = subst (λ (v : Lane). c.args.left.command ≤ v.commands) (sym c.self.view_is) c.requires.within in
    in_lists i.log i.commands lane.standing known c.args.left.command c.requires.some (let a = lane.standing.most in omega (arith, a, within))

pub set-requires : goal.set-requires
set-requires c =
    let i = c.self.inside in
    let lane = c.self.invariant.lane in
    let known = c.known.ensures.apart in
    let within = subst (λ (v : Lane). c.args.left.command ≤ v.commands) (sym c.self.view_is) c.requires.within in
    let a = lane.standing.most in let b = ap (λ u. u.room) c.move_to_back.ensures.state in omega (arith, a, b, within)

pub overflow_add-self : goal.overflow_add-self
overflow_add-self c =
    let i = c.self.inside in
    let lane = c.self.invariant.lane in
    let known = c.known.ensures.apart in
    let a = few_owing i.log i.conns i.commands i.answers i.owing i.waiting i.numbered lane known in let b = c.known.ensures.short in omega (arith, a, b)

pub invariant_of-self : goal.invariant_of-self
invariant_of-self c =
    let i = c.self.inside in
    let lane = c.self.invariant.lane in
    let known = c.known.ensures.apart in
    let slot = c.args.left.command in
    let within = subst (λ (v : Lane). slot ≤ v.commands) (sym c.self.view_is) c.requires.within in
    let none = subst (λ (v : Lane). any_in (is_command slot) v ≡ false) (sym c.self.view_is) c.requires.none in
    let gone = without_none slot (slots_at i.log 1) (not_behind i.commands slot (slots_at i.log 1) within lane.standing.behind) in
    record {
      lane = come_lane i.log i.conns i.commands i.answers i.owing i.waiting i.numbered lane known c.known.ensures.values slot (IsLeft c.args.left) c.move_to_back.new.self c.set.new.self
          c.move_to_back.ensures.state c.set.ensures (let a = lane.standing.most in omega (arith, a, within)) (not_there i.log i.commands lane.standing known slot within none) (refl, (within, c.requires.owes))
          (i.owing + 1) i.waiting i.numbered refl (omega arith) (omega arith) (let a = ap length gone in let b = lane.rest in omega (arith, a, b));
      lined = c.enter.ensures c.move_to_back.new.self c.set.new.self c.move_to_back.ensures.state c.set.ensures;
    }

pub returns : goal.returns
returns c =
    let i = c.self.inside in
    let lane = c.self.invariant.lane in
    let known = c.known.ensures.apart in
    let slot = c.args.left.command in
    let within = subst (λ (v : Lane). slot ≤ v.commands) (sym c.self.view_is) c.requires.within in
    let none = subst (λ (v : Lane). any_in (is_command slot) v ≡ false) (sym c.self.view_is) c.requires.none in
    come_view i.log i.conns i.commands i.answers i.owing i.waiting i.numbered lane known c.known.ensures.values slot (IsLeft c.args.left) c.move_to_back.new.self c.set.new.self
    c.move_to_back.ensures.state c.set.ensures (let a = lane.standing.most in omega (arith, a, within)) (not_there i.log i.commands lane.standing known slot within none) (refl, (within, c.requires.owes))
    ∙ ap (λ (v : Lane). with_items v (v.items ++ IsLeft c.args.left ∷ [])) c.self.view_is
