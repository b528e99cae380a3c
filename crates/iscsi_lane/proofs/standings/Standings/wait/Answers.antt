use Rattle.std.proofs.Common.{◌∙◌, ◌+◌, ◌<◌, ◌++◌, ◌∷◌, [], map, refl, ap, sym, subst, arith}
use Rattle.std.specs.Option.{is_some}
use Rattle.iscsi_lists.specs.Lists.{with_last, without}
use Rattle.iscsi_lists.proofs.WithoutLemmas.{length_without}
use Rattle.iscsi_outbox_state.specs.declared.lane.Standing.TheVariants.{Undue as IsUndue}
use Rattle.iscsi_outbox_state.specs.Lane.{Lane, count_in, with_items}
use Rattle.iscsi_lane.specs.Standings.{is_undue, slots_at}
use Rattle.iscsi_lane.proofs.StandLemmas.{is_behind, one_at_most}
use Rattle.iscsi_lane.proofs.LaneLemmas.{at_once, at_within, come_lane, come_view, few_numbered, few_waiting, first_there, only_at, some_first, some_free}
use Rattle.iscsi_lane.proofs.standings.Standings.wait.Goals as goal

pub unwrap-slot-requires : goal.unwrap-slot-requires
unwrap-slot-requires c =
    let i = c.self.inside in
    let lane = c.self.invariant.lane in
    let known = c.known.ensures.apart in
    let fewer = subst (λ (v : Lane). count_in is_undue v < v.answers) (sym c.self.view_is) c.requires in
    ap is_some c.first.ensures.slot ∙ some_first (slots_at i.log 1) (some_free i.log i.conns i.commands i.answers i.owing i.waiting i.numbered lane known fewer)

pub join-requires-clause-none : goal.join-requires-clause-none
join-requires-clause-none c =
    let i = c.self.inside in
    let slot = c.unwrap-slot.result in
    let there = first_there slot (slots_at i.log 1) (sym c.first.ensures.slot ∙ c.unwrap-slot.ensures) in
    only_at i.log i.commands c.self.invariant.lane.standing c.known.ensures.apart 1 slot 2 there (λ e. omega (arith, e))

pub overflow_add-self : goal.overflow_add-self
overflow_add-self c =
    let i = c.self.inside in
    let lane = c.self.invariant.lane in
    let known = c.known.ensures.apart in
    let a = few_waiting i.log i.conns i.commands i.answers i.owing i.waiting i.numbered lane known in let b = c.known.ensures.short in omega (arith, a, b)

pub overflow_add-self-2 : goal.overflow_add-self-2
overflow_add-self-2 c =
    let i = c.self.inside in
    let lane = c.self.invariant.lane in
    let known = c.known.ensures.apart in
    let a = few_numbered i.log i.conns i.commands i.answers i.owing i.waiting i.numbered lane known in
    let b = one_at_most c.args.answer.numbered in let d = c.one_if.ensures in let e = c.known.ensures.short in omega (arith, a, b, d, e)

pub invariant_of-self : goal.invariant_of-self
invariant_of-self c =
    let i = c.self.inside in
    let lane = c.self.invariant.lane in
    let known = c.known.ensures.apart in
    let slot = c.unwrap-slot.result in
    let there = first_there slot (slots_at i.log 1) (sym c.first.ensures.slot ∙ c.unwrap-slot.ensures) in
    let within = at_within i.log i.commands lane.standing known 1 slot there in
    let none = only_at i.log i.commands lane.standing known 1 slot 2 there (λ e. omega (arith, e)) in
    let behind = is_behind i.commands slot (slots_at i.log 1) there lane.standing.behind in
    let fewer = length_without slot (slots_at i.log 1) in
    let once = at_once i.log i.commands lane.standing known 1 slot in
    record {
      lane = come_lane i.log i.conns i.commands i.answers i.owing i.waiting i.numbered lane known c.known.ensures.values slot (IsUndue c.args.answer) (record i.log { lists = with_last 2 slot (map (without slot) i.log.lists) }) c.join.new.log
          refl c.join.ensures.log within none behind
          i.owing (i.waiting + 1) (i.numbered + c.one_if.result) (omega arith) refl (ap (λ n. i.numbered + n) c.one_if.ensures) (let b = lane.rest in omega (arith, fewer, once, there, b));
      lined = c.join.ensures.lined;
    }

pub returns : goal.returns
returns c =
    let i = c.self.inside in
    let lane = c.self.invariant.lane in
    let known = c.known.ensures.apart in
    let slot = c.unwrap-slot.result in
    let there = first_there slot (slots_at i.log 1) (sym c.first.ensures.slot ∙ c.unwrap-slot.ensures) in
    let within = at_within i.log i.commands lane.standing known 1 slot there in
    let none = only_at i.log i.commands lane.standing known 1 slot 2 there (λ e. omega (arith, e)) in
    let behind = is_behind i.commands slot (slots_at i.log 1) there lane.standing.behind in
    come_view i.log i.conns i.commands i.answers i.owing i.waiting i.numbered lane known c.known.ensures.values slot (IsUndue c.args.answer) (record i.log { lists = with_last 2 slot (map (without slot) i.log.lists) }) c.join.new.log
    refl c.join.ensures.log within none behind
    ∙ ap (λ (v : Lane). with_items v (v.items ++ IsUndue c.args.answer ∷ [])) c.self.view_is
