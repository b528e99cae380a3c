use Rattle.std.proofs.Common.{◌∙◌, ◌-◌, [], ap, sym, subst, arith}
use Rattle.iscsi_lists.specs.Lists.{Listed}
use Rattle.iscsi_outbox_state.specs.declared.lane.Standing.{Standing}
use Rattle.iscsi_outbox_state.specs.Lane.{first_due, with_items, without_due}
use Rattle.iscsi_lane.specs.Standings.{IsLane, items_in, lane_of}
use Rattle.iscsi_lane.proofs.GoingLemmas.{some_numbered, some_waiting, taken_lane}
use Rattle.iscsi_lane.proofs.WalkLemmas.{none_waits}
use Rattle.iscsi_lane.proofs.standings.Standings.take_due.Goals as goal

pub returns-then-self-eq0-clause-answer : goal.returns-then-self-eq0-clause-answer
returns-then-self-eq0-clause-answer c =
    let i = c.self.inside in
    sym (none_waits [] (items_in i.log) (sym c.self.invariant.lane.undue ∙ c.if-self-eq0.true)).0 ∙ ap first_due c.self.view_is

pub returns-then-self-eq0-clause-state : goal.returns-then-self-eq0-clause-state
returns-then-self-eq0-clause-state c =
    let i = c.self.inside in
    sym c.self.view_is
    ∙ ap (with_items (lane_of i.log i.conns i.commands i.answers)) (sym (none_waits [] (items_in i.log) (sym c.self.invariant.lane.undue ∙ c.if-self-eq0.true)).1)
    ∙ ap without_due c.self.view_is

pub overflow_sub-self-2 : goal.overflow_sub-self-2
overflow_sub-self-2 c =
    let i = c.self.inside in
    let found = c.in_ok-_slot.ensures.first in
    let a = some_numbered i.log i.commands i.answers i.owing i.waiting i.numbered c.self.invariant.lane c.known.ensures.apart c.in_ok-_slot._slot c.in_ok-_slot.answer found.there found.is c.take.new.log c.in_ok-_slot.ensures.log in
    let b = c.one_if.ensures in omega (arith, a, b)

pub invariant_of-self : goal.invariant_of-self
invariant_of-self c =
    let i = c.self.inside in
    record {
      lane = subst (λ (u : Listed Standing). IsLane u i.commands i.answers i.owing i.waiting i.numbered) (sym c.in_err-_slot.ensures.log) c.self.invariant.lane;
      lined = c.in_err-_slot.ensures.lined;
    }

pub invariant_of-self-2 : goal.invariant_of-self-2
invariant_of-self-2 c =
    let i = c.self.inside in
    let found = c.in_ok-_slot.ensures.first in
    let a = some_numbered i.log i.commands i.answers i.owing i.waiting i.numbered c.self.invariant.lane c.known.ensures.apart c.in_ok-_slot._slot c.in_ok-_slot.answer found.there found.is c.take.new.log c.in_ok-_slot.ensures.log in
    let d = some_waiting i.log i.commands i.answers i.owing i.waiting i.numbered c.self.invariant.lane c.known.ensures.apart c.in_ok-_slot._slot c.in_ok-_slot.answer found.there found.is c.take.new.log c.in_ok-_slot.ensures.log in
    let b = c.one_if.ensures in
    record {
      lane = taken_lane i.log i.commands i.answers i.owing i.waiting i.numbered c.self.invariant.lane c.known.ensures.apart c.in_ok-_slot._slot c.in_ok-_slot.answer found.there found.is c.take.new.log c.in_ok-_slot.ensures.log
          (i.waiting - 1) (i.numbered - c.one_if.result) (omega (arith, d)) (omega (arith, a, b));
      lined = c.in_ok-_slot.ensures.lined;
    }
