use Rattle.std.proofs.Common.{◌∙◌, ◌-◌, ◌≤◌, Some, ap, sym, subst, arith}
use Rattle.iscsi_slots.specs.Slots.{times}
use Rattle.iscsi_outbox_state.specs.Lane.{Lane, not_running, stopped}
use Rattle.iscsi_lane.specs.Standings.{items_in, left_in, slots_at}
use Rattle.iscsi_lane.proofs.StandLemmas.{left_none}
use Rattle.iscsi_lane.proofs.LaneLemmas.{found_left_in, less_lane, less_owing, less_view, none_view}
use Rattle.iscsi_lane.proofs.standings.Standings.stop.Goals as goal

pub returns-in_err-left-clause-command : goal.returns-in_err-left-clause-command
returns-in_err-left-clause-command c =
    let i = c.self.inside in
    c.from_residual.ensures ∙ sym (left_none c.args.command (items_in i.log) c.in_err-left.ensures) ∙ ap (λ (v : Lane). left_in c.args.command v.items) c.self.view_is

pub returns-in_err-left-clause-state : goal.returns-in_err-left-clause-state
returns-in_err-left-clause-state c =
    let i = c.self.inside in
    let lane = c.self.invariant.lane in
    let known = c.known.ensures.apart in
    sym c.self.view_is ∙ none_view i.log i.conns i.commands i.answers i.owing i.waiting i.numbered lane known c.known.ensures.values not_running c.args.command c.in_err-left.ensures
    ∙ ap (stopped c.args.command) c.self.view_is

pub owe_less-requires-clause-there : goal.owe_less-requires-clause-there
owe_less-requires-clause-there c =
    let i = c.self.inside in
    let lane = c.self.invariant.lane in
    let known = c.known.ensures.apart in
    let found = c.in_ok-left.ensures in
    subst (λ k. 1 ≤ times k (slots_at i.log 2)) (sym found.1.1.0) found.0

pub overflow_sub-self : goal.overflow_sub-self
overflow_sub-self c =
    let i = c.self.inside in
    let lane = c.self.invariant.lane in
    let known = c.known.ensures.apart in
    less_owing i.log i.conns i.commands i.answers i.owing i.waiting i.numbered lane known c.known.ensures.values not_running c.args.command c.in_ok-left.left c.in_ok-left.ensures
    c.owe_less.new.log c.owe_less.result c.in_ok-left.ensures.1.1.0 c.owe_less.ensures.kept c.owe_less.ensures.gone

pub invariant_of-self : goal.invariant_of-self
invariant_of-self c =
    let i = c.self.inside in
    let lane = c.self.invariant.lane in
    let known = c.known.ensures.apart in
    let few = less_owing i.log i.conns i.commands i.answers i.owing i.waiting i.numbered lane known c.known.ensures.values not_running c.args.command c.in_ok-left.left c.in_ok-left.ensures
    c.owe_less.new.log c.owe_less.result c.in_ok-left.ensures.1.1.0 c.owe_less.ensures.kept c.owe_less.ensures.gone in
    record {
      lane = less_lane i.log i.conns i.commands i.answers i.owing i.waiting i.numbered lane known c.known.ensures.values not_running c.args.command c.in_ok-left.left c.in_ok-left.ensures
          c.owe_less.new.log c.owe_less.result c.in_ok-left.ensures.1.1.0 c.owe_less.ensures.kept c.owe_less.ensures.gone (i.owing - c.owe_less.result) (omega (arith, few));
      lined = c.owe_less.ensures.lined;
    }

pub returns-clause-command : goal.returns-clause-command
returns-clause-command c =
    let i = c.self.inside in
    found_left_in i.log i.commands c.args.command c.self.invariant.lane.standing (Some c.in_ok-left.left) c.in_ok-left.ensures ∙ ap (λ (v : Lane). left_in c.args.command v.items) c.self.view_is

pub returns-clause-state : goal.returns-clause-state
returns-clause-state c =
    let i = c.self.inside in
    let lane = c.self.invariant.lane in
    let known = c.known.ensures.apart in
    less_view i.log i.conns i.commands i.answers i.owing i.waiting i.numbered lane known c.known.ensures.values not_running c.args.command c.in_ok-left.left c.in_ok-left.ensures
    c.owe_less.new.log c.owe_less.result c.in_ok-left.ensures.1.1.0 c.owe_less.ensures.kept c.owe_less.ensures.gone
    ∙ ap (stopped c.args.command) c.self.view_is
