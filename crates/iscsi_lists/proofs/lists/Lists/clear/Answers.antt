use Rattle.std.proofs.lemmas.List.{length-set}
use Rattle.iscsi_lists.specs.Lists.{Listed}
use Rattle.std.proofs.Common.{[], ◌∙◌, ap, sym, length}
use Rattle.std.specs.Option.{is_some}
use Rattle.std.proofs.lemmas.Bool.{both_ways}
use Rattle.iscsi_lists.proofs.ClearLemmas.{clearing, shorter, ends, not_some}
use Rattle.iscsi_lists.proofs.lists.Lists.clear.Goals as goal

pub loop-smaller : goal.loop-smaller
loop-smaller g c = shorter c.args.self.now c.args.list c.loop.self c.loop.invariant
    (λ e. both_ways c.is_some.result (c.is_some.ensures ∙ ap is_some (c.pop_front.ensures.none e)) c.loop-test.true) c.pop_front.new.self c.pop_front.ensures.state

pub loop-preserved : goal.loop-preserved
loop-preserved g c = clearing c.args.self.now c.args.list c.loop.self c.loop.invariant
    (λ e. both_ways c.is_some.result (c.is_some.ensures ∙ ap is_some (c.pop_front.ensures.none e)) c.loop-test.true) c.pop_front.new.self c.pop_front.ensures.state

pub returns-clause-state : goal.returns-clause-state
returns-clause-state g c =
    let e = c.pop_front.ensures.empty (not_some c.pop_front.result (sym c.is_some.ensures ∙ c.loop-test.false)) in
    c.pop_front.ensures.unchanged e ∙ ends c.args.self.now c.args.list c.loop.self c.loop.invariant e

pub returns-clause-count : goal.returns-clause-count
returns-clause-count g c = ap (λ (u : Listed g.row.T.Denot). length u.lists) (returns-clause-state g c) ∙ length-set c.args.self.now.lists c.args.list []
