use Rattle.std.proofs.Common.{◌∙◌, false, [], ap, sym, subst}
use Rattle.std.proofs.lemmas.Bool.{false≢true}
use Rattle.iscsi_outbox_state.specs.Lane.{due_behind, not_running}
use Rattle.iscsi_lane.specs.Counting.{IsKept}
use Rattle.iscsi_lane.proofs.CountLemmas.{is_no_command, none_less}
use Rattle.iscsi_lane.proofs.CountedLemmas.{stopped_counted}
use Rattle.iscsi_lane.proofs.lane.Lane.stop.Goals as goal

pub invariant_of-self : goal.invariant_of-self
invariant_of-self c =
    let i = c.self.inside in
    let none = sym c.stop.ensures.command ∙ is_no_command c.stop.result c.if-is_none.ensures in
    subst (λ v. IsKept v i.under_way.items i.going_out.items i.settled) (sym c.stop.ensures.state)
    (record {
      counted = stopped_counted i.standings i.under_way.items i.going_out.items c.self.invariant.counted c.args.command;
      none_due = λ e. ap (due_behind []) (none_less not_running i.standings.commands c.args.command i.standings.items c.known.ensures.apart none) ∙ c.self.invariant.none_due e;
    })

pub invariant_of-self-2 : goal.invariant_of-self-2
invariant_of-self-2 c =
    let i = c.self.inside in
    subst (λ v. IsKept v i.under_way.items i.going_out.items false) (sym c.stop.ensures.state)
    (record {
      counted = stopped_counted i.standings i.under_way.items i.going_out.items c.self.invariant.counted c.args.command;
      none_due = λ e. absurd (false≢true e);
    })
