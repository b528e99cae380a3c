use Rattle.std.proofs.Common.{false, sym, subst}
use Rattle.std.proofs.lemmas.Bool.{false≢true}
use Rattle.iscsi_lane.specs.Counting.{IsKept}
use Rattle.iscsi_lane.proofs.CountedLemmas.{cleared_counted}
use Rattle.iscsi_lane.proofs.lane.Lane.clear.Goals as goal

pub invariant_of-self : goal.invariant_of-self
invariant_of-self c =
    let i = c.self.inside in
    subst (λ v. IsKept v i.under_way.items i.going_out.items false) (sym c.clear.ensures)
    (record {
      counted = cleared_counted i.standings i.under_way.items i.going_out.items c.self.invariant.counted c.args.unit;
      none_due = λ e. absurd (false≢true e);
    })
