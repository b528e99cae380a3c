use Rattle.std.proofs.Common.{◌≡◌, ◌<◌, ◌≤◌, false, length, set, sym, subst}
use Rattle.std.proofs.lemmas.Bool.{false≢true}
use Rattle.iscsi_lane.specs.Counting.{IsKept}
use Rattle.iscsi_lane.proofs.CountedLemmas.{dropped_counted}
use Rattle.iscsi_lane.proofs.lane.Lane.drop_on.Goals as goal

pub invariant_of-self : goal.invariant_of-self
invariant_of-self c =
    let i = c.self.inside in
    subst (λ v. IsKept v i.under_way.items c.forget.new.counts.items false) (sym c.drop_on.ensures)
    (record {
      counted = dropped_counted i.standings i.under_way.items i.going_out.items c.self.invariant.counted c.args.conn c.forget.new.counts.items
          (λ l. subst (λ k. k < length i.going_out.items → c.forget.new.counts.items ≡ set i.going_out.items k 0) c.from.ensures c.forget.ensures.here l)
          (λ l. subst (λ k. length i.going_out.items ≤ k → c.forget.new.counts.items ≡ i.going_out.items) c.from.ensures c.forget.ensures.past l);
      none_due = λ e. absurd (false≢true e);
    })
