use Rattle.std.proofs.Common.{◌∙◌, ap, get_or}
use Rattle.std.specs.Prelude.{nat_lt}
use Rattle.iscsi_outbox_state.specs.Lane.{Lane, count_in, is_under_way_on}
use Rattle.iscsi_lane.proofs.CountedLemmas.{some_under_way}
use Rattle.iscsi_lane.proofs.lane.Lane.under_way_on.Goals as goal

pub returns : goal.returns
returns c =
    let i = c.self.inside in
    c.is_some_at.ensures ∙ ap (λ counts. nat_lt 0 (get_or counts c.args.conn 0)) c.deref.ensures.value
    ∙ some_under_way i.standings i.under_way.items i.going_out.items c.self.invariant.counted c.args.conn
    ∙ ap (λ (v : Lane). nat_lt 0 (count_in (is_under_way_on c.args.conn) v)) c.self.view_is
