use Rattle.std.proofs.Common.{◌∙◌, ap, get_or}
use Rattle.std.specs.Prelude.{nat_lt}
use Rattle.iscsi_outbox_state.specs.Lane.{Lane, any_in, goes_out_on}
use Rattle.iscsi_lane.proofs.CountedLemmas.{some_going_out}
use Rattle.iscsi_lane.proofs.lane.Lane.waits_on.Goals as goal

pub returns : goal.returns
returns c =
    let i = c.self.inside in
    c.is_some_at.ensures ∙ ap (λ counts. nat_lt 0 (get_or counts c.args.conn 0)) c.deref.ensures.value
    ∙ some_going_out i.standings i.under_way.items i.going_out.items c.self.invariant.counted c.args.conn
    ∙ ap (λ (v : Lane). any_in (goes_out_on c.args.conn) v) c.self.view_is
