use Rattle.std.proofs.Common.{[], ap, sym}
use Rattle.iscsi_outbox_state.specs.Lane.{with_items}
use Rattle.iscsi_lane.proofs.CountLemmas.{due_none}
use Rattle.iscsi_lane.proofs.lane.take_unless_settled.Goals as goal

pub returns-then-settled-clause-state : goal.returns-then-settled-clause-state
returns-then-settled-clause-state c =
    let v = c.args.standings.now in
    ap (with_items v) (sym (due_none [] v.items (c.requires c.if-settled.true)))
