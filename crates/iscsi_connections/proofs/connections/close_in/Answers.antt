use Rattle.std.proofs.Common.{◌∙◌, set, ap, arith}
use Rattle.std.proofs.lemmas.List.Edits.{map_over_more}
use Rattle.iscsi_connections.specs.declared.connections.Connection.{Connection}
use Rattle.iscsi_connections.specs.Placed.{closed_in}
use Rattle.iscsi_connections.proofs.connections.close_in.Goals as goal

pub loop-place-preserved : goal.loop-place-preserved
loop-place-preserved c = record {
  items = ap (λ (x : Connection). set c.loop-place.list.items c.loop-place.place x) c.closed.ensures
      ∙ map_over_more (closed_in c.args.cid) c.args.list.now.items c.loop-place.list.items c.loop-place.place c.index.result.now (omega (arith, c.len-place-end.ensures, c.args.list.now.ok.0, c.loop-place-test.true)) c.loop-place.invariant.items c.index.ensures;
  len = c.loop-place.invariant.len;
}
