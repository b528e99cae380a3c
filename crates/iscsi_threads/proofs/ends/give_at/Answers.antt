use Rattle.std.proofs.Common.{◌≡◌, ◌<◌, length, rules}
use Rattle.iscsi_threads.specs.rules.Outlets.{given, heard, outlet_rings}
use Rattle.iscsi_threads.proofs.Lists.{map_kept, map_grown, on_ok, if_err}
use Rattle.iscsi_threads.proofs.ends.give_at.Goals as goal

pub returns : goal.returns
returns c =
    let x = c.index_mut.result.now in let y = c.give.new.self in let l = c.args.outlets.now.items in let i = c.args.at in
    let lt : i < length l = search rules in
    let is : x ≡ _ = c.index_mut.ensures.value in record {
      ok = on_ok c.give.result c.give.ensures.ok (map_grown given l i x y c.args.job is lt);
      err = if_err c.give.result c.give.ensures.err (λ back same. (same.0, map_kept given l i x y is same.1));
      heard = map_kept heard l i x y is c.give.ensures.heard;
      rings = map_kept outlet_rings l i x y is c.give.ensures.rings;
      len = search rules;
    }
