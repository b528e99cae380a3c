use Rattle.std.proofs.Common.{◌≡◌, ◌<◌, length, rules}
use Rattle.iscsi_threads.specs.rules.Outlets.{given, heard, outlet_rings}
use Rattle.iscsi_threads.proofs.Lists.{map_kept, map_grown}
use Rattle.iscsi_threads.proofs.ends.take_first_at.Goals as goal

pub returns : goal.returns
returns c =
    let x = c.index_mut.result.now in let y = c.take_first.new.self in let l = c.args.outlets.now.items in let i = c.args.at in
    let lt : i < length l = search rules in
    let is : x ≡ _ = c.index_mut.ensures.value in record {
      moved = λ t. let e = c.take_first.ensures.moved t in (e.0, e.1, map_grown given l i x y e.0 is lt e.2);
      count = c.take_first.ensures.count;
      stays = λ f. let e = c.take_first.ensures.stays f in (e.0, e.1, map_kept given l i x y is e.2);
      heard = map_kept heard l i x y is c.take_first.ensures.heard;
      rings = map_kept outlet_rings l i x y is c.take_first.ensures.rings;
      len = search rules;
    }
