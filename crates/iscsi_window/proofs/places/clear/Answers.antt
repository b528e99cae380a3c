use Rattle.std.proofs.Common.{◌≡◌, ◌<◌, arith, ap, length, is_some, Some, None}
use Rattle.iscsi_window.specs.Received.{is_held}
use Rattle.iscsi_window.proofs.TagLemmas.{put_counted}
use Rattle.iscsi_window.proofs.BoundLemmas.{bounds_cleared}
use Rattle.iscsi_window.proofs.ReceivedLemmas.{one, one_most, count_set}
use Rattle.iscsi_window.proofs.LabelLemmas.{labels_put}
use Rattle.iscsi_window.proofs.FilledLemmas.{filled_cleared}
use Rattle.iscsi_window.proofs.places.clear.Goals as goal

pub invariant_of-places : goal.invariant_of-places
invariant_of-places c =
    let i = c.places.inside in
    let within : c.args.k < length i.ring = omega (arith, c.if-k-len.false, c.len.ensures) in
    let s = c.places.invariant.sound in
    rw c.empty.ensures (record {
      sound = record {
        tags = rw (c.lower.ensures, c.get-place.ensures) (put_counted i.tags i.ring c.args.k (Some None) s.tags within);
        lowest = rw (c.vacate.ensures, c.saturating_add-number.ensures) (bounds_cleared i.bounds i.turned i.ring c.args.k s.lowest within _);
        as_many = let more = count_set is_some i.ring c.args.k (Some None) within in let before = ap (one is_some) c.get-place.ensures in let counted : c.count.result ≡ one is_some c.get-place.result.now = c.count.ensures in omega (arith, more, before, counted, one_most is_some c.get-place.result.now, s.as_many);
        held_are = let more = count_set is_held i.ring c.args.k (Some None) within in let before = ap (one is_held) c.get-place.ensures in let counted : c.count_held.result ≡ one is_held c.get-place.result.now = c.count_held.ensures in omega (arith, more, before, counted, s.held_are);
      };
      labels = labels_put i.labels i.turned i.ring c.args.k (Some None) c.places.invariant.labels s.tags.few within;
      filled = filled_cleared i.filled i.turned i.ring c.args.k c.places.invariant.filled within;
    })
