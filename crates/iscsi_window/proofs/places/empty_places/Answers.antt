use Rattle.std.proofs.Common.{is_some, refl}
use Rattle.iscsi_window.specs.Received.{is_held}
use Rattle.iscsi_window.proofs.TagLemmas.{opened_counted}
use Rattle.iscsi_window.proofs.BoundLemmas.{opened_bounds}
use Rattle.iscsi_window.proofs.PlaceLemmas.{none_pass}
use Rattle.iscsi_window.proofs.LabelLemmas.{opened_labels}
use Rattle.iscsi_window.proofs.FilledLemmas.{none_filled}
use Rattle.iscsi_window.proofs.places.empty_places.Goals as goal

pub invariant_of-result : goal.invariant_of-result
invariant_of-result c = record {
  sound = record {
    tags = rw (c.in_ok-tags.ensures, c.in_ok-ring.ensures) (opened_counted c.args.size c.requires.most);
    lowest = rw (c.in_ok-bounds.ensures, c.in_ok-ring.ensures) (opened_bounds c.args.size);
    as_many = rw c.in_ok-ring.ensures (none_pass is_some refl c.args.size);
    held_are = rw c.in_ok-ring.ensures (none_pass is_held refl c.args.size);
  };
  labels = rw (c.in_ok-labels.ensures, c.in_ok-ring.ensures) (opened_labels c.args.size);
  filled = rw (c.new.ensures, c.in_ok-ring.ensures) (none_filled c.args.size);
}
