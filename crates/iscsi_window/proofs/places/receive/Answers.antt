use Rattle.std.proofs.Common.{arith, min, ◌+◌, ◌-◌, ◌<◌, ◌^◌, ◌≡◌, ◌∙◌, length, is_some, Some, None, get_or, ap, subst, sym}
use Rattle.iscsi_window.specs.PlaceTags.{Placed}
use Rattle.iscsi_window.specs.FilledSlots.{IsSlotSet}
use Rattle.iscsi_window.proofs.PlaceLemmas.{none_there}
use Rattle.iscsi_window.proofs.TagLemmas.{raised_counted}
use Rattle.iscsi_window.proofs.BoundLemmas.{bounds_filled}
use Rattle.iscsi_window.specs.Received.{is_held}
use Rattle.iscsi_window.proofs.ReceivedLemmas.{one, count_set}
use Rattle.iscsi_window.proofs.LabelLemmas.{labels_put}
use Rattle.iscsi_window.proofs.FilledLemmas.{filled_put}
use Rattle.iscsi_window.proofs.places.receive.Goals as goal

pub invariant_of-places : goal.invariant_of-places
invariant_of-places c =
    let i = c.places.inside in
    let within : c.args.k < length i.ring = subst (λ (b : Placed). c.args.k < length b.items) (sym c.places.view_is) c.requires in
    let free : get_or i.ring c.args.k None ≡ None = sym c.get.ensures ∙ none_there c.get.result.now c.if-is_new.ensures in
    let s = c.places.invariant.sound in
    rw c.empty.ensures (record {
      sound = record {
        tags = raised_counted i.tags i.ring c.args.k (Some None) s.tags within free;
        lowest = bounds_filled i.tags i.bounds i.turned i.ring c.args.k (Some None) s.tags s.lowest within;
        as_many = let more = count_set is_some i.ring c.args.k (Some None) within in let before = ap (one is_some) free in omega (arith, more, before, s.as_many);
        held_are = let more = count_set is_held i.ring c.args.k (Some None) within in let before = ap (one is_held) free in omega (arith, more, before, s.held_are);
      };
      labels = labels_put i.labels i.turned i.ring c.args.k (Some None) c.places.invariant.labels s.tags.few within;
      filled =
          let set : IsSlotSet i.filled c.set.new.self (min (i.turned + c.args.k) (2 ^ 64 - 1)) 1 = rw c.saturating_add-number.ensures at c.set.ensures in
          filled_put i.filled c.set.new.self i.turned i.ring c.args.k (Some None) c.places.invariant.filled set s.tags.few within;
    })
