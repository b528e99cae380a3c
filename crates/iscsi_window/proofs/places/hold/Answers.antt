use Rattle.std.proofs.Common.{arith, min, ◌+◌, ◌-◌, ◌<◌, ◌^◌, ◌≡◌, length, is_some, Some, None, get_or, ap, set, subst, sym}
use Rattle.std.proofs.lemmas.Bool.Decides.{nat_tests}
use Rattle.iscsi_wire.specs.Fields.{itt as tag_of}
use Rattle.iscsi_window.specs.declared.held_request.HeldRequest.{HeldRequest}
use Rattle.iscsi_window.specs.PlaceTags.{Placed}
use Rattle.iscsi_window.specs.Received.{is_held}
use Rattle.iscsi_window.specs.FilledSlots.{IsSlotSet}
use Rattle.iscsi_window.proofs.PlaceLemmas.{none_there}
use Rattle.iscsi_window.proofs.TagLemmas.{raised_counted}
use Rattle.iscsi_window.proofs.BoundLemmas.{bounds_filled}
use Rattle.iscsi_window.proofs.ReceivedLemmas.{one, count_set}
use Rattle.iscsi_window.proofs.LabelLemmas.{labels_put}
use Rattle.iscsi_window.proofs.FilledLemmas.{filled_put}
use Rattle.iscsi_window.proofs.places.hold.Goals as goal

pub invariant_of-places-2 : goal.invariant_of-places-2
invariant_of-places-2 c =
    let i = c.places.inside in
    let h : HeldRequest = record { request = c.args.request.now; event = c.args.event } in
    let within : c.args.k < length i.ring = subst (λ (b : Placed). c.args.k < length b.items) (sym c.places.view_is) c.requires in
    let free : get_or i.ring c.args.k None ≡ None = none_there (get_or i.ring c.args.k None) (grind (arith, nat_tests)) in
    let filled : c.hold.new.self ≡ set i.ring c.args.k (Some (Some h)) = rw free at c.hold.ensures.state in
    let s = c.places.invariant.sound in
    let tag : c.itt-itt.result ≡ tag_of h.request = c.itt-itt.ensures in
    rw filled (record {
      sound = record {
        tags = rw (c.raise.ensures, tag) (raised_counted i.tags i.ring c.args.k (Some (Some h)) s.tags within free);
        lowest = rw (c.occupy.ensures, c.saturating_add-number.ensures, c.is_none-is_only.ensures, tag)
            (bounds_filled i.tags i.bounds i.turned i.ring c.args.k (Some (Some h)) s.tags s.lowest within);
        as_many = let more = count_set is_some i.ring c.args.k (Some (Some h)) within in let before = ap (one is_some) free in omega (arith, more, before, s.as_many);
        held_are = let more = count_set is_held i.ring c.args.k (Some (Some h)) within in let before = ap (one is_held) free in omega (arith, more, before, s.held_are);
      };
      labels = rw (c.put.ensures, c.saturating_add-number.ensures, tag) (labels_put i.labels i.turned i.ring c.args.k (Some (Some h)) c.places.invariant.labels s.tags.few within);
      filled =
          let set : IsSlotSet i.filled c.set.new.self (min (i.turned + c.args.k) (2 ^ 64 - 1)) 1 = rw c.saturating_add-number.ensures at c.set.ensures in
          filled_put i.filled c.set.new.self i.turned i.ring c.args.k (Some (Some h)) c.places.invariant.filled set s.tags.few within;
    })
