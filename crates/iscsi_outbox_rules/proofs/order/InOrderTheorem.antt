-- On a connection replies that didn't have to wait go out in the log's order.
use Rattle.std.proofs.Common.{◌≡◌, ℕ, ◌==◌, cond, true, false, List, [], ◌∷◌, ◌++◌, map, Some, None, refl, ap, sym, subst, ◌∙◌}
use Rattle.std.proofs.lemmas.List.{append_assoc}
use Rattle.iscsi_rules.specs.declared.effect.Effect.{Effect}
use Rattle.iscsi_outbox_rules.specs.rules.Calls.{Opening, Call, Nexts}
use Rattle.iscsi_outbox_rules.specs.rules.Boxes.{Outgoing, Handed, Link, Box}
use Rattle.iscsi_outbox_rules.specs.rules.Handing.{taken_from}
use Rattle.iscsi_outbox_rules.specs.rules.Run.{after_call, answered}
use Rattle.iscsi_outbox_rules.specs.promises.Deeds.{Deed, deeds_of, items_in, handed_on, FollowsSession}
use Rattle.iscsi_outbox_rules.specs.promises.Scope.{Sent, nth, sent_by, sent_as, aim_of_sent}
use Rattle.iscsi_outbox_rules.specs.promises.Once.{GoesInOrder}
use Rattle.iscsi_outbox_rules.proofs.general.EachLemmas.{each-first_of}
use Rattle.iscsi_outbox_rules.proofs.general.Cuts.{Handing, at_handing}
use Rattle.iscsi_outbox_rules.proofs.general.Chosen.{Chosen, chosen_from}
use Rattle.iscsi_outbox_rules.proofs.general.DeedLemmas.{items_in-append, handed_on-append, some_on}
use Rattle.iscsi_outbox_rules.proofs.general.FirstLemmas.{firsts, firsts-append, nth-first}
use Rattle.iscsi_outbox_rules.proofs.general.FoundLemmas.{found-conn}
use Rattle.iscsi_outbox_rules.proofs.order.SentLemmas.{one_reply_before, sent_by-firsts}
use Rattle.iscsi_outbox_rules.proofs.general.SortedLemmas.{SortedBy, sorted-at}
use Rattle.iscsi_outbox_rules.proofs.order.PlaceRuns.{Placed, PlacesStand, places_kept, place_starts}
use Rattle.iscsi_outbox_rules.proofs.general.Boxwise.{box_keeps}
use Rattle.iscsi_outbox_rules.proofs.order.LineRuns.{went_at_once, place_of, Before, LinesStand, Lines, line_boxes, line_starts, handed_line}

record Stand (o : Opening) (all : List (List Effect)) (ds : List Deed) (b : Box) : Type 0 where
  places : PlacesStand ds b
  lines : Lines o all (items_in ds) b

kept : (o : Opening) (all : List (List Effect)) (ds : List Deed) (b : Box) (c : Call) → Stand o all ds b → Stand o all (ds ++ (c, answered o b c) ∷ []) (after_call o b c)
kept o all ds b c h = record { places = places_kept o ds b c h.places; lines = box_keeps o PlacesStand (Lines o all) (line_boxes o all) ds b c h.places h.lines }

-- a reply that was sent as something that has no aim has a place in the order
place_in_all : (o : Opening) (cs : List Call) (before after : List Deed) (out : Outgoing) (p : ℕ) (s : Sent) → FollowsSession o cs → before ++ after ≡ deeds_of o cs
    → out.sent ≡ Some p → sent_as (items_in before) out ≡ Some s → aim_of_sent o s ≡ None → place_of o (items_in (deeds_of o cs)) out.sent ≡ Some p
place_in_all o cs before after out p s follows whole sent shown none =
    let items : List (List Effect) = items_in before in
    let now : nth p (firsts items) ≡ Some s =
    sym (ap (λ x. elim x [ Some place ↦ nth place (sent_by items) | None ↦ None ]) sent ∙ ap (nth p) (sent_by-firsts items (one_reply_before o cs before after whole follows))) ∙ shown in
    let more = firsts-append items (items_in after) in
    let later : nth p (firsts (items_in (deeds_of o cs))) ≡ Some s =
    ap (λ ds. nth p (firsts (items_in ds))) (sym whole) ∙ ap (λ its. nth p (firsts its)) (items_in-append before after) ∙ ap (nth p) more.1 ∙ nth-first p (firsts items) more.0 s now in
    ap (place_of o (items_in (deeds_of o cs))) sent
    ∙ ap (λ v. cond v (Some p) None) (ap (went_at_once o (items_in (deeds_of o cs))) later ∙ ap (λ x. elim x [ Some about ↦ false | None ↦ true ]) none)

pub goes_in_order : (o : Opening) (cs : List Call) → FollowsSession o cs → GoesInOrder o (deeds_of o cs)
goes_in_order o cs follows before between after deed later c h g place behind s r whole shown shown_later at at_later sent sent_later none none_later =
    sorted-at (Before o all) (map (λ (x : Handed). x.out) (handed_on c before)) (map (λ (x : Handed). x.out) (handed_on c between)) (taken_from out link).queue h.out g.out
    (subst (SortedBy (Before o all)) whole_line sorted) place behind
    (place_in_all o cs before (deed ∷ (between ++ later ∷ after)) h.out place s follows whole at sent none)
    (place_in_all o cs since (later ∷ after) g.out behind r follows whole_since at_later sent_later none_later)
  where
    all : List (List Effect)
    all = items_in (deeds_of o cs)

    since : List Deed
    since = before ++ deed ∷ between

    whole_since : since ++ later ∷ after ≡ deeds_of o cs
    whole_since = append_assoc before (deed ∷ between) (later ∷ after) ∙ whole

    m : (b : Box) × Stand o all since b × Handing o b c g × (later ≡ (Nexts c, answered o b (Nexts c)))
    m = at_handing o cs (Stand o all) (kept o all) (record { places = place_starts o; lines = line_starts o all }) since after later c g whole_since shown_later

    b : Box
    b = m.0

    n : Handing o b c g
    n = m.2

    link : Link
    link = n.link

    out : Outgoing
    out = n.out

    from : Chosen o b link out
    from = chosen_from o b link out n.chosen_is

    at_conn : link.conn ≡ c
    at_conn = found-conn c b.links link n.found

    placed : Placed since (items_in since) link
    placed = each-first_of (Placed since (items_in since)) (λ (l : Link). l.conn == c) b.links link n.found m.1.places.links

    stands : LinesStand o all (items_in since) b
    stands = m.1.lines (items_in (later ∷ after)) (sym (items_in-append since (later ∷ after)) ∙ ap items_in whole_since)

    sorted : SortedBy (Before o all) (map (λ (x : Handed). x.out) (link.handed ++ g ∷ []) ++ (taken_from out link).queue)
    sorted = (handed_line o all b link out g (items_in since) b.sent (ap (λ (x : Handed). x.out) n.is) from placed.waits (stands.lines c link n.found)).0

    went : link.handed ≡ handed_on c before ++ h ∷ handed_on c between
    went =
        placed.handed ∙ ap (λ e. handed_on e since) at_conn ∙ handed_on-append c before (deed ∷ between)
        ∙ ap (λ hs. handed_on c before ++ hs) (handed_on-append c (deed ∷ []) between ∙ ap (λ hs. hs ++ handed_on c between) (some_on c deed h shown))

    parts : (xs ys : List Handed) (zs : List Outgoing) → map (λ (x : Handed). x.out) ((xs ++ h ∷ ys) ++ g ∷ []) ++ zs ≡ map (λ (x : Handed). x.out) xs ++ h.out ∷ (map (λ (x : Handed). x.out) ys ++ g.out ∷ zs)
    parts [] [] zs = refl
    parts [] (y ∷ ys) zs = ap (λ rest. h.out ∷ y.out ∷ rest) (tail ys)
      where
        tail : (us : List Handed) → map (λ (x : Handed). x.out) (us ++ g ∷ []) ++ zs ≡ map (λ (x : Handed). x.out) us ++ g.out ∷ zs
        tail [] = refl
        tail (u ∷ us) = ap (λ rest. u.out ∷ rest) (tail us)
    parts (x ∷ xs) ys zs = ap (λ rest. x.out ∷ rest) (parts xs ys zs)

    whole_line : map (λ (x : Handed). x.out) (link.handed ++ g ∷ []) ++ (taken_from out link).queue ≡ map (λ (x : Handed). x.out) (handed_on c before) ++ h.out ∷ (map (λ (x : Handed). x.out) (handed_on c between) ++ g.out ∷ (taken_from out link).queue)
    whole_line = ap (λ hs. map (λ (x : Handed). x.out) (hs ++ g ∷ []) ++ (taken_from out link).queue) went ∙ parts (handed_on c before) (handed_on c between) (taken_from out link).queue
