-- On all connections replies that didn't have to wait entered their queues in the log's order.
use Rattle.std.proofs.Common.{◌≡◌, ℕ, ⊎_elim, ◌<◌, ◌==◌, cond, true, false, List, [], ◌∷◌, ◌++◌, Option, Some, None, refl, ap, sym, subst, ◌∙◌}
use Rattle.std.specs.List.{cons_option}
use Rattle.std.proofs.lemmas.List.{append-nil}
use Rattle.std.specs.Prelude.{Contains}
use Rattle.iscsi_rules.specs.declared.effect.Effect.{Effect}
use Rattle.iscsi_rules.proofs.general.ElementLemmas.{In, in-contains}
use Rattle.iscsi_outbox_rules.specs.rules.Calls.{Opening, Call}
use Rattle.iscsi_outbox_rules.specs.rules.Boxes.{Handed, Link, Box}
use Rattle.iscsi_outbox_rules.specs.rules.Run.{opened, after_call, after_calls, answered}
use Rattle.iscsi_outbox_rules.specs.promises.Deeds.{Deed, deeds_of, items_in, handed_in_deed, handed_in, handed_on, FollowsSession}
use Rattle.iscsi_outbox_rules.specs.promises.Scope.{Sent, nth, sent_by, sent_as, aim_of_sent}
use Rattle.iscsi_outbox_rules.specs.promises.Once.{EntersInOrder}
use Rattle.iscsi_outbox_rules.proofs.general.EachLemmas.{EachOf, each-first_of, each-second}
use Rattle.iscsi_outbox_rules.proofs.general.Cuts.{keeps, Handing, at_handing}
use Rattle.iscsi_outbox_rules.proofs.general.ConnLemmas.{conns_of, HeldBy, conn_boxes, HaveConns, have_conns, find_again}
use Rattle.iscsi_outbox_rules.proofs.general.DeedLemmas.{handed_on-append, some_on}
use Rattle.iscsi_outbox_rules.proofs.general.FirstLemmas.{firsts}
use Rattle.iscsi_outbox_rules.proofs.general.FoundLemmas.{found-conn}
use Rattle.iscsi_outbox_rules.proofs.order.SentLemmas.{one_reply_each, sent_by-firsts}
use Rattle.iscsi_outbox_rules.proofs.order.PlaceRuns.{Placed, PlacesStand, places_kept, place_starts}
use Rattle.iscsi_outbox_rules.proofs.general.Boxwise.{box_keeps}
use Rattle.iscsi_outbox_rules.proofs.order.LineRuns.{went_at_once, place_of}
use Rattle.iscsi_outbox_rules.proofs.order.TimeRuns.{At, Timed, LinkTimed, TimesStand, Times, time_boxes, time_starts}

-- ---- where a PDU was handed out

record Moment (c : ℕ) (h : Handed) (ds : List Deed) : Type 0 where
  before : List Deed
  deed : Deed
  after : List Deed
  whole : before ++ deed ∷ after ≡ ds
  shown : handed_in_deed deed ≡ Some (c, h)

moment_of : (c : ℕ) (h : Handed) (ds : List Deed) → In (c, h) (handed_in ds) → Moment c h ds
moment_of c h [] there = absurd there
moment_of c h (d ∷ ds) there = by_deed (handed_in_deed d) refl (moment_of c h ds) there
  where
    later : Moment c h ds → Moment c h (d ∷ ds)
    later m = record { before = d ∷ m.before; deed = m.deed; after = m.after; whole = ap (λ es. d ∷ es) m.whole; shown = m.shown }

    by_deed : (x : Option (ℕ × Handed)) → handed_in_deed d ≡ x → (In (c, h) (handed_in ds) → Moment c h ds) → In (c, h) (cons_option x (handed_in ds)) → Moment c h (d ∷ ds)
    by_deed None is f i = later (f i)
    by_deed (Some g) is f i = ⊎_elim (λ same. record { before = []; deed = d; after = ds; whole = refl; shown = is ∙ ap Some same }) (λ there. later (f there)) i

-- ---- what stands

record Stand (o : Opening) (all : List (List Effect)) (ds : List Deed) (b : Box) : Type 0 where
  places : PlacesStand ds b
  times : Times o all (items_in ds) b
  conns : HaveConns (conns_of (opened o).links) b.links

kept : (o : Opening) (all : List (List Effect)) (ds : List Deed) (b : Box) (c : Call) → Stand o all ds b → Stand o all (ds ++ (c, answered o b c) ∷ []) (after_call o b c)
kept o all ds b c h = record {
  places = places_kept o ds b c h.places;
  times = box_keeps o PlacesStand (Times o all) (time_boxes o all PlacesStand) ds b c h.places h.times;
  conns = box_keeps o PlacesStand (HeldBy (HaveConns (conns_of (opened o).links)) (have_conns (conns_of (opened o).links))) (conn_boxes (HaveConns (conns_of (opened o).links)) (have_conns (conns_of (opened o).links)) o PlacesStand) ds b c h.places h.conns;
}

starts : (o : Opening) (all : List (List Effect)) → Stand o all [] (opened o)
starts o all = record { places = place_starts o; times = time_starts o all; conns = refl }

pub enters_in_order : (o : Opening) (cs : List Call) → FollowsSession o cs → EntersInOrder o (deeds_of o cs)
enters_in_order o cs follows c d h g place behind s r went went_later at at_later sent sent_later none none_later less =
    subst (λ t. t < g.out.time) (sym ((timed c h went).time_is place (placed h place s at sent none)))
    (subst (λ t. times.times place < t) (sym ((timed d g went_later).time_is behind (placed g behind r at_later sent_later none_later)))
    (times.rising place behind less ((timed d g went_later).below behind at_later) (at_once h place s at sent none) (at_once g behind r at_later sent_later none_later)))
  where
    ds : List Deed
    ds = deeds_of o cs

    all : List (List Effect)
    all = items_in ds

    b : Box
    b = after_calls o (opened o) cs

    stands : Stand o all ds b
    stands = keeps o (Stand o all) (kept o all) [] (opened o) cs (starts o all)

    times : TimesStand o all all b
    times = stands.times [] (append-nil all)

    -- a PDU that was handed out, in the box at the end
    timed : (e : ℕ) (x : Handed) → Contains (handed_in ds) (e, x) → Timed o all times.times b.sent x.out
    timed e x there =
        let m : Moment e x ds = moment_of e x ds (in-contains (handed_in ds) (e, x) there) in
        let then = at_handing o cs (Stand o all) (kept o all) (starts o all) m.before m.after m.deed e x m.whole m.shown in
        let n : Handing o then.0 e x = then.2 in
        let again = find_again e then.0.links b.links n.link (then.1.conns ∙ sym stands.conns) n.found in
        let link : Link = again.0 in
        let placed_there : Placed ds all link = each-first_of (Placed ds all) (λ (l : Link). l.conn == e) b.links link again.1 stands.places.links in
        let all_timed : EachOf (λ (y : Handed). Timed o all times.times b.sent y.out) link.handed = (each-first_of (LinkTimed o all times.times b.sent) (λ (l : Link). l.conn == e) b.links link again.1 times.links).1 in
        let parts : link.handed ≡ handed_on e m.before ++ x ∷ handed_on e m.after =
        placed_there.handed ∙ ap (λ k. handed_on k ds) (found-conn e b.links link again.1) ∙ ap (handed_on e) (sym m.whole) ∙ handed_on-append e m.before (m.deed ∷ m.after)
        ∙ ap (λ hs. handed_on e m.before ++ hs) (handed_on-append e (m.deed ∷ []) m.after ∙ ap (λ hs. hs ++ handed_on e m.after) (some_on e m.deed x m.shown)) in
        (each-second (λ (y : Handed). Timed o all times.times b.sent y.out) (handed_on e m.before) (x ∷ handed_on e m.after) (subst (EachOf (λ (y : Handed). Timed o all times.times b.sent y.out)) parts all_timed)).0

    at_once : (x : Handed) (p : ℕ) (t : Sent) → x.out.sent ≡ Some p → sent_as all x.out ≡ Some t → aim_of_sent o t ≡ None → At o all p
    at_once x p t is as_sent no_aim =
        let now : nth p (firsts all) ≡ Some t =
        sym (ap (λ y. elim y [ Some q ↦ nth q (sent_by all) | None ↦ None ]) is ∙ ap (nth p) (sent_by-firsts all (one_reply_each o cs follows))) ∙ as_sent in
        ap (went_at_once o all) now ∙ ap (λ y. elim y [ Some about ↦ false | None ↦ true ]) no_aim

    placed : (x : Handed) (p : ℕ) (t : Sent) → x.out.sent ≡ Some p → sent_as all x.out ≡ Some t → aim_of_sent o t ≡ None → place_of o all x.out.sent ≡ Some p
    placed x p t is as_sent no_aim = ap (place_of o all) is ∙ ap (λ v. cond v (Some p) None) (at_once x p t is as_sent no_aim)
