-- Each reply goes out at most once, and on its connection.
use Rattle.std.proofs.Common.{◌≡◌, ℕ, ⊎_elim, ◌==◌, ◌+◌, ◌≤◌, Bool, true, false, List, [], ◌∷◌, ◌++◌, nat_lt, Some, None, refl, ap, sym, subst, ◌∙◌, arith, eq-eqb}
use Rattle.std.proofs.lemmas.List.{append_assoc}
use Rattle.std.proofs.lemmas.List.Sums.{sum_by-cons, sum_by-append}
use Rattle.iscsi_rules.specs.declared.effect.Effect.{Effect}
use Rattle.iscsi_outbox_rules.specs.rules.Calls.{Opening, Call}
use Rattle.iscsi_outbox_rules.specs.rules.Boxes.{Replies, Outgoing, Handed, Link, Box}
use Rattle.iscsi_outbox_rules.specs.rules.Handing.{taken_from}
use Rattle.iscsi_outbox_rules.specs.rules.Run.{after_call, answered}
use Rattle.iscsi_outbox_rules.specs.promises.Deeds.{Deed, deeds_of, items_in, handed_in_deed, handed_on, FollowsSession}
use Rattle.iscsi_outbox_rules.specs.promises.Scope.{Sent, nth}
use Rattle.iscsi_outbox_rules.specs.promises.Once.{SendsWhatWasSent, GoesOnce}
use Rattle.iscsi_outbox_rules.proofs.general.EachLemmas.{each-first_of}
use Rattle.iscsi_outbox_rules.proofs.general.Cuts.{Handing, at_handing}
use Rattle.iscsi_outbox_rules.proofs.general.Chosen.{Chosen, chosen_from}
use Rattle.iscsi_outbox_rules.proofs.general.DeedLemmas.{items_in-append, handed_on-append, some_on}
use Rattle.iscsi_outbox_rules.proofs.general.FirstLemmas.{firsts, firsts-append, nth-first}
use Rattle.iscsi_outbox_rules.proofs.general.FoundLemmas.{found-conn}
use Rattle.iscsi_outbox_rules.proofs.order.SentLemmas.{one_reply_before, sent_by-firsts}
use Rattle.iscsi_outbox_rules.proofs.order.PlaceRuns.{IsSent, IsOwn, Entry, Placed, PlacesStand, places_kept, place_starts, entry_out}
use Rattle.iscsi_outbox_rules.proofs.general.Boxwise.{box_keeps}
use Rattle.iscsi_outbox_rules.proofs.order.CountRuns.{one, is_at, waiting_at, handed_at, undue_at, at_most, AllOnce, count_boxes, count_starts, taken_at}

-- what stands of replies
pub record RepliesStand (ds : List Deed) (b : Box) : Type 0 where
  pub places : PlacesStand ds b
  pub once : AllOnce (items_in ds) b

replies_kept : (o : Opening) (ds : List Deed) (b : Box) (c : Call) → RepliesStand ds b → RepliesStand (ds ++ (c, answered o b c) ∷ []) (after_call o b c)
replies_kept o ds b c h = record { places = places_kept o ds b c h.places; once = box_keeps o PlacesStand AllOnce (count_boxes o) ds b c h.places h.once }

pub record Reply_moment (o : Opening) (ds : List Deed) (conn : ℕ) (h : Handed) : Type 0 where
  pub box : Box
  pub stands : RepliesStand ds box
  pub handing : Handing o box conn h
  pub from : Chosen o box handing.link handing.out
  pub at : handing.link.conn ≡ conn
  pub placed : Placed ds (items_in ds) handing.link
  pub entry : Entry (items_in ds) conn h.out

pub reply_moment : (o : Opening) (cs : List Call) (before after : List Deed) (deed : Deed) (conn : ℕ) (h : Handed) → before ++ deed ∷ after ≡ deeds_of o cs → handed_in_deed deed ≡ Some (conn, h) → Reply_moment o before conn h
reply_moment o cs before after deed conn h whole shown =
    let m = at_handing o cs RepliesStand (replies_kept o) (record { places = place_starts o; once = count_starts o }) before after deed conn h whole shown in
    let b : Box = m.0 in
    let n : Handing o b conn h = m.2 in
    let from : Chosen o b n.link n.out = chosen_from o b n.link n.out n.chosen_is in
    let at : n.link.conn ≡ conn = found-conn conn b.links n.link n.found in
    let placed : Placed before (items_in before) n.link = each-first_of (Placed before (items_in before)) (λ (l : Link). l.conn == conn) b.links n.link n.found m.1.places.links in
    let entry : Entry (items_in before) conn n.out = subst (λ c. Entry (items_in before) c n.out) at (entry_out o b n.link n.out (items_in before) from placed.waits) in
    record {
      box = b;
      stands = m.1;
      handing = n;
      from = from;
      at = at;
      placed = placed;
      entry = subst (λ (g : Handed). Entry (items_in before) conn g.out) (sym n.is) entry;
    }

pub sends_what_was_sent : (o : Opening) (cs : List Call) → FollowsSession o cs → SendsWhatWasSent (deeds_of o cs)
sends_what_was_sent o cs follows before after deed c h reply whole shown pdu =
    let m : Reply_moment o before c h = reply_moment o cs before after deed c h whole shown in
    ⊎_elim
    (λ (s : IsSent (items_in before) c h.out).
    let same : Replies s.reply.reply ≡ Replies reply = sym s.pdu_is ∙ pdu in
    (s.place, s.reply, s.place_is, ap (nth s.place) (sent_by-firsts (items_in before) (one_reply_before o cs before (deed ∷ after) whole follows)) ∙ s.nth_is, s.conn_is, cc))
    (λ (own : IsOwn h.out). absurd (own.apart reply pdu)) m.entry

one_most : (v : Bool) → one v ≤ 1
one_most true = omega arith
one_most false = omega arith

some_place : (p q : ℕ) → Some p ≡ Some q → p ≡ q
some_place p q h = cc

some_sent : (s r : Sent) → Some s ≡ Some r → s ≡ r
some_sent s r h = cc

at_place : (p : ℕ) (out : Outgoing) → out.sent ≡ Some p → is_at p out ≡ true
at_place p out is = ap (λ x. elim x [ Some q ↦ q == p | None ↦ false ]) is ∙ eq-eqb p p refl

-- what is in a place is a reply of the session
is_sent : (items : List (List Effect)) (conn p : ℕ) (out : Outgoing) → out.sent ≡ Some p → Entry items conn out → (s : Sent) × (nth p (firsts items) ≡ Some s) × (s.conn ≡ conn)
is_sent items conn p out at e =
    ⊎_elim (λ (s : IsSent items conn out). (s.reply, ap (λ q. nth q (firsts items)) (some_place p s.place (sym at ∙ s.place_is)) ∙ s.nth_is, s.conn_is))
    (λ (own : IsOwn out). absurd (let no : None ≡ Some p = sym own.none ∙ at in cc)) e

pub goes_once : (o : Opening) (cs : List Call) → GoesOnce (deeds_of o cs)
goes_once o cs before between after deed later c d h g place whole shown shown_later at at_later =
    let since : List Deed = before ++ deed ∷ between in
    let m : Reply_moment o before c h = reply_moment o cs before (between ++ later ∷ after) deed c h whole shown in
    let n : Reply_moment o since d g = reply_moment o cs since after later d g (append_assoc before (deed ∷ between) (later ∷ after) ∙ whole) shown_later in
    let link : Link = n.handing.link in
    let first = is_sent (items_in before) c place h.out at m.entry in
    let second = is_sent (items_in since) d place g.out at_later n.entry in
    let more = firsts-append (items_in before) (items_in (deed ∷ between)) in
    let kept : nth place (firsts (items_in since)) ≡ Some first.0 =
    ap (λ its. nth place (firsts its)) (items_in-append before (deed ∷ between)) ∙ ap (nth place) more.1 ∙ nth-first place (firsts (items_in before)) more.0 first.0 first.1 in
    let same : c ≡ d = sym first.2 ∙ ap (λ (s : Sent). s.conn) (some_sent first.0 second.0 (sym kept ∙ second.1)) ∙ second.2 in
    let went : link.handed ≡ handed_on c before ++ h ∷ handed_on c between =
    n.placed.handed ∙ ap (λ e. handed_on e since) (n.at ∙ sym same) ∙ handed_on-append c before (deed ∷ between)
    ∙ ap (λ hs. handed_on c before ++ hs) (handed_on-append c (deed ∷ []) between ∙ ap (λ hs. hs ++ handed_on c between) (some_on c deed h shown)) in
    let f : Handed → ℕ = λ (x : Handed). one (is_at place x.out) in
    let here : one (is_at place h.out) ≡ 1 = ap one (at_place place h.out at) in
    let there : one (is_at place n.handing.out) ≡ 1 = ap (λ (x : Handed). one (is_at place x.out)) (sym n.handing.is) ∙ ap one (at_place place g.out at_later) in
    let handed : handed_at place link.handed ≡ handed_at place (handed_on c before) + (1 + handed_at place (handed_on c between)) =
    ap (handed_at place) went ∙ sum_by-append f (handed_on c before) (h ∷ handed_on c between)
    ∙ ap (λ k. handed_at place (handed_on c before) + k) (sum_by-cons f h (handed_on c between) ∙ ap (λ k. k + handed_at place (handed_on c between)) here) in
    let waiting : waiting_at place (taken_from n.handing.out link).queue + one (is_at place n.handing.out) ≤ waiting_at place link.queue = taken_at o n.box link n.handing.out (items_in since) n.from n.placed.waits place in
    let once : handed_at place link.handed + waiting_at place link.queue + undue_at place n.box.undue ≤ at_most place n.box.sent = n.stands.once d link n.handing.found place in
    omega (arith, handed, there, waiting, once, one_most (nat_lt place n.box.sent))
