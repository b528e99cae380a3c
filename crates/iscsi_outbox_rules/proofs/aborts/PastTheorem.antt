-- Nothing of a command that completed goes out behind an answer by which it is over; and as that goes out, nothing of it is under way on
-- another connection.
use Rattle.std.proofs.Common.{◌≡◌, ◌≢◌, ℕ, ⊎_elim, ◌==◌, ◌+◌, ◌<◌, ◌≤◌, ◌&&◌, ◌||◌, not, cond, Bool, true, false, List, [], ◌∷◌, ◌++◌, length, Option, Some, None, refl, ap, sym, subst, ◌∙◌, arith, eq-eqb, lt-ltb}
use Rattle.std.specs.List.{list_any, cons_option}
use Rattle.std.proofs.lemmas.Bool.{false≢true, eqb-true, ltb-true}
use Rattle.std.proofs.lemmas.List.{append_assoc, append-nil, length-append}
use Rattle.std.proofs.lemmas.List.Folds.{list_any-append}
use Rattle.iscsi_wire.specs.declared.reply.Reply.{Reply}
use Rattle.iscsi_rules.specs.declared.effect.Effect.{Effect}
use Rattle.iscsi_rules.proofs.general.BoolLemmas.{and_parts, and_both, or_first, or_none, or_second}
use Rattle.iscsi_outbox_rules.specs.declared.own_pdu.OwnPdu.{OwnPdu}
use Rattle.iscsi_outbox_rules.specs.declared.own_pdu.OwnPdu.TheVariants.{OfCommand, OfConnection}
use Rattle.iscsi_outbox_rules.specs.rules.Calls.{Opening, Call, Loses}
use Rattle.iscsi_outbox_rules.specs.rules.Boxes.{Pdu, Replies, Owns, Pings, Notices, Outgoing, Handed, Link, Box}
use Rattle.iscsi_outbox_rules.specs.rules.Handing.{is_from_queue}
use Rattle.iscsi_outbox_rules.specs.rules.Run.{opened, after_calls}
use Rattle.iscsi_outbox_rules.specs.promises.Deeds.{Deed, deeds_of, items_in, handed_in, handed_in_deed, handed_on, is_lose_of, is_join_of, has_joined, was_lost, FollowsSession}
use Rattle.iscsi_outbox_rules.specs.promises.Numbers.{takes_stat_sn}
use Rattle.iscsi_outbox_rules.specs.promises.Arrived.{writes_on, shows_arrival, shows_later, has_arrived, is_written, is_through}
use Rattle.iscsi_outbox_rules.specs.promises.Scope.{Sent, nth, sent_by, sent_as, completed_in, cut_by, is_taken_out_in, is_taken_out_by, is_past_by, is_over_by, says_past}
use Rattle.iscsi_outbox_rules.specs.promises.Silent.{ticket_of, ticket_of_own, SilentAfter}
use Rattle.iscsi_outbox_rules.specs.promises.Still.{CompletesBefore}
use Rattle.iscsi_outbox_rules.specs.promises.Fence.{is_fenced, is_handed}
use Rattle.iscsi_outbox_rules.proofs.general.EachLemmas.{EachOf, each-second, each-weaken, each-first_of}
use Rattle.iscsi_outbox_rules.proofs.general.FoundLemmas.{find_link, found-conn}
use Rattle.iscsi_outbox_rules.proofs.general.FirstLemmas.{firsts, firsts-append, nth-first}
use Rattle.iscsi_outbox_rules.proofs.general.DeedLemmas.{handed_on-append, items_in-append, items_in-more}
use Rattle.iscsi_outbox_rules.proofs.general.Chosen.{FromQueue, IsPing, IsNotice, chosen_from}
use Rattle.iscsi_outbox_rules.proofs.general.Cuts.{Cut, cut, keeps, Handing, handed-next}
use Rattle.iscsi_outbox_rules.proofs.general.ConnLemmas.{conns_of}
use Rattle.iscsi_outbox_rules.proofs.general.LinkRuns.{Fit, LinkShows}
use Rattle.iscsi_outbox_rules.proofs.numbers.NumberTheorem.{Moment, moment, none_unjoined, none_lost}
use Rattle.iscsi_outbox_rules.proofs.order.SentLemmas.{one_reply_before, sent_by-firsts}
use Rattle.iscsi_outbox_rules.proofs.order.PlaceRuns.{IsSent, IsOwn}
use Rattle.iscsi_outbox_rules.proofs.order.OnceTheorem.{Reply_moment, reply_moment}
use Rattle.iscsi_outbox_rules.proofs.order.PlaceSent.{SentHere, sent_here}
use Rattle.iscsi_outbox_rules.proofs.order.PlaceTheorem.{Parted, part, fence_first}
use Rattle.iscsi_outbox_rules.proofs.closes.MarkRuns.{Marked, closed_by}
use Rattle.iscsi_outbox_rules.proofs.closes.MarkCalls.{none_where_cut}
use Rattle.iscsi_outbox_rules.proofs.closes.ElsewhereTheorem.{cut_first}
use Rattle.iscsi_outbox_rules.proofs.closes.SealTheorem.{known_conn}
use Rattle.iscsi_outbox_rules.proofs.arrivals.ArriveDeeds.{arrived_behind}
use Rattle.iscsi_outbox_rules.proofs.arrivals.ArriveThrough.{ArriveStand, arrive_kept, arrive_start, find_known}
use Rattle.iscsi_outbox_rules.proofs.commands.TicketLemmas.{EntersOn, enters_once}
use Rattle.iscsi_outbox_rules.proofs.commands.LeaveLemmas.{leaving, leavings, leavings-append, leaves_once}
use Rattle.iscsi_outbox_rules.proofs.commands.TaskFits.{fits_all}
use Rattle.iscsi_outbox_rules.proofs.commands.CommandRuns.{own_in, own_waiting, OwnEntry, handed_of, taken_of}
use Rattle.iscsi_outbox_rules.proofs.commands.ResponseHomes.{StaysHome, homes}
use Rattle.iscsi_outbox_rules.proofs.commands.ResponseRuns.{is_kept, Flows}
use Rattle.iscsi_outbox_rules.proofs.commands.ResponseCalls.{FlowsNow}
use Rattle.iscsi_outbox_rules.proofs.commands.ResponseTheorem.{flows_after, untaken, sends_all_before}
use Rattle.iscsi_outbox_rules.proofs.fences.FenceTheorem.{fence_before}
use Rattle.iscsi_outbox_rules.proofs.aborts.SilentItems.{Uncompleted, sent_split, none_completes, completed_leaves}
use Rattle.iscsi_outbox_rules.proofs.aborts.SilentTheorem.{taken_out_silent}
use Rattle.iscsi_outbox_rules.proofs.aborts.PastItems.{Done, past_fenced, Response, response}
use Rattle.iscsi_outbox_rules.proofs.aborts.PastReplies.{response_silent}
use Rattle.iscsi_outbox_rules.proofs.aborts.PastTakes.{Later, in_order, nth_high, Split, split_deed, taken-append, handed-append, quiet_deed, taken_stays}

some_sent : (s r : Sent) → Some s ≡ Some r → s ≡ r
some_sent s r h = cc

same_number : (m n : ℕ) → Some m ≡ Some n → m ≡ n
same_number m n h = cc

same_handed : (x y : ℕ × Handed) → Some x ≡ Some y → x.1 ≡ y.1
same_handed x y h = let same : x ≡ y = cc in ap (λ (z : ℕ × Handed). z.1) same

none_some : (n : ℕ) → None ≡ Some n → ⊥
none_some n h = cc

-- what stands in a list stays there as more comes
any_first : {A : Type 0} (p : A → Bool) (xs ys : List A) → list_any p xs ≡ true → list_any p (xs ++ ys) ≡ true
any_first p xs ys h = list_any-append p xs ys ∙ or_first (list_any p xs) (list_any p ys) h

none_first : {A : Type 0} (p : A → Bool) (xs ys : List A) → list_any p (xs ++ ys) ≡ false → list_any p xs ≡ false
none_first p xs ys h = (or_none (list_any p xs) (list_any p ys) (sym (list_any-append p xs ys) ∙ h)).0

uncut_first : (xs ys : List (List Effect)) (c : ℕ) → cut_by (xs ++ ys) c ≡ false → cut_by xs c ≡ false
uncut_first xs ys c h = by_cut (cut_by xs c) refl
  where
    by_cut : (v : Bool) → cut_by xs c ≡ v → v ≡ false
    by_cut false is = refl
    by_cut true is = absurd (false≢true (sym h ∙ cut_first xs ys c is))

-- ---- a reply that was handed out

record WasHanded (p : ℕ) (ds : List Deed) : Type 0 where
  before : List Deed
  deed : Deed
  after : List Deed
  whole : before ++ deed ∷ after ≡ ds
  conn : ℕ
  handed : Handed
  shown : handed_in_deed deed ≡ Some (conn, handed)
  sent : handed.out.sent ≡ Some p

was_handed : (p : ℕ) (ds : List Deed) → is_handed p ds ≡ true → WasHanded p ds
was_handed p [] h = absurd (false≢true h)
was_handed p (d ∷ ds) h = by_deed (handed_in_deed d) (was_handed p ds) refl h
  where
    test : ℕ × Handed → Bool
    test g = elim (g.1.out.sent) [ Some k ↦ k == p | None ↦ false ]

    later : WasHanded p ds → WasHanded p (d ∷ ds)
    later w = record { before = d ∷ w.before; deed = w.deed; after = w.after; whole = ap (λ es. d ∷ es) w.whole; conn = w.conn; handed = w.handed; shown = w.shown; sent = w.sent }

    here : (g : ℕ × Handed) → handed_in_deed d ≡ Some g → (q : ℕ) → g.1.out.sent ≡ Some q → q ≡ p → WasHanded p (d ∷ ds)
    here g is q at same = record { before = []; deed = d; after = ds; whole = refl; conn = g.0; handed = g.1; shown = is; sent = at ∙ ap (λ n. Some n) same }

    by_sent : (g : ℕ × Handed) → handed_in_deed d ≡ Some g → (is_handed p ds ≡ true → WasHanded p ds) → (y : Option ℕ) → g.1.out.sent ≡ y → (elim y [ Some k ↦ k == p | None ↦ false ] || is_handed p ds) ≡ true → WasHanded p (d ∷ ds)
    by_sent g is more None at some = later (more some)
    by_sent g is more (Some q) at some =
        elim (q == p) as (λ v. (q == p) ≡ v → (v || is_handed p ds) ≡ true → WasHanded p (d ∷ ds)) [
          | true ↦ λ same k. here g is q at (eqb-true q p same)
          | false ↦ λ apart k. later (more k)
        ] refl some

    by_deed : (x : Option (ℕ × Handed)) → (is_handed p ds ≡ true → WasHanded p ds) → handed_in_deed d ≡ x → list_any test (cons_option x (handed_in ds)) ≡ true → WasHanded p (d ∷ ds)
    by_deed None more is some = later (more some)
    by_deed (Some g) more is some = by_sent g is more (g.1.out.sent) refl some

-- ---- what is known to have arrived behind a PDU

shows_behind : (c : ℕ) (ds es : List Deed) → shows_later c es ≡ true → shows_later c (ds ++ es) ≡ true
shows_behind c [] es h = h
shows_behind c (d ∷ ds) es h = or_second _ (shows_later c (ds ++ es)) (shows_behind c ds es h)

-- where a PDU behind it on its connection is through, it is
through_behind : (o : Opening) (d : ℕ) (earlier between since : List Deed) (handing deed : Deed) (g k : Handed) → handed_in_deed deed ≡ Some (d, k)
    → is_through o d (earlier ++ handing ∷ between) deed k since ≡ true → is_through o d earlier handing g (between ++ deed ∷ since) ≡ true
through_behind o d earlier between since handing deed g k shown h =
    by_lost (was_lost since d) refl (has_arrived d k since) refl h
  where
    ds : List Deed
    ds = between ++ deed ∷ since

    lost_later : was_lost since d ≡ true → was_lost ds d ≡ true
    lost_later is = list_any-append (λ (e : Deed). is_lose_of d e.0) between (deed ∷ since) ∙ or_second (was_lost between d) (was_lost (deed ∷ since) d) (or_second (is_lose_of d deed.0) (was_lost since d) is)

    arrived : has_arrived d k since ≡ true → has_arrived d g ds ≡ true
    arrived is = or_second (shows_arrival d g ds) (shows_later d ds) (by_shows (shows_arrival d k since) refl is)
      where
        by_shows : (v : Bool) → shows_arrival d k since ≡ v → (v || shows_later d since) ≡ true → shows_later d ds ≡ true
        by_shows true e more = arrived_behind d between since deed k shown e
        by_shows false e more = shows_behind d between (deed ∷ since) (or_second _ (shows_later d since) more)

    low : length (handed_on d earlier) ≤ length (handed_on d (earlier ++ handing ∷ between))
    low =
        let parts : length (handed_on d (earlier ++ handing ∷ between)) ≡ length (handed_on d earlier) + length (handed_on d (handing ∷ between)) = ap length (handed_on-append d earlier (handing ∷ between)) ∙ length-append (handed_on d earlier) (handed_on d (handing ∷ between)) in
        omega (arith, parts)

    written : (not o.acknowledged && is_written d (earlier ++ handing ∷ between) deed since) ≡ true → (not o.acknowledged && is_written d earlier handing ds) ≡ true
    written is =
        let both = and_parts (not o.acknowledged) (is_written d (earlier ++ handing ∷ between) deed since) is in
        let less : length (handed_on d (earlier ++ handing ∷ between)) < writes_on d ((earlier ++ handing ∷ between) ++ deed ∷ since) = ltb-true (length (handed_on d (earlier ++ handing ∷ between))) (writes_on d ((earlier ++ handing ∷ between) ++ deed ∷ since)) both.1 in
        let same : writes_on d ((earlier ++ handing ∷ between) ++ deed ∷ since) ≡ writes_on d (earlier ++ handing ∷ ds) = ap (writes_on d) (append_assoc earlier (handing ∷ between) (deed ∷ since)) in
        let now : length (handed_on d earlier) < writes_on d (earlier ++ handing ∷ ds) = omega (arith, less, same, low) in
        and_both (not o.acknowledged) (is_written d earlier handing ds) both.0 (lt-ltb (length (handed_on d earlier)) (writes_on d (earlier ++ handing ∷ ds)) now)

    by_lost : (v : Bool) → was_lost since d ≡ v → (w : Bool) → has_arrived d k since ≡ w → ((v || w) || (not o.acknowledged && is_written d (earlier ++ handing ∷ between) deed since)) ≡ true → is_through o d earlier handing g ds ≡ true
    by_lost true is w e more = or_first (was_lost ds d || has_arrived d g ds) (not o.acknowledged && is_written d earlier handing ds) (or_first (was_lost ds d) (has_arrived d g ds) (lost_later is))
    by_lost false is true e more = or_first (was_lost ds d || has_arrived d g ds) (not o.acknowledged && is_written d earlier handing ds) (or_second (was_lost ds d) (has_arrived d g ds) (arrived e))
    by_lost false is false e more = or_second (was_lost ds d || has_arrived d g ds) (not o.acknowledged && is_written d earlier handing ds) (written more)

-- what goes out takes a StatSN where its PDU does
takes_as_pdu : (o : Opening) (calls : List Call) (before after : List Deed) (deed : Deed) (d : ℕ) (g : Handed) → before ++ deed ∷ after ≡ deeds_of o calls → handed_in_deed deed ≡ Some (d, g) → g.out.takes ≡ takes_stat_sn g.out.pdu
takes_as_pdu o calls before after deed d g whole shown =
    let m : Moment o before d g = moment o calls before after deed d g whole shown in
    subst (λ (x : Handed). x.out.takes ≡ takes_stat_sn x.out.pdu) (sym m.handing.is)
    (⊎_elim (λ (q : FromQueue o m.box m.handing.link m.handing.out). (subst (EachOf Fit) q.queue_is m.link.fit).0.takes)
    (⊎_elim (λ (p : IsPing o m.box m.handing.link m.handing.out). subst (λ (x : Outgoing). x.takes ≡ takes_stat_sn x.pdu) (sym p.is) refl)
    (λ (p : IsNotice o m.box m.handing.link m.handing.out). subst (λ (x : Outgoing). x.takes ≡ takes_stat_sn x.pdu) (sym p.is) refl)) m.from.source)

-- ---- a command that completed

module _ (o : Opening) (calls : List Call) (follows : FollowsSession o calls) (t : ℕ) (done : Done t (items_in (deeds_of o calls))) where
  abbrev all : List (List Effect)
  all = items_in (deeds_of o calls)

  abbrev home : (c : ℕ) × EachOf (StaysHome t (λ e. e ≡ c)) all
  home = homes o calls follows t

  abbrev hc : ℕ
  hc = home.0

  apart : EachOf (λ item. is_taken_out_in t item ≡ false) all
  apart = untaken t all (by_taken (list_any (is_taken_out_in t) all) refl)
    where
      by_taken : (v : Bool) → list_any (is_taken_out_in t) all ≡ v → list_any (is_taken_out_in t) all ≡ false
      by_taken false is = is
      by_taken true is =
          absurd ((each-second (Uncompleted t) done.before (done.item ∷ done.rest) (subst (EachOf (Uncompleted t)) (sym done.whole) (none_completes t all (leaves_once t o calls follows) is))).0 done.completed)

  -- what stands behind some of the deeds
  record At (xs : List Deed) : Type 0 where
    box : Box
    arrive : ArriveStand o xs box
    flows : FlowsNow t hc xs box

  flows_by : (first : List Call) (ys : List Deed) → items_in (deeds_of o first) ++ items_in ys ≡ all → FlowsNow t hc (deeds_of o first) (after_calls o (opened o) first)
  flows_by first ys whole =
      flows_after t hc o all (enters_once t o calls follows) (each-weaken (StaysHome t (λ e. e ≡ hc)) (EntersOn t hc) all (λ item e. e.0) home.1) (fits_all t o calls follows) apart first (items_in ys) whole

  at : (xs ys : List Deed) → xs ++ ys ≡ deeds_of o calls → At xs
  at xs ys whole =
      let k : Parted o (opened o) calls xs ys = part o (opened o) calls xs ys whole in
      let b : Box = after_calls o (opened o) k.first in
      record {
        box = b;
        arrive = subst (λ ds. ArriveStand o ds b) (sym k.first_is) (keeps o (ArriveStand o) (arrive_kept o) [] (opened o) k.first (arrive_start o));
        flows = subst (λ ds. FlowsNow t hc ds b) (sym k.first_is) (flows_by k.first ys (ap (λ ds. items_in ds ++ items_in ys) (sym k.first_is) ∙ sym (items_in-append xs ys) ∙ ap items_in whole));
      }

  -- an own PDU of it is among them
  own_shown : (x : Outgoing) → ticket_of_own x.pdu ≡ Some t → (p : OwnPdu) × (own_in t hc x ≡ p ∷ [])
  own_shown x is = by_pdu (x.pdu) is
    where
      by_pdu : (p : Pdu) → ticket_of_own p ≡ Some t → (q : OwnPdu) × (own_in t hc (record x { pdu = p }) ≡ q ∷ [])
      by_pdu (Replies reply) e = absurd cc
      by_pdu (Owns (OfCommand ticket header)) e = let same : ticket ≡ t = cc in (OfCommand ticket header, ap (λ v. cond v (OfCommand ticket header ∷ []) []) (eq-eqb ticket t same))
      by_pdu (Owns (OfConnection conn header)) e = absurd cc
      by_pdu (Pings tag) e = absurd cc
      by_pdu Notices e = absurd cc

  -- as one goes out, on the command's connection, more were taken than went out
  own_goes : (pre post : List Deed) (x : Deed) (d : ℕ) (g : Handed) → pre ++ x ∷ post ≡ deeds_of o calls → handed_in_deed x ≡ Some (d, g) → ticket_of_own g.out.pdu ≡ Some t
      → (d ≡ hc) × (length (handed_of t hc pre) + 1 ≤ length (taken_of t hc pre))
  own_goes pre post x d g whole shown own =
      ⊎_elim queued
      (⊎_elim
      (λ (p : IsPing o b link out). let no : None ≡ Some t = sym (ap (λ (y : Outgoing). ticket_of_own y.pdu) p.is) ∙ own' in absurd cc)
      (λ (p : IsNotice o b link out). let no : None ≡ Some t = sym (ap (λ (y : Outgoing). ticket_of_own y.pdu) p.is) ∙ own' in absurd cc))
      (chosen_from o b link out n.chosen_is).source
    where
      k : Cut o (opened o) calls pre x post
      k = cut o (opened o) calls pre x post whole

      b : Box
      b = after_calls o (opened o) k.first

      n : Handing o b d g
      n = (handed-next o b k.call d g (ap handed_in_deed (sym k.deed_is) ∙ shown)).1

      link : Link
      link = n.link

      out : Outgoing
      out = n.out

      own' : ticket_of_own out.pdu ≡ Some t
      own' = ap (λ (y : Handed). ticket_of_own y.out.pdu) (sym n.is) ∙ own

      flows : Flows t hc (handed_of t hc pre) (taken_of t hc pre) link
      flows =
          subst (λ ds. Flows t hc (handed_of t hc ds) (taken_of t hc ds) link) (sym k.before_is)
          (each-first_of (Flows t hc (handed_of t hc (deeds_of o k.first)) (taken_of t hc (deeds_of o k.first))) (λ (m : Link). m.conn == d) b.links link n.found
          (flows_by k.first (x ∷ post) (ap (λ ds. items_in ds ++ items_in (x ∷ post)) (sym k.before_is) ∙ sym (items_in-append pre (x ∷ post)) ∙ ap items_in whole)).links)

      shows : (p : OwnPdu) × (own_in t hc out ≡ p ∷ [])
      shows = own_shown out own'

      queued : FromQueue o b link out → (d ≡ hc) × (length (handed_of t hc pre) + 1 ≤ length (taken_of t hc pre))
      queued q =
          (sym (found-conn d b.links link n.found) ∙ at_home, more)
        where
          at_home : link.conn ≡ hc
          at_home = ⊎_elim (λ (none : own_in t hc out ≡ []). let no : shows.0 ∷ [] ≡ [] = sym shows.1 ∙ none in absurd cc) (λ (e : (link.conn ≡ hc) × (out.ticket ≡ Some t) × (is_from_queue out ≡ true)). e.0) (subst (EachOf (OwnEntry t hc link.conn)) q.queue_is flows.entries).0

          still : (v : Bool) → is_kept link ≡ v → is_kept link ≡ true
          still true is = is
          still false is = absurd (let no : out ∷ q.rest ≡ [] = sym q.queue_is ∙ flows.gone is in cc)

          whole_is : handed_of t hc pre ++ (shows.0 ∷ own_waiting t hc q.rest) ≡ taken_of t hc pre
          whole_is = ap (λ ys. handed_of t hc pre ++ ys) (sym (ap (own_waiting t hc) q.queue_is ∙ ap (λ ys. ys ++ own_waiting t hc q.rest) shows.1)) ∙ flows.whole at_home (still (is_kept link) refl)

          more : length (handed_of t hc pre) + 1 ≤ length (taken_of t hc pre)
          more =
              let parts : length (taken_of t hc pre) ≡ length (handed_of t hc pre) + length (shows.0 ∷ own_waiting t hc q.rest) = ap length (sym whole_is) ∙ length-append (handed_of t hc pre) (shows.0 ∷ own_waiting t hc q.rest) in
              omega (arith, parts)

  -- ---- its response

  -- the deed with the completion: no own PDU is taken behind it
  record Ended (first more : List Deed) (deed : Deed) : Type 0 where
    whole : first ++ deed ∷ more ≡ deeds_of o calls
    untaken : taken_of t hc (deed ∷ []) ≡ []
    unhanded : handed_in_deed deed ≡ None
    left : 1 ≤ leavings t (items_in (first ++ deed ∷ []))

  taken_first : (first more between rest : List Deed) (deed : Deed) → Ended first more deed → (first ++ deed ∷ between) ++ rest ≡ deeds_of o calls → taken_of t hc (first ++ deed ∷ between) ≡ taken_of t hc first
  taken_first first more between rest deed e whole =
      let parts : (first ++ deed ∷ []) ++ between ≡ first ++ deed ∷ between = append_assoc first (deed ∷ []) between in
      ap (taken_of t hc) (sym parts) ∙ taken_stays t hc o calls follows (first ++ deed ∷ []) between rest (ap (λ ds. ds ++ rest) parts ∙ whole) e.left
      ∙ taken-append t hc first (deed ∷ []) ∙ ap (λ xs. taken_of t hc first ++ xs) e.untaken ∙ append-nil (taken_of t hc first)

  -- where an own PDU of it goes out, its connection had joined before it completed
  joined_first : (first more : List Deed) (deed : Deed) → Ended first more deed → (pre post : List Deed) (x : Deed) (d : ℕ) (g : Handed) → pre ++ x ∷ post ≡ deeds_of o calls → handed_in_deed x ≡ Some (d, g) → ticket_of_own g.out.pdu ≡ Some t
      → has_joined first hc ≡ true
  joined_first first more deed e pre post x d g whole shown own =
      ⊎_elim (λ same. let no : None ≡ Some (d, g) = sym e.unhanded ∙ ap handed_in_deed (sym same.1) ∙ shown in absurd cc)
      (λ either. ⊎_elim before_it behind_it either) (in_order pre post first more x deed (whole ∙ sym e.whole))
    where
      goes : (d ≡ hc) × (length (handed_of t hc pre) + 1 ≤ length (taken_of t hc pre))
      goes = own_goes pre post x d g whole shown own

      before_it : Later pre post first more x deed → has_joined first hc ≡ true
      before_it k = ap (λ ds. has_joined ds hc) k.first ∙ any_first (is_join_of hc) pre (x ∷ k.between) (ap (has_joined pre) (sym goes.0) ∙ none_unjoined o calls pre post x d g whole shown)

      behind_it : Later first more pre post deed x → has_joined first hc ≡ true
      behind_it k = by_joined m.joined refl
        where
          a : At first
          a = at first (deed ∷ more) e.whole

          known : list_any (λ n. n == hc) (conns_of (opened o).links) ≡ true
          known = ap (λ n. list_any (λ j. j == n) (conns_of (opened o).links)) (sym goes.0) ∙ known_conn o calls pre post x d g whole shown

          found : (l : Link) × (find_link hc a.box.links ≡ Some l)
          found = find_known hc a.box.links (ap (list_any (λ n. n == hc)) a.arrive.marks.conns ∙ known)

          m : Link
          m = found.0

          at_home : m.conn ≡ hc
          at_home = found-conn hc a.box.links m found.1

          shows : LinkShows first m
          shows = each-first_of (LinkShows first) (λ (l : Link). l.conn == hc) a.box.links m found.1 a.arrive.shows.links

          mark : Marked (conns_of (opened o).links) (closed_by (items_in first)) (cut_by (items_in first)) m
          mark = each-first_of (Marked (conns_of (opened o).links) (closed_by (items_in first)) (cut_by (items_in first))) (λ (l : Link). l.conn == hc) a.box.links m found.1 a.arrive.marks.marks

          flows : Flows t hc (handed_of t hc first) (taken_of t hc first) m
          flows = each-first_of (Flows t hc (handed_of t hc first) (taken_of t hc first)) (λ (l : Link). l.conn == hc) a.box.links m found.1 a.flows.links

          unlost : m.lost ≡ false
          unlost = shows.lost ∙ ap (was_lost first) (at_home ∙ sym goes.0) ∙ none_first (λ (y : Deed). is_lose_of d y.0) first (deed ∷ k.between) (ap (λ ds. was_lost ds d) (sym k.first) ∙ none_lost o calls pre post x d g whole shown)

          uncut : m.cut ≡ false
          uncut = mark.cut ∙ ap (cut_by (items_in first)) (at_home ∙ sym goes.0)
              ∙ uncut_first (items_in first) (items_in (deed ∷ k.between)) d (ap (λ its. cut_by its d) (sym (items_in-append first (deed ∷ k.between)) ∙ ap items_in (sym k.first)) ∙ none_where_cut o calls pre post x d g whole shown)

          kept : is_kept m ≡ true
          kept = and_both (not m.lost) (not m.cut) (ap (λ v. not v) unlost) (ap (λ v. not v) uncut)

          by_joined : (v : Bool) → m.joined ≡ v → has_joined first hc ≡ true
          by_joined true is = ap (has_joined first) (sym at_home) ∙ sym shows.joined ∙ is
          by_joined false is =
              let all_went : handed_of t hc first ≡ taken_of t hc first = sym (append-nil (handed_of t hc first)) ∙ ap (λ q. handed_of t hc first ++ own_waiting t hc q) (sym (mark.idle is)) ∙ flows.whole at_home kept in
              let taken : taken_of t hc pre ≡ taken_of t hc first = ap (taken_of t hc) k.first ∙ taken_first first more k.between (x ∷ post) deed e (ap (λ ds. ds ++ x ∷ post) (sym k.first) ∙ whole) in
              let went : length (handed_of t hc pre) ≡ length (handed_of t hc first) + length (handed_of t hc (deed ∷ k.between)) =
              ap length (ap (handed_of t hc) k.first ∙ handed-append t hc first (deed ∷ k.between)) ∙ length-append (handed_of t hc first) (handed_of t hc (deed ∷ k.between)) in
              let same : length (handed_of t hc first) ≡ length (taken_of t hc first) = ap length all_went in
              let these : length (taken_of t hc pre) ≡ length (taken_of t hc first) = ap length taken in
              absurd (omega (arith, goes.1, went, same, these))

  -- behind its response none goes out
  after_response : (before after : List Deed) (deed : Deed) (d : ℕ) (k : Handed) (s : Sent) → before ++ deed ∷ after ≡ deeds_of o calls → handed_in_deed deed ≡ Some (d, k) → sent_as (items_in before) k.out ≡ Some s → completed_in s.item ≡ Some t
      → (between post : List Deed) (x : Deed) (e : ℕ) (g : Handed) → after ≡ between ++ x ∷ post → handed_in_deed x ≡ Some (e, g) → ticket_of_own g.out.pdu ≡ Some t → ⊥
  after_response before after deed d k s whole shown is_sent completes between post x e g parts shown_later own =
      omega (arith, goes.1, went, same, these)
    where
      pre : List Deed
      pre = before ++ deed ∷ between

      whole' : pre ++ x ∷ post ≡ deeds_of o calls
      whole' = append_assoc before (deed ∷ between) (x ∷ post) ∙ ap (λ ds. before ++ deed ∷ ds) (sym parts) ∙ whole

      goes : (e ≡ hc) × (length (handed_of t hc pre) + 1 ≤ length (taken_of t hc pre))
      goes = own_goes pre post x e g whole' shown_later own

      all_went : handed_of t hc before ≡ taken_of t hc before
      all_went = sends_all_before o calls follows before after deed d k t whole shown (ap (λ y. elim y [ Some r ↦ completed_in r.item | None ↦ None ]) is_sent ∙ completes)

      left : 1 ≤ leavings t (items_in before)
      left =
          let split = sent_split (items_in before) k.out s is_sent in
          let one : 1 ≤ leaving t s.item = completed_leaves t s.item completes in
          let counted : leavings t (items_in before) ≡ leavings t s.before + (leaving t s.item + leavings t split.0) = ap (leavings t) (sym split.1) ∙ leavings-append t s.before (s.item ∷ split.0) in
          omega (arith, one, counted)

      these : length (taken_of t hc pre) ≡ length (taken_of t hc before)
      these = ap length (taken_stays t hc o calls follows before (deed ∷ between) (x ∷ post) whole' left)

      same : length (handed_of t hc before) ≡ length (taken_of t hc before)
      same = ap length all_went

      went : length (handed_of t hc pre) ≡ length (handed_of t hc before) + length (handed_of t hc (deed ∷ between))
      went = ap length (handed-append t hc before (deed ∷ between)) ∙ length-append (handed_of t hc before) (handed_of t hc (deed ∷ between))

-- ---- the answer by which it is over

module _ (o : Opening) (calls : List Call) (follows : FollowsSession o calls) (t : ℕ) (before tail : List Deed) (answer : Deed) (c : ℕ) (h : Handed) (whole : before ++ answer ∷ tail ≡ deeds_of o calls)
    (shown : handed_in_deed answer ≡ Some (c, h)) (s : Sent) (is_sent : sent_as (items_in before) h.out ≡ Some s) (past : is_past_by o s t ≡ true) where
  abbrev items : List (List Effect)
  items = items_in before

  r : Response o calls follows t before tail answer h whole s is_sent past
  r = response o calls follows t before tail answer h whole s is_sent past

  abbrev p : ℕ
  p = r.place

  abbrev done : Done t (items_in (deeds_of o calls))
  done = record {
    before = r.reply.before;
    item = r.reply.item;
    rest = r.rest ++ items_in (answer ∷ tail);
    whole = sym (append_assoc r.reply.before (r.reply.item ∷ r.rest) (items_in (answer ∷ tail))) ∙ ap (λ its. its ++ items_in (answer ∷ tail)) r.split ∙ sym (items_in-append before (answer ∷ tail)) ∙ ap items_in whole;
    completed = r.completed;
  }

  abbrev mine : ℕ
  mine = (homes o calls follows t).0

  reply_home : r.reply.conn ≡ mine
  reply_home =
      (each-second (StaysHome t (λ e. e ≡ mine)) done.before (done.item ∷ done.rest) (subst (EachOf (StaysHome t (λ e. e ≡ mine))) (sym done.whole) (homes o calls follows t).1)).0.1
      r.completed r.reply.conn r.reply.reply r.found

  split : Split before r.reply.before r.reply.item
  split = split_deed before r.reply.before r.rest r.reply.item r.split

  quiet : (taken_of t mine (split.deed ∷ []) ≡ []) × (handed_in_deed split.deed ≡ None)
  quiet = quiet_deed t mine split.deed split.early split.rest r.reply.item split.items

  ended : Ended o calls follows t done split.first (split.more ++ answer ∷ tail) split.deed
  ended = record {
    whole = sym (append_assoc split.first (split.deed ∷ split.more) (answer ∷ tail)) ∙ ap (λ ds. ds ++ answer ∷ tail) split.whole ∙ whole;
    untaken = quiet.0;
    unhanded = quiet.1;
    left = left;
  }
    where
      left : 1 ≤ leavings t (items_in (split.first ++ split.deed ∷ []))
      left =
          let parts : items_in (split.first ++ split.deed ∷ []) ≡ (items_in split.first ++ split.early) ++ r.reply.item ∷ split.rest = items_in-more split.first split.deed ∙ ap (λ its. items_in split.first ++ its) split.items ∙ sym (append_assoc (items_in split.first) split.early (r.reply.item ∷ split.rest)) in
          let one : 1 ≤ leaving t r.reply.item = completed_leaves t r.reply.item r.completed in
          let counted : leavings t (items_in (split.first ++ split.deed ∷ [])) ≡ leavings t (items_in split.first ++ split.early) + (leaving t r.reply.item + leavings t split.rest) =
          ap (leavings t) parts ∙ leavings-append t (items_in split.first ++ split.early) (r.reply.item ∷ split.rest) in
          omega (arith, one, counted)

  -- where its connection wasn't lost, nor closed by another one's Logout, and had joined before it completed, its response went out
  response_went : has_joined split.first mine ≡ true → was_lost before mine ≡ false → cut_by items mine ≡ false → WasHanded p before
  response_went joined unlost uncut = was_handed p before (ap (is_handed p) (sym split.whole) ∙ by_handed (is_handed p ds) (not (has_joined split.first r.reply.conn)) (was_lost ds r.reply.conn) (cut_by (items_in ds) r.reply.conn) goes no_join no_loss no_cut)
    where
      ds : List Deed
      ds = split.first ++ split.deed ∷ split.more

      fenced : is_fenced o (items_in ds) h ≡ true
      fenced = ap (λ xs. is_fenced o (items_in xs) h) split.whole ∙ past_fenced o calls follows t before tail answer h whole s is_sent past

      whole' : ds ++ answer ∷ tail ≡ deeds_of o calls
      whole' = ap (λ xs. xs ++ answer ∷ tail) split.whole ∙ whole

      few : length (firsts (items_in split.first)) ≤ p
      few =
          let more = firsts-append (items_in split.first) split.early in
          let parts : length (firsts r.reply.before) ≡ length (firsts (items_in split.first)) + length more.0 = ap (λ its. length (firsts its)) split.before ∙ ap length more.1 ∙ length-append (firsts (items_in split.first)) more.0 in
          omega (arith, parts, r.place_is)

      unsent : nth p (sent_by (items_in split.first)) ≡ None
      unsent = ap (nth p) (sent_by-firsts (items_in split.first) (one_reply_before o calls split.first (split.deed ∷ (split.more ++ answer ∷ tail)) ended.whole follows)) ∙ nth_high p (firsts (items_in split.first)) few

      nth_is : nth p (sent_by (items_in ds)) ≡ Some r.reply
      nth_is = ap (λ xs. nth p (sent_by (items_in xs))) split.whole ∙ ap (nth p) (sent_by-firsts items (one_reply_before o calls before (answer ∷ tail) whole follows)) ∙ r.nth_is

      goes : (((is_handed p ds || not (has_joined split.first r.reply.conn)) || was_lost ds r.reply.conn) || cut_by (items_in ds) r.reply.conn) ≡ true
      goes = fence_first o calls follows split.first (split.deed ∷ split.more) tail answer c h p r.behind r.reply whole' shown fenced r.behind_is r.less unsent nth_is r.at_once

      no_join : not (has_joined split.first r.reply.conn) ≡ false
      no_join = ap (λ v. not v) (ap (has_joined split.first) reply_home ∙ joined)

      no_loss : was_lost ds r.reply.conn ≡ false
      no_loss = ap (λ xs. was_lost xs r.reply.conn) split.whole ∙ ap (was_lost before) reply_home ∙ unlost

      no_cut : cut_by (items_in ds) r.reply.conn ≡ false
      no_cut = ap (λ xs. cut_by (items_in xs) r.reply.conn) split.whole ∙ ap (cut_by items) reply_home ∙ uncut

      by_handed : (u v w x : Bool) → (((u || v) || w) || x) ≡ true → v ≡ false → w ≡ false → x ≡ false → u ≡ true
      by_handed true v w x some a b d = refl
      by_handed false false false false some a b d = some
      by_handed false true w x some a b d = absurd (false≢true (sym a))
      by_handed false false true x some a b d = absurd (false≢true (sym b))
      by_handed false false false true some a b d = absurd (false≢true (sym d))

  -- as it went out, it is that reply
  went_as : (w : WasHanded p before) → sent_as (items_in w.before) w.handed.out ≡ Some r.reply
  went_as w =
      ⊎_elim sent (λ (k : IsOwn w.handed.out). absurd (none_some p (sym k.none ∙ w.sent))) moment.entry
    where
      whole_w : w.before ++ w.deed ∷ (w.after ++ answer ∷ tail) ≡ deeds_of o calls
      whole_w = sym (append_assoc w.before (w.deed ∷ w.after) (answer ∷ tail)) ∙ ap (λ ds. ds ++ answer ∷ tail) w.whole ∙ whole

      moment : Reply_moment o w.before w.conn w.handed
      moment = reply_moment o calls w.before (w.after ++ answer ∷ tail) w.deed w.conn w.handed whole_w w.shown

      sent : IsSent (items_in w.before) w.conn w.handed.out → sent_as (items_in w.before) w.handed.out ≡ Some r.reply
      sent k =
          let here : SentHere o calls w.before w.handed k.place k.reply = sent_here o calls follows w.before (w.deed ∷ (w.after ++ answer ∷ tail)) whole_w w.conn w.handed k in
          let more = firsts-append (items_in w.before) (items_in (w.deed ∷ w.after)) in
          let there : nth p (firsts items) ≡ Some k.reply =
          ap (λ ds. nth p (firsts (items_in ds))) (sym w.whole) ∙ ap (λ its. nth p (firsts its)) (items_in-append w.before (w.deed ∷ w.after)) ∙ ap (nth p) more.1
          ∙ nth-first p (firsts (items_in w.before)) more.0 k.reply (ap (λ m. nth m (firsts (items_in w.before))) (sym (same_number k.place p (sym k.place_is ∙ w.sent))) ∙ k.nth_is) in
          here.as_sent ∙ sym there ∙ r.nth_is

  -- behind it no own PDU goes out
  pub own_silent : (between after : List Deed) (later : Deed) (d : ℕ) (g : Handed) → tail ≡ between ++ later ∷ after → handed_in_deed later ≡ Some (d, g) → ticket_of_own g.out.pdu ≡ Some t → ⊥
  own_silent between after later d g tail_is shown_later own =
      after_response o calls follows t done w.before (w.after ++ answer ∷ tail) w.deed w.conn w.handed r.reply whole_w w.shown (went_as w) r.completed (w.after ++ answer ∷ between) after later d g parts shown_later own
    where
      pre : List Deed
      pre = before ++ answer ∷ between

      whole' : pre ++ later ∷ after ≡ deeds_of o calls
      whole' = append_assoc before (answer ∷ between) (later ∷ after) ∙ ap (λ ds. before ++ answer ∷ ds) (sym tail_is) ∙ whole

      goes : (d ≡ mine) × (length (handed_of t mine pre) + 1 ≤ length (taken_of t mine pre))
      goes = own_goes o calls follows t done pre after later d g whole' shown_later own

      unlost : was_lost before mine ≡ false
      unlost = ap (was_lost before) (sym goes.0) ∙ none_first (λ (e : Deed). is_lose_of d e.0) before (answer ∷ between) (none_lost o calls pre after later d g whole' shown_later)

      uncut : cut_by items mine ≡ false
      uncut = ap (cut_by items) (sym goes.0) ∙ uncut_first items (items_in (answer ∷ between)) d (ap (λ its. cut_by its d) (sym (items_in-append before (answer ∷ between))) ∙ none_where_cut o calls pre after later d g whole' shown_later)

      w : WasHanded p before
      w = response_went (joined_first o calls follows t done split.first (split.more ++ answer ∷ tail) split.deed ended pre after later d g whole' shown_later own) unlost uncut

      whole_w : w.before ++ w.deed ∷ (w.after ++ answer ∷ tail) ≡ deeds_of o calls
      whole_w = sym (append_assoc w.before (w.deed ∷ w.after) (answer ∷ tail)) ∙ ap (λ ds. ds ++ answer ∷ tail) w.whole ∙ whole

      parts : w.after ++ answer ∷ tail ≡ (w.after ++ answer ∷ between) ++ later ∷ after
      parts = ap (λ ds. w.after ++ answer ∷ ds) tail_is ∙ sym (append_assoc w.after (answer ∷ between) (later ∷ after))

  -- what went out of it on another connection is through, or that connection is closed by another one's Logout
  module _ (earlier since : List Deed) (handing : Deed) (d : ℕ) (g : Handed) (whole_g : earlier ++ handing ∷ since ≡ before) (shown_g : handed_in_deed handing ≡ Some (d, g)) (elsewhere : d ≢ c) where
    abbrev Through : Type 0
    Through = (is_through o d earlier handing g since || cut_by items d) ≡ true

    whole_all : earlier ++ handing ∷ (since ++ answer ∷ tail) ≡ deeds_of o calls
    whole_all = sym (append_assoc earlier (handing ∷ since) (answer ∷ tail)) ∙ ap (λ ds. ds ++ answer ∷ tail) whole_g ∙ whole

    fenced : is_fenced o items h ≡ true
    fenced = past_fenced o calls follows t before tail answer h whole s is_sent past

    -- a reply
    reply_through : (q : Sent) → sent_as (items_in earlier) g.out ≡ Some q → Through
    reply_through q its = or_first (is_through o d earlier handing g since) (cut_by items d) (fence_before o calls follows earlier since tail handing answer c d h g whole_all shown (ap (λ ds. is_fenced o (items_in ds) h) whole_g ∙ fenced) shown_g elsewhere takes)
      where
        moment : Reply_moment o earlier d g
        moment = reply_moment o calls earlier (since ++ answer ∷ tail) handing d g whole_all shown_g

        pdu : (reply : Reply) × (g.out.pdu ≡ Replies reply)
        pdu = ⊎_elim (λ (k : IsSent (items_in earlier) d g.out). (k.reply.reply, k.pdu_is))
            (λ (k : IsOwn g.out). let no : None ≡ Some q = sym (ap (λ x. elim x [ Some place ↦ nth place (sent_by (items_in earlier)) | None ↦ None ]) k.none) ∙ its in absurd cc) moment.entry

        takes : g.out.takes ≡ true
        takes = takes_as_pdu o calls earlier (since ++ answer ∷ tail) handing d g whole_all shown_g ∙ ap takes_stat_sn pdu.1

    -- an own PDU
    own_through : ticket_of_own g.out.pdu ≡ Some t → Through
    own_through own = by_lost (was_lost since d) refl (cut_by items d) refl
      where
        goes : (d ≡ mine) × (length (handed_of t mine earlier) + 1 ≤ length (taken_of t mine earlier))
        goes = own_goes o calls follows t done earlier (since ++ answer ∷ tail) handing d g whole_all shown_g own

        -- its response goes out between the two
        with_response : was_lost since d ≡ false → cut_by items d ≡ false → is_through o d earlier handing g since ≡ true
        with_response unlost uncut =
            ⊎_elim (λ same. absurd (not_same same.0 same.1)) (λ either. ⊎_elim first_own first_response either) (in_order earlier since w.before w.after handing w.deed (whole_g ∙ sym w.whole))
          where
            handing_is : is_lose_of d handing.0 ≡ false
            handing_is = by_call handing.0 handing.1 shown_g
              where
                by_call : (x : Call) (y : _) → handed_in_deed (x, y) ≡ Some (d, g) → is_lose_of d x ≡ false
                by_call (Loses e) y k = absurd cc
                by_call _ y k = refl

            lost_nowhere : was_lost before mine ≡ false
            lost_nowhere =
                ap (was_lost before) (sym goes.0) ∙ ap (λ ds. was_lost ds d) (sym whole_g) ∙ list_any-append (λ (e : Deed). is_lose_of d e.0) earlier (handing ∷ since)
                ∙ ap (λ v. v || (is_lose_of d handing.0 || was_lost since d)) (none_lost o calls earlier (since ++ answer ∷ tail) handing d g whole_all shown_g) ∙ ap (λ v. v || was_lost since d) handing_is ∙ unlost

            w : WasHanded p before
            w = response_went (joined_first o calls follows t done split.first (split.more ++ answer ∷ tail) split.deed ended earlier (since ++ answer ∷ tail) handing d g whole_all shown_g own) lost_nowhere (ap (cut_by items) (sym goes.0) ∙ uncut)

            whole_w : w.before ++ w.deed ∷ (w.after ++ answer ∷ tail) ≡ deeds_of o calls
            whole_w = sym (append_assoc w.before (w.deed ∷ w.after) (answer ∷ tail)) ∙ ap (λ ds. ds ++ answer ∷ tail) w.whole ∙ whole

            not_same : earlier ≡ w.before → handing ≡ w.deed → ⊥
            not_same same is =
                let k : Some (d, g) ≡ Some (w.conn, w.handed) = sym shown_g ∙ ap handed_in_deed is ∙ w.shown in
                let out : g ≡ w.handed = same_handed (d, g) (w.conn, w.handed) k in
                let moment : Reply_moment o earlier d g = reply_moment o calls earlier (since ++ answer ∷ tail) handing d g whole_all shown_g in
                ⊎_elim (λ (e : IsSent (items_in earlier) d g.out). none_some t (sym (ap ticket_of_own e.pdu_is) ∙ own))
                (λ (e : IsOwn g.out). none_some p (sym e.none ∙ ap (λ (x : Handed). x.out.sent) out ∙ w.sent)) moment.entry

            first_own : Later earlier since w.before w.after handing w.deed → is_through o d earlier handing g since ≡ true
            first_own k = subst (λ ds. is_through o d earlier handing g ds ≡ true) (sym k.second) (through_behind o d earlier k.between w.after handing w.deed g w.handed shown_w (subst (λ ds. is_through o d ds w.deed w.handed w.after ≡ true) k.first through_w))
              where
                conn_is : w.conn ≡ d
                conn_is =
                    let moment : Reply_moment o w.before w.conn w.handed = reply_moment o calls w.before (w.after ++ answer ∷ tail) w.deed w.conn w.handed whole_w w.shown in
                    ⊎_elim
                    (λ (e : IsSent (items_in w.before) w.conn w.handed.out).
                    let here : SentHere o calls w.before w.handed e.place e.reply = sent_here o calls follows w.before (w.deed ∷ (w.after ++ answer ∷ tail)) whole_w w.conn w.handed e in
                    sym e.conn_is ∙ ap (λ (x : Sent). x.conn) (some_sent e.reply r.reply (sym here.as_sent ∙ went_as w)) ∙ reply_home ∙ sym goes.0)
                    (λ (e : IsOwn w.handed.out). absurd (none_some p (sym e.none ∙ w.sent))) moment.entry

                shown_w : handed_in_deed w.deed ≡ Some (d, w.handed)
                shown_w = w.shown ∙ ap (λ n. Some (n, w.handed)) conn_is

                takes_w : w.handed.out.takes ≡ true
                takes_w =
                    let moment : Reply_moment o w.before w.conn w.handed = reply_moment o calls w.before (w.after ++ answer ∷ tail) w.deed w.conn w.handed whole_w w.shown in
                    takes_as_pdu o calls w.before (w.after ++ answer ∷ tail) w.deed w.conn w.handed whole_w w.shown
                    ∙ ⊎_elim (λ (e : IsSent (items_in w.before) w.conn w.handed.out). ap takes_stat_sn e.pdu_is) (λ (e : IsOwn w.handed.out). absurd (none_some p (sym e.none ∙ w.sent))) moment.entry

                through_w : is_through o d w.before w.deed w.handed w.after ≡ true
                through_w = fence_before o calls follows w.before w.after tail w.deed answer c d h w.handed whole_w shown (ap (λ ds. is_fenced o (items_in ds) h) w.whole ∙ fenced) shown_w elsewhere takes_w

            first_response : Later w.before w.after earlier since w.deed handing → is_through o d earlier handing g since ≡ true
            first_response k =
                absurd
                (after_response o calls follows t done w.before (w.after ++ answer ∷ tail) w.deed w.conn w.handed r.reply whole_w w.shown (went_as w) r.completed k.between (since ++ answer ∷ tail) handing d g
                (ap (λ ds. ds ++ answer ∷ tail) k.second ∙ append_assoc k.between (handing ∷ since) (answer ∷ tail)) shown_g own)

        by_lost : (v : Bool) → was_lost since d ≡ v → (x : Bool) → cut_by items d ≡ x → Through
        by_lost true is x k =
            or_first (is_through o d earlier handing g since) (cut_by items d)
            (or_first (was_lost since d || has_arrived d g since) (not o.acknowledged && is_written d earlier handing since) (or_first (was_lost since d) (has_arrived d g since) is))
        by_lost false is true k = or_second (is_through o d earlier handing g since) (cut_by items d) k
        by_lost false is false k = or_first (is_through o d earlier handing g since) (cut_by items d) (with_response is k)

    pub past_through : ticket_of (items_in earlier) g.out ≡ Some t → Through
    past_through of = by_own (ticket_of_own g.out.pdu) refl of
      where
        by_sent : (x : Option Sent) → sent_as (items_in earlier) g.out ≡ x → elim x [ Some q ↦ completed_in q.item | None ↦ None ] ≡ Some t → Through
        by_sent None is e = absurd cc
        by_sent (Some q) is e = reply_through q is

        by_own : (x : Option ℕ) → ticket_of_own g.out.pdu ≡ x → elim x [ Some ticket ↦ Some ticket | None ↦ elim (sent_as (items_in earlier) g.out) [ Some q ↦ completed_in q.item | None ↦ None ] ] ≡ Some t → Through
        by_own (Some ticket) is e = own_through (is ∙ e)
        by_own None is e = by_sent (sent_as (items_in earlier) g.out) refl e

-- ---- the theorems

pub past_silent : (o : Opening) (calls : List Call) → FollowsSession o calls → (before between after : List Deed) (answer later : Deed) (c d : ℕ) (h g : Handed) (t : ℕ) → before ++ answer ∷ (between ++ later ∷ after) ≡ deeds_of o calls
    → handed_in_deed answer ≡ Some (c, h) → handed_in_deed later ≡ Some (d, g) → says_past o (items_in before) h.out t ≡ true → ticket_of (items_in (before ++ answer ∷ between)) g.out ≡ Some t → ⊥
past_silent o calls follows before between after answer later c d h g t whole shown shown_later says of = by_answer (sent_as (items_in before) h.out) refl says
  where
    by_sent : (s : Sent) → sent_as (items_in before) h.out ≡ Some s → is_past_by o s t ≡ true → (x : Option Sent) → sent_as (items_in (before ++ answer ∷ between)) g.out ≡ x → elim x [ Some q ↦ completed_in q.item | None ↦ None ] ≡ Some t → ⊥
    by_sent s is_sent past None is e = cc
    by_sent s is_sent past (Some q) is e = response_silent o calls follows t before between after answer later c d h g whole shown shown_later s is_sent past q is e

    by_own : (s : Sent) → sent_as (items_in before) h.out ≡ Some s → is_past_by o s t ≡ true → (x : Option ℕ) → ticket_of_own g.out.pdu ≡ x
        → elim x [ Some ticket ↦ Some ticket | None ↦ elim (sent_as (items_in (before ++ answer ∷ between)) g.out) [ Some q ↦ completed_in q.item | None ↦ None ] ] ≡ Some t → ⊥
    by_own s is_sent past (Some ticket) is e = own_silent o calls follows t before (between ++ later ∷ after) answer c h whole shown s is_sent past between after later d g refl shown_later (is ∙ e)
    by_own s is_sent past None is e = by_sent s is_sent past (sent_as (items_in (before ++ answer ∷ between)) g.out) refl e

    by_answer : (x : Option Sent) → sent_as (items_in before) h.out ≡ x → elim x [ Some s ↦ is_past_by o s t | None ↦ false ] ≡ true → ⊥
    by_answer None is e = false≢true e
    by_answer (Some s) is e = by_own s is e (ticket_of_own g.out.pdu) refl of

pub completes_before : (o : Opening) (calls : List Call) → FollowsSession o calls → CompletesBefore o (deeds_of o calls)
completes_before o calls follows before after answer c h t whole shown says earlier since handing d g whole_g shown_g elsewhere of = by_answer (sent_as (items_in before) h.out) refl says
  where
    by_answer : (x : Option Sent) → sent_as (items_in before) h.out ≡ x → elim x [ Some s ↦ is_past_by o s t | None ↦ false ] ≡ true → (is_through o d earlier handing g since || cut_by (items_in before) d) ≡ true
    by_answer None is e = absurd (false≢true e)
    by_answer (Some s) is e = past_through o calls follows t before after answer c h whole shown s is e earlier since handing d g whole_g shown_g elsewhere of

-- after the answer by which a command is over nothing of it goes out, be it taken out or completed
pub is_silent_after : (o : Opening) (calls : List Call) → FollowsSession o calls → SilentAfter o (deeds_of o calls)
is_silent_after o calls follows before between after answer later c d h g t whole shown shown_later over of = by_answer (sent_as (items_in before) h.out) refl over
  where
    by_either : (s : Sent) → sent_as (items_in before) h.out ≡ Some s → (v : Bool) → is_taken_out_by o s t ≡ v → (v || is_past_by o s t) ≡ true → ⊥
    by_either s is true taken e = taken_out_silent o calls follows before between after answer later c d h g t whole shown shown_later (ap (λ x. elim x [ Some r ↦ is_taken_out_by o r t | None ↦ false ]) is ∙ taken) of
    by_either s is false taken e = past_silent o calls follows before between after answer later c d h g t whole shown shown_later (ap (λ x. elim x [ Some r ↦ is_past_by o r t | None ↦ false ]) is ∙ e) of

    by_answer : (x : Option Sent) → sent_as (items_in before) h.out ≡ x → elim x [ Some s ↦ is_over_by o s t | None ↦ false ] ≡ true → ⊥
    by_answer None is e = false≢true e
    by_answer (Some s) is e = by_either s is (is_taken_out_by o s t) refl e
