-- A reply that was sent, and waits nowhere, doesn't go out any more. So the SCSI Response of a command that completed doesn't behind
-- an answer by which the command is over.
use Rattle.std.proofs.Common.{◌≡◌, ◌≢◌, ℕ, ⊎_elim, ◌==◌, ◌+◌, ◌<◌, ◌≤◌, ◌&&◌, not, true, false, List, [], ◌∷◌, ◌++◌, drop, length, filter_map, Option, Some, None, refl, ap, sym, subst, ◌∙◌, arith, eq-eqb}
use Rattle.std.specs.List.{list_any}
use Rattle.std.proofs.lemmas.Bool.{cond_both}
use Rattle.std.proofs.lemmas.List.{append_assoc}
use Rattle.std.proofs.lemmas.List.Folds.{list_any-append}
use Rattle.iscsi_wire.specs.declared.reply.Reply.{Reply}
use Rattle.iscsi_wire.specs.declared.request.Request.{Request}
use Rattle.iscsi_rules.specs.declared.effect.Effect.{Effect}
use Rattle.iscsi_rules.specs.rules.Trace.{first_of}
use Rattle.iscsi_rules.proofs.general.BoolLemmas.{and_both, or_first, or_none, or_second}
use Rattle.iscsi_outbox_rules.specs.rules.Calls.{Opening, Call}
use Rattle.iscsi_outbox_rules.specs.rules.Boxes.{Outgoing, Handed, Aim, Answer, Link, Box}
use Rattle.iscsi_outbox_rules.specs.rules.Queues.{at_link, takes_more, append, enter, without, emptied}
use Rattle.iscsi_outbox_rules.specs.rules.Items.{executing, tickets_left, reply_sent, outgoing, answer, send_as, aim, send}
use Rattle.iscsi_outbox_rules.specs.rules.Own.{own_outgoing}
use Rattle.iscsi_outbox_rules.specs.rules.Handing.{is_from_queue, taken_from, handed_as}
use Rattle.iscsi_outbox_rules.specs.rules.Run.{opened, after_call, after_calls, answered, waits_for_clear, cleared}
use Rattle.iscsi_outbox_rules.specs.promises.Deeds.{Deed, deeds_of, items_in, handed_in_deed, was_lost, is_lose_of, FollowsSession}
use Rattle.iscsi_outbox_rules.specs.promises.Numbers.{takes_stat_sn}
use Rattle.iscsi_outbox_rules.specs.promises.Fence.{is_fenced}
use Rattle.iscsi_outbox_rules.specs.promises.Scope.{Sent, nth, sent_by, sent_as, completed_in, is_past_by}
use Rattle.iscsi_outbox_rules.proofs.general.EachLemmas.{EachOf, each-append, each-first, each-second, each-filter, each-drop_one, each-first_of, each-weaken}
use Rattle.iscsi_outbox_rules.proofs.general.FoundLemmas.{find_link, EachFound, found-conn, found-map, found-at_link}
use Rattle.iscsi_outbox_rules.proofs.general.FirstLemmas.{firsts, firsts-append, nth-first}
use Rattle.iscsi_outbox_rules.proofs.general.DeedLemmas.{items_in-append}
use Rattle.iscsi_outbox_rules.proofs.general.Walks.{Walk}
use Rattle.iscsi_outbox_rules.proofs.general.Chosen.{FromQueue, chosen_from}
use Rattle.iscsi_outbox_rules.proofs.general.Cuts.{Cut, cut, keeps, Handing, handed-next}
use Rattle.iscsi_outbox_rules.proofs.general.Callwise.{call_keeps}
use Rattle.iscsi_outbox_rules.proofs.general.Boxwise.{Boxwise, box_keeps}
use Rattle.iscsi_outbox_rules.proofs.general.LinkRuns.{Fit, LinkShows}
use Rattle.iscsi_outbox_rules.proofs.numbers.NumberTheorem.{none_lost}
use Rattle.iscsi_outbox_rules.proofs.order.SentLemmas.{one_reply_before, sent_by-firsts}
use Rattle.iscsi_outbox_rules.proofs.order.PlaceRuns.{IsSent, IsOwn, Entry, Placed, PlacesStand, places_kept, place_starts, own_ping}
use Rattle.iscsi_outbox_rules.proofs.order.OnceTheorem.{Reply_moment, reply_moment}
use Rattle.iscsi_outbox_rules.proofs.order.CountRuns.{is_at}
use Rattle.iscsi_outbox_rules.proofs.order.PlaceTimes.{Times, TimelyStand, timely_start}
use Rattle.iscsi_outbox_rules.proofs.order.PlaceHere.{is_it, is_same_ticket, same_itself}
use Rattle.iscsi_outbox_rules.proofs.order.PlaceCalls.{times_kept}
use Rattle.iscsi_outbox_rules.proofs.order.PlaceTheorem.{nth_low, in_all, none_waits}
use Rattle.iscsi_outbox_rules.proofs.arrivals.ArriveThrough.{ArriveStand, arrive_kept, arrive_start}
use Rattle.iscsi_outbox_rules.proofs.commands.TicketRuns.{OfItem, OfOwn, Of, OfCommands, OfStands, of_calls, of_starts}
use Rattle.iscsi_outbox_rules.proofs.commands.LeaveLemmas.{leavings, leavings-append, leaves_once}
use Rattle.iscsi_outbox_rules.proofs.aborts.PastItems.{one_place, past_fenced, Response, response}

same_number : (m n : ℕ) → Some m ≡ Some n → m ≡ n
same_number m n h = cc

some_sent : (s r : Sent) → Some s ≡ Some r → s ≡ r
some_sent s r h = cc

-- ---- what waits nowhere

module _ (o : Opening) (p : ℕ) where
  abbrev Apart : Outgoing → Type 0
  Apart x = x.sent ≡ Some p → ⊥

  abbrev LinkApart : Link → Type 0
  LinkApart l = EachOf Apart l.queue

  abbrev AnswerApart : Answer → Type 0
  AnswerApart a = Apart a.out

  pub record AbsentStand (b : Box) : Type 0 where
    pub low : p < b.sent
    pub links : EachFound LinkApart b.links
    pub undue : EachOf AnswerApart b.undue

  abbrev Absent : List (List Effect) → Box → Type 0
  Absent items b = AbsentStand b

  append_conn : (out : Outgoing) (l : Link) → (append out l).conn ≡ l.conn
  append_conn out l = cond_both (takes_more l) (record l { queue = l.queue ++ out ∷ [] }) l (λ (m : Link). m.conn ≡ l.conn) (λ is. refl) (λ is. refl)

  entered : (conn : ℕ) (out : Outgoing) (links : List Link) → Apart out → EachFound LinkApart links → EachFound LinkApart (at_link conn (append out) links)
  entered conn out links new h =
      found-at_link LinkApart LinkApart conn (append out) (append_conn out) links
      (λ l found k. cond_both (takes_more l) (record l { queue = l.queue ++ out ∷ [] }) l LinkApart (λ more. each-append Apart l.queue (out ∷ []) k (new, tt)) (λ no. k)) (λ l isnt k. k) h

  sends_one : (b : Box) (r : Option Request) (tickets conns closes : List ℕ) (x : Option (ℕ × Reply)) → AbsentStand b → AbsentStand (send o r tickets conns closes x b)
  sends_one b r tickets conns closes None h = h
  sends_one b r tickets conns closes (Some s) h = by_request r
    where
      new : (q : Option Request) → Apart (outgoing b q tickets s.1)
      new q is = let same : b.sent ≡ p = same_number b.sent p is in omega (arith, same, h.low)

      enters_now : (q : Option Request) → AbsentStand (let b' = enter s.0 (outgoing b q tickets s.1) b in record b' { sent = b'.sent + 1 })
      enters_now q = record {
        low = (let z : p < b.sent + 1 = omega (arith, h.low) in z);
        links = entered s.0 (record (outgoing b q tickets s.1) { time = b.time }) b.links (new q) h.links;
        undue = h.undue;
      }

      by_aim : (q : Request) (x : Option Aim) → AbsentStand (let b' = send_as o (Some q) x conns closes s.0 (outgoing b (Some q) tickets s.1) b in record b' { sent = b'.sent + 1 })
      by_aim q None = enters_now (Some q)
      by_aim q (Some about) =
          let a : Answer = answer o b q conns closes s.0 (outgoing b (Some q) tickets s.1) about in
          let low : p < b.sent + 1 = omega (arith, h.low) in
          cond_both (list_any (λ (l : Link). (l.conn == a.conn) && takes_more l) b.links) (record b { undue = b.undue ++ a ∷ [] }) b (λ (b' : Box). AbsentStand (record b' { sent = b'.sent + 1 }))
          (λ may. record { low = low; links = h.links; undue = each-append AnswerApart b.undue (a ∷ []) h.undue (new (Some q), tt) }) (λ may. record { low = low; links = h.links; undue = h.undue })

      by_request : (q : Option Request) → AbsentStand (send o q tickets conns closes (Some s) b)
      by_request (Some q) = by_aim q (aim o (Some q) s.1)
      by_request None = enters_now None

  absent_walk : Walk o Absent
  absent_walk = record {
    tasks = λ items b ts h. record { low = h.low; links = h.links; undue = h.undue };
    drops = λ items b these h. record { low = h.low; links = found-map LinkApart LinkApart (without these) (λ l. refl) b.links (λ c l found e. each-filter Apart _ l.queue e) h.links; undue = h.undue };
    closes = λ items b conn h. record { low = h.low; links = found-at_link LinkApart LinkApart conn (λ l. record l { closed = true }) (λ l. refl) b.links (λ l found e. e) (λ l isnt e. e) h.links; undue = h.undue };
    cuts = λ items b conn h. record { low = h.low; links = found-at_link LinkApart LinkApart conn (λ l. record l { closed = true; cut = true }) (λ l. refl) b.links (λ l found e. e) (λ l isnt e. e) h.links; undue = h.undue };
    drops_on = λ items b conn over h. record {
      low = h.low;
      links = found-at_link LinkApart LinkApart conn emptied (λ l. refl) b.links (λ l found e. tt) (λ l isnt e. e) h.links;
      undue = each-filter AnswerApart (λ (a : Answer). not (a.conn == conn)) b.undue h.undue;
    };
    moves = λ items b before rest a due h.
        let later = each-second AnswerApart before (a ∷ rest) h.undue in
        record {
          low = h.low;
          links = entered a.conn (record (a.out) { time = b.time }) b.links later.0 h.links;
          undue = each-append AnswerApart before rest (each-first AnswerApart before (a ∷ rest) h.undue) later.1;
        };
    sends = λ items b item conns closes h. sends_one b (executing item) (tickets_left item) conns closes (first_of (filter_map reply_sent item)) h;
  }

  clears : (unit : ℕ) (answers : List Answer) → EachOf AnswerApart answers → EachOf AnswerApart (cleared unit answers)
  clears unit [] h = tt
  clears unit (a ∷ answers) h =
      cond_both (waits_for_clear unit a) (record a { uncleared = false } ∷ answers) (a ∷ cleared unit answers) (EachOf AnswerApart) (λ is. (h.0, h.1)) (λ is. (h.0, clears unit answers h.1))

  taken : (out : Outgoing) (l : Link) → LinkApart l → LinkApart (taken_from out l)
  taken out l e = cond_both (is_from_queue out) (record l { queue = drop 1 l.queue }) l LinkApart (λ is. each-drop_one Apart l.queue e) (λ is. e)

  taken_conn : (out : Outgoing) (l : Link) → (taken_from out l).conn ≡ l.conn
  taken_conn out l = cond_both (is_from_queue out) (record l { queue = drop 1 l.queue }) l (λ (m : Link). m.conn ≡ l.conn) (λ is. refl) (λ is. refl)

  absent_boxes : Boxwise o (λ (ds : List Deed) (b : Box). Unit {0}) Absent
  absent_boxes = record {
    walk = absent_walk;
    numbers = λ items b exp max h. record { low = h.low; links = h.links; undue = h.undue };
    puts = λ items b conn own h.
        record { low = h.low; links = entered conn (record (own_outgoing own) { time = b.time }) b.links (λ is. let no : None ≡ Some p = is in cc) h.links; undue = h.undue };
    marks = λ items b conn change alike h. record {
      low = h.low;
      links = found-at_link LinkApart LinkApart conn change (λ l. (alike l).conn) b.links (λ l found e. subst (EachOf Apart) (sym (alike l).queue) e) (λ l isnt e. e) h.links;
      undue = h.undue;
    };
    reaches = λ items b n h. record { low = h.low; links = h.links; undue = h.undue };
    clears = λ items b unit h. record { low = h.low; links = h.links; undue = clears unit b.undue h.undue };
    hands = λ ds b conn h n from j stands.
        let g : Handed = handed_as o b n.link n.out in
        record {
          low = stands.low;
          links = found-at_link LinkApart LinkApart n.link.conn (λ m. record m { handed = m.handed ++ g ∷ [] }) (λ m. refl) (at_link n.link.conn (taken_from n.out) b.links) (λ m found e. e) (λ m isnt e. e)
              (found-at_link LinkApart LinkApart n.link.conn (taken_from n.out) (taken_conn n.out) b.links (λ m found e. taken n.out m e) (λ m isnt e. e) stands.links);
          undue = stands.undue;
        };
  }

  absent_call : (b : Box) (c : Call) → AbsentStand b → AbsentStand (after_call o b c)
  absent_call b c h = box_keeps o (λ (es : List Deed) (x : Box). Unit {0}) Absent absent_boxes [] b c tt h

  pub absent_calls : (b : Box) (cs : List Call) → AbsentStand b → AbsentStand (after_calls o b cs)
  absent_calls b cs h = keeps o (λ (es : List Deed) (x : Box). AbsentStand x) (λ es x c k. absent_call x c k) [] b cs h

  pub absent_next : (b : Box) (c : Call) → AbsentStand b → AbsentStand (after_call o b c)
  absent_next b c h = absent_call b c h

-- ---- the SCSI Response of a command that completed

module _ (o : Opening) (calls : List Call) (follows : FollowsSession o calls) (t : ℕ) (before between after : List Deed) (answer later : Deed) (c d : ℕ) (h g : Handed)
    (whole : before ++ answer ∷ (between ++ later ∷ after) ≡ deeds_of o calls) (shown : handed_in_deed answer ≡ Some (c, h)) (shown_later : handed_in_deed later ≡ Some (d, g))
    (s : Sent) (is_sent : sent_as (items_in before) h.out ≡ Some s) (past : is_past_by o s t ≡ true)
    (q : Sent) (its : sent_as (items_in (before ++ answer ∷ between)) g.out ≡ Some q) (completes : completed_in q.item ≡ Some t) where
  abbrev since : List Deed
  since = before ++ answer ∷ between

  abbrev tail : List Deed
  tail = between ++ later ∷ after

  whole' : since ++ later ∷ after ≡ deeds_of o calls
  whole' = append_assoc before (answer ∷ between) (later ∷ after) ∙ whole

  r : Response o calls follows t before tail answer h whole s is_sent past
  r = response o calls follows t before tail answer h whole s is_sent past

  abbrev p : ℕ
  p = r.place

  -- what goes out is in the place of the response
  later_place : (m : ℕ) → g.out.sent ≡ Some m → nth m (firsts (items_in since)) ≡ Some q → m ≡ p
  later_place m at is = one_place t [] (items_in since) m p q r.reply is there completes r.completed once
    where
      more : (rest : List Sent) × (firsts (items_in before ++ items_in (answer ∷ between)) ≡ firsts (items_in before) ++ rest)
      more = firsts-append (items_in before) (items_in (answer ∷ between))

      there : nth p (firsts (items_in since)) ≡ Some r.reply
      there = ap (λ xs. nth p (firsts xs)) (items_in-append before (answer ∷ between)) ∙ ap (nth p) more.1 ∙ nth-first p (firsts (items_in before)) more.0 r.reply r.nth_is

      once : leavings t (items_in since) ≤ 1
      once =
          let all : leavings t (items_in (deeds_of o calls)) ≤ 1 = leaves_once t o calls follows in
          let split : leavings t (items_in since ++ items_in (later ∷ after)) ≡ leavings t (items_in (deeds_of o calls)) = ap (leavings t) (sym (items_in-append since (later ∷ after)) ∙ ap items_in whole') in
          let counted : leavings t (items_in since ++ items_in (later ∷ after)) ≡ leavings t (items_in since) + leavings t (items_in (later ∷ after)) = leavings-append t (items_in since) (items_in (later ∷ after)) in
          omega (arith, all, split, counted)

  moment : Reply_moment o since d g
  moment = reply_moment o calls since after later d g whole' shown_later

  abbrev Found : Type 0
  Found = (g.out.sent ≡ Some p) × (r.reply.conn ≡ d)

  found : Found
  found = ⊎_elim sent own moment.entry
    where
      own : IsOwn g.out → Found
      own k = let no : None ≡ Some q = sym (ap (λ x. elim x [ Some place ↦ nth place (sent_by (items_in since)) | None ↦ None ]) k.none) ∙ its in absurd cc

      sent : IsSent (items_in since) d g.out → Found
      sent k =
          let same : k.reply ≡ q =
          some_sent k.reply q
          (sym (ap (λ x. elim x [ Some place ↦ nth place (sent_by (items_in since)) | None ↦ None ]) k.place_is
          ∙ ap (nth k.place) (sent_by-firsts (items_in since) (one_reply_before o calls since (later ∷ after) whole' follows)) ∙ k.nth_is) ∙ its) in
          let at : k.place ≡ p = later_place k.place k.place_is (k.nth_is ∙ ap (λ (x : Sent). Some x) same) in
          let more = firsts-append (items_in before) (items_in (answer ∷ between)) in
          let there : nth k.place (firsts (items_in since)) ≡ Some r.reply =
          ap (λ n. nth n (firsts (items_in since))) at ∙ ap (λ xs. nth p (firsts xs)) (items_in-append before (answer ∷ between)) ∙ ap (nth p) more.1 ∙ nth-first p (firsts (items_in before)) more.0 r.reply r.nth_is in
          (k.place_is ∙ ap (λ n. Some n) at, ap (λ (x : Sent). x.conn) (some_sent r.reply k.reply (sym there ∙ k.nth_is)) ∙ k.conn_is)

  -- ---- as the answer goes out

  abbrev all : List (List Effect)
  all = items_in (deeds_of o calls)

  fenced : is_fenced o (items_in before) h ≡ true
  fenced = past_fenced o calls follows t before tail answer h whole s is_sent past

  nth_sent : nth p (sent_by (items_in before)) ≡ Some r.reply
  nth_sent = ap (nth p) (sent_by-firsts (items_in before) (one_reply_before o calls before (answer ∷ tail) whole follows)) ∙ r.nth_is

  abbrev in_log : nth p (firsts all) ≡ Some r.reply
  in_log = in_all o calls follows [] before before tail refl answer c h p r.behind r.reply whole shown fenced r.behind_is r.less nth_sent refl r.at_once

  record PastStand (ds : List Deed) (b : Box) : Type 0 where
    arrive : ArriveStand o ds b
    times : Times o all p r.reply in_log r.at_once (items_in ds) b
    places : PlacesStand ds b
    of : OfStands ds b

  past_kept : (ds : List Deed) (b : Box) (call : Call) → PastStand ds b → PastStand (ds ++ (call, answered o b call) ∷ []) (after_call o b call)
  past_kept ds b call k = record {
    arrive = arrive_kept o ds b call k.arrive;
    times = times_kept o all (λ u. leaves_once u o calls follows) p r.reply in_log r.at_once ds b call k.times;
    places = places_kept o ds b call k.places;
    of = call_keeps o OfCommands Of (of_calls o) ds b call k.of;
  }

  past_start : PastStand [] (opened o)
  past_start = record { arrive = arrive_start o; times = timely_start o all p r.reply in_log r.at_once; places = place_starts o; of = of_starts o }

  k₁ : Cut o (opened o) calls before answer tail
  k₁ = cut o (opened o) calls before answer tail whole

  abbrev b₁ : Box
  b₁ = after_calls o (opened o) k₁.first

  stand : PastStand before b₁
  stand = subst (λ ds. PastStand ds b₁) (sym k₁.before_is) (keeps o PastStand past_kept [] (opened o) k₁.first past_start)

  n₁ : Handing o b₁ c h
  n₁ = (handed-next o b₁ k₁.call c h (ap handed_in_deed (sym k₁.deed_is) ∙ shown)).1

  abbrev items : List (List Effect)
  items = items_in before

  times : TimelyStand o all p r.reply in_log r.at_once items b₁
  times = stand.times (items_in (answer ∷ tail)) (sym (items_in-append before (answer ∷ tail)) ∙ ap items_in whole)

  unlost : was_lost before d ≡ false
  unlost = (or_none (was_lost before d) (was_lost (answer ∷ between) d) (sym (list_any-append (λ (e : Deed). is_lose_of d e.0) before (answer ∷ between)) ∙ none_lost o calls since after later d g whole' shown_later)).0

  -- it doesn't wait on a connection
  queue_apart : (l : Link) → find_link l.conn b₁.links ≡ Some l → (queue : List Outgoing) → EachOf (Entry items l.conn) queue → EachOf (Of items l.conn) queue → EachOf Fit queue
      → (list_any (is_it o p r.reply) queue ≡ true → list_any (is_it o p r.reply) l.queue ≡ true) → EachOf (λ (x : Outgoing). x.sent ≡ Some p → ⊥) queue
  queue_apart l found_l [] e of fit among = tt
  queue_apart l found_l (x ∷ queue) e of fit among = (
    (λ is. ⊎_elim (λ (k : IsSent items l.conn x). it_waits k is) (λ (k : IsOwn x). let no : None ≡ Some p = sym k.none ∙ is in cc) e.0),
    queue_apart l found_l queue e.1 of.1 fit.1 (λ some. among (or_second (is_it o p r.reply x) (list_any (is_it o p r.reply) queue) some)),
  )
    where
      it_waits : IsSent items l.conn x → x.sent ≡ Some p → ⊥
      it_waits k is = none_waits o calls follows [] before before tail refl answer c h p r.behind r.reply whole shown fenced r.behind_is r.less nth_sent refl r.at_once b₁ stand.arrive times n₁ l found_r lost_not (among (or_first (is_it o p r.reply x) (list_any (is_it o p r.reply) queue) it))
        where
          same_reply : k.reply ≡ r.reply
          same_reply = some_sent k.reply r.reply (sym k.nth_is ∙ ap (λ m. nth m (firsts items)) (same_number k.place p (sym k.place_is ∙ is)) ∙ r.nth_is)

          at : l.conn ≡ r.reply.conn
          at = sym k.conn_is ∙ ap (λ (y : Sent). y.conn) same_reply

          found_r : find_link r.reply.conn b₁.links ≡ Some l
          found_r = ap (λ e. find_link e b₁.links) (sym at) ∙ found_l

          shows : LinkShows before l
          shows = each-first_of (LinkShows before) (λ (m : Link). m.conn == l.conn) b₁.links l found_l stand.arrive.shows.links

          lost_not : l.lost ≡ false
          lost_not = shows.lost ∙ ap (was_lost before) (at ∙ found.1) ∙ unlost

          ticket : x.ticket ≡ completed_in r.reply.item
          ticket = ⊎_elim (λ (y : OfItem items x). y.ticket_is ∙ ap (λ (z : Sent). completed_in z.item) (some_sent y.reply r.reply (sym y.nth_is ∙ ap (λ m. nth m (firsts items)) (same_number y.place p (sym y.place_is ∙ is)) ∙ r.nth_is)))
              (λ (y : OfOwn x). let no : None ≡ Some p = sym y.none ∙ is in absurd cc) of.0

          it : is_it o p r.reply x ≡ true
          it =
              and_both (is_at p x && x.takes) (is_same_ticket x.ticket (completed_in r.reply.item))
              (and_both (is_at p x) x.takes (ap (λ y. elim y [ Some j ↦ j == p | None ↦ false ]) is ∙ eq-eqb p p refl) (fit.0.takes ∙ ap takes_stat_sn k.pdu_is))
              (ap (λ y. is_same_ticket y (completed_in r.reply.item)) ticket ∙ same_itself (completed_in r.reply.item))

  absent₁ : AbsentStand o p b₁
  absent₁ = record {
    low = (let z : p < length (firsts items) = nth_low p (firsts items) r.reply r.nth_is in subst (λ m. p < m) (sym times.counted) z);
    links = λ conn l found_l.
        let at : l.conn ≡ conn = found-conn conn b₁.links l found_l in
        queue_apart l (ap (λ e. find_link e b₁.links) at ∙ found_l) l.queue
        (each-first_of (Placed before items) (λ (m : Link). m.conn == conn) b₁.links l found_l stand.places.links).waits
        (each-first_of (OfCommands before items) (λ (m : Link). m.conn == conn) b₁.links l found_l stand.of.links)
        (each-first_of (LinkShows before) (λ (m : Link). m.conn == conn) b₁.links l found_l stand.arrive.shows.links).fit (λ some. some);
    undue = each-weaken (λ (a : Answer). (j : ℕ) → a.out.sent ≡ Some j → (j < b₁.sent) × (j ≢ p)) (λ (a : Answer). a.out.sent ≡ Some p → ⊥) b₁.undue (λ a e is. (e p is).1 refl) times.undue;
  }

  -- so it doesn't go out behind it
  pub response_silent : ⊥
  response_silent =
      ⊎_elim (λ (k : FromQueue o b₂ n₂.link n₂.out). (subst (EachOf (λ (x : Outgoing). x.sent ≡ Some p → ⊥)) k.queue_is (absent₂.links d n₂.link n₂.found)).0 out_sent)
      (λ other. let no : None ≡ Some p = sym (own_ping o b₂ n₂.link n₂.out other).none ∙ out_sent in cc) (chosen_from o b₂ n₂.link n₂.out n₂.chosen_is).source
    where
      b₁' : Box
      b₁' = after_call o b₁ k₁.call

      k₂ : Cut o b₁' k₁.rest between later after
      k₂ = cut o b₁' k₁.rest between later after k₁.after_is

      b₂ : Box
      b₂ = after_calls o b₁' k₂.first

      n₂ : Handing o b₂ d g
      n₂ = (handed-next o b₂ k₂.call d g (ap handed_in_deed (sym k₂.deed_is) ∙ shown_later)).1

      absent₂ : AbsentStand o p b₂
      absent₂ = absent_calls o p b₁' k₂.first (absent_next o p b₁ k₁.call absent₁)

      out_sent : n₂.out.sent ≡ Some p
      out_sent = ap (λ (x : Handed). x.out.sent) (sym n₂.is) ∙ found.0
