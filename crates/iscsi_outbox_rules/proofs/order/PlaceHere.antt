-- A reply that didn't have to wait entered the queue of its connection as it was sent: there it waits, or it was handed out, unless
-- the connection takes nothing. This is what each step within a call keeps.
use Rattle.std.proofs.Common.{◌≡◌, ℕ, ◌+◌, ◌<◌, ⊎_elim, ◌==◌, ◌&&◌, ◌||◌, not, cond, Bool, true, false, List, [], ◌∷◌, ◌++◌, filter, filter_map, length, Option, Some, None, refl, ap, sym, subst, ◌∙◌, arith, eq-eqb}
use Rattle.std.specs.List.{list_any}
use Rattle.std.proofs.lemmas.Bool.{cond_both, eqb-false, cases_eq, cases_lt}
use Rattle.std.proofs.lemmas.List.{append_assoc, append-nil}
use Rattle.std.proofs.lemmas.List.Folds.{list_any-append}
use Rattle.iscsi_wire.specs.Fields.{connection_of}
use Rattle.iscsi_wire.specs.declared.reply.Reply.{Reply}
use Rattle.iscsi_wire.specs.declared.request.Request.{Request}
use Rattle.iscsi_rules.specs.declared.effect.Effect.{Effect}
use Rattle.iscsi_rules.specs.rules.Trace.{first_of}
use Rattle.iscsi_rules.proofs.general.BoolLemmas.{and_both, or_first, or_second}
use Rattle.iscsi_outbox_rules.specs.rules.Calls.{Opening}
use Rattle.iscsi_outbox_rules.specs.rules.Boxes.{Outgoing, Handed, Aim, Answer, Link, Box}
use Rattle.iscsi_outbox_rules.specs.rules.Words.{contains, is_of}
use Rattle.iscsi_outbox_rules.specs.rules.Queues.{at_link, takes_more, append, enter, without, emptied, drop_on}
use Rattle.iscsi_outbox_rules.specs.rules.Due.{is_due, settle_from}
use Rattle.iscsi_outbox_rules.specs.rules.Items.{executing, tickets_left, ticket_enabled, phase_enabled, in_phase, reply_sent, closed_in, newly_closed, leave, enter_tasks, close_one, close_all, close, outgoing, answer, send_as, aim, send, after_item, after_items}
use Rattle.iscsi_outbox_rules.specs.promises.Scope.{Sent, aim_of_sent, completed_in}
use Rattle.iscsi_outbox_rules.proofs.general.FoundLemmas.{EachFound, found-conn, found-map, found-at_link}
use Rattle.iscsi_outbox_rules.proofs.general.FirstLemmas.{firsts, firsts-none, firsts-some, length-push}
use Rattle.iscsi_outbox_rules.proofs.order.CountRuns.{is_at}
use Rattle.iscsi_outbox_rules.proofs.arrivals.ArriveDeeds.{or_stays}

abbrev pub is_same_ticket : Option ℕ → Option ℕ → Bool
is_same_ticket (Some t) (Some u) = t == u
is_same_ticket None None = true
is_same_ticket _ _ = false

pub same_itself : (x : Option ℕ) → is_same_ticket x x ≡ true
same_itself (Some t) = eq-eqb t t refl
same_itself None = refl

pub any_kept : (p q : Outgoing → Bool) (xs : List Outgoing) → ((x : Outgoing) → p x ≡ true → q x ≡ true) → list_any p xs ≡ true → list_any p (filter q xs) ≡ true
any_kept p q [] f some = some
any_kept p q (x ∷ xs) f some =
    elim (p x) as (λ v. p x ≡ v → (v || list_any p xs) ≡ true → list_any p (cond (q x) (x ∷ filter q xs) (filter q xs)) ≡ true) [
      | true ↦ λ is here. subst (λ v. list_any p (cond v (x ∷ filter q xs) (filter q xs)) ≡ true) (sym (f x is)) (or_first (p x) (list_any p (filter q xs)) is)
      | false ↦ λ is later. let rest : list_any p (filter q xs) ≡ true = any_kept p q xs f later in cond_both (q x) (x ∷ filter q xs) (filter q xs) (λ ys. list_any p ys ≡ true) (λ k. or_second (p x) (list_any p (filter q xs)) rest) (λ k. rest)
    ] refl some

-- ---- what these steps do to the count of what was sent

sent_settle : (o : Opening) (before rest : List Answer) (b : Box) → (settle_from o before rest b).sent ≡ b.sent
sent_settle o before [] b = refl
sent_settle o before (a ∷ rest) b =
    cond_both (is_due o b before a) (settle_from o before rest (enter a.conn a.out b)) (settle_from o (before ++ a ∷ []) rest b) (λ (b' : Box). b'.sent ≡ b.sent)
    (λ due. sent_settle o before rest (enter a.conn a.out b)) (λ due. sent_settle o (before ++ a ∷ []) rest b)

sent_close_all : (by : ℕ) (conns : List ℕ) (b : Box) → (close_all by conns b).sent ≡ b.sent
sent_close_all by [] b = refl
sent_close_all by (conn ∷ conns) b =
    sent_close_all by conns (close_one by conn b)
    ∙ cond_both (conn == by) (record b { links = at_link conn (λ l. record l { closed = true }) b.links }) (drop_on conn (record b { links = at_link conn (λ l. record l { closed = true; cut = true }) b.links }))
    (λ (b' : Box). b'.sent ≡ b.sent) (λ is. refl) (λ is. refl)

sent_closed : (r : Option Request) (tickets closes : List ℕ) (item : List Effect) (b : Box) → (close r closes (enter_tasks r item (leave r tickets b))).sent ≡ b.sent
sent_closed (Some r) tickets closes item b = sent_close_all (connection_of r) closes (enter_tasks (Some r) item (leave (Some r) tickets b))
sent_closed None tickets closes item b = refl

-- the reply `s` at the place `p` of the log
module _ (o : Opening) (p : ℕ) (s : Sent) where
  abbrev pub is_it : Outgoing → Bool
  is_it x = (is_at p x && x.takes) && is_same_ticket x.ticket (completed_in s.item)

  abbrev pub is_here : Link → Bool
  is_here l = (list_any (λ (g : Handed). is_it g.out) l.handed || list_any is_it l.queue) || not (takes_more l)

  abbrev pub Here : Link → Type 0
  Here l = l.conn ≡ s.conn → is_here l ≡ true

  -- ---- a connection changes

  pub here_at : (conn : ℕ) (change : Link → Link) (links : List Link) → ((l : Link) → (change l).conn ≡ l.conn) → ((l : Link) → is_here l ≡ true → is_here (change l) ≡ true) → EachFound Here links → EachFound Here (at_link conn change links)
  here_at conn change links same f h = found-at_link Here Here conn change same links (λ l found k is. f l (k (sym (same l) ∙ is))) (λ l isnt k. k) h

  append_conn : (out : Outgoing) (l : Link) → (append out l).conn ≡ l.conn
  append_conn out l = cond_both (takes_more l) (record l { queue = l.queue ++ out ∷ [] }) l (λ (m : Link). m.conn ≡ l.conn) (λ is. refl) (λ is. refl)

  pub here_enter : (conn : ℕ) (out : Outgoing) (links : List Link) → EachFound Here links → EachFound Here (at_link conn (append out) links)
  here_enter conn out links h =
      here_at conn (append out) links (append_conn out)
      (λ l k. cond_both (takes_more l) (record l { queue = l.queue ++ out ∷ [] }) l (λ (m : Link). is_here m ≡ true)
      (λ more.
      or_stays (list_any (λ (g : Handed). is_it g.out) l.handed || list_any is_it l.queue) (not (takes_more l)) (list_any (λ (g : Handed). is_it g.out) l.handed || list_any is_it (l.queue ++ out ∷ [])) (not (takes_more l))
      (or_stays (list_any (λ (g : Handed). is_it g.out) l.handed) (list_any is_it l.queue) (list_any (λ (g : Handed). is_it g.out) l.handed) (list_any is_it (l.queue ++ out ∷ [])) (λ j. j)
      (λ j. list_any-append is_it l.queue (out ∷ []) ∙ or_first (list_any is_it l.queue) (list_any is_it (out ∷ [])) j)) (λ j. j) k)
      (λ more. k)) h

  abbrev Over : ℕ → Link → Type 0
  Over conn l = Here l × (l.conn ≡ conn → not (takes_more l) ≡ true)

  -- what waits on one that was lost or cut is dropped
  pub here_drop : (conn : ℕ) (change : Link → Link) (links : List Link) → ((l : Link) → (change l).conn ≡ l.conn) → ((l : Link) → not (takes_more (change l)) ≡ true) → EachFound Here links → EachFound Here (at_link conn emptied (at_link conn change links))
  here_drop conn change links same over h =
      found-at_link (Over conn) Here conn emptied (λ l. refl) (at_link conn change links)
      (λ l found k is. or_second (list_any (λ (g : Handed). is_it g.out) l.handed || false) (not (takes_more l)) (k.1 (found-conn conn (at_link conn change links) l found))) (λ l isnt k. k.0)
      (found-at_link Here (Over conn) conn change same links
      (λ l found k. (
        (λ is. or_second (list_any (λ (g : Handed). is_it g.out) (change l).handed || list_any is_it (change l).queue) (not (takes_more (change l))) (over l)),
        (λ at. over l),
      ))
      (λ l isnt k. (k, (λ at. absurd (eqb-false l.conn conn isnt at)))) h)

  -- ---- steps

  pub here_settle : (before rest : List Answer) (b : Box) → EachFound Here b.links → EachFound Here (settle_from o before rest b).links
  here_settle before [] b h = h
  here_settle before (a ∷ rest) b h =
      cond_both (is_due o b before a) (settle_from o before rest (enter a.conn a.out b)) (settle_from o (before ++ a ∷ []) rest b) (λ (b' : Box). EachFound Here b'.links)
      (λ due. here_settle before rest (enter a.conn a.out b) (here_enter a.conn (record (a.out) { time = b.time }) b.links h)) (λ due. here_settle (before ++ a ∷ []) rest b h)

  here_leave : (r : Option Request) (tickets : List ℕ) (b : Box) → ((q : Request) → r ≡ Some q → (x : Outgoing) → is_it x ≡ true → is_of (contains tickets) x ≡ false) → EachFound Here b.links → EachFound Here (leave r tickets b).links
  here_leave None tickets b spare h = h
  here_leave (Some r) tickets b spare h =
      found-map Here Here (without (contains tickets)) (λ l. refl) b.links
      (λ conn l found k is.
      or_stays (list_any (λ (g : Handed). is_it g.out) l.handed || list_any is_it l.queue) (not (takes_more l)) (list_any (λ (g : Handed). is_it g.out) l.handed || list_any is_it (filter (λ x. not (is_of (contains tickets) x)) l.queue)) (not (takes_more l))
      (or_stays (list_any (λ (g : Handed). is_it g.out) l.handed) (list_any is_it l.queue) (list_any (λ (g : Handed). is_it g.out) l.handed) (list_any is_it (filter (λ x. not (is_of (contains tickets) x)) l.queue)) (λ j. j)
      (any_kept is_it (λ x. not (is_of (contains tickets) x)) l.queue (λ x it. ap (λ v. not v) (spare r refl x it)))) (λ j. j) (k is)) h

  here_tasks : (r : Option Request) (item : List Effect) (b : Box) → EachFound Here b.links → EachFound Here (enter_tasks r item b).links
  here_tasks (Some r) item b h = h
  here_tasks None item b h = h

  shut : (v : Bool) → not (v && false) ≡ true
  shut true = refl
  shut false = refl

  here_close_all : (by : ℕ) (conns : List ℕ) (b : Box) → EachFound Here b.links → EachFound Here (close_all by conns b).links
  here_close_all by [] b h = h
  here_close_all by (conn ∷ conns) b h =
      here_close_all by conns (close_one by conn b)
      (cond_both (conn == by) (record b { links = at_link conn (λ l. record l { closed = true }) b.links }) (drop_on conn (record b { links = at_link conn (λ l. record l { closed = true; cut = true }) b.links }))
      (λ (b' : Box). EachFound Here b'.links)
      (λ is. here_at conn (λ l. record l { closed = true }) b.links (λ l. refl) (λ l k. k) h)
      (λ is. here_drop conn (λ l. record l { closed = true; cut = true }) b.links (λ l. refl) (λ l. shut (l.joined && not l.lost)) h))

  here_close : (r : Option Request) (conns : List ℕ) (b : Box) → EachFound Here b.links → EachFound Here (close r conns b).links
  here_close (Some r) conns b h = here_close_all (connection_of r) conns b h
  here_close None conns b h = h

  -- ---- replies

  here_send : (r : Option Request) (tickets conns closes : List ℕ) (x : Option (ℕ × Reply)) (b : Box) → EachFound Here b.links → EachFound Here (send o r tickets conns closes x b).links
  here_send r tickets conns closes None b h = h
  here_send None tickets conns closes (Some y) b h = here_enter y.0 (record (outgoing b None tickets y.1) { time = b.time }) b.links h
  here_send (Some r) tickets conns closes (Some y) b h = by_aim (aim o (Some r) y.1)
    where
      by_aim : (x : Option Aim) → EachFound Here (send_as o (Some r) x conns closes y.0 (outgoing b (Some r) tickets y.1) b).links
      by_aim None = here_enter y.0 (record (outgoing b (Some r) tickets y.1) { time = b.time }) b.links h
      by_aim (Some about) =
          let a : Answer = answer o b r conns closes y.0 (outgoing b (Some r) tickets y.1) about in
          cond_both (list_any (λ (l : Link). (l.conn == a.conn) && takes_more l) b.links) (record b { undue = b.undue ++ a ∷ [] }) b (λ (b' : Box). EachFound Here b'.links) (λ may. h) (λ may. h)

  sent_more : (r : Option Request) (tickets conns closes : List ℕ) (y : ℕ × Reply) (b : Box) → (send o r tickets conns closes (Some y) b).sent ≡ b.sent + 1
  sent_more None tickets conns closes y b = refl
  sent_more (Some r) tickets conns closes y b = by_aim (aim o (Some r) y.1)
    where
      by_aim : (x : Option Aim) → (send_as o (Some r) x conns closes y.0 (outgoing b (Some r) tickets y.1) b).sent + 1 ≡ b.sent + 1
      by_aim None = refl
      by_aim (Some about) =
          let a : Answer = answer o b r conns closes y.0 (outgoing b (Some r) tickets y.1) about in
          cond_both (list_any (λ (l : Link). (l.conn == a.conn) && takes_more l) b.links) (record b { undue = b.undue ++ a ∷ [] }) b (λ (b' : Box). b'.sent + 1 ≡ b.sent + 1) (λ may. refl) (λ may. refl)

  -- it enters as it is sent
  enters_now : (out : Outgoing) (links : List Link) → is_it out ≡ true → EachFound Here (at_link s.conn (append out) links)
  enters_now out links it =
      found-at_link (λ (l : Link). Unit {0}) Here s.conn (append out) (append_conn out) links
      (λ l found k is.
      elim (takes_more l) as (λ v. takes_more l ≡ v → is_here (cond v (record l { queue = l.queue ++ out ∷ [] }) l) ≡ true) [
        | true ↦ λ more.
            or_first (list_any (λ (g : Handed). is_it g.out) l.handed || list_any is_it (l.queue ++ out ∷ [])) (not (takes_more l))
            (or_second (list_any (λ (g : Handed). is_it g.out) l.handed) (list_any is_it (l.queue ++ out ∷ []))
            (list_any-append is_it l.queue (out ∷ []) ∙ or_second (list_any is_it l.queue) (is_it out || false) (or_first (is_it out) false it)))
        | false ↦ λ none. or_second (list_any (λ (g : Handed). is_it g.out) l.handed || list_any is_it l.queue) (not (takes_more l)) (ap (λ v. not v) none)
      ] refl)
      (λ l isnt k is. absurd (eqb-false l.conn s.conn isnt is)) (λ conn l found. tt)

  module _ (at_once : aim_of_sent o s ≡ None) where
    pub record HereStand (items : List (List Effect)) (b : Box) : Type 0 where
      pub sent : b.sent ≡ length (firsts items)
      pub here : p < length (firsts items) → EachFound (λ (l : Link). l.conn ≡ s.conn → is_here l ≡ true) b.links

    -- the item spares it, if it was sent before; and it is the one that is sent in this place
    pub record Spares (items : List (List Effect)) (item : List Effect) : Type 0 where
      pub spare : p < length (firsts items) → (r : Request) → executing item ≡ Some r → (x : Outgoing) → is_it x ≡ true → is_of (contains (tickets_left item)) x ≡ false
      pub now : (conn : ℕ) (reply : Reply) → first_of (filter_map reply_sent item) ≡ Some (conn, reply) → length (firsts items) ≡ p → record { before = items; item = item; conn = conn; reply = reply } ≡ s

    module _ (items : List (List Effect)) (item : List Effect) (spares : Spares items item) (b : Box) (h : HereStand items b) where
      abbrev its : List (List Effect)
      its = items ++ item ∷ []

      abbrev closed : Box
      closed = close (executing item) (newly_closed b (closed_in b item)) (enter_tasks (executing item) item (leave (executing item) (tickets_left item) b))

      closed_sent : closed.sent ≡ length (firsts items)
      closed_sent = sent_closed (executing item) (tickets_left item) (newly_closed b (closed_in b item)) item b ∙ h.sent

      closed_here : p < length (firsts items) → EachFound Here closed.links
      closed_here low =
          here_close (executing item) (newly_closed b (closed_in b item)) (enter_tasks (executing item) item (leave (executing item) (tickets_left item) b))
          (here_tasks (executing item) item (leave (executing item) (tickets_left item) b) (here_leave (executing item) (tickets_left item) b (spares.spare low) (h.here low)))

      enters : (conn : ℕ) (reply : Reply) (q : Option Request) → executing item ≡ q → (x : Option Aim) → aim o q reply ≡ x → x ≡ None → record { before = items; item = item; conn = conn; reply = reply } ≡ s → closed.sent ≡ p
          → EachFound Here (send_as o q x (closed_in b item) (newly_closed b (closed_in b item)) conn (outgoing closed q (tickets_left item) reply) closed).links
      enters conn reply q is (Some about) some none same at = absurd cc
      enters conn reply q is None plain none same at =
          by_request q is
        where
          it : (out : Outgoing) → out.sent ≡ Some p → out.takes ≡ true → out.ticket ≡ completed_in s.item → is_it out ≡ true
          it out sent takes ticket =
              and_both (is_at p out && out.takes) (is_same_ticket out.ticket (completed_in s.item))
              (and_both (is_at p out) out.takes (ap (λ x. elim x [ Some k ↦ k == p | None ↦ false ]) sent ∙ eq-eqb p p refl) takes)
              (ap (λ x. is_same_ticket x (completed_in s.item)) ticket ∙ same_itself (completed_in s.item))

          conn_is : conn ≡ s.conn
          conn_is = ap (λ (x : Sent). x.conn) same

          of_item : (q' : Option Request) → executing item ≡ q' → elim q' [ Some request ↦ None | None ↦ first_of (tickets_left item) ] ≡ completed_in s.item
          of_item q' is' = ap (λ y. elim y [ Some request ↦ None | None ↦ first_of (tickets_left item) ]) (sym is') ∙ ap (λ (x : Sent). completed_in x.item) same

          by_request : (q' : Option Request) → executing item ≡ q' → EachFound Here (send_as o q' None (closed_in b item) (newly_closed b (closed_in b item)) conn (outgoing closed q' (tickets_left item) reply) closed).links
          by_request (Some request) is' =
              subst (λ c. EachFound Here (at_link c (append (record (outgoing closed (Some request) (tickets_left item) reply) { time = closed.time })) closed.links)) (sym conn_is)
              (enters_now (record (outgoing closed (Some request) (tickets_left item) reply) { time = closed.time }) closed.links (it (record (outgoing closed (Some request) (tickets_left item) reply) { time = closed.time }) (ap (λ n. Some n) at) refl (of_item (Some request) is')))
          by_request None is' =
              subst (λ c. EachFound Here (at_link c (append (record (outgoing closed None (tickets_left item) reply) { time = closed.time })) closed.links)) (sym conn_is)
              (enters_now (record (outgoing closed None (tickets_left item) reply) { time = closed.time }) closed.links (it (record (outgoing closed None (tickets_left item) reply) { time = closed.time }) (ap (λ n. Some n) at) refl (of_item None is')))

      replied : (x : Option (ℕ × Reply)) → first_of (filter_map reply_sent item) ≡ x → HereStand its (send o (executing item) (tickets_left item) (closed_in b item) (newly_closed b (closed_in b item)) x closed)
      replied None none = record {
        sent = closed_sent ∙ ap length (sym (firsts-none items item none));
        here = λ low. closed_here (subst (λ n. p < n) (ap length (firsts-none items item none)) low);
      }
      replied (Some y) some = record {
        sent = sent_more (executing item) (tickets_left item) (closed_in b item) (newly_closed b (closed_in b item)) y closed ∙ ap (λ n. n + 1) closed_sent ∙ counted;
        here = λ low. ⊎_elim
            (λ same.
            let is : record { before = items; item = item; conn = y.0; reply = y.1 } ≡ s = spares.now y.0 y.1 some same in
            enters y.0 y.1 (executing item) refl (aim o (executing item) y.1) refl (ap (aim_of_sent o) is ∙ at_once) is (closed_sent ∙ same))
            (λ apart. here_send (executing item) (tickets_left item) (closed_in b item) (newly_closed b (closed_in b item)) (Some y) closed (closed_here (let z : p < length (firsts items) = below low apart in z)))
            (cases_eq (length (firsts items)) p);
      }
        where
          counted : length (firsts items) + 1 ≡ length (firsts its)
          counted = sym (ap length (firsts-some items item y.0 y.1 some) ∙ length-push (firsts items) (record { before = items; item = item; conn = y.0; reply = y.1 }))

          below : p < length (firsts its) → (length (firsts items) ≡ p → ⊥) → p < length (firsts items)
          below low apart =
              let up : p < length (firsts items) + 1 = subst (λ n. p < n) (sym counted) low in
              ⊎_elim (λ less. less) (λ high. absurd (apart (let z : length (firsts items) ≡ p = omega (arith, high, up) in z))) (cases_lt p (length (firsts items)))

      pub here_item : HereStand (items ++ item ∷ []) (after_item o b item)
      here_item =
          let sent : Box = send o (executing item) (tickets_left item) (closed_in b item) (newly_closed b (closed_in b item)) (first_of (filter_map reply_sent item)) closed in
          let k : HereStand its sent = replied (first_of (filter_map reply_sent item)) refl in
          let phased : Box = in_phase phase_enabled (filter_map ticket_enabled item) sent in
          record { sent = sent_settle o [] phased.undue phased ∙ k.sent; here = λ low. here_settle [] phased.undue phased (k.here low) }

    -- the items of an event
    abbrev pub AllSpare : List (List Effect) → List (List Effect) → Type 0
    AllSpare items [] = Unit {0}
    AllSpare items (item ∷ more) = Spares items item × AllSpare (items ++ item ∷ []) more

    pub here_items : (items more : List (List Effect)) (b : Box) → AllSpare items more → HereStand items b → HereStand (items ++ more) (after_items o b more)
    here_items items [] b spare h = subst (λ its. HereStand its b) (sym (append-nil items)) h
    here_items items (item ∷ more) b spare h =
        subst (λ its. HereStand its (after_items o (after_item o b item) more)) (append_assoc items (item ∷ []) more) (here_items (items ++ item ∷ []) more (after_item o b item) spare.1 (here_item items item spare.0 b h))
