-- An answer to an abort enters its queue when nothing of its scope is under way on another connection: what went out there of a
-- command that is over by it is through, as the calls show. This is what each step within a call keeps.
use Rattle.std.proofs.Common.{◌≡◌, ◌≢◌, ℕ, ◌+◌, ◌==◌, ◌&&◌, ◌||◌, not, cond, Bool, true, false, List, [], ◌∷◌, ◌++◌, filter_map, length, Option, Some, None, refl, ap, sym, subst, ◌∙◌, ne_eqb}
use Rattle.std.specs.List.{list_any, cons_option}
use Rattle.std.proofs.lemmas.Bool.{cond_both, false≢true}
use Rattle.std.proofs.lemmas.List.{append_assoc}
use Rattle.iscsi_wire.specs.declared.reply.Reply.{Reply}
use Rattle.iscsi_wire.specs.declared.request.Request.{Request}
use Rattle.iscsi_rules.specs.declared.effect.Effect.{Effect}
use Rattle.iscsi_rules.specs.rules.Trace.{first_of}
use Rattle.iscsi_rules.proofs.general.BoolLemmas.{and_parts, and_both, or_none, not_true}
use Rattle.iscsi_outbox_rules.specs.rules.Calls.{Opening, Call}
use Rattle.iscsi_outbox_rules.specs.rules.Boxes.{Outgoing, Handed, Aim, AtTag, AtUnit, AtConns, Answer, Link, Box}
use Rattle.iscsi_outbox_rules.specs.rules.Words.{contains, is_of, is_running, has_under_way}
use Rattle.iscsi_outbox_rules.specs.rules.Queues.{at_link, takes_more, append, enter, without, emptied}
use Rattle.iscsi_outbox_rules.specs.rules.Due.{is_of_logout, holds, goes_behind, is_due}
use Rattle.iscsi_outbox_rules.specs.rules.Items.{executing, tickets_left, reply_sent, outgoing, answer, send_as, aim, send}
use Rattle.iscsi_outbox_rules.specs.rules.Run.{opened}
use Rattle.iscsi_outbox_rules.specs.promises.Deeds.{Deed, FollowsSession, deeds_of, handed_in_deed, items_in}
use Rattle.iscsi_outbox_rules.specs.promises.Arrived.{is_through}
use Rattle.iscsi_outbox_rules.specs.promises.Scope.{Sent, nth, aim_of_sent, is_taken_out_by}
use Rattle.iscsi_outbox_rules.specs.promises.Silent.{ticket_of}
use Rattle.iscsi_outbox_rules.specs.promises.Still.{is_abort}
use Rattle.iscsi_outbox_rules.proofs.general.EachLemmas.{EachOf, each-append, each-first, each-second, each-weaken, each-map, each-filter, each-first_of, each-at_link}
use Rattle.iscsi_outbox_rules.proofs.general.FoundLemmas.{find_link, EachFound, found-conn}
use Rattle.iscsi_outbox_rules.proofs.general.FirstLemmas.{first_sent, firsts, firsts-more, firsts-none, firsts-some, nth-first, nth-push, length-push}
use Rattle.iscsi_outbox_rules.proofs.general.ConnLemmas.{conns_of, HaveConns, have_conns}
use Rattle.iscsi_outbox_rules.proofs.commands.TicketRuns.{names_command}
use Rattle.iscsi_outbox_rules.proofs.closes.SealTheorem.{known_conn}
use Rattle.iscsi_outbox_rules.proofs.general.Walks.{Walk}
use Rattle.iscsi_outbox_rules.proofs.arrivals.ArriveWalk.{bare, bare_walk, entered}
use Rattle.iscsi_outbox_rules.proofs.arrivals.ArrivePlaces.{Places}
use Rattle.iscsi_outbox_rules.proofs.arrivals.ArriveThrough.{find_known, looks_as_opened, through_link}

-- ---- of lists

each_fails : {A : Type 0} (p : A → Bool) (xs : List A) → list_any p xs ≡ false → EachOf (λ (x : A). p x ≡ false) xs
each_fails p [] none = tt
each_fails p (x ∷ xs) none = let parts = or_none (p x) (list_any p xs) none in (parts.0, each_fails p xs parts.1)

conn_known : (c : ℕ) (p : Link → Bool) (links : List Link) → list_any (λ (l : Link). (l.conn == c) && p l) links ≡ true → list_any (λ k. k == c) (conns_of links) ≡ true
conn_known c p [] some = some
conn_known c p (l ∷ links) some =
    elim (l.conn == c) as (λ v. ((v && p l) || list_any (λ (m : Link). (m.conn == c) && p m) links) ≡ true → (v || list_any (λ k. k == c) (conns_of links)) ≡ true) [
      | true ↦ λ h. refl
      | false ↦ λ h. conn_known c p links h
    ] some

-- ---- what is said of answers

module _ (o : Opening) where
  -- the answer is that which the session sent, about what the rules have
  pub record Aimed (items : List (List Effect)) (a : Answer) : Type 0 where
    pub place : ℕ
    pub reply : Sent
    pub place_is : a.out.sent ≡ Some place
    pub nth_is : nth place (firsts items) ≡ Some reply
    pub aim_is : aim_of_sent o reply ≡ Some a.aim
    pub known : list_any (λ k. k == a.conn) (conns_of (opened o).links) ≡ true

  abbrev pub is_for_abort : Sent → Bool
  is_for_abort s = elim (aim_of_sent o s) [ Some about ↦ is_abort about | None ↦ false ]

  aimed_grows : (items : List (List Effect)) (item : List Effect) (a : Answer) → Aimed items a → Aimed (items ++ item ∷ []) a
  aimed_grows items item a e = record {
    place = e.place;
    reply = e.reply;
    place_is = e.place_is;
    nth_is = ap (nth e.place) (firsts-more items item) ∙ nth-first e.place (firsts items) (cons_option (first_sent items item) []) e.reply e.nth_is;
    aim_is = e.aim_is;
    known = e.known;
  }

  module _ (t : ℕ) where
    -- what went out of the command on other connections is through
    abbrev pub IsClear : List Deed → ℕ → Type 0
    IsClear ds conn = (earlier since : List Deed) (handing : Deed) (d : ℕ) (g : Handed) → earlier ++ handing ∷ since ≡ ds → handed_in_deed handing ≡ Some (d, g) → d ≢ conn → ticket_of (items_in earlier) g.out ≡ Some t
        → is_through o d earlier handing g since ≡ true

    pub record Cleared (items : List (List Effect)) (ds : List Deed) (conn : ℕ) (out : Outgoing) : Type 0 where
      pub place : ℕ
      pub reply : Sent
      pub place_is : out.sent ≡ Some place
      pub nth_is : nth place (firsts items) ≡ Some reply
      pub clear : is_taken_out_by o reply t ≡ true → is_for_abort reply ≡ true → IsClear ds conn

    -- what waits, and has the command in its scope
    abbrev pub Way : List (List Effect) → List Deed → ℕ → Outgoing → Type 0
    Way items ds conn out = contains out.scope t ≡ true → Cleared items ds conn out

    way_grows : (items : List (List Effect)) (item : List Effect) (ds : List Deed) (conn : ℕ) (out : Outgoing) → Way items ds conn out → Way (items ++ item ∷ []) ds conn out
    way_grows items item ds conn out e inside = let k : Cleared items ds conn out = e inside in record {
      place = k.place;
      reply = k.reply;
      place_is = k.place_is;
      nth_is = ap (nth k.place) (firsts-more items item) ∙ nth-first k.place (firsts items) (cons_option (first_sent items item) []) k.reply k.nth_is;
      clear = k.clear;
    }

    -- ---- what each step keeps

    module _ (calls : List Call) (follows : FollowsSession o calls) (ds rest : List Deed) (whole : ds ++ rest ≡ deeds_of o calls) where
      abbrev LinkWay : List (List Effect) → Link → Type 0
      LinkWay items l = EachOf (Way items ds l.conn) l.queue

      abbrev PlaceHere : Link → Type 0
      PlaceHere l = Places ds (bare l)

      pub record Ways (items : List (List Effect)) (b : Box) : Type 0 where
        pub sent : b.sent ≡ length (firsts items)
        pub undue : EachOf (Aimed items) b.undue
        pub queues : EachOf (λ (l : Link). EachOf (Way items ds l.conn) l.queue) b.links
        pub places : EachFound (λ (l : Link). Places ds (bare l)) b.links
        pub conns : HaveConns (conns_of (opened o).links) b.links

      conns_at : (conn : ℕ) (change : Link → Link) → ((l : Link) → (change l).conn ≡ l.conn) → (links : List Link) → HaveConns (conns_of (opened o).links) links → HaveConns (conns_of (opened o).links) (at_link conn change links)
      conns_at conn change same links h =
          have_conns (conns_of (opened o).links) (λ (l : Link). cond (l.conn == conn) (change l) l) (λ l. cond_both (l.conn == conn) (change l) l (λ (m : Link). m.conn ≡ l.conn) (λ is. same l) (λ is. refl)) links h

      -- where no queue has more
      pub ways_fewer : (items : List (List Effect)) (b : Box) (conn : ℕ) (change : Link → Link) → ((l : Link) → (change l).conn ≡ l.conn) → ((Q : Outgoing → Type 0) (l : Link) → EachOf Q l.queue → EachOf Q (change l).queue)
          → EachFound PlaceHere (at_link conn change b.links) → Ways items b → Ways items (record b { links = at_link conn change b.links })
      ways_fewer items b conn change same less places h = record {
        sent = h.sent;
        undue = h.undue;
        queues = each-at_link (LinkWay items) (LinkWay items) conn change b.links
            (λ l is k. subst (λ c. EachOf (Way items ds c) (change l).queue) (sym (same l)) (less (Way items ds l.conn) l k)) (λ l is k. k) h.queues;
        places = places;
        conns = conns_at conn change same b.links h.conns;
      }

      -- a PDU enters
      pub ways_enter : (items : List (List Effect)) (b : Box) (conn : ℕ) (out : Outgoing) → Way items ds conn (record out { time = b.time }) → Ways items b → Ways items (enter conn out b)
      ways_enter items b conn out e h =
          let out' : Outgoing = record out { time = b.time } in record {
            sent = h.sent;
            undue = h.undue;
            queues = each-at_link (LinkWay items) (LinkWay items) conn (append out') b.links
                (λ l is k. cond_both (takes_more l) (record l { queue = l.queue ++ out' ∷ [] }) l (LinkWay items)
                (λ more. each-append (Way items ds l.conn) l.queue (out' ∷ []) k (subst (λ c. Way items ds c out') (sym is) e, tt)) (λ no. k))
                (λ l is k. k) h.queues;
            places = entered (Places ds) conn out' b.links h.places;
            conns = conns_at conn (append out') (λ l. cond_both (takes_more l) (record l { queue = l.queue ++ out' ∷ [] }) l (λ (m : Link). m.conn ≡ l.conn) (λ is. refl) (λ is. refl)) b.links h.conns;
          }

      -- ---- what is due

      not_logout : (a : Aim) → is_abort a ≡ true → not (is_of_logout a) ≡ true
      not_logout (AtTag tag unit) is = refl
      not_logout (AtUnit unit) is = refl
      not_logout AtConns is = absurd (false≢true is)

      moves : (items : List (List Effect)) (b : Box) (before after : List Answer) (a : Answer) → is_due o b before a ≡ true → Ways items (record b { undue = before ++ a ∷ after }) → Ways items (enter a.conn a.out (record b { undue = before ++ after }))
      moves items b before after a due h =
          ways_enter items (record b { undue = before ++ after }) a.conn a.out
          (λ inside. record { place = here.place; reply = here.reply; place_is = here.place_is; nth_is = here.nth_is; clear = λ over abort. clear inside abort })
          (record { sent = h.sent; undue = each-append (Aimed items) before after (each-first (Aimed items) before (a ∷ after) h.undue) later.1; queues = h.queues; places = h.places; conns = h.conns })
        where
          later : Aimed items a × EachOf (Aimed items) after
          later = each-second (Aimed items) before (a ∷ after) h.undue

          here : Aimed items a
          here = later.0

          none_holds : list_any (holds o a) b.links ≡ false
          none_holds =
              let first = and_parts ((not (list_any (is_running b) a.out.scope) && not (list_any (holds o a) b.links)) && not a.uncleared) (not (list_any (goes_behind a) before)) due in
              let second = and_parts (not (list_any (is_running b) a.out.scope) && not (list_any (holds o a) b.links)) (not a.uncleared) first.0 in
              not_true (list_any (holds o a) b.links) (and_parts (not (list_any (is_running b) a.out.scope)) (not (list_any (holds o a) b.links)) second.0).1

          clear : contains a.out.scope t ≡ true → is_for_abort here.reply ≡ true → IsClear ds a.conn
          clear inside abort earlier since handing d g split shown apart named =
              through_link o calls ds rest whole d m at (h.places d m link.1) (looks_as_opened o a.conn d apart here.known known)
              earlier since handing g split shown (λ (k : Handed). is_of (contains a.out.scope) k.out) is_inside none
            where
              whole' : earlier ++ handing ∷ (since ++ rest) ≡ deeds_of o calls
              whole' = sym (append_assoc earlier (handing ∷ since) rest) ∙ ap (λ es. es ++ rest) split ∙ whole

              known : list_any (λ k. k == d) (conns_of (opened o).links) ≡ true
              known = known_conn o calls earlier (since ++ rest) handing d g whole' shown

              link : (m : Link) × (find_link d b.links ≡ Some m)
              link = find_known d b.links (ap (list_any (λ k. k == d)) h.conns ∙ known)

              m : Link
              m = link.0

              at : m.conn ≡ d
              at = found-conn d b.links m link.1

              is_inside : is_of (contains a.out.scope) g.out ≡ true
              is_inside =
                  ap (λ x. elim x [ Some ticket ↦ contains a.out.scope ticket | None ↦ false ]) (names_command o calls follows earlier (since ++ rest) handing d g whole' shown ∙ named) ∙ inside

              free : holds o a m ≡ false
              free = each-first_of (λ (l : Link). holds o a l ≡ false) (λ (l : Link). l.conn == d) b.links m link.1 (each_fails (holds o a) b.links none_holds)

              is_elsewhere : (not (is_of_logout a.aim) && not (m.conn == a.conn)) ≡ true
              is_elsewhere =
                  and_both (not (is_of_logout a.aim)) (not (m.conn == a.conn)) (not_logout a.aim (ap (λ x. elim x [ Some about ↦ is_abort about | None ↦ false ]) (sym here.aim_is) ∙ abort))
                  (ap not (ne_eqb m.conn a.conn (λ same. apart (sym at ∙ same))))

              none : has_under_way o (contains a.out.scope) m ≡ false
              none = ap (λ v. v && has_under_way o (contains a.out.scope) m) (sym is_elsewhere) ∙ free

      -- ---- a reply is sent

      module _ (items : List (List Effect)) (item : List Effect) where
        abbrev its : List (List Effect)
        its = items ++ item ∷ []

        -- all but the count of what was sent
        pub record Grown (b : Box) : Type 0 where
          pub undue : EachOf (Aimed its) b.undue
          pub queues : EachOf (λ (l : Link). EachOf (Way its ds l.conn) l.queue) b.links
          pub places : EachFound (λ (l : Link). Places ds (bare l)) b.links
          pub conns : HaveConns (conns_of (opened o).links) b.links
          pub sent : b.sent ≡ length (firsts items)

        grown : (b : Box) → Ways items b → Grown b
        grown b h = record {
          undue = each-weaken (Aimed items) (Aimed its) b.undue (λ a e. aimed_grows items item a e) h.undue;
          queues = each-weaken (LinkWay items) (LinkWay its) b.links (λ l k. each-weaken (Way items ds l.conn) (Way its ds l.conn) l.queue (λ x e. way_grows items item ds l.conn x e) k) h.queues;
          places = h.places;
          conns = h.conns;
          sent = h.sent;
        }

        module _ (s : ℕ × Reply) (found : first_of (filter_map reply_sent item) ≡ Some s) where
          abbrev as_sent : Sent
          as_sent = record { before = items; item = item; conn = s.0; reply = s.1 }

          firsts_are : firsts its ≡ firsts items ++ as_sent ∷ []
          firsts_are = firsts-some items item s.0 s.1 found

          counted : length (firsts items) + 1 ≡ length (firsts its)
          counted = sym (ap length firsts_are ∙ length-push (firsts items) as_sent)

          at_place : nth (length (firsts items)) (firsts its) ≡ Some as_sent
          at_place = ap (nth (length (firsts items))) firsts_are ∙ nth-push (firsts items) as_sent

          -- it has no scope
          plain : (b : Box) (r : Option Request) (tickets : List ℕ) → Grown b → Ways its (let b' = enter s.0 (outgoing b r tickets s.1) b in record b' { sent = b'.sent + 1 })
          plain b r tickets h =
              let out' : Outgoing = record (outgoing b r tickets s.1) { time = b.time } in record {
                sent = ap (λ k. k + 1) h.sent ∙ counted;
                undue = h.undue;
                queues = each-at_link (LinkWay its) (LinkWay its) s.0 (append out') b.links
                    (λ l is k. cond_both (takes_more l) (record l { queue = l.queue ++ out' ∷ [] }) l (LinkWay its) (λ more. each-append (Way its ds l.conn) l.queue (out' ∷ []) k ((λ inside. absurd (false≢true inside)), tt)) (λ no. k))
                    (λ l is k. k) h.queues;
                places = entered (Places ds) s.0 out' b.links h.places;
                conns = conns_at s.0 (append out') (λ l. cond_both (takes_more l) (record l { queue = l.queue ++ out' ∷ [] }) l (λ (m : Link). m.conn ≡ l.conn) (λ is. refl) (λ is. refl)) b.links h.conns;
              }

          sends_some : (b : Box) (r : Option Request) (tickets conns closes : List ℕ) → executing item ≡ r → Grown b → Ways its (send o r tickets conns closes (Some s) b)
          sends_some b None tickets conns closes is h = plain b None tickets h
          sends_some b (Some r) tickets conns closes is h = by_aim (aim o (Some r) s.1) refl
            where
              by_aim : (x : Option Aim) → aim o (Some r) s.1 ≡ x → Ways its (let b' = send_as o (Some r) x conns closes s.0 (outgoing b (Some r) tickets s.1) b in record b' { sent = b'.sent + 1 })
              by_aim None none = plain b (Some r) tickets h
              by_aim (Some about) some =
                  let a : Answer = answer o b r conns closes s.0 (outgoing b (Some r) tickets s.1) about in
                  cond_both (list_any (λ (l : Link). (l.conn == a.conn) && takes_more l) b.links) (record b { undue = b.undue ++ a ∷ [] }) b (λ (b' : Box). Ways its (record b' { sent = b'.sent + 1 }))
                  (λ may. record {
                    sent = ap (λ k. k + 1) h.sent ∙ counted;
                    undue = each-append (Aimed its) b.undue (a ∷ []) h.undue (
                      record {
                        place = length (firsts items);
                        reply = as_sent;
                        place_is = ap (λ n. Some n) h.sent;
                        nth_is = at_place;
                        aim_is = ap (λ x. aim o x s.1) is ∙ some;
                        known = ap (list_any (λ k. k == s.0)) (sym h.conns) ∙ conn_known s.0 takes_more b.links may;
                      },
                      tt,
                    );
                    queues = h.queues;
                    places = h.places;
                    conns = h.conns;
                  })
                  (λ may. record { sent = ap (λ k. k + 1) h.sent ∙ counted; undue = h.undue; queues = h.queues; places = h.places; conns = h.conns })

        sends : (b : Box) (conns closes : List ℕ) → Ways items b → Ways its (send o (executing item) (tickets_left item) conns closes (first_of (filter_map reply_sent item)) b)
        sends b conns closes h = by_reply (first_of (filter_map reply_sent item)) refl
          where
            by_reply : (x : Option (ℕ × Reply)) → first_of (filter_map reply_sent item) ≡ x → Ways its (send o (executing item) (tickets_left item) conns closes x b)
            by_reply None none = let k : Grown b = grown b h in record { sent = k.sent ∙ ap length (sym (firsts-none items item none)); undue = k.undue; queues = k.queues; places = k.places; conns = k.conns }
            by_reply (Some s) some = sends_some s some b (executing item) (tickets_left item) conns closes refl (grown b h)

      pub way_walk : Walk o Ways
      way_walk = record {
        tasks = λ items b ts h. record { sent = h.sent; undue = h.undue; queues = h.queues; places = h.places; conns = h.conns };
        drops = λ items b these h. record {
          sent = h.sent;
          undue = h.undue;
          queues = each-map (LinkWay items) (LinkWay items) (without these) b.links (λ l k. each-filter (Way items ds l.conn) _ l.queue k) h.queues;
          places = (bare_walk (Places ds) o).drops [] b these h.places;
          conns = have_conns (conns_of (opened o).links) (without these) (λ l. refl) b.links h.conns;
        };
        closes = λ items b conn h. ways_fewer items b conn (λ l. record l { closed = true }) (λ l. refl) (λ Q l k. k) ((bare_walk (Places ds) o).closes [] b conn h.places) h;
        cuts = λ items b conn h. ways_fewer items b conn (λ l. record l { closed = true; cut = true }) (λ l. refl) (λ Q l k. k) ((bare_walk (Places ds) o).cuts [] b conn h.places) h;
        drops_on = λ items b conn over h.
            let k : Ways items (record b { links = at_link conn emptied b.links }) = ways_fewer items b conn emptied (λ l. refl) (λ Q l e. tt) ((bare_walk (Places ds) o).drops_on [] b conn over h.places) h in
            record { sent = k.sent; undue = each-filter (Aimed items) (λ (a : Answer). not (a.conn == conn)) b.undue h.undue; queues = k.queues; places = k.places; conns = k.conns };
        moves = λ items b before after a due h. moves items b before after a due h;
        sends = λ items b item conns closes h. sends items item b conns closes h;
      }
