-- How many numbered replies wait, with the places that the shown MaxCmdSN leaves: with each item one more at the most, where it answers
-- a numbered request or completes a command, and never more than there are places with any other call.
use Rattle.std.proofs.Common.{◌≡◌, ℕ, ◌+◌, ◌-◌, ◌≤◌, ◌==◌, ◌&&◌, not, cond, min, max, Bool, true, false, List, [], ◌∷◌, ◌++◌, map, drop, filter_map, count_by, Option, Some, None, refl, ap, sym, subst, arith}
use Rattle.std.specs.List.{list_any, sum_by}
use Rattle.std.proofs.lemmas.Bool.{cond_both, false≢true}
use Rattle.std.proofs.lemmas.List.Sums.{sum_by-cons, sum_by-append}
use Rattle.iscsi_wire.specs.Fields.{is_immediate}
use Rattle.iscsi_wire.specs.declared.reply.Reply.{Reply}
use Rattle.iscsi_wire.specs.declared.request.Request.{Request}
use Rattle.iscsi_rules.specs.declared.effect.Effect.{Effect}
use Rattle.iscsi_rules.specs.rules.Trace.{first_of}
use Rattle.iscsi_rules.proofs.general.ListLemmas.{fewer_counted, count_by-push}
use Rattle.iscsi_rules.proofs.general.CountLemmas.{one, count-cons}
use Rattle.iscsi_rules.proofs.promises.ReplyRuns.{one_most}
use Rattle.iscsi_outbox_rules.specs.rules.Calls.{Opening, Call, Takes, Puts, Stops, Nexts, Writes, Hears, Joins, Loses, Clears}
use Rattle.iscsi_outbox_rules.specs.rules.Boxes.{Task, Outgoing, Aim, Answer, Link, Box}
use Rattle.iscsi_outbox_rules.specs.rules.Words.{contains, numbered_room, numbered_waiting, owing, max_shown}
use Rattle.iscsi_outbox_rules.specs.rules.Queues.{at_link, takes_more, append, enter, without, emptied}
use Rattle.iscsi_outbox_rules.specs.rules.Due.{settle}
use Rattle.iscsi_outbox_rules.specs.rules.Items.{executing, tickets_left, ticket_enabled, reply_sent, closed_in, newly_closed, phase_completed, phase_enabled, in_phase, leave, enter_tasks, close, is_numbered, outgoing, answer, send_as, aim, send, after_item}
use Rattle.iscsi_outbox_rules.specs.rules.Own.{own_outgoing}
use Rattle.iscsi_outbox_rules.specs.rules.Handing.{is_from_queue, taken_from, handed_as}
use Rattle.iscsi_outbox_rules.specs.rules.Run.{after_call, answered, waits_for_clear, cleared}
use Rattle.iscsi_outbox_rules.specs.promises.Deeds.{items_in}
use Rattle.iscsi_outbox_rules.specs.promises.Room.{is_other}
use Rattle.iscsi_outbox_rules.proofs.general.Walks.{Walk, settles}
use Rattle.iscsi_outbox_rules.proofs.general.Boxwise.{Boxwise, box_keeps}
use Rattle.iscsi_outbox_rules.proofs.room.RoomReplies.{AreOne, one_at}

abbrev pub numbered_in : Link → ℕ
numbered_in l = count_by (λ (out : Outgoing). out.numbered) l.queue

abbrev pub numbered_on : List Link → ℕ
numbered_on links = sum_by numbered_in links

-- ---- connections that change

fewer_map : (change : Link → Link) → ((l : Link) → numbered_in (change l) ≤ numbered_in l) → (links : List Link) → numbered_on (map change links) ≤ numbered_on links
fewer_map change fewer [] = omega arith
fewer_map change fewer (l ∷ links) = omega (arith, sum_by-cons numbered_in (change l) (map change links), sum_by-cons numbered_in l links, fewer l, fewer_map change fewer links)

fewer_at : (conn : ℕ) (change : Link → Link) → ((l : Link) → numbered_in (change l) ≤ numbered_in l) → (links : List Link) → numbered_on (at_link conn change links) ≤ numbered_on links
fewer_at conn change fewer links =
    fewer_map (λ (l : Link). cond (l.conn == conn) (change l) l) (λ l. cond_both (l.conn == conn) (change l) l (λ (m : Link). numbered_in m ≤ numbered_in l) (λ is. fewer l) (λ is. omega arith)) links

-- with one more on a connection, for each that has its CID
more_at : (v : Bool) (conn : ℕ) (change : Link → Link) → ((l : Link) → numbered_in (change l) ≤ numbered_in l + one v) → (links : List Link)
    → numbered_on (at_link conn change links) ≤ numbered_on links + cond v (count_by (λ (l : Link). l.conn == conn) links) 0
more_at true conn change more [] = omega arith
more_at false conn change more [] = omega arith
more_at true conn change more (l ∷ links) =
    let rest : numbered_on (at_link conn change links) ≤ numbered_on links + count_by (λ (m : Link). m.conn == conn) links = more_at true conn change more links in
    let all : count_by (λ (m : Link). m.conn == conn) (l ∷ links) ≡ one (l.conn == conn) + count_by (λ (m : Link). m.conn == conn) links = count-cons (λ (m : Link). m.conn == conn) l links in
    elim (l.conn == conn) as (λ b. one (l.conn == conn) ≡ one b → numbered_on (cond b (change l) l ∷ at_link conn change links) ≤ numbered_on (l ∷ links) + count_by (λ (m : Link). m.conn == conn) (l ∷ links)) [
      | true ↦ λ same. omega (arith, rest, all, same, sum_by-cons numbered_in (change l) (at_link conn change links), sum_by-cons numbered_in l links, more l)
      | false ↦ λ same. omega (arith, rest, all, sum_by-cons numbered_in l (at_link conn change links), sum_by-cons numbered_in l links)
    ] refl
more_at false conn change more (l ∷ links) =
    let rest : numbered_on (at_link conn change links) ≤ numbered_on links + 0 = more_at false conn change more links in
    elim (l.conn == conn) as (λ b. numbered_on (cond b (change l) l ∷ at_link conn change links) ≤ numbered_on (l ∷ links) + 0) [
      | true ↦ omega (arith, rest, sum_by-cons numbered_in (change l) (at_link conn change links), sum_by-cons numbered_in l links, more l)
      | false ↦ omega (arith, rest, sum_by-cons numbered_in l (at_link conn change links), sum_by-cons numbered_in l links)
    ]

appended : (out : Outgoing) (l : Link) → numbered_in (append out l) ≤ numbered_in l + one out.numbered
appended out l =
    cond_both (takes_more l) (record l { queue = l.queue ++ out ∷ [] }) l (λ (m : Link). numbered_in m ≤ numbered_in l + one out.numbered)
    (λ is. omega (arith, count_by-push (λ (x : Outgoing). x.numbered) l.queue out)) (λ is. omega arith)

append_conn : (out : Outgoing) (l : Link) → (append out l).conn ≡ l.conn
append_conn out l = cond_both (takes_more l) (record l { queue = l.queue ++ out ∷ [] }) l (λ (m : Link). m.conn ≡ l.conn) (λ is. refl) (λ is. refl)

-- what enters is one more at the most
entered_one : (conn : ℕ) (out : Outgoing) (links : List Link) → AreOne links → numbered_on (at_link conn (append out) links) ≤ numbered_on links + one out.numbered
entered_one conn out links alone = by_numbered out.numbered (more_at out.numbered conn (append out) (appended out) links)
  where
    by_numbered : (v : Bool) → numbered_on (at_link conn (append out) links) ≤ numbered_on links + cond v (count_by (λ (l : Link). l.conn == conn) links) 0 → numbered_on (at_link conn (append out) links) ≤ numbered_on links + one v
    by_numbered true h = omega (arith, h, alone conn)
    by_numbered false h = omega (arith, h)

-- ---- the items that may answer a numbered request

abbrev pub some_leave : List ℕ → Bool
some_leave [] = false
some_leave (ticket ∷ tickets) = true

-- its request is numbered, or a command is completed
abbrev pub may_number : Option Request → List ℕ → Bool
may_number (Some r) tickets = not (is_immediate r)
may_number None tickets = some_leave tickets

abbrev pub answers : Option Request → List ℕ → Option (ℕ × Reply) → Bool
answers r tickets (Some s) = may_number r tickets
answers r tickets None = false

abbrev pub answers_numbered : List Effect → Bool
answers_numbered item = answers (executing item) (tickets_left item) (first_of (filter_map reply_sent item))

none_numbered : (ts : List Task) → list_any (λ (x : Task). contains [] x.ticket && x.numbered) ts ≡ false
none_numbered [] = refl
none_numbered (x ∷ ts) = none_numbered ts

fewer_numbered : (b : Box) (r : Option Request) (tickets : List ℕ) → one (is_numbered b r tickets) ≤ one (may_number r tickets)
fewer_numbered b (Some r) tickets = omega arith
fewer_numbered b None [] = omega (arith, ap one (none_numbered b.tasks))
fewer_numbered b None (ticket ∷ tickets) = one_most (is_numbered b None (ticket ∷ tickets))

-- with so many more
record Grown (n : ℕ) (b b' : Box) : Type 0 where
  alone : AreOne b'.links
  few : numbered_waiting b' ≤ numbered_waiting b + n
  shown : b'.shown ≡ b.shown

enters : (conn : ℕ) (out : Outgoing) (b : Box) → AreOne b.links → Grown (one out.numbered) b (enter conn out b)
enters conn out b alone =
    let timed : Outgoing = record out { time = b.time } in
    record { alone = one_at conn (append timed) (append_conn timed) b.links alone; few = omega (arith, entered_one conn timed b.links alone); shown = refl }

awaits : (b : Box) (a : Answer) → AreOne b.links → Grown (one a.out.numbered) b (cond (list_any (λ (l : Link). (l.conn == a.conn) && takes_more l) b.links) (record b { undue = b.undue ++ a ∷ [] }) b)
awaits b a alone =
    cond_both (list_any (λ (l : Link). (l.conn == a.conn) && takes_more l) b.links) (record b { undue = b.undue ++ a ∷ [] }) b (Grown (one a.out.numbered) b)
    (λ some. record { alone = alone; few = omega (arith, count_by-push (λ (x : Answer). x.out.numbered) b.undue a); shown = refl })
    (λ none. record { alone = alone; few = omega arith; shown = refl })

-- a reply is sent
sends_one : (o : Opening) (b : Box) (r : Option Request) (tickets conns closes : List ℕ) (x : Option (ℕ × Reply)) → AreOne b.links → Grown (one (is_numbered b r tickets)) b (send o r tickets conns closes x b)
sends_one o b r tickets conns closes None alone = record { alone = alone; few = omega arith; shown = refl }
sends_one o b r tickets conns closes (Some s) alone = by_request r
  where
    counted : (n : ℕ) (b' : Box) → Grown n b b' → Grown n b (record b' { sent = b'.sent + 1 })
    counted n b' g = record { alone = g.alone; few = omega (arith, g.few); shown = g.shown }

    by_aim : (p : Request) (about : Option Aim) → Grown (one (not (is_immediate p))) b (let b' = send_as o (Some p) about conns closes s.0 (outgoing b (Some p) tickets s.1) b in record b' { sent = b'.sent + 1 })
    by_aim p None = counted _ _ (enters s.0 (outgoing b (Some p) tickets s.1) b alone)
    by_aim p (Some about) = counted _ _ (awaits b (answer o b p conns closes s.0 (outgoing b (Some p) tickets s.1) about) alone)

    by_request : (p : Option Request) → Grown (one (is_numbered b p tickets)) b (send o p tickets conns closes (Some s) b)
    by_request (Some p) = by_aim p (aim o (Some p) s.1)
    by_request None = counted _ _ (enters s.0 (outgoing b None tickets s.1) b alone)

answers_one : (o : Opening) (b : Box) (r : Option Request) (tickets conns closes : List ℕ) (x : Option (ℕ × Reply)) → AreOne b.links → Grown (one (answers r tickets x)) b (send o r tickets conns closes x b)
answers_one o b r tickets conns closes None alone = record { alone = alone; few = omega arith; shown = refl }
answers_one o b r tickets conns closes (Some s) alone =
    let g : Grown (one (is_numbered b r tickets)) b (send o r tickets conns closes (Some s) b) = sends_one o b r tickets conns closes (Some s) alone in
    record { alone = g.alone; few = omega (arith, g.few, fewer_numbered b r tickets); shown = g.shown }

counted-without : {A : Type 0} (f : A → Bool) (before rest : List A) (x : A) → count_by f (before ++ x ∷ rest) ≡ count_by f (before ++ rest) + one (f x)
counted-without f before rest x =
    omega (arith, sum_by-append (λ y. one (f y)) before (x ∷ rest), sum_by-append (λ y. one (f y)) before rest, sum_by-cons (λ y. one (f y)) x rest)

-- `live` numbered commands are unfinished, and ExpCmdSN is `e`
module _ (o : Opening) (live e : ℕ) where
  -- the places that numbered requests take, or may take
  abbrev pub places_of : Box → ℕ
  places_of b = numbered_waiting b + live + (b.shown + 1 - e)

  pub record Few (k : ℕ) (items : List (List Effect)) (b : Box) : Type 0 where
    pub alone : AreOne b.links
    pub few : places_of b ≤ k + count_by answers_numbered items

  pub few_walk : (k : ℕ) → Walk o (Few k)
  few_walk k = record {
    tasks = λ items b ts h. record { alone = h.alone; few = omega (arith, h.few) };
    drops = λ items b these h. record {
      alone = λ c. omega (arith, same_conns these c b.links, h.alone c);
      few = omega (arith, h.few, fewer_map (without these) (λ l. fewer_counted (λ (out : Outgoing). out.numbered) _ l.queue) b.links);
    };
    closes = λ items b conn h. record {
      alone = one_at conn (λ l. record l { closed = true }) (λ l. refl) b.links h.alone;
      few = omega (arith, h.few, fewer_at conn (λ l. record l { closed = true }) (λ l. omega arith) b.links);
    };
    cuts = λ items b conn h. record {
      alone = one_at conn (λ l. record l { closed = true; cut = true }) (λ l. refl) b.links h.alone;
      few = omega (arith, h.few, fewer_at conn (λ l. record l { closed = true; cut = true }) (λ l. omega arith) b.links);
    };
    drops_on = λ items b conn over h. record {
      alone = one_at conn emptied (λ l. refl) b.links h.alone;
      few = omega (arith, h.few, fewer_at conn emptied (λ l. omega arith) b.links, fewer_counted (λ (a : Answer). a.out.numbered) (λ (a : Answer). not (a.conn == conn)) b.undue);
    };
    moves = λ items b before rest a due h.
        let timed : Outgoing = record (a.out) { time = b.time } in
        record {
          alone = one_at a.conn (append timed) (append_conn timed) b.links h.alone;
          few = omega (arith, h.few, entered_one a.conn timed b.links h.alone, counted-without (λ (x : Answer). x.out.numbered) before rest a);
        };
    sends = λ items b item conns closes h.
        let g : Grown (one (answers_numbered item)) b (send o (executing item) (tickets_left item) conns closes (first_of (filter_map reply_sent item)) b)
        = answers_one o b (executing item) (tickets_left item) conns closes (first_of (filter_map reply_sent item)) h.alone in
        record { alone = g.alone; few = omega (arith, g.few, g.shown, h.few, count_by-push answers_numbered items item) };
  }
    where
      same_conns : (these : ℕ → Bool) (c : ℕ) (links : List Link) → count_by (λ (l : Link). l.conn == c) (map (without these) links) ≡ count_by (λ (l : Link). l.conn == c) links
      same_conns these c [] = refl
      same_conns these c (l ∷ links) =
          omega (arith, count-cons (λ (m : Link). m.conn == c) (without these l) (map (without these) links), count-cons (λ (m : Link). m.conn == c) l links, same_conns these c links)

  -- ---- an item in which no request executes

  pub completing_item : (k : ℕ) (b : Box) (item : List Effect) → executing item ≡ None → Few k [] b
      → Few (k + one (is_numbered (in_phase phase_completed (tickets_left item) b) None (tickets_left item))) [] (after_item o b item)
  completing_item k b item none h =
      let tickets : List ℕ = tickets_left item in
      let left : Box = in_phase phase_completed tickets b in
      let n : ℕ = one (is_numbered left None tickets) in
      let x : Option (ℕ × Reply) = first_of (filter_map reply_sent item) in
      let conns : List ℕ = closed_in b item in
      let sent : Box = send o None tickets conns (newly_closed b conns) x left in
      let g : Grown n left sent = sends_one o left None tickets conns (newly_closed b conns) x h.alone in
      subst (λ r. Few (k + n) [] (settle o (in_phase phase_enabled (filter_map ticket_enabled item) (send o r tickets conns (newly_closed b conns) x (close r (newly_closed b conns) (enter_tasks r item (leave r tickets b))))))) (sym none)
      (settles o (Few (k + n)) (few_walk (k + n)) [] (in_phase phase_enabled (filter_map ticket_enabled item) sent) (record { alone = g.alone; few = omega (arith, g.few, g.shown, h.few) }))

  pub empty_item : (k : ℕ) (b : Box) → Few k [] b → Few k [] (after_item o b [])
  empty_item k b h =
      let x : Few (k + one (is_numbered (in_phase phase_completed [] b) None [])) [] (after_item o b []) = completing_item k b [] refl h in
      record { alone = x.alone; few = omega (arith, x.few, ap one (none_numbered (in_phase phase_completed [] b).tasks)) }

  -- ---- any other call

  clears-same : (unit : ℕ) (as' : List Answer) → count_by (λ (a : Answer). a.out.numbered) (cleared unit as') ≡ count_by (λ (a : Answer). a.out.numbered) as'
  clears-same unit [] = refl
  clears-same unit (a ∷ as') =
      let p : Answer → Bool = λ x. x.out.numbered in
      cond_both (waits_for_clear unit a) (record a { uncleared = false } ∷ as') (a ∷ cleared unit as') (λ xs. count_by (λ (x : Answer). x.out.numbered) xs ≡ count_by (λ (x : Answer). x.out.numbered) (a ∷ as'))
      (λ is. omega (arith, count-cons p (record a { uncleared = false }) as', count-cons p a as'))
      (λ is. omega (arith, count-cons p a (cleared unit as'), count-cons p a as', clears-same unit as'))

  -- what is shown as a PDU is handed out leaves no more places than there are
  handed_places : (waiting before owed room window last shown k : ℕ) → waiting ≤ before → before + live + (shown + 1 - e) ≤ k → room ≤ k → last ≤ e + window - 1 - live → 1 ≤ e
      → waiting + live + (max shown (last - (window - min window (room - max waiting owed))) + 1 - e) ≤ k
  handed_places waiting before owed room window last shown k less few fits near first = omega (arith, less, few, fits, near, first)

  -- no more is shown than the session's
  abbrev pub Near : Box → Type 0
  Near b = b.max ≤ e + o.session.window - 1 - live

  few_boxes : 1 ≤ e → Boxwise o (λ ds b. Near b) (Few (numbered_room o))
  few_boxes first = record {
    walk = few_walk (numbered_room o);
    numbers = λ items b exp last h. record { alone = h.alone; few = omega (arith, h.few) };
    puts = λ items b conn p h.
        let g : Grown 0 b (enter conn (own_outgoing p) b) = enters conn (own_outgoing p) b h.alone in
        record { alone = g.alone; few = omega (arith, g.few, h.few) };
    marks = λ items b conn change alike h. record {
      alone = one_at conn change (λ l. (alike l).conn) b.links h.alone;
      few = omega (arith, h.few, fewer_at conn change (λ l. omega (arith, ap (count_by (λ (out : Outgoing). out.numbered)) (alike l).queue)) b.links);
    };
    reaches = λ items b n h. record { alone = h.alone; few = omega (arith, h.few) };
    clears = λ items b unit h. record { alone = h.alone; few = omega (arith, h.few, clears-same unit b.undue) };
    hands = λ ds b conn g n from near h.
        let l : Link = n.link in
        let out : Outgoing = n.out in
        let gone : List Link = at_link l.conn (taken_from out) b.links in
        let taken : Box = record b { links = gone } in
        let push : Link → Link = λ m. record m { handed = m.handed ++ handed_as o b l out ∷ [] } in
        let less : numbered_waiting taken ≤ numbered_waiting b
        = omega (arith, fewer_at l.conn (taken_from out) (λ m. cond_both (is_from_queue out) (record m { queue = drop 1 m.queue }) m (λ (x : Link). numbered_in x ≤ numbered_in m) (λ is. fewer-drop m.queue) (λ is. omega arith)) b.links) in
        let top : numbered_waiting taken + live + (max_shown o taken + 1 - e) ≤ numbered_room o + count_by answers_numbered (items_in ds)
        = handed_places (numbered_waiting taken) (numbered_waiting b) (owing o taken) (numbered_room o) o.session.window b.max b.shown (numbered_room o + count_by answers_numbered (items_in ds)) less h.few (omega arith) near first in
        record {
          alone = one_at l.conn push (λ m. refl) gone (one_at l.conn (taken_from out) (λ m. cond_both (is_from_queue out) (record m { queue = drop 1 m.queue }) m (λ (x : Link). x.conn ≡ m.conn) (λ is. refl) (λ is. refl)) b.links h.alone);
          few = omega (arith, top, fewer_at l.conn push (λ m. omega arith) gone);
        };
  }
    where
      fewer-drop : (queue : List Outgoing) → count_by (λ (out : Outgoing). out.numbered) (drop 1 queue) ≤ count_by (λ (out : Outgoing). out.numbered) queue
      fewer-drop [] = omega arith
      fewer-drop (x ∷ queue) = omega (arith, count-cons (λ (out : Outgoing). out.numbered) x queue)

  -- a call that takes no event leaves no more places taken than there are
  pub call_few : (b : Box) (c : Call) → is_other c ≡ true → 1 ≤ e → Near b → Few (numbered_room o) [] b → Few (numbered_room o) [] (after_call o b c)
  call_few b c other first near h = by_call c other (box_keeps o (λ ds x. Near x) (Few (numbered_room o)) (few_boxes first) [] b c near h)
    where
      by_call : (c : Call) → is_other c ≡ true → Few (numbered_room o) (items_in ((c, answered o b c) ∷ [])) (after_call o b c) → Few (numbered_room o) [] (after_call o b c)
      by_call (Takes effects numbers) is k = absurd (false≢true is)
      by_call (Puts p) is k = k
      by_call (Stops ticket) is k = k
      by_call (Nexts conn) is k = k
      by_call (Writes conn) is k = k
      by_call (Hears conn exp_stat_sn tag) is k = k
      by_call (Joins conn stat_sn) is k = k
      by_call (Loses conn) is k = k
      by_call (Clears unit) is k = k
