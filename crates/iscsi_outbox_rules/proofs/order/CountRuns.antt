-- No reply is twice in what waits for a connection, waits there or went out there.
use Rattle.std.proofs.Common.{◌≡◌, ℕ, ⊎_elim, ◌==◌, ◌+◌, ◌≤◌, ◌&&◌, not, cond, Bool, true, false, List, [], ◌∷◌, ◌++◌, map, drop, filter, filter_map, count_by, nat_lt, Option, Some, None, refl, ap, sym, subst, ◌∙◌, arith, lt-ltb, le-ltb, eq-eqb, ne_eqb}
use Rattle.std.specs.List.{list_any}
use Rattle.std.proofs.lemmas.Bool.{cond_both, cases_order, eqb-false}
use Rattle.std.proofs.lemmas.List.Sums.{sum_by-cons, sum_by-append}
use Rattle.iscsi_wire.specs.declared.reply.Reply.{Reply}
use Rattle.iscsi_wire.specs.declared.request.Request.{Request}
use Rattle.iscsi_rules.specs.declared.effect.Effect.{Effect}
use Rattle.iscsi_rules.specs.rules.Trace.{first_of}
use Rattle.iscsi_outbox_rules.specs.rules.Calls.{Opening}
use Rattle.iscsi_outbox_rules.specs.rules.Boxes.{Pings, Notices, Outgoing, Handed, Aim, Answer, Link, Box}
use Rattle.iscsi_outbox_rules.specs.rules.Queues.{at_link, takes_more, append, enter, without, emptied}
use Rattle.iscsi_outbox_rules.specs.rules.Items.{executing, tickets_left, reply_sent, outgoing, answer, send_as, aim, send}
use Rattle.iscsi_outbox_rules.specs.rules.Handing.{is_from_queue, taken_from, handed_as, after_given}
use Rattle.iscsi_outbox_rules.specs.rules.Run.{new_link, opened, waits_for_clear, cleared}
use Rattle.iscsi_outbox_rules.proofs.general.FoundLemmas.{find_link, EachFound, found-conn, found-map, found-at_link, found-weaken}
use Rattle.iscsi_outbox_rules.proofs.general.Walks.{Walk}
use Rattle.iscsi_outbox_rules.proofs.general.Chosen.{FromQueue, IsPing, IsNotice, Chosen}
use Rattle.iscsi_outbox_rules.proofs.general.Cuts.{Handing}
use Rattle.iscsi_outbox_rules.specs.rules.Boxes.{Replies, Owns}
use Rattle.iscsi_outbox_rules.specs.rules.Own.{own_outgoing}
use Rattle.iscsi_outbox_rules.specs.promises.Deeds.{Deed, items_in}
use Rattle.iscsi_outbox_rules.proofs.general.EachLemmas.{EachOf, each-first_of}
use Rattle.iscsi_outbox_rules.proofs.order.PlaceRuns.{IsSent, IsOwn, Entry, Placed, PlacesStand}
use Rattle.iscsi_outbox_rules.proofs.general.Boxwise.{Boxwise}

-- it is the reply in this place
abbrev pub is_at : ℕ → Outgoing → Bool
is_at p out = elim (out.sent) [ Some q ↦ q == p | None ↦ false ]

abbrev pub one : Bool → ℕ
one v = cond v 1 0

abbrev pub waiting_at : ℕ → List Outgoing → ℕ
waiting_at p queue = count_by (is_at p) queue

abbrev pub handed_at : ℕ → List Handed → ℕ
handed_at p hs = count_by (λ (h : Handed). is_at p h.out) hs

abbrev pub undue_at : ℕ → List Answer → ℕ
undue_at p answers = count_by (λ (a : Answer). is_at p a.out) answers

-- once, if it was sent
abbrev pub at_most : ℕ → ℕ → ℕ
at_most p sent = one (nat_lt p sent)

abbrev pub Once : ℕ → List Answer → Link → Type 0
Once sent undue l = (p : ℕ) → handed_at p l.handed + waiting_at p l.queue + undue_at p undue ≤ at_most p sent

abbrev pub AllOnce : List (List Effect) → Box → Type 0
AllOnce items b = EachFound (Once b.sent b.undue) b.links

counted-push : {A : Type 0} (f : A → Bool) (xs : List A) (x : A) → count_by f (xs ++ x ∷ []) ≡ count_by f xs + one (f x)
counted-push f xs x = omega (arith, sum_by-append (λ y. one (f y)) xs (x ∷ []), sum_by-cons (λ y. one (f y)) x [])

counted-filter : {A : Type 0} (f p : A → Bool) (xs : List A) → count_by f (filter p xs) ≤ count_by f xs
counted-filter f p [] = omega arith
counted-filter f p (x ∷ xs) =
    let rest : count_by f (filter p xs) ≤ count_by f xs = counted-filter f p xs in
    let all : count_by f (x ∷ xs) ≡ one (f x) + count_by f xs = sum_by-cons (λ y. one (f y)) x xs in
    cond_both (p x) (x ∷ filter p xs) (filter p xs) (λ ys. count_by f ys ≤ count_by f (x ∷ xs))
    (λ is. omega (arith, rest, all, sum_by-cons (λ y. one (f y)) x (filter p xs))) (λ is. omega (arith, rest, all))

counted-without : {A : Type 0} (f : A → Bool) (before rest : List A) (x : A) → count_by f (before ++ x ∷ rest) ≡ count_by f (before ++ rest) + one (f x)
counted-without f before rest x =
    omega (arith, sum_by-append (λ y. one (f y)) before (x ∷ rest), sum_by-append (λ y. one (f y)) before rest, sum_by-cons (λ y. one (f y)) x rest)

-- one more is sent
more_sent : (p n k : ℕ) → k ≤ at_most p n → k + one (n == p) ≤ at_most p (n + 1)
more_sent p n k h =
    ⊎_elim
    (λ same. let no : nat_lt p n ≡ false = le-ltb p n (omega (arith, same)) in
    let now : nat_lt p (n + 1) ≡ true = lt-ltb p (n + 1) (omega (arith, same)) in
    let none : k ≤ 0 = subst (λ v. k ≤ one v) no h in
    subst (λ v. k + one v ≤ at_most p (n + 1)) (sym (eq-eqb n p (sym same))) (subst (λ v. k + 1 ≤ one v) (sym now) (omega (arith, none))))
    (⊎_elim
    (λ less. let before : nat_lt p n ≡ true = lt-ltb p n less in
    let now : nat_lt p (n + 1) ≡ true = lt-ltb p (n + 1) (omega (arith, less)) in
    let some : k ≤ 1 = subst (λ v. k ≤ one v) before h in
    subst (λ v. k + one v ≤ at_most p (n + 1)) (sym (ne_eqb n p (λ same. omega (arith, less, same)))) (subst (λ v. k + 0 ≤ one v) (sym now) (omega (arith, some))))
    (λ more. let no : nat_lt p n ≡ false = le-ltb p n (omega (arith, more)) in
    let none : k ≤ 0 = subst (λ v. k ≤ one v) no h in
    subst (λ v. k + one v ≤ at_most p (n + 1)) (sym (ne_eqb n p (λ same. omega (arith, more, same)))) (omega (arith, none))))
    (cases_order p n)

-- it enters a queue, having been in `undue` or newly sent
entered : (sent sent' : ℕ) (undue undue' : List Answer) (conn : ℕ) (out : Outgoing) (links : List Link)
    → ((l : Link) → Once sent undue l → (p : ℕ) → handed_at p l.handed + waiting_at p l.queue + undue_at p undue' + one (is_at p out) ≤ at_most p sent')
    → EachFound (Once sent undue) links → EachFound (Once sent' undue') (at_link conn (append out) links)
entered sent sent' undue undue' conn out links room h =
    found-at_link (Once sent undue) (Once sent' undue') conn (append out)
    (λ l. cond_both (takes_more l) (record l { queue = l.queue ++ out ∷ [] }) l (λ (m : Link). m.conn ≡ l.conn) (λ is. refl) (λ is. refl)) links
    (λ l found k. cond_both (takes_more l) (record l { queue = l.queue ++ out ∷ [] }) l (Once sent' undue')
    (λ is p. omega (arith, room l k p, counted-push (is_at p) l.queue out)) (λ is p. omega (arith, room l k p)))
    (λ l isnt k p. omega (arith, room l k p)) h

sends_one : (o : Opening) (b : Box) (r : Option Request) (tickets conns closes : List ℕ) (x : Option (ℕ × Reply)) → AllOnce [] b → AllOnce [] (send o r tickets conns closes x b)
sends_one o b r tickets conns closes None h = h
sends_one o b r tickets conns closes (Some s) h = by_request r
  where
    enters : (q : Option Request) → AllOnce [] (let b' = enter s.0 (outgoing b q tickets s.1) b in record b' { sent = b'.sent + 1 })
    enters q =
        let out : Outgoing = outgoing b q tickets s.1 in
        entered b.sent (b.sent + 1) b.undue b.undue s.0 (record out { time = b.time }) b.links
        (λ l k p. more_sent p b.sent (handed_at p l.handed + waiting_at p l.queue + undue_at p b.undue) (k p)) h

    by_aim : (q : Request) (about : Option Aim) → AllOnce [] (let b' = send_as o (Some q) about conns closes s.0 (outgoing b (Some q) tickets s.1) b in record b' { sent = b'.sent + 1 })
    by_aim q None = enters (Some q)
    by_aim q (Some about) =
        let a : Answer = answer o b q conns closes s.0 (outgoing b (Some q) tickets s.1) about in
        cond_both (list_any (λ (l : Link). (l.conn == a.conn) && takes_more l) b.links) (record b { undue = b.undue ++ a ∷ [] }) b (λ (b' : Box). AllOnce [] (record b' { sent = b'.sent + 1 }))
        (λ may. found-weaken (Once b.sent b.undue) (Once (b.sent + 1) (b.undue ++ a ∷ [])) b.links
        (λ l k p. omega (arith, more_sent p b.sent (handed_at p l.handed + waiting_at p l.queue + undue_at p b.undue) (k p), counted-push (λ (y : Answer). is_at p y.out) b.undue a)) h)
        (λ may. found-weaken (Once b.sent b.undue) (Once (b.sent + 1) b.undue) b.links
        (λ l k p. omega (arith, more_sent p b.sent (handed_at p l.handed + waiting_at p l.queue + undue_at p b.undue) (k p))) h)

    by_request : (q : Option Request) → AllOnce [] (send o q tickets conns closes (Some s) b)
    by_request (Some q) = by_aim q (aim o (Some q) s.1)
    by_request None = enters None

-- fewer wait
fewer : (sent : ℕ) (undue undue' : List Answer) (l : Link) (queue : List Outgoing) → ((p : ℕ) → waiting_at p queue ≤ waiting_at p l.queue) → ((p : ℕ) → undue_at p undue' ≤ undue_at p undue) → Once sent undue l → Once sent undue' (record l { queue = queue })
fewer sent undue undue' l queue here there k p = omega (arith, here p, there p, k p)

count_walk : (o : Opening) → Walk o AllOnce
count_walk o = record {
  tasks = λ items b ts h. h;
  drops = λ items b these h. found-map (Once b.sent b.undue) (Once b.sent b.undue) (without these) (λ l. refl) b.links
      (λ c l found k. fewer b.sent b.undue b.undue l (without these l).queue (λ p. counted-filter (is_at p) _ l.queue) (λ p. omega arith) k) h;
  closes = λ items b conn h. found-at_link (Once b.sent b.undue) (Once b.sent b.undue) conn (λ l. record l { closed = true }) (λ l. refl) b.links (λ l found k. k) (λ l isnt k. k) h;
  cuts = λ items b conn h. found-at_link (Once b.sent b.undue) (Once b.sent b.undue) conn (λ l. record l { closed = true; cut = true }) (λ l. refl) b.links (λ l found k. k) (λ l isnt k. k) h;
  drops_on = λ items b conn over h.
      let undue' : List Answer = filter (λ (a : Answer). not (a.conn == conn)) b.undue in
      let less : (p : ℕ) → undue_at p undue' ≤ undue_at p b.undue = λ p. counted-filter (λ (a : Answer). is_at p a.out) (λ (a : Answer). not (a.conn == conn)) b.undue in
      found-at_link (Once b.sent b.undue) (Once b.sent undue') conn emptied (λ l. refl) b.links
      (λ l found k. fewer b.sent b.undue undue' l [] (λ p. omega arith) less k)
      (λ l isnt k. fewer b.sent b.undue undue' l l.queue (λ p. omega arith) less k) h;
  moves = λ items b before rest a due h.
      entered b.sent b.sent (before ++ a ∷ rest) (before ++ rest) a.conn (record (a.out) { time = b.time }) b.links
      (λ l k p. omega (arith, k p, counted-without (λ (x : Answer). is_at p x.out) before rest a)) h;
  sends = λ items b item conns closes h. sends_one o b (executing item) (tickets_left item) conns closes (first_of (filter_map reply_sent item)) h;
}

clears-counted : (p unit : ℕ) (answers : List Answer) → undue_at p (cleared unit answers) ≡ undue_at p answers
clears-counted p unit [] = refl
clears-counted p unit (a ∷ answers) =
    let f : Answer → ℕ = λ (x : Answer). one (is_at p x.out) in
    cond_both (waits_for_clear unit a) (record a { uncleared = false } ∷ answers) (a ∷ cleared unit answers) (λ xs. undue_at p xs ≡ undue_at p (a ∷ answers))
    (λ is. sum_by-cons f (record a { uncleared = false }) answers ∙ sym (sum_by-cons f a answers))
    (λ is. sum_by-cons f a (cleared unit answers) ∙ ap (λ n. one (is_at p a.out) + n) (clears-counted p unit answers) ∙ sym (sum_by-cons f a answers))

not_there : (p : ℕ) (out : Outgoing) → IsOwn out → is_at p out ≡ false
not_there p out own = ap (λ x. elim x [ Some q ↦ q == p | None ↦ false ]) own.none

pub from_queue : (items : List (List Effect)) (conn : ℕ) (out : Outgoing) → IsSent items conn out → is_from_queue out ≡ true
from_queue items conn out s = ap (λ x. elim x [ Replies reply ↦ true | Owns p ↦ true | Pings tag ↦ false | Notices ↦ false ]) s.pdu_is

pub taken_at : (o : Opening) (b : Box) (l : Link) (out : Outgoing) (items : List (List Effect)) → Chosen o b l out → EachOf (Entry items l.conn) l.queue → (p : ℕ) → waiting_at p (taken_from out l).queue + one (is_at p out) ≤ waiting_at p l.queue
taken_at o b l out items from waits p =
    ⊎_elim
    (λ (q : FromQueue o b l out).
    let first : Entry items l.conn out = (subst (EachOf (Entry items l.conn)) q.queue_is waits).0 in
    let all : waiting_at p l.queue ≡ one (is_at p out) + waiting_at p q.rest = ap (waiting_at p) q.queue_is ∙ sum_by-cons (λ y. one (is_at p y)) out q.rest in
    let dropped : drop 1 l.queue ≡ q.rest = ap (drop 1) q.queue_is in
    ⊎_elim
    (λ (s : IsSent items l.conn out).
    let same : (taken_from out l).queue ≡ q.rest = ap (λ v. (cond v (record l { queue = drop 1 l.queue }) l).queue) (from_queue items l.conn out s) ∙ dropped in
    omega (arith, all, ap (waiting_at p) same))
    (λ (own : IsOwn out). less_own own) first)
    (⊎_elim (λ (x : IsPing o b l out). less_own (subst IsOwn (sym x.is) (record { none = refl; apart = λ reply is. absurd cc }))) (λ (x : IsNotice o b l out). less_own (subst IsOwn (sym x.is) (record { none = refl; apart = λ reply is. absurd cc }))))
    from.source
  where
    less_own : IsOwn out → waiting_at p (taken_from out l).queue + one (is_at p out) ≤ waiting_at p l.queue
    less_own own =
        let none : one (is_at p out) ≡ 0 = ap one (not_there p out own) in
        cond_both (is_from_queue out) (record l { queue = drop 1 l.queue }) l (λ (m : Link). waiting_at p m.queue + one (is_at p out) ≤ waiting_at p l.queue)
        (λ is. omega (arith, none, fewer-drop l.queue)) (λ is. omega (arith, none))
      where
        fewer-drop : (queue : List Outgoing) → waiting_at p (drop 1 queue) ≤ waiting_at p queue
        fewer-drop [] = omega arith
        fewer-drop (x ∷ queue) = omega (arith, sum_by-cons (λ y. one (is_at p y)) x queue)

pub some_link : (l m : Link) → Some l ≡ Some m → l ≡ m
some_link l m h = cc

count_hands : (o : Opening) (ds : List Deed) (b : Box) (conn : ℕ) (h : Handed) (n : Handing o b conn h) → Chosen o b n.link n.out → PlacesStand ds b → AllOnce (items_in ds) b → AllOnce (items_in ds) (after_given o b n.link (handed_as o b n.link n.out))
count_hands o ds b conn h n from places once =
    found-at_link Between (Once b.sent b.undue) l.conn (λ m. record m { handed = m.handed ++ g ∷ [] }) (λ m. refl) (at_link l.conn (taken_from out) b.links)
    (λ m found k p. omega (arith, k.0 (found-conn l.conn (at_link l.conn (taken_from out) b.links) m found) p, counted-push (λ (x : Handed). is_at p x.out) m.handed g)) (λ m isnt k. k.1 isnt)
    (found-at_link (Once b.sent b.undue) Between l.conn (taken_from out) (λ m. cond_both (is_from_queue out) (record m { queue = drop 1 m.queue }) m (λ (x : Link). x.conn ≡ m.conn) (λ is. refl) (λ is. refl)) b.links
    (λ m found k. let same : l ≡ m = some_link l m (sym (ap (λ c. find_link c b.links) at ∙ n.found) ∙ found) in subst (λ (x : Link). Between (taken_from out x)) same (taken (once conn l n.found)))
    (λ m isnt k. ((λ same. absurd (eqb-false m.conn l.conn isnt same)), (λ apart. k))) once)
  where
    l : Link
    l = n.link

    out : Outgoing
    out = n.out

    g : Handed
    g = handed_as o b l out

    at : l.conn ≡ conn
    at = found-conn conn b.links l n.found

    Between : Link → Type 0
    Between m = (m.conn ≡ l.conn → (p : ℕ) → handed_at p m.handed + one (is_at p out) + waiting_at p m.queue + undue_at p b.undue ≤ at_most p b.sent) × ((m.conn == l.conn) ≡ false → Once b.sent b.undue m)

    placed : Placed ds (items_in ds) l
    placed = each-first_of (Placed ds (items_in ds)) (λ (m : Link). m.conn == conn) b.links l n.found places.links

    same_conn : (taken_from out l).conn ≡ l.conn
    same_conn = cond_both (is_from_queue out) (record l { queue = drop 1 l.queue }) l (λ (x : Link). x.conn ≡ l.conn) (λ is. refl) (λ is. refl)

    same_handed : (taken_from out l).handed ≡ l.handed
    same_handed = cond_both (is_from_queue out) (record l { queue = drop 1 l.queue }) l (λ (x : Link). x.handed ≡ l.handed) (λ is. refl) (λ is. refl)

    taken : Once b.sent b.undue l → Between (taken_from out l)
    taken k =
        ((λ same p. omega (arith, k p, ap (handed_at p) same_handed, taken_at o b l out (items_in ds) from placed.waits p)), (λ apart. absurd (eqb-false (taken_from out l).conn l.conn apart same_conn)))

pub count_boxes : (o : Opening) → Boxwise o PlacesStand AllOnce
count_boxes o = record {
  walk = count_walk o;
  numbers = λ items b exp max h. h;
  puts = λ items b conn p h. entered b.sent b.sent b.undue b.undue conn (record (own_outgoing p) { time = b.time }) b.links (λ l k p'. omega (arith, k p')) h;
  marks = λ items b conn change alike h. found-at_link (Once b.sent b.undue) (Once b.sent b.undue) conn change (λ l. (alike l).conn) b.links
      (λ l found k p. omega (arith, k p, ap (handed_at p) (alike l).handed, ap (waiting_at p) (alike l).queue)) (λ l isnt k. k) h;
  reaches = λ items b n h. h;
  clears = λ items b unit h. found-weaken (Once b.sent b.undue) (Once b.sent (cleared unit b.undue)) b.links (λ l k p. omega (arith, k p, clears-counted p unit b.undue)) h;
  hands = count_hands o;
}

pub count_starts : (o : Opening) → AllOnce [] (opened o)
count_starts o conn l found p = starts o.session.conns found
  where
    starts : (cs : List (ℕ × ℕ)) → find_link conn (map (λ (c : ℕ × ℕ). new_link c.0) cs) ≡ Some l → handed_at p l.handed + waiting_at p l.queue + 0 ≤ at_most p 0
    starts [] is = absurd cc
    starts (c ∷ cs) is =
        elim (c.0 == conn) as (λ v. first_of (cond v (new_link c.0 ∷ filter (λ (k : Link). k.conn == conn) (map (λ (d : ℕ × ℕ). new_link d.0) cs)) (filter (λ (k : Link). k.conn == conn) (map (λ (d : ℕ × ℕ). new_link d.0) cs))) ≡ Some l
        → handed_at p l.handed + waiting_at p l.queue + 0 ≤ at_most p 0) [
          | true ↦ λ here. subst (λ (k : Link). handed_at p k.handed + waiting_at p k.queue + 0 ≤ at_most p 0) (some_link (new_link c.0) l here) (omega arith)
          | false ↦ λ later. starts cs later
        ] is
