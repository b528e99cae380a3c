-- How many replies wait, for the room that they need: a call that takes an event adds at most those that its items send, and any
-- other call adds none, where no two connections have one CID.
use Rattle.std.proofs.Common.{◌≡◌, ℕ, ◌+◌, ◌≤◌, ◌==◌, ◌&&◌, ◌||◌, not, cond, Bool, true, false, List, [], ◌∷◌, ◌++◌, map, filter, filter_map, drop, length, count_by, Option, Some, None, refl, ap, sym, subst, ◌∙◌, arith, eqb-true}
use Rattle.std.specs.List.{list_any, sum_by}
use Rattle.std.proofs.lemmas.Bool.{cond_both}
use Rattle.std.proofs.lemmas.List.{append-nil}
use Rattle.std.proofs.lemmas.List.Sums.{sum_by-cons, sum_by-append}
use Rattle.iscsi_wire.specs.declared.reply.Reply.{Reply}
use Rattle.iscsi_wire.specs.declared.request.Request.{Request}
use Rattle.iscsi_rules.specs.declared.effect.Effect.{Effect}
use Rattle.iscsi_rules.specs.rules.Settings.{is_known, are_distinct}
use Rattle.iscsi_rules.specs.rules.Trace.{first_of}
use Rattle.iscsi_rules.proofs.general.BoolLemmas.{and_parts, not_true, or_none}
use Rattle.iscsi_rules.proofs.general.ListLemmas.{count_by-push}
use Rattle.iscsi_outbox_rules.specs.rules.Calls.{Opening, Call}
use Rattle.iscsi_outbox_rules.specs.rules.Boxes.{Outgoing, Handed, Aim, Answer, Link, Box}
use Rattle.iscsi_outbox_rules.specs.rules.Words.{contains, is_of, is_reply, replies_waiting}
use Rattle.iscsi_outbox_rules.specs.rules.Queues.{at_link, takes_more, append, enter, without, emptied}
use Rattle.iscsi_outbox_rules.specs.rules.Items.{executing, tickets_left, reply_sent, outgoing, answer, send_as, aim, send}
use Rattle.iscsi_outbox_rules.specs.rules.Own.{own_outgoing}
use Rattle.iscsi_outbox_rules.specs.rules.Handing.{is_from_queue, taken_from, handed_as}
use Rattle.iscsi_outbox_rules.specs.rules.Run.{new_link, opened, after_call, after_calls, waits_for_clear, cleared}
use Rattle.iscsi_outbox_rules.specs.promises.Deeds.{Deed, deeds_of, items_in, items_of_call}
use Rattle.iscsi_outbox_rules.proofs.general.FirstLemmas.{firsts, firsts-none, firsts-some, length-push}
use Rattle.iscsi_outbox_rules.proofs.general.ConnLemmas.{conns_of, HaveConns, have_conns}
use Rattle.iscsi_outbox_rules.proofs.general.Cuts.{keeps}
use Rattle.iscsi_outbox_rules.proofs.closes.MarkItems.{MarksStand}
use Rattle.iscsi_outbox_rules.proofs.closes.MarkCalls.{marks_kept, marks_start}
use Rattle.iscsi_outbox_rules.proofs.general.Walks.{Walk}
use Rattle.iscsi_outbox_rules.proofs.general.Boxwise.{Boxwise, box_keeps}

-- ---- counts

counted_cons : {A : Type 0} (p : A → Bool) (x : A) (xs : List A) → count_by p (x ∷ xs) ≡ cond {A = ℕ} (p x) 1 0 + count_by p xs
counted_cons p x xs = sum_by-cons (λ y. cond {A = ℕ} (p y) 1 0) x xs

counted_filter : {A : Type 0} (p q : A → Bool) (xs : List A) → count_by p (filter q xs) ≤ count_by p xs
counted_filter p q [] = omega arith
counted_filter p q (x ∷ xs) =
    let rest : count_by p (filter q xs) ≤ count_by p xs = counted_filter p q xs in
    cond_both (q x) (x ∷ filter q xs) (filter q xs) (λ ys. count_by p ys ≤ count_by p (x ∷ xs)) (λ is. omega (arith, rest, counted_cons p x (filter q xs), counted_cons p x xs)) (λ is. omega (arith, rest, counted_cons p x xs))

counted_drop : {A : Type 0} (p : A → Bool) (xs : List A) → count_by p (drop 1 xs) ≤ count_by p xs
counted_drop p [] = omega arith
counted_drop p (x ∷ xs) = omega (arith, counted_cons p x xs)

counted_middle : {A : Type 0} (p : A → Bool) (before rest : List A) (x : A) → count_by p (before ++ x ∷ rest) ≡ count_by p (before ++ rest) + cond {A = ℕ} (p x) 1 0
counted_middle p before rest x =
    omega (arith, sum_by-append (λ y. cond {A = ℕ} (p y) 1 0) before (x ∷ rest), sum_by-append (λ y. cond {A = ℕ} (p y) 1 0) before rest, sum_by-cons (λ y. cond {A = ℕ} (p y) 1 0) x rest)

-- ---- connections

abbrev pub waiting_on : Link → ℕ
waiting_on l = count_by (λ (out : Outgoing). is_reply out.pdu) l.queue

abbrev pub waiting_in : List Link → ℕ
waiting_in links = sum_by (λ (l : Link). count_by (λ (out : Outgoing). is_reply out.pdu) l.queue) links

-- no two have one CID
abbrev pub AreDistinct : List ℕ → Type 0
AreDistinct [] = Unit {0}
AreDistinct (c ∷ cs) = (contains cs c ≡ false) × AreDistinct cs

waiting_cons : (l : Link) (links : List Link) → waiting_in (l ∷ links) ≡ waiting_on l + waiting_in links
waiting_cons l links = sum_by-cons (λ (m : Link). count_by (λ (out : Outgoing). is_reply out.pdu) m.queue) l links

waiting_map : (g : Link → Link) → ((l : Link) → waiting_on (g l) ≤ waiting_on l) → (links : List Link) → waiting_in (map g links) ≤ waiting_in links
waiting_map g less [] = omega arith
waiting_map g less (l ∷ links) = let rest : waiting_in (map g links) ≤ waiting_in links = waiting_map g less links in omega (arith, rest, less l, waiting_cons l links, waiting_cons (g l) (map g links))

waiting_at : (conn : ℕ) (change : Link → Link) → ((l : Link) → waiting_on (change l) ≤ waiting_on l) → (links : List Link) → waiting_in (at_link conn change links) ≤ waiting_in links
waiting_at conn change less links =
    waiting_map (λ (l : Link). cond (l.conn == conn) (change l) l)
    (λ l. cond_both (l.conn == conn) (change l) l (λ (m : Link). waiting_on m ≤ waiting_on l) (λ is. less l) (λ is. let z : waiting_on l ≤ waiting_on l = omega arith in z)) links

append_most : (out : Outgoing) (l : Link) → waiting_on (append out l) ≤ waiting_on l + cond {A = ℕ} (is_reply out.pdu) 1 0
append_most out l =
    cond_both (takes_more l) (record l { queue = l.queue ++ out ∷ [] }) l (λ (m : Link). waiting_on m ≤ waiting_on l + cond {A = ℕ} (is_reply out.pdu) 1 0)
    (λ is. omega (arith, count_by-push (λ (x : Outgoing). is_reply x.pdu) l.queue out)) (λ is. omega arith)

none_at : (conn : ℕ) (change : Link → Link) (links : List Link) → contains (conns_of links) conn ≡ false → waiting_in (at_link conn change links) ≤ waiting_in links
none_at conn change [] none = omega arith
none_at conn change (l ∷ links) none =
    let parts = or_none (l.conn == conn) (contains (conns_of links) conn) none in
    let rest : waiting_in (at_link conn change links) ≤ waiting_in links = none_at conn change links parts.1 in
    subst (λ v. waiting_in (cond v (change l) l ∷ at_link conn change links) ≤ waiting_in (l ∷ links)) (sym parts.0) (omega (arith, rest, waiting_cons l links, waiting_cons l (at_link conn change links)))

entered_most : (conn : ℕ) (out : Outgoing) (links : List Link) → AreDistinct (conns_of links) → waiting_in (at_link conn (append out) links) ≤ waiting_in links + cond {A = ℕ} (is_reply out.pdu) 1 0
entered_most conn out [] apart = omega arith
entered_most conn out (l ∷ links) apart =
    elim (l.conn == conn) as (λ v. (l.conn == conn) ≡ v → waiting_in (cond v (append out l) l ∷ at_link conn (append out) links) ≤ waiting_in (l ∷ links) + cond {A = ℕ} (is_reply out.pdu) 1 0) [
      | true ↦ λ is.
          let rest : waiting_in (at_link conn (append out) links) ≤ waiting_in links = none_at conn (append out) links (ap (contains (conns_of links)) (sym (eqb-true l.conn conn is)) ∙ apart.0) in
          omega (arith, rest, append_most out l, waiting_cons l links, waiting_cons (append out l) (at_link conn (append out) links))
      | false ↦ λ is.
          let rest : waiting_in (at_link conn (append out) links) ≤ waiting_in links + cond {A = ℕ} (is_reply out.pdu) 1 0 = entered_most conn out links apart.1 in
          omega (arith, rest, waiting_cons l links, waiting_cons l (at_link conn (append out) links))
    ] refl

-- ---- steps

abbrev is_reply_answer : Answer → Bool
is_reply_answer a = is_reply a.out.pdu

module _ (o : Opening) (cs : List ℕ) (apart : AreDistinct cs) (most : ℕ) where
  -- at most so many, and those that were sent
  pub record AtMost (items : List (List Effect)) (b : Box) : Type 0 where
    pub few : replies_waiting b ≤ most + length (firsts items)
    pub conns : HaveConns cs b.links

  conns_at : (conn : ℕ) (change : Link → Link) → ((l : Link) → (change l).conn ≡ l.conn) → (links : List Link) → HaveConns cs links → HaveConns cs (at_link conn change links)
  conns_at conn change same links h =
      have_conns cs (λ (l : Link). cond (l.conn == conn) (change l) l) (λ l. cond_both (l.conn == conn) (change l) l (λ (m : Link). m.conn ≡ l.conn) (λ is. same l) (λ is. refl)) links h

  append_conn : (out : Outgoing) (l : Link) → (append out l).conn ≡ l.conn
  append_conn out l = cond_both (takes_more l) (record l { queue = l.queue ++ out ∷ [] }) l (λ (m : Link). m.conn ≡ l.conn) (λ is. refl) (λ is. refl)

  fewer : (items : List (List Effect)) (b : Box) (conn : ℕ) (change : Link → Link) → ((l : Link) → (change l).conn ≡ l.conn) → ((l : Link) → waiting_on (change l) ≤ waiting_on l) → AtMost items b → AtMost items (record b { links = at_link conn change b.links })
  fewer items b conn change same less h = record { few = omega (arith, h.few, waiting_at conn change less b.links); conns = conns_at conn change same b.links h.conns }

  enters : (items more : List (List Effect)) (b : Box) (n : ℕ) (conn : ℕ) (out : Outgoing) → length (firsts items) + cond {A = ℕ} (is_reply out.pdu) 1 0 ≤ length (firsts more) → AtMost items b → AtMost more (record (enter conn out b) { sent = n })
  enters items more b n conn out room h = record {
    few = omega (arith, h.few, room, entered_most conn (record out { time = b.time }) b.links (subst AreDistinct (sym h.conns) apart));
    conns = conns_at conn (append (record out { time = b.time })) (append_conn (record out { time = b.time })) b.links h.conns;
  }

  sends_one : (items : List (List Effect)) (b : Box) (item : List Effect) (r : Option Request) (tickets conns closes : List ℕ) (x : Option (ℕ × Reply)) → first_of (filter_map reply_sent item) ≡ x → AtMost items b → AtMost (items ++ item ∷ []) (send o r tickets conns closes x b)
  sends_one items b item r tickets conns closes None none h = record { few = subst (λ n. replies_waiting b ≤ most + n) (sym (ap length (firsts-none items item none))) h.few; conns = h.conns }
  sends_one items b item r tickets conns closes (Some y) some h = by_request r
    where
      its : List (List Effect)
      its = items ++ item ∷ []

      counted : length (firsts (items ++ item ∷ [])) ≡ length (firsts items) + 1
      counted = ap length (firsts-some items item y.0 y.1 some) ∙ length-push (firsts items) (record { before = items; item = item; conn = y.0; reply = y.1 })

      at_once : (q : Option Request) → AtMost (items ++ item ∷ []) (let b' = enter y.0 (outgoing b q tickets y.1) b in record b' { sent = b'.sent + 1 })
      at_once q = enters items (items ++ item ∷ []) b (b.sent + 1) y.0 (outgoing b q tickets y.1) (let z : length (firsts items) + 1 ≤ length (firsts (items ++ item ∷ [])) = omega (arith, counted) in z) h

      by_aim : (q : Request) (z : Option Aim) → AtMost (items ++ item ∷ []) (let b' = send_as o (Some q) z conns closes y.0 (outgoing b (Some q) tickets y.1) b in record b' { sent = b'.sent + 1 })
      by_aim q None = at_once (Some q)
      by_aim q (Some about) =
          let a : Answer = answer o b q conns closes y.0 (outgoing b (Some q) tickets y.1) about in
          cond_both (list_any (λ (l : Link). (l.conn == a.conn) && takes_more l) b.links) (record b { undue = b.undue ++ a ∷ [] }) b (λ (b' : Box). AtMost (items ++ item ∷ []) (record b' { sent = b'.sent + 1 }))
          (λ may. record { few = omega (arith, h.few, counted, count_by-push is_reply_answer b.undue a); conns = h.conns }) (λ may. record { few = omega (arith, h.few, counted); conns = h.conns })

      by_request : (q : Option Request) → AtMost (items ++ item ∷ []) (send o q tickets conns closes (Some y) b)
      by_request (Some q) = by_aim q (aim o (Some q) y.1)
      by_request None = at_once None

  room_walk : Walk o AtMost
  room_walk = record {
    tasks = λ items b ts h. record { few = h.few; conns = h.conns };
    drops = λ items b these h. record {
      few = omega (arith, h.few, waiting_map (without these) (λ l. counted_filter (λ (out : Outgoing). is_reply out.pdu) (λ out. not (is_of these out)) l.queue) b.links);
      conns = have_conns cs (without these) (λ l. refl) b.links h.conns;
    };
    closes = λ items b conn h. fewer items b conn (λ l. record l { closed = true }) (λ l. refl) (λ l. let z : waiting_on l ≤ waiting_on l = omega arith in z) h;
    cuts = λ items b conn h. fewer items b conn (λ l. record l { closed = true; cut = true }) (λ l. refl) (λ l. let z : waiting_on l ≤ waiting_on l = omega arith in z) h;
    drops_on = λ items b conn over h.
        let j : AtMost items (record b { links = at_link conn emptied b.links }) = fewer items b conn emptied (λ l. refl) (λ l. let z : 0 ≤ waiting_on l = omega arith in z) h in
        record { few = omega (arith, j.few, counted_filter is_reply_answer (λ (a : Answer). not (a.conn == conn)) b.undue); conns = j.conns };
    moves = λ items b before rest a due h. record {
      few = omega (arith, h.few, counted_middle is_reply_answer before rest a, entered_most a.conn (record (a.out) { time = b.time }) b.links (subst AreDistinct (sym h.conns) apart));
      conns = conns_at a.conn (append (record (a.out) { time = b.time })) (append_conn (record (a.out) { time = b.time })) b.links h.conns;
    };
    sends = λ items b item conns closes h. sends_one items b item (executing item) (tickets_left item) conns closes (first_of (filter_map reply_sent item)) refl h;
  }

  cleared_few : (unit : ℕ) (answers : List Answer) → count_by is_reply_answer (cleared unit answers) ≤ count_by is_reply_answer answers
  cleared_few unit [] = omega arith
  cleared_few unit (a ∷ answers) =
      let rest : count_by is_reply_answer (cleared unit answers) ≤ count_by is_reply_answer answers = cleared_few unit answers in
      cond_both (waits_for_clear unit a) (record a { uncleared = false } ∷ answers) (a ∷ cleared unit answers) (λ xs. count_by is_reply_answer xs ≤ count_by is_reply_answer (a ∷ answers))
      (λ is. omega (arith, counted_cons is_reply_answer (record a { uncleared = false }) answers, counted_cons is_reply_answer a answers))
      (λ is. omega (arith, rest, counted_cons is_reply_answer a (cleared unit answers), counted_cons is_reply_answer a answers))

  room_boxes : Boxwise o (λ (ds : List Deed) (b : Box). Unit {0}) AtMost
  room_boxes = record {
    walk = room_walk;
    numbers = λ items b exp max h. record { few = h.few; conns = h.conns };
    puts = λ items b conn p h. enters items items b b.sent conn (own_outgoing p) (let z : length (firsts items) + 0 ≤ length (firsts items) = omega arith in z) h;
    marks = λ items b conn change alike h.
        fewer items b conn change (λ l. (alike l).conn)
        (λ l. subst (λ xs. count_by (λ (out : Outgoing). is_reply out.pdu) xs ≤ waiting_on l) (sym (alike l).queue) (let z : waiting_on l ≤ waiting_on l = omega arith in z)) h;
    reaches = λ items b n h. record { few = h.few; conns = h.conns };
    clears = λ items b unit h. record { few = omega (arith, h.few, cleared_few unit b.undue); conns = h.conns };
    hands = λ ds b conn h n from j i.
        let g : Handed = handed_as o b n.link n.out in
        let one : AtMost (items_in ds) (record b { links = at_link n.link.conn (taken_from n.out) b.links }) =
        fewer (items_in ds) b n.link.conn (taken_from n.out) (λ l. cond_both (is_from_queue n.out) (record l { queue = drop 1 l.queue }) l (λ (m : Link). m.conn ≡ l.conn) (λ is. refl) (λ is. refl))
        (λ l. cond_both (is_from_queue n.out) (record l { queue = drop 1 l.queue }) l (λ (m : Link). waiting_on m ≤ waiting_on l) (λ is. counted_drop (λ (out : Outgoing). is_reply out.pdu) l.queue) (λ is. let z : waiting_on l ≤ waiting_on l = omega arith in z)) i in
        let two : AtMost (items_in ds) (record b { links = at_link n.link.conn (λ m. record m { handed = m.handed ++ g ∷ [] }) (at_link n.link.conn (taken_from n.out) b.links) }) =
        fewer (items_in ds) (record b { links = at_link n.link.conn (taken_from n.out) b.links }) n.link.conn (λ m. record m { handed = m.handed ++ g ∷ [] }) (λ m. refl) (λ l. let z : waiting_on l ≤ waiting_on l = omega arith in z) one in
        record { few = two.few; conns = two.conns };
  }

adds_at_most : (o : Opening) (b : Box) (c : Call) → AreDistinct (conns_of b.links) → replies_waiting (after_call o b c) ≤ replies_waiting b + length (firsts (items_of_call c))
adds_at_most o b c apart =
    let start : AtMost o (conns_of b.links) apart (replies_waiting b) [] b = record { few = (let z : replies_waiting b ≤ replies_waiting b + 0 = omega arith in z); conns = refl } in
    let end : AtMost o (conns_of b.links) apart (replies_waiting b) (items_of_call c ++ []) (after_call o b c) =
    box_keeps o (λ (ds : List Deed) (x : Box). Unit {0}) (AtMost o (conns_of b.links) apart (replies_waiting b)) (room_boxes o (conns_of b.links) apart (replies_waiting b)) [] b c tt start in
    subst (λ its. replies_waiting (after_call o b c) ≤ replies_waiting b + length (firsts its)) (append-nil (items_of_call c)) end.few

-- ---- of a session whose connections are distinct

distinct_conns : (xs : List (ℕ × ℕ)) → are_distinct xs ≡ true → AreDistinct (conns_of (map (λ (x : ℕ × ℕ). new_link x.0) xs))
distinct_conns [] h = tt
distinct_conns (x ∷ xs) h = let parts = and_parts (not (is_known x.0 xs)) (are_distinct xs) h in (unknown xs (not_true (is_known x.0 xs) parts.0), distinct_conns xs parts.1)
  where
    unknown : (ys : List (ℕ × ℕ)) → is_known x.0 ys ≡ false → contains (conns_of (map (λ (y : ℕ × ℕ). new_link y.0) ys)) x.0 ≡ false
    unknown [] none = refl
    unknown (y ∷ ys) none = let parts = or_none (y.0 == x.0) (is_known x.0 ys) none in ap (λ v. v || contains (conns_of (map (λ (z : ℕ × ℕ). new_link z.0) ys)) x.0) parts.0 ∙ unknown ys parts.1

pub replies_after : (o : Opening) (calls : List Call) (c : Call) → are_distinct o.session.conns ≡ true → let b = after_calls o (opened o) calls in replies_waiting (after_call o b c) ≤ replies_waiting b + length (firsts (items_of_call c))
replies_after o calls c distinct =
    let marks : MarksStand (conns_of (opened o).links) (items_in (deeds_of o calls)) (after_calls o (opened o) calls) =
    keeps o (λ (ds : List Deed) (b : Box). MarksStand (conns_of (opened o).links) (items_in ds) b) (marks_kept o (conns_of (opened o).links)) [] (opened o) calls (marks_start o) in
    adds_at_most o (after_calls o (opened o) calls) c (subst AreDistinct (sym marks.conns) (distinct_conns o.session.conns distinct))
