-- As a command completes, one reply more waits, where its connection takes it.
use Rattle.std.proofs.Common.{◌≡◌, ℕ, ◌+◌, ◌≤◌, ◌==◌, ◌&&◌, ◌||◌, cond, Bool, true, false, List, [], ◌∷◌, ◌++◌, filter_map, count_by, Some, None, refl, ap, sym, subst, ◌∙◌, arith}
use Rattle.std.specs.Prelude.{sum_by}
use Rattle.std.specs.List.{list_any}
use Rattle.std.proofs.lemmas.Bool.{cond_both, false≢true}
use Rattle.std.proofs.lemmas.List.Sums.{sum_by-append, sum_by-cons}
use Rattle.iscsi_wire.specs.declared.reply.Reply.{Reply}
use Rattle.iscsi_rules.specs.declared.effect.Effect.{Effect}
use Rattle.iscsi_rules.specs.rules.Trace.{first_of}
use Rattle.iscsi_rules.proofs.general.BoolLemmas.{and_parts, or_first, or_second}
use Rattle.iscsi_rules.proofs.general.CountLemmas.{count-cons, one}
use Rattle.iscsi_outbox_rules.specs.rules.Boxes.{Answer, Box, Link, Outgoing}
use Rattle.iscsi_outbox_rules.specs.rules.Calls.{Opening}
use Rattle.iscsi_outbox_rules.specs.rules.Due.{is_due, settle, settle_from}
use Rattle.iscsi_outbox_rules.specs.rules.Items.{after_item, close, closed_in, enter_tasks, executing, in_phase, leave, newly_closed, outgoing, phase_enabled, reply_sent, send, ticket_enabled, tickets_left}
use Rattle.iscsi_outbox_rules.specs.rules.Queues.{append, at_link, enter, takes_more}
use Rattle.iscsi_outbox_rules.specs.rules.Words.{is_reply, replies_waiting}
use Rattle.iscsi_outbox_law.specs.private.Pairs.{EachOf}
use Rattle.iscsi_outbox_law.specs.private.Sound.{IsAnswerSound}
use Rattle.iscsi_outbox_law.proofs.general.PairLemmas.{each-weaken}

abbrev in_queue : Link → ℕ
in_queue l = count_by (λ (out : Outgoing). is_reply out.pdu) l.queue

abbrev on_links : List Link → ℕ
on_links links = sum_by in_queue links

abbrev not_due : List Answer → ℕ
not_due answers = count_by (λ (a : Answer). is_reply a.out.pdu) answers

-- a connection with this CID takes more
abbrev takes_on : List Link → ℕ → Bool
takes_on links conn = list_any (λ (l : Link). l.conn == conn && takes_more l) links

taken : (out : Outgoing) (l : Link) → takes_more l ≡ true → in_queue l + one (is_reply out.pdu) ≤ in_queue (append out l)
taken out l may =
    let e = ap (λ v. in_queue (cond v (record l { queue = l.queue ++ out ∷ [] }) l)) may in
    omega (arith, e, sum_by-append (λ (x : Outgoing). cond (is_reply x.pdu) 1 0) l.queue (out ∷ []), count-cons (λ (x : Outgoing). is_reply x.pdu) out [])

no_less : (out : Outgoing) (l : Link) → in_queue l ≤ in_queue (append out l)
no_less out l =
    cond_both (takes_more l) (record l { queue = l.queue ++ out ∷ [] }) l (λ (m : Link). in_queue l ≤ in_queue m)
    (λ may. omega (arith, sum_by-append (λ (x : Outgoing). cond (is_reply x.pdu) 1 0) l.queue (out ∷ []))) (λ may. omega arith)

none_less : (conn : ℕ) (out : Outgoing) (links : List Link) → on_links links ≤ on_links (at_link conn (append out) links)
none_less conn out [] = omega arith
none_less conn out (l ∷ links) =
    let first = cond_both (l.conn == conn) (append out l) l (λ (m : Link). in_queue l ≤ in_queue m) (λ here. no_less out l) (λ other. omega arith) in
    let rest = none_less conn out links in
    omega (arith, first, rest, sum_by-cons in_queue l links, sum_by-cons in_queue (cond (l.conn == conn) (append out l) l) (at_link conn (append out) links))

one_more : (conn : ℕ) (out : Outgoing) (links : List Link) → takes_on links conn ≡ true → on_links links + one (is_reply out.pdu) ≤ on_links (at_link conn (append out) links)
one_more conn out [] may = absurd (false≢true may)
one_more conn out (l ∷ links) may = by_first (one_more conn out links) (l.conn == conn && takes_more l) refl may
  where
    by_first : (takes_on links conn ≡ true → on_links links + one (is_reply out.pdu) ≤ on_links (at_link conn (append out) links)) → (v : Bool) → (l.conn == conn && takes_more l) ≡ v → (v || takes_on links conn) ≡ true
        → on_links (l ∷ links) + one (is_reply out.pdu) ≤ on_links (at_link conn (append out) (l ∷ links))
    by_first further true is k =
        let parts = and_parts (l.conn == conn) (takes_more l) is in
        let here = ap (λ v. in_queue (cond v (append out l) l)) parts.0 in
        let first = taken out l parts.1 in
        let rest = none_less conn out links in
        omega (arith, here, first, rest, sum_by-cons in_queue l links, sum_by-cons in_queue (cond (l.conn == conn) (append out l) l) (at_link conn (append out) links))
    by_first further false is k =
        let first = cond_both (l.conn == conn) (append out l) l (λ (m : Link). in_queue l ≤ in_queue m) (λ here. no_less out l) (λ other. omega arith) in
        let rest = further k in
        omega (arith, first, rest, sum_by-cons in_queue l links, sum_by-cons in_queue (cond (l.conn == conn) (append out l) l) (at_link conn (append out) links))

-- what takes more takes more still
still_takes : (conn at : ℕ) (out : Outgoing) (links : List Link) → takes_on links conn ≡ true → takes_on (at_link at (append out) links) conn ≡ true
still_takes conn at out [] may = may
still_takes conn at out (l ∷ links) may = by_first (still_takes conn at out links) (l.conn == conn && takes_more l) refl may
  where
    same : (cond (l.conn == at) (append out l) l).conn == conn && takes_more (cond (l.conn == at) (append out l) l) ≡ (l.conn == conn && takes_more l)
    same =
        cond_both (l.conn == at) (append out l) l (λ (m : Link). (m.conn == conn && takes_more m) ≡ (l.conn == conn && takes_more l))
        (λ here. cond_both (takes_more l) (record l { queue = l.queue ++ out ∷ [] }) l (λ (m : Link). (m.conn == conn && takes_more m) ≡ (l.conn == conn && takes_more l)) (λ may'. refl) (λ may'. refl)) (λ other. refl)

    by_first : (takes_on links conn ≡ true → takes_on (at_link at (append out) links) conn ≡ true) → (v : Bool) → (l.conn == conn && takes_more l) ≡ v → (v || takes_on links conn) ≡ true
        → (((cond (l.conn == at) (append out l) l).conn == conn && takes_more (cond (l.conn == at) (append out l) l)) || takes_on (at_link at (append out) links) conn) ≡ true
    by_first further true is k = or_first ((cond (l.conn == at) (append out l) l).conn == conn && takes_more (cond (l.conn == at) (append out l) l)) (takes_on (at_link at (append out) links) conn) (same ∙ is)
    by_first further false is k = or_second ((cond (l.conn == at) (append out l) l).conn == conn && takes_more (cond (l.conn == at) (append out l) l)) (takes_on (at_link at (append out) links) conn) (further k)

abbrev AreTaken : List Link → List Answer → Type 0
AreTaken links answers = EachOf (λ (a : Answer). takes_on links a.conn ≡ true) answers

settled_many : (o : Opening) (before rest : List Answer) (b : Box) → AreTaken b.links rest → not_due before + not_due rest + on_links b.links ≤ replies_waiting (settle_from o before rest b)
settled_many o before [] b h = omega arith
settled_many o before (a ∷ rest) b h =
    cond_both (is_due o b before a) (settle_from o before rest (enter a.conn a.out b)) (settle_from o (before ++ a ∷ []) rest b) (λ (x : Box). not_due before + not_due (a ∷ rest) + on_links b.links ≤ replies_waiting x)
    (λ due.
    let out : Outgoing = record a.out { time = b.time } in
    let later = settled_many o before rest (enter a.conn a.out b) (each-weaken (λ (x : Answer). takes_on b.links x.conn ≡ true) (λ (x : Answer). takes_on (at_link a.conn (append out) b.links) x.conn ≡ true) rest (λ x k. still_takes x.conn a.conn out b.links k) h.1) in
    let more = one_more a.conn out b.links h.0 in
    omega (arith, later, more, count-cons (λ (x : Answer). is_reply x.out.pdu) a rest))
    (λ undue.
    let later = settled_many o (before ++ a ∷ []) rest b h.1 in
    omega (arith, later, sum_by-append (λ (x : Answer). cond (is_reply x.out.pdu) 1 0) before (a ∷ []), count-cons (λ (x : Answer). is_reply x.out.pdu) a rest, count-cons (λ (x : Answer). is_reply x.out.pdu) a []))

-- an item by which a command completes
pub completes_more : (o : Opening) (b : Box) (item : List Effect) (conn : ℕ) (reply : Reply) → executing item ≡ None → first_of (filter_map reply_sent item) ≡ Some (conn, reply) → takes_on b.links conn ≡ true → EachOf (IsAnswerSound b) b.undue
    → replies_waiting b + 1 ≤ replies_waiting (after_item o b item)
completes_more o b item conn reply none sent may undue =
    subst (λ (x : Box). replies_waiting b + 1 ≤ replies_waiting x) (sym is)
    (let more = one_more conn (record out { time = left.time }) b.links may in
    let later = settled_many o [] b.undue ready (each-weaken (IsAnswerSound b) (λ (a : Answer). takes_on ready.links a.conn ≡ true) b.undue (λ a k. still_takes a.conn conn (record out { time = left.time }) b.links k.taken) undue) in
    omega (arith, more, later))
  where
    left : Box
    left = leave None (tickets_left item) b

    out : Outgoing
    out = outgoing left None (tickets_left item) reply

    ready : Box
    ready =
        in_phase phase_enabled (filter_map ticket_enabled item)
        (record (enter conn (outgoing (leave None (tickets_left item) b) None (tickets_left item) reply) (leave None (tickets_left item) b)) { sent = (leave None (tickets_left item) b).sent + 1 })

    is : after_item o b item ≡ settle o ready
    is =
        ap (λ r. settle o (in_phase phase_enabled (filter_map ticket_enabled item) (send o r (tickets_left item) (closed_in b item) (newly_closed b (closed_in b item)) (first_of (filter_map reply_sent item)) (close r (newly_closed b (closed_in b item)) (enter_tasks r item (leave r (tickets_left item) b)))))) none
        ∙ ap (λ x. settle o (in_phase phase_enabled (filter_map ticket_enabled item) (send o None (tickets_left item) (closed_in b item) (newly_closed b (closed_in b item)) x (leave None (tickets_left item) b)))) sent
