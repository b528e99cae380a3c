-- There is room for what enters.
use Rattle.std.proofs.Common.{◌≡◌, ℕ, suc, ◌+◌, ◌*◌, ◌<◌, ◌≤◌, cond, nat_lt, Bool, true, false, List, [], ◌∷◌, length, map, count_by, sum_by, refl, ap, sym, ◌∙◌, arith, lt-ltb}
use Rattle.std.proofs.lemmas.Bool.{and_from}
use Rattle.std.proofs.lemmas.List.{length-map}
use Rattle.std.proofs.lemmas.List.Sums.{sum_by-cons}
use Rattle.iscsi_outbox_rules.specs.rules.Calls.{Opening}
use Rattle.iscsi_outbox_rules.specs.rules.Boxes.{Outgoing, Link, Box}
use Rattle.iscsi_outbox_rules.specs.rules.Words.{is_reply}
use Rattle.iscsi_outbox_rules.specs.rules.Own.{is_own}
use Rattle.iscsi_outbox_rules.specs.promises.Room.{places}
use Rattle.iscsi_outbox_state.specs.declared.waiting.Content.{Content}
use Rattle.iscsi_outbox_state.specs.declared.waiting.Content.TheVariants.{Reply, Own}
use Rattle.iscsi_outbox_state.specs.Waits.{Entry, count_in, is_any, is_own as is_own_entry, is_reply as is_reply_entry}
use Rattle.iscsi_outbox_steps.specs.State.{State, Limits, waiting_room}
use Rattle.iscsi_outbox_steps.specs.Steps.{has_room, has_time}
use Rattle.iscsi_outbox_law.specs.private.Pairs.{EachOf}
use Rattle.iscsi_outbox_law.specs.private.Links.{pdu_of}
use Rattle.iscsi_outbox_law.specs.private.Stands.{StandsWith}
use Rattle.iscsi_outbox_law.proofs.queues.Waiting.{queues_counted}

-- how many replies and own PDUs wait on connections
abbrev pub replies_queued : List Link → ℕ
replies_queued links = sum_by (λ (l : Link). count_by (λ (out : Outgoing). is_reply out.pdu) l.queue) links

abbrev pub own_queued : List Link → ℕ
own_queued links = sum_by (λ (l : Link). count_by (λ (out : Outgoing). is_own out.pdu) l.queue) links

abbrev pub own_on : Link → ℕ
own_on l = count_by (λ (out : Outgoing). is_own out.pdu) l.queue

one_of : (c : Content) → 1 ≡ cond (elim c as (λ (x : Content). Bool) [ Reply reply ↦ true | Own own ↦ false ]) 1 0 + cond (elim c as (λ (x : Content). Bool) [ Reply reply ↦ false | Own own ↦ true ]) 1 0
one_of (Reply reply) = refl
one_of (Own own) = refl

two_kinds : (es : List Entry) → count_by is_any es ≡ count_by is_reply_entry es + count_by is_own_entry es
two_kinds [] = refl
two_kinds (e ∷ es) =
    sum_by-cons (λ (x : Entry). cond (is_any x) 1 0) e es
    ∙ (let rest = two_kinds es in
    let here = one_of (e.item.content) in
    let first = sum_by-cons (λ (x : Entry). cond (is_reply_entry x) 1 0) e es in
    let second = sum_by-cons (λ (x : Entry). cond (is_own_entry x) 1 0) e es in
    let z : 1 + count_by is_any es ≡ count_by is_reply_entry (e ∷ es) + count_by is_own_entry (e ∷ es) = omega (arith, rest, here, first, second) in z)

all_kinds : (queues : List (List Entry)) → sum_by (λ (q : List Entry). count_by is_any q) queues ≡ sum_by (λ (q : List Entry). count_by is_reply_entry q) queues + sum_by (λ (q : List Entry). count_by is_own_entry q) queues
all_kinds [] = refl
all_kinds (q ∷ queues) =
    let rest = all_kinds queues in
    let here = two_kinds q in
    let whole = sum_by-cons (λ (x : List Entry). count_by is_any x) q queues in
    let first = sum_by-cons (λ (x : List Entry). count_by is_reply_entry x) q queues in
    let second = sum_by-cons (λ (x : List Entry). count_by is_own_entry x) q queues in
    omega (arith, rest, here, whole, first, second)

reply_as : (c : Content) → (elim c as (λ (x : Content). Bool) [ Reply reply ↦ true | Own own ↦ false ]) ≡ is_reply (pdu_of c)
reply_as (Reply reply) = refl
reply_as (Own own) = refl

own_as : (c : Content) → (elim c as (λ (x : Content). Bool) [ Reply reply ↦ false | Own own ↦ true ]) ≡ is_own (pdu_of c)
own_as (Reply reply) = refl
own_as (Own own) = refl

-- no more own PDUs than their limit on each connection
pub own_bound : (own : ℕ) (links : List Link) → EachOf (λ (l : Link). own_on l ≤ own) links → own_queued links ≤ own * length links
own_bound own [] h = omega arith
own_bound own (l ∷ links) h =
    let rest = own_bound own links h.1 in
    let whole = sum_by-cons (λ (m : Link). count_by (λ (out : Outgoing). is_own out.pdu) m.queue) l links in
    let more : own * suc (length links) ≡ own + own * length links = times_next own (length links) in
    omega (arith, rest, whole, more, h.0)
  where
    times_next : (a n : ℕ) → a * suc n ≡ a + a * n
    times_next a n = grind arith

pub room_is : (under : ℕ → Bool) (o : Opening) (s : State) (b : Box) → StandsWith under o s b → replies_queued b.links + own_queued b.links < places o + o.own * length b.links → has_time s.waits ≡ true → has_room s.waits ≡ true
room_is under o s b h few timed =
    let limit : s.waits.room ≡ places o + o.own * length b.links = h.sizes.waits ∙ room_of in
    let replies : sum_by (λ (q : List Entry). count_by is_reply_entry q) s.waits.queues ≡ replies_queued b.links =
    queues_counted s.tracked is_reply_entry (λ (out : Outgoing). is_reply out.pdu) (λ cid e out k. reply_as (e.item.content) ∙ ap is_reply k.pdu) s.waits.queues b.links h.queues in
    let owns : sum_by (λ (q : List Entry). count_by is_own_entry q) s.waits.queues ≡ own_queued b.links =
    queues_counted s.tracked is_own_entry (λ (out : Outgoing). is_own out.pdu) (λ cid e out k. own_as (e.item.content) ∙ ap is_own k.pdu) s.waits.queues b.links h.queues in
    and_from (has_time s.waits) (nat_lt (count_in is_any s.waits) s.waits.room) timed (lt-ltb (count_in is_any s.waits) s.waits.room (omega (arith, limit, replies, owns, all_kinds s.waits.queues, few)))
  where
    as_conns : length (map (λ (c : ℕ × ℕ). c.0) o.session.conns) ≡ length b.links
    as_conns = sym (ap (λ (l : Limits). length l.cids) h.sizes.limits) ∙ ap length (sym h.links.conns) ∙ length-map b.links (λ (l : Link). l.conn)

    room_of : waiting_room s.limits ≡ places o + o.own * length b.links
    room_of =
        ap waiting_room h.sizes.limits
        ∙ ap (λ n. 3 * (o.session.window + 12 * n) + o.own * length (map (λ (c : ℕ × ℕ). c.0) o.session.conns)) (length-map o.session.conns (λ (c : ℕ × ℕ). c.0))
        ∙ ap (λ n. 3 * (o.session.window + 12 * length o.session.conns) + o.own * n) as_conns
