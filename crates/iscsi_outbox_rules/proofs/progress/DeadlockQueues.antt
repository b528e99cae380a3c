-- Of what waits: each queue is in the order in which its PDUs entered; where an answer waits, a connection takes it; and each
-- command of its scope has left.
use Rattle.std.proofs.Common.{◌≡◌, ℕ, ⊎_elim, ◌==◌, ◌+◌, ◌<◌, ◌&&◌, ◌||◌, not, cond, Bool, true, false, List, [], ◌∷◌, ◌++◌, map, max, drop, length, filter, filter_map, nat_lt, Option, Some, None, refl, ap, sym, subst, ◌∙◌, arith, eq-eqb, ne_eqb}
use Rattle.std.specs.List.{list_any}
use Rattle.std.proofs.lemmas.Bool.{cond_both, eqb-true, eqb-false}
use Rattle.std.proofs.lemmas.List.{append_assoc, append-nil}
use Rattle.std.proofs.lemmas.List.Folds.{list_any-append}
use Rattle.iscsi_wire.specs.Fields.{connection_of}
use Rattle.iscsi_wire.specs.declared.reply.Reply.{Reply}
use Rattle.iscsi_wire.specs.declared.request.Request.{Request}
use Rattle.iscsi_rules.specs.declared.effect.Effect.{Effect}
use Rattle.iscsi_rules.specs.declared.effect.Numbers.{Numbers}
use Rattle.iscsi_rules.specs.rules.Trace.{first_of}
use Rattle.iscsi_rules.specs.promises.Order.{in_parts}
use Rattle.iscsi_rules.proofs.general.BoolLemmas.{and_parts, and_both, or_second, not_true}
use Rattle.iscsi_outbox_rules.specs.declared.own_pdu.OwnPdu.{OwnPdu}
use Rattle.iscsi_outbox_rules.specs.rules.Calls.{Opening, Call, Takes, Puts, Stops, Nexts, Writes, Hears, Joins, Loses, Clears}
use Rattle.iscsi_outbox_rules.specs.rules.Boxes.{Phase, Task, Outgoing, Handed, Aim, Answer, Link, Box}
use Rattle.iscsi_outbox_rules.specs.rules.Words.{contains, is_left_phase, is_of, is_open, is_running}
use Rattle.iscsi_outbox_rules.specs.rules.Queues.{at_link, takes_more, append, enter, without, emptied, drop_on}
use Rattle.iscsi_outbox_rules.specs.rules.Due.{is_due, settle_from, settle}
use Rattle.iscsi_outbox_rules.specs.rules.Items.{executing, tickets_left, ticket_enabled, reply_sent, closed_in, newly_closed, phase_taken_out, phase_completed, phase_enabled, phase_told, task_entered, in_phase, leave, enter_tasks, close_one, close_all, close, is_aimed_at, outgoing, answer, send_as, aim, send, after_item, after_items, after_event}
use Rattle.iscsi_outbox_rules.specs.rules.Own.{own_conn, own_outgoing, put_refusal}
use Rattle.iscsi_outbox_rules.specs.rules.Handing.{is_from_queue, taken_from, after_given}
use Rattle.iscsi_outbox_rules.specs.rules.Run.{new_link, opened, after_call, after_calls, phase_stopped, one_written, arrived_by_stat_sn, arrived_by_ping, link_heard, may_join, link_joined, link_lost, waits_for_clear, cleared}
use Rattle.iscsi_outbox_rules.proofs.general.EachLemmas.{EachOf, each-append, each-at_link, each-filter, each-first, each-map, each-second, each-weaken}
use Rattle.iscsi_outbox_rules.proofs.general.SortedLemmas.{SortedBy, sorted-push, sorted-filter}
use Rattle.iscsi_outbox_rules.proofs.general.Cuts.{Hand, Idle, next}
use Rattle.iscsi_outbox_rules.proofs.general.TaskWalks.{left_stays, phased}
use Rattle.iscsi_outbox_rules.proofs.aborts.ScopeTasks.{any_same}

abbrev pub Earlier : Outgoing → Outgoing → Type 0
Earlier x y = x.time < y.time

-- it entered before this moment
abbrev pub Timed : ℕ → Link → Type 0
Timed n l = SortedBy Earlier l.queue × EachOf (λ (x : Outgoing). x.time < n) l.queue

abbrev pub has_left : List Task → ℕ → Bool
has_left ts k = list_any (λ (x : Task). (x.ticket == k) && is_left_phase x.phase) ts

abbrev pub takes_on : List Link → ℕ → Bool
takes_on links conn = list_any (λ (l : Link). (l.conn == conn) && takes_more l) links

pub record QueuesStand (b : Box) : Type 0 where
  pub times : EachOf (Timed b.time) b.links
  pub takers : EachOf (λ (a : Answer). takes_on b.links a.conn ≡ true) b.undue
  pub scopes : EachOf (λ (a : Answer). EachOf (λ k. has_left b.tasks k ≡ true) a.out.scope) b.undue

-- ---- one connection

timed_later : (n : ℕ) (l : Link) → Timed n l → Timed (n + 1) l
timed_later n l h = (h.0, each-weaken (λ (x : Outgoing). x.time < n) (λ (x : Outgoing). x.time < n + 1) l.queue (λ x k. omega (arith, k)) h.1)

timed_push : (n : ℕ) (out : Outgoing) (l : Link) → out.time ≡ n → Timed n l → Timed (n + 1) (append out l)
timed_push n out l is h =
    let later : Timed (n + 1) l = timed_later n l h in
    cond_both (takes_more l) (record l { queue = l.queue ++ out ∷ [] }) l (Timed (n + 1))
    (λ more. (
      sorted-push Earlier l.queue out h.0 (each-weaken (λ (x : Outgoing). x.time < n) (λ (x : Outgoing). x.time < out.time) l.queue (λ x k. omega (arith, k, is)) h.1),
      each-append (λ (x : Outgoing). x.time < n + 1) l.queue (out ∷ []) later.1 ((let z : out.time < n + 1 = omega (arith, is) in z), tt),
    )) (λ more. later)

timed_drop : (n : ℕ) (queue : List Outgoing) → SortedBy Earlier queue × EachOf (λ (x : Outgoing). x.time < n) queue → SortedBy Earlier (drop 1 queue) × EachOf (λ (x : Outgoing). x.time < n) (drop 1 queue)
timed_drop n [] h = h
timed_drop n (x ∷ queue) h = (h.0.1, h.1.1)

takes_map : (g : Link → Link) → ((l : Link) → (g l).conn ≡ l.conn) → ((l : Link) → takes_more (g l) ≡ takes_more l) → (links : List Link) (conn : ℕ) → takes_on (map g links) conn ≡ takes_on links conn
takes_map g kept same links conn =
    any_same (λ (l : Link). (l.conn == conn) && takes_more l) (λ (l : Link). (l.conn == conn) && takes_more l) g links (λ l. ap (λ d. (d == conn) && takes_more (g l)) (kept l) ∙ ap (λ v. (l.conn == conn) && v) (same l))

takes_at : (conn : ℕ) (change : Link → Link) → ((l : Link) → (change l).conn ≡ l.conn) → ((l : Link) → takes_more (change l) ≡ takes_more l) → (links : List Link) (d : ℕ) → takes_on (at_link conn change links) d ≡ takes_on links d
takes_at conn change kept same links d =
    takes_map (λ (l : Link). cond (l.conn == conn) (change l) l) (λ l. cond_both (l.conn == conn) (change l) l (λ (m : Link). m.conn ≡ l.conn) (λ is. kept l) (λ is. refl))
    (λ l. cond_both (l.conn == conn) (change l) l (λ (m : Link). takes_more m ≡ takes_more l) (λ is. same l) (λ is. refl)) links d

-- a change of another connection
takes_other : (conn : ℕ) (change : Link → Link) → ((l : Link) → (change l).conn ≡ l.conn) → (links : List Link) (d : ℕ) → (d == conn) ≡ false → takes_on (at_link conn change links) d ≡ takes_on links d
takes_other conn change kept links d apart =
    any_same (λ (l : Link). (l.conn == d) && takes_more l) (λ (l : Link). (l.conn == d) && takes_more l) (λ (l : Link). cond (l.conn == conn) (change l) l) links
    (λ l. cond_both (l.conn == conn) (change l) l (λ (m : Link). ((m.conn == d) && takes_more m) ≡ ((l.conn == d) && takes_more l))
    (λ is. none (change l) (kept l ∙ eqb-true l.conn conn is) ∙ sym (none l (eqb-true l.conn conn is))) (λ is. refl))
  where
    none : (m : Link) → m.conn ≡ conn → ((m.conn == d) && takes_more m) ≡ false
    none m at = ap (λ v. v && takes_more m) (ne_eqb m.conn d (λ same. eqb-false d conn apart (sym same ∙ at)))

-- a connection that joins takes more
takes_joined : (conn stat_sn : ℕ) (links : List Link) (d : ℕ) → takes_on links d ≡ true → takes_on (at_link conn (link_joined stat_sn) links) d ≡ true
takes_joined conn stat_sn [] d some = some
takes_joined conn stat_sn (l ∷ links) d some = by_first ((l.conn == d) && takes_more l) (takes_joined conn stat_sn links d) refl some
  where
    test : Link → Bool
    test m = (m.conn == d) && takes_more m

    here : test l ≡ true → test (cond (l.conn == conn) (link_joined stat_sn l) l) ≡ true
    here is =
        let parts = and_parts (l.conn == d) (takes_more l) is in
        let opens = and_parts (l.joined && not l.lost) (not l.cut) parts.1 in
        cond_both (l.conn == conn) (link_joined stat_sn l) l (λ (m : Link). test m ≡ true)
        (λ at. and_both (l.conn == d) (not l.lost && not l.cut) parts.0 (and_both (not l.lost) (not l.cut) (and_parts l.joined (not l.lost) opens.0).1 opens.1)) (λ apart. is)

    by_first : (v : Bool) → (takes_on links d ≡ true → takes_on (at_link conn (link_joined stat_sn) links) d ≡ true) → test l ≡ v → (v || takes_on links d) ≡ true → takes_on (at_link conn (link_joined stat_sn) (l ∷ links)) d ≡ true
    by_first true go is either = ap (λ v. v || takes_on (at_link conn (link_joined stat_sn) links) d) (here is)
    by_first false go is later = or_second (test (cond (l.conn == conn) (link_joined stat_sn l) l)) (takes_on (at_link conn (link_joined stat_sn) links) d) (go later)

-- ---- commands

-- whatever left stays so
abbrev Onto : List Task → List Task → Type 0
Onto ts us = (k : ℕ) → has_left ts k ≡ true → has_left us k ≡ true

any_map : (f : Task → Task) → ((x : Task) → (f x).ticket ≡ x.ticket) → ((x : Task) → is_left_phase x.phase ≡ true → is_left_phase (f x).phase ≡ true) → (ts : List Task) → Onto ts (map f ts)
any_map f same left [] k h = h
any_map f same left (x ∷ ts) k h = by_first ((x.ticket == k) && is_left_phase x.phase) (any_map f same left ts k) refl h
  where
    here : ((x.ticket == k) && is_left_phase x.phase) ≡ true → (((f x).ticket == k) && is_left_phase (f x).phase) ≡ true
    here is = let parts = and_parts (x.ticket == k) (is_left_phase x.phase) is in and_both ((f x).ticket == k) (is_left_phase (f x).phase) (ap (λ t. t == k) (same x) ∙ parts.0) (left x parts.1)

    by_first : (v : Bool) → (has_left ts k ≡ true → has_left (map f ts) k ≡ true) → ((x.ticket == k) && is_left_phase x.phase) ≡ v → (v || has_left ts k) ≡ true → has_left (map f (x ∷ ts)) k ≡ true
    by_first true go is either = ap (λ v. v || has_left (map f ts) k) (here is)
    by_first false go is later = or_second (((f x).ticket == k) && is_left_phase (f x).phase) (has_left (map f ts) k) (go later)

onto_phased : (change : Phase → Phase) → ((p : Phase) → is_left_phase p ≡ true → is_left_phase (change p) ≡ true) → (tickets : List ℕ) (ts : List Task) → Onto ts (map (phased change tickets) ts)
onto_phased change keeps tickets ts =
    any_map (phased change tickets) (λ x. cond_both (contains tickets x.ticket) (record x { phase = change x.phase }) x (λ (y : Task). y.ticket ≡ x.ticket) (λ is. refl) (λ is. refl))
    (λ x h. cond_both (contains tickets x.ticket) (record x { phase = change x.phase }) x (λ (y : Task). is_left_phase y.phase ≡ true) (λ is. keeps x.phase h) (λ is. h)) ts

-- the scope of a new answer
itself_left : (ts : List Task) → EachOf (λ (x : Task). is_left_phase x.phase ≡ true → has_left ts x.ticket ≡ true) ts
itself_left [] = tt
itself_left (x ∷ ts) = (
  (λ left. ap (λ v. v || has_left ts x.ticket) (and_both (x.ticket == x.ticket) (is_left_phase x.phase) (eq-eqb x.ticket x.ticket refl) left)),
  each-weaken (λ (y : Task). is_left_phase y.phase ≡ true → has_left ts y.ticket ≡ true) (λ (y : Task). is_left_phase y.phase ≡ true → has_left (x ∷ ts) y.ticket ≡ true) ts
      (λ y k left. or_second ((x.ticket == y.ticket) && is_left_phase x.phase) (has_left ts y.ticket) (k left)) (itself_left ts),
)

scope_left : (all ts : List Task) (q : Task → Bool) → EachOf (λ (x : Task). is_left_phase x.phase ≡ true → has_left all x.ticket ≡ true) ts
    → EachOf (λ k. has_left all k ≡ true) (map (λ (x : Task). x.ticket) (filter (λ (x : Task). is_left_phase x.phase && q x) ts))
scope_left all [] q h = tt
scope_left all (x ∷ ts) q h =
    let rest : EachOf (λ k. has_left all k ≡ true) (map (λ (y : Task). y.ticket) (filter (λ (y : Task). is_left_phase y.phase && q y) ts)) = scope_left all ts q h.1 in
    cond_both (is_left_phase x.phase && q x) (x ∷ filter (λ (y : Task). is_left_phase y.phase && q y) ts) (filter (λ (y : Task). is_left_phase y.phase && q y) ts)
    (λ ys. EachOf (λ k. has_left all k ≡ true) (map (λ (y : Task). y.ticket) ys))
    (λ is. (h.0 (and_parts (is_left_phase x.phase) (q x) is).0, rest)) (λ is. rest)

-- ---- the box

each-passing : {A : Type 0} (P Q : A → Type 0) (p : A → Bool) (xs : List A) → ((x : A) → p x ≡ true → P x → Q x) → EachOf P xs → EachOf Q (filter p xs)
each-passing P Q p [] f h = tt
each-passing P Q p (x ∷ xs) f h = cond_both (p x) (x ∷ filter p xs) (filter p xs) (EachOf Q) (λ is. (f x is h.0, each-passing P Q p xs f h.1)) (λ is. each-passing P Q p xs f h.1)

queues_tasks : (b : Box) (ts : List Task) → Onto b.tasks ts → QueuesStand b → QueuesStand (record b { tasks = ts })
queues_tasks b ts onto h = record {
  times = h.times;
  takers = h.takers;
  scopes = each-weaken (λ (a : Answer). EachOf (λ k. has_left b.tasks k ≡ true) a.out.scope) (λ (a : Answer). EachOf (λ k. has_left ts k ≡ true) a.out.scope) b.undue
      (λ a k. each-weaken (λ j. has_left b.tasks j ≡ true) (λ j. has_left ts j ≡ true) a.out.scope onto k) h.scopes;
}

queues_at : (b : Box) (conn : ℕ) (change : Link → Link) → ((l : Link) → (change l).conn ≡ l.conn) → ((l : Link) → takes_more (change l) ≡ takes_more l) → ((l : Link) → Timed b.time l → Timed b.time (change l)) → QueuesStand b
    → QueuesStand (record b { links = at_link conn change b.links })
queues_at b conn change kept same timed h = record {
  times = each-at_link (Timed b.time) (Timed b.time) conn change b.links (λ l is k. timed l k) (λ l isnt k. k) h.times;
  takers = each-weaken (λ (a : Answer). takes_on b.links a.conn ≡ true) (λ (a : Answer). takes_on (at_link conn change b.links) a.conn ≡ true) b.undue (λ a k. takes_at conn change kept same b.links a.conn ∙ k) h.takers;
  scopes = h.scopes;
}

queues_enter : (b : Box) (conn : ℕ) (out : Outgoing) → QueuesStand b → QueuesStand (enter conn out b)
queues_enter b conn out h =
    let out' : Outgoing = record out { time = b.time } in
    record {
      times = each-at_link (Timed b.time) (Timed (b.time + 1)) conn (append out') b.links (λ l is k. timed_push b.time out' l refl k) (λ l isnt k. timed_later b.time l k) h.times;
      takers = each-weaken (λ (a : Answer). takes_on b.links a.conn ≡ true) (λ (a : Answer). takes_on (at_link conn (append out') b.links) a.conn ≡ true) b.undue
          (λ a k. takes_at conn (append out') (λ l. cond_both (takes_more l) (record l { queue = l.queue ++ out' ∷ [] }) l (λ (m : Link). m.conn ≡ l.conn) (λ is. refl) (λ is. refl))
          (λ l. cond_both (takes_more l) (record l { queue = l.queue ++ out' ∷ [] }) l (λ (m : Link). takes_more m ≡ takes_more l) (λ is. refl) (λ is. refl)) b.links a.conn ∙ k) h.takers;
      scopes = h.scopes;
    }

-- a connection takes nothing more, and is emptied
queues_shut : (b : Box) (conn : ℕ) (change : Link → Link) → ((l : Link) → (change l).conn ≡ l.conn) → QueuesStand b → QueuesStand (drop_on conn (record b { links = at_link conn change b.links }))
queues_shut b conn change kept h = record {
  times = each-at_link Between (Timed b.time) conn emptied (at_link conn change b.links) (λ l is k. (tt, tt)) (λ l isnt k. k isnt)
      (each-at_link (Timed b.time) Between conn change b.links (λ l is k isnt. absurd (eqb-false (change l).conn conn isnt (kept l ∙ is))) (λ l isnt k apart. k) h.times);
  takers = each-passing (λ (a : Answer). takes_on b.links a.conn ≡ true) (λ (a : Answer). takes_on (at_link conn emptied (at_link conn change b.links)) a.conn ≡ true) (λ (a : Answer). not (a.conn == conn)) b.undue
      (λ a apart k. takes_other conn emptied (λ l. refl) (at_link conn change b.links) a.conn (not_true (a.conn == conn) apart) ∙ takes_other conn change kept b.links a.conn (not_true (a.conn == conn) apart) ∙ k) h.takers;
  scopes = each-filter (λ (a : Answer). EachOf (λ k. has_left b.tasks k ≡ true) a.out.scope) (λ (a : Answer). not (a.conn == conn)) b.undue h.scopes;
}
  where
    Between : Link → Type 0
    Between l = (l.conn == conn) ≡ false → Timed b.time l

settles_from : (o : Opening) (before rest : List Answer) (b : Box) → QueuesStand (record b { undue = before ++ rest }) → QueuesStand (settle_from o before rest b)
settles_from o before [] b h = subst (λ u. QueuesStand (record b { undue = u })) (append-nil before) h
settles_from o before (a ∷ rest) b h =
    cond_both (is_due o b before a) (settle_from o before rest (enter a.conn a.out b)) (settle_from o (before ++ a ∷ []) rest b) QueuesStand
    (λ due. settles_from o before rest (enter a.conn a.out b) (queues_enter (record b { undue = before ++ rest }) a.conn a.out fewer))
    (λ undue. settles_from o (before ++ a ∷ []) rest b (subst (λ u. QueuesStand (record b { undue = u })) (sym (append_assoc before (a ∷ []) rest)) h))
  where
    less : (P : Answer → Type 0) → EachOf P (before ++ a ∷ rest) → EachOf P (before ++ rest)
    less P k = each-append P before rest (each-first P before (a ∷ rest) k) (each-second P before (a ∷ rest) k).1

    fewer : QueuesStand (record b { undue = before ++ rest })
    fewer = record {
      times = h.times;
      takers = less (λ (x : Answer). takes_on b.links x.conn ≡ true) h.takers;
      scopes = less (λ (x : Answer). EachOf (λ k. has_left b.tasks k ≡ true) x.out.scope) h.scopes;
    }

queues_settle : (o : Opening) (b : Box) → QueuesStand b → QueuesStand (settle o b)
queues_settle o b h = settles_from o [] b.undue b h

-- ---- an event

queues_leave : (b : Box) (r : Option Request) (tickets : List ℕ) → QueuesStand b → QueuesStand (leave r tickets b)
queues_leave b (Some r) tickets h =
    let k : QueuesStand (in_phase phase_taken_out tickets b) = queues_tasks b _ (onto_phased phase_taken_out left_stays.taken_out tickets b.tasks) h in
    record {
      times = each-map (Timed b.time) (Timed b.time) (without (contains tickets)) b.links
          (λ l t. (sorted-filter Earlier (λ out. not (is_of (contains tickets) out)) l.queue t.0, each-filter (λ (x : Outgoing). x.time < b.time) (λ out. not (is_of (contains tickets) out)) l.queue t.1)) k.times;
      takers = each-weaken (λ (a : Answer). takes_on b.links a.conn ≡ true) (λ (a : Answer). takes_on (map (without (contains tickets)) b.links) a.conn ≡ true) b.undue
          (λ a t. takes_map (without (contains tickets)) (λ l. refl) (λ l. refl) b.links a.conn ∙ t) k.takers;
      scopes = k.scopes;
    }
queues_leave b None tickets h = queues_tasks b _ (onto_phased phase_completed left_stays.completed tickets b.tasks) h

queues_entered : (b : Box) (r : Option Request) (item : List Effect) → QueuesStand b → QueuesStand (enter_tasks r item b)
queues_entered b (Some r) item h =
    let p : ℕ → Task → Bool = λ k (x : Task). (x.ticket == k) && is_left_phase x.phase in
    queues_tasks b (b.tasks ++ filter_map (task_entered r) item) (λ k left. list_any-append (p k) b.tasks (filter_map (task_entered r) item) ∙ ap (λ v. v || list_any (p k) (filter_map (task_entered r) item)) left) h
queues_entered b None item h = h

queues_close_one : (b : Box) (by conn : ℕ) → QueuesStand b → QueuesStand (close_one by conn b)
queues_close_one b by conn h =
    cond_both (conn == by) (record b { links = at_link conn (λ l. record l { closed = true }) b.links }) (drop_on conn (record b { links = at_link conn (λ l. record l { closed = true; cut = true }) b.links })) QueuesStand
    (λ is. queues_at b conn (λ l. record l { closed = true }) (λ l. refl) (λ l. refl) (λ l k. k) h) (λ is. queues_shut b conn (λ l. record l { closed = true; cut = true }) (λ l. refl) h)

queues_close_all : (b : Box) (by : ℕ) (conns : List ℕ) → QueuesStand b → QueuesStand (close_all by conns b)
queues_close_all b by [] h = h
queues_close_all b by (conn ∷ conns) h = queues_close_all (close_one by conn b) by conns (queues_close_one b by conn h)

queues_close : (b : Box) (r : Option Request) (conns : List ℕ) → QueuesStand b → QueuesStand (close r conns b)
queues_close b (Some r) conns h = queues_close_all b (connection_of r) conns h
queues_close b None conns h = h

queues_send : (o : Opening) (b : Box) (r : Option Request) (tickets conns closes : List ℕ) (x : Option (ℕ × Reply)) → QueuesStand b → QueuesStand (send o r tickets conns closes x b)
queues_send o b r tickets conns closes None h = h
queues_send o b None tickets conns closes (Some s) h = let k = queues_enter b s.0 (outgoing b None tickets s.1) h in record { times = k.times; takers = k.takers; scopes = k.scopes }
queues_send o b (Some r) tickets conns closes (Some s) h = by_aim (aim o (Some r) s.1)
  where
    by_aim : (x : Option Aim) → QueuesStand (let b' = send_as o (Some r) x conns closes s.0 (outgoing b (Some r) tickets s.1) b in record b' { sent = b'.sent + 1 })
    by_aim None = let k = queues_enter b s.0 (outgoing b (Some r) tickets s.1) h in record { times = k.times; takers = k.takers; scopes = k.scopes }
    by_aim (Some about) =
        let a : Answer = answer o b r conns closes s.0 (outgoing b (Some r) tickets s.1) about in
        cond_both (takes_on b.links a.conn) (record b { undue = b.undue ++ a ∷ [] }) b (λ (b' : Box). QueuesStand (record b' { sent = b'.sent + 1 }))
        (λ may. record {
          times = h.times;
          takers = each-append (λ (x : Answer). takes_on b.links x.conn ≡ true) b.undue (a ∷ []) h.takers (may, tt);
          scopes = each-append (λ (x : Answer). EachOf (λ k. has_left b.tasks k ≡ true) x.out.scope) b.undue (a ∷ []) h.scopes (scope_left b.tasks b.tasks (is_aimed_at about conns) (itself_left b.tasks), tt);
        })
        (λ may. record { times = h.times; takers = h.takers; scopes = h.scopes })

queues_item : (o : Opening) (b : Box) (item : List Effect) → QueuesStand b → QueuesStand (after_item o b item)
queues_item o b item h =
    let r = executing item in
    let tickets = tickets_left item in
    let conns = closed_in b item in
    let closes = newly_closed b conns in
    let left : Box = leave r tickets b in
    let entering : Box = enter_tasks r item left in
    let closed : Box = close r closes entering in
    let sent : Box = send o r tickets conns closes (first_of (filter_map reply_sent item)) closed in
    let k : QueuesStand sent = queues_send o closed r tickets conns closes (first_of (filter_map reply_sent item)) (queues_close entering r closes (queues_entered left r item (queues_leave b r tickets h))) in
    queues_settle o (in_phase phase_enabled (filter_map ticket_enabled item) sent) (queues_tasks sent _ (onto_phased phase_enabled left_stays.enabled (filter_map ticket_enabled item) sent.tasks) k)

queues_items : (o : Opening) (b : Box) (items : List (List Effect)) → QueuesStand b → QueuesStand (after_items o b items)
queues_items o b [] h = h
queues_items o b (item ∷ items) h = queues_items o (after_item o b item) items (queues_item o b item h)

queues_event : (o : Opening) (b : Box) (effects : List Effect) (numbers : Numbers) → QueuesStand b → QueuesStand (after_event o b effects numbers)
queues_event o b effects numbers h =
    let b' : Box = after_items o b (in_parts effects) in
    let told : Task → Task = λ x. record x { phase = phase_told x.phase } in
    let k : QueuesStand (record b' { tasks = map told b'.tasks }) = queues_tasks b' (map told b'.tasks) (any_map told (λ x. refl) (λ x. left_stays.told x.phase) b'.tasks) (queues_items o b (in_parts effects) h) in
    record { times = k.times; takers = k.takers; scopes = k.scopes }

-- ---- calls

queues_put : (o : Opening) (b : Box) (p : OwnPdu) → QueuesStand b → QueuesStand (after_call o b (Puts p))
queues_put o b p h =
    elim (put_refusal o b p) as (λ x. QueuesStand (elim x [ Some refusal ↦ b | None ↦ elim (own_conn b p) [ Some conn ↦ enter conn (own_outgoing p) b | None ↦ b ] ])) [
      | Some refusal ↦ h
      | None ↦ elim (own_conn b p) as (λ x. QueuesStand (elim x [ Some conn ↦ enter conn (own_outgoing p) b | None ↦ b ])) [
        | Some conn ↦ queues_enter b conn (own_outgoing p) h
        | None ↦ h
      ]
    ]

queues_given : (o : Opening) (b : Box) (l : Link) (g : Handed) → QueuesStand b → QueuesStand (after_given o b l g)
queues_given o b l g h =
    let one : Box = record b { links = at_link l.conn (taken_from g.out) b.links } in
    let k : QueuesStand one =
    queues_at b l.conn (taken_from g.out) (λ m. cond_both (is_from_queue g.out) (record m { queue = drop 1 m.queue }) m (λ (x : Link). x.conn ≡ m.conn) (λ is. refl) (λ is. refl))
    (λ m. cond_both (is_from_queue g.out) (record m { queue = drop 1 m.queue }) m (λ (x : Link). takes_more x ≡ takes_more m) (λ is. refl) (λ is. refl))
    (λ m t. cond_both (is_from_queue g.out) (record m { queue = drop 1 m.queue }) m (Timed b.time) (λ is. timed_drop b.time m.queue t) (λ is. t)) h in
    let pushed = queues_at one l.conn (λ m. record m { handed = m.handed ++ g ∷ [] }) (λ m. refl) (λ m. refl) (λ m t. t) k in
    record { times = pushed.times; takers = pushed.takers; scopes = pushed.scopes }

clears : (P : ℕ → List ℕ → Type 0) (unit : ℕ) (answers : List Answer) → EachOf (λ (a : Answer). P a.conn a.out.scope) answers → EachOf (λ (a : Answer). P a.conn a.out.scope) (cleared unit answers)
clears P unit [] h = tt
clears P unit (a ∷ answers) h =
    cond_both (waits_for_clear unit a) (record a { uncleared = false } ∷ answers) (a ∷ cleared unit answers) (EachOf (λ (x : Answer). P x.conn x.out.scope)) (λ is. (h.0, h.1)) (λ is. (h.0, clears P unit answers h.1))

pub queues_call : (o : Opening) (b : Box) (call : Call) → QueuesStand b → QueuesStand (after_call o b call)
queues_call o b (Takes effects numbers) h = queues_event o b effects numbers h
queues_call o b (Puts p) h = queues_put o b p h
queues_call o b (Stops ticket) h =
    cond_both (is_running b ticket) (settle o (in_phase phase_stopped (ticket ∷ []) b)) b QueuesStand
    (λ is. queues_settle o (in_phase phase_stopped (ticket ∷ []) b) (queues_tasks b _ (onto_phased phase_stopped left_stays.stopped (ticket ∷ []) b.tasks) h)) (λ is. h)
queues_call o b (Nexts conn) h =
    ⊎_elim (λ (k : Hand o b conn). subst QueuesStand (sym k.after_is) (queues_given o b k.handing.link k.handed h)) (λ (k : Idle o b conn). subst QueuesStand (sym k.after_is) h) (next o b conn)
queues_call o b (Writes conn) h =
    queues_settle o (record b { links = at_link conn one_written b.links })
    (queues_at b conn one_written (λ l. cond_both (nat_lt l.written (length l.handed)) (record l { written = l.written + 1 }) l (λ (m : Link). m.conn ≡ l.conn) (λ is. refl) (λ is. refl))
    (λ l. cond_both (nat_lt l.written (length l.handed)) (record l { written = l.written + 1 }) l (λ (m : Link). takes_more m ≡ takes_more l) (λ is. refl) (λ is. refl))
    (λ l k. cond_both (nat_lt l.written (length l.handed)) (record l { written = l.written + 1 }) l (Timed b.time) (λ is. k) (λ is. k)) h)
queues_call o b (Hears conn exp_stat_sn tag) h =
    queues_settle o (record b { links = at_link conn (link_heard exp_stat_sn tag) b.links })
    (queues_at b conn (link_heard exp_stat_sn tag)
    (λ l. cond_both (is_open l) (record l { arrived = max l.arrived (max (arrived_by_stat_sn l exp_stat_sn) (arrived_by_ping l tag)) }) l (λ (m : Link). m.conn ≡ l.conn) (λ is. refl) (λ is. refl))
    (λ l. cond_both (is_open l) (record l { arrived = max l.arrived (max (arrived_by_stat_sn l exp_stat_sn) (arrived_by_ping l tag)) }) l (λ (m : Link). takes_more m ≡ takes_more l) (λ is. refl) (λ is. refl))
    (λ l k. cond_both (is_open l) (record l { arrived = max l.arrived (max (arrived_by_stat_sn l exp_stat_sn) (arrived_by_ping l tag)) }) l (Timed b.time) (λ is. k) (λ is. k)) h)
queues_call o b (Joins conn stat_sn) h =
    cond_both (may_join b conn) (record b { links = at_link conn (link_joined stat_sn) b.links }) b QueuesStand (λ is. record {
      times = each-at_link (Timed b.time) (Timed b.time) conn (link_joined stat_sn) b.links (λ l at k. k) (λ l isnt k. k) h.times;
      takers = each-weaken (λ (a : Answer). takes_on b.links a.conn ≡ true) (λ (a : Answer). takes_on (at_link conn (link_joined stat_sn) b.links) a.conn ≡ true) b.undue (λ a k. takes_joined conn stat_sn b.links a.conn k) h.takers;
      scopes = h.scopes;
    })
    (λ is. h)
queues_call o b (Loses conn) h =
    let k = queues_shut b conn link_lost (λ l. refl) h in
    queues_settle o (drop_on conn (record b { links = at_link conn link_lost b.links; reached = 0 })) (record { times = k.times; takers = k.takers; scopes = k.scopes })
queues_call o b (Clears unit) h =
    queues_settle o (record b { undue = cleared unit b.undue }) (record {
      times = h.times;
      takers = clears (λ conn scope. takes_on b.links conn ≡ true) unit b.undue h.takers;
      scopes = clears (λ conn scope. EachOf (λ k. has_left b.tasks k ≡ true) scope) unit b.undue h.scopes;
    })

new_queues : (cs : List (ℕ × ℕ)) → EachOf (Timed 0) (map (λ (x : ℕ × ℕ). new_link x.0) cs)
new_queues [] = tt
new_queues (x ∷ cs) = ((tt, tt), new_queues cs)

queues_calls : (o : Opening) (b : Box) (calls : List Call) → QueuesStand b → QueuesStand (after_calls o b calls)
queues_calls o b [] h = h
queues_calls o b (call ∷ calls) h = queues_calls o (after_call o b call) calls (queues_call o b call h)

pub queues_stand : (o : Opening) (calls : List Call) → QueuesStand (after_calls o (opened o) calls)
queues_stand o calls = queues_calls o (opened o) calls (record { times = new_queues o.session.conns; takers = tt; scopes = tt })
