-- What each part of an item, and each call, makes of the connections of a box, one by one.
use Rattle.std.proofs.Common.{◌≡◌, ℕ, ◌==◌, ◌&&◌, not, cond, Bool, true, false, drop, filter, List, [], ◌∷◌, ◌++◌, map, filter_map, Option, Some, None, refl, ap, sym, subst, ◌∙◌, ⊎_elim}
use Rattle.std.specs.List.{list_any}
use Rattle.std.proofs.lemmas.Bool.{and_parts, cond_both, false≢true}
use Rattle.iscsi_wire.specs.declared.reply.Reply.{Reply}
use Rattle.iscsi_wire.specs.declared.request.Request.{Request}
use Rattle.iscsi_wire.specs.Fields.{connection_of}
use Rattle.iscsi_rules.specs.declared.effect.Effect.{Effect}
use Rattle.iscsi_rules.specs.declared.effect.Numbers.{Numbers}
use Rattle.iscsi_rules.specs.promises.Order.{in_parts}
use Rattle.iscsi_rules.specs.rules.Trace.{first_of}
use Rattle.iscsi_outbox_rules.specs.declared.own_pdu.OwnPdu.{OwnPdu}
use Rattle.iscsi_outbox_rules.specs.declared.own_pdu.PutRefusal.{PutRefusal}
use Rattle.iscsi_outbox_rules.specs.rules.Boxes.{Aim, Answer, Box, Handed, Link, Outgoing}
use Rattle.iscsi_outbox_rules.specs.rules.Calls.{Call, Clears, Hears, Joins, Loses, Nexts, Opening, Puts, Stops, Takes, Writes}
use Rattle.iscsi_outbox_rules.specs.rules.Due.{is_due, settle, settle_from}
use Rattle.iscsi_outbox_rules.specs.rules.Handing.{is_from_queue, taken_from}
use Rattle.iscsi_outbox_rules.specs.rules.Items.{after_event, after_item, after_items, aim, answer, close, close_all, close_one, closed_in, enter_tasks, executing, in_phase, leave, newly_closed, outgoing, phase_enabled, reply_sent, send, send_as, ticket_enabled, tickets_left}
use Rattle.iscsi_outbox_rules.specs.rules.Own.{own_conn, own_outgoing, put_refusal}
use Rattle.iscsi_outbox_rules.specs.rules.Queues.{append, at_link, drop_on, emptied, enter, takes_more, without}
use Rattle.iscsi_outbox_rules.specs.rules.Run.{after_call, cleared, link_heard, link_joined, link_lost, may_join, one_written, phase_stopped}
use Rattle.iscsi_outbox_rules.specs.rules.Words.{contains, is_of, is_open, is_running}
use Rattle.iscsi_outbox_rules.proofs.general.Cuts.{Hand, Idle, next}
use Rattle.iscsi_outbox_law.specs.private.Pairs.{EachOf}
use Rattle.iscsi_outbox_law.proofs.general.PairLemmas.{each-map}

-- ---- connections that are changed one by one

pub record Moves (R : Link → Link → Type 0) (ls ms : List Link) : Type 0 where
  pub by : Link → Link
  pub is : ms ≡ map by ls
  pub each : (l : Link) → R l (by l)

map_none : (ls : List Link) → ls ≡ map (λ l. l) ls
map_none [] = refl
map_none (l ∷ ls) = ap (λ ms. l ∷ ms) (map_none ls)

map_twice : (f g : Link → Link) (ls : List Link) → map g (map f ls) ≡ map (λ l. g (f l)) ls
map_twice f g [] = refl
map_twice f g (l ∷ ls) = ap (λ ms. g (f l) ∷ ms) (map_twice f g ls)

view_map : {A : Type 0} (view : Link → A) (f : Link → Link) (ls : List Link) → ((l : Link) → view (f l) ≡ view l) → map view (map f ls) ≡ map view ls
view_map view f [] same = refl
view_map view f (l ∷ ls) same = ap (λ x. x ∷ map view (map f ls)) (same l) ∙ ap (λ xs. view l ∷ xs) (view_map view f ls same)

pub moved_each : (R : Link → Link → Type 0) (P Q : Link → Type 0) (ls ms : List Link) → Moves R ls ms → ((l m : Link) → R l m → P l → Q m) → EachOf P ls → EachOf Q ms
moved_each R P Q ls ms v f h = subst (EachOf Q) (sym v.is) (each-map P Q v.by ls (λ l p. f l (v.by l) (v.each l) p) h)

pub moved_view : {A : Type 0} (R : Link → Link → Type 0) (view : Link → A) (ls ms : List Link) → Moves R ls ms → ((l m : Link) → R l m → view m ≡ view l) → map view ms ≡ map view ls
moved_view R view ls ms v same = ap (map view) v.is ∙ view_map view v.by ls (λ l. same l (v.by l) (v.each l))

pub moved_weaken : (R S : Link → Link → Type 0) (ls ms : List Link) → ((l m : Link) → R l m → S l m) → Moves R ls ms → Moves S ls ms
moved_weaken R S ls ms f v = record { by = v.by; is = v.is; each = λ l. f l (v.by l) (v.each l) }

-- one way after another
pub moved_then : (R S T : Link → Link → Type 0) (ls ms ns : List Link) → ((l m n : Link) → R l m → S m n → T l n) → Moves R ls ms → Moves S ms ns → Moves T ls ns
moved_then R S T ls ms ns f v w = record {
  by = λ l. w.by (v.by l);
  is = w.is ∙ ap (map w.by) v.is ∙ map_twice v.by w.by ls;
  each = λ l. f l (v.by l) (w.by (v.by l)) (v.each l) (w.each (v.by l));
}

-- what is so where a connection stays, where another queue comes, which is empty on one that is cut if it was, and where one change follows another
pub record IsQueueRule (R : Link → Link → Type 0) : Type 0 where
  pub same : (l : Link) → R l l
  pub queued : (l : Link) (queue : List Outgoing) → (l.cut ≡ true → l.queue ≡ [] → queue ≡ []) → R l (record l { queue = queue })
  pub then : (l m n : Link) → R l m → R m n → R l n

-- an item before it closes connections, and behind that
abbrev pub before_close : Box → List Effect → Box
before_close b item = enter_tasks (executing item) item (leave (executing item) (tickets_left item) b)

abbrev pub behind_close : Box → List Effect → Box
behind_close b item = close (executing item) (newly_closed b (closed_in b item)) (before_close b item)

module _ (o : Opening) (R : Link → Link → Type 0) (rule : IsQueueRule R) where
  pub moved_none : (ls : List Link) → Moves R ls ls
  moved_none ls = record { by = λ l. l; is = map_none ls; each = rule.same }

  pub moved_by : (ls ms ns : List Link) → Moves R ls ms → Moves R ms ns → Moves R ls ns
  moved_by ls ms ns v w = moved_then R R R ls ms ns rule.then v w

  pub moved_at : (conn : ℕ) (change : Link → Link) (ls : List Link) → ((l : Link) → R l (change l)) → Moves R ls (at_link conn change ls)
  moved_at conn change ls f = record {
    by = λ l. cond (l.conn == conn) (change l) l;
    is = refl;
    each = λ l. cond_both (l.conn == conn) (change l) l (R l) (λ here. f l) (λ other. rule.same l);
  }

  appended : (out : Outgoing) (l : Link) → R l (append out l)
  appended out l = cond_both (takes_more l) (record l { queue = l.queue ++ out ∷ [] }) l (R l) (λ may. rule.queued l (l.queue ++ out ∷ []) (λ cut. absurd (false≢true (sym (ap not cut) ∙ (and_parts (is_open l) (not l.cut) may).1)))) (λ may. rule.same l)

  pub moved_entered : (conn : ℕ) (out : Outgoing) (b : Box) → Moves R b.links (enter conn out b).links
  moved_entered conn out b = moved_at conn (append (record out { time = b.time })) b.links (appended (record out { time = b.time }))

  settled_from : (before rest : List Answer) (b : Box) → Moves R b.links (settle_from o before rest b).links
  settled_from before [] b = moved_none b.links
  settled_from before (a ∷ rest) b =
      cond_both (is_due o b before a) (settle_from o before rest (enter a.conn a.out b)) (settle_from o (before ++ a ∷ []) rest b) (λ (x : Box). Moves R b.links x.links)
      (λ due. moved_by b.links (enter a.conn a.out b).links (settle_from o before rest (enter a.conn a.out b)).links (moved_entered a.conn a.out b) (settled_from before rest (enter a.conn a.out b)))
      (λ undue. settled_from (before ++ a ∷ []) rest b)

  pub moved_settled : (b : Box) → Moves R b.links (settle o b).links
  moved_settled b = settled_from [] b.undue b

  pub moved_dropped : (conn : ℕ) (b : Box) → Moves R b.links (drop_on conn b).links
  moved_dropped conn b = moved_at conn emptied b.links (λ l. rule.queued l [] (λ cut none. refl))

  pub moved_left : (r : Option Request) (tickets : List ℕ) (b : Box) → Moves R b.links (leave r tickets b).links
  moved_left (Some r) tickets b = record { by = without (contains tickets); is = refl; each = λ l. rule.queued l (without (contains tickets) l).queue (λ cut none. ap (filter (λ (out : Outgoing). not (is_of (contains tickets) out))) none) }
  moved_left None tickets b = moved_none b.links

  pub moved_entering : (r : Option Request) (item : List Effect) (b : Box) → Moves R b.links (enter_tasks r item b).links
  moved_entering (Some r) item b = moved_none b.links
  moved_entering None item b = moved_none b.links

  pub moved_sent : (r : Option Request) (tickets conns closes : List ℕ) (x : Option (ℕ × Reply)) (b : Box) → Moves R b.links (send o r tickets conns closes x b).links
  moved_sent r tickets conns closes None b = moved_none b.links
  moved_sent None tickets conns closes (Some s) b = moved_entered s.0 (outgoing b None tickets s.1) b
  moved_sent (Some r) tickets conns closes (Some s) b = by_aim (aim o (Some r) s.1)
    where
      by_aim : (x : Option Aim) → Moves R b.links (send_as o (Some r) x conns closes s.0 (outgoing b (Some r) tickets s.1) b).links
      by_aim None = moved_entered s.0 (outgoing b (Some r) tickets s.1) b
      by_aim (Some about) =
          let a : Answer = answer o b r conns closes s.0 (outgoing b (Some r) tickets s.1) about in
          cond_both (list_any (λ (l : Link). l.conn == a.conn && takes_more l) b.links) (record b { undue = b.undue ++ a ∷ [] }) b (λ (x : Box). Moves R b.links x.links) (λ may. moved_none b.links) (λ may. moved_none b.links)

  -- ---- an item, whatever is so of what it closes

  pub moved_before : (b : Box) (item : List Effect) → Moves R b.links (before_close b item).links
  moved_before b item =
      let left : Box = leave (executing item) (tickets_left item) b in
      moved_by b.links left.links (before_close b item).links (moved_left (executing item) (tickets_left item) b) (moved_entering (executing item) item left)

  pub moved_behind : (b : Box) (item : List Effect) → Moves R (behind_close b item).links (after_item o b item).links
  moved_behind b item =
      let closed : Box = behind_close b item in
      let sent : Box = send o (executing item) (tickets_left item) (closed_in b item) (newly_closed b (closed_in b item)) (first_of (filter_map reply_sent item)) closed in
      moved_by closed.links sent.links (after_item o b item).links (moved_sent (executing item) (tickets_left item) (closed_in b item) (newly_closed b (closed_in b item)) (first_of (filter_map reply_sent item)) closed)
      (moved_settled (in_phase phase_enabled (filter_map ticket_enabled item) sent))

-- one that is cut is emptied, too
pub cut_twice : (conn : ℕ) (links : List Link) → at_link conn emptied (at_link conn (λ (l : Link). record l { closed = true; cut = true }) links) ≡ at_link conn (λ (l : Link). record l { closed = true; cut = true; queue = [] }) links
cut_twice conn links = map_twice (λ (l : Link). cond (l.conn == conn) (record l { closed = true; cut = true }) l) (λ (l : Link). cond (l.conn == conn) (emptied l) l) links ∙ all links
  where
    one : (l : Link) (v : Bool) → (l.conn == conn) ≡ v → cond ((cond v (record l { closed = true; cut = true }) l).conn == conn) (emptied (cond v (record l { closed = true; cut = true }) l)) (cond v (record l { closed = true; cut = true }) l) ≡ cond v (record l { closed = true; cut = true; queue = [] }) l
    one l true is = ap (λ w. cond w (record l { closed = true; cut = true; queue = [] }) (record l { closed = true; cut = true })) is
    one l false is = ap (λ w. cond w (emptied l) l) is

    all : (ls : List Link) → map (λ (l : Link). cond ((cond (l.conn == conn) (record l { closed = true; cut = true }) l).conn == conn) (emptied (cond (l.conn == conn) (record l { closed = true; cut = true }) l)) (cond (l.conn == conn) (record l { closed = true; cut = true }) l)) ls ≡ at_link conn (λ (l : Link). record l { closed = true; cut = true; queue = [] }) ls
    all [] = refl
    all (l ∷ ls) = ap (λ m. m ∷ map (λ (x : Link). cond ((cond (x.conn == conn) (record x { closed = true; cut = true }) x).conn == conn) (emptied (cond (x.conn == conn) (record x { closed = true; cut = true }) x)) (cond (x.conn == conn) (record x { closed = true; cut = true }) x)) ls) (one l (l.conn == conn) refl) ∙ ap (λ ms. cond (l.conn == conn) (record l { closed = true; cut = true; queue = [] }) l ∷ ms) (all ls)

-- .. and where it is closed, too
pub record IsCloseRule (R : Link → Link → Type 0) : Type 0 where
  pub queue : IsQueueRule R
  pub closed : (l : Link) → R l (record l { closed = true })
  pub cut : (l : Link) → R l (record l { closed = true; cut = true; queue = [] })

module _ (o : Opening) (R : Link → Link → Type 0) (rule : IsCloseRule R) where
  moved_one : (by conn : ℕ) (b : Box) → Moves R b.links (close_one by conn b).links
  moved_one by conn b =
      let cut : Box = record b { links = at_link conn (λ l. record l { closed = true; cut = true }) b.links } in
      cond_both (conn == by) (record b { links = at_link conn (λ l. record l { closed = true }) b.links }) (drop_on conn cut) (λ (x : Box). Moves R b.links x.links)
      (λ is. moved_at o R rule.queue conn (λ l. record l { closed = true }) b.links rule.closed)
      (λ isnt. subst (Moves R b.links) (sym (cut_twice conn b.links)) (moved_at o R rule.queue conn (λ l. record l { closed = true; cut = true; queue = [] }) b.links rule.cut))

  moved_all : (by : ℕ) (conns : List ℕ) (b : Box) → Moves R b.links (close_all by conns b).links
  moved_all by [] b = moved_none o R rule.queue b.links
  moved_all by (conn ∷ conns) b = moved_by o R rule.queue b.links (close_one by conn b).links (close_all by conns (close_one by conn b)).links (moved_one by conn b) (moved_all by conns (close_one by conn b))

  moved_closed : (r : Option Request) (conns : List ℕ) (b : Box) → Moves R b.links (close r conns b).links
  moved_closed (Some r) conns b = moved_all (connection_of r) conns b
  moved_closed None conns b = moved_none o R rule.queue b.links

  pub moved_item : (b : Box) (item : List Effect) → Moves R b.links (after_item o b item).links
  moved_item b item =
      let before : Box = before_close b item in
      let behind : Box = behind_close b item in
      moved_by o R rule.queue b.links behind.links (after_item o b item).links
      (moved_by o R rule.queue b.links before.links behind.links (moved_before o R rule.queue b item) (moved_closed (executing item) (newly_closed b (closed_in b item)) before))
      (moved_behind o R rule.queue b item)

  pub moved_items : (b : Box) (items : List (List Effect)) → Moves R b.links (after_items o b items).links
  moved_items b [] = moved_none o R rule.queue b.links
  moved_items b (item ∷ items) = moved_by o R rule.queue b.links (after_item o b item).links (after_items o (after_item o b item) items).links (moved_item b item) (moved_items (after_item o b item) items)

  pub moved_event : (b : Box) (effects : List Effect) (numbers : Numbers) → Moves R b.links (after_event o b effects numbers).links
  moved_event b effects numbers = moved_items b (in_parts effects)

-- ---- any other call

-- it takes no event, and hands out nothing
abbrev pub IsPlain : Call → Type 0
IsPlain (Takes effects numbers) = ⊥
IsPlain (Nexts conn) = ⊥
IsPlain _ = Unit {0}

-- .. and loses no connection
abbrev pub IsKept : Call → Type 0
IsKept (Takes effects numbers) = ⊥
IsKept (Nexts conn) = ⊥
IsKept (Loses conn) = ⊥
IsKept _ = Unit {0}

-- what each of these calls makes of the one connection that it is of
pub record IsKeptRule (R : Link → Link → Type 0) : Type 0 where
  pub queue : IsQueueRule R
  pub written : (l : Link) → R l (one_written l)
  pub heard : (exp_stat_sn tag : ℕ) (l : Link) → R l (link_heard exp_stat_sn tag l)
  pub joined : (stat_sn : ℕ) (l : Link) → R l (link_joined stat_sn l)

pub record IsCallRule (R : Link → Link → Type 0) : Type 0 where
  pub kept : IsKeptRule R
  pub lost : (l : Link) → R l (link_lost l)

module _ (o : Opening) (R : Link → Link → Type 0) (rule : IsKeptRule R) where
  abbrev q : IsQueueRule R
  q = rule.queue

  moved_put : (b : Box) (p : OwnPdu) → Moves R b.links (after_call o b (Puts p)).links
  moved_put b p = by_refusal (put_refusal o b p)
    where
      by_conn : (x : Option ℕ) → Moves R b.links (elim x as (λ y. Box) [ Some conn ↦ enter conn (own_outgoing p) b | None ↦ b ]).links
      by_conn None = moved_none o R q b.links
      by_conn (Some conn) = moved_entered o R q conn (own_outgoing p) b

      by_refusal : (x : Option PutRefusal) → Moves R b.links (elim x as (λ y. Box) [ Some refusal ↦ b | None ↦ elim (own_conn b p) [ Some conn ↦ enter conn (own_outgoing p) b | None ↦ b ] ]).links
      by_refusal (Some refusal) = moved_none o R q b.links
      by_refusal None = by_conn (own_conn b p)

  pub moved_kept : (b : Box) (c : Call) → IsKept c → Moves R b.links (after_call o b c).links
  moved_kept b (Takes effects numbers) none = absurd none
  moved_kept b (Puts p) none = moved_put b p
  moved_kept b (Stops ticket) none =
      cond_both (is_running b ticket) (settle o (in_phase phase_stopped (ticket ∷ []) b)) b (λ (x : Box). Moves R b.links x.links) (λ is. moved_settled o R q (in_phase phase_stopped (ticket ∷ []) b)) (λ is. moved_none o R q b.links)
  moved_kept b (Nexts conn) none = absurd none
  moved_kept b (Writes conn) none =
      let b' : Box = record b { links = at_link conn one_written b.links } in
      moved_by o R q b.links b'.links (settle o b').links (moved_at o R q conn one_written b.links rule.written) (moved_settled o R q b')
  moved_kept b (Hears conn exp_stat_sn tag) none =
      let b' : Box = record b { links = at_link conn (link_heard exp_stat_sn tag) b.links } in
      moved_by o R q b.links b'.links (settle o b').links (moved_at o R q conn (link_heard exp_stat_sn tag) b.links (rule.heard exp_stat_sn tag)) (moved_settled o R q b')
  moved_kept b (Joins conn stat_sn) none =
      cond_both (may_join b conn) (record b { links = at_link conn (link_joined stat_sn) b.links }) b (λ (x : Box). Moves R b.links x.links) (λ is. moved_at o R q conn (link_joined stat_sn) b.links (rule.joined stat_sn)) (λ is. moved_none o R q b.links)
  moved_kept b (Loses conn) none = absurd none
  moved_kept b (Clears unit) none = moved_settled o R q (record b { undue = cleared unit b.undue })

-- a connection is lost
pub moved_lost : (o : Opening) (R T : Link → Link → Type 0) → IsQueueRule R → (conn : ℕ) → ((l m : Link) → (l.conn == conn) ≡ true → R (link_lost l) m → T l m) → ((l m : Link) → R l m → T l m) → (b : Box) → Moves T b.links (after_call o b (Loses conn)).links
moved_lost o R T queue conn here there b =
    let lost : Box = record b { links = at_link conn link_lost b.links; reached = 0 } in
    let dropped : Box = drop_on conn lost in
    let v : Moves R lost.links (settle o dropped).links = moved_by o R queue lost.links dropped.links (settle o dropped).links (moved_dropped o R queue conn lost) (moved_settled o R queue dropped) in
    record {
      by = λ l. v.by (cond (l.conn == conn) (link_lost l) l);
      is = v.is ∙ map_twice (λ l. cond (l.conn == conn) (link_lost l) l) v.by b.links;
      each = λ l. cond_both (l.conn == conn) (link_lost l) l (λ (x : Link). T l (v.by x)) (λ is. here l (v.by (link_lost l)) is (v.each (link_lost l))) (λ is. there l (v.by l) (v.each l));
    }

module _ (o : Opening) (R : Link → Link → Type 0) (rule : IsCallRule R) where
  pub moved_call : (b : Box) (c : Call) → IsPlain c → Moves R b.links (after_call o b c).links
  moved_call b (Takes effects numbers) none = absurd none
  moved_call b (Puts p) none = moved_kept o R rule.kept b (Puts p) tt
  moved_call b (Stops ticket) none = moved_kept o R rule.kept b (Stops ticket) tt
  moved_call b (Nexts conn) none = absurd none
  moved_call b (Writes conn) none = moved_kept o R rule.kept b (Writes conn) tt
  moved_call b (Hears conn exp_stat_sn tag) none = moved_kept o R rule.kept b (Hears conn exp_stat_sn tag) tt
  moved_call b (Joins conn stat_sn) none = moved_kept o R rule.kept b (Joins conn stat_sn) tt
  moved_call b (Loses conn) none = moved_lost o R R rule.kept.queue conn (λ l m is r. rule.kept.queue.then l (link_lost l) m (rule.lost l) r) (λ l m r. r) b
  moved_call b (Clears unit) none = moved_kept o R rule.kept b (Clears unit) tt

-- a PDU is handed out, or none
module _ (o : Opening) (R T : Link → Link → Type 0) (q : IsQueueRule R) (hands : (l m : Link) (h : Handed) → R l m → T l (record m { handed = m.handed ++ h ∷ [] })) (stays : (l m : Link) → R l m → T l m) where
  pub moved_next : (b : Box) (conn : ℕ) → Moves T b.links (after_call o b (Nexts conn)).links
  moved_next b conn = ⊎_elim given (λ (k : Idle o b conn). subst (λ (x : Box). Moves T b.links x.links) (sym k.after_is) (moved_weaken R T b.links b.links stays (moved_none o R q b.links))) (next o b conn)
    where
      given : Hand o b conn → Moves T b.links (after_call o b (Nexts conn)).links
      given k = subst (λ (x : Box). Moves T b.links x.links) (sym k.after_is) (pushed (moved_at o R q c (taken_from k.handed.out) b.links (λ l. cond_both (is_from_queue k.handed.out) (record l { queue = drop 1 l.queue }) l (R l) (λ is. q.queued l (drop 1 l.queue) (λ cut none. ap (drop 1) none)) (λ is. q.same l))))
        where
          c : ℕ
          c = k.handing.link.conn

          gone : List Link
          gone = at_link k.handing.link.conn (taken_from k.handed.out) b.links

          pushed : Moves R b.links (at_link k.handing.link.conn (taken_from k.handed.out) b.links)
              → Moves T b.links (at_link k.handing.link.conn (λ m. record m { handed = m.handed ++ k.handed ∷ [] }) (at_link k.handing.link.conn (taken_from k.handed.out) b.links))
          pushed v = record {
            by = λ l. cond ((v.by l).conn == k.handing.link.conn) (record (v.by l) { handed = (v.by l).handed ++ k.handed ∷ [] }) (v.by l);
            is = ap (at_link k.handing.link.conn (λ m. record m { handed = m.handed ++ k.handed ∷ [] })) v.is ∙ map_twice v.by (λ m. cond (m.conn == k.handing.link.conn) (record m { handed = m.handed ++ k.handed ∷ [] }) m) b.links;
            each = λ l. cond_both ((v.by l).conn == k.handing.link.conn) (record (v.by l) { handed = (v.by l).handed ++ k.handed ∷ [] }) (v.by l) (T l) (λ here. hands l (v.by l) k.handed (v.each l)) (λ other. stays l (v.by l) (v.each l));
          }
