-- A header is heard, a connection joins, other sessions are through with a unit: the outbox alone changes.
use Rattle.std.proofs.Common.{◌≡◌, ℕ, ◌+◌, ◌<◌, ◌==◌, ◌&&◌, cond, Bool, true, false, List, [], ◌∷◌, ◌++◌, length, map, max, count_by, refl, ap, sym, subst, ◌∙◌, arith}
use Rattle.std.specs.List.{list_any}
use Rattle.std.proofs.lemmas.Bool.{cond_both}
use Rattle.std.proofs.lemmas.List.{length-map}
use Rattle.iscsi_rules.specs.rules.Trace.{Trace}
use Rattle.iscsi_rules.proofs.general.CountLemmas.{count-cons}
use Rattle.iscsi_outbox_rules.specs.rules.Calls as outbox
use Rattle.iscsi_outbox_rules.specs.rules.Calls.{Opening}
use Rattle.iscsi_outbox_rules.specs.rules.Boxes.{Answer, Box, Link, Outgoing}
use Rattle.iscsi_outbox_rules.specs.rules.Due.{is_due, settle, settle_from}
use Rattle.iscsi_outbox_rules.specs.rules.Queues.{at_link, enter, takes_more}
use Rattle.iscsi_outbox_rules.specs.rules.Run.{after_call, arrived_by_ping, arrived_by_stat_sn, cleared, link_heard, link_joined, may_join, waits_for_clear}
use Rattle.iscsi_outbox_rules.specs.rules.Words.{is_open, is_running}
use Rattle.iscsi_outbox_law.specs.private.Commands.{link_in}
use Rattle.iscsi_outbox_law.specs.private.Pairs.{EachOf}
use Rattle.iscsi_outbox_law.proofs.general.PairLemmas.{each-weaken}
use Rattle.iscsi_outbox_law.proofs.general.PlaceLemmas.{AreApart as LinksApart}
use Rattle.iscsi_outbox_law.proofs.calls.Clears.{clears_stands}
use Rattle.iscsi_outbox_law.proofs.arrivals.Hearing.{hears_stands}
use Rattle.iscsi_outbox_law.proofs.connections.Joins.{joins_answered, joins_stands}
use Rattle.iscsi_outbox_law.proofs.commands.TurningCount.{call_last}
use Rattle.iscsi_outbox_steps.specs.Steps.{cleared_of, heard, joined}
use Rattle.iscsi_requests.specs.Conns.{of_conn}
use Rattle.iscsi_requests.specs.declared.replies.WaitingReply.{WaitingReply}
use Rattle.iscsi_ffi_rules.specs.rules.Calls.{Interface, Hears, Joins, Cleared}
use Rattle.iscsi_ffi_rules.specs.rules.Needs.{is_noted, left_to_write}
use Rattle.iscsi_ffi_rules.specs.rules.Sides.{Side}
use Rattle.iscsi_ffi_steps.specs.State.{State}
use Rattle.iscsi_ffi_steps.specs.Steps.{Joined, Side as StepsSide}
use Rattle.iscsi_ffi_law.specs.Alike.{GoesAlike}
use Rattle.iscsi_ffi_law.specs.Fit.{IsFit}
use Rattle.iscsi_ffi_law.specs.Names.{Name}
use Rattle.iscsi_ffi_law.specs.Parts.{IsCovered, IsKnownOut, IsQueued, IsUndue, is_live_ticket, is_sent_at}
use Rattle.iscsi_ffi_law.specs.Stands.{Stands}
use Rattle.iscsi_ffi_law.proofs.calls.Ends.{moved_ends, left_fit}
use Rattle.iscsi_ffi_law.proofs.calls.Moved.{IsMoved, all_queued, run_same}
use Rattle.iscsi_ffi_law.proofs.sending.Queued.{AllQueued, SettledTo, any_map, conns_map, is_taking, link_map, settled_to}

-- ---- what settling leaves

-- commands stay as they are
pub settled_tasks : (o : Opening) (before rest : List Answer) (b : Box) → (settle_from o before rest b).tasks ≡ b.tasks
settled_tasks o before [] b = refl
settled_tasks o before (a ∷ rest) b =
    cond_both (is_due o b before a) (settle_from o before rest (enter a.conn a.out b)) (settle_from o (before ++ a ∷ []) rest b) (λ (x : Box). x.tasks ≡ b.tasks)
    (λ due. settled_tasks o before rest (enter a.conn a.out b)) (λ undue. settled_tasks o (before ++ a ∷ []) rest b)

pub settled_sent : (o : Opening) (before rest : List Answer) (b : Box) → (settle_from o before rest b).sent ≡ b.sent
settled_sent o before [] b = refl
settled_sent o before (a ∷ rest) b =
    cond_both (is_due o b before a) (settle_from o before rest (enter a.conn a.out b)) (settle_from o (before ++ a ∷ []) rest b) (λ (x : Box). x.sent ≡ b.sent)
    (λ due. settled_sent o before rest (enter a.conn a.out b)) (λ undue. settled_sent o (before ++ a ∷ []) rest b)

pub runs_by_tasks : (b b' : Box) → b'.tasks ≡ b.tasks → (ticket : ℕ) → is_running b' ticket ≡ is_running b ticket
runs_by_tasks b b' same ticket = ap (λ ts. is_running (record b { tasks = ts }) ticket) same

-- ---- a connection that changes otherwise

pub record SameQueue (l m : Link) : Type 0 where
  pub conn : m.conn ≡ l.conn
  pub takes : takes_more m ≡ takes_more l
  pub queue : m.queue ≡ l.queue

module _ (names : List Name) (t : Trace) (answers : List ℕ) (replies : ℕ → List WaitingReply) (noted : ℕ → ℕ) where
  pub queued_same : (undue : List Answer) (rs : List WaitingReply) (n : ℕ) (l m : Link) → m.conn ≡ l.conn → m.queue ≡ l.queue → IsQueued names t answers undue rs n l → IsQueued names t answers undue rs n m
  queued_same undue rs n l m conn queue q = record {
    sent = λ place.
        q.sent place ∙ ap (λ os. count_by (is_sent_at place) os + count_by (λ (a : Answer). a.conn == l.conn && is_sent_at place a.out) undue) (sym queue)
        ∙ ap (λ c. count_by (is_sent_at place) m.queue + count_by (λ (a : Answer). a.conn == c && is_sent_at place a.out) undue) (sym conn);
    noting = q.noting ∙ ap (count_by (λ (out : Outgoing). is_noted out.pdu)) (sym queue);
    known = subst (EachOf (IsKnownOut names t answers)) (sym queue) q.known;
    covered = subst (IsCovered (is_live_ticket t)) (sym queue) q.covered;
  }

  pub all_mapped : (f : Link → Link) (links : List Link) (undue : List Answer) → ((l : Link) → SameQueue l (f l)) → AllQueued names t answers replies noted links undue → AllQueued names t answers replies noted (map f links) undue
  all_mapped f links undue same h = record {
    queued = λ p within.
        let short : p < length links = omega (arith, within, length-map links f) in
        subst (IsQueued names t answers undue (replies p) (noted p)) (sym (link_map f links p short)) (queued_same undue (replies p) (noted p) (link_in links p) (f (link_in links p)) (same (link_in links p)).conn (same (link_in links p)).queue (h.queued p short));
    undue_are = h.undue_are;
    taken = each-weaken (λ (x : Answer). list_any (is_taking x.conn) links ≡ true) (λ (x : Answer). list_any (is_taking x.conn) (map f links) ≡ true) undue
        (λ x k. any_map (is_taking x.conn) f links (λ l. ap (λ c. c == x.conn && takes_more (f l)) (same l).conn ∙ ap (λ v. l.conn == x.conn && v) (same l).takes) ∙ k) h.taken;
    apart = subst LinksApart (sym (conns_map f links (λ l. (same l).conn))) h.apart;
  }

  -- ---- answers that wait no more for other sessions

  cleared_counted : (unit : ℕ) (p : ℕ → Outgoing → Bool) (undue : List Answer) → count_by (λ (a : Answer). p a.conn a.out) (cleared unit undue) ≡ count_by (λ (a : Answer). p a.conn a.out) undue
  cleared_counted unit p [] = refl
  cleared_counted unit p (a ∷ undue) =
      let rest = cleared_counted unit p undue in
      cond_both (waits_for_clear unit a) (record a { uncleared = false } ∷ undue) (a ∷ cleared unit undue) (λ xs. count_by (λ (x : Answer). p x.conn x.out) xs ≡ count_by (λ (x : Answer). p x.conn x.out) (a ∷ undue))
      (λ is. omega (arith, count-cons (λ (x : Answer). p x.conn x.out) (record a { uncleared = false }) undue, count-cons (λ (x : Answer). p x.conn x.out) a undue))
      (λ isnt. omega (arith, rest, count-cons (λ (x : Answer). p x.conn x.out) a (cleared unit undue), count-cons (λ (x : Answer). p x.conn x.out) a undue))

  cleared_each : (unit : ℕ) (P : Answer → Type 0) (undue : List Answer) → ((a : Answer) → P a → P (record a { uncleared = false })) → EachOf P undue → EachOf P (cleared unit undue)
  cleared_each unit P [] turns h = tt
  cleared_each unit P (a ∷ undue) turns h =
      cond_both (waits_for_clear unit a) (record a { uncleared = false } ∷ undue) (a ∷ cleared unit undue) (EachOf P) (λ is. (turns a h.0, h.1)) (λ isnt. (h.0, cleared_each unit P undue turns h.1))

  pub all_cleared : (unit : ℕ) (links : List Link) (undue : List Answer) → AllQueued names t answers replies noted links undue → AllQueued names t answers replies noted links (cleared unit undue)
  all_cleared unit links undue h = record {
    queued = λ p within.
        let q = h.queued p within in
        record {
          sent = λ place. omega (arith, q.sent place, cleared_counted unit (λ conn out. conn == (link_in links p).conn && is_sent_at place out) undue);
          noting = q.noting;
          known = q.known;
          covered = q.covered;
        };
    undue_are = cleared_each unit (IsUndue names answers) undue (λ a k. record { own = k.own; reply = k.reply; ticket = k.ticket; of_reply = k.of_reply }) h.undue_are;
    taken = cleared_each unit (λ (x : Answer). list_any (is_taking x.conn) links ≡ true) undue (λ a k. k) h.taken;
    apart = h.apart;
  }

-- ---- a box that settles

-- what settles behind a change of its connections that leaves what waits
pub record IsSettledBy (names : List Name) (s : State) (r : Side) (f : Link → Link) (b : Box) : Type 0 where
  pub all : AllQueued names r.both.trace r.answers (λ p. of_conn p s.replies.waiting) (λ p. length (of_conn p s.noted.handed)) b.links b.undue
  pub long : length b.links ≡ length r.both.box.links
  pub sent : b.sent ≡ r.both.box.sent
  pub conn : (p : ℕ) → p < length b.links → (link_in b.links p).conn ≡ (link_in r.both.box.links p).conn
  pub left : (p : ℕ) → p < length b.links → left_to_write (link_in b.links p) ≡ left_to_write (f (link_in r.both.box.links p))

pub settled_by : (o : Opening) (names : List Name) (s : State) (r : Side) (f : Link → Link) → ((l : Link) → SameQueue l (f l))
    → AllQueued names r.both.trace r.answers (λ p. of_conn p s.replies.waiting) (λ p. length (of_conn p s.noted.handed)) r.both.box.links r.both.box.undue
    → IsSettledBy names s r f (settle o (record r.both.box { links = map f r.both.box.links }))
settled_by o names s r f same all =
    let k : SettledTo names r.both.trace r.answers (λ p. of_conn p s.replies.waiting) (λ p. length (of_conn p s.noted.handed)) (map f r.both.box.links) (settle o (record r.both.box { links = map f r.both.box.links }))
    = settled_to names r.both.trace r.answers (λ p. of_conn p s.replies.waiting) (λ p. length (of_conn p s.noted.handed)) o (record r.both.box { links = map f r.both.box.links })
    (all_mapped names r.both.trace r.answers (λ p. of_conn p s.replies.waiting) (λ p. length (of_conn p s.noted.handed)) f r.both.box.links r.both.box.undue same all) in
    let many = length-map r.both.box.links f in
    record {
      all = k.all;
      long = k.long ∙ many;
      sent = settled_sent o [] r.both.box.undue (record r.both.box { links = map f r.both.box.links });
      conn = λ p within.
          let short : p < length r.both.box.links = omega (arith, within, k.long, many) in
          (k.same p (omega (arith, short, many))).conn ∙ ap (λ (l : Link). l.conn) (link_map f r.both.box.links p short) ∙ (same (link_in r.both.box.links p)).conn;
      left = λ p within.
          let short : p < length r.both.box.links = omega (arith, within, k.long, many) in
          (k.same p (omega (arith, short, many))).left ∙ ap left_to_write (link_map f r.both.box.links p short);
    }

pub moved_settled : (o : Opening) (names : List Name) (s : State) (r : Side) (f : Link → Link) → ((l : Link) → SameQueue l (f l)) → ((l : Link) → left_to_write (f l) ≡ left_to_write l)
    → AllQueued names r.both.trace r.answers (λ p. of_conn p s.replies.waiting) (λ p. length (of_conn p s.noted.handed)) r.both.box.links r.both.box.undue
    → IsMoved names s r (settle o (record r.both.box { links = map f r.both.box.links }))
moved_settled o names s r f same left all =
    let k : IsSettledBy names s r f (settle o (record r.both.box { links = map f r.both.box.links })) = settled_by o names s r f same all in
    record { long = k.long; sent = k.sent; queued = k.all.queued; undue = k.all.undue_are; conn = k.conn; left = λ p within. k.left p within ∙ left (link_in r.both.box.links p) }

pub same_heard : (cid exp_stat_sn tag : ℕ) (l : Link) → SameQueue l (cond (l.conn == cid) (link_heard exp_stat_sn tag l) l)
same_heard cid exp_stat_sn tag l =
    cond_both (l.conn == cid) (link_heard exp_stat_sn tag l) l (SameQueue l)
    (λ is. cond_both (is_open l) (record l { arrived = max l.arrived (max (arrived_by_stat_sn l exp_stat_sn) (arrived_by_ping l tag)) }) l (SameQueue l)
    (λ opens. record { conn = refl; takes = refl; queue = refl }) (λ shut. record { conn = refl; takes = refl; queue = refl }))
    (λ isnt. record { conn = refl; takes = refl; queue = refl })

pub left_heard : (cid exp_stat_sn tag : ℕ) (l : Link) → left_to_write (cond (l.conn == cid) (link_heard exp_stat_sn tag l) l) ≡ left_to_write l
left_heard cid exp_stat_sn tag l =
    cond_both (l.conn == cid) (link_heard exp_stat_sn tag l) l (λ (m : Link). left_to_write m ≡ left_to_write l)
    (λ is. cond_both (is_open l) (record l { arrived = max l.arrived (max (arrived_by_stat_sn l exp_stat_sn) (arrived_by_ping l tag)) }) l (λ (m : Link). left_to_write m ≡ left_to_write l) (λ opens. refl) (λ shut. refl))
    (λ isnt. refl)

abbrev joins_at : ℕ → ℕ → Link → Link
joins_at cid n l = cond (l.conn == cid) (link_joined n l) l

joins_conn : (cid n : ℕ) (l : Link) → (joins_at cid n l).conn ≡ l.conn
joins_conn cid n l = cond_both (l.conn == cid) (link_joined n l) l (λ (x : Link). x.conn ≡ l.conn) (λ is. refl) (λ isnt. refl)

joins_queue : (cid n : ℕ) (l : Link) → (joins_at cid n l).queue ≡ l.queue
joins_queue cid n l = cond_both (l.conn == cid) (link_joined n l) l (λ (x : Link). x.queue ≡ l.queue) (λ is. refl) (λ isnt. refl)

joins_left : (cid n : ℕ) (l : Link) → left_to_write (joins_at cid n l) ≡ left_to_write l
joins_left cid n l = cond_both (l.conn == cid) (link_joined n l) l (λ (x : Link). left_to_write x ≡ left_to_write l) (λ is. refl) (λ isnt. refl)

module _ (i : Interface) (s : StepsSide) (r : Side) (h : Stands i s r) where
  pub hears_alike : (cid exp_stat_sn tag : ℕ) → IsFit i r.both.box (after_call i.outbox r.both.box (outbox.Hears cid exp_stat_sn tag)) → GoesAlike i s r (Hears cid exp_stat_sn tag)
  hears_alike cid exp_stat_sn tag fit =
      let b : Box = after_call i.outbox r.both.box (outbox.Hears cid exp_stat_sn tag) in
      let stands = hears_stands i.outbox s.state.outbox r.both.box h.outbox fit.sound fit.distinct fit.fits cid exp_stat_sn tag fit.short.time in
      let tasks : (after_call i.outbox r.both.box (outbox.Hears cid exp_stat_sn tag)).tasks ≡ r.both.box.tasks = settled_tasks i.outbox [] r.both.box.undue (record r.both.box { links = at_link cid (link_heard exp_stat_sn tag) r.both.box.links }) in
      let e = moved_ends i s r h (heard cid exp_stat_sn tag s.state.outbox) (after_call i.outbox r.both.box (outbox.Hears cid exp_stat_sn tag)) (left_fit i r.both.box (after_call i.outbox r.both.box (outbox.Hears cid exp_stat_sn tag)) fit) stands (call_last i.outbox s.state.outbox r.both.box (outbox.Hears cid exp_stat_sn tag) h.counts.tracked tt)
      (run_same i s.state r (heard cid exp_stat_sn tag s.state.outbox) (after_call i.outbox r.both.box (outbox.Hears cid exp_stat_sn tag)) h.outbox fit.sound stands fit.sound_after fit.distinct (runs_by_tasks r.both.box (after_call i.outbox r.both.box (outbox.Hears cid exp_stat_sn tag)) tasks))
      (moved_settled i.outbox h.names s.state r (λ (l : Link). cond (l.conn == cid) (link_heard exp_stat_sn tag l) l) (same_heard cid exp_stat_sn tag) (left_heard cid exp_stat_sn tag)
      (all_queued i h.names h.notes (λ place. 0) (λ p. []) s.state r h.requests h.outbox fit.distinct fit.sound)) in
      record { answer = refl; tells = e.tells; stands = e.stands }

  pub cleared_alike : (unit : ℕ) → IsFit i r.both.box (after_call i.outbox r.both.box (outbox.Clears unit)) → GoesAlike i s r (Cleared unit)
  cleared_alike unit fit =
      let stands = clears_stands i.outbox s.state.outbox r.both.box h.outbox fit.sound fit.distinct fit.fits unit fit.short.time in
      let tasks : (after_call i.outbox r.both.box (outbox.Clears unit)).tasks ≡ r.both.box.tasks = settled_tasks i.outbox [] (cleared unit r.both.box.undue) (record r.both.box { undue = cleared unit r.both.box.undue }) in
      let k : SettledTo h.names r.both.trace r.answers (λ p. of_conn p s.state.replies.waiting) (λ p. length (of_conn p s.state.noted.handed)) r.both.box.links (after_call i.outbox r.both.box (outbox.Clears unit))
      = settled_to h.names r.both.trace r.answers (λ p. of_conn p s.state.replies.waiting) (λ p. length (of_conn p s.state.noted.handed)) i.outbox (record r.both.box { undue = cleared unit r.both.box.undue })
      (all_cleared h.names r.both.trace r.answers (λ p. of_conn p s.state.replies.waiting) (λ p. length (of_conn p s.state.noted.handed)) unit r.both.box.links r.both.box.undue
      (all_queued i h.names h.notes (λ place. 0) (λ p. []) s.state r h.requests h.outbox fit.distinct fit.sound)) in
      let e = moved_ends i s r h (cleared_of unit s.state.outbox) (after_call i.outbox r.both.box (outbox.Clears unit)) (left_fit i r.both.box (after_call i.outbox r.both.box (outbox.Clears unit)) fit) stands (call_last i.outbox s.state.outbox r.both.box (outbox.Clears unit) h.counts.tracked tt)
      (run_same i s.state r (cleared_of unit s.state.outbox) (after_call i.outbox r.both.box (outbox.Clears unit)) h.outbox fit.sound stands fit.sound_after fit.distinct (runs_by_tasks r.both.box (after_call i.outbox r.both.box (outbox.Clears unit)) tasks))
      (record {
        long = k.long;
        sent = settled_sent i.outbox [] (cleared unit r.both.box.undue) (record r.both.box { undue = cleared unit r.both.box.undue });
        queued = k.all.queued;
        undue = k.all.undue_are;
        conn = λ p within. (k.same p (omega (arith, within, k.long))).conn;
        left = λ p within. (k.same p (omega (arith, within, k.long))).left;
      }) in
      record { answer = refl; tells = e.tells; stands = e.stands }

  joined_moved : (cid n : ℕ) (v : Bool) → IsMoved h.names s.state r (cond v (record r.both.box { links = at_link cid (link_joined n) r.both.box.links }) r.both.box)
  joined_moved cid n false = record {
    long = refl;
    sent = refl;
    queued = λ p within. (h.requests.conns p within).queued;
    undue = h.requests.undue;
    conn = λ p within. refl;
    left = λ p within. refl;
  }
  joined_moved cid n true = record {
    long = length-map r.both.box.links (joins_at cid n);
    sent = refl;
    queued = λ p within.
        let short : p < length r.both.box.links = omega (arith, within, length-map r.both.box.links (joins_at cid n)) in
        subst (IsQueued h.names r.both.trace r.answers r.both.box.undue (of_conn p s.state.replies.waiting) (length (of_conn p s.state.noted.handed))) (sym (link_map (joins_at cid n) r.both.box.links p short))
        (queued_same h.names r.both.trace r.answers (λ q. of_conn q s.state.replies.waiting) (λ q. length (of_conn q s.state.noted.handed)) r.both.box.undue (of_conn p s.state.replies.waiting) (length (of_conn p s.state.noted.handed))
        (link_in r.both.box.links p) (joins_at cid n (link_in r.both.box.links p)) (joins_conn cid n (link_in r.both.box.links p)) (joins_queue cid n (link_in r.both.box.links p)) (h.requests.conns p short).queued);
    undue = h.requests.undue;
    conn = λ p within.
        let short : p < length r.both.box.links = omega (arith, within, length-map r.both.box.links (joins_at cid n)) in
        ap (λ (l : Link). l.conn) (link_map (joins_at cid n) r.both.box.links p short) ∙ joins_conn cid n (link_in r.both.box.links p);
    left = λ p within.
        let short : p < length r.both.box.links = omega (arith, within, length-map r.both.box.links (joins_at cid n)) in
        ap left_to_write (link_map (joins_at cid n) r.both.box.links p short) ∙ joins_left cid n (link_in r.both.box.links p);
  }

  joined_tasks : (cid n : ℕ) (v : Bool) → (cond v (record r.both.box { links = at_link cid (link_joined n) r.both.box.links }) r.both.box).tasks ≡ r.both.box.tasks
  joined_tasks cid n true = refl
  joined_tasks cid n false = refl

  pub joins_alike : (cid n : ℕ) → IsFit i r.both.box (after_call i.outbox r.both.box (outbox.Joins cid n)) → GoesAlike i s r (Joins cid n)
  joins_alike cid n fit =
      let stands = joins_stands i.outbox s.state.outbox r.both.box h.outbox fit.distinct cid n in
      let e = moved_ends i s r h (joined cid n s.state.outbox) (after_call i.outbox r.both.box (outbox.Joins cid n)) (left_fit i r.both.box (after_call i.outbox r.both.box (outbox.Joins cid n)) fit) stands (call_last i.outbox s.state.outbox r.both.box (outbox.Joins cid n) h.counts.tracked tt)
      (run_same i s.state r (joined cid n s.state.outbox) (after_call i.outbox r.both.box (outbox.Joins cid n)) h.outbox fit.sound stands fit.sound_after fit.distinct
      (runs_by_tasks r.both.box (after_call i.outbox r.both.box (outbox.Joins cid n)) (joined_tasks cid n (may_join r.both.box cid))))
      (joined_moved cid n (may_join r.both.box cid)) in
      record { answer = ap Joined (joins_answered i.outbox s.state.outbox r.both.box h.outbox fit.distinct cid); tells = e.tells; stands = e.stands }
