-- What holds of each PDU that waits, and of each answer that isn't due, stays so as PDUs are dropped and enter.
use Rattle.std.proofs.Common.{◌≡◌, ℕ, ◌==◌, cond, not, true, List, [], ◌∷◌, ◌++◌, drop, Option, Some, None, refl}
use Rattle.std.proofs.lemmas.Bool.{cond_both}
use Rattle.iscsi_wire.specs.Fields.{connection_of}
use Rattle.iscsi_wire.specs.declared.request.Request.{Request}
use Rattle.iscsi_rules.specs.declared.effect.Effect.{Effect}
use Rattle.iscsi_outbox_rules.specs.rules.Boxes.{Outgoing, Handed, Answer, Link, Box}
use Rattle.iscsi_outbox_rules.specs.rules.Words.{contains, is_of}
use Rattle.iscsi_outbox_rules.specs.rules.Calls.{Opening}
use Rattle.iscsi_outbox_rules.specs.rules.Queues.{at_link, takes_more, append, enter, without, emptied, drop_on}
use Rattle.iscsi_outbox_rules.specs.rules.Items.{leave, enter_tasks, close_one, close_all, close}
use Rattle.iscsi_outbox_rules.specs.rules.Handing.{is_from_queue, taken_from, after_given}
use Rattle.iscsi_outbox_rules.proofs.general.EachLemmas.{EachOf, each-append, each-at_link, each-filter, each-map, each-drop_one, each-weaken}
use Rattle.iscsi_outbox_rules.proofs.general.ConnLemmas.{HaveConns, have_conns}

abbrev pub EachQueue : (Outgoing → Type 0) → List Link → Type 0
EachQueue P links = EachOf (λ (l : Link). EachOf P l.queue) links

module _ (cs : List ℕ) where
  -- its connections, the PDUs that wait, and the answers
  pub record Kept (P : Outgoing → Type 0) (D : Answer → Type 0) (n : ℕ) (b : Box) : Type 0 where
    pub queues : EachQueue P b.links
    pub undue : EachOf D b.undue
    pub conns : HaveConns cs b.links
    pub sent : b.sent ≡ n

  pub kept_weaken : (P Q : Outgoing → Type 0) (D E : Answer → Type 0) (n : ℕ) (b : Box) → ((out : Outgoing) → P out → Q out) → ((a : Answer) → D a → E a) → Kept P D n b → Kept Q E n b
  kept_weaken P Q D E n b f g h = record {
    queues = each-weaken (λ (l : Link). EachOf P l.queue) (λ (l : Link). EachOf Q l.queue) b.links (λ l k. each-weaken P Q l.queue f k) h.queues;
    undue = each-weaken D E b.undue g h.undue;
    conns = h.conns;
    sent = h.sent;
  }

  module _ (P : Outgoing → Type 0) (D : Answer → Type 0) (n : ℕ) where
    conns_at : (conn : ℕ) (change : Link → Link) → ((l : Link) → (change l).conn ≡ l.conn) → (links : List Link) → HaveConns cs links → HaveConns cs (at_link conn change links)
    conns_at conn change same links h =
        have_conns cs (λ (l : Link). cond (l.conn == conn) (change l) l) (λ l. cond_both (l.conn == conn) (change l) l (λ (m : Link). m.conn ≡ l.conn) (λ is. same l) (λ is. refl)) links h

    -- a change of one connection
    pub kept_at : (b : Box) (conn : ℕ) (change : Link → Link) → ((l : Link) → (change l).conn ≡ l.conn) → ((l : Link) → l.conn ≡ conn → EachOf P l.queue → EachOf P (change l).queue) → Kept P D n b
        → Kept P D n (record b { links = at_link conn change b.links })
    kept_at b conn change same f h = record {
      queues = each-at_link (λ (l : Link). EachOf P l.queue) (λ (l : Link). EachOf P l.queue) conn change b.links f (λ l isnt k. k) h.queues;
      undue = h.undue;
      conns = conns_at conn change same b.links h.conns;
      sent = h.sent;
    }

    pub kept_enter : (b : Box) (conn : ℕ) (out : Outgoing) → P (record out { time = b.time }) → Kept P D n b → Kept P D n (enter conn out b)
    kept_enter b conn out p h =
        let out' : Outgoing = record out { time = b.time } in
        let k : Kept P D n (record b { links = at_link conn (append out') b.links }) =
        kept_at b conn (append out') (λ l. cond_both (takes_more l) (record l { queue = l.queue ++ out' ∷ [] }) l (λ (m : Link). m.conn ≡ l.conn) (λ is. refl) (λ is. refl))
        (λ l is k. cond_both (takes_more l) (record l { queue = l.queue ++ out' ∷ [] }) l (λ (m : Link). EachOf P m.queue) (λ more. each-append P l.queue (out' ∷ []) k (p, tt)) (λ more. k)) h in
        record { queues = k.queues; undue = k.undue; conns = k.conns; sent = k.sent }

    pub kept_drop_on : (b : Box) (conn : ℕ) → Kept P D n b → Kept P D n (drop_on conn b)
    kept_drop_on b conn h =
        let k : Kept P D n (record b { links = at_link conn emptied b.links }) = kept_at b conn emptied (λ l. refl) (λ l is q. tt) h in
        record { queues = k.queues; undue = each-filter D (λ (a : Answer). not (a.conn == conn)) b.undue h.undue; conns = k.conns; sent = k.sent }

    pub kept_leave : (b : Box) (r : Option Request) (tickets : List ℕ) → Kept P D n b → Kept P D n (leave r tickets b)
    kept_leave b (Some r) tickets h = record {
      queues = each-map (λ (l : Link). EachOf P l.queue) (λ (l : Link). EachOf P l.queue) (without (contains tickets)) b.links (λ l k. each-filter P (λ out. not (is_of (contains tickets) out)) l.queue k) h.queues;
      undue = h.undue;
      conns = have_conns cs (without (contains tickets)) (λ l. refl) b.links h.conns;
      sent = h.sent;
    }
    kept_leave b None tickets h = record { queues = h.queues; undue = h.undue; conns = h.conns; sent = h.sent }

    pub kept_tasks : (b : Box) (r : Option Request) (item : List Effect) → Kept P D n b → Kept P D n (enter_tasks r item b)
    kept_tasks b (Some r) item h = record { queues = h.queues; undue = h.undue; conns = h.conns; sent = h.sent }
    kept_tasks b None item h = h

    kept_close_one : (b : Box) (by conn : ℕ) → Kept P D n b → Kept P D n (close_one by conn b)
    kept_close_one b by conn h =
        cond_both (conn == by) (record b { links = at_link conn (λ l. record l { closed = true }) b.links }) (drop_on conn (record b { links = at_link conn (λ l. record l { closed = true; cut = true }) b.links }))
        (Kept P D n)
        (λ is. kept_at b conn (λ l. record l { closed = true }) (λ l. refl) (λ l at k. k) h)
        (λ is. kept_drop_on (record b { links = at_link conn (λ l. record l { closed = true; cut = true }) b.links }) conn (kept_at b conn (λ l. record l { closed = true; cut = true }) (λ l. refl) (λ l at k. k) h))

    kept_close_all : (b : Box) (by : ℕ) (conns : List ℕ) → Kept P D n b → Kept P D n (close_all by conns b)
    kept_close_all b by [] h = h
    kept_close_all b by (conn ∷ conns) h = kept_close_all (close_one by conn b) by conns (kept_close_one b by conn h)

    pub kept_close : (b : Box) (r : Option Request) (conns : List ℕ) → Kept P D n b → Kept P D n (close r conns b)
    kept_close b (Some r) conns h = kept_close_all b (connection_of r) conns h
    kept_close b None conns h = h

    -- the first that waits is handed out
    pub kept_given : (o : Opening) (b : Box) (l : Link) (g : Handed) → Kept P D n b → Kept P D n (after_given o b l g)
    kept_given o b l g h =
        let one : Box = record b { links = at_link l.conn (taken_from g.out) b.links } in
        let k : Kept P D n one =
        kept_at b l.conn (taken_from g.out) (λ m. cond_both (is_from_queue g.out) (record m { queue = drop 1 m.queue }) m (λ (x : Link). x.conn ≡ m.conn) (λ is. refl) (λ is. refl))
        (λ m at q. cond_both (is_from_queue g.out) (record m { queue = drop 1 m.queue }) m (λ (x : Link). EachOf P x.queue) (λ is. each-drop_one P m.queue q) (λ is. q)) h in
        let pushed : Kept P D n (record one { links = at_link l.conn (λ m. record m { handed = m.handed ++ g ∷ [] }) one.links }) =
        kept_at one l.conn (λ m. record m { handed = m.handed ++ g ∷ [] }) (λ m. refl) (λ m at q. q) k in
        record { queues = pushed.queues; undue = pushed.undue; conns = pushed.conns; sent = pushed.sent }
