-- The own PDUs of a connection go out as they were put.
use Rattle.std.proofs.Common.{◌≡◌, ℕ, ◌⊎◌, inl, inr, ⊎_elim, ◌==◌, ◌+◌, ◌&&◌, ◌||◌, not, cond, Bool, true, false, List, [], ◌∷◌, ◌++◌, map, filter, filter_map, Option, Some, None, refl, ap, sym, ◌∙◌}
use Rattle.std.specs.List.{list_any, flat_map, cons_option}
use Rattle.std.proofs.lemmas.Bool.{cond_both, eqb-true}
use Rattle.std.proofs.lemmas.List.{append-nil}
use Rattle.std.proofs.lemmas.List.Concat.{flat_map-append}
use Rattle.iscsi_wire.specs.declared.reply.Reply.{Reply}
use Rattle.iscsi_wire.specs.declared.request.Request.{Request}
use Rattle.iscsi_rules.specs.declared.effect.Effect.{Effect}
use Rattle.iscsi_rules.specs.rules.Trace.{first_of}
use Rattle.iscsi_outbox_rules.specs.declared.own_pdu.OwnPdu.{OwnPdu}
use Rattle.iscsi_outbox_rules.specs.rules.Calls.{Opening}
use Rattle.iscsi_outbox_rules.specs.rules.Boxes.{Outgoing, Aim, Answer, Link, Box}
use Rattle.iscsi_outbox_rules.specs.rules.Words.{is_of}
use Rattle.iscsi_outbox_rules.specs.rules.Queues.{at_link, takes_more, append, enter, without, emptied}
use Rattle.iscsi_outbox_rules.specs.rules.Items.{executing, tickets_left, reply_sent, outgoing, answer, send_as, aim, send}
use Rattle.iscsi_outbox_rules.specs.rules.Handing.{is_from_queue}
use Rattle.iscsi_outbox_rules.specs.promises.Deeds.{Deed}
use Rattle.iscsi_outbox_rules.specs.promises.Order.{own_of, is_of_connection, own_taken, own_handed}
use Rattle.iscsi_outbox_rules.proofs.general.EachLemmas.{EachOf, each-append, each-first, each-second, each-filter, each-map, each-first_of}
use Rattle.iscsi_outbox_rules.proofs.general.FoundLemmas.{find_link, found-conn, found-map}
use Rattle.iscsi_outbox_rules.proofs.general.Walks.{IsOver, Walk}

module _ (c : ℕ) where
  -- what a PDU is of the connection's own ones
  abbrev pub own_in : Outgoing → List OwnPdu
  own_in x = filter (is_of_connection c) (cons_option (own_of x.pdu) [])

  abbrev pub own_waiting : List Outgoing → List OwnPdu
  own_waiting queue = flat_map own_in queue

  abbrev pub handed_of : List Deed → List OwnPdu
  handed_of ds = filter (is_of_connection c) (own_handed ds)

  abbrev pub taken_of : List Deed → List OwnPdu
  taken_of ds = filter (is_of_connection c) (own_taken ds)

  -- an own PDU of the connection waits there alone, and is of no command
  abbrev pub OwnEntry : ℕ → Outgoing → Type 0
  OwnEntry conn x = (own_in x ≡ []) ⊎ ((conn ≡ c) × (x.ticket ≡ None) × (is_from_queue x ≡ true))

  abbrev pub LinkFits : Link → Type 0
  LinkFits l = EachOf (OwnEntry l.conn) l.queue × (l.cut ≡ true → l.closed ≡ true)

  -- what was taken and didn't go out waits, or was dropped
  abbrev pub Queued : List OwnPdu → Link → Type 0
  Queued waiting l = (waiting ≡ own_waiting l.queue) ⊎ ((own_waiting l.queue ≡ []) × ((l.closed || l.lost) ≡ true))

  pub record OwnStands (ds : List Deed) (b : Box) : Type 0 where
    pub waiting : List OwnPdu
    pub whole : handed_of ds ++ waiting ≡ taken_of ds
    pub queued : (l : Link) → find_link c b.links ≡ Some l → Queued waiting l
    pub fits : EachOf LinkFits b.links
    pub undue : EachOf (λ (a : Answer). own_in a.out ≡ []) b.undue

  -- each connection becomes another one
  changes : (waiting : List OwnPdu) (g : Link → Link) → ((l : Link) → (g l).conn ≡ l.conn) → (links : List Link) → ((l : Link) → find_link c links ≡ Some l → LinkFits l → Queued waiting l → Queued waiting (g l))
      → EachOf LinkFits links → ((l : Link) → find_link c links ≡ Some l → Queued waiting l) → (l : Link) → find_link c (map g links) ≡ Some l → Queued waiting l
  changes waiting g kept links f fits queued l found =
      (found-map (λ (m : Link). m.conn ≡ c → Queued waiting m) (λ (m : Link). m.conn ≡ c → Queued waiting m) g kept links
      (λ conn m there k same.
      let at : conn ≡ c = sym (found-conn conn links m there) ∙ sym (kept m) ∙ same in
      let there' : find_link c links ≡ Some m = ap (λ e. find_link e links) (sym at) ∙ there in
      f m there' (each-first_of LinkFits (λ (x : Link). x.conn == c) links m there' fits) (k (sym (kept m) ∙ same)))
      (λ conn m there same. queued m (ap (λ e. find_link e links) (sym (sym (found-conn conn links m there) ∙ same)) ∙ there))) c l found (found-conn c (map g links) l found)

  abbrev Own : List Deed → List (List Effect) → Box → Type 0
  Own ds items b = OwnStands ds b

  changed : (ds : List Deed) (b : Box) (g : Link → Link) (undue : List Answer) → ((l : Link) → (g l).conn ≡ l.conn) → (h : OwnStands ds b)
      → ((l : Link) → find_link c b.links ≡ Some l → LinkFits l → Queued h.waiting l → Queued h.waiting (g l)) → ((l : Link) → LinkFits l → LinkFits (g l)) → EachOf (λ (a : Answer). own_in a.out ≡ []) undue
      → OwnStands ds (record b { links = map g b.links; undue = undue })
  changed ds b g undue kept h queued fits none = record {
    waiting = h.waiting;
    whole = h.whole;
    queued = changes h.waiting g kept b.links queued h.fits h.queued;
    fits = each-map LinkFits LinkFits g b.links fits h.fits;
    undue = none;
  }

  -- ---- dropping what is of commands

  dropped : (these : ℕ → Bool) (conn : ℕ) (queue : List Outgoing) → EachOf (OwnEntry conn) queue → own_waiting (filter (λ out. not (is_of these out)) queue) ≡ own_waiting queue
  dropped these conn [] h = refl
  dropped these conn (x ∷ queue) h =
      let rest : own_waiting (filter (λ out. not (is_of these out)) queue) ≡ own_waiting queue = dropped these conn queue h.1 in
      ⊎_elim
      (λ none. cond_both (not (is_of these x)) (x ∷ filter (λ out. not (is_of these out)) queue) (filter (λ out. not (is_of these out)) queue) (λ ys. own_waiting ys ≡ own_waiting (x ∷ queue))
      (λ is. ap (λ ys. own_in x ++ ys) rest) (λ is. rest ∙ sym (ap (λ ys. ys ++ own_waiting queue) none)))
      (λ own.
      let stays : not (is_of these x) ≡ true = ap (λ t. not (elim t [ Some ticket ↦ these ticket | None ↦ false ])) own.1 in
      ap (λ v. own_waiting (cond v (x ∷ filter (λ out. not (is_of these out)) queue) (filter (λ out. not (is_of these out)) queue))) stays ∙ ap (λ ys. own_in x ++ ys) rest)
      h.0

  -- ---- entering what is none of them

  waiting-push : (queue : List Outgoing) (out : Outgoing) → own_in out ≡ [] → own_waiting (queue ++ out ∷ []) ≡ own_waiting queue
  waiting-push queue out none = flat_map-append own_in queue (out ∷ []) ∙ ap (λ ys. own_waiting queue ++ (ys ++ [])) none ∙ append-nil (own_waiting queue)

  other : (waiting : List OwnPdu) (l : Link) (queue : List Outgoing) → own_waiting queue ≡ own_waiting l.queue → Queued waiting l → Queued waiting (record l { queue = queue })
  other waiting l queue same k = ⊎_elim (λ is. inl (is ∙ sym same)) (λ over. inr (same ∙ over.0, over.1)) k

  pub append-conn : (out : Outgoing) (l : Link) → (append out l).conn ≡ l.conn
  append-conn out l = cond_both (takes_more l) (record l { queue = l.queue ++ out ∷ [] }) l (λ (m : Link). m.conn ≡ l.conn) (λ is. refl) (λ is. refl)

  -- a change of one connection
  pub one_kept : (conn : ℕ) (change : Link → Link) → ((l : Link) → (change l).conn ≡ l.conn) → (l : Link) → (cond (l.conn == conn) (change l) l).conn ≡ l.conn
  one_kept conn change kept l = cond_both (l.conn == conn) (change l) l (λ (m : Link). m.conn ≡ l.conn) (λ is. kept l) (λ is. refl)

  pub at_one : (ds : List Deed) (b : Box) (conn : ℕ) (change : Link → Link) (undue : List Answer) → ((l : Link) → (change l).conn ≡ l.conn) → (h : OwnStands ds b)
      → ((l : Link) → l.conn ≡ conn → find_link c b.links ≡ Some l → Queued h.waiting l → Queued h.waiting (change l)) → ((l : Link) → LinkFits l → LinkFits (change l)) → EachOf (λ (a : Answer). own_in a.out ≡ []) undue
      → OwnStands ds (record b { links = at_link conn change b.links; undue = undue })
  at_one ds b conn change undue kept h queued fits none =
      changed ds b (λ (l : Link). cond (l.conn == conn) (change l) l) undue (one_kept conn change kept) h
      (λ l found f k. cond_both (l.conn == conn) (change l) l (Queued h.waiting) (λ is. queued l (eqb-true l.conn conn is) found k) (λ is. k))
      (λ l f. cond_both (l.conn == conn) (change l) l LinkFits (λ is. fits l f) (λ is. f)) none

  pub enters : (ds : List Deed) (b : Box) (conn : ℕ) (out : Outgoing) → own_in out ≡ [] → OwnStands ds b → OwnStands ds (enter conn out b)
  enters ds b conn out none h =
      let out' : Outgoing = record out { time = b.time } in
      let k : OwnStands ds (record b { links = at_link conn (append out') b.links; undue = b.undue }) =
      at_one ds b conn (append out') b.undue (append-conn out') h
      (λ l is found q. cond_both (takes_more l) (record l { queue = l.queue ++ out' ∷ [] }) l (Queued h.waiting) (λ more. other h.waiting l (l.queue ++ out' ∷ []) (waiting-push l.queue out' none) q) (λ more. q))
      (λ l f. cond_both (takes_more l) (record l { queue = l.queue ++ out' ∷ [] }) l LinkFits (λ more. (each-append (OwnEntry l.conn) l.queue (out' ∷ []) f.0 (inl none, tt), f.1)) (λ more. f)) h.undue in
      record { waiting = k.waiting; whole = k.whole; queued = k.queued; fits = k.fits; undue = k.undue }

  counts : (ds : List Deed) (b : Box) → OwnStands ds b → OwnStands ds (record b { sent = b.sent + 1 })
  counts ds b h = record { waiting = h.waiting; whole = h.whole; queued = h.queued; fits = h.fits; undue = h.undue }

  sends_one : (o : Opening) (ds : List Deed) (b : Box) (r : Option Request) (tickets conns closes : List ℕ) (x : Option (ℕ × Reply)) → OwnStands ds b → OwnStands ds (send o r tickets conns closes x b)
  sends_one o ds b r tickets conns closes None h = h
  sends_one o ds b None tickets conns closes (Some s) h = counts ds (enter s.0 (outgoing b None tickets s.1) b) (enters ds b s.0 (outgoing b None tickets s.1) refl h)
  sends_one o ds b (Some r) tickets conns closes (Some s) h = by_aim (aim o (Some r) s.1)
    where
      by_aim : (x : Option Aim) → OwnStands ds (let b' = send_as o (Some r) x conns closes s.0 (outgoing b (Some r) tickets s.1) b in record b' { sent = b'.sent + 1 })
      by_aim None = counts ds (enter s.0 (outgoing b (Some r) tickets s.1) b) (enters ds b s.0 (outgoing b (Some r) tickets s.1) refl h)
      by_aim (Some about) =
          let a : Answer = answer o b r conns closes s.0 (outgoing b (Some r) tickets s.1) about in
          cond_both (list_any (λ (l : Link). (l.conn == a.conn) && takes_more l) b.links) (record b { undue = b.undue ++ a ∷ [] }) b (λ (b' : Box). OwnStands ds (record b' { sent = b'.sent + 1 }))
          (λ may. record { waiting = h.waiting; whole = h.whole; queued = h.queued; fits = h.fits; undue = each-append (λ (x : Answer). own_in x.out ≡ []) b.undue (a ∷ []) h.undue (refl, tt) })
          (λ may. counts ds b h)

  pub own_walk : (o : Opening) (ds : List Deed) → Walk o (Own ds)
  own_walk o ds = record {
    tasks = λ items b ts h. record { waiting = h.waiting; whole = h.whole; queued = h.queued; fits = h.fits; undue = h.undue };
    drops = λ items b these h.
        changed ds b (without these) b.undue (λ l. refl) h
        (λ l found f k. other h.waiting l (without these l).queue (dropped these l.conn l.queue f.0) k) (λ l f. (each-filter (OwnEntry l.conn) _ l.queue f.0, f.1)) h.undue;
    closes = λ items b conn h.
        at_one ds b conn (λ l. record l { closed = true }) b.undue (λ l. refl) h (λ l is found k. ⊎_elim (λ same. inl same) (λ over. inr (over.0, refl)) k) (λ l f. (f.0, (λ cut. refl))) h.undue;
    cuts = λ items b conn h.
        at_one ds b conn (λ l. record l { closed = true; cut = true }) b.undue (λ l. refl) h (λ l is found k. ⊎_elim (λ same. inl same) (λ over. inr (over.0, refl)) k) (λ l f. (f.0, (λ cut. refl))) h.undue;
    drops_on = λ items b conn over h.
        at_one ds b conn emptied (filter (λ (a : Answer). not (a.conn == conn)) b.undue) (λ l. refl) h
        (λ l is found k. inr (refl, each-first_of (IsOver conn) (λ (m : Link). m.conn == c) b.links l found over is)) (λ l f. (tt, f.1))
        (each-filter (λ (a : Answer). own_in a.out ≡ []) (λ (a : Answer). not (a.conn == conn)) b.undue h.undue);
    moves = λ items b before rest a due h.
        let later = each-second (λ (x : Answer). own_in x.out ≡ []) before (a ∷ rest) h.undue in
        enters ds (record b { undue = before ++ rest }) a.conn a.out later.0
        (record { waiting = h.waiting; whole = h.whole; queued = h.queued; fits = h.fits; undue = each-append (λ (x : Answer). own_in x.out ≡ []) before rest (each-first (λ (x : Answer). own_in x.out ≡ []) before (a ∷ rest) h.undue) later.1 });
    sends = λ items b item conns closes h. sends_one o ds b (executing item) (tickets_left item) conns closes (first_of (filter_map reply_sent item)) h;
  }
