-- What holds of each entry of a queue by the moment at which it entered.
use Rattle.std.proofs.Common.{◌≡◌, ℕ, ◌==◌, ◌+◌, ◌&&◌, true, List, [], ◌∷◌, ◌++◌, drop, filter_map, Option, Some, None, refl, subst, sym}
use Rattle.std.specs.List.{list_any}
use Rattle.std.proofs.lemmas.Bool.{cond_both}
use Rattle.iscsi_wire.specs.declared.reply.Reply.{Reply}
use Rattle.iscsi_wire.specs.declared.request.Request.{Request}
use Rattle.iscsi_rules.specs.declared.effect.Effect.{Effect}
use Rattle.iscsi_rules.specs.rules.Trace.{first_of}
use Rattle.iscsi_outbox_rules.specs.rules.Calls.{Opening, Call}
use Rattle.iscsi_outbox_rules.specs.rules.Boxes.{Outgoing, Handed, Aim, Answer, Link, Box}
use Rattle.iscsi_outbox_rules.specs.rules.Queues.{at_link, takes_more, append, enter, without, emptied}
use Rattle.iscsi_outbox_rules.specs.rules.Items.{executing, tickets_left, reply_sent, outgoing, answer, send_as, aim, send}
use Rattle.iscsi_outbox_rules.specs.rules.Own.{own_outgoing}
use Rattle.iscsi_outbox_rules.specs.rules.Handing.{is_from_queue, taken_from, handed_as}
use Rattle.iscsi_outbox_rules.specs.rules.Run.{after_call}
use Rattle.iscsi_outbox_rules.specs.promises.Deeds.{Deed}
use Rattle.iscsi_outbox_rules.proofs.general.EachLemmas.{EachOf, each-append, each-weaken, each-map, each-filter, each-at_link, each-drop_one}
use Rattle.iscsi_outbox_rules.proofs.general.Walks.{Walk}
use Rattle.iscsi_outbox_rules.proofs.general.Boxwise.{Boxwise, box_keeps}

-- `P` is said of an entry of a connection at a moment, by a state that each moment changes; `Now` of the moment
pub record Entrywise (S : Type 0) (Now : ℕ → Type 0) (P : S → ℕ → ℕ → Outgoing → Type 0) : Type 0 where
  pub step : S → ℕ → ℕ → S
  pub later : (n : ℕ) → Now n → Now (n + 1)
  pub stays : (s : S) (n conn into : ℕ) (x : Outgoing) → P s n conn x → P (step s n into) (n + 1) conn x
  pub enters : (s : S) (n conn : ℕ) (x : Outgoing) → Now n → x.time ≡ n → P (step s n conn) (n + 1) conn x

module _ (S : Type 0) (Now : ℕ → Type 0) (P : S → ℕ → ℕ → Outgoing → Type 0) (w : Entrywise S Now P) (o : Opening) where
  abbrev LinkHolds : S → ℕ → Link → Type 0
  LinkHolds s n l = EachOf (P s n l.conn) l.queue

  pub record Entries (b : Box) : Type 0 where
    pub state : S
    pub now : Now b.time
    pub links : EachOf (λ (l : Link). EachOf (P state b.time l.conn) l.queue) b.links

  abbrev Holds : List (List Effect) → Box → Type 0
  Holds items b = Entries b

  entered : (b : Box) (conn : ℕ) (out : Outgoing) → Entries b → Entries (enter conn out b)
  entered b conn out h =
      let s : S = w.step h.state b.time conn in
      let out' : Outgoing = record out { time = b.time } in
      let old : EachOf (LinkHolds s (b.time + 1)) b.links = each-weaken (LinkHolds h.state b.time) (LinkHolds s (b.time + 1)) b.links
      (λ l k. each-weaken (P h.state b.time l.conn) (P s (b.time + 1) l.conn) l.queue (λ x e. w.stays h.state b.time l.conn conn x e) k) h.links in
      record {
        state = s;
        now = w.later b.time h.now;
        links = each-at_link (LinkHolds s (b.time + 1)) (LinkHolds s (b.time + 1)) conn (append out') b.links
            (λ l is k. cond_both (takes_more l) (record l { queue = l.queue ++ out' ∷ [] }) l (LinkHolds s (b.time + 1))
            (λ more. each-append (P s (b.time + 1) l.conn) l.queue (out' ∷ []) k (subst (λ c. P s (b.time + 1) c out') (sym is) (w.enters h.state b.time conn out' h.now refl), tt)) (λ no. k))
            (λ l is k. k) old;
      }

  -- where no queue has more
  fewer : (b : Box) (conn : ℕ) (change : Link → Link) → ((l : Link) → (change l).conn ≡ l.conn) → ((Q : Outgoing → Type 0) (l : Link) → EachOf Q l.queue → EachOf Q (change l).queue) → Entries b
      → Entries (record b { links = at_link conn change b.links })
  fewer b conn change conns less h = record {
    state = h.state;
    now = h.now;
    links = each-at_link (LinkHolds h.state b.time) (LinkHolds h.state b.time) conn change b.links
        (λ l is k. subst (λ c. EachOf (P h.state b.time c) (change l).queue) (sym (conns l)) (less (P h.state b.time l.conn) l k)) (λ l is k. k) h.links;
  }

  same : (b b' : Box) → b'.time ≡ b.time → b'.links ≡ b.links → Entries b → Entries b'
  same b b' time links h = record {
    state = h.state;
    now = subst Now (sym time) h.now;
    links = subst (λ n. EachOf (LinkHolds h.state n) b'.links) (sym time) (subst (EachOf (LinkHolds h.state b.time)) (sym links) h.links);
  }

  sends_one : (b : Box) (r : Option Request) (tickets conns closes : List ℕ) (x : Option (ℕ × Reply)) → Entries b → Entries (send o r tickets conns closes x b)
  sends_one b r tickets conns closes None h = h
  sends_one b None tickets conns closes (Some s) h =
      let b' : Box = enter s.0 (outgoing b None tickets s.1) b in
      same b' (record b' { sent = b'.sent + 1 }) refl refl (entered b s.0 (outgoing b None tickets s.1) h)
  sends_one b (Some r) tickets conns closes (Some s) h = by_aim (aim o (Some r) s.1)
    where
      by_aim : (x : Option Aim) → Entries (let b' = send_as o (Some r) x conns closes s.0 (outgoing b (Some r) tickets s.1) b in record b' { sent = b'.sent + 1 })
      by_aim None = let b' : Box = enter s.0 (outgoing b (Some r) tickets s.1) b in same b' (record b' { sent = b'.sent + 1 }) refl refl (entered b s.0 (outgoing b (Some r) tickets s.1) h)
      by_aim (Some about) =
          let a : Answer = answer o b r conns closes s.0 (outgoing b (Some r) tickets s.1) about in
          cond_both (list_any (λ (l : Link). (l.conn == a.conn) && takes_more l) b.links) (record b { undue = b.undue ++ a ∷ [] }) b (λ (b' : Box). Entries (record b' { sent = b'.sent + 1 }))
          (λ may. same b (record b { undue = b.undue ++ a ∷ []; sent = b.sent + 1 }) refl refl h) (λ may. same b (record b { sent = b.sent + 1 }) refl refl h)

  entry_walk : Walk o Holds
  entry_walk = record {
    tasks = λ items b ts h. same b (record b { tasks = ts }) refl refl h;
    drops = λ items b these h. record {
      state = h.state;
      now = h.now;
      links = each-map (LinkHolds h.state b.time) (LinkHolds h.state b.time) (without these) b.links (λ l k. each-filter (P h.state b.time l.conn) _ l.queue k) h.links;
    };
    closes = λ items b conn h. fewer b conn (λ l. record l { closed = true }) (λ l. refl) (λ Q l k. k) h;
    cuts = λ items b conn h. fewer b conn (λ l. record l { closed = true; cut = true }) (λ l. refl) (λ Q l k. k) h;
    drops_on = λ items b conn over h.
        let k : Entries (record b { links = at_link conn emptied b.links }) = fewer b conn emptied (λ l. refl) (λ Q l e. tt) h in record { state = k.state; now = k.now; links = k.links };
    moves = λ items b before rest a due h.
        entered (record b { undue = before ++ rest }) a.conn a.out (same (record b { undue = before ++ a ∷ rest }) (record b { undue = before ++ rest }) refl refl h);
    sends = λ items b item conns closes h. sends_one b (executing item) (tickets_left item) conns closes (first_of (filter_map reply_sent item)) h;
  }

  entry_boxes : Boxwise o (λ (ds : List Deed) (b : Box). Unit {0}) Holds
  entry_boxes = record {
    walk = entry_walk;
    numbers = λ items b exp max h. same b (record b { exp = exp; max = max }) refl refl h;
    puts = λ items b conn p h. entered b conn (own_outgoing p) h;
    marks = λ items b conn change alike h. fewer b conn change (λ l. (alike l).conn) (λ Q l k. subst (EachOf Q) (sym (alike l).queue) k) h;
    reaches = λ items b n h. same b (record b { reached = n }) refl refl h;
    clears = λ items b unit h. record { state = h.state; now = h.now; links = h.links };
    hands = λ ds b conn h n from j k.
        let g : Handed = handed_as o b n.link n.out in
        let first : Entries (record b { links = at_link n.link.conn (taken_from n.out) b.links }) =
        fewer b n.link.conn (taken_from n.out) (λ l. cond_both (is_from_queue n.out) (record l { queue = drop 1 l.queue }) l (λ (m : Link). m.conn ≡ l.conn) (λ is. refl) (λ is. refl))
        (λ Q l e. cond_both (is_from_queue n.out) (record l { queue = drop 1 l.queue }) l (λ (m : Link). EachOf Q m.queue) (λ is. each-drop_one Q l.queue e) (λ is. e)) k in
        let second : Entries (record b { links = at_link n.link.conn (λ m. record m { handed = m.handed ++ g ∷ [] }) (at_link n.link.conn (taken_from n.out) b.links) }) =
        fewer (record b { links = at_link n.link.conn (taken_from n.out) b.links }) n.link.conn (λ m. record m { handed = m.handed ++ g ∷ [] }) (λ m. refl) (λ Q m e. e) first in
        record { state = second.state; now = second.now; links = second.links };
  }

  pub entries_kept : (b : Box) (c : Call) → Entries b → Entries (after_call o b c)
  entries_kept b c h = box_keeps o (λ (ds : List Deed) (x : Box). Unit {0}) Holds entry_boxes [] b c tt h
