-- What holds of each connection and of each entry stays so while items are taken.
use Rattle.std.proofs.Common.{◌≡◌, ℕ, ◌==◌, ◌+◌, ◌&&◌, not, Bool, true, List, [], ◌∷◌, ◌++◌, length, filter_map, Option, Some, None, refl, ap, sym, subst, ◌∙◌}
use Rattle.std.specs.List.{list_any}
use Rattle.std.proofs.lemmas.Bool.{cond_both}
use Rattle.iscsi_wire.specs.declared.reply.Reply.{Reply}
use Rattle.iscsi_wire.specs.declared.request.Request.{Request}
use Rattle.iscsi_rules.specs.declared.effect.Effect.{Effect}
use Rattle.iscsi_rules.specs.rules.Trace.{first_of}
use Rattle.iscsi_outbox_rules.specs.rules.Calls.{Opening}
use Rattle.iscsi_outbox_rules.specs.rules.Boxes.{Outgoing, Aim, Answer, Link, Box}
use Rattle.iscsi_outbox_rules.specs.rules.Queues.{takes_more, append, enter, without, emptied}
use Rattle.iscsi_outbox_rules.specs.rules.Items.{executing, tickets_left, reply_sent, outgoing, answer, await, send_as, aim, send}
use Rattle.iscsi_outbox_rules.proofs.general.EachLemmas.{EachOf, each-append, each-first, each-second, each-map, each-filter, each-weaken, each-at_link}
use Rattle.iscsi_outbox_rules.proofs.general.FirstLemmas.{firsts, firsts-none, firsts-some, length-push}
use Rattle.iscsi_outbox_rules.proofs.general.Walks.{Walk}

pub record Linkwise (o : Opening) (P : List (List Effect) → Link → Type 0) (E : List (List Effect) → ℕ → Outgoing → Type 0) : Type 0 where
  pub closes : (items : List (List Effect)) (l : Link) → P items l → P items (record l { closed = true })
  pub cuts : (items : List (List Effect)) (l : Link) → P items l → P items (record l { closed = true; cut = true })
  pub filters : (items : List (List Effect)) (l : Link) (these : ℕ → Bool) → P items l → P items (without these l)
  pub empties : (items : List (List Effect)) (l : Link) → P items l → P items (emptied l)
  pub appends : (items : List (List Effect)) (l : Link) (out : Outgoing) → E items l.conn out → P items l → P items (record l { queue = l.queue ++ out ∷ [] })
  pub times : (items : List (List Effect)) (conn : ℕ) (out : Outgoing) (t : ℕ) → E items conn out → E items conn (record out { time = t })
  pub grows : (items : List (List Effect)) (item : List Effect) (l : Link) → P items l → P (items ++ item ∷ []) l
  pub stays : (items : List (List Effect)) (item : List Effect) (conn : ℕ) (out : Outgoing) → E items conn out → E (items ++ item ∷ []) conn out
  pub enters : (items : List (List Effect)) (b : Box) (item : List Effect) (conn : ℕ) (reply : Reply) → first_of (filter_map reply_sent item) ≡ Some (conn, reply) → b.sent ≡ length (firsts items)
      → E (items ++ item ∷ []) conn (outgoing b (executing item) (tickets_left item) reply)
  pub awaits : (items : List (List Effect)) (b : Box) (item : List Effect) (r : Request) (conns closes : List ℕ) (conn : ℕ) (reply : Reply) (about : Aim)
      → first_of (filter_map reply_sent item) ≡ Some (conn, reply) → b.sent ≡ length (firsts items)
      → E (items ++ item ∷ []) conn (answer o b r conns closes conn (outgoing b (executing item) (tickets_left item) reply) about).out

pub record Stands (P : List (List Effect) → Link → Type 0) (E : List (List Effect) → ℕ → Outgoing → Type 0) (items : List (List Effect)) (b : Box) : Type 0 where
  pub sent : b.sent ≡ length (firsts items)
  pub links : EachOf (P items) b.links
  pub undue : EachOf (λ (a : Answer). E items a.conn a.out) b.undue

module _ (o : Opening) (P : List (List Effect) → Link → Type 0) (E : List (List Effect) → ℕ → Outgoing → Type 0) (w : Linkwise o P E) where
  pub enters_queue : (items : List (List Effect)) (b : Box) (conn : ℕ) (out : Outgoing) → E items conn out → Stands P E items b → Stands P E items (enter conn out b)
  enters_queue items b conn out e h =
      let e' : E items conn (record out { time = b.time }) = w.times items conn out b.time e in
      record {
        sent = h.sent;
        links = each-at_link (P items) (P items) conn (append (record out { time = b.time })) b.links
            (λ l is k. cond_both (takes_more l) (record l { queue = l.queue ++ record out { time = b.time } ∷ [] }) l (P items) (λ more. w.appends items l (record out { time = b.time }) (subst (λ c. E items c (record out { time = b.time })) (sym is) e') k) (λ no. k))
            (λ l is k. k) h.links;
        undue = h.undue;
      }

  pub awaits_due : (items : List (List Effect)) (b : Box) (a : Answer) → E items a.conn a.out → Stands P E items b → Stands P E items (await a b)
  awaits_due items b a e h =
      cond_both (list_any (λ (l : Link). (l.conn == a.conn) && takes_more l) b.links) (record b { undue = b.undue ++ a ∷ [] }) b (Stands P E items)
      (λ is. record { sent = h.sent; links = h.links; undue = each-append (λ (x : Answer). E items x.conn x.out) b.undue (a ∷ []) h.undue (e, tt) })
      (λ is. h)

  more_items : (items : List (List Effect)) (item : List Effect) (b : Box) → b.sent ≡ length (firsts (items ++ item ∷ [])) → Stands P E items b → Stands P E (items ++ item ∷ []) b
  more_items items item b sent h = record {
    sent = sent;
    links = each-weaken (P items) (P (items ++ item ∷ [])) b.links (w.grows items item) h.links;
    undue = each-weaken (λ (a : Answer). E items a.conn a.out) (λ (a : Answer). E (items ++ item ∷ []) a.conn a.out) b.undue (λ a e. w.stays items item a.conn a.out e) h.undue;
  }

  -- all but the count of replies
  record Rest (items : List (List Effect)) (b : Box) : Type 0 where
    links : EachOf (P items) b.links
    undue : EachOf (λ (a : Answer). E items a.conn a.out) b.undue

  sends_one : (items : List (List Effect)) (b : Box) (item : List Effect) (conns closes : List ℕ) (x : Option (ℕ × Reply)) → first_of (filter_map reply_sent item) ≡ x
      → Stands P E items b → Stands P E (items ++ item ∷ []) (send o (executing item) (tickets_left item) conns closes x b)
  sends_one items b item conns closes None none h = more_items items item b (h.sent ∙ ap length (sym (firsts-none items item none))) h
  sends_one items b item conns closes (Some s) some h =
      by_request (executing item) refl
    where
      its : List (List Effect)
      its = items ++ item ∷ []

      counted : b.sent + 1 ≡ length (firsts its)
      counted = ap (λ n. n + 1) h.sent ∙ sym (length-push (firsts items) _) ∙ ap length (sym (firsts-some items item s.0 s.1 some))

      -- with one more counted
      counts : (b' : Box) → b'.sent ≡ b.sent → EachOf (P its) b'.links → EachOf (λ (a : Answer). E its a.conn a.out) b'.undue → Stands P E its (record b' { sent = b'.sent + 1 })
      counts b' same links undue = record { sent = ap (λ n. n + 1) same ∙ counted; links = links; undue = undue }

      links : EachOf (P its) b.links
      links = each-weaken (P items) (P its) b.links (w.grows items item) h.links

      undue : EachOf (λ (a : Answer). E its a.conn a.out) b.undue
      undue = each-weaken (λ (a : Answer). E items a.conn a.out) (λ (a : Answer). E its a.conn a.out) b.undue (λ a e. w.stays items item a.conn a.out e) h.undue

      entered : (r : Option Request) → executing item ≡ r → Stands P E its (let b' = enter s.0 (outgoing b r (tickets_left item) s.1) b in record b' { sent = b'.sent + 1 })
      entered r is =
          let out : Outgoing = outgoing b r (tickets_left item) s.1 in
          let e : E its s.0 out = subst (λ q. E its s.0 (outgoing b q (tickets_left item) s.1)) is (w.enters items b item s.0 s.1 some h.sent) in
          let e' : E its s.0 (record out { time = b.time }) = w.times its s.0 out b.time e in
          counts (enter s.0 out b) refl
          (each-at_link (P its) (P its) s.0 (append (record out { time = b.time })) b.links
          (λ l same k. cond_both (takes_more l) (record l { queue = l.queue ++ record out { time = b.time } ∷ [] }) l (P its) (λ more. w.appends its l (record out { time = b.time }) (subst (λ c. E its c (record out { time = b.time })) (sym same) e') k) (λ no. k))
          (λ l same k. k) links)
          undue

      by_aim : (r : Request) → executing item ≡ Some r → (about : Option Aim) → Stands P E its (let b' = send_as o (Some r) about conns closes s.0 (outgoing b (Some r) (tickets_left item) s.1) b in record b' { sent = b'.sent + 1 })
      by_aim r is None = entered (Some r) is
      by_aim r is (Some about) =
          let a : Answer = answer o b r conns closes s.0 (outgoing b (Some r) (tickets_left item) s.1) about in
          let e : E its s.0 a.out = subst (λ q. E its s.0 (answer o b r conns closes s.0 (outgoing b q (tickets_left item) s.1) about).out) is (w.awaits items b item r conns closes s.0 s.1 about some h.sent) in
          cond_both (list_any (λ (l : Link). (l.conn == a.conn) && takes_more l) b.links) (record b { undue = b.undue ++ a ∷ [] }) b (λ b'. Stands P E its (record b' { sent = b'.sent + 1 }))
          (λ may. counts (record b { undue = b.undue ++ a ∷ [] }) refl links (each-append (λ (x : Answer). E its x.conn x.out) b.undue (a ∷ []) undue (e, tt)))
          (λ may. counts b refl links undue)

      by_request : (r : Option Request) → executing item ≡ r → Stands P E its (send o r (tickets_left item) conns closes (Some s) b)
      by_request (Some r) is = by_aim r is (aim o (Some r) s.1)
      by_request None is = entered None is

  pub walk : Walk o (Stands P E)
  walk = record {
    tasks = λ items b ts h. record { sent = h.sent; links = h.links; undue = h.undue };
    drops = λ items b these h. record { sent = h.sent; links = each-map (P items) (P items) (without these) b.links (λ l k. w.filters items l these k) h.links; undue = h.undue };
    closes = λ items b conn h. record { sent = h.sent; links = each-at_link (P items) (P items) conn (λ l. record l { closed = true }) b.links (λ l is k. w.closes items l k) (λ l is k. k) h.links; undue = h.undue };
    cuts = λ items b conn h. record { sent = h.sent; links = each-at_link (P items) (P items) conn (λ l. record l { closed = true; cut = true }) b.links (λ l is k. w.cuts items l k) (λ l is k. k) h.links; undue = h.undue };
    drops_on = λ items b conn over h. record {
      sent = h.sent;
      links = each-at_link (P items) (P items) conn emptied b.links (λ l is k. w.empties items l k) (λ l is k. k) h.links;
      undue = each-filter (λ (a : Answer). E items a.conn a.out) (λ (a : Answer). not (a.conn == conn)) b.undue h.undue;
    };
    moves = λ items b before rest a due h.
        let all : EachOf (λ (x : Answer). E items x.conn x.out) (before ++ a ∷ rest) = h.undue in
        let later = each-second (λ (x : Answer). E items x.conn x.out) before (a ∷ rest) all in
        let kept : Stands P E items (record b { undue = before ++ rest }) = record {
          sent = h.sent;
          links = h.links;
          undue = each-append (λ (x : Answer). E items x.conn x.out) before rest (each-first (λ (x : Answer). E items x.conn x.out) before (a ∷ rest) all) later.1;
        } in
        enters_queue items (record b { undue = before ++ rest }) a.conn a.out later.0 kept;
    sends = λ items b item conns closes h. sends_one items b item conns closes (first_of (filter_map reply_sent item)) refl h;
  }
