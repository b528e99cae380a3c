-- What holds of all that waits in a box, or is handed out and to be written, by the place of the reply and the ticket: each call keeps it.
use Rattle.std.proofs.Common.{◌≡◌, ℕ, zero, suc, ◌+◌, ◌==◌, ◌&&◌, ⊎_elim, not, cond, true, false, List, [], ◌∷◌, ◌++◌, filter_map, drop, length, nat_lt, max, Option, Some, None, refl, ap, sym, subst, arith}
use Rattle.std.specs.List.{list_any}
use Rattle.std.proofs.lemmas.Bool.{cond_both, false≢true}
use Rattle.iscsi_wire.specs.declared.reply.Reply.{Reply}
use Rattle.iscsi_wire.specs.declared.request.Request.{Request}
use Rattle.iscsi_wire.specs.Fields.{connection_of}
use Rattle.iscsi_rules.specs.declared.effect.Effect.{Effect}
use Rattle.iscsi_rules.specs.rules.Trace.{first_of}
use Rattle.iscsi_outbox_rules.specs.declared.own_pdu.OwnPdu.{OwnPdu}
use Rattle.iscsi_outbox_rules.specs.declared.own_pdu.PutRefusal.{PutRefusal}
use Rattle.iscsi_outbox_rules.specs.rules.Calls.{Opening, Call, Takes, Puts, Stops, Nexts, Writes, Hears, Joins, Loses, Clears}
use Rattle.iscsi_outbox_rules.specs.rules.Boxes.{Aim, Outgoing, Handed, Answer, Link, Box}
use Rattle.iscsi_outbox_rules.specs.rules.Words.{contains, is_running, is_open}
use Rattle.iscsi_outbox_rules.specs.rules.Queues.{at_link, takes_more, append, enter, without, drop_on, emptied}
use Rattle.iscsi_outbox_rules.specs.rules.Due.{is_due, settle_from, settle}
use Rattle.iscsi_outbox_rules.specs.rules.Own.{own_ticket, own_conn, own_outgoing, put_refusal}
use Rattle.iscsi_outbox_rules.specs.rules.Handing.{Given, Hands, Nothing, IsOver, is_from_queue, taken_from, link_of, given, after_given}
use Rattle.iscsi_outbox_rules.specs.rules.Items.{executing, tickets_left, ticket_enabled, reply_sent, closed_in, newly_closed, phase_enabled, in_phase, leave, enter_tasks, close_one, close_all, close, outgoing, answer, await, send_as, aim, send, after_item}
use Rattle.iscsi_outbox_rules.specs.rules.Run.{Gives, phase_stopped, one_written, link_heard, arrived_by_stat_sn, arrived_by_ping, may_join, link_joined, link_lost, waits_for_clear, cleared, after_call}
use Rattle.iscsi_outbox_rules.specs.promises.Deeds.{given_in, handed_by}
use Rattle.iscsi_outbox_rules.specs.promises.Room.{is_other}
use Rattle.iscsi_outbox_rules.proofs.general.EachLemmas.{EachOf, each-append, each-map, each-filter, each-first_of, each-at_link, each-drop_one}
use Rattle.iscsi_outbox_rules.proofs.general.Chosen.{FromQueue, IsPing, IsNotice, Chosen, chosen_from}
use Rattle.iscsi_outbox_rules.proofs.general.Cuts.{Handing, handed-next}
use Rattle.iscsi_ffi_rules.specs.rules.Needs.{left_to_write}

-- of a part of a list
each-drop_suc : {A : Type 0} (P : A → Type 0) (n : ℕ) (xs : List A) → EachOf P (drop n xs) → EachOf P (drop (suc n) xs)
each-drop_suc P zero [] h = tt
each-drop_suc P zero (x ∷ xs) h = h.1
each-drop_suc P (suc n) [] h = tt
each-drop_suc P (suc n) (x ∷ xs) h = each-drop_suc P n xs h

each-drop : {A : Type 0} (P : A → Type 0) (n : ℕ) (xs : List A) → EachOf P (drop n xs) → EachOf P (drop (n + 1) xs)
each-drop P n xs h = let more : suc n ≡ n + 1 = omega arith in subst (λ k. EachOf P (drop k xs)) more (each-drop_suc P n xs h)

each-drop_push : {A : Type 0} (P : A → Type 0) (n : ℕ) (xs : List A) (x : A) → P x → EachOf P (drop n xs) → EachOf P (drop n (xs ++ x ∷ []))
each-drop_push P zero xs x p h = each-append P xs (x ∷ []) h (p, tt)
each-drop_push P (suc n) [] x p h = nothing n
  where
    nothing : (m : ℕ) → EachOf P (drop m [])
    nothing zero = tt
    nothing (suc m) = tt
each-drop_push P (suc n) (y ∷ xs) x p h = each-drop_push P n xs x p h

pub each-both : {A : Type 0} (P Q R : A → Type 0) (xs : List A) → ((x : A) → P x → Q x → R x) → EachOf P xs → EachOf Q xs → EachOf R xs
each-both P Q R [] f h k = tt
each-both P Q R (x ∷ xs) f h k = (f x h.0 k.0, each-both P Q R xs f h.1 k.1)

-- ---- what holds of them

module _ (Q : Option ℕ → Option ℕ → Type 0) where
  abbrev pub OfOut : Outgoing → Type 0
  OfOut out = Q out.sent out.ticket

  abbrev pub OfHanded : Handed → Type 0
  OfHanded h = OfOut h.out

  abbrev pub OfLink : Link → Type 0
  OfLink l = EachOf OfOut l.queue × EachOf OfHanded (left_to_write l)

  abbrev pub OfAnswer : Answer → Type 0
  OfAnswer a = OfOut a.out

  pub record OfBox (b : Box) : Type 0 where
    pub links : EachOf OfLink b.links
    pub undue : EachOf OfAnswer b.undue

  at_each : (conn : ℕ) (change : Link → Link) (links : List Link) → ((l : Link) → OfLink l → OfLink (change l)) → EachOf OfLink links → EachOf OfLink (at_link conn change links)
  at_each conn change links turns h = each-at_link OfLink OfLink conn change links (λ l is k. turns l k) (λ l isnt k. k) h

  of_append : (out : Outgoing) (l : Link) → OfOut out → OfLink l → OfLink (append out l)
  of_append out l q h = cond_both (takes_more l) (record l { queue = l.queue ++ out ∷ [] }) l OfLink (λ may. (each-append OfOut l.queue (out ∷ []) h.0 (q, tt), h.1)) (λ may. h)

  of_enter : (conn : ℕ) (out : Outgoing) (b : Box) → OfOut out → OfBox b → OfBox (enter conn out b)
  of_enter conn out b q h = record { links = at_each conn (append (record out { time = b.time })) b.links (λ l k. of_append (record out { time = b.time }) l q k) h.links; undue = h.undue }

  of_settle_from : (o : Opening) (before rest : List Answer) (b : Box) → EachOf OfAnswer before → EachOf OfAnswer rest → OfBox b → OfBox (settle_from o before rest b)
  of_settle_from o before [] b x y h = record { links = h.links; undue = x }
  of_settle_from o before (a ∷ rest) b x y h =
      cond_both (is_due o b before a) (settle_from o before rest (enter a.conn a.out b)) (settle_from o (before ++ a ∷ []) rest b) OfBox
      (λ due. of_settle_from o before rest (enter a.conn a.out b) x y.1 (of_enter a.conn a.out b y.0 h))
      (λ undue. of_settle_from o (before ++ a ∷ []) rest b (each-append OfAnswer before (a ∷ []) x (y.0, tt)) y.1 h)

  pub of_settle : (o : Opening) (b : Box) → OfBox b → OfBox (settle o b)
  of_settle o b h = of_settle_from o [] b.undue b tt h.undue h

  of_drop_on : (conn : ℕ) (b : Box) → OfBox b → OfBox (drop_on conn b)
  of_drop_on conn b h = record { links = at_each conn emptied b.links (λ l k. (tt, k.1)) h.links; undue = each-filter OfAnswer (λ (a : Answer). not (a.conn == conn)) b.undue h.undue }

  -- ---- an item

  of_leave : (r : Option Request) (tickets : List ℕ) (b : Box) → OfBox b → OfBox (leave r tickets b)
  of_leave (Some r) tickets b h = record { links = each-map OfLink OfLink (without (contains tickets)) b.links (λ l k. (each-filter OfOut _ l.queue k.0, k.1)) h.links; undue = h.undue }
  of_leave None tickets b h = record { links = h.links; undue = h.undue }

  of_entering : (r : Option Request) (item : List Effect) (b : Box) → OfBox b → OfBox (enter_tasks r item b)
  of_entering (Some r) item b h = record { links = h.links; undue = h.undue }
  of_entering None item b h = h

  of_close_one : (by conn : ℕ) (b : Box) → OfBox b → OfBox (close_one by conn b)
  of_close_one by conn b h =
      cond_both (conn == by) (record b { links = at_link conn (λ l. record l { closed = true }) b.links }) (drop_on conn (record b { links = at_link conn (λ l. record l { closed = true; cut = true }) b.links })) OfBox
      (λ is. record { links = at_each conn (λ l. record l { closed = true }) b.links (λ l k. k) h.links; undue = h.undue })
      (λ isnt. of_drop_on conn (record b { links = at_link conn (λ l. record l { closed = true; cut = true }) b.links }) (record { links = at_each conn (λ l. record l { closed = true; cut = true }) b.links (λ l k. k) h.links; undue = h.undue }))

  of_close_all : (by : ℕ) (conns : List ℕ) (b : Box) → OfBox b → OfBox (close_all by conns b)
  of_close_all by [] b h = h
  of_close_all by (conn ∷ conns) b h = of_close_all by conns (close_one by conn b) (of_close_one by conn b h)

  of_close : (r : Option Request) (conns : List ℕ) (b : Box) → OfBox b → OfBox (close r conns b)
  of_close (Some r) conns b h = of_close_all (connection_of r) conns b h
  of_close None conns b h = h

  of_await : (a : Answer) (b : Box) → OfAnswer a → OfBox b → OfBox (await a b)
  of_await a b q h =
      cond_both (list_any (λ (l : Link). l.conn == a.conn && takes_more l) b.links) (record b { undue = b.undue ++ a ∷ [] }) b OfBox
      (λ may. record { links = h.links; undue = each-append OfAnswer b.undue (a ∷ []) h.undue (q, tt) }) (λ may. h)

  -- the reply that an item sends
  abbrev pub Sending : Option Request → List ℕ → ℕ → Option (ℕ × Reply) → Type 0
  Sending r tickets sent None = Unit {0}
  Sending r tickets sent (Some s) = Q (Some sent) (elim r [ Some request ↦ None | None ↦ first_of tickets ])

  of_send : (o : Opening) (r : Option Request) (tickets conns closes : List ℕ) (x : Option (ℕ × Reply)) (b : Box) → Sending r tickets b.sent x → OfBox b → OfBox (send o r tickets conns closes x b)
  of_send o r tickets conns closes None b q h = h
  of_send o None tickets conns closes (Some s) b q h =
      let k : OfBox (enter s.0 (outgoing b None tickets s.1) b) = of_enter s.0 (outgoing b None tickets s.1) b q h in record { links = k.links; undue = k.undue }
  of_send o (Some r) tickets conns closes (Some s) b q h = by_aim (aim o (Some r) s.1)
    where
      out : Outgoing
      out = outgoing b (Some r) tickets s.1

      by_aim : (about : Option Aim) → OfBox (let b' = send_as o (Some r) about conns closes s.0 (outgoing b (Some r) tickets s.1) b in record b' { sent = b'.sent + 1 })
      by_aim None = let k : OfBox (enter s.0 (outgoing b (Some r) tickets s.1) b) = of_enter s.0 (outgoing b (Some r) tickets s.1) b q h in record { links = k.links; undue = k.undue }
      by_aim (Some about) =
          let a : Answer = answer o b r conns closes s.0 (outgoing b (Some r) tickets s.1) about in
          let k : OfBox (await a b) = of_await a b q h in record { links = k.links; undue = k.undue }

  pub of_item : (o : Opening) (b : Box) (item : List Effect)
      → let before = close (executing item) (newly_closed b (closed_in b item)) (enter_tasks (executing item) item (leave (executing item) (tickets_left item) b)) in
      Sending (executing item) (tickets_left item) before.sent (first_of (filter_map reply_sent item)) → OfBox b → OfBox (after_item o b item)
  of_item o b item q h =
      let r = executing item in
      let tickets = tickets_left item in
      let conns = closed_in b item in
      let closes = newly_closed b conns in
      let x : Option (ℕ × Reply) = first_of (filter_map reply_sent item) in
      let before : Box = close r closes (enter_tasks r item (leave r tickets b)) in
      let sent : OfBox (send o r tickets conns closes x before) = of_send o r tickets conns closes x before q (of_close r closes _ (of_entering r item _ (of_leave r tickets b h))) in
      of_settle o (in_phase phase_enabled (filter_map ticket_enabled item) (send o r tickets conns closes x before)) (record { links = sent.links; undue = sent.undue })

  -- ---- any other call

  of_written : (l : Link) → OfLink l → OfLink (one_written l)
  of_written l h =
      cond_both (nat_lt l.written (length l.handed)) (record l { written = l.written + 1 }) l OfLink
      (λ may. (h.0, elim l.lost as (λ v. EachOf OfHanded (cond v [] (drop l.written l.handed)) → EachOf OfHanded (cond v [] (drop (l.written + 1) l.handed))) [ true ↦ λ k. tt | false ↦ λ k. each-drop OfHanded l.written l.handed k ] h.1))
      (λ may. h)

  of_heard : (exp_stat_sn tag : ℕ) (l : Link) → OfLink l → OfLink (link_heard exp_stat_sn tag l)
  of_heard exp_stat_sn tag l h = cond_both (is_open l) (record l { arrived = max l.arrived (max (arrived_by_stat_sn l exp_stat_sn) (arrived_by_ping l tag)) }) l OfLink (λ may. h) (λ may. h)

  of_cleared : (unit : ℕ) (as' : List Answer) → EachOf OfAnswer as' → EachOf OfAnswer (cleared unit as')
  of_cleared unit [] h = tt
  of_cleared unit (a ∷ as') h =
      cond_both (waits_for_clear unit a) (record a { uncleared = false } ∷ as') (a ∷ cleared unit as') (λ (xs : List Answer). EachOf OfAnswer xs) (λ is. h) (λ is. (h.0, of_cleared unit as' h.1))

  of_given : (o : Opening) (b : Box) (l : Link) (h : Handed) → OfOut h.out → OfBox b → OfBox (after_given o b l h)
  of_given o b l h q k = record {
    links =
        at_each l.conn (λ m. record m { handed = m.handed ++ h ∷ [] }) (at_link l.conn (taken_from h.out) b.links)
        (λ m x. (x.0, elim m.lost as (λ v. EachOf OfHanded (cond v [] (drop m.written m.handed)) → EachOf OfHanded (cond v [] (drop m.written (m.handed ++ h ∷ [])))) [ true ↦ λ y. tt | false ↦ λ y. each-drop_push OfHanded m.written m.handed h q y ] x.1))
        (at_each l.conn (taken_from h.out) b.links
        (λ m x. cond_both (is_from_queue h.out) (record m { queue = drop 1 m.queue }) m OfLink (λ may. (each-drop_one OfOut m.queue x.0, x.1)) (λ may. x)) k.links);
    undue = k.undue;
  }

  of_chosen : (o : Opening) (b : Box) (l : Link) (out : Outgoing) → Q None None → Chosen o b l out → OfLink l → OfOut out
  of_chosen o b l out none c h =
      ⊎_elim
      (λ (q : FromQueue o b l out). (subst (EachOf OfOut) q.queue_is h.0).0)
      (λ rest. ⊎_elim (λ (p : IsPing o b l out). subst OfOut (sym p.is) none) (λ (n : IsNotice o b l out). subst OfOut (sym n.is) none) rest) c.source

  of_next : (o : Opening) (b : Box) (conn : ℕ) → Q None None → OfBox b → OfBox (after_call o b (Nexts conn))
  of_next o b conn none h = by_link (link_of b conn) refl
    where
      by_given : (l : Link) → link_of b conn ≡ Some l → (g : Given) → given o b conn ≡ g → OfBox (elim g [ Hands k ↦ after_given o b l k | Nothing ↦ b | IsOver ↦ b ])
      by_given l found Nothing is = h
      by_given l found IsOver is = h
      by_given l found (Hands k) is =
          let n : Handing o b conn k = (handed-next o b (Nexts conn) conn k (ap (λ x. handed_by (Nexts conn) (given_in (Gives x))) is)).1 in
          let q : OfOut n.out = of_chosen o b n.link n.out none (chosen_from o b n.link n.out n.chosen_is) (each-first_of OfLink (λ (m : Link). m.conn == conn) b.links n.link n.found h.links) in
          of_given o b l k (subst OfHanded (sym n.is) q) h

      by_link : (x : Option Link) → link_of b conn ≡ x → OfBox (elim x [ Some l ↦ elim (given o b conn) [ Hands k ↦ after_given o b l k | Nothing ↦ b | IsOver ↦ b ] | None ↦ b ])
      by_link None found = h
      by_link (Some l) found = by_given l found (given o b conn) refl

  of_put : (o : Opening) (b : Box) (p : OwnPdu) → (put_refusal o b p ≡ None → Q None (own_ticket p)) → OfBox b → OfBox (after_call o b (Puts p))
  of_put o b p q h = by_refusal (put_refusal o b p) refl
    where
      by_conn : Q None (own_ticket p) → (x : Option ℕ) → OfBox (elim x [ Some conn ↦ enter conn (own_outgoing p) b | None ↦ b ])
      by_conn own None = h
      by_conn own (Some conn) = of_enter conn (own_outgoing p) b own h

      by_refusal : (x : Option PutRefusal) → put_refusal o b p ≡ x → OfBox (elim x [ Some refusal ↦ b | None ↦ elim (own_conn b p) [ Some conn ↦ enter conn (own_outgoing p) b | None ↦ b ] ])
      by_refusal (Some refusal) is = h
      by_refusal None is = by_conn (q is) (own_conn b p)

  -- what a PDU of the target's own has to be, if it is taken
  abbrev pub Putting : Opening → Box → Call → Type 0
  Putting o b (Puts p) = put_refusal o b p ≡ None → Q None (own_ticket p)
  Putting o b _ = Unit {0}

  pub of_other : (o : Opening) (b : Box) (c : Call) → is_other c ≡ true → Q None None → Putting o b c → OfBox b → OfBox (after_call o b c)
  of_other o b (Takes effects numbers) other none put h = absurd (false≢true other)
  of_other o b (Puts p) other none put h = of_put o b p put h
  of_other o b (Stops ticket) other none put h =
      cond_both (is_running b ticket) (settle o (in_phase phase_stopped (ticket ∷ []) b)) b OfBox (λ is. of_settle o (in_phase phase_stopped (ticket ∷ []) b) (record { links = h.links; undue = h.undue })) (λ is. h)
  of_other o b (Nexts conn) other none put h = of_next o b conn none h
  of_other o b (Writes conn) other none put h = of_settle o (record b { links = at_link conn one_written b.links }) (record { links = at_each conn one_written b.links of_written h.links; undue = h.undue })
  of_other o b (Hears conn exp_stat_sn tag) other none put h =
      of_settle o (record b { links = at_link conn (link_heard exp_stat_sn tag) b.links }) (record { links = at_each conn (link_heard exp_stat_sn tag) b.links (of_heard exp_stat_sn tag) h.links; undue = h.undue })
  of_other o b (Joins conn stat_sn) other none put h =
      cond_both (may_join b conn) (record b { links = at_link conn (link_joined stat_sn) b.links }) b OfBox (λ may. record { links = at_each conn (link_joined stat_sn) b.links (λ l k. k) h.links; undue = h.undue }) (λ may. h)
  of_other o b (Loses conn) other none put h =
      let lost : Box = record b { links = at_link conn link_lost b.links; reached = 0 } in
      of_settle o (drop_on conn lost) (of_drop_on conn lost (record { links = at_each conn link_lost b.links (λ l k. (k.0, tt)) h.links; undue = h.undue }))
  of_other o b (Clears unit) other none put h = of_settle o (record b { undue = cleared unit b.undue }) (record { links = h.links; undue = of_cleared unit b.undue h.undue })

-- two facts that come to a third
pub of_both : (P Q R : Option ℕ → Option ℕ → Type 0) → ((sent ticket : Option ℕ) → P sent ticket → Q sent ticket → R sent ticket) → (b : Box) → OfBox P b → OfBox Q b → OfBox R b
of_both P Q R f b h k = record {
  links = each-both (OfLink P) (OfLink Q) (OfLink R) b.links
      (λ l x y. (
        each-both (OfOut P) (OfOut Q) (OfOut R) l.queue (λ out p q. f out.sent out.ticket p q) x.0 y.0,
        each-both (OfHanded P) (OfHanded Q) (OfHanded R) (left_to_write l) (λ g p q. f g.out.sent g.out.ticket p q) x.1 y.1,
      )) h.links k.links;
  undue = each-both (OfAnswer P) (OfAnswer Q) (OfAnswer R) b.undue (λ a p q. f a.out.sent a.out.ticket p q) h.undue k.undue;
}
