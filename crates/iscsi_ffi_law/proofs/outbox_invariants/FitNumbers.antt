-- How far the numbers of a box go, in an item and in a call.
use Rattle.std.proofs.Common.{◌≡◌, ℕ, ◌+◌, ◌≤◌, ◌==◌, ◌&&◌, not, Bool, true, false, List, [], ◌∷◌, ◌++◌, filter, filter_map, length, Option, Some, None, refl, ap, sym, subst, ◌∙◌, arith, length-append, ⊎_elim}
use Rattle.std.specs.List.{list_any}
use Rattle.std.proofs.lemmas.Bool.{cond_both}
use Rattle.iscsi_wire.specs.Serial.{lift}
use Rattle.iscsi_wire.specs.declared.reply.Reply.{Reply}
use Rattle.iscsi_wire.specs.declared.request.Request.{Request}
use Rattle.iscsi_wire.specs.Fields.{connection_of}
use Rattle.iscsi_rules.specs.declared.effect.Effect.{Effect}
use Rattle.iscsi_rules.specs.declared.effect.Numbers.{Numbers}
use Rattle.iscsi_rules.specs.promises.Order.{in_parts}
use Rattle.iscsi_rules.specs.rules.Trace.{first_of}
use Rattle.iscsi_outbox_rules.specs.declared.own_pdu.OwnPdu.{OwnPdu}
use Rattle.iscsi_outbox_rules.specs.declared.own_pdu.PutRefusal.{PutRefusal}
use Rattle.iscsi_outbox_rules.specs.rules.Boxes.{Aim, Answer, Box, Link}
use Rattle.iscsi_outbox_rules.specs.rules.Calls.{Call, Clears, Hears, Joins, Loses, Nexts, Opening, Puts, Stops, Takes, Writes}
use Rattle.iscsi_outbox_rules.specs.rules.Due.{is_due, settle, settle_from}
use Rattle.iscsi_outbox_rules.specs.rules.Items.{after_event, after_item, after_items, aim, answer, close, close_all, close_one, closed_in, enter_tasks, executing, in_phase, leave, newly_closed, outgoing, phase_enabled, reply_sent, send, send_as, ticket_enabled, tickets_left}
use Rattle.iscsi_outbox_rules.specs.rules.Own.{own_conn, own_outgoing, put_refusal}
use Rattle.iscsi_outbox_rules.specs.rules.Queues.{at_link, drop_on, enter, takes_more}
use Rattle.iscsi_outbox_rules.specs.rules.Run.{after_call, cleared, link_heard, link_joined, link_lost, may_join, one_written, phase_stopped, waits_for_clear}
use Rattle.iscsi_outbox_rules.specs.rules.Words.{is_running}
use Rattle.iscsi_outbox_rules.proofs.general.Cuts.{Hand, Idle, next}
use Rattle.iscsi_outbox_law.proofs.invariants.SoundCalls.{TakesNone}
use Rattle.iscsi_ffi_law.proofs.outbox_invariants.FitLinks.{before_close, behind_close}

-- what entered the queues, with what is to enter them
abbrev pub spent : Box → ℕ
spent b = b.time + length b.undue

-- an item sends so many replies
abbrev pub one_sent : Option (ℕ × Reply) → ℕ
one_sent (Some sent) = 1
one_sent None = 0

abbrev pub sends : List Effect → ℕ
sends item = one_sent (first_of (filter_map reply_sent item))

abbrev pub all_sends : List (List Effect) → ℕ
all_sends [] = 0
all_sends (item ∷ items) = sends item + all_sends items

pub fewer_left : {A : Type 0} (p : A → Bool) (xs : List A) → length (filter p xs) ≤ length xs
fewer_left p [] = omega arith
fewer_left p (x ∷ xs) =
    let rest = fewer_left p xs in
    cond_both (p x) (x ∷ filter p xs) (filter p xs) (λ ys. length ys ≤ length (x ∷ xs)) (λ is. omega (arith, rest)) (λ is. omega (arith, rest))

-- what a box has come to: what entered and is to enter; how many replies the log has; MaxCmdSN
record Gone (b b' : Box) (more replies : ℕ) : Type 0 where
  pub spent_is : spent b' ≤ spent b + more
  pub sent_is : b'.sent ≡ b.sent + replies
  pub max_is : b'.max ≡ b.max

gone_none : (b : Box) → Gone b b 0 0
gone_none b = record { spent_is = omega arith; sent_is = omega arith; max_is = refl }

gone_then : (a b c : Box) (k l m n : ℕ) → Gone a b k m → Gone b c l n → Gone a c (k + l) (m + n)
gone_then a b c k l m n g h = record {
  spent_is = (let x = g.spent_is in let y = h.spent_is in omega (arith, x, y));
  sent_is = (let x = g.sent_is in let y = h.sent_is in omega (arith, x, y));
  max_is = h.max_is ∙ g.max_is;
}

module _ (o : Opening) where
  -- ---- what is due enters

  settled_from : (before rest : List Answer) (b : Box) → let b' = settle_from o before rest b in (b'.time + length b'.undue ≡ b.time + length before + length rest) × (b'.sent ≡ b.sent) × (b'.max ≡ b.max)
  settled_from before [] b = (omega arith, refl, refl)
  settled_from before (a ∷ rest) b =
      cond_both (is_due o b before a) (settle_from o before rest (enter a.conn a.out b)) (settle_from o (before ++ a ∷ []) rest b)
      (λ (x : Box). (x.time + length x.undue ≡ b.time + length before + length (a ∷ rest)) × (x.sent ≡ b.sent) × (x.max ≡ b.max))
      (λ due. let h = settled_from before rest (enter a.conn a.out b) in let e = h.0 in ((omega (arith, e)), h.1, h.2))
      (λ undue. let h = settled_from (before ++ a ∷ []) rest b in let e = h.0 in ((omega (arith, e, length-append before (a ∷ []))), h.1, h.2))

  gone_settled : (b : Box) → Gone b (settle o b) 0 0
  gone_settled b = let h = settled_from [] b.undue b in record { spent_is = (let e = h.0 in omega (arith, e)); sent_is = (let e = h.1 in omega (arith, e)); max_is = h.2 }

  -- ---- an item

  gone_before : (b : Box) (item : List Effect) → Gone b (before_close b item) 0 0
  gone_before b item = by_request (executing item)
    where
      by_request : (r : Option Request) → Gone b (enter_tasks r item (leave r (tickets_left item) b)) 0 0
      by_request (Some r) = record { spent_is = omega arith; sent_is = omega arith; max_is = refl }
      by_request None = record { spent_is = omega arith; sent_is = omega arith; max_is = refl }

  gone_dropped : (conn : ℕ) (b : Box) → Gone b (drop_on conn b) 0 0
  gone_dropped conn b = record { spent_is = omega (arith, fewer_left (λ (a : Answer). not (a.conn == conn)) b.undue); sent_is = omega arith; max_is = refl }

  gone_one : (by conn : ℕ) (b : Box) → Gone b (close_one by conn b) 0 0
  gone_one by conn b =
      let cut : Box = record b { links = at_link conn (λ l. record l { closed = true; cut = true }) b.links } in
      cond_both (conn == by) (record b { links = at_link conn (λ l. record l { closed = true }) b.links }) (drop_on conn cut) (λ (x : Box). Gone b x 0 0)
      (λ is. record { spent_is = omega arith; sent_is = omega arith; max_is = refl })
      (λ isnt. record { spent_is = omega (arith, fewer_left (λ (a : Answer). not (a.conn == conn)) b.undue); sent_is = omega arith; max_is = refl })

  gone_all : (by : ℕ) (conns : List ℕ) (b : Box) → Gone b (close_all by conns b) 0 0
  gone_all by [] b = gone_none b
  gone_all by (conn ∷ conns) b = gone_then b (close_one by conn b) (close_all by conns (close_one by conn b)) 0 0 0 0 (gone_one by conn b) (gone_all by conns (close_one by conn b))

  gone_closed : (r : Option Request) (conns : List ℕ) (b : Box) → Gone b (close r conns b) 0 0
  gone_closed (Some r) conns b = gone_all (connection_of r) conns b
  gone_closed None conns b = gone_none b

  gone_sent : (r : Option Request) (tickets conns closes : List ℕ) (x : Option (ℕ × Reply)) (b : Box) → Gone b (send o r tickets conns closes x b) (one_sent x) (one_sent x)
  gone_sent r tickets conns closes None b = gone_none b
  gone_sent None tickets conns closes (Some s) b = record { spent_is = omega arith; sent_is = refl; max_is = refl }
  gone_sent (Some r) tickets conns closes (Some s) b = by_aim (aim o (Some r) s.1)
    where
      by_aim : (x : Option Aim) → Gone b (let b' = send_as o (Some r) x conns closes s.0 (outgoing b (Some r) tickets s.1) b in record b' { sent = b'.sent + 1 }) 1 1
      by_aim None = record { spent_is = omega arith; sent_is = refl; max_is = refl }
      by_aim (Some about) =
          let a : Answer = answer o b r conns closes s.0 (outgoing b (Some r) tickets s.1) about in
          cond_both (list_any (λ (l : Link). l.conn == a.conn && takes_more l) b.links) (record b { undue = b.undue ++ a ∷ [] }) b (λ (x : Box). Gone b (record x { sent = x.sent + 1 }) 1 1)
          (λ may. record { spent_is = omega (arith, length-append b.undue (a ∷ [])); sent_is = refl; max_is = refl }) (λ may. record { spent_is = omega arith; sent_is = refl; max_is = refl })

  gone_item : (b : Box) (item : List Effect) → Gone b (after_item o b item) (sends item) (sends item)
  gone_item b item =
      let before : Box = before_close b item in
      let behind : Box = behind_close b item in
      let x = first_of (filter_map reply_sent item) in
      let sent : Box = send o (executing item) (tickets_left item) (closed_in b item) (newly_closed b (closed_in b item)) x behind in
      let enabled : Box = in_phase phase_enabled (filter_map ticket_enabled item) sent in
      let g1 = gone_before b item in
      let g2 = gone_closed (executing item) (newly_closed b (closed_in b item)) before in
      let g3 = gone_sent (executing item) (tickets_left item) (closed_in b item) (newly_closed b (closed_in b item)) x behind in
      let g4 = gone_settled enabled in
      record {
        spent_is = (let a = g1.spent_is in let c = g2.spent_is in let d = g3.spent_is in let e = g4.spent_is in omega (arith, a, c, d, e));
        sent_is = (let a = g1.sent_is in let c = g2.sent_is in let d = g3.sent_is in let e = g4.sent_is in omega (arith, a, c, d, e));
        max_is = g4.max_is ∙ g3.max_is ∙ g2.max_is ∙ g1.max_is;
      }

  pub closed_sent : (b : Box) (item : List Effect) → (behind_close b item).sent ≡ b.sent
  closed_sent b item =
      let g1 = gone_before b item in
      let g2 = gone_closed (executing item) (newly_closed b (closed_in b item)) (before_close b item) in
      let a = g1.sent_is in
      let c = g2.sent_is in
      omega (arith, a, c)

  gone_items : (b : Box) (items : List (List Effect)) → Gone b (after_items o b items) (all_sends items) (all_sends items)
  gone_items b [] = gone_none b
  gone_items b (item ∷ items) = gone_then b (after_item o b item) (after_items o (after_item o b item) items) (sends item) (all_sends items) (sends item) (all_sends items) (gone_item b item) (gone_items (after_item o b item) items)

  pub item_spent : (b : Box) (item : List Effect) → spent (after_item o b item) ≤ spent b + sends item
  item_spent b item = (gone_item b item).spent_is

  pub item_sent : (b : Box) (item : List Effect) → (after_item o b item).sent ≡ b.sent + sends item
  item_sent b item = (gone_item b item).sent_is

  pub event_spent : (b : Box) (effects : List Effect) (numbers : Numbers) → spent (after_event o b effects numbers) ≤ spent b + all_sends (in_parts effects)
  event_spent b effects numbers = (gone_items b (in_parts effects)).spent_is

  pub event_sent : (b : Box) (effects : List Effect) (numbers : Numbers) → (after_event o b effects numbers).sent ≡ b.sent + all_sends (in_parts effects)
  event_sent b effects numbers = (gone_items b (in_parts effects)).sent_is

  pub event_lifts : (b : Box) (effects : List Effect) (numbers : Numbers) → (after_event o b effects numbers).max ≡ lift b.max numbers.max
  event_lifts b effects numbers = ap (λ m. lift m numbers.max) (gone_items b (in_parts effects)).max_is

  -- ---- any other call

  gone_put : (b : Box) (p : OwnPdu) → Gone b (after_call o b (Puts p)) 1 0
  gone_put b p = by_refusal (put_refusal o b p)
    where
      none : Gone b b 1 0
      none = record { spent_is = omega arith; sent_is = omega arith; max_is = refl }

      by_conn : (x : Option ℕ) → Gone b (elim x as (λ y. Box) [ Some conn ↦ enter conn (own_outgoing p) b | None ↦ b ]) 1 0
      by_conn None = none
      by_conn (Some conn) = record { spent_is = omega arith; sent_is = omega arith; max_is = refl }

      by_refusal : (x : Option PutRefusal) → Gone b (elim x as (λ y. Box) [ Some refusal ↦ b | None ↦ elim (own_conn b p) [ Some conn ↦ enter conn (own_outgoing p) b | None ↦ b ] ]) 1 0
      by_refusal (Some refusal) = none
      by_refusal None = by_conn (own_conn b p)

  cleared_many : (unit : ℕ) (answers : List Answer) → length (cleared unit answers) ≡ length answers
  cleared_many unit [] = refl
  cleared_many unit (a ∷ answers) =
      cond_both (waits_for_clear unit a) (record a { uncleared = false } ∷ answers) (a ∷ cleared unit answers) (λ (xs : List Answer). length xs ≡ length (a ∷ answers)) (λ is. refl) (λ is. (let rest = cleared_many unit answers in omega (arith, rest)))

  gone_call : (b : Box) (c : Call) → TakesNone c → Gone b (after_call o b c) 1 0
  gone_call b (Takes effects numbers) none = absurd none
  gone_call b (Puts p) none = gone_put b p
  gone_call b (Stops ticket) none =
      cond_both (is_running b ticket) (settle o (in_phase phase_stopped (ticket ∷ []) b)) b (λ (x : Box). Gone b x 1 0)
      (λ is. let g = gone_settled (in_phase phase_stopped (ticket ∷ []) b) in more b (settle o (in_phase phase_stopped (ticket ∷ []) b)) (record { spent_is = g.spent_is; sent_is = g.sent_is; max_is = g.max_is }))
      (λ is. more b b (gone_none b))
    where
      more : (x y : Box) → Gone x y 0 0 → Gone x y 1 0
      more x y g = record { spent_is = (let e = g.spent_is in omega (arith, e)); sent_is = g.sent_is; max_is = g.max_is }
  gone_call b (Nexts conn) none =
      ⊎_elim (λ (k : Hand o b conn). subst (λ (x : Box). Gone b x 1 0) (sym k.after_is) (record { spent_is = omega arith; sent_is = omega arith; max_is = refl }))
      (λ (k : Idle o b conn). subst (λ (x : Box). Gone b x 1 0) (sym k.after_is) (record { spent_is = omega arith; sent_is = omega arith; max_is = refl })) (next o b conn)
  gone_call b (Writes conn) none =
      let g = gone_settled (record b { links = at_link conn one_written b.links }) in record { spent_is = (let e = g.spent_is in omega (arith, e)); sent_is = g.sent_is; max_is = g.max_is }
  gone_call b (Hears conn exp_stat_sn tag) none =
      let g = gone_settled (record b { links = at_link conn (link_heard exp_stat_sn tag) b.links }) in record { spent_is = (let e = g.spent_is in omega (arith, e)); sent_is = g.sent_is; max_is = g.max_is }
  gone_call b (Joins conn stat_sn) none =
      cond_both (may_join b conn) (record b { links = at_link conn (link_joined stat_sn) b.links }) b (λ (x : Box). Gone b x 1 0)
      (λ is. record { spent_is = omega arith; sent_is = omega arith; max_is = refl }) (λ is. record { spent_is = omega arith; sent_is = omega arith; max_is = refl })
  gone_call b (Loses conn) none =
      let dropped : Box = drop_on conn (record b { links = at_link conn link_lost b.links; reached = 0 }) in
      let g = gone_settled dropped in
      record {
        spent_is = (let e = g.spent_is in let few = fewer_left (λ (a : Answer). not (a.conn == conn)) b.undue in omega (arith, e, few));
        sent_is = g.sent_is;
        max_is = g.max_is;
      }
  gone_call b (Clears unit) none =
      let g = gone_settled (record b { undue = cleared unit b.undue }) in
      record { spent_is = (let e = g.spent_is in let many = cleared_many unit b.undue in omega (arith, e, many)); sent_is = g.sent_is; max_is = g.max_is }

  pub call_spent : (b : Box) (c : Call) → TakesNone c → spent (after_call o b c) ≤ spent b + 1
  call_spent b c none = (gone_call b c none).spent_is

  pub call_sent : (b : Box) (c : Call) → TakesNone c → (after_call o b c).sent ≡ b.sent
  call_sent b c none = let e = (gone_call b c none).sent_is in omega (arith, e)

  pub call_max : (b : Box) (c : Call) → TakesNone c → (after_call o b c).max ≡ b.max
  call_max b c none = (gone_call b c none).max_is
