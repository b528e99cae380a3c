-- What a call does to MaxCmdSN, the session's and the shown one.
use Rattle.std.proofs.Common.{◌≡◌, ℕ, ⊎_elim, ◌+◌, ◌≤◌, List, [], ◌∷◌, ◌++◌, max, Option, Some, None, refl, ap, sym, subst, ◌∙◌, arith}
use Rattle.std.proofs.lemmas.Bool.{cond_both}
use Rattle.iscsi_wire.specs.Serial.{lift}
use Rattle.iscsi_rules.specs.declared.effect.Effect.{Effect}
use Rattle.iscsi_rules.specs.promises.Order.{in_parts}
use Rattle.iscsi_outbox_rules.specs.rules.Calls.{Opening, Call, Takes, Puts, Stops, Nexts, Writes, Hears, Joins, Loses, Clears}
use Rattle.iscsi_outbox_rules.specs.rules.Boxes.{Aim, Answer, Link, Box}
use Rattle.iscsi_outbox_rules.specs.rules.Words.{is_running, max_shown}
use Rattle.iscsi_outbox_rules.specs.rules.Queues.{at_link, takes_more, enter, drop_on}
use Rattle.iscsi_outbox_rules.specs.rules.Due.{settle}
use Rattle.iscsi_outbox_rules.specs.rules.Items.{executing, tickets_left, reply_sent, in_phase, send_as, aim, send, answer, outgoing}
use Rattle.iscsi_outbox_rules.specs.rules.Own.{own_conn, own_outgoing, put_refusal}
use Rattle.iscsi_outbox_rules.specs.rules.Handing.{without_chosen}
use Rattle.iscsi_outbox_rules.specs.rules.Run.{after_call, phase_stopped, one_written, link_heard, may_join, link_joined, link_lost, cleared}
use Rattle.iscsi_rules.specs.rules.Trace.{first_of}
use Rattle.std.specs.List.{list_any}
use Rattle.std.proofs.Common.{filter_map, ◌&&◌, ◌==◌}
use Rattle.iscsi_wire.specs.declared.reply.Reply.{Reply}
use Rattle.iscsi_wire.specs.declared.request.Request.{Request}
use Rattle.iscsi_outbox_rules.proofs.general.Walks.{Walk, items_keep, settles}
use Rattle.iscsi_outbox_rules.proofs.general.Cuts.{Hand, Idle, next}

-- both MaxCmdSNs are these
abbrev pub Tells : ℕ → ℕ → List (List Effect) → Box → Type 0
Tells shown max items b = (b.shown ≡ shown) × (b.max ≡ max)

told_send : (o : Opening) (shown max : ℕ) (b : Box) (r : Option Request) (tickets conns closes : List ℕ) (x : Option (ℕ × Reply)) → Tells shown max [] b → Tells shown max [] (send o r tickets conns closes x b)
told_send o shown max b r tickets conns closes None h = h
told_send o shown max b None tickets conns closes (Some s) h = h
told_send o shown max b (Some r) tickets conns closes (Some s) h = by_aim (aim o (Some r) s.1)
  where
    by_aim : (about : Option Aim) → Tells shown max [] (let b' = send_as o (Some r) about conns closes s.0 (outgoing b (Some r) tickets s.1) b in record b' { sent = b'.sent + 1 })
    by_aim None = h
    by_aim (Some about) =
        let a : Answer = answer o b r conns closes s.0 (outgoing b (Some r) tickets s.1) about in
        cond_both (list_any (λ (l : Link). (l.conn == a.conn) && takes_more l) b.links) (record b { undue = b.undue ++ a ∷ [] }) b (λ (b' : Box). Tells shown max [] (record b' { sent = b'.sent + 1 })) (λ may. h) (λ may. h)

told_walk : (o : Opening) (shown max : ℕ) → Walk o (Tells shown max)
told_walk o shown max = record {
  tasks = λ items b ts h. h;
  drops = λ items b these h. h;
  closes = λ items b conn h. h;
  cuts = λ items b conn h. h;
  drops_on = λ items b conn over h. h;
  moves = λ items b before rest a due h. h;
  sends = λ items b item conns closes h. told_send o shown max b (executing item) (tickets_left item) conns closes (first_of (filter_map reply_sent item)) h;
}

told_settle : (o : Opening) (shown max : ℕ) (b : Box) → Tells shown max [] b → Tells shown max [] (settle o b)
told_settle o shown max b h = settles o (Tells shown max) (told_walk o shown max) [] b h

-- the session's MaxCmdSN after a call
abbrev pub max_by : ℕ → Call → ℕ
max_by m (Takes effects numbers) = lift m numbers.max
max_by m _ = m

pub record Rise (b b' : Box) (c : Call) : Type 0 where
  pub low : b.shown ≤ b'.shown
  pub high : (m : ℕ) → b.shown ≤ m → b.max ≤ m → b'.shown ≤ m
  pub max_is : b'.max ≡ max_by b.max c

-- it shows no less than before, and no more than the session's
pub shown_low : (o : Opening) (b : Box) → b.shown ≤ max_shown o b
shown_low o b = omega arith

pub shown_high : (o : Opening) (b : Box) (m : ℕ) → b.shown ≤ m → b.max ≤ m → max_shown o b ≤ m
shown_high o b m h k = omega (arith, h, k)

pub shown_near : (o : Opening) (b : Box) → b.max ≤ max_shown o b + o.session.window
shown_near o b = omega arith

rise_same : (b b' : Box) (c : Call) → Tells b.shown b.max [] b' → max_by b.max c ≡ b.max → Rise b b' c
rise_same b b' c h same = record { low = omega (arith, h.0); high = λ m k j. omega (arith, h.0, k); max_is = h.1 ∙ sym same }

pub rises : (o : Opening) (b : Box) (c : Call) → Rise b (after_call o b c) c
rises o b (Takes effects numbers) =
    let h = items_keep o (Tells b.shown b.max) (told_walk o b.shown b.max) [] b (in_parts effects) (refl, refl) in
    record { low = omega (arith, h.0); high = λ m k j. omega (arith, h.0, k); max_is = ap (λ m. lift m numbers.max) h.1 }
rises o b (Puts p) = rise_same b (after_call o b (Puts p)) (Puts p) put refl
  where
    put : Tells b.shown b.max [] (after_call o b (Puts p))
    put =
        elim (put_refusal o b p) as (λ x. Tells b.shown b.max [] (elim x [ Some refusal ↦ b | None ↦ elim (own_conn b p) [ Some conn ↦ enter conn (own_outgoing p) b | None ↦ b ] ])) [
          | Some refusal ↦ (refl, refl)
          | None ↦ elim (own_conn b p) as (λ x. Tells b.shown b.max [] (elim x [ Some conn ↦ enter conn (own_outgoing p) b | None ↦ b ])) [ Some conn ↦ (refl, refl) | None ↦ (refl, refl) ]
        ]
rises o b (Stops ticket) =
    rise_same b (after_call o b (Stops ticket)) (Stops ticket)
    (cond_both (is_running b ticket) (settle o (in_phase phase_stopped (ticket ∷ []) b)) b (Tells b.shown b.max []) (λ is. told_settle o b.shown b.max (in_phase phase_stopped (ticket ∷ []) b) (refl, refl)) (λ is. (refl, refl))) refl
rises o b (Nexts conn) =
    ⊎_elim
    (λ (k : Hand o b conn).
    let b' : Box = without_chosen b k.handing.link k.handed.out in
    let shown : (after_call o b (Nexts conn)).shown ≡ max_shown o b' = ap (λ (x : Box). x.shown) k.after_is in
    record {
      low = omega (arith, shown, shown_low o b');
      high = λ m h j. subst (λ n. n ≤ m) (sym shown) (shown_high o b' m h j);
      max_is = ap (λ (x : Box). x.max) k.after_is;
    })
    (λ (k : Idle o b conn). rise_same b (after_call o b (Nexts conn)) (Nexts conn) (ap (λ (x : Box). x.shown) k.after_is, ap (λ (x : Box). x.max) k.after_is) refl)
    (next o b conn)
rises o b (Writes conn) = rise_same b (after_call o b (Writes conn)) (Writes conn) (told_settle o b.shown b.max (record b { links = at_link conn one_written b.links }) (refl, refl)) refl
rises o b (Hears conn exp_stat_sn tag) =
    rise_same b (after_call o b (Hears conn exp_stat_sn tag)) (Hears conn exp_stat_sn tag) (told_settle o b.shown b.max (record b { links = at_link conn (link_heard exp_stat_sn tag) b.links }) (refl, refl)) refl
rises o b (Joins conn stat_sn) =
    rise_same b (after_call o b (Joins conn stat_sn)) (Joins conn stat_sn)
    (cond_both (may_join b conn) (record b { links = at_link conn (link_joined stat_sn) b.links }) b (Tells b.shown b.max []) (λ is. (refl, refl)) (λ is. (refl, refl))) refl
rises o b (Loses conn) = rise_same b (after_call o b (Loses conn)) (Loses conn) (told_settle o b.shown b.max (drop_on conn (record b { links = at_link conn link_lost b.links; reached = 0 })) (refl, refl)) refl
rises o b (Clears unit) = rise_same b (after_call o b (Clears unit)) (Clears unit) (told_settle o b.shown b.max (record b { undue = cleared unit b.undue }) (refl, refl)) refl
