-- An item as a whole.
use Rattle.std.proofs.Common.{◌≡◌, ℕ, ◌+◌, ◌-◌, ◌<◌, ◌≤◌, ◌==◌, ◌^◌, true, List, [], filter_map, Option, Some, None, refl, ap, sym, subst, ◌∙◌, arith}
use Rattle.std.specs.List.{list_any}
use Rattle.std.proofs.lemmas.Bool.{false≢true}
use Rattle.iscsi_wire.specs.declared.reply.Reply.{Reply}
use Rattle.iscsi_wire.specs.declared.request.Request.{Request}
use Rattle.iscsi_rules.specs.declared.effect.Effect.{Effect}
use Rattle.iscsi_rules.specs.rules.Settings.{are_distinct}
use Rattle.iscsi_rules.specs.rules.Trace.{first_of}
use Rattle.iscsi_outbox_rules.specs.rules.Calls.{Opening}
use Rattle.iscsi_outbox_rules.specs.rules.Boxes.{Phase, Dormant, Fresh, Started, Completed, Running, Gone, Box}
use Rattle.iscsi_outbox_rules.specs.rules.Words.{contains, is_left_phase, replies_waiting}
use Rattle.iscsi_outbox_rules.specs.rules.Items.{after_item as after_item_box, aim as aim_box, close as close_box, closed_in as closed_in_box, enter_tasks, executing, in_phase as tasks_in_phase, leave as leave_box, newly_closed as newly_closed_box, outgoing, phase_enabled, reply_sent, send as send_box, send_as, ticket_enabled, tickets_left}
use Rattle.iscsi_outbox_rules.specs.promises.Room.{Fits, places as places_of, tasks_kept}
use Rattle.iscsi_outbox_steps.specs.State.{State}
use Rattle.iscsi_outbox_steps.specs.Steps.{after_item, close, closed_in, counted, enable, enter_commands, is_numbered, later, leave, newly_closed, placed, send, send_on}
use Rattle.iscsi_outbox_law.specs.private.Pairs.{EachOf}
use Rattle.iscsi_outbox_law.specs.private.Sound.{IsItemSound, IsSound, entries_of}
use Rattle.iscsi_outbox_law.specs.private.Stands.{Stands}
use Rattle.iscsi_outbox_law.proofs.queues.Settling.{all_replies, settle_stands, settle_time}
use Rattle.iscsi_outbox_law.proofs.items.TakesEnabling.{enable_stands}
use Rattle.iscsi_outbox_law.proofs.items.TakesEnters.{place_known}
use Rattle.iscsi_outbox_law.proofs.items.TakesKept.{kept_close, kept_enable, kept_send, kept_settle}
use Rattle.iscsi_outbox_law.proofs.items.TakesLeaves.{IsReady, calm_turned}
use Rattle.iscsi_outbox_law.proofs.items.TakesParts.{closed_ready, closed_stands}
use Rattle.iscsi_outbox_law.proofs.items.TakesReady.{ready_sends}
use Rattle.iscsi_outbox_law.proofs.items.TakesReply.{reply_stands}
use Rattle.iscsi_outbox_law.proofs.items.TakesRoom.{waits_settled}
use Rattle.iscsi_outbox_law.proofs.items.TakesSends.{stands_sent}
use Rattle.iscsi_outbox_law.proofs.items.TakesSent.{time_sent}

enabled_left : (p : Phase) → is_left_phase p ≡ true → is_left_phase (phase_enabled p) ≡ true
enabled_left Dormant k = absurd (false≢true k)
enabled_left Fresh k = k
enabled_left Started k = k
enabled_left Completed k = k
enabled_left Running k = k
enabled_left Gone k = k

ready_sent : (o : Opening) (b : Box) (n : ℕ) → IsReady o b → IsReady o (record b { sent = n })
ready_sent o b n k = record { calm = record { homes = record { ascending = k.calm.homes.ascending; handed = k.calm.homes.handed }; apart = k.calm.apart; own = k.calm.own; scopes = k.calm.scopes }; taken = k.taken }

ready_send : (o : Opening) (r : Option Request) (tickets conns closes : List ℕ) (x : Option (ℕ × Reply)) (b : Box) → IsReady o b → IsReady o (send_box o r tickets conns closes x b)
ready_send o r tickets conns closes None b k = k
ready_send o r tickets conns closes (Some sent) b k =
    ready_sent o (send_as o r (aim_box o r sent.1) conns closes sent.0 (outgoing b r tickets sent.1) b) _ (ready_sends o r (aim_box o r sent.1) tickets conns closes sent.0 sent.1 b k)

time_send : (o : Opening) (r : Option Request) (tickets conns closes : List ℕ) (x : Option (ℕ × Reply)) (b : Box) → b.time ≤ (send_box o r tickets conns closes x b).time
time_send o r tickets conns closes None b = (let z : b.time ≤ b.time = omega arith in z)
time_send o r tickets conns closes (Some sent) b = time_sent o r (aim_box o r sent.1) tickets conns closes sent.0 sent.1 b

module _ (o : Opening) (s : State) (b : Box) (h : Stands o s b) (sound : IsSound o b) (distinct : are_distinct o.session.conns ≡ true) (item : List Effect) (is : IsItemSound o b item)
    (newest : EachOf (λ (e : ℕ × ℕ). s.tracked.last < e.0) (entries_of item)) (fits : Fits o (after_item_box o b item)) (timed : (after_item_box o b item).time < 2 ^ 64 - 1) where
  abbrev conns : List ℕ
  conns = closed_in_box b item

  abbrev closes : List ℕ
  closes = newly_closed_box b (closed_in_box b item)

  abbrev b2 : Box
  b2 = enter_tasks (executing item) item (leave_box (executing item) (tickets_left item) b)

  abbrev b3 : Box
  b3 = close_box (executing item) (newly_closed_box b (closed_in_box b item)) b2

  abbrev s3 : State
  s3 = close (executing item) (newly_closed s (closed_in s item)) (enter_commands (executing item) item (leave (executing item) (tickets_left item) s))

  abbrev b4 : Box
  b4 = send_box o (executing item) (tickets_left item) (closed_in_box b item) (newly_closed_box b (closed_in_box b item)) (first_of (filter_map reply_sent item)) b3

  abbrev b5 : Box
  b5 = tasks_in_phase phase_enabled (filter_map ticket_enabled item) b4

  abbrev s5 : State
  s5 = enable (filter_map ticket_enabled item) (send (executing item) item (is_numbered s (executing item) (tickets_left item)) (newly_closed s (closed_in s item)) (first_of (filter_map reply_sent item)) s3)

  room_kept : tasks_kept o b2 ≤ places_of o
  room_kept =
      let k : tasks_kept o (after_item_box o b item) ≡ tasks_kept o b2 =
      kept_settle o b5 ∙ kept_enable o (filter_map ticket_enabled item) b4 ∙ kept_send o (executing item) (tickets_left item) conns closes (first_of (filter_map reply_sent item)) b3 ∙ kept_close o (executing item) closes b2 in
      let f = fits.tasks in omega (arith, k, f)

  h3 : Stands o s3 b3
  h3 = closed_stands o s b h sound distinct item (tickets_left item) is.left is.entered is.ascending newest (executing item) (λ x e. is.known x e) room_kept

  ready3 : IsReady o b3
  ready3 = closed_ready o s b h sound distinct item (tickets_left item) is.left is.entered is.ascending newest (executing item) (λ x e. is.known x e) room_kept

  ready5 : IsReady o b5
  ready5 = calm_turned phase_enabled o (contains (filter_map ticket_enabled item)) b4 enabled_left (ready_send o (executing item) (tickets_left item) conns closes (first_of (filter_map reply_sent item)) b3 ready3)

  waits_few : replies_waiting b4 ≤ places_of o
  waits_few = let e : replies_waiting b5 ≤ replies_waiting (after_item_box o b item) = waits_settled o b5 ready5.taken in let f = fits.replies in omega (arith, e, f)

  time_few : b3.time < 2 ^ 64 - 1
  time_few =
      let e = settle_time o [] b5.undue b5 in
      let f = time_send o (executing item) (tickets_left item) conns closes (first_of (filter_map reply_sent item)) b3 in
      omega (arith, e, f, timed)

  sent_stands : (x : Option (ℕ × Reply)) → first_of (filter_map reply_sent item) ≡ x → replies_waiting (send_box o (executing item) (tickets_left item) conns closes x b3) ≤ places_of o
      → Stands o (send (executing item) item (is_numbered s (executing item) (tickets_left item)) (newly_closed s (closed_in s item)) x s3) (send_box o (executing item) (tickets_left item) conns closes x b3)
  sent_stands None e few = h3
  sent_stands (Some sent) e few =
      let at = place_known o s3 b3 h3 sent.0 (is.replies sent.0 sent.1 e) in
      let b' = send_as o (executing item) (aim_box o (executing item) sent.1) conns closes sent.0 (outgoing b3 (executing item) (tickets_left item) sent.1) b3 in
      subst (λ (y : Option ℕ). Stands o (counted (elim y as (λ (z : Option ℕ). State) [
        | Some conn ↦ send_on conn (executing item) item (is_numbered s (executing item) (tickets_left item)) (list_any (λ p. p == conn) (newly_closed s (closed_in s item))) (placed sent.1 s3) s3
        | None ↦ record s3 { waits = later s3.waits }
      ])) (record b' { sent = b'.sent + 1 })) (sym at.1)
      (stands_sent o _ b'
      (reply_stands o s b h sound distinct item is s3 b3 h3 ready3 (tickets_left item) is.left (λ x f n. ap (λ r. close_box r closes (enter_tasks r item (leave_box r (tickets_left item) b))) (f ∙ n)) sent.0 sent.1 e time_few few at.0 at.1))

  pub item_stands : Stands o (after_item item s) (after_item_box o b item)
  item_stands =
      let h4 = sent_stands (first_of (filter_map reply_sent item)) refl waits_few in
      let h5 : Stands o s5 b5 =
      enable_stands o (filter_map ticket_enabled item) (send (executing item) item (is_numbered s (executing item) (tickets_left item)) (newly_closed s (closed_in s item)) (first_of (filter_map reply_sent item)) s3) b4 h4
      (ready_send o (executing item) (tickets_left item) conns closes (first_of (filter_map reply_sent item)) b3 ready3).calm.homes.ascending in
      settle_stands o s5 b5 h5 ready5.calm
      (let e = all_replies s5.limits.cids s5.tracked [] s5.lane.items b5.undue h5.answers in let f = waits_few in omega (arith, e, f)) timed
