-- An event: where each of its items goes in the steps as in the rules, the whole event does.
use Rattle.std.proofs.Common.{◌≡◌, ◌<◌, ◌≤◌, ◌-◌, ◌^◌, ◌==◌, ◌&&◌, ℕ, true, List, [], ◌∷◌, ◌++◌, length, filter_map, Option, Some, None, refl, ◌∙◌, arith}
use Rattle.std.specs.List.{list_any}
use Rattle.std.proofs.lemmas.Bool.{cond_both}
use Rattle.iscsi_wire.specs.declared.reply.Reply.{Reply}
use Rattle.iscsi_wire.specs.declared.request.Request.{Request}
use Rattle.iscsi_wire.specs.Fields.{connection_of}
use Rattle.iscsi_rules.specs.declared.effect.Effect.{Effect}
use Rattle.iscsi_rules.specs.declared.effect.Numbers.{Numbers}
use Rattle.iscsi_rules.specs.promises.Order.{in_parts}
use Rattle.iscsi_rules.specs.rules.Trace.{first_of}
use Rattle.iscsi_outbox_rules.specs.promises.Room.{FitItems, Fits}
use Rattle.iscsi_outbox_rules.specs.rules.Calls.{Opening, Takes}
use Rattle.iscsi_outbox_rules.specs.rules.Boxes.{Aim, Answer, Link, Box}
use Rattle.iscsi_outbox_rules.specs.rules.Queues.{at_link, drop_on, takes_more}
use Rattle.iscsi_outbox_rules.specs.rules.Items.{after_item as box_after_item, after_items as box_after_items, aim, answer, close, close_all, close_one, closed_in, enter_tasks, executing, in_phase, leave, newly_closed, outgoing, phase_enabled, reply_sent, send, send_as, ticket_enabled, tickets_left}
use Rattle.iscsi_outbox_steps.specs.State.{State}
use Rattle.iscsi_outbox_steps.specs.Steps.{after_item, after_items}
use Rattle.iscsi_outbox_law.specs.private.Sound.{IsItemSound, IsSound}
use Rattle.iscsi_outbox_law.specs.private.Stands.{Stands}
use Rattle.iscsi_outbox_law.proofs.queues.Settling.{settle_time}
use Rattle.iscsi_outbox_law.proofs.invariants.SoundRuns.{SoundItems}
use Rattle.iscsi_outbox_law.proofs.commands.TurningCount.{item_last}
use Rattle.iscsi_outbox_law.proofs.commands.TurningEach.{event_stands}
use Rattle.iscsi_outbox_law.proofs.commands.TurningFresh.{event_fresh}
use Rattle.iscsi_outbox_law.proofs.commands.TurningLast.{last_of}
use Rattle.iscsi_outbox_law.proofs.calls.CallsGo.{Finds, StandsAfter}

-- ---- time goes on

leave_time : (r : Option Request) (tickets : List ℕ) (b : Box) → (leave r tickets b).time ≡ b.time
leave_time (Some r) tickets b = refl
leave_time None tickets b = refl

enter_time : (r : Option Request) (item : List Effect) (b : Box) → (enter_tasks r item b).time ≡ b.time
enter_time (Some r) item b = refl
enter_time None item b = refl

one_time : (by conn : ℕ) (b : Box) → (close_one by conn b).time ≡ b.time
one_time by conn b =
    cond_both (conn == by) (record b { links = at_link conn (λ l. record l { closed = true }) b.links }) (drop_on conn (record b { links = at_link conn (λ l. record l { closed = true; cut = true }) b.links })) (λ (x : Box). x.time ≡ b.time)
    (λ is. refl) (λ isnt. refl)

all_time : (by : ℕ) (conns : List ℕ) (b : Box) → (close_all by conns b).time ≡ b.time
all_time by [] b = refl
all_time by (conn ∷ conns) b = all_time by conns (close_one by conn b) ∙ one_time by conn b

close_time : (r : Option Request) (conns : List ℕ) (b : Box) → (close r conns b).time ≡ b.time
close_time (Some r) conns b = all_time (connection_of r) conns b
close_time None conns b = refl

module _ (o : Opening) where
  send_time : (r : Option Request) (tickets conns closes : List ℕ) (x : Option (ℕ × Reply)) (b : Box) → b.time ≤ (send o r tickets conns closes x b).time
  send_time r tickets conns closes None b = omega arith
  send_time None tickets conns closes (Some s) b = omega arith
  send_time (Some r) tickets conns closes (Some s) b = by_aim (aim o (Some r) s.1)
    where
      by_aim : (x : Option Aim) → b.time ≤ (send_as o (Some r) x conns closes s.0 (outgoing b (Some r) tickets s.1) b).time
      by_aim None = omega arith
      by_aim (Some about) =
          let a : Answer = answer o b r conns closes s.0 (outgoing b (Some r) tickets s.1) about in
          cond_both (list_any (λ (l : Link). l.conn == a.conn && takes_more l) b.links) (record b { undue = b.undue ++ a ∷ [] }) b (λ (y : Box). b.time ≤ y.time) (λ may. omega arith) (λ none. omega arith)

  item_time : (b : Box) (item : List Effect) → b.time ≤ (box_after_item o b item).time
  item_time b item =
      let r : Option Request = executing item in
      let closes : List ℕ = newly_closed b (closed_in b item) in
      let left : Box = leave r (tickets_left item) b in
      let entered : Box = enter_tasks r item left in
      let closed : Box = close r closes entered in
      let sent : Box = send o r (tickets_left item) (closed_in b item) closes (first_of (filter_map reply_sent item)) closed in
      let enabled : Box = in_phase phase_enabled (filter_map ticket_enabled item) sent in
      let e = leave_time r (tickets_left item) b in
      let f = enter_time r item left in
      let g = close_time r closes entered in
      let h = send_time r (tickets_left item) (closed_in b item) closes (first_of (filter_map reply_sent item)) closed in
      let k : enabled.time ≤ (box_after_item o b item).time = settle_time o [] enabled.undue enabled in
      omega (arith, e, f, g, h, k)

  items_time : (items : List (List Effect)) (b : Box) → b.time ≤ (box_after_items o b items).time
  items_time [] b = omega arith
  items_time (item ∷ items) b = (let e = item_time b item in let f = items_time items (box_after_item o b item) in omega (arith, e, f))

  -- ---- items

  -- what an item finds, and has behind it
  pub record FindsItem (s : State) (b : Box) (item : List Effect) : Type 0 where
    pub stands : Stands o s b
    pub sound : IsSound o b
    pub item_sound : IsItemSound o b item
    pub last : last_of s ≤ length b.tasks
    pub fits : Fits o (box_after_item o b item)
    pub time : (box_after_item o b item).time < 2 ^ 64 - 1

  module _ (goes : (s : State) (b : Box) (item : List Effect) → FindsItem s b item → Stands o (after_item item s) (box_after_item o b item)) where
    items_go : (items : List (List Effect)) (s : State) (b : Box) → Stands o s b → SoundItems o b items → last_of s ≤ length b.tasks → FitItems o b items → (box_after_items o b items).time < 2 ^ 64 - 1 → Stands o (after_items items s) (box_after_items o b items)
    items_go [] s b h sound last fits timed = h
    items_go (item ∷ items) s b h sound last fits timed =
        let fit : IsItemSound o b item = sound.1.0 in
        let later = items_time items (box_after_item o b item) in
        items_go items (after_item item s) (box_after_item o b item)
        (goes s b item (record { stands = h; sound = sound.0; item_sound = fit; last = last; fits = fits.0; time = omega (arith, later, timed) }))
        sound.1.1 (item_last o s b item last fit.next) fits.1 timed

    pub event_goes : (s : State) (b : Box) (effects : List Effect) (n : Numbers) → Finds o s b (Takes effects n) → StandsAfter o s b (Takes effects n)
    event_goes s b effects n k =
        event_stands o s b effects n (items_go (in_parts effects) s b k.stands k.call k.last k.room k.short.time) (event_fresh o b effects k.stale) k.short.max
