-- The event in which a request arrives that is taken: each of its items is fit, and there are places for what goes out by it.
use Rattle.std.proofs.Common.{◌≡◌, ℕ, ◌+◌, ◌^◌, ◌≤◌, ◌<◌, cond, nat_lt, Bool, true, false, List, [], ◌∷◌, filter_map, length, None, refl, ap, subst, arith, inl}
use Rattle.std.proofs.lemmas.Bool.{and_parts, ltb-true}
use Rattle.iscsi_wire.specs.Fields.{request_of}
use Rattle.iscsi_rules.specs.declared.effect.Effect.{Effect}
use Rattle.iscsi_rules.specs.declared.event.Event.{Event}
use Rattle.iscsi_rules.specs.declared.event.Event.TheVariants.{Arrive}
use Rattle.iscsi_rules.specs.promises.Order.{in_parts}
use Rattle.iscsi_rules.specs.rules.Agenda.{arrival_of, items_of}
use Rattle.iscsi_rules.specs.rules.Run.{effects_of}
use Rattle.iscsi_rules.specs.rules.Execution.{exp_of}
use Rattle.iscsi_rules.specs.rules.Trace.{Arrival, Command, is_closed, live, waiting, was_free}
use Rattle.iscsi_rules.proofs.promises.CloseRuns.{event_sound}
use Rattle.iscsi_rules.proofs.general.ElementLemmas.{In}
use Rattle.iscsi_rules.proofs.items.FormRuns.{event_going as event_forms}
use Rattle.iscsi_outbox_rules.specs.rules.Boxes.{Box}
use Rattle.iscsi_outbox_rules.specs.rules.Calls as outbox
use Rattle.iscsi_outbox_rules.specs.promises.Room.{places}
use Rattle.iscsi_outbox_rules.specs.rules.Items.{after_item, ticket_enabled}
use Rattle.iscsi_outbox_rules.specs.rules.Words.{contains, owing, replies_waiting, room}
use Rattle.iscsi_outbox_rules.proofs.closes.ClosedParts.{Parts, effects_each, event_parts}
use Rattle.iscsi_outbox_rules.proofs.room.RoomSends.{Formed, event_going}
use Rattle.iscsi_outbox_law.specs.private.Pairs.{EachOf}
use Rattle.iscsi_outbox_law.specs.private.Sound.{IsSound, NoneIsFresh}
use Rattle.iscsi_outbox_law.proofs.invariants.SoundRuns.{SoundItems}
use Rattle.iscsi_ffi_rules.specs.rules.Calls.{Interface}
use Rattle.iscsi_ffi_rules.specs.rules.Run.{heard_in, refusal_of, tag_heard, word_at}
use Rattle.iscsi_ffi_rules.specs.rules.Sides.{Side}
use Rattle.iscsi_ffi_law.specs.Arrived.{AreLeavingFit, AreStepsFit, arrived, effects_then, items_then}
use Rattle.iscsi_ffi_law.specs.Sides.{AreBytes, AreItemsFit, IsOpening}
use Rattle.iscsi_ffi_law.proofs.session_invariants.FitArrivals.{event_items}
use Rattle.iscsi_ffi_law.proofs.session_invariants.FitCounts.{event_enables, items_short}
use Rattle.iscsi_ffi_law.proofs.premises.FitFacts.{limits}
use Rattle.iscsi_ffi_law.proofs.side_invariants.FitHolds.{Holds, arrival_read, arrival_room, holds_heard, joined_there}
use Rattle.iscsi_ffi_law.proofs.premises.FitItems.{Q, steps_fit}
use Rattle.iscsi_ffi_law.proofs.session_invariants.FitJoined.{has_joined, joined_other}
use Rattle.iscsi_ffi_law.proofs.session_invariants.FitLeaving.{arrival_fit, mid_begun}
use Rattle.iscsi_ffi_law.proofs.session_invariants.FitLimits.{few_reached, stands_reached, trace_reached}
use Rattle.iscsi_ffi_law.proofs.outbox_invariants.FitNumbers.{all_sends}
use Rattle.iscsi_ffi_law.proofs.session_invariants.FitOrder.{AreNear, IsOld, near_event, waited_arrival}
use Rattle.iscsi_ffi_law.proofs.outbox_invariants.FitPhases.{AreFreed, freed_call}
use Rattle.iscsi_ffi_law.proofs.outbox_invariants.FitReached.{sound_event, sound_reached}
use Rattle.iscsi_ffi_law.proofs.premises.FitReady.{AreStepsReady, steps_ready}
use Rattle.iscsi_ffi_law.proofs.session_invariants.FitReceived.{IsWired, wired, wired_bytes}
use Rattle.iscsi_ffi_law.proofs.premises.FitRefusals.{taken_in}
use Rattle.iscsi_ffi_law.proofs.session_invariants.FitReplied.{AreReplied}
use Rattle.iscsi_ffi_law.proofs.side_invariants.FitSides.{event_sends}
use Rattle.iscsi_ffi_law.proofs.general.Members.{each_in, in_each}
use Rattle.iscsi_ffi_law.proofs.items.QuietBox.{empty_item}
use Rattle.iscsi_ffi_law.proofs.arrivals.Turns.{becomes}

module _ (i : Interface) (opening : IsOpening i) (n : ℕ) (r : Side) (cid : ℕ) (header : List ℕ) (is : refusal_of i r cid ≡ None) (h : Holds i n r) where
  abbrev s : Side
  s = heard_in i r cid header

  abbrev e : Event
  e = Arrive cid header

  abbrev each : List (List Effect)
  each = effects_each i.outbox.session s.both.trace (items_of i.outbox.session s.both.event s.both.trace e)

  abbrev whole : List (List Effect)
  whole = in_parts (effects_of i.outbox.session s.both.trace (items_of i.outbox.session s.both.event s.both.trace e))

  g : Holds i (n + 1) s
  g = holds_heard i (limits i opening).distinct n r cid header h

  parts : Parts i.outbox.session s.both.trace (items_of i.outbox.session s.both.event s.both.trace e)
  parts = event_parts i.outbox.session (Formed i.outbox.session (λ c. false)) (λ u item x. x) s.both.event s.both.trace e (event_going i.outbox.session (λ c. false) s.both.event s.both.trace e).each

  as_few : (v : Bool) → all_sends each ≤ all_sends (cond v ([] ∷ each) each)
  as_few true = omega arith
  as_few false = omega arith

  -- what holds of the parts holds of the items
  by_parts : (X : Box → List (List Effect) → Type 0) → ((ps : List (List Effect)) → X s.both.box ([] ∷ ps) → X (after_item i.outbox s.both.box []) ps) → X s.both.box whole → X s.both.box each
  by_parts X without x = by_lead parts.lead (subst (X s.both.box) parts.are x)
    where
      sound : IsSound i.outbox s.both.box
      sound = (sound_reached i.outbox (limits i opening).distinct s.both g.good.reached).0

      by_lead : (v : Bool) → X s.both.box (cond v ([] ∷ each) each) → X s.both.box each
      by_lead true y = subst (λ b. X b each) (empty_item i.outbox s.both.box sound) (without each y)
      by_lead false y = y

  -- what goes out by it has places
  sends_few : replies_waiting s.both.box + all_sends each ≤ places i.outbox
  sends_few =
      let may = and_parts (nat_lt (replies_waiting s.both.box) (room i.outbox)) (nat_lt (owing i.outbox s.both.box) (room i.outbox)) (arrival_room i (limits i opening).distinct n r cid header is h) in
      let lt = ltb-true (replies_waiting s.both.box) (room i.outbox) may.0 in
      let few = few_reached i.outbox (limits i opening).distinct s.both g.good.reached in
      let sends = event_sends i.outbox s.both.event s.both.trace e in
      let same = ap all_sends parts.are in
      omega (arith, lt, few, sends, same, as_few parts.lead)

  -- what waits, has waited, near ExpCmdSN
  old : EachOf (IsOld i.outbox.session s.both.event (exp_of i.outbox.session s.both.trace)) (waiting s.both.trace)
  old =
      let near = trace_reached i.outbox (AreNear i.outbox.session) (near_event i.outbox.session) tt s.both g.good.reached in
      in_each (IsOld i.outbox.session s.both.event (exp_of i.outbox.session s.both.trace)) (waiting s.both.trace)
      (λ b at. record {
        event = each_in (λ (x : Arrival). x.event < s.both.event) (waiting s.both.trace) b at g.earlier.waits;
        low = each_in (λ (x : Arrival). exp_of i.outbox.session s.both.trace + 1 ≤ x.number) (waiting s.both.trace) b at g.turned.ahead;
        high = each_in (λ (x : Arrival). x.number ≤ exp_of i.outbox.session s.both.trace + i.outbox.session.window) (waiting s.both.trace) b at near;
        wired = each_in IsWired (waiting s.both.trace) b at g.wires.waits;
      })

  ready : AreStepsReady i s (items_then i s cid header)
  ready =
      steps_ready i s (items_then i s cid header) (stands_reached i.outbox (limits i opening).distinct s.both g.good.reached).alone sends_few
      (waited_arrival i.outbox.session s.both.event s.both.trace (arrived i s cid header) (limits i opening).window refl g.turned old)

  -- ---- its numbers

  pub taken_short : length (items_then i s cid header) ≤ places i.outbox
  taken_short =
      let many = items_short i.outbox.session s.both.trace (arrived i s cid header) in
      let few = few_reached i.outbox (limits i opening).distinct s.both g.good.reached in
      let some = (limits i opening).some in
      omega (arith, many, few, some)

  pub taken_enabled : length (filter_map ticket_enabled (effects_then i s cid header)) ≤ places i.outbox
  taken_enabled =
      let many = event_enables i.outbox.session s.both.event s.both.trace e in
      let few = few_reached i.outbox (limits i opening).distinct s.both g.good.reached in
      let some = (limits i opening).some in
      omega (arith, many, few, some)

  -- what is known of the commands that leave
  pub taken_leaves : AreItemsFit i.outbox s.both.box whole → NoneIsFresh s.both.box → AreReplied r.both.event r.both.trace r.answers → AreFreed i.outbox r.both.trace r.both.box → ((c : Command) → In c (live r.both.trace) → contains r.told c.ticket ≡ was_free c r.both.trace) → AreLeavingFit i s (items_then i s cid header)
  taken_leaves items stale replied freed told_is =
      let a : Arrival = arrival_of i.outbox.session s.both.event s.both.trace (request_of cid header) in
      let sound : IsSound i.outbox s.both.box = (sound_reached i.outbox (limits i opening).distinct s.both g.good.reached).0 in
      let freed_then = freed_call i.outbox r.both.box (outbox.Hears cid (word_at 28 header) (tag_heard header)) r.both.trace tt freed in
      arrival_fit i s (s.both.event + 1) a refl g.together.forms (items_then i s cid header) (becomes i.outbox.session s.both.trace a) (event_forms i.outbox.session s.both.event s.both.trace e g.together.forms) (by_parts (AreItemsFit i.outbox) (λ ps x. x.1) items)
      (mid_begun i s replied freed_then g.told g.together.lives sound stale told_is)

  pub taken_steps : AreBytes header → r.both.event + 1 ≤ 2 ^ 48 → AreItemsFit i.outbox s.both.box whole → AreLeavingFit i s (items_then i s cid header) → AreStepsFit i s (items_then i s cid header)
  taken_steps bytes early items leaves =
      let t = taken_in i r cid is in
      let joined = joined_other i.outbox r.both.box (outbox.Hears cid (word_at 28 header) (tag_heard header)) cid tt (joined_there i r cid t.joined) in
      let sends = event_sends i.outbox s.both.event s.both.trace e in
      let sent = g.good.sent_is in
      let same = ap all_sends parts.are in
      steps_fit i s.both.event (has_joined s.both.box.links) (λ c. is_closed c s.both.trace) (items_then i s cid header) s (s.both.event + 1)
      (event_forms i.outbox.session s.both.event s.both.trace e g.together.forms)
      (event_sound i.outbox.session s.both.event s.both.trace e t.known g.together.sounds)
      (event_items i.outbox.session s.both.event (Q i s.both.event (has_joined s.both.box.links) (λ c. is_closed c s.both.trace)) s.both.trace e (inl joined) g.served.served)
      (by_parts (SoundItems i.outbox) (λ ps x. x.1.1) (sound_event i.outbox (limits i opening).distinct s.both e (arrival_read i (limits i opening).distinct n r cid header is h) g.good.reached))
      (by_parts (AreItemsFit i.outbox) (λ ps x. x.1) items)
      (record { closed = g.together.closed; homes = g.together.homes; cuts = g.together.cuts; over = g.served.over; handed = g.placed.handed })
      (λ c k. k) (λ c k. k) (let few = as_few parts.lead in omega (arith, few, same, sends, sent, early)) g.told g.marked ready leaves
      (event_items i.outbox.session s.both.event IsWired s.both.trace e (wired s.both.event (exp_of i.outbox.session s.both.trace) cid header (wired_bytes cid header bytes)) g.wires)
