-- Room at each call and in each item of an event, where requests are read while there is room: within an event no more wait, and no more
-- are live or owe, than its items before send and enter.
use Rattle.std.proofs.Common.{◌≡◌, ℕ, ◌+◌, ◌≤◌, ◌==◌, cond, Bool, true, false, List, [], ◌∷◌, ◌++◌, filter_map, refl, ap, sym, ◌∙◌, arith}
use Rattle.std.specs.List.{list_any}
use Rattle.std.proofs.lemmas.List.Sums.{sum_by-append}
use Rattle.iscsi_rules.specs.declared.effect.Effect.{Effect}
use Rattle.iscsi_rules.specs.declared.event.Event.{Event}
use Rattle.iscsi_rules.specs.rules.Trace.{Mark, Trace, first_of}
use Rattle.iscsi_rules.specs.rules.Agenda.{items_of}
use Rattle.iscsi_rules.specs.rules.Run.{entry_of}
use Rattle.iscsi_rules.specs.promises.Order.{in_parts}
use Rattle.iscsi_rules.proofs.general.BoolLemmas.{and_parts}
use Rattle.iscsi_rules.proofs.general.CountLemmas.{one}
use Rattle.iscsi_outbox_rules.specs.rules.Calls.{Opening, Takes, Puts, Stops, Nexts, Writes, Hears, Joins, Loses, Clears}
use Rattle.iscsi_outbox_rules.specs.rules.Boxes.{Link, Box}
use Rattle.iscsi_outbox_rules.specs.rules.Words.{has_under_way, replies_waiting}
use Rattle.iscsi_outbox_rules.specs.rules.Items.{executing, reply_sent, after_item}
use Rattle.iscsi_outbox_rules.specs.promises.Room.{Step, Happens, Other, Both, after_step, begun, is_read_with_room, all_are, places, call_of, calls_of, Fits, FitItems, FitsCall, FitFrom, RoomOnTheWay}
use Rattle.iscsi_outbox_rules.proofs.general.Walks.{item_keeps}
use Rattle.iscsi_outbox_rules.proofs.closes.ClosedParts.{EachOn, effects_each, Parts, event_parts}
use Rattle.iscsi_outbox_rules.proofs.room.RoomReplies.{sends_reply, sends, Few, few_walk}
use Rattle.iscsi_outbox_rules.proofs.room.RoomOwing.{SameWay, way_walk, weight, kept_weighs, tasks_entered, item_weight}
use Rattle.iscsi_outbox_rules.proofs.room.RoomEnters.{Formed, entering}
use Rattle.iscsi_outbox_rules.proofs.room.RoomWeights.{weight_less, item_entered}
use Rattle.iscsi_outbox_rules.proofs.room.RoomTheorem.{Stands, Comes, comes, sent_by_parts, step_stands, begun_stands}
use Rattle.iscsi_outbox_rules.proofs.room.RoomKeeps.{Keeps, step_keeps, begun_keeps}
use Rattle.iscsi_outbox_rules.proofs.room.RoomKeeps.{Comes as Enters, comes as enters}

module _ (o : Opening) where
  -- ---- what enters with items

  -- of these commands something is under way there
  abbrev under : List Link → ℕ → Bool
  under links k = list_any (has_under_way o (λ ticket. ticket == k)) links

  abbrev entered_by : (ℕ → Bool) → List (List Effect) → ℕ
  entered_by out [] = 0
  entered_by out (item ∷ items) = tasks_entered out (executing item) item + entered_by out items

  entered_each : (out : ℕ → Bool) (items : List (List Mark)) (t : Trace) → EachOn (Formed o.session) t items → entered_by out (effects_each o.session t items) ≡ entering items
  entered_each out [] t h = refl
  entered_each out (item ∷ items) t h = omega (arith, item_entered o out h.0.0 t item h.0.1, entered_each out items (item ∷ t) h.1)

  entered_parts : (s : Both) (e : Event) (c : Enters o s e) (out : ℕ → Bool) → entered_by out (in_parts (entry_of o.session s.event s.trace e).effects) ≡ entering (items_of o.session s.event s.trace e)
  entered_parts s e c out = by_lead parts.lead (in_parts (entry_of o.session s.event s.trace e).effects) parts.are
    where
      items : List (List Mark)
      items = items_of o.session s.event s.trace e

      parts : Parts o.session s.trace items
      parts = event_parts o.session (Formed o.session) (λ t item x. x) s.event s.trace e c.entering.each

      by_lead : (v : Bool) (ps : List (List Effect)) → ps ≡ cond v ([] ∷ effects_each o.session s.trace items) (effects_each o.session s.trace items) → entered_by out ps ≡ entering items
      by_lead true ps is = omega (arith, ap (entered_by out) is, entered_each out items s.trace c.entering.each)
      by_lead false ps is = ap (entered_by out) is ∙ entered_each out items s.trace c.entering.each

  -- ---- item by item

  module _ (start : List Link) (w : ℕ) (quiet : ℕ → Bool) where
    sends-append : (xs ys : List (List Effect)) → sends o w quiet (xs ++ ys) ≡ sends o w quiet xs + sends o w quiet ys
    sends-append xs ys = sum_by-append (λ (item : List Effect). one (sends_reply o w quiet (first_of (filter_map reply_sent item)))) xs ys

    items_fit : (items done : List (List Effect)) (b : Box) → Few o w quiet done b → SameWay o start b.links → w + sends o w quiet done + sends o w quiet items ≤ places o → weight (under start) b.tasks + entered_by (under start) items ≤ places o → FitItems o b items
    items_fit [] done b few way replies tasks = tt
    items_fit (item ∷ items) done b few way replies tasks =
        let after : Box = after_item o b item in
        let few_after : Few o w quiet (done ++ item ∷ []) after = item_keeps o (Few o w quiet) (few_walk o w quiet) done b item few in
        let way_after : SameWay o start after.links = item_keeps o (λ its x. SameWay o start x.links) (way_walk o start) done b item way in
        let so_far : sends o w quiet (done ++ item ∷ []) ≡ sends o w quiet done + sends o w quiet (item ∷ []) = sends-append done (item ∷ []) in
        let all : sends o w quiet (item ∷ items) ≡ sends o w quiet (item ∷ []) + sends o w quiet items = sends-append (item ∷ []) items in
        let weighs : weight (under start) after.tasks ≤ weight (under start) b.tasks + tasks_entered (under start) (executing item) item = item_weight (under start) o b item in (
          record {
            replies = omega (arith, few_after.few, so_far, all, replies);
            tasks = omega (arith, kept_weighs o after, weight_less (under after.links) (under start) (λ k h. sym (way_after (λ ticket. ticket == k)) ∙ h) after.tasks, weighs, tasks);
          },
          items_fit items (done ++ item ∷ []) after few_after way_after (omega (arith, so_far, all, replies)) (omega (arith, weighs, tasks)),
        )

  -- ---- step by step

  event_fits : (s : Both) (e : Event) → is_read_with_room o s (Happens e) ≡ true → Stands o s → Keeps o s → FitItems o s.box (in_parts (entry_of o.session s.event s.trace e).effects)
  event_fits s e read h k =
      let c : Comes o s e = comes o s e read h in
      let d : Enters o s e = enters o s e read k in
      items_fit s.box.links (replies_waiting s.box) c.quiet (in_parts (entry_of o.session s.event s.trace e).effects) [] s.box
      (record { alone = h.alone; quiet_are = c.quiet_are; few = omega arith }) (λ these. refl)
      (omega (arith, sent_by_parts o s e c, c.going.less, c.fits))
      (omega (arith, entered_parts s e d (under s.box.links), kept_weighs o s.box, d.entering.less, d.fits))

  step_fits : (s : Both) (step : Step) → is_read_with_room o s step ≡ true → Stands o s → Keeps o s → FitsCall o s.box (call_of o s step)
  step_fits s (Happens e) read h k = event_fits s e read h k
  step_fits s (Other (Takes effects numbers)) read h k = absurd cc
  step_fits s (Other (Puts p)) read h k = tt
  step_fits s (Other (Stops ticket)) read h k = tt
  step_fits s (Other (Nexts conn)) read h k = tt
  step_fits s (Other (Writes conn)) read h k = tt
  step_fits s (Other (Hears conn exp_stat_sn tag)) read h k = tt
  step_fits s (Other (Joins conn stat_sn)) read h k = tt
  step_fits s (Other (Loses conn)) read h k = tt
  step_fits s (Other (Clears unit)) read h k = tt

  standing_fits : (s : Both) → Stands o s → Keeps o s → Fits o s.box
  standing_fits s h k = record { replies = omega (arith, h.few); tasks = omega (arith, k.few) }

  steps_fit : (s : Both) (steps : List Step) → all_are (is_read_with_room o) o s steps ≡ true → Stands o s → Keeps o s → FitFrom o s.box (calls_of o s steps)
  steps_fit s [] all h k = tt
  steps_fit s (step ∷ steps) all h k =
      let parts = and_parts (is_read_with_room o s step) (all_are (is_read_with_room o) o (after_step o s step) steps) all in
      by_step step parts.0 (standing_fits (after_step o s step) (step_stands o s step parts.0 h) (step_keeps o s step parts.0 k))
      (steps_fit (after_step o s step) steps parts.1 (step_stands o s step parts.0 h) (step_keeps o s step parts.0 k))
    where
      by_step : (x : Step) → is_read_with_room o s x ≡ true → Fits o (after_step o s x).box → FitFrom o (after_step o s x).box (calls_of o (after_step o s x) steps) → FitFrom o s.box (call_of o s x ∷ calls_of o (after_step o s x) steps)
      by_step (Happens e) read fits more = (step_fits s (Happens e) read h k, fits, more)
      by_step (Other c) read fits more = (step_fits s (Other c) read h k, fits, more)

  pub room_on_the_way : (steps : List Step) → RoomOnTheWay o steps
  room_on_the_way steps distinct read = steps_fit (begun o) steps read (begun_stands o distinct) (begun_keeps o)
