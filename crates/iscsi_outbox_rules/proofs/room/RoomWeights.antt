-- The commands that are live or owe, and the requests that wait or are held: with an event that is taken these are together no more than
-- before, and one more where a request came.
use Rattle.std.proofs.Common.{◌≡◌, ℕ, suc, ◌+◌, ◌≤◌, ◌==◌, cond, Bool, true, false, List, [], ◌∷◌, map, filter_map, count_by, length, Option, Some, None, refl, ap, sym, ◌∙◌, subst, arith}
use Rattle.std.specs.List.{list_any}
use Rattle.std.proofs.lemmas.List.{length-map}
use Rattle.iscsi_wire.specs.declared.request.Request.{Request}
use Rattle.iscsi_rules.specs.declared.effect.Effect.{Effect}
use Rattle.iscsi_rules.specs.declared.effect.Effect.TheVariants.{Deliver, Immediate, Wait, Void, Empty, Enter, Enable, Leave, Send, CloseConn, CloseSession, Ignore}
use Rattle.iscsi_rules.specs.declared.entry.Entry.{Entry}
use Rattle.iscsi_rules.specs.declared.event.Event.{Event}
use Rattle.iscsi_rules.specs.rules.Trace.{Command, Mark, Trace, enters}
use Rattle.iscsi_rules.specs.rules.Agenda.{items_of}
use Rattle.iscsi_rules.specs.rules.Run.{effects_of_item, entry_of, after_event}
use Rattle.iscsi_rules.specs.promises.Order.{in_parts}
use Rattle.iscsi_rules.proofs.general.CountLemmas.{count-cons, count-weaker}
use Rattle.iscsi_rules.proofs.general.ListLemmas.{count_by-map}
use Rattle.iscsi_rules.proofs.items.Forms.{HasForm}
use Rattle.iscsi_outbox_rules.specs.rules.Calls.{Opening}
use Rattle.iscsi_outbox_rules.specs.rules.Boxes.{Phase, Dormant, Fresh, Started, Completed, Running, Gone, Task, Box}
use Rattle.iscsi_outbox_rules.specs.rules.Words.{has_under_way}
use Rattle.iscsi_outbox_rules.specs.rules.Items.{executing, phase_told, task_entered, after_item}
use Rattle.iscsi_outbox_rules.specs.rules.Items.{after_items as items_taken, after_event as event_taken}
use Rattle.iscsi_outbox_rules.specs.promises.Room.{tasks_kept}
use Rattle.iscsi_outbox_rules.proofs.general.Walks.{event_keeps}
use Rattle.iscsi_outbox_rules.proofs.closes.ClosedParts.{EachOn, effects_each, Parts, event_parts}
use Rattle.iscsi_outbox_rules.proofs.room.RoomStored.{any}
use Rattle.iscsi_outbox_rules.proofs.room.RoomTasks.{ticket_entered, tickets_entered}
use Rattle.iscsi_outbox_rules.proofs.room.RoomLives.{tickets_of, entered_form}
use Rattle.iscsi_outbox_rules.proofs.room.RoomOwing.{SameWay, way_walk, weighs, weight, kept_weighs, tasks_entered, item_weight}
use Rattle.iscsi_outbox_rules.proofs.room.RoomEnters.{pending, enters_in, entering, Formed, Entering}

-- ---- where less is under way

weighs_less : (p : Phase) (u v : Bool) → (u ≡ true → v ≡ true) → weighs p u ≡ true → weighs p v ≡ true
weighs_less Dormant u v less h = refl
weighs_less Fresh u v less h = refl
weighs_less Started u v less h = refl
weighs_less Completed u v less h = h
weighs_less Running u v less h = refl
weighs_less Gone u v less h = less h

-- no more weigh
pub weight_less : (u v : ℕ → Bool) → ((k : ℕ) → u k ≡ true → v k ≡ true) → (ts : List Task) → weight u ts ≤ weight v ts
weight_less u v less ts =
    count-weaker (λ (x : Task). weighs x.phase (u x.ticket)) (λ (x : Task). weighs x.phase (v x.ticket)) ts (λ x. weighs_less x.phase (u x.ticket) (v x.ticket) (less x.ticket))

-- ---- what enters with an item

entered_alike : (r : Request) (es : List Effect) → length (filter_map (task_entered r) es) ≡ length (filter_map ticket_entered es)
entered_alike r [] = refl
entered_alike r (Enter ticket unit attr ∷ es) = ap suc (entered_alike r es)
entered_alike r (Deliver q ∷ es) = entered_alike r es
entered_alike r (Immediate q ∷ es) = entered_alike r es
entered_alike r (Wait q ∷ es) = entered_alike r es
entered_alike r (Void sn ∷ es) = entered_alike r es
entered_alike r (Empty sn ∷ es) = entered_alike r es
entered_alike r (Enable ticket unit ∷ es) = entered_alike r es
entered_alike r (Leave ticket unit ∷ es) = entered_alike r es
entered_alike r (Send conn stat_sn reply ∷ es) = entered_alike r es
entered_alike r (CloseConn conn ∷ es) = entered_alike r es
entered_alike r (CloseSession ∷ es) = entered_alike r es
entered_alike r (Ignore why ∷ es) = entered_alike r es

pub all_counted : (cs : List Command) → length cs ≡ count_by any cs
all_counted [] = refl
all_counted (c ∷ cs) = omega (arith, count-cons any c cs, all_counted cs)

module _ (o : Opening) (under : ℕ → Bool) where
  entered_count : (r : Option Request) (es : List Effect) → tasks_entered under r es ≡ length (tickets_entered r es)
  entered_count (Some r) es = entered_alike r es
  entered_count None es = refl

  pub item_entered : (now : ℕ) (t : Trace) (item : List Mark) → HasForm o.session now t item → tasks_entered under (executing (effects_of_item o.session t item)) (effects_of_item o.session t item) ≡ enters_in item
  item_entered now t item f =
      let es : List Effect = effects_of_item o.session t item in
      entered_count (executing es) es
      ∙ ap length (subst (λ ms. tickets_entered (executing (effects_of_item o.session t ms)) (effects_of_item o.session t ms) ≡ tickets_of (filter_map enters ms)) (sym f.is) (entered_form o.session t f.form))
      ∙ length-map (filter_map enters item) (λ (c : Command). c.ticket)
      ∙ all_counted (filter_map enters item)

  -- ---- an event

  items_weight : (items : List (List Mark)) (t : Trace) (b : Box) → EachOn (Formed o.session) t items → weight under (items_taken o b (effects_each o.session t items)).tasks ≤ weight under b.tasks + entering items
  items_weight [] t b h = omega arith
  items_weight (item ∷ items) t b h =
      let es : List Effect = effects_of_item o.session t item in
      omega (arith, item_weight under o b es, item_entered h.0.0 t item h.0.1, items_weight items (item ∷ t) (after_item o b es) h.1)

  told_less : (p : Phase) (u : Bool) → weighs (phase_told p) u ≡ true → weighs p u ≡ true
  told_less Dormant u h = refl
  told_less Fresh u h = refl
  told_less Started u h = refl
  told_less Completed u h = h
  told_less Running u h = refl
  told_less Gone u h = h

  told_weight : (ts : List Task) → weight under (map (λ (x : Task). record x { phase = phase_told x.phase }) ts) ≤ weight under ts
  told_weight ts =
      omega (
        arith,
        count_by-map (λ (x : Task). weighs x.phase (under x.ticket)) (λ (x : Task). record x { phase = phase_told x.phase }) ts,
        count-weaker (λ (x : Task). weighs (phase_told x.phase) (under x.ticket)) (λ (x : Task). weighs x.phase (under x.ticket)) ts (λ x. told_less x.phase (under x.ticket)),
      )

  event_weight : (k now : ℕ) (t : Trace) (e : Event) (b : Box) → Entering o.session k t (items_of o.session now t e)
      → let entry = entry_of o.session now t e in weight under (event_taken o b entry.effects entry.numbers).tasks ≤ weight under b.tasks + entering (items_of o.session now t e)
  event_weight k now t e b g =
      let entry : Entry = entry_of o.session now t e in
      let parts : Parts o.session t (items_of o.session now t e) = event_parts o.session (Formed o.session) (λ u item x. x) now t e g.each in
      omega (arith, told_weight (items_taken o b (in_parts entry.effects)).tasks, by_lead parts.lead (in_parts entry.effects) parts.are)
    where
      by_lead : (v : Bool) (ps : List (List Effect)) → ps ≡ cond v ([] ∷ effects_each o.session t (items_of o.session now t e)) (effects_each o.session t (items_of o.session now t e))
          → weight under (items_taken o b ps).tasks ≤ weight under b.tasks + entering (items_of o.session now t e)
      by_lead false ps is = omega (arith, ap (λ qs. weight under (items_taken o b qs).tasks) is, items_weight (items_of o.session now t e) t b g.each)
      by_lead true ps is =
          omega (
            arith,
            ap (λ qs. weight under (items_taken o b qs).tasks) is,
            item_weight under o b [],
            items_weight (items_of o.session now t e) t (after_item o b []) g.each,
          )

-- with an event they are no more than before, but for the request that came
pub event_kept : (o : Opening) (k now : ℕ) (t : Trace) (e : Event) (b : Box) → Entering o.session k t (items_of o.session now t e)
    → let entry = entry_of o.session now t e in tasks_kept o (event_taken o b entry.effects entry.numbers) + pending (after_event o.session now t e) ≤ tasks_kept o b + pending t + k
event_kept o k now t e b g =
    let entry : Entry = entry_of o.session now t e in
    let after : Box = event_taken o b entry.effects entry.numbers in
    let was : ℕ → Bool = λ n. list_any (has_under_way o (λ ticket. ticket == n)) b.links in
    let is : ℕ → Bool = λ n. list_any (has_under_way o (λ ticket. ticket == n)) after.links in
    let same : SameWay o b.links after.links = event_keeps o (λ items x. SameWay o b.links x.links) (way_walk o b.links) (λ items x exp max h. h) [] b entry.effects entry.numbers (λ these. refl) in
    omega (
      arith,
      kept_weighs o after,
      weight_less is was (λ n h. sym (same (λ ticket. ticket == n)) ∙ h) after.tasks,
      event_weight o was k now t e b g,
      kept_weighs o b,
      g.less,
    )
