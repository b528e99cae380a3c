-- The commands that are fresh as an event is over are those that it enabled.
use Rattle.std.proofs.Common.{◌≡◌, ℕ, ◌==◌, cond, true, false, List, [], ◌∷◌, ◌++◌, map, filter_map, Option, Some, None, refl, ap, sym, subst, ◌∙◌}
use Rattle.std.specs.List.{cons_option}
use Rattle.std.proofs.lemmas.Bool.{false≢true, or_left, or_right}
use Rattle.std.proofs.lemmas.List.{append_assoc, append-nil}
use Rattle.std.proofs.lemmas.List.Folds.{list_any-append}
use Rattle.iscsi_wire.specs.declared.request.Request.{Request}
use Rattle.iscsi_rules.specs.declared.effect.Effect.{Effect}
use Rattle.iscsi_rules.specs.declared.effect.Effect.TheVariants.{Deliver, Immediate, Wait, Void, Empty, Enter, Enable, Leave, Send, CloseConn, CloseSession, Ignore}
use Rattle.iscsi_rules.specs.promises.Order.{in_parts, is_request, onto_first}
use Rattle.iscsi_outbox_rules.specs.rules.Calls.{Opening}
use Rattle.iscsi_outbox_rules.specs.rules.Boxes.{Phase, Dormant, Fresh, Started, Completed, Running, Gone, Task, Box}
use Rattle.iscsi_outbox_rules.specs.rules.Words.{contains}
use Rattle.iscsi_outbox_rules.specs.rules.Items.{after_item, after_items, executing, phase_completed, phase_enabled, phase_taken_out, task_entered, ticket_enabled, tickets_left}
use Rattle.iscsi_outbox_rules.proofs.commands.TaskLives.{entered_tasks, item_tasks, left_tasks}
use Rattle.iscsi_outbox_law.specs.private.Sound.{NoneIsFresh, is_fresh_phase}
use Rattle.iscsi_outbox_law.proofs.general.PairLemmas.{each-append, each-map, each-weaken}
use Rattle.iscsi_outbox_law.proofs.invariants.SoundTurns.{phased}
use Rattle.iscsi_outbox_law.proofs.commands.TurningEach.{AreFreshOf}

-- ---- what an event enables

abbrev enabled_in : List (List Effect) → List ℕ
enabled_in [] = []
enabled_in (item ∷ items) = filter_map ticket_enabled item ++ enabled_in items

enabled_first : (e : Effect) (parts : List (List Effect)) → enabled_in (onto_first e parts) ≡ cons_option (ticket_enabled e) (enabled_in parts)
enabled_first e [] = append-nil (cons_option (ticket_enabled e) [])
enabled_first e (part ∷ parts) = elim (ticket_enabled e) as (λ x. cons_option x (filter_map ticket_enabled part) ++ enabled_in parts ≡ cons_option x (filter_map ticket_enabled part ++ enabled_in parts)) [ Some k ↦ refl | None ↦ refl ]

enabled_parts : (effects : List Effect) → enabled_in (in_parts effects) ≡ filter_map ticket_enabled effects
enabled_parts [] = refl
enabled_parts (e ∷ es) =
    elim (is_request e) as (λ v. enabled_in (cond v ([] ∷ onto_first e (in_parts es)) (onto_first e (in_parts es))) ≡ enabled_in (onto_first e (in_parts es))) [ true ↦ refl | false ↦ refl ]
    ∙ enabled_first e (in_parts es) ∙ ap (cons_option (ticket_enabled e)) (enabled_parts es)

-- ---- commands of an item

abbrev IsFreshOf : List ℕ → Task → Type 0
IsFreshOf known t = is_fresh_phase t.phase ≡ true → contains known t.ticket ≡ true

turned_fresh : (change : Phase → Phase) (tickets known : List ℕ) (ts : List Task) → ((p : Phase) → is_fresh_phase (change p) ≡ true → is_fresh_phase p ≡ true) → AreFreshOf known ts → AreFreshOf known (map (phased change tickets) ts)
turned_fresh change tickets known ts back h =
    each-map (IsFreshOf known) (IsFreshOf known) (phased change tickets) ts
    (λ t k. elim (contains tickets t.ticket) as (λ v. IsFreshOf known (cond v (record t { phase = change t.phase }) t)) [ true ↦ λ is. k (back t.phase is) | false ↦ k ]) h

out_back : (p : Phase) → is_fresh_phase (phase_taken_out p) ≡ true → is_fresh_phase p ≡ true
out_back Dormant is = is
out_back Fresh is = refl
out_back Started is = is
out_back Completed is = is
out_back Running is = is
out_back Gone is = is

completed_back : (p : Phase) → is_fresh_phase (phase_completed p) ≡ true → is_fresh_phase p ≡ true
completed_back Dormant is = is
completed_back Fresh is = refl
completed_back Started is = is
completed_back Completed is = is
completed_back Running is = is
completed_back Gone is = is

left_fresh : (r : Option Request) (tickets known : List ℕ) (ts : List Task) → AreFreshOf known ts → AreFreshOf known (left_tasks r tickets ts)
left_fresh (Some r) tickets known ts h = turned_fresh phase_taken_out tickets known ts out_back h
left_fresh None tickets known ts h = turned_fresh phase_completed tickets known ts completed_back h

new_stale : (r : Request) (known : List ℕ) (item : List Effect) → AreFreshOf known (filter_map (task_entered r) item)
new_stale r known [] = tt
new_stale r known (Enter ticket unit attr ∷ es) = ((λ is. absurd (false≢true is)), new_stale r known es)
new_stale r known (Deliver a ∷ es) = new_stale r known es
new_stale r known (Immediate a ∷ es) = new_stale r known es
new_stale r known (Wait a ∷ es) = new_stale r known es
new_stale r known (Void n ∷ es) = new_stale r known es
new_stale r known (Empty n ∷ es) = new_stale r known es
new_stale r known (Enable ticket unit ∷ es) = new_stale r known es
new_stale r known (Leave ticket unit ∷ es) = new_stale r known es
new_stale r known (Send conn stat_sn reply ∷ es) = new_stale r known es
new_stale r known (CloseConn conn ∷ es) = new_stale r known es
new_stale r known (CloseSession ∷ es) = new_stale r known es
new_stale r known (Ignore why ∷ es) = new_stale r known es

entered_fresh : (r : Option Request) (item : List Effect) (known : List ℕ) (ts : List Task) → AreFreshOf known ts → AreFreshOf known (entered_tasks r item ts)
entered_fresh (Some r) item known ts h = each-append (IsFreshOf known) ts (filter_map (task_entered r) item) h (new_stale r known item)
entered_fresh None item known ts h = h

enabled_fresh : (tickets known : List ℕ) (ts : List Task) → AreFreshOf known ts → AreFreshOf (known ++ tickets) (map (phased phase_enabled tickets) ts)
enabled_fresh tickets known ts h = each-map (IsFreshOf known) (IsFreshOf (known ++ tickets)) (phased phase_enabled tickets) ts one h
  where
    one : (t : Task) → IsFreshOf known t → IsFreshOf (known ++ tickets) (phased phase_enabled tickets t)
    one t k = elim (contains tickets t.ticket) as (λ v. contains tickets t.ticket ≡ v → IsFreshOf (known ++ tickets) (cond v (record t { phase = phase_enabled t.phase }) t)) [
      | true ↦ λ among is. list_any-append (λ n. n == t.ticket) known tickets ∙ or_right (contains known t.ticket) (contains tickets t.ticket) among
      | false ↦ λ among is. list_any-append (λ n. n == t.ticket) known tickets ∙ or_left (contains known t.ticket) (contains tickets t.ticket) (k is)
    ] refl

-- ---- items

item_fresh : (o : Opening) (b : Box) (item : List Effect) (known : List ℕ) → AreFreshOf known b.tasks → AreFreshOf (known ++ filter_map ticket_enabled item) (after_item o b item).tasks
item_fresh o b item known h =
    subst (AreFreshOf (known ++ filter_map ticket_enabled item)) (sym (item_tasks o b item))
    (enabled_fresh (filter_map ticket_enabled item) known (entered_tasks (executing item) item (left_tasks (executing item) (tickets_left item) b.tasks))
    (entered_fresh (executing item) item known (left_tasks (executing item) (tickets_left item) b.tasks) (left_fresh (executing item) (tickets_left item) known b.tasks h)))

items_fresh : (o : Opening) (b : Box) (items : List (List Effect)) (known : List ℕ) → AreFreshOf known b.tasks → AreFreshOf (known ++ enabled_in items) (after_items o b items).tasks
items_fresh o b [] known h = subst (λ ks. AreFreshOf ks b.tasks) (sym (append-nil known)) h
items_fresh o b (item ∷ items) known h =
    subst (λ ks. AreFreshOf ks (after_items o (after_item o b item) items).tasks) (append_assoc known (filter_map ticket_enabled item) (enabled_in items))
    (items_fresh o (after_item o b item) items (known ++ filter_map ticket_enabled item) (item_fresh o b item known h))

-- none is fresh before the event
pub event_fresh : (o : Opening) (b : Box) (effects : List Effect) → NoneIsFresh b → AreFreshOf (filter_map ticket_enabled effects) (after_items o b (in_parts effects)).tasks
event_fresh o b effects stale =
    subst (λ ks. AreFreshOf ks (after_items o b (in_parts effects)).tasks) (enabled_parts effects)
    (items_fresh o b (in_parts effects) [] (each-weaken (λ (t : Task). is_fresh_phase t.phase ≡ false) (IsFreshOf []) b.tasks (λ t isnt is. absurd (false≢true (sym isnt ∙ is))) stale))
