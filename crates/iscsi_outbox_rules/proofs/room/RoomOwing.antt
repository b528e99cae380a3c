-- The commands that are live or owe: through the items of an event nothing comes under way, and no more are live or owe but for those
-- that enter; what leaves owed nothing before, being live.
use Rattle.std.proofs.Common.{◌≡◌, ℕ, ◌+◌, ◌≤◌, ◌==◌, ◌&&◌, ◌||◌, cond, Bool, true, false, List, [], ◌∷◌, ◌++◌, map, filter_map, count_by, length, Option, Some, None, refl, ap, ◌∙◌, arith}
use Rattle.std.specs.List.{list_any}
use Rattle.std.proofs.lemmas.Bool.{cond_both}
use Rattle.std.proofs.lemmas.List.Sums.{sum_by-append}
use Rattle.iscsi_wire.specs.declared.reply.Reply.{Reply}
use Rattle.iscsi_wire.specs.declared.request.Request.{Request}
use Rattle.iscsi_rules.specs.declared.effect.Effect.{Effect}
use Rattle.iscsi_rules.specs.rules.Trace.{first_of}
use Rattle.iscsi_rules.proofs.general.CountLemmas.{one, count-cons, count-weaker}
use Rattle.iscsi_rules.proofs.general.ListLemmas.{count_by-map}
use Rattle.iscsi_outbox_rules.specs.rules.Calls.{Opening}
use Rattle.iscsi_outbox_rules.specs.rules.Boxes.{Phase, Dormant, Fresh, Started, Completed, Running, Gone, Task, Outgoing, Aim, Answer, Link, Box}
use Rattle.iscsi_outbox_rules.specs.rules.Words.{contains, is_live_phase, is_running_phase, is_left_phase, under_way, has_under_way, is_of, owes}
use Rattle.iscsi_outbox_rules.specs.rules.Queues.{at_link, takes_more, append, without, emptied}
use Rattle.iscsi_outbox_rules.specs.rules.Items.{executing, tickets_left, ticket_enabled, reply_sent, closed_in, newly_closed, phase_taken_out, phase_completed, phase_enabled, in_phase, leave, task_entered, enter_tasks, close, outgoing, answer, send_as, aim, send, after_item}
use Rattle.iscsi_outbox_rules.specs.promises.Room.{tasks_kept}
use Rattle.iscsi_outbox_rules.proofs.general.Walks.{Walk}
use Rattle.iscsi_outbox_rules.proofs.room.RoomTasks.{settled_tasks, closed_tasks, sent_tasks}

-- ---- what is under way

module _ (o : Opening) where
  -- of no commands is there more under way, or less
  abbrev pub SameWay : List Link → List Link → Type 0
  SameWay links links' = (these : ℕ → Bool) → list_any (has_under_way o these) links' ≡ list_any (has_under_way o these) links

  way_map : (change : Link → Link) → ((l : Link) → under_way o (change l) ≡ under_way o l) → (links : List Link) → SameWay links (map change links)
  way_map change same [] these = refl
  way_map change same (l ∷ links) these =
      ap (λ hs. list_any (λ h. is_of these h.out) hs || list_any (has_under_way o these) (map change links)) (same l) ∙ ap (λ b. has_under_way o these l || b) (way_map change same links these)

  way_at : (conn : ℕ) (change : Link → Link) → ((l : Link) → under_way o (change l) ≡ under_way o l) → (links : List Link) → SameWay links (at_link conn change links)
  way_at conn change same links =
      way_map (λ (l : Link). cond (l.conn == conn) (change l) l) (λ l. cond_both (l.conn == conn) (change l) l (λ (m : Link). under_way o m ≡ under_way o l) (λ is. same l) (λ is. refl)) links

  appended : (out : Outgoing) (l : Link) → under_way o (append out l) ≡ under_way o l
  appended out l = cond_both (takes_more l) (record l { queue = l.queue ++ out ∷ [] }) l (λ (m : Link). under_way o m ≡ under_way o l) (λ is. refl) (λ is. refl)

  sent_way : (b : Box) (r : Option Request) (tickets conns closes : List ℕ) (x : Option (ℕ × Reply)) → SameWay b.links (send o r tickets conns closes x b).links
  sent_way b r tickets conns closes None these = refl
  sent_way b None tickets conns closes (Some s) these = way_at s.0 (append (record (outgoing b None tickets s.1) { time = b.time })) (appended (record (outgoing b None tickets s.1) { time = b.time })) b.links these
  sent_way b (Some r) tickets conns closes (Some s) these = by_aim (aim o (Some r) s.1)
    where
      by_aim : (x : Option Aim) → list_any (has_under_way o these) (send_as o (Some r) x conns closes s.0 (outgoing b (Some r) tickets s.1) b).links ≡ list_any (has_under_way o these) b.links
      by_aim None = way_at s.0 (append (record (outgoing b (Some r) tickets s.1) { time = b.time })) (appended (record (outgoing b (Some r) tickets s.1) { time = b.time })) b.links these
      by_aim (Some about) =
          let a : Answer = answer o b r conns closes s.0 (outgoing b (Some r) tickets s.1) about in
          cond_both (list_any (λ (l : Link). (l.conn == a.conn) && takes_more l) b.links) (record b { undue = b.undue ++ a ∷ [] }) b (λ (y : Box). list_any (has_under_way o these) y.links ≡ list_any (has_under_way o these) b.links) (λ may. refl) (λ may. refl)

  -- so it is through the items of an event
  pub way_walk : (start : List Link) → Walk o (λ items b. SameWay start b.links)
  way_walk start = record {
    tasks = λ items b ts h. h;
    drops = λ items b these h t. way_map (without these) (λ l. refl) b.links t ∙ h t;
    closes = λ items b conn h t. way_at conn (λ l. record l { closed = true }) (λ l. refl) b.links t ∙ h t;
    cuts = λ items b conn h t. way_at conn (λ l. record l { closed = true; cut = true }) (λ l. refl) b.links t ∙ h t;
    drops_on = λ items b conn over h t. way_at conn emptied (λ l. refl) b.links t ∙ h t;
    moves = λ items b before rest a due h t. way_at a.conn (append (record (a.out) { time = b.time })) (appended (record (a.out) { time = b.time })) b.links t ∙ h t;
    sends = λ items b item conns closes h t. sent_way b (executing item) (tickets_left item) conns closes (first_of (filter_map reply_sent item)) t ∙ h t;
  }

-- ---- commands

-- it is live or owes, by its phase and whether something of it is under way
abbrev pub weighs : Phase → Bool → Bool
weighs p under = is_live_phase p || (is_running_phase p || (is_left_phase p && under))

-- how many are live or owe, where something is under way of these
abbrev pub weight : (ℕ → Bool) → List Task → ℕ
weight under ts = count_by (λ (x : Task). weighs x.phase (under x.ticket)) ts

-- the commands that are live or owe are those that weigh
pub kept_weighs : (o : Opening) (b : Box) → tasks_kept o b ≡ weight (λ k. list_any (has_under_way o (λ ticket. ticket == k)) b.links) b.tasks
kept_weighs o b = each b.tasks
  where
    apart : (p : Phase) (u : Bool) → one (is_live_phase p) + one (is_running_phase p || (is_left_phase p && u)) ≡ one (weighs p u)
    apart Dormant u = refl
    apart Fresh u = refl
    apart Started u = refl
    apart Completed u = refl
    apart Running u = refl
    apart Gone true = refl
    apart Gone false = refl

    each : (ts : List Task) → count_by (λ (x : Task). is_live_phase x.phase) ts + count_by (owes o b) ts ≡ weight (λ k. list_any (has_under_way o (λ ticket. ticket == k)) b.links) ts
    each [] = refl
    each (x ∷ ts) =
        omega (
          arith,
          count-cons (λ (y : Task). is_live_phase y.phase) x ts,
          count-cons (owes o b) x ts,
          count-cons (λ (y : Task). weighs y.phase (list_any (has_under_way o (λ ticket. ticket == y.ticket)) b.links)) x ts,
          apart x.phase (list_any (has_under_way o (λ ticket. ticket == x.ticket)) b.links),
          each ts,
        )

module _ (under : ℕ → Bool) where
  -- no more weigh
  pub lighter : (change : Phase → Phase) → ((p : Phase) (u : Bool) → weighs (change p) u ≡ true → weighs p u ≡ true) → (tickets : List ℕ) (ts : List Task)
      → weight under (map (λ (x : Task). cond (contains tickets x.ticket) (record x { phase = change x.phase }) x) ts) ≤ weight under ts
  lighter change less tickets ts =
      omega (
        arith,
        count_by-map (λ (x : Task). weighs x.phase (under x.ticket)) (λ (x : Task). cond (contains tickets x.ticket) (record x { phase = change x.phase }) x) ts,
        count-weaker (λ (x : Task). let y : Task = cond (contains tickets x.ticket) (record x { phase = change x.phase }) x in weighs y.phase (under y.ticket)) (λ (x : Task). weighs x.phase (under x.ticket)) ts
            (λ x. cond_both (contains tickets x.ticket) (record x { phase = change x.phase }) x (λ (y : Task). weighs y.phase (under y.ticket) ≡ true → weighs x.phase (under x.ticket) ≡ true) (λ is. less x.phase (under x.ticket)) (λ is h. h)),
      )

  taken_out_less : (p : Phase) (u : Bool) → weighs (phase_taken_out p) u ≡ true → weighs p u ≡ true
  taken_out_less Dormant u h = refl
  taken_out_less Fresh u h = refl
  taken_out_less Started u h = refl
  taken_out_less Completed u h = h
  taken_out_less Running u h = refl
  taken_out_less Gone u h = h

  completed_less : (p : Phase) (u : Bool) → weighs (phase_completed p) u ≡ true → weighs p u ≡ true
  completed_less Dormant u h = refl
  completed_less Fresh u h = refl
  completed_less Started u h = refl
  completed_less Completed u h = h
  completed_less Running u h = refl
  completed_less Gone u h = h

  enabled_less : (p : Phase) (u : Bool) → weighs (phase_enabled p) u ≡ true → weighs p u ≡ true
  enabled_less Dormant u h = refl
  enabled_less Fresh u h = refl
  enabled_less Started u h = refl
  enabled_less Completed u h = h
  enabled_less Running u h = refl
  enabled_less Gone u h = h

  -- those that enter
  abbrev pub tasks_entered : Option Request → List Effect → ℕ
  tasks_entered (Some r) item = length (filter_map (task_entered r) item)
  tasks_entered None item = 0

  few : (ts : List Task) → weight under ts ≤ length ts
  few [] = omega arith
  few (x ∷ ts) = omega (arith, count-cons (λ (y : Task). weighs y.phase (under y.ticket)) x ts, one_most (weighs x.phase (under x.ticket)), few ts)
    where
      one_most : (b : Bool) → one b ≤ 1
      one_most true = omega arith
      one_most false = omega arith

  left_weight : (r : Option Request) (tickets : List ℕ) (b : Box) → weight under (leave r tickets b).tasks ≤ weight under b.tasks
  left_weight (Some r) tickets b = lighter phase_taken_out taken_out_less tickets b.tasks
  left_weight None tickets b = lighter phase_completed completed_less tickets b.tasks

  entered_weight : (r : Option Request) (item : List Effect) (b : Box) → weight under (enter_tasks r item b).tasks ≤ weight under b.tasks + tasks_entered r item
  entered_weight (Some r) item b = omega (arith, sum_by-append (λ (x : Task). one (weighs x.phase (under x.ticket))) b.tasks (filter_map (task_entered r) item), few (filter_map (task_entered r) item))
  entered_weight None item b = omega arith

  -- an item adds those that enter, and no more
  pub item_weight : (o : Opening) (b : Box) (item : List Effect) → weight under (after_item o b item).tasks ≤ weight under b.tasks + tasks_entered (executing item) item
  item_weight o b item =
      let r = executing item in
      let tickets = tickets_left item in
      let conns = closed_in b item in
      let closes = newly_closed b conns in
      let left : Box = leave r tickets b in
      let entering : Box = enter_tasks r item left in
      let closed : Box = close r closes entering in
      let x : Option (ℕ × Reply) = first_of (filter_map reply_sent item) in
      let sent : Box = send o r tickets conns closes x closed in
      let enabled : List ℕ = filter_map ticket_enabled item in
      omega (
        arith,
        ap (weight under) (settled_tasks o (in_phase phase_enabled enabled sent)),
        lighter phase_enabled enabled_less enabled sent.tasks,
        ap (weight under) (sent_tasks o r tickets conns closes x closed ∙ closed_tasks r closes entering),
        entered_weight r item left,
        left_weight r tickets b,
      )
