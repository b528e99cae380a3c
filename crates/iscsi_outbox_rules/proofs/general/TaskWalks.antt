-- What each step of an event keeps, the event keeps, where the steps say what becomes of the commands.
use Rattle.std.proofs.Common.{not, ◌≡◌, ℕ, ◌==◌, ◌+◌, ◌≤◌, cond, true, false, List, [], ◌∷◌, ◌++◌, map, filter_map, Option, Some, None, refl, sym, subst, ◌∙◌, arith, Bool, ap}
use Rattle.std.proofs.lemmas.Bool.{cond_both, false≢true}
use Rattle.iscsi_rules.proofs.general.BoolLemmas.{not_true}
use Rattle.std.proofs.lemmas.List.{append_assoc, append-nil}
use Rattle.iscsi_wire.specs.Fields.{connection_of}
use Rattle.iscsi_wire.specs.Serial.{lift}
use Rattle.iscsi_wire.specs.declared.reply.Reply.{Reply}
use Rattle.iscsi_wire.specs.declared.request.Request.{Request}
use Rattle.iscsi_rules.specs.declared.effect.Effect.{Effect}
use Rattle.iscsi_rules.specs.declared.effect.Numbers.{Numbers}
use Rattle.iscsi_rules.specs.rules.Trace.{first_of}
use Rattle.iscsi_rules.specs.promises.Order.{in_parts}
use Rattle.iscsi_outbox_rules.specs.rules.Calls.{Opening}
use Rattle.iscsi_outbox_rules.specs.rules.Boxes.{Phase, Dormant, Fresh, Started, Completed, Running, Gone, Task, Answer, Box}
use Rattle.iscsi_outbox_rules.specs.rules.Words.{contains, is_live_phase, is_left_phase}
use Rattle.iscsi_outbox_rules.specs.rules.Queues.{at_link, enter, drop_of, drop_on}
use Rattle.iscsi_outbox_rules.specs.rules.Due.{is_due, settle_from, settle}
use Rattle.iscsi_outbox_rules.specs.rules.Items.{executing, tickets_left, ticket_enabled, reply_sent, closed_in, newly_closed, phase_taken_out, phase_completed, phase_enabled, phase_told, task_entered, in_phase, leave, enter_tasks, close_one, close_all, close, send, after_item, after_items, after_event}
use Rattle.iscsi_outbox_rules.specs.rules.Run.{phase_stopped}
use Rattle.iscsi_outbox_rules.proofs.general.EachLemmas.{EachOf, each-weaken}
use Rattle.iscsi_outbox_rules.proofs.general.Walks.{IsOver, over_after}
use Rattle.iscsi_outbox_rules.proofs.commands.TicketLemmas.{entered, entries, with_ticket, EntersOn, count_entering, conns_entering}

-- phases that a command doesn't come out of again
pub record Stays (among : Phase → Bool) : Type 0 where
  pub taken_out : (p : Phase) → among p ≡ true → among (phase_taken_out p) ≡ true
  pub completed : (p : Phase) → among p ≡ true → among (phase_completed p) ≡ true
  pub enabled : (p : Phase) → among p ≡ true → among (phase_enabled p) ≡ true
  pub told : (p : Phase) → among p ≡ true → among (phase_told p) ≡ true
  pub stopped : (p : Phase) → among p ≡ true → among (phase_stopped p) ≡ true

-- the same command, no phase before
pub record Onward (x y : Task) : Type 0 where
  pub ticket : y.ticket ≡ x.ticket
  pub conn : y.conn ≡ x.conn
  pub phase : (among : Phase → Bool) → Stays among → among x.phase ≡ true → among y.phase ≡ true

-- not live any more
abbrev pub is_past_phase : Phase → Bool
is_past_phase p = not (is_live_phase p)

-- completed, or left and not running
abbrev pub is_over_phase : Phase → Bool
is_over_phase Completed = true
is_over_phase Gone = true
is_over_phase _ = false

-- what is taken out isn't live
pub taken_out_ends : (p : Phase) → is_live_phase (phase_taken_out p) ≡ false
taken_out_ends Dormant = refl
taken_out_ends Fresh = refl
taken_out_ends Started = refl
taken_out_ends Completed = refl
taken_out_ends Running = refl
taken_out_ends Gone = refl

-- in each phase of six
by_phase : (P : Phase → Type 0) → P Dormant → P Fresh → P Started → P Completed → P Running → P Gone → (p : Phase) → P p
by_phase P d f s c r g Dormant = d
by_phase P d f s c r g Fresh = f
by_phase P d f s c r g Started = s
by_phase P d f s c r g Completed = c
by_phase P d f s c r g Running = r
by_phase P d f s c r g Gone = g

keeps : (among : Phase → Bool) (change : Phase → Phase) → (among Dormant ≡ true → among (change Dormant) ≡ true) → (among Fresh ≡ true → among (change Fresh) ≡ true) → (among Started ≡ true → among (change Started) ≡ true)
    → (among Completed ≡ true → among (change Completed) ≡ true) → (among Running ≡ true → among (change Running) ≡ true) → (among Gone ≡ true → among (change Gone) ≡ true) → (p : Phase) → among p ≡ true → among (change p) ≡ true
keeps among change d f s c r g p = by_phase (λ q. among q ≡ true → among (change q) ≡ true) d f s c r g p

no : {A : Type 0} → false ≡ true → A
no h = absurd (false≢true h)

pub past_stays : Stays is_past_phase
past_stays = record {
  taken_out = keeps is_past_phase phase_taken_out (λ h. no h) (λ h. no h) (λ h. no h) (λ h. h) (λ h. h) (λ h. h);
  completed = keeps is_past_phase phase_completed (λ h. no h) (λ h. no h) (λ h. no h) (λ h. h) (λ h. h) (λ h. h);
  enabled = keeps is_past_phase phase_enabled (λ h. no h) (λ h. no h) (λ h. no h) (λ h. h) (λ h. h) (λ h. h);
  told = keeps is_past_phase phase_told (λ h. no h) (λ h. no h) (λ h. no h) (λ h. h) (λ h. h) (λ h. h);
  stopped = keeps is_past_phase phase_stopped (λ h. no h) (λ h. no h) (λ h. no h) (λ h. h) (λ h. refl) (λ h. h);
}

-- what left stays left
pub left_stays : Stays is_left_phase
left_stays = record {
  taken_out = keeps is_left_phase phase_taken_out (λ h. no h) (λ h. no h) (λ h. no h) (λ h. no h) (λ h. h) (λ h. h);
  completed = keeps is_left_phase phase_completed (λ h. no h) (λ h. no h) (λ h. no h) (λ h. no h) (λ h. h) (λ h. h);
  enabled = keeps is_left_phase phase_enabled (λ h. no h) (λ h. no h) (λ h. no h) (λ h. no h) (λ h. h) (λ h. h);
  told = keeps is_left_phase phase_told (λ h. no h) (λ h. no h) (λ h. no h) (λ h. no h) (λ h. h) (λ h. h);
  stopped = keeps is_left_phase phase_stopped (λ h. no h) (λ h. no h) (λ h. no h) (λ h. no h) (λ h. refl) (λ h. h);
}

-- what doesn't run, and isn't live, doesn't run again
pub over_stays : Stays is_over_phase
over_stays = record {
  taken_out = keeps is_over_phase phase_taken_out (λ h. no h) (λ h. no h) (λ h. no h) (λ h. h) (λ h. no h) (λ h. h);
  completed = keeps is_over_phase phase_completed (λ h. no h) (λ h. no h) (λ h. no h) (λ h. h) (λ h. no h) (λ h. h);
  enabled = keeps is_over_phase phase_enabled (λ h. no h) (λ h. no h) (λ h. no h) (λ h. h) (λ h. no h) (λ h. h);
  told = keeps is_over_phase phase_told (λ h. no h) (λ h. no h) (λ h. no h) (λ h. h) (λ h. no h) (λ h. h);
  stopped = keeps is_over_phase phase_stopped (λ h. no h) (λ h. no h) (λ h. no h) (λ h. h) (λ h. refl) (λ h. h);
}

pub onward_ends : (x y : Task) → Onward x y → is_live_phase x.phase ≡ false → is_live_phase y.phase ≡ false
onward_ends x y h ends = not_true (is_live_phase y.phase) (h.phase is_past_phase past_stays (ap not ends))

unleft_by : (change : Phase → Phase) → ((p : Phase) → is_left_phase (change p) ≡ true → is_left_phase p ≡ true) → (tickets : List ℕ) (x : Task) → is_left_phase (cond (contains tickets x.ticket) (record x { phase = change x.phase }) x).phase ≡ true → is_left_phase x.phase ≡ true
unleft_by change back tickets x =
    cond_both (contains tickets x.ticket) (record x { phase = change x.phase }) x (λ (y : Task). is_left_phase y.phase ≡ true → is_left_phase x.phase ≡ true) (λ is. back x.phase) (λ is h. h)

-- these take out none
unleft_completed : (p : Phase) → is_left_phase (phase_completed p) ≡ true → is_left_phase p ≡ true
unleft_completed = by_phase (λ p. is_left_phase (phase_completed p) ≡ true → is_left_phase p ≡ true) (λ h. h) (λ h. h) (λ h. h) (λ h. h) (λ h. h) (λ h. h)

unleft_enabled : (p : Phase) → is_left_phase (phase_enabled p) ≡ true → is_left_phase p ≡ true
unleft_enabled = by_phase (λ p. is_left_phase (phase_enabled p) ≡ true → is_left_phase p ≡ true) (λ h. h) (λ h. h) (λ h. h) (λ h. h) (λ h. h) (λ h. h)

unleft_told : (p : Phase) → is_left_phase (phase_told p) ≡ true → is_left_phase p ≡ true
unleft_told = by_phase (λ p. is_left_phase (phase_told p) ≡ true → is_left_phase p ≡ true) (λ h. h) (λ h. h) (λ h. h) (λ h. h) (λ h. h) (λ h. h)

abbrev pub phased : (Phase → Phase) → List ℕ → Task → Task
phased change tickets x = cond (contains tickets x.ticket) (record x { phase = change x.phase }) x

pub phased_onward : (change : Phase → Phase) → ((among : Phase → Bool) → Stays among → (p : Phase) → among p ≡ true → among (change p) ≡ true) → (tickets : List ℕ) (x : Task) → Onward x (phased change tickets x)
phased_onward change turns tickets x =
    cond_both (contains tickets x.ticket) (record x { phase = change x.phase }) x (Onward x)
    (λ is. record { ticket = refl; conn = refl; phase = λ among stays. turns among stays x.phase }) (λ is. record { ticket = refl; conn = refl; phase = λ among stays h. h })

-- `K n b`: `n` Enters of the ticket were taken
pub record TaskWalk (o : Opening) (t c : ℕ) (K : ℕ → Box → Type 0) : Type 0 where
  pub takes_out : (n : ℕ) (b : Box) (tickets : List ℕ) → K n b → K n (drop_of (contains tickets) (in_phase phase_taken_out tickets b))
  pub phases : (n : ℕ) (b : Box) (change : Task → Task) → ((x : Task) → Onward x (change x)) → ((x : Task) → is_left_phase (change x).phase ≡ true → is_left_phase x.phase ≡ true) → K n b → K n (record b { tasks = map change b.tasks })
  pub enters : (n k : ℕ) (b : Box) (ts : List Task) → n + k ≤ 1 → (1 ≤ k → EachOf (λ (x : Task). x.conn ≡ c) ts) → with_ticket t ts ≤ k → K n b → K (n + k) (record b { tasks = b.tasks ++ ts })
  pub closes : (n : ℕ) (b : Box) (conn : ℕ) → K n b → K n (record b { links = at_link conn (λ l. record l { closed = true }) b.links })
  pub cuts : (n : ℕ) (b : Box) (conn : ℕ) → K n b → K n (record b { links = at_link conn (λ l. record l { closed = true; cut = true }) b.links })
  pub drops_on : (n : ℕ) (b : Box) (conn : ℕ) → EachOf (IsOver conn) b.links → K n b → K n (drop_on conn b)
  pub moves : (n : ℕ) (b : Box) (before rest : List Answer) (a : Answer) → K n (record b { undue = before ++ a ∷ rest }) → K n (enter a.conn a.out (record b { undue = before ++ rest }))
  pub sends : (n : ℕ) (b : Box) (r : Option Request) (tickets conns closes : List ℕ) (x : Option (ℕ × Reply)) → K n b → K n (send o r tickets conns closes x b)
  pub numbers : (n : ℕ) (b : Box) (exp max : ℕ) → K n b → K n (record b { exp = exp; max = max })
  pub more : (n k : ℕ) (b : Box) → K n b → K (n + k) b

module _ (o : Opening) (t c : ℕ) (K : ℕ → Box → Type 0) (w : TaskWalk o t c K) where
  settles_from : (n : ℕ) (before rest : List Answer) (b : Box) → K n (record b { undue = before ++ rest }) → K n (settle_from o before rest b)
  settles_from n before [] b h = subst (λ u. K n (record b { undue = u })) (append-nil before) h
  settles_from n before (a ∷ rest) b h =
      cond_both (is_due o b before a) (settle_from o before rest (enter a.conn a.out b)) (settle_from o (before ++ a ∷ []) rest b) (K n)
      (λ due. settles_from n before rest (enter a.conn a.out b) (w.moves n b before rest a h))
      (λ undue. settles_from n (before ++ a ∷ []) rest b (subst (λ u. K n (record b { undue = u })) (sym (append_assoc before (a ∷ []) rest)) h))

  pub task_settles : (n : ℕ) (b : Box) → K n b → K n (settle o b)
  task_settles n b h = settles_from n [] b.undue b h

  leaves : (n : ℕ) (b : Box) (r : Option Request) (tickets : List ℕ) → K n b → K n (leave r tickets b)
  leaves n b (Some r) tickets h = w.takes_out n b tickets h
  leaves n b None tickets h = w.phases n b (phased phase_completed tickets) (phased_onward phase_completed (λ among stays. stays.completed) tickets) (unleft_by phase_completed unleft_completed tickets) h

  enters_tasks : (n : ℕ) (b : Box) (r : Option Request) (item : List Effect) → executing item ≡ r → n + entered t item ≤ 1 → EntersOn t c item → K n b → K (n + entered t item) (enter_tasks r item b)
  enters_tasks n b None item is once on h = w.more n (entered t item) b h
  enters_tasks n b (Some r) item is once on h =
      w.enters n (entered t item) b (filter_map (task_entered r) item) once
      (λ some. each-weaken (λ (x : Task). x.conn ≡ connection_of r) (λ (x : Task). x.conn ≡ c) (filter_map (task_entered r) item) (λ x same. same ∙ on r is some) (conns_entering t r item))
      (let same : with_ticket t (filter_map (task_entered r) item) ≡ entered t item = count_entering t r item in omega (arith, same)) h

  closes_one : (n : ℕ) (b : Box) (by conn : ℕ) → K n b → K n (close_one by conn b)
  closes_one n b by conn h =
      cond_both (conn == by) (record b { links = at_link conn (λ l. record l { closed = true }) b.links }) (drop_on conn (record b { links = at_link conn (λ l. record l { closed = true; cut = true }) b.links })) (K n)
      (λ is. w.closes n b conn h)
      (λ is. w.drops_on n (record b { links = at_link conn (λ l. record l { closed = true; cut = true }) b.links }) conn (over_after conn (λ l. record l { closed = true; cut = true }) (λ l. refl) b.links) (w.cuts n b conn h))

  closes_all : (n : ℕ) (b : Box) (by : ℕ) (conns : List ℕ) → K n b → K n (close_all by conns b)
  closes_all n b by [] h = h
  closes_all n b by (conn ∷ conns) h = closes_all n (close_one by conn b) by conns (closes_one n b by conn h)

  closes_by : (n : ℕ) (b : Box) (r : Option Request) (conns : List ℕ) → K n b → K n (close r conns b)
  closes_by n b (Some r) conns h = closes_all n b (connection_of r) conns h
  closes_by n b None conns h = h

  item_keeps : (n : ℕ) (b : Box) (item : List Effect) → n + entered t item ≤ 1 → EntersOn t c item → K n b → K (n + entered t item) (after_item o b item)
  item_keeps n b item once on h =
      let r = executing item in
      let tickets = tickets_left item in
      let conns = closed_in b item in
      let closes = newly_closed b conns in
      let m : ℕ = n + entered t item in
      let left : Box = leave r tickets b in
      let entering : Box = enter_tasks r item left in
      let closed : Box = close r closes entering in
      let sent : Box = send o r tickets conns closes (first_of (filter_map reply_sent item)) closed in
      let k : K m sent = w.sends m closed r tickets conns closes (first_of (filter_map reply_sent item)) (closes_by m entering r closes (enters_tasks n left r item refl once on (leaves n b r tickets h))) in
      task_settles m (in_phase phase_enabled (filter_map ticket_enabled item) sent)
      (w.phases m sent (phased phase_enabled (filter_map ticket_enabled item)) (phased_onward phase_enabled (λ among stays. stays.enabled) (filter_map ticket_enabled item)) (unleft_by phase_enabled unleft_enabled (filter_map ticket_enabled item)) k)

  items_keep : (n : ℕ) (b : Box) (items : List (List Effect)) → n + entries t items ≤ 1 → EachOf (EntersOn t c) items → K n b → K (n + entries t items) (after_items o b items)
  items_keep n b [] once on h = w.more n 0 b h
  items_keep n b (item ∷ items) once on h =
      let k : K (n + entered t item + entries t items) (after_items o (after_item o b item) items) =
      items_keep (n + entered t item) (after_item o b item) items (omega (arith, once)) on.1 (item_keeps n b item (omega (arith, once)) on.0 h) in
      let same : n + entered t item + entries t items ≡ n + (entered t item + entries t items) = omega arith in
      subst (λ m. K m (after_items o (after_item o b item) items)) same k

  pub task_event : (n : ℕ) (b : Box) (effects : List Effect) (numbers : Numbers) → n + entries t (in_parts effects) ≤ 1 → EachOf (EntersOn t c) (in_parts effects) → K n b
      → K (n + entries t (in_parts effects)) (after_event o b effects numbers)
  task_event n b effects numbers once on h =
      let b' : Box = after_items o b (in_parts effects) in
      let m : ℕ = n + entries t (in_parts effects) in
      let told : Task → Task = λ x. record x { phase = phase_told x.phase } in
      w.numbers m (record b' { tasks = map told b'.tasks }) numbers.exp (lift b'.max numbers.max)
      (w.phases m b' told (λ x. record { ticket = refl; conn = refl; phase = λ among stays. stays.told x.phase }) (λ x. unleft_told x.phase) (items_keep n b (in_parts effects) once on h))
