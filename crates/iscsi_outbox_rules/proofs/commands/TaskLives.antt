-- How far a command has come, by what was taken: it is live until it leaves, and counts as left where an abort or a Logout
-- took it out.
use Rattle.std.proofs.Common.{◌≡◌, ℕ, ◌==◌, ◌+◌, ◌≤◌, ◌||◌, ⊎_elim, not, cond, Bool, true, false, List, [], ◌∷◌, ◌++◌, map, filter_map, count_by, Option, Some, None, refl, ap, sym, subst, ◌∙◌, arith}
use Rattle.std.specs.List.{list_any, cons_option}
use Rattle.std.proofs.lemmas.Bool.{cond_both, false≢true}
use Rattle.std.proofs.lemmas.List.Folds.{list_any-append}
use Rattle.std.proofs.lemmas.List.Sums.{sum_by-cons}
use Rattle.iscsi_wire.specs.Fields.{connection_of}
use Rattle.iscsi_wire.specs.declared.reply.Reply.{Reply}
use Rattle.iscsi_wire.specs.declared.request.Request.{Request}
use Rattle.iscsi_rules.specs.declared.effect.Effect.{Effect}
use Rattle.iscsi_rules.specs.declared.effect.Effect.TheVariants.{Deliver, Immediate, Wait, Void, Empty, Enter, Enable, Leave, Send, CloseConn, CloseSession, Ignore}
use Rattle.iscsi_rules.specs.declared.effect.Numbers.{Numbers}
use Rattle.iscsi_rules.specs.rules.Trace.{first_of}
use Rattle.iscsi_rules.specs.promises.Order.{in_parts}
use Rattle.iscsi_rules.proofs.general.BoolLemmas.{or_none}
use Rattle.iscsi_outbox_rules.specs.rules.Calls.{Opening, Call, Takes, Puts, Stops, Nexts, Writes, Hears, Joins, Loses, Clears}
use Rattle.iscsi_outbox_rules.specs.rules.Boxes.{Phase, Dormant, Fresh, Started, Completed, Running, Gone, Task, Answer, Box}
use Rattle.iscsi_outbox_rules.specs.rules.Words.{contains, is_live_phase, is_left_phase, is_running}
use Rattle.iscsi_outbox_rules.specs.rules.Queues.{at_link, enter, drop_on}
use Rattle.iscsi_outbox_rules.specs.rules.Due.{is_due, settle_from, settle}
use Rattle.iscsi_outbox_rules.specs.rules.Items.{executing, tickets_left, ticket_enabled, reply_sent, closed_in, newly_closed, phase_taken_out, phase_completed, phase_enabled, phase_told, task_entered, in_phase, leave, enter_tasks, close_one, close_all, close, send, after_item, after_items, after_event}
use Rattle.iscsi_outbox_rules.specs.rules.Run.{after_call, after_calls, phase_stopped, one_written, link_heard, may_join, link_joined, link_lost, cleared}
use Rattle.iscsi_outbox_rules.specs.promises.Deeds.{deeds_from, items_in, items_of_call}
use Rattle.iscsi_outbox_rules.specs.promises.Scope.{is_taken_out_in}
use Rattle.iscsi_outbox_rules.proofs.general.EachLemmas.{EachOf, each-append, each-map, each-weaken}
use Rattle.iscsi_outbox_rules.proofs.general.Cuts.{Hand, Idle, next}
use Rattle.iscsi_outbox_rules.proofs.commands.TicketLemmas.{entered, none_of, none_or_some, count_entering}
use Rattle.iscsi_outbox_rules.proofs.commands.LeaveLemmas.{leaving, leavings, leavings-append}
use Rattle.iscsi_outbox_rules.proofs.general.TaskWalks.{Onward, is_past_phase, past_stays, left_stays, taken_out_ends, phased, phased_onward}
use Rattle.iscsi_outbox_rules.proofs.commands.TaskRuns.{AreIn, sent_tasks, put_tasks}
use Rattle.iscsi_outbox_rules.proofs.commands.TaskFits.{Fits, fits-first, fits-second}

-- ---- the commands after an item

settled_from : (o : Opening) (before rest : List Answer) (b : Box) → (settle_from o before rest b).tasks ≡ b.tasks
settled_from o before [] b = refl
settled_from o before (a ∷ rest) b =
    cond_both (is_due o b before a) (settle_from o before rest (enter a.conn a.out b)) (settle_from o (before ++ a ∷ []) rest b) (λ (x : Box). x.tasks ≡ b.tasks)
    (λ due. settled_from o before rest (enter a.conn a.out b)) (λ undue. settled_from o (before ++ a ∷ []) rest b)

pub settled_tasks : (o : Opening) (b : Box) → (settle o b).tasks ≡ b.tasks
settled_tasks o b = settled_from o [] b.undue b

closed_one : (by conn : ℕ) (b : Box) → (close_one by conn b).tasks ≡ b.tasks
closed_one by conn b =
    cond_both (conn == by) (record b { links = at_link conn (λ l. record l { closed = true }) b.links }) (drop_on conn (record b { links = at_link conn (λ l. record l { closed = true; cut = true }) b.links }))
    (λ (x : Box). x.tasks ≡ b.tasks) (λ is. refl) (λ is. refl)

closed_all : (by : ℕ) (conns : List ℕ) (b : Box) → (close_all by conns b).tasks ≡ b.tasks
closed_all by [] b = refl
closed_all by (conn ∷ conns) b = closed_all by conns (close_one by conn b) ∙ closed_one by conn b

pub closed_tasks : (r : Option Request) (conns : List ℕ) (b : Box) → (close r conns b).tasks ≡ b.tasks
closed_tasks (Some r) conns b = closed_all (connection_of r) conns b
closed_tasks None conns b = refl

pub replied_tasks : (o : Opening) (b : Box) (r : Option Request) (tickets conns closes : List ℕ) (x : Option (ℕ × Reply)) → (send o r tickets conns closes x b).tasks ≡ b.tasks
replied_tasks o b r tickets conns closes (Some s) = sent_tasks o b r tickets conns closes s
replied_tasks o b r tickets conns closes None = refl

abbrev pub left_tasks : Option Request → List ℕ → List Task → List Task
left_tasks (Some r) tickets ts = map (phased phase_taken_out tickets) ts
left_tasks None tickets ts = map (phased phase_completed tickets) ts

abbrev pub entered_tasks : Option Request → List Effect → List Task → List Task
entered_tasks (Some r) item ts = ts ++ filter_map (task_entered r) item
entered_tasks None item ts = ts

pub moved_tasks : (r : Option Request) (tickets : List ℕ) (item : List Effect) (b : Box) → (enter_tasks r item (leave r tickets b)).tasks ≡ entered_tasks r item (left_tasks r tickets b.tasks)
moved_tasks (Some r) tickets item b = refl
moved_tasks None tickets item b = refl

pub item_tasks : (o : Opening) (b : Box) (item : List Effect)
    → (after_item o b item).tasks ≡ map (phased phase_enabled (filter_map ticket_enabled item)) (entered_tasks (executing item) item (left_tasks (executing item) (tickets_left item) b.tasks))
item_tasks o b item =
    let r = executing item in
    let tickets = tickets_left item in
    let conns = closed_in b item in
    let closes = newly_closed b conns in
    let entering : Box = enter_tasks r item (leave r tickets b) in
    let closed : Box = close r closes entering in
    let sent : Box = send o r tickets conns closes (first_of (filter_map reply_sent item)) closed in
    settled_tasks o (in_phase phase_enabled (filter_map ticket_enabled item) sent)
    ∙ ap (map (phased phase_enabled (filter_map ticket_enabled item)))
    (replied_tasks o closed r tickets conns closes (first_of (filter_map reply_sent item)) ∙ closed_tasks r closes entering ∙ moved_tasks r tickets item b)

-- ---- phases

pub live_enabled : (p : Phase) → is_live_phase p ≡ true → is_live_phase (phase_enabled p) ≡ true
live_enabled Dormant h = refl
live_enabled Fresh h = h
live_enabled Started h = h
live_enabled Completed h = h
live_enabled Running h = h
live_enabled Gone h = h

pub live_told : (p : Phase) → is_live_phase p ≡ true → is_live_phase (phase_told p) ≡ true
live_told Dormant h = h
live_told Fresh h = refl
live_told Started h = h
live_told Completed h = h
live_told Running h = h
live_told Gone h = h

pub live_stopped : (p : Phase) → is_live_phase p ≡ true → is_live_phase (phase_stopped p) ≡ true
live_stopped Dormant h = h
live_stopped Fresh h = h
live_stopped Started h = h
live_stopped Completed h = h
live_stopped Running h = h
live_stopped Gone h = h

left_out : (p : Phase) → is_live_phase p ≡ true → is_left_phase (phase_taken_out p) ≡ true
left_out Dormant h = refl
left_out Fresh h = refl
left_out Started h = refl
left_out Completed h = h
left_out Running h = refl
left_out Gone h = refl

past_out : (p : Phase) → is_live_phase p ≡ true → is_past_phase (phase_taken_out p) ≡ true
past_out p h = ap not (taken_out_ends p)

past_completed : (p : Phase) → is_live_phase p ≡ true → is_past_phase (phase_completed p) ≡ true
past_completed Dormant h = refl
past_completed Fresh h = refl
past_completed Started h = refl
past_completed Completed h = refl
past_completed Running h = refl
past_completed Gone h = refl

pub phased_ticket : (change : Phase → Phase) (tickets : List ℕ) (x : Task) → (phased change tickets x).ticket ≡ x.ticket
phased_ticket change tickets x = cond_both (contains tickets x.ticket) (record x { phase = change x.phase }) x (λ (y : Task). y.ticket ≡ x.ticket) (λ is. refl) (λ is. refl)

pub phased_live : (change : Phase → Phase) → ((p : Phase) → is_live_phase p ≡ true → is_live_phase (change p) ≡ true) → (tickets : List ℕ) (x : Task) → is_live_phase x.phase ≡ true → is_live_phase (phased change tickets x).phase ≡ true
phased_live change turns tickets x h = cond_both (contains tickets x.ticket) (record x { phase = change x.phase }) x (λ (y : Task). is_live_phase y.phase ≡ true) (λ is. turns x.phase h) (λ is. h)

-- the commands that enter are dormant
pub dormant : (r : Request) (item : List Effect) → EachOf (λ (x : Task). x.phase ≡ Dormant) (filter_map (task_entered r) item)
dormant r [] = tt
dormant r (e ∷ item) = by_effect e (dormant r item)
  where
    by_effect : (x : Effect) → EachOf (λ (y : Task). y.phase ≡ Dormant) (filter_map (task_entered r) item) → EachOf (λ (y : Task). y.phase ≡ Dormant) (cons_option (task_entered r x) (filter_map (task_entered r) item))
    by_effect (Deliver q) rest = rest
    by_effect (Immediate q) rest = rest
    by_effect (Wait q) rest = rest
    by_effect (Void n) rest = rest
    by_effect (Empty n) rest = rest
    by_effect (Enter ticket unit attr) rest = (refl, rest)
    by_effect (Enable ticket unit) rest = rest
    by_effect (Leave ticket unit) rest = rest
    by_effect (Send conn stat_sn reply) rest = rest
    by_effect (CloseConn conn) rest = rest
    by_effect CloseSession rest = rest
    by_effect (Ignore why) rest = rest

pub or_false : (v : Bool) → (v || false) ≡ v
or_false true = refl
or_false false = refl

pub or_assoc : (u v w : Bool) → ((u || v) || w) ≡ (u || (v || w))
or_assoc true v w = refl
or_assoc false v w = refl

module _ (t : ℕ) where
  pub uncounted : (ns : List ℕ) → contains ns t ≡ false → count_by (λ k. k == t) ns ≡ 0
  uncounted [] h = refl
  uncounted (n ∷ ns) h =
      let parts = or_none (n == t) (contains ns t) h in
      let counted : count_by (λ k. k == t) (n ∷ ns) ≡ cond {A = ℕ} (n == t) 1 0 + count_by (λ k. k == t) ns = sum_by-cons (λ k. cond (k == t) 1 0) n ns in
      let none : cond {A = ℕ} (n == t) 1 0 ≡ 0 = ap (λ v. cond {A = ℕ} v 1 0) parts.0 in
      let rest : count_by (λ k. k == t) ns ≡ 0 = uncounted ns parts.1 in
      omega (arith, counted, none, rest)

  pub counted_in : (ns : List ℕ) → contains ns t ≡ true → 1 ≤ count_by (λ k. k == t) ns
  counted_in [] h = absurd (false≢true h)
  counted_in (n ∷ ns) h =
      let counted : count_by (λ k. k == t) (n ∷ ns) ≡ cond {A = ℕ} (n == t) 1 0 + count_by (λ k. k == t) ns = sum_by-cons (λ k. cond (k == t) 1 0) n ns in
      elim (n == t) as (λ v. (n == t) ≡ v → (v || contains ns t) ≡ true → 1 ≤ count_by (λ k. k == t) (n ∷ ns)) [
        | true ↦ λ is here. let one : cond {A = ℕ} (n == t) 1 0 ≡ 1 = ap (λ v. cond {A = ℕ} v 1 0) is in omega (arith, counted, one)
        | false ↦ λ is later. let rest : 1 ≤ count_by (λ k. k == t) ns = counted_in ns later in omega (arith, counted, rest)
      ] refl h

  -- ---- where a command is

  -- the ticket left `l` times, and `out` says whether an abort or a Logout took it out
  pub record Lives (l : ℕ) (out : Bool) (ts : List Task) : Type 0 where
    pub fits : out ≡ true → 1 ≤ l
    pub live : l ≡ 0 → AreIn is_live_phase t ts
    pub left : out ≡ true → AreIn is_left_phase t ts
    pub past : 1 ≤ l → AreIn is_past_phase t ts

  pub moved : (l k : ℕ) (out v : Bool) (ts : List Task) → l ≡ k → out ≡ v → Lives l out ts → Lives k v ts
  moved l k out v ts same is h = subst (λ m. Lives m v ts) same (subst (λ w. Lives l w ts) is h)

  pub in_map : (p q : Phase → Bool) (f : Task → Task) (ts : List Task) → ((x : Task) → (f x).ticket ≡ x.ticket) → ((x : Task) → x.ticket ≡ t → p x.phase ≡ true → q (f x).phase ≡ true) → AreIn p t ts → AreIn q t (map f ts)
  in_map p q f ts same turns h =
      each-map (λ (x : Task). x.ticket ≡ t → p x.phase ≡ true) (λ (x : Task). x.ticket ≡ t → q x.phase ≡ true) f ts (λ x k is. let at : x.ticket ≡ t = sym (same x) ∙ is in turns x at (k at)) h

  -- commands that turn to other phases
  pub turned : (l : ℕ) (out : Bool) (ts : List Task) (f : Task → Task) → ((x : Task) → Onward x (f x)) → ((x : Task) → is_live_phase x.phase ≡ true → is_live_phase (f x).phase ≡ true) → Lives l out ts → Lives l out (map f ts)
  turned l out ts f onward live h = record {
    fits = h.fits;
    live = λ none. in_map is_live_phase is_live_phase f ts (λ x. (onward x).ticket) (λ x at. live x) (h.live none);
    left = λ is. in_map is_left_phase is_left_phase f ts (λ x. (onward x).ticket) (λ x at. (onward x).phase is_left_phase left_stays) (h.left is);
    past = λ some. in_map is_past_phase is_past_phase f ts (λ x. (onward x).ticket) (λ x at. (onward x).phase is_past_phase past_stays) (h.past some);
  }

  -- ---- they leave

  -- the ticket isn't among those that leave
  pub unturned : (change : Phase → Phase) (tickets : List ℕ) → contains tickets t ≡ false → (among : Phase → Bool) (ts : List Task) → AreIn among t ts → AreIn among t (map (phased change tickets) ts)
  unturned change tickets isnt among ts h =
      in_map among among (phased change tickets) ts (phased_ticket change tickets)
      (λ x at k. ap (λ v. among (cond v (record x { phase = change x.phase }) x).phase) (ap (contains tickets) at ∙ isnt) ∙ k) h

  others_leave : (l : ℕ) (out : Bool) (r : Option Request) (tickets : List ℕ) (ts : List Task) → contains tickets t ≡ false → Lives l out ts → Lives l out (left_tasks r tickets ts)
  others_leave l out (Some r) tickets ts isnt h = record {
    fits = h.fits;
    live = λ none. unturned phase_taken_out tickets isnt is_live_phase ts (h.live none);
    left = λ is. unturned phase_taken_out tickets isnt is_left_phase ts (h.left is);
    past = λ some. unturned phase_taken_out tickets isnt is_past_phase ts (h.past some);
  }
  others_leave l out None tickets ts isnt h = record {
    fits = h.fits;
    live = λ none. unturned phase_completed tickets isnt is_live_phase ts (h.live none);
    left = λ is. unturned phase_completed tickets isnt is_left_phase ts (h.left is);
    past = λ some. unturned phase_completed tickets isnt is_past_phase ts (h.past some);
  }

  -- it is among them
  all_turn : (change : Phase → Phase) (q : Phase → Bool) → ((p : Phase) → is_live_phase p ≡ true → q (change p) ≡ true) → (tickets : List ℕ) → contains tickets t ≡ true → (ts : List Task) → AreIn is_live_phase t ts → AreIn q t (map (phased change tickets) ts)
  all_turn change q turns tickets is ts h =
      in_map is_live_phase q (phased change tickets) ts (phased_ticket change tickets)
      (λ x at k. ap (λ v. q (cond v (record x { phase = change x.phase }) x).phase) (ap (contains tickets) at ∙ is) ∙ turns x.phase k) h

  abbrev pub taken_by : Option Request → List ℕ → Bool
  taken_by r tickets = elim r [ Some q ↦ contains tickets t | None ↦ false ]

  it_leaves : (l n : ℕ) (out : Bool) (r : Option Request) (tickets : List ℕ) (ts : List Task) → contains tickets t ≡ true → 1 ≤ n → l + n ≤ 1 → Lives l out ts → Lives (l + n) (out || taken_by r tickets) (left_tasks r tickets ts)
  it_leaves l n out (Some r) tickets ts is some once h =
      let fresh : l ≡ 0 = omega (arith, some, once) in
      record {
        fits = λ e. omega (arith, some);
        live = λ none. absurd (omega (arith, none, some));
        left = λ e. all_turn phase_taken_out is_left_phase left_out tickets is ts (h.live fresh);
        past = λ e. all_turn phase_taken_out is_past_phase past_out tickets is ts (h.live fresh);
      }
  it_leaves l n out None tickets ts is some once h =
      let fresh : l ≡ 0 = omega (arith, some, once) in
      record {
        fits = λ e. omega (arith, some);
        live = λ none. absurd (omega (arith, none, some));
        left = λ e. let before : 1 ≤ l = h.fits (sym (or_false out) ∙ e) in absurd (omega (arith, before, fresh));
        past = λ e. all_turn phase_completed is_past_phase past_completed tickets is ts (h.live fresh);
      }

  untaken : (r : Option Request) (tickets : List ℕ) → contains tickets t ≡ false → taken_by r tickets ≡ false
  untaken (Some r) tickets isnt = isnt
  untaken None tickets isnt = refl

  pub lives_left : (l : ℕ) (out : Bool) (r : Option Request) (item : List Effect) (ts : List Task) → l + leaving t item ≤ 1 → Lives l out ts → Lives (l + leaving t item) (out || taken_by r (tickets_left item)) (left_tasks r (tickets_left item) ts)
  lives_left l out r item ts once h =
      elim (contains (tickets_left item) t) as (λ v. contains (tickets_left item) t ≡ v → Lives (l + leaving t item) (out || taken_by r (tickets_left item)) (left_tasks r (tickets_left item) ts)) [
        | true ↦ λ is. it_leaves l (leaving t item) out r (tickets_left item) ts is (counted_in (tickets_left item) is) once h
        | false ↦ λ isnt.
            let none : leaving t item ≡ 0 = uncounted (tickets_left item) isnt in
            moved l (l + leaving t item) out (out || taken_by r (tickets_left item)) (left_tasks r (tickets_left item) ts) (omega (arith, none))
            (sym (ap (λ v. out || v) (untaken r (tickets_left item) isnt) ∙ or_false out)) (others_leave l out r (tickets_left item) ts isnt h)
      ] refl

  -- ---- they enter

  pub lives_entered : (l : ℕ) (out : Bool) (r : Option Request) (item : List Effect) (ts : List Task) → (1 ≤ entered t item → l ≡ 0) → Lives l out ts → Lives l out (entered_tasks r item ts)
  lives_entered l out None item ts fresh h = h
  lives_entered l out (Some r) item ts fresh h = ⊎_elim others itself (none_or_some (entered t item))
    where
      new : List Task
      new = filter_map (task_entered r) item

      any_phase : (among : Phase → Bool) → entered t item ≡ 0 → AreIn among t new
      any_phase among none =
          each-weaken (λ (x : Task). x.ticket ≡ t → ⊥) (λ (x : Task). x.ticket ≡ t → among x.phase ≡ true) new (λ x no is. absurd (no is)) (none_of t new (count_entering t r item ∙ none))

      both : (among : Phase → Bool) → AreIn among t ts → AreIn among t new → AreIn among t (ts ++ new)
      both among old more = each-append (λ (x : Task). x.ticket ≡ t → among x.phase ≡ true) ts new old more

      others : entered t item ≡ 0 → Lives l out (ts ++ new)
      others none = record {
        fits = h.fits;
        live = λ z. both is_live_phase (h.live z) (any_phase is_live_phase none);
        left = λ is. both is_left_phase (h.left is) (any_phase is_left_phase none);
        past = λ some. both is_past_phase (h.past some) (any_phase is_past_phase none);
      }

      itself : 1 ≤ entered t item → Lives l out (ts ++ new)
      itself some =
          let none : l ≡ 0 = fresh some in
          record {
            fits = h.fits;
            live = λ z. both is_live_phase (h.live z) (each-weaken (λ (x : Task). x.phase ≡ Dormant) (λ (x : Task). x.ticket ≡ t → is_live_phase x.phase ≡ true) new (λ x is at. ap is_live_phase is) (dormant r item));
            left = λ is. let before : 1 ≤ l = h.fits is in absurd (omega (arith, before, none));
            past = λ before. absurd (omega (arith, before, none));
          }

  -- ---- items and calls

  pub lives_item : (o : Opening) (l : ℕ) (out : Bool) (b : Box) (item : List Effect) → l + leaving t item ≤ 1 → (1 ≤ entered t item → l + leaving t item ≡ 0) → Lives l out b.tasks
      → Lives (l + leaving t item) (out || is_taken_out_in t item) (after_item o b item).tasks
  lives_item o l out b item once fresh h =
      let r = executing item in
      let n : ℕ = l + leaving t item in
      let taken : Bool = out || is_taken_out_in t item in
      let left : List Task = left_tasks r (tickets_left item) b.tasks in
      let enabled : List ℕ = filter_map ticket_enabled item in
      subst (Lives n taken) (sym (item_tasks o b item))
      (turned n taken (entered_tasks r item left) (phased phase_enabled enabled) (phased_onward phase_enabled (λ among stays. stays.enabled) enabled) (phased_live phase_enabled live_enabled enabled)
      (lives_entered n taken r item left fresh (lives_left l out r item b.tasks once h)))

  lives_items : (o : Opening) (l : ℕ) (out : Bool) (b : Box) (items : List (List Effect)) → Fits t l items → Lives l out b.tasks
      → Lives (l + leavings t items) (out || list_any (is_taken_out_in t) items) (after_items o b items).tasks
  lives_items o l out b [] fits h = let z : l ≡ l + 0 = omega arith in moved l (l + 0) out (out || false) b.tasks z (sym (or_false out)) h
  lives_items o l out b (item ∷ items) fits h =
      let z : (l + leaving t item) + leavings t items ≡ l + (leaving t item + leavings t items) = omega arith in
      moved ((l + leaving t item) + leavings t items) (l + (leaving t item + leavings t items)) ((out || is_taken_out_in t item) || list_any (is_taken_out_in t) items) (out || (is_taken_out_in t item || list_any (is_taken_out_in t) items))
      (after_items o (after_item o b item) items).tasks z (or_assoc out (is_taken_out_in t item) (list_any (is_taken_out_in t) items))
      (lives_items o (l + leaving t item) (out || is_taken_out_in t item) (after_item o b item) items fits.1.1 (lives_item o l out b item fits.0 fits.1.0 h))

  pub lives_event : (o : Opening) (l : ℕ) (out : Bool) (b : Box) (effects : List Effect) (numbers : Numbers) → Fits t l (in_parts effects) → Lives l out b.tasks
      → Lives (l + leavings t (in_parts effects)) (out || list_any (is_taken_out_in t) (in_parts effects)) (after_event o b effects numbers).tasks
  lives_event o l out b effects numbers fits h =
      turned (l + leavings t (in_parts effects)) (out || list_any (is_taken_out_in t) (in_parts effects)) (after_items o b (in_parts effects)).tasks (λ x. record x { phase = phase_told x.phase })
      (λ x. record { ticket = refl; conn = refl; phase = λ among stays. stays.told x.phase }) (λ x. live_told x.phase) (lives_items o l out b (in_parts effects) fits h)

  -- nothing was taken, and no command changed
  still : (l : ℕ) (out : Bool) (ts us : List Task) → us ≡ ts → Lives l out ts → Lives (l + 0) (out || false) us
  still l out ts us same h = let z : l ≡ l + 0 = omega arith in moved l (l + 0) out (out || false) us z (sym (or_false out)) (subst (Lives l out) (sym same) h)

  pub lives_call : (o : Opening) (l : ℕ) (out : Bool) (b : Box) (call : Call) → Fits t l (items_of_call call) → Lives l out b.tasks
      → Lives (l + leavings t (items_of_call call)) (out || list_any (is_taken_out_in t) (items_of_call call)) (after_call o b call).tasks
  lives_call o l out b (Takes effects numbers) fits h = lives_event o l out b effects numbers fits h
  lives_call o l out b (Puts p) fits h = still l out b.tasks (after_call o b (Puts p)).tasks (put_tasks o b p) h
  lives_call o l out b (Stops ticket) fits h =
      cond_both (is_running b ticket) (settle o (in_phase phase_stopped (ticket ∷ []) b)) b (λ (x : Box). Lives (l + 0) (out || false) x.tasks)
      (λ is. still l out (map (phased phase_stopped (ticket ∷ [])) b.tasks) (settle o (in_phase phase_stopped (ticket ∷ []) b)).tasks (settled_tasks o (in_phase phase_stopped (ticket ∷ []) b))
      (turned l out b.tasks (phased phase_stopped (ticket ∷ [])) (phased_onward phase_stopped (λ among stays. stays.stopped) (ticket ∷ [])) (phased_live phase_stopped live_stopped (ticket ∷ [])) h))
      (λ is. still l out b.tasks b.tasks refl h)
  lives_call o l out b (Nexts conn) fits h =
      ⊎_elim (λ (k : Hand o b conn). still l out b.tasks (after_call o b (Nexts conn)).tasks (ap (λ (x : Box). x.tasks) k.after_is) h)
      (λ (k : Idle o b conn). still l out b.tasks (after_call o b (Nexts conn)).tasks (ap (λ (x : Box). x.tasks) k.after_is) h) (next o b conn)
  lives_call o l out b (Writes conn) fits h = still l out b.tasks (after_call o b (Writes conn)).tasks (settled_tasks o (record b { links = at_link conn one_written b.links })) h
  lives_call o l out b (Hears conn exp_stat_sn tag) fits h =
      still l out b.tasks (after_call o b (Hears conn exp_stat_sn tag)).tasks (settled_tasks o (record b { links = at_link conn (link_heard exp_stat_sn tag) b.links })) h
  lives_call o l out b (Joins conn stat_sn) fits h =
      cond_both (may_join b conn) (record b { links = at_link conn (link_joined stat_sn) b.links }) b (λ (x : Box). Lives (l + 0) (out || false) x.tasks)
      (λ is. still l out b.tasks b.tasks refl h) (λ is. still l out b.tasks b.tasks refl h)
  lives_call o l out b (Loses conn) fits h =
      still l out b.tasks (after_call o b (Loses conn)).tasks (settled_tasks o (drop_on conn (record b { links = at_link conn link_lost b.links; reached = 0 }))) h
  lives_call o l out b (Clears unit) fits h = still l out b.tasks (after_call o b (Clears unit)).tasks (settled_tasks o (record b { undue = cleared unit b.undue })) h

  pub lives_calls : (o : Opening) (l : ℕ) (out : Bool) (b : Box) (calls : List Call) → Fits t l (items_in (deeds_from o b calls)) → Lives l out b.tasks
      → Lives (l + leavings t (items_in (deeds_from o b calls))) (out || list_any (is_taken_out_in t) (items_in (deeds_from o b calls))) (after_calls o b calls).tasks
  lives_calls o l out b [] fits h = still l out b.tasks b.tasks refl h
  lives_calls o l out b (call ∷ calls) fits h =
      let now : List (List Effect) = items_of_call call in
      let then : List (List Effect) = items_in (deeds_from o (after_call o b call) calls) in
      let p : List Effect → Bool = is_taken_out_in t in
      let counted : leavings t (now ++ then) ≡ leavings t now + leavings t then = leavings-append t now then in
      moved ((l + leavings t now) + leavings t then) (l + leavings t (now ++ then)) ((out || list_any p now) || list_any p then) (out || list_any p (now ++ then)) (after_calls o (after_call o b call) calls).tasks
      (omega (arith, counted)) (or_assoc out (list_any p now) (list_any p then) ∙ ap (λ v. out || v) (sym (list_any-append p now then)))
      (lives_calls o (l + leavings t now) (out || list_any p now) (after_call o b call) calls (fits-second t l now then fits) (lives_call o l out b call (fits-first t l now then fits) h))

  -- before any call
  pub lives_start : Lives 0 false []
  lives_start = record {
    fits = λ is. absurd (false≢true is);
    live = λ none. tt;
    left = λ is. absurd (false≢true is);
    past = λ some. absurd (omega (arith, some));
  }
