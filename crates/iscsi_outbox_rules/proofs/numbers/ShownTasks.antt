-- The commands that entered are the same in the box and in the session, and numbered in both or in neither.
use Rattle.std.proofs.Common.{◌≡◌, ℕ, ◌+◌, ◌≤◌, ◌==◌, ◌&&◌, ◌||◌, ⊎_elim, not, cond, Bool, true, false, List, [], ◌∷◌, ◌++◌, map, filter_map, count_by, length, Option, Some, None, refl, ap, sym, subst, ◌∙◌, arith, eq-eqb}
use Rattle.std.specs.List.{list_any, flat_map}
use Rattle.std.proofs.lemmas.Bool.{cond_both, false≢true}
use Rattle.std.proofs.lemmas.List.{append-nil, map-append}
use Rattle.iscsi_wire.specs.Fields.{is_immediate}
use Rattle.iscsi_wire.specs.declared.request.Request.{Request}
use Rattle.iscsi_rules.specs.declared.effect.Effect.{Effect}
use Rattle.iscsi_rules.specs.declared.effect.Effect.TheVariants.{Enable}
use Rattle.iscsi_rules.specs.declared.event.Event.{Event}
use Rattle.iscsi_rules.specs.rules.Settings.{Setting}
use Rattle.iscsi_rules.specs.rules.Trace.{Arrival, Command, Mark, Admits, Delivers, Executes, Voids, Empties, Waits, Leaves, Enters, Sends, ClosesConn, ClosesSession, Ignores, Trace, after_items, enters, entered}
use Rattle.iscsi_rules.specs.rules.Agenda.{items_of}
use Rattle.iscsi_rules.specs.rules.Run.{effects_of_mark, newly_enabled, effects_of_item, effects_of, entry_of, after_event}
use Rattle.iscsi_rules.specs.promises.Order.{in_parts}
use Rattle.iscsi_rules.proofs.general.CountLemmas.{one, count-cons, count-one}
use Rattle.iscsi_rules.proofs.general.ListLemmas.{list_any-map, count_by-map}
use Rattle.iscsi_rules.proofs.traces.ApartLemmas.{eq_sym}
use Rattle.iscsi_rules.proofs.general.ElementLemmas.{In}
use Rattle.iscsi_rules.proofs.promises.NumberingLemmas.{to_list}
use Rattle.iscsi_rules.proofs.promises.LifeLemmas.{tickets_count}
use Rattle.iscsi_rules.proofs.items.TouchLemmas.{enters_form}
use Rattle.iscsi_rules.proofs.items.Forms.{Start, AtTurn, AtArrival, AfterWaiting, Deeds, Form, Ignored, Rejected, Received, Postponed, Completed, Executed, marks_of_form, Each, EntersAs, IsFormed, HaveForms}
use Rattle.iscsi_outbox_rules.specs.rules.Calls.{Opening, Call, Takes, Puts, Stops, Nexts, Writes, Hears, Joins, Loses, Clears}
use Rattle.iscsi_outbox_rules.specs.rules.Boxes.{Phase, Task, Box}
use Rattle.iscsi_outbox_rules.specs.rules.Words.{contains, is_running}
use Rattle.iscsi_outbox_rules.specs.rules.Queues.{at_link, drop_on}
use Rattle.iscsi_outbox_rules.specs.rules.Due.{settle}
use Rattle.iscsi_outbox_rules.specs.rules.Items.{executing, tickets_left, ticket_enabled, task_entered, is_numbered, phase_taken_out, phase_completed, phase_enabled, phase_told, in_phase, after_item}
use Rattle.iscsi_outbox_rules.specs.rules.Items.{after_items as items_taken, after_event as event_taken}
use Rattle.iscsi_outbox_rules.specs.rules.Run.{after_call, phase_stopped, one_written, link_heard, may_join, link_joined, link_lost, cleared}
use Rattle.iscsi_outbox_rules.specs.promises.Room.{is_other}
use Rattle.iscsi_outbox_rules.proofs.general.Cuts.{Hand, Idle, next}
use Rattle.iscsi_outbox_rules.proofs.commands.TicketLemmas.{in_range_once}
use Rattle.iscsi_outbox_rules.proofs.general.TaskWalks.{phased}
use Rattle.iscsi_outbox_rules.proofs.commands.TaskRuns.{put_tasks}
use Rattle.iscsi_outbox_rules.proofs.commands.TaskLives.{settled_tasks, left_tasks, entered_tasks, item_tasks}
use Rattle.iscsi_outbox_rules.proofs.closes.ClosedParts.{effects_each, EachOn, Parts, event_parts}
use Rattle.iscsi_outbox_rules.proofs.room.RoomSends.{Formed}
use Rattle.iscsi_outbox_rules.proofs.room.RoomSends.{event_going as event_sends}

-- the tickets, and whether they are of numbered commands
abbrev pub numbered_tasks : List Task → List (ℕ × Bool)
numbered_tasks ts = map (λ (x : Task). (x.ticket, x.numbered)) ts

abbrev pub numbered_commands : List Command → List (ℕ × Bool)
numbered_commands cs = map (λ (c : Command). (c.ticket, not (is_immediate c.arrival.request))) cs

abbrev pub SameNumbered : Box → Trace → Type 0
SameNumbered b t = numbered_tasks b.tasks ≡ numbered_commands (entered t)

-- ---- commands that come to other phases

same_map : (change : Task → Task) → ((x : Task) → ((change x).ticket ≡ x.ticket) × ((change x).numbered ≡ x.numbered)) → (ts : List Task) → numbered_tasks (map change ts) ≡ numbered_tasks ts
same_map change same [] = refl
same_map change same (x ∷ ts) =
    ap (λ n. (n, (change x).numbered) ∷ numbered_tasks (map change ts)) (same x).0 ∙ ap (λ v. (x.ticket, v) ∷ numbered_tasks (map change ts)) (same x).1
    ∙ ap (λ ps. (x.ticket, x.numbered) ∷ ps) (same_map change same ts)

phased_same : (change : Phase → Phase) (tickets : List ℕ) (ts : List Task) → numbered_tasks (map (phased change tickets) ts) ≡ numbered_tasks ts
phased_same change tickets ts =
    same_map (phased change tickets) (λ x. cond_both (contains tickets x.ticket) (record x { phase = change x.phase }) x (λ (y : Task). (y.ticket ≡ x.ticket) × (y.numbered ≡ x.numbered)) (λ is. (refl, refl)) (λ is. (refl, refl))) ts

-- some are completed
pub same_completed : (tickets : List ℕ) (b : Box) (t : Trace) → SameNumbered b t → SameNumbered (in_phase phase_completed tickets b) t
same_completed tickets b t h = phased_same phase_completed tickets b.tasks ∙ h

-- ---- an item

-- the commands that enter while a request executes
abbrev entering : Option Request → List Effect → List (ℕ × Bool)
entering (Some r) item = numbered_tasks (filter_map (task_entered r) item)
entering None item = []

left_same : (r : Option Request) (tickets : List ℕ) (ts : List Task) → numbered_tasks (left_tasks r tickets ts) ≡ numbered_tasks ts
left_same (Some r) tickets ts = phased_same phase_taken_out tickets ts
left_same None tickets ts = phased_same phase_completed tickets ts

entered_more : (r : Option Request) (item : List Effect) (ts : List Task) → numbered_tasks (entered_tasks r item ts) ≡ numbered_tasks ts ++ entering r item
entered_more (Some r) item ts = map-append (λ (x : Task). (x.ticket, x.numbered)) ts (filter_map (task_entered r) item)
entered_more None item ts = sym (append-nil (numbered_tasks ts))

tasks_item : (o : Opening) (b : Box) (item : List Effect) → numbered_tasks (after_item o b item).tasks ≡ numbered_tasks b.tasks ++ entering (executing item) item
tasks_item o b item =
    let left : List Task = left_tasks (executing item) (tickets_left item) b.tasks in
    ap numbered_tasks (item_tasks o b item) ∙ phased_same phase_enabled (filter_map ticket_enabled item) (entered_tasks (executing item) item left)
    ∙ entered_more (executing item) item left ∙ ap (λ ps. ps ++ entering (executing item) item) (left_same (executing item) (tickets_left item) b.tasks)

entering_marks : (o : Setting) (t : Trace) (r : Request) (ms : List Mark) (cs : List Command)
    → numbered_tasks (filter_map (task_entered r) (flat_map (effects_of_mark o t) ms ++ map (λ (c : Command). Enable c.ticket c.unit) cs)) ≡ map (λ (c : Command). (c.ticket, not (is_immediate r))) (filter_map enters ms)
entering_marks o t r [] cs = none cs
  where
    none : (ds : List Command) → numbered_tasks (filter_map (task_entered r) (map (λ (c : Command). Enable c.ticket c.unit) ds)) ≡ []
    none [] = refl
    none (d ∷ ds) = none ds
entering_marks o t r (Admits a ∷ ms) cs = entering_marks o t r ms cs
entering_marks o t r (Delivers a ∷ ms) cs = entering_marks o t r ms cs
entering_marks o t r (Executes a ∷ ms) cs = entering_marks o t r ms cs
entering_marks o t r (Voids n ∷ ms) cs = entering_marks o t r ms cs
entering_marks o t r (Empties a ∷ ms) cs = entering_marks o t r ms cs
entering_marks o t r (Waits a ∷ ms) cs = entering_marks o t r ms cs
entering_marks o t r (Leaves c ∷ ms) cs = entering_marks o t r ms cs
entering_marks o t r (Enters c ∷ ms) cs = ap (λ ps. (c.ticket, not (is_immediate r)) ∷ ps) (entering_marks o t r ms cs)
entering_marks o t r (Sends conn reply ∷ ms) cs = entering_marks o t r ms cs
entering_marks o t r (ClosesConn conn ∷ ms) cs = entering_marks o t r ms cs
entering_marks o t r (ClosesSession ∷ ms) cs = entering_marks o t r ms cs
entering_marks o t r (Ignores why ∷ ms) cs = entering_marks o t r ms cs

-- a command that enters is of the request that executes
of_request : (o : Setting) (t : Trace) (a : Arrival) (d : Deeds) (y : Option Command) → Each (EntersAs o t a d) y → map (λ (c : Command). (c.ticket, not (is_immediate a.request))) (to_list y) ≡ numbered_commands (to_list y)
of_request o t a d None e = refl
of_request o t a d (Some c) e = ap (λ (b : Arrival). (c.ticket, not (is_immediate b.request)) ∷ []) (sym (ap (λ (z : Command). z.arrival) e.next))

entering_form : (o : Setting) (now : ℕ) (t : Trace) (form : Form) → IsFormed o now t form
    → entering (executing (effects_of_item o t (marks_of_form form))) (effects_of_item o t (marks_of_form form)) ≡ numbered_commands (filter_map enters (marks_of_form form))
entering_form o now t (Ignored why) x = refl
entering_form o now t (Rejected a) x = refl
entering_form o now t (Received a) x = none (newly_enabled o t (marks_of_form (Received a)))
  where
    none : (cs : List Command) → entering (executing (map (λ (c : Command). Enable c.ticket c.unit) cs)) (map (λ (c : Command). Enable c.ticket c.unit) cs) ≡ []
    none [] = refl
    none (c ∷ cs) = refl
entering_form o now t (Postponed a) x = refl
entering_form o now t (Completed c status) x = refl
entering_form o now t (Executed start a d) x = by_start start
  where
    enter : (ms : List Mark) → filter_map enters ms ≡ to_list d.entering → numbered_tasks (filter_map (task_entered a.request) (effects_of_item o t ms)) ≡ numbered_commands (filter_map enters ms)
    enter ms is =
        entering_marks o t a.request ms (newly_enabled o t ms) ∙ ap (map (λ (c : Command). (c.ticket, not (is_immediate a.request)))) is ∙ of_request o t a d d.entering x.1.enters ∙ ap numbered_commands (sym is)

    by_start : (s : Start) → entering (executing (effects_of_item o t (marks_of_form (Executed s a d)))) (effects_of_item o t (marks_of_form (Executed s a d))) ≡ numbered_commands (filter_map enters (marks_of_form (Executed s a d)))
    by_start AtTurn = enter (marks_of_form (Executed AtTurn a d)) (enters_form (Executed AtTurn a d))
    by_start AtArrival = enter (marks_of_form (Executed AtArrival a d)) (enters_form (Executed AtArrival a d))
    by_start AfterWaiting = enter (marks_of_form (Executed AfterWaiting a d)) (enters_form (Executed AfterWaiting a d))

-- ---- an event

module _ (o : Opening) where
  -- what enters nothing
  pub same_nothing : (b : Box) (t : Trace) → SameNumbered b t → SameNumbered (after_item o b []) t
  same_nothing b t h = tasks_item o b [] ∙ append-nil (numbered_tasks b.tasks) ∙ h

  same_item : (t : Trace) (item : List Mark) (b : Box) → Formed o.session (λ c. false) t item → SameNumbered b t → SameNumbered (after_item o b (effects_of_item o.session t item)) (item ∷ t)
  same_item t item b f h =
      let es : List Effect = effects_of_item o.session t item in
      let enter : entering (executing es) es ≡ numbered_commands (filter_map enters item)
      = subst (λ ms. entering (executing (effects_of_item o.session t ms)) (effects_of_item o.session t ms) ≡ numbered_commands (filter_map enters ms)) (sym f.1.is) (entering_form o.session f.0 t f.1.form f.1.formed) in
      tasks_item o b es ∙ ap (λ ps. ps ++ entering (executing es) es) h ∙ ap (λ ps. numbered_commands (entered t) ++ ps) enter
      ∙ sym (map-append (λ (c : Command). (c.ticket, not (is_immediate c.arrival.request))) (entered t) (filter_map enters item))

  same_items : (items : List (List Mark)) (t : Trace) (b : Box) → EachOn (Formed o.session (λ c. false)) t items → SameNumbered b t → SameNumbered (items_taken o b (effects_each o.session t items)) (after_items items t)
  same_items [] t b x h = h
  same_items (item ∷ items) t b x h = same_items items (item ∷ t) (after_item o b (effects_of_item o.session t item)) x.1 (same_item t item b x.0 h)

  pub same_event : (now : ℕ) (t : Trace) (e : Event) (b : Box) → SameNumbered b t → let entry = entry_of o.session now t e in SameNumbered (event_taken o b entry.effects entry.numbers) (after_event o.session now t e)
  same_event now t e b h =
      let items : List (List Mark) = items_of o.session now t e in
      let effects : List Effect = effects_of o.session t items in
      let each : EachOn (Formed o.session (λ c. false)) t items = (event_sends o.session (λ c. false) now t e).each in
      let parts : Parts o.session t items = event_parts o.session (Formed o.session (λ c. false)) (λ u item x. x) now t e each in
      same_map (λ (x : Task). record x { phase = phase_told x.phase }) (λ x. (refl, refl)) (items_taken o b (in_parts effects)).tasks
      ∙ by_lead each parts.lead (in_parts effects) parts.are
    where
      by_lead : EachOn (Formed o.session (λ c. false)) t (items_of o.session now t e) → (v : Bool) (ps : List (List Effect)) → ps ≡ cond v ([] ∷ effects_each o.session t (items_of o.session now t e)) (effects_each o.session t (items_of o.session now t e))
          → SameNumbered (items_taken o b ps) (after_event o.session now t e)
      by_lead each false ps is = ap (λ qs. numbered_tasks (items_taken o b qs).tasks) is ∙ same_items (items_of o.session now t e) t b each h
      by_lead each true ps is =
          ap (λ qs. numbered_tasks (items_taken o b qs).tasks) is
          ∙ same_items (items_of o.session now t e) t (after_item o b []) each (same_nothing b t h)

  -- ---- any other call

  pub same_call : (b : Box) (c : Call) → is_other c ≡ true → numbered_tasks (after_call o b c).tasks ≡ numbered_tasks b.tasks
  same_call b (Takes effects numbers) is = absurd (false≢true is)
  same_call b (Puts p) is = ap numbered_tasks (put_tasks o b p)
  same_call b (Stops ticket) is =
      cond_both (is_running b ticket) (settle o (in_phase phase_stopped (ticket ∷ []) b)) b (λ (x : Box). numbered_tasks x.tasks ≡ numbered_tasks b.tasks)
      (λ runs. ap numbered_tasks (settled_tasks o (in_phase phase_stopped (ticket ∷ []) b)) ∙ phased_same phase_stopped (ticket ∷ []) b.tasks) (λ runs. refl)
  same_call b (Nexts conn) is =
      ap numbered_tasks (⊎_elim (λ (k : Hand o b conn). ap (λ (x : Box). x.tasks) k.after_is) (λ (k : Idle o b conn). ap (λ (x : Box). x.tasks) k.after_is) (next o b conn))
  same_call b (Writes conn) is = ap numbered_tasks (settled_tasks o (record b { links = at_link conn one_written b.links }))
  same_call b (Hears conn exp_stat_sn tag) is = ap numbered_tasks (settled_tasks o (record b { links = at_link conn (link_heard exp_stat_sn tag) b.links }))
  same_call b (Joins conn stat_sn) is = cond_both (may_join b conn) (record b { links = at_link conn (link_joined stat_sn) b.links }) b (λ (x : Box). numbered_tasks x.tasks ≡ numbered_tasks b.tasks) (λ may. refl) (λ may. refl)
  same_call b (Loses conn) is = ap numbered_tasks (settled_tasks o (drop_on conn (record b { links = at_link conn link_lost b.links; reached = 0 })))
  same_call b (Clears unit) is = ap numbered_tasks (settled_tasks o (record b { undue = cleared unit b.undue }))

-- ---- a command that is completed

-- a numbered command has this ticket, as `is_numbered` looks for it
abbrev is_numbered_with : ℕ → Command → Bool
is_numbered_with k d = ((k == d.ticket) || false) && not (is_immediate d.arrival.request)

abbrev has_ticket : ℕ → Command → Bool
has_ticket k d = d.ticket == k

none_of : (v : Bool) → one v ≤ 0 → v ≡ false
none_of true few = absurd (omega (arith, few))
none_of false few = refl

none_numbered : (k : ℕ) (cs : List Command) → count_by (has_ticket k) cs ≤ 0 → list_any (is_numbered_with k) cs ≡ false
none_numbered k [] few = refl
none_numbered k (d ∷ ds) few =
    let all : count_by (has_ticket k) (d ∷ ds) ≡ one (d.ticket == k) + count_by (has_ticket k) ds = count-cons (has_ticket k) d ds in
    let apart : (k == d.ticket) ≡ false = eq_sym k d.ticket ∙ none_of (d.ticket == k) (omega (arith, all, few)) in
    ap (λ v. ((v || false) && not (is_immediate d.arrival.request)) || list_any (is_numbered_with k) ds) apart ∙ none_numbered k ds (omega (arith, all, few))

-- no other has its ticket, so its reply is numbered as it is
only_one : (cs : List Command) (c : Command) → In c cs → count_by (has_ticket c.ticket) cs ≤ 1 → one (list_any (is_numbered_with c.ticket) cs) ≤ one (not (is_immediate c.arrival.request))
only_one [] c there few = absurd there
only_one (x ∷ cs) c there few =
    let all : count_by (has_ticket c.ticket) (x ∷ cs) ≡ one (x.ticket == c.ticket) + count_by (has_ticket c.ticket) cs = count-cons (has_ticket c.ticket) x cs in
    ⊎_elim
    (λ same. here same (omega (arith, all, few, ap one (let z : (x.ticket == c.ticket) ≡ true = eq-eqb x.ticket c.ticket (ap (λ (d : Command). d.ticket) same) in z))))
    (λ later. behind (omega (arith, all, few, count-one (has_ticket c.ticket) cs c later (eq-eqb c.ticket c.ticket refl))) (only_one cs c later (omega (arith, all, few)))) there
  where
    here : x ≡ c → count_by (has_ticket c.ticket) cs ≤ 0 → one (list_any (is_numbered_with c.ticket) (x ∷ cs)) ≤ one (not (is_immediate c.arrival.request))
    here same none =
        subst (λ y. one (is_numbered_with c.ticket y || list_any (is_numbered_with c.ticket) cs) ≤ one (not (is_immediate c.arrival.request))) (sym same)
        (by_tests (c.ticket == c.ticket) (not (is_immediate c.arrival.request)) (list_any (is_numbered_with c.ticket) cs) (none_numbered c.ticket cs none))
      where
        by_tests : (v w z : Bool) → z ≡ false → one (((v || false) && w) || z) ≤ one w
        by_tests v w true is = absurd (false≢true (sym is))
        by_tests true true false is = omega arith
        by_tests true false false is = omega arith
        by_tests false true false is = omega arith
        by_tests false false false is = omega arith

    behind : one (x.ticket == c.ticket) ≤ 0 → one (list_any (is_numbered_with c.ticket) cs) ≤ one (not (is_immediate c.arrival.request)) → one (list_any (is_numbered_with c.ticket) (x ∷ cs)) ≤ one (not (is_immediate c.arrival.request))
    behind apart rest =
        subst (λ v. one (((v || false) && not (is_immediate x.arrival.request)) || list_any (is_numbered_with c.ticket) cs) ≤ one (not (is_immediate c.arrival.request)))
        (sym (eq_sym c.ticket x.ticket ∙ none_of (x.ticket == c.ticket) apart)) rest

pub completed_numbered : (o : Setting) (t : Trace) (next : ℕ) (b : Box) (c : Command) → HaveForms o next t → SameNumbered b t → In c (entered t) → one (is_numbered b None (c.ticket ∷ [])) ≤ one (not (is_immediate c.arrival.request))
completed_numbered o t next b c forms same there =
    let once : count_by (has_ticket c.ticket) (entered t) ≤ 1
    = subst (λ n. n ≤ 1) (ap (count_by (λ k. k == c.ticket)) (sym (tickets_count o t next forms)) ∙ count_by-map (λ k. k == c.ticket) (λ (d : Command). d.ticket) (entered t)) (in_range_once c.ticket 1 (length (entered t))) in
    let test : (ℕ × Bool) → Bool = λ p. ((c.ticket == p.0) || false) && p.1 in
    let is : is_numbered b None (c.ticket ∷ []) ≡ list_any (is_numbered_with c.ticket) (entered t)
    = sym (list_any-map test (λ (x : Task). (x.ticket, x.numbered)) b.tasks) ∙ ap (list_any test) same ∙ list_any-map test (λ (d : Command). (d.ticket, not (is_immediate d.arrival.request))) (entered t) in
    omega (arith, ap one is, only_one (entered t) c there once)
