-- The tickets of the live commands of the box are those of the session's live commands, after each event that is taken.
use Rattle.std.proofs.Common.{◌≡◌, ℕ, ◌+◌, ◌≤◌, ◌==◌, ◌||◌, not, cond, Bool, true, false, List, [], ◌∷◌, ◌++◌, map, filter, filter_map, count_by, length, Option, Some, None, refl, ap, sym, ◌∙◌, subst, arith, suc}
use Rattle.std.specs.List.{list_any, flat_map}
use Rattle.std.proofs.lemmas.List.{map-append, length-map}
use Rattle.std.proofs.lemmas.List.Folds.{list_any-append}
use Rattle.iscsi_rules.specs.declared.effect.Effect.{Effect}
use Rattle.iscsi_rules.specs.declared.effect.Effect.TheVariants.{Enable}
use Rattle.iscsi_rules.specs.rules.Settings.{Setting}
use Rattle.iscsi_rules.specs.rules.Trace.{Command, Mark, Admits, Delivers, Executes, Voids, Empties, Waits, Leaves, Enters, Sends, ClosesConn, ClosesSession, Ignores, Trace, enters, entered, leaves_ticket, has, live, is_among}
use Rattle.iscsi_rules.specs.rules.Run.{effects_of_mark, newly_enabled, effects_of_item}
use Rattle.iscsi_rules.proofs.general.BoolLemmas.{or_none}
use Rattle.iscsi_rules.proofs.general.CountLemmas.{one, count-cons}
use Rattle.iscsi_rules.proofs.general.ListLemmas.{filter-map, fewer_counted}
use Rattle.iscsi_rules.proofs.traces.TraceLemmas.{live-item}
use Rattle.iscsi_rules.proofs.promises.LifeLemmas.{among-mine, mine-none_counted, beyond_entered}
use Rattle.iscsi_rules.proofs.items.Forms.{AtTurn, AtArrival, AfterWaiting, Form, Ignored, Rejected, Received, Postponed, Completed, Executed, marks_of_form, IsFormed, HasForm, HaveForms, Each}
use Rattle.iscsi_rules.proofs.promises.NumberingLemmas.{to_list}
use Rattle.iscsi_rules.proofs.items.TouchLemmas.{leaving_in, entering_in, enters_form, leaves_form, leaving_few, EntersNext, entering_next}
use Rattle.iscsi_rules.specs.declared.event.Event.{Event}
use Rattle.iscsi_rules.specs.rules.Trace.{after_items}
use Rattle.iscsi_rules.specs.rules.Agenda.{items_of}
use Rattle.iscsi_rules.specs.rules.Run.{effects_of, entry_of, after_event}
use Rattle.iscsi_rules.specs.promises.Order.{in_parts}
use Rattle.iscsi_rules.proofs.items.FormRuns.{event_going}
use Rattle.iscsi_outbox_rules.specs.rules.Calls.{Opening}
use Rattle.iscsi_outbox_rules.specs.rules.Boxes.{Task, Box}
use Rattle.iscsi_outbox_rules.specs.rules.Words.{contains, is_live_phase}
use Rattle.iscsi_outbox_rules.specs.rules.Items.{executing, tickets_left, phase_told, after_item}
use Rattle.iscsi_outbox_rules.specs.rules.Items.{after_items as items_taken, after_event as event_taken}
use Rattle.iscsi_outbox_rules.proofs.closes.ClosedParts.{effects_each, Parts, event_parts}
use Rattle.iscsi_outbox_rules.proofs.room.RoomSends.{Formed}
use Rattle.iscsi_outbox_rules.proofs.room.RoomSends.{event_going as event_sends}
use Rattle.iscsi_outbox_rules.proofs.room.RoomTasks.{live_tickets, live_same, same_told, ticket_entered, tickets_entered, live_after_item}

abbrev pub tickets_of : List Command → List ℕ
tickets_of cs = map (λ (c : Command). c.ticket) cs

-- ---- what the effects of an item say of its marks

pub left_marks : (o : Setting) (t : Trace) (k : ℕ) (ms : List Mark) (cs : List Command)
    → contains (tickets_left (flat_map (effects_of_mark o t) ms ++ map (λ (c : Command). Enable c.ticket c.unit) cs)) k ≡ list_any (leaves_ticket k) ms
left_marks o t k [] cs = none cs
  where
    none : (ds : List Command) → contains (tickets_left (map (λ (c : Command). Enable c.ticket c.unit) ds)) k ≡ false
    none [] = refl
    none (d ∷ ds) = none ds
left_marks o t k (Admits a ∷ ms) cs = left_marks o t k ms cs
left_marks o t k (Delivers a ∷ ms) cs = left_marks o t k ms cs
left_marks o t k (Executes a ∷ ms) cs = left_marks o t k ms cs
left_marks o t k (Voids n ∷ ms) cs = left_marks o t k ms cs
left_marks o t k (Empties a ∷ ms) cs = left_marks o t k ms cs
left_marks o t k (Waits a ∷ ms) cs = left_marks o t k ms cs
left_marks o t k (Leaves c ∷ ms) cs = ap (λ b. (c.ticket == k) || b) (left_marks o t k ms cs)
left_marks o t k (Enters c ∷ ms) cs = left_marks o t k ms cs
left_marks o t k (Sends conn reply ∷ ms) cs = left_marks o t k ms cs
left_marks o t k (ClosesConn conn ∷ ms) cs = left_marks o t k ms cs
left_marks o t k (ClosesSession ∷ ms) cs = left_marks o t k ms cs
left_marks o t k (Ignores why ∷ ms) cs = left_marks o t k ms cs

entered_marks : (o : Setting) (t : Trace) (ms : List Mark) (cs : List Command)
    → filter_map ticket_entered (flat_map (effects_of_mark o t) ms ++ map (λ (c : Command). Enable c.ticket c.unit) cs) ≡ tickets_of (filter_map enters ms)
entered_marks o t [] cs = none cs
  where
    none : (ds : List Command) → filter_map ticket_entered (map (λ (c : Command). Enable c.ticket c.unit) ds) ≡ []
    none [] = refl
    none (d ∷ ds) = none ds
entered_marks o t (Admits a ∷ ms) cs = entered_marks o t ms cs
entered_marks o t (Delivers a ∷ ms) cs = entered_marks o t ms cs
entered_marks o t (Executes a ∷ ms) cs = entered_marks o t ms cs
entered_marks o t (Voids n ∷ ms) cs = entered_marks o t ms cs
entered_marks o t (Empties a ∷ ms) cs = entered_marks o t ms cs
entered_marks o t (Waits a ∷ ms) cs = entered_marks o t ms cs
entered_marks o t (Leaves c ∷ ms) cs = entered_marks o t ms cs
entered_marks o t (Enters c ∷ ms) cs = ap (λ ks. c.ticket ∷ ks) (entered_marks o t ms cs)
entered_marks o t (Sends conn reply ∷ ms) cs = entered_marks o t ms cs
entered_marks o t (ClosesConn conn ∷ ms) cs = entered_marks o t ms cs
entered_marks o t (ClosesSession ∷ ms) cs = entered_marks o t ms cs
entered_marks o t (Ignores why ∷ ms) cs = entered_marks o t ms cs

none_executing : (cs : List Command) → executing (map (λ (c : Command). Enable c.ticket c.unit) cs) ≡ None
none_executing [] = refl
none_executing (c ∷ cs) = refl

pub entered_form : (o : Setting) (t : Trace) (form : Form) → tickets_entered (executing (effects_of_item o t (marks_of_form form))) (effects_of_item o t (marks_of_form form)) ≡ tickets_of (filter_map enters (marks_of_form form))
entered_form o t (Ignored why) = refl
entered_form o t (Rejected a) = refl
entered_form o t (Received a) = ap (λ r. tickets_entered r (effects_of_item o t (marks_of_form (Received a)))) (none_executing (newly_enabled o t (marks_of_form (Received a))))
entered_form o t (Postponed a) = refl
entered_form o t (Completed c status) = refl
entered_form o t (Executed AtTurn a d) = entered_marks o t (marks_of_form (Executed AtTurn a d)) (newly_enabled o t (marks_of_form (Executed AtTurn a d)))
entered_form o t (Executed AtArrival a d) = entered_marks o t (marks_of_form (Executed AtArrival a d)) (newly_enabled o t (marks_of_form (Executed AtArrival a d)))
entered_form o t (Executed AfterWaiting a d) = entered_marks o t (marks_of_form (Executed AfterWaiting a d)) (newly_enabled o t (marks_of_form (Executed AfterWaiting a d)))

-- ---- what left had entered

pub none_counted : (k : ℕ) (cs : List Command) → is_among k cs ≡ false → count_by (λ (c : Command). c.ticket == k) cs ≤ 0
none_counted k [] h = omega arith
none_counted k (c ∷ cs) h =
    let parts = or_none (c.ticket == k) (is_among k cs) h in
    omega (arith, count-cons (λ (d : Command). d.ticket == k) c cs, ap one parts.0, none_counted k cs parts.1)

left_entered : (o : Setting) (k : ℕ) (t : Trace) (next : ℕ) → HaveForms o next t → is_among k (entered t) ≡ false → has (leaves_ticket k) t ≡ false
left_entered o k [] next h none = refl
left_entered o k (item ∷ t) next h none =
    let f : HasForm o h.0 t item = h.1.1.0 in
    let before = or_none (is_among k (entered t)) (is_among k (filter_map enters item)) (sym (list_any-append (λ (c : Command). c.ticket == k) (entered t) (filter_map enters item)) ∙ none) in
    let p : Command → Bool = λ c. c.ticket == k in
    let few : count_by p (leaving_in f.form) ≤ 0 = omega (arith, leaving_few o h.0 t f.form f.formed p, fewer_counted p (λ (c : Command). not (has (leaves_ticket c.ticket) t)) (entered t), none_counted k (entered t) before.0) in
    let now : list_any (leaves_ticket k) item ≡ false = ap (list_any (leaves_ticket k)) f.is ∙ leaves_form k f.form ∙ among-mine k (leaving_in f.form) (mine-none_counted k (leaving_in f.form) few) in
    ap (λ b. b || has (leaves_ticket k) t) now ∙ left_entered o k t _ h.1.1.1 before.0

-- ---- an item

filter-alike : {A : Type 0} (p q : A → Bool) (xs : List A) → ((x : A) → p x ≡ q x) → filter p xs ≡ filter q xs
filter-alike p q [] h = refl
filter-alike p q (x ∷ xs) h = ap (λ b. cond b (x ∷ filter p xs) (filter p xs)) (h x) ∙ ap (λ ys. cond (q x) (x ∷ ys) ys) (filter-alike p q xs h)

stays_entering : (o : Setting) (now next : ℕ) (t : Trace) (form : Form) → HaveForms o next t → IsFormed o now t form
    → filter (λ (c : Command). not (has (leaves_ticket c.ticket) (marks_of_form form ∷ t))) (filter_map enters (marks_of_form form)) ≡ filter_map enters (marks_of_form form)
stays_entering o now next t form forms x =
    ap (filter stays) (enters_form form) ∙ by_entering (entering_in form) (entering_next o now t form x) ∙ sym (enters_form form)
  where
    stays : Command → Bool
    stays = λ c. not (has (leaves_ticket c.ticket) (marks_of_form form ∷ t))

    by_entering : (y : Option Command) → Each (EntersNext o t form) y → filter (λ (c : Command). not (has (leaves_ticket c.ticket) (marks_of_form form ∷ t))) (to_list y) ≡ to_list y
    by_entering None e = refl
    by_entering (Some c) e =
        let now_none : list_any (leaves_ticket c.ticket) (marks_of_form form) ≡ false = leaves_form c.ticket form ∙ ap (is_among c.ticket) e.stays in
        let before : has (leaves_ticket c.ticket) t ≡ false = left_entered o c.ticket t next forms (beyond_entered o t next forms c.ticket (omega (arith, e.next))) in
        ap (λ b. cond (not b) (c ∷ []) []) (ap (λ b. b || has (leaves_ticket c.ticket) t) now_none ∙ before)

pub live_tickets_item : (o : Setting) (now next : ℕ) (t : Trace) (item : List Mark) → HaveForms o next t → HasForm o now t item
    → tickets_of (live (item ∷ t)) ≡ filter (λ k. not (contains (tickets_left (effects_of_item o t item)) k)) (tickets_of (live t)) ++ tickets_entered (executing (effects_of_item o t item)) (effects_of_item o t item)
live_tickets_item o now next t item forms f =
    subst (λ ms. tickets_of (live (ms ∷ t)) ≡ filter (λ k. not (contains (tickets_left (effects_of_item o t ms)) k)) (tickets_of (live t)) ++ tickets_entered (executing (effects_of_item o t ms)) (effects_of_item o t ms)) (sym f.is) by_form
  where
    ms : List Mark
    ms = marks_of_form f.form

    by_form : tickets_of (live (marks_of_form f.form ∷ t)) ≡ filter (λ k. not (contains (tickets_left (effects_of_item o t (marks_of_form f.form))) k)) (tickets_of (live t)) ++ tickets_entered (executing (effects_of_item o t (marks_of_form f.form))) (effects_of_item o t (marks_of_form f.form))
    by_form =
        let is : List Mark = marks_of_form f.form in
        let out : Command → Bool = λ c. not (list_any (leaves_ticket c.ticket) is) in
        let gone : ℕ → Bool = λ k. not (contains (tickets_left (effects_of_item o t is)) k) in
        ap tickets_of (live-item is t ∙ ap (λ cs. filter out (live t) ++ cs) (stays_entering o now next t f.form forms f.formed))
        ∙ map-append (λ (c : Command). c.ticket) (filter out (live t)) (filter_map enters is)
        ∙ ap (λ ks. ks ++ tickets_of (filter_map enters is))
        (ap tickets_of (filter-alike out (λ c. gone c.ticket) (live t) (λ c. ap not (sym (left_marks o t c.ticket is (newly_enabled o t is))))) ∙ sym (filter-map gone (λ (c : Command). c.ticket) (live t)))
        ∙ ap (λ ks. filter gone (tickets_of (live t)) ++ ks) (sym (entered_form o t f.form))

-- ---- an event

module _ (o : Opening) where
  pub forms_below : (items : List (List Mark)) (t : Trace) (next : ℕ) → HaveForms o.session next (after_items items t) → (m : ℕ) × HaveForms o.session m t
  forms_below [] t next h = (next, h)
  forms_below (item ∷ items) t next h = let k = forms_below items (item ∷ t) next h in (_, k.1.1.1.1)

  pub first_form : (items : List (List Mark)) (item : List Mark) (t : Trace) (next : ℕ) → HaveForms o.session next (after_items items (item ∷ t)) → (now : ℕ) × HasForm o.session now t item
  first_form items item t next h = let k = forms_below items (item ∷ t) next h in (k.1.0, k.1.1.1.0)

  -- the same commands are live in both
  abbrev pub SameLive : Box → Trace → Type 0
  SameLive b t = live_tickets b.tasks ≡ tickets_of (live t)

  lives_items : (items : List (List Mark)) (t : Trace) (b : Box) (next : ℕ) → HaveForms o.session next (after_items items t) → SameLive b t → SameLive (items_taken o b (effects_each o.session t items)) (after_items items t)
  lives_items [] t b next forms h = h
  lives_items (item ∷ items) t b next forms h =
      let before = forms_below (item ∷ items) t next forms in
      let f = first_form items item t next forms in
      let es : List Effect = effects_of_item o.session t item in
      lives_items items (item ∷ t) (after_item o b es) next forms
      (live_after_item o b es ∙ ap (λ ks. filter (λ k. not (contains (tickets_left es) k)) ks ++ tickets_entered (executing es) es) h ∙ sym (live_tickets_item o.session f.0 before.0 t item before.1 f.1))

  every : (ks : List ℕ) → filter (λ k. true) ks ++ [] ≡ ks
  every [] = refl
  every (k ∷ ks) = ap (λ js. k ∷ js) (every ks)

  pub lives_event : (now : ℕ) (t : Trace) (e : Event) (b : Box) → HaveForms o.session now t → SameLive b t → let entry = entry_of o.session now t e in SameLive (event_taken o b entry.effects entry.numbers) (after_event o.session now t e)
  lives_event now t e b forms h =
      let items : List (List Mark) = items_of o.session now t e in
      let effects : List Effect = effects_of o.session t items in
      let parts : Parts o.session t items = event_parts o.session (Formed o.session (λ c. false)) (λ u item x. x) now t e (event_sends o.session (λ c. false) now t e).each in
      live_same (λ (x : Task). record x { phase = phase_told x.phase }) (λ x. (refl, same_told x.phase)) (items_taken o b (in_parts effects)).tasks
      ∙ by_lead parts.lead (in_parts effects) parts.are
    where
      by_lead : (v : Bool) (ps : List (List Effect)) → ps ≡ cond v ([] ∷ effects_each o.session t (items_of o.session now t e)) (effects_each o.session t (items_of o.session now t e))
          → SameLive (items_taken o b ps) (after_event o.session now t e)
      by_lead false ps is = ap (λ qs. live_tickets (items_taken o b qs).tasks) is ∙ lives_items (items_of o.session now t e) t b (now + 1) (event_going o.session now t e forms) h
      by_lead true ps is =
          ap (λ qs. live_tickets (items_taken o b qs).tasks) is
          ∙ lives_items (items_of o.session now t e) t (after_item o b []) (now + 1) (event_going o.session now t e forms) (live_after_item o b [] ∙ every (live_tickets b.tasks) ∙ h)

  live_counted : (ts : List Task) → count_by (λ (x : Task). is_live_phase x.phase) ts ≡ length (live_tickets ts)
  live_counted [] = refl
  live_counted (x ∷ ts) =
      count-cons (λ (y : Task). is_live_phase y.phase) x ts
      ∙ elim (is_live_phase x.phase) as (λ v. one v + count_by (λ (y : Task). is_live_phase y.phase) ts ≡ length (map (λ (y : Task). y.ticket) (cond v (x ∷ filter (λ (y : Task). is_live_phase y.phase) ts) (filter (λ (y : Task). is_live_phase y.phase) ts)))) [
        | true ↦ (let z : 1 + count_by (λ (y : Task). is_live_phase y.phase) ts ≡ suc (length (live_tickets ts)) = omega (arith, live_counted ts) in z)
        | false ↦ (let z : 0 + count_by (λ (y : Task). is_live_phase y.phase) ts ≡ length (live_tickets ts) = omega (arith, live_counted ts) in z)
      ]

  -- so as many are live
  pub same_count : (b : Box) (t : Trace) → SameLive b t → count_by (λ (x : Task). is_live_phase x.phase) b.tasks ≡ length (live t)
  same_count b t h = live_counted b.tasks ∙ ap length h ∙ length-map (live t) (λ (c : Command). c.ticket)
