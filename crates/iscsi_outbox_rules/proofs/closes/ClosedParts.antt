-- The parts of a log are the effects of its items: what each item keeps, its part keeps.
use Rattle.std.proofs.Common.{◌≡◌, ℕ, zero, suc, ◌+◌, ◌-◌, ◌==◌, ◌||◌, cond, Bool, true, false, List, [], ◌∷◌, ◌++◌, map, filter, filter_map, Option, Some, None, refl, ap, sym, subst, ◌∙◌, nat_lt}
use Rattle.std.specs.List.{list_any, list_all, flat_map}
use Rattle.std.proofs.lemmas.Bool.{false≢true}
use Rattle.std.proofs.lemmas.List.{append_assoc, append-nil}
use Rattle.iscsi_wire.specs.Fields.{connection_of, is_immediate, request_of}
use Rattle.iscsi_wire.specs.declared.reply.Reply.{Reply}
use Rattle.iscsi_rules.specs.declared.effect.Effect.{Effect}
use Rattle.iscsi_rules.specs.declared.effect.Effect.TheVariants.{Enable}
use Rattle.iscsi_rules.specs.declared.effect.Why.TheVariants.{Outside, Duplicate, Closed, Data}
use Rattle.iscsi_rules.specs.declared.entry.Entry.{Entry}
use Rattle.iscsi_rules.specs.declared.event.Event.{Event}
use Rattle.iscsi_rules.specs.declared.event.Event.TheVariants.{Arrive, Done}
use Rattle.iscsi_rules.specs.declared.kind.Kind.{Kind}
use Rattle.iscsi_rules.specs.declared.kind.Kind.TheVariants.{PassedOver, Unknown, Executes as ExecutesKind}
use Rattle.iscsi_rules.specs.rules.Settings.{Setting}
use Rattle.iscsi_rules.specs.rules.Trace.{Arrival, Command, Mark, Admits, Delivers, Executes, Voids, Empties, Waits, Leaves, Enters, Sends, ClosesConn, ClosesSession, Ignores, Trace, after_items, is_received, held, waiting, is_closed}
use Rattle.iscsi_rules.specs.rules.Execution.{exp_of, max_of, rejected, ignored, completion}
use Rattle.iscsi_rules.specs.rules.Items.{immediate_item, function_item, item_of, is_waiting, functions, functions_at, turn_at, at_number, agenda}
use Rattle.iscsi_rules.specs.rules.Agenda.{with_turns, kind_of, arrival, arrival_of, command_of, items_of}
use Rattle.iscsi_rules.specs.rules.Run.{after_event, after_events, effects_of_mark, newly_enabled, effects_of_item, effects_of, entries_from, trace_of, run_of}
use Rattle.iscsi_rules.specs.promises.Order.{is_request, onto_first, in_parts}
use Rattle.iscsi_rules.proofs.general.BoolLemmas.{and_parts, and_both}
use Rattle.iscsi_rules.proofs.items.Forms.{AtTurn, AtArrival, AfterWaiting, Deeds, if_some, marks_done, Form, Ignored, Rejected, Received, Postponed, Completed, Executed, marks_of_form, HasForm}
use Rattle.iscsi_rules.proofs.promises.ReplyForms.{replies_seen}

-- ---- requests among the effects of an item

-- the request that a mark shows
abbrev asking : Mark → Option Arrival
asking (Delivers a) = Some a
asking (Executes a) = Some a
asking (Waits a) = Some a
asking _ = None

abbrev Unasked : List Effect → Type 0
Unasked es = list_any is_request es ≡ false

-- the first asks, and no other
record Asked (es : List Effect) : Type 0 where
  first : Effect
  rest : List Effect
  are : es ≡ first ∷ rest
  asks : is_request first ≡ true
  later : Unasked rest

abbrev pub enables : List Command → List Effect
enables cs = map (λ (c : Command). Enable c.ticket c.unit) cs

unasked_enables : (cs : List Command) → Unasked (enables cs)
unasked_enables [] = refl
unasked_enables (c ∷ cs) = unasked_enables cs

unasked_marks : (o : Setting) (t : Trace) (ms : List Mark) (cs : List Command) → filter_map asking ms ≡ [] → Unasked (flat_map (effects_of_mark o t) ms ++ enables cs)
unasked_marks o t [] cs h = unasked_enables cs
unasked_marks o t (Admits a ∷ ms) cs h = unasked_marks o t ms cs h
unasked_marks o t (Delivers a ∷ ms) cs h = absurd cc
unasked_marks o t (Executes a ∷ ms) cs h = absurd cc
unasked_marks o t (Waits a ∷ ms) cs h = absurd cc
unasked_marks o t (Voids n ∷ ms) cs h = unasked_marks o t ms cs h
unasked_marks o t (Empties a ∷ ms) cs h = unasked_marks o t ms cs h
unasked_marks o t (Leaves c ∷ ms) cs h = unasked_marks o t ms cs h
unasked_marks o t (Enters c ∷ ms) cs h = unasked_marks o t ms cs h
unasked_marks o t (Sends conn reply ∷ ms) cs h = unasked_marks o t ms cs h
unasked_marks o t (ClosesConn conn ∷ ms) cs h = unasked_marks o t ms cs h
unasked_marks o t (ClosesSession ∷ ms) cs h = unasked_marks o t ms cs h
unasked_marks o t (Ignores why ∷ ms) cs h = unasked_marks o t ms cs h

done_unasked : (a : Arrival) (d : Deeds) → filter_map asking (marks_done a d) ≡ []
done_unasked a d = replies_seen asking (λ n. refl) (λ c. refl) (λ b. refl) (λ c. refl) (λ conn. refl) refl a d ∙ by_reply d.reply
  where
    by_reply : (x : Option Reply) → filter_map asking (if_some (Sends (connection_of a.request)) x) ≡ []
    by_reply None = refl
    by_reply (Some reply) = refl

abbrev begins : List Mark → Bool
begins (Delivers a ∷ ms) = true
begins (Executes a ∷ ms) = true
begins _ = false

-- an item that begins with a request has no other, and one that doesn't has none, or is of a function that waits
asked_form : (o : Setting) (t : Trace) (form : Form) → begins (marks_of_form form) ≡ true → Asked (effects_of_item o t (marks_of_form form))
asked_form o t (Ignored why) h = absurd (false≢true h)
asked_form o t (Rejected a) h = absurd (false≢true h)
asked_form o t (Received a) h = absurd (false≢true h)
asked_form o t (Postponed a) h = absurd (false≢true h)
asked_form o t (Completed c status) h = absurd (false≢true h)
asked_form o t (Executed AtTurn a d) h = record { first = _; rest = _; are = refl; asks = refl; later = unasked_marks o t (marks_done a d) (newly_enabled o t (marks_of_form (Executed AtTurn a d))) (done_unasked a d) }
asked_form o t (Executed AtArrival a d) h = record { first = _; rest = _; are = refl; asks = refl; later = unasked_marks o t (marks_done a d) (newly_enabled o t (marks_of_form (Executed AtArrival a d))) (done_unasked a d) }
asked_form o t (Executed AfterWaiting a d) h = record { first = _; rest = _; are = refl; asks = refl; later = unasked_marks o t (marks_done a d) (newly_enabled o t (marks_of_form (Executed AfterWaiting a d))) (done_unasked a d) }

-- what a first item may be
data Leading (es : List Effect) : Type 0 where
  Plain : Unasked es → Leading es
  Led : Asked es → Leading es

leading_form : (o : Setting) (t : Trace) (form : Form) → Leading (effects_of_item o t (marks_of_form form))
leading_form o t (Ignored why) = Plain (unasked_marks o t (marks_of_form (Ignored why)) (newly_enabled o t (marks_of_form (Ignored why))) refl)
leading_form o t (Rejected a) = Plain (unasked_marks o t (marks_of_form (Rejected a)) (newly_enabled o t (marks_of_form (Rejected a))) refl)
leading_form o t (Received a) = Plain (unasked_marks o t (marks_of_form (Received a)) (newly_enabled o t (marks_of_form (Received a))) refl)
leading_form o t (Postponed a) = Led (record { first = _; rest = _; are = refl; asks = refl; later = unasked_enables (newly_enabled o t (marks_of_form (Postponed a))) })
leading_form o t (Completed c status) = Plain (unasked_marks o t (marks_of_form (Completed c status)) (newly_enabled o t (marks_of_form (Completed c status))) refl)
leading_form o t (Executed AtTurn a d) = Led (asked_form o t (Executed AtTurn a d) refl)
leading_form o t (Executed AtArrival a d) = Led (asked_form o t (Executed AtArrival a d) refl)
leading_form o t (Executed AfterWaiting a d) = Led (asked_form o t (Executed AfterWaiting a d) refl)

-- ---- the items of an event: all but the first begin with a request

begins_functions : (o : Setting) (as' : List Arrival) (t : Trace) → list_all begins (functions o as' t) ≡ true
begins_functions o [] t = refl
begins_functions o (a ∷ as') t =
    elim (is_waiting a t) as (λ b. list_all begins (let due : List (List Mark) = cond b (function_item o t a ∷ []) [] in due ++ functions o as' (after_items due t)) ≡ true) [
      | true ↦ begins_functions o as' (function_item o t a ∷ t)
      | false ↦ begins_functions o as' t
    ]

both_begin : (xs ys : List (List Mark)) → list_all begins xs ≡ true → list_all begins ys ≡ true → list_all begins (xs ++ ys) ≡ true
both_begin [] ys h k = k
both_begin (x ∷ xs) ys h k = let parts = and_parts (begins x) (list_all begins xs) h in and_both (begins x) (list_all begins (xs ++ ys)) parts.0 (both_begin xs ys parts.1 k)

begins_turn : (o : Setting) (n : ℕ) (t : Trace) → list_all begins (turn_at o n t) ≡ true
begins_turn o n t = elim (held t n) as (λ y. list_all begins (elim y [ Some a ↦ item_of o t a ∷ [] | None ↦ [] ]) ≡ true) [ Some a ↦ refl | None ↦ refl ]

begins_at : (o : Setting) (n : ℕ) (t : Trace) → list_all begins (at_number o n t) ≡ true
begins_at o n t =
    let before : List (List Mark) = functions_at o n t in
    both_begin before (turn_at o n (after_items before t)) (begins_functions o (filter (λ a. a.number == n) (waiting t)) t) (begins_turn o n (after_items before t))

begins_agenda : (o : Setting) (n m : ℕ) (t : Trace) → list_all begins (agenda o n m t) ≡ true
begins_agenda o n zero t = begins_functions o (filter (λ a. a.number == n) (waiting t)) t
begins_agenda o n (suc m) t =
    let now : List (List Mark) = at_number o n t in
    both_begin now (agenda o (n + 1) m (after_items now t)) (begins_at o n t) (begins_agenda o (n + 1) m (after_items now t))

record AreLed (items : List (List Mark)) : Type 0 where
  first : List Mark
  rest : List (List Mark)
  are : items ≡ first ∷ rest
  begin : list_all begins rest ≡ true

alone : (item : List Mark) → AreLed (item ∷ [])
alone item = record { first = item; rest = []; are = refl; begin = refl }

turns_led : (o : Setting) (t : Trace) (item : List Mark) → AreLed (with_turns o t item)
turns_led o t item = record {
  first = item;
  rest = agenda o (exp_of o t) (exp_of o (item ∷ t) - exp_of o t) (item ∷ t);
  are = refl;
  begin = begins_agenda o (exp_of o t) (exp_of o (item ∷ t) - exp_of o t) (item ∷ t);
}

arrival_led : (o : Setting) (t : Trace) (a : Arrival) → AreLed (arrival o t a)
arrival_led o t a = by_tests (is_closed (connection_of a.request) t) (kind_of a.request) (is_immediate a.request) (nat_lt a.number (exp_of o t) || nat_lt (max_of o t) a.number) (is_received t a.number)
  where
    by_numbered : (d e : Bool) → AreLed (cond d (ignored Outside) (cond e (ignored Duplicate) (with_turns o t (Admits a ∷ []))))
    by_numbered true e = alone _
    by_numbered false true = alone _
    by_numbered false false = turns_led o t (Admits a ∷ [])

    by_kind : (k : Kind) (c d e : Bool) → AreLed (elim k [
      | PassedOver ↦ ignored Data
      | Unknown ↦ rejected a ∷ []
      | ExecutesKind ↦ cond c (with_turns o t (immediate_item o t a)) (cond d (ignored Outside) (cond e (ignored Duplicate) (with_turns o t (Admits a ∷ []))))
    ])
    by_kind PassedOver c d e = alone _
    by_kind Unknown c d e = alone _
    by_kind ExecutesKind true d e = turns_led o t (immediate_item o t a)
    by_kind ExecutesKind false d e = by_numbered d e

    by_tests : (b : Bool) (k : Kind) (c d e : Bool) → AreLed (cond b (ignored Closed) (elim k [
      | PassedOver ↦ ignored Data
      | Unknown ↦ rejected a ∷ []
      | ExecutesKind ↦ cond c (with_turns o t (immediate_item o t a)) (cond d (ignored Outside) (cond e (ignored Duplicate) (with_turns o t (Admits a ∷ []))))
    ]))
    by_tests true k c d e = alone _
    by_tests false k c d e = by_kind k c d e

event_led : (o : Setting) (now : ℕ) (t : Trace) (e : Event) → AreLed (items_of o now t e)
event_led o now t (Arrive conn header) = arrival_led o t (arrival_of o now t (request_of conn header))
event_led o now t (Done ticket status) = elim (command_of t ticket) as (λ y. AreLed (completion status y)) [ Some c ↦ alone _ | None ↦ alone _ ]

-- ---- the parts of an event

-- of each of these items, after t, its effects
abbrev pub effects_each : Setting → Trace → List (List Mark) → List (List Effect)
effects_each o t [] = []
effects_each o t (item ∷ items) = effects_of_item o t item ∷ effects_each o (item ∷ t) items

parts-unasked : (xs ys : List Effect) (parts : List (List Effect)) → Unasked xs → in_parts ys ≡ [] ∷ parts → in_parts (xs ++ ys) ≡ xs ∷ parts
parts-unasked [] ys parts none f = f
parts-unasked (e ∷ xs) ys parts none f =
    elim (is_request e) as (λ b. (b || list_any is_request xs) ≡ false → cond b ([] ∷ onto_first e (in_parts (xs ++ ys))) (onto_first e (in_parts (xs ++ ys))) ≡ (e ∷ xs) ∷ parts) [
      | true ↦ λ asked. absurd (false≢true (sym asked))
      | false ↦ λ rest. ap (onto_first e) (parts-unasked xs ys parts rest f)
    ] none

parts-asked : (xs ys : List Effect) (parts : List (List Effect)) → Asked xs → in_parts ys ≡ [] ∷ parts → in_parts (xs ++ ys) ≡ [] ∷ xs ∷ parts
parts-asked xs ys parts a f =
    ap (λ es. in_parts (es ++ ys)) a.are
    ∙ ap (λ b. cond b ([] ∷ onto_first a.first (in_parts (a.rest ++ ys))) (onto_first a.first (in_parts (a.rest ++ ys)))) a.asks
    ∙ ap (λ ps. [] ∷ onto_first a.first ps) (parts-unasked a.rest ys parts a.later f)
    ∙ ap (λ es. [] ∷ es ∷ parts) (sym a.are)

-- ---- what holds of each part, by those before it

abbrev pub EachAt : (List (List Effect) → List Effect → Type 0) → List (List Effect) → List (List Effect) → Type 0
EachAt G before [] = Unit {0}
EachAt G before (part ∷ parts) = G before part × EachAt G (before ++ part ∷ []) parts

at-append : (G : List (List Effect) → List Effect → Type 0) (before xs ys : List (List Effect)) → EachAt G before xs → EachAt G (before ++ xs) ys → EachAt G before (xs ++ ys)
at-append G before [] ys h k = subst (λ b. EachAt G b ys) (append-nil before) k
at-append G before (x ∷ xs) ys h k = (h.0, at-append G (before ++ x ∷ []) xs ys h.1 (subst (λ b. EachAt G b ys) (sym (append_assoc before (x ∷ []) xs)) k))

at-from : (G : List (List Effect) → List Effect → Type 0) (start before rest : List (List Effect)) (part : List Effect) → EachAt G start (before ++ part ∷ rest) → G (start ++ before) part
at-from G start [] rest part h = subst (λ b. G b part) (sym (append-nil start)) h.0
at-from G start (x ∷ before) rest part h = subst (λ b. G b part) (append_assoc start (x ∷ []) before) (at-from G (start ++ x ∷ []) before rest part h.1)

pub each-at : (G : List (List Effect) → List Effect → Type 0) (all before rest : List (List Effect)) (part : List Effect) → EachAt G [] all → before ++ part ∷ rest ≡ all → G before part
each-at G all before rest part h whole = at-from G [] before rest part (subst (EachAt G []) (sym whole) h)

-- ---- what holds of each item, after the trace before it

abbrev pub EachItem : (Trace → List Mark → Type 0) → Trace → Type 0
EachItem F [] = Unit {0}
EachItem F (item ∷ t) = F t item × EachItem F t

-- of each of these items after a trace
abbrev pub EachOn : (Trace → List Mark → Type 0) → Trace → List (List Mark) → Type 0
EachOn F t [] = Unit {0}
EachOn F t (item ∷ items) = F t item × EachOn F (item ∷ t) items

parted : (F : Trace → List Mark → Type 0) (t : Trace) (items : List (List Mark)) → EachItem F (after_items items t) → EachItem F t × EachOn F t items
parted F t [] x = (x, tt)
parted F t (item ∷ items) x = let p = parted F (item ∷ t) items x in (p.0.1, (p.0.0, p.1))

earlier : (F : Trace → List Mark → Type 0) (o : Setting) (now : ℕ) (t : Trace) (h : List Event) → EachItem F (after_events o now t h) → EachItem F t
earlier F o now t [] x = x
earlier F o now t (e ∷ h) x = (parted F t (items_of o now t e) (earlier F o (now + 1) (after_event o now t e) h x)).0

-- ---- the parts of an event

-- an event's parts are its items' effects, with an empty part before those of a request
pub record Parts (o : Setting) (t : Trace) (items : List (List Mark)) : Type 0 where
  pub lead : Bool
  pub are : in_parts (effects_of o t items) ≡ cond lead ([] ∷ effects_each o t items) (effects_each o t items)

module _ (o : Setting) (F : Trace → List Mark → Type 0) (formed : (t : Trace) (item : List Mark) → F t item → (now : ℕ) × HasForm o now t item) where
  fresh : (t : Trace) (items : List (List Mark)) → list_all begins items ≡ true → EachOn F t items → in_parts (effects_of o t items) ≡ [] ∷ effects_each o t items
  fresh t [] h x = refl
  fresh t (item ∷ items) h x =
      let parts = and_parts (begins item) (list_all begins items) h in
      parts-asked (effects_of_item o t item) (effects_of o (item ∷ t) items) (effects_each o (item ∷ t) items) (asked (formed t item x.0) parts.0) (fresh (item ∷ t) items parts.1 x.1)
    where
      asked : (now : ℕ) × HasForm o now t item → begins item ≡ true → Asked (effects_of_item o t item)
      asked f is = subst (λ ms. Asked (effects_of_item o t ms)) (sym f.1.is) (asked_form o t f.1.form (sym (ap begins f.1.is) ∙ is))

  pub event_parts : (now : ℕ) (t : Trace) (e : Event) → EachOn F t (items_of o now t e) → Parts o t (items_of o now t e)
  event_parts now t e x =
      let led : AreLed (items_of o now t e) = event_led o now t e in
      subst (Parts o t) (sym led.are) (of_led led.first led.rest led.begin (subst (EachOn F t) led.are x))
    where
      by_first : (first : List Mark) (rest : List (List Mark)) → in_parts (effects_of o (first ∷ t) rest) ≡ [] ∷ effects_each o (first ∷ t) rest → Leading (effects_of_item o t first) → Parts o t (first ∷ rest)
      by_first first rest later (Plain none) = record { lead = false; are = parts-unasked (effects_of_item o t first) (effects_of o (first ∷ t) rest) (effects_each o (first ∷ t) rest) none later }
      by_first first rest later (Led asked) = record { lead = true; are = parts-asked (effects_of_item o t first) (effects_of o (first ∷ t) rest) (effects_each o (first ∷ t) rest) asked later }

      leading : (item : List Mark) → (now : ℕ) × HasForm o now t item → Leading (effects_of_item o t item)
      leading item f = subst (λ ms. Leading (effects_of_item o t ms)) (sym f.1.is) (leading_form o t f.1.form)

      of_led : (first : List Mark) (rest : List (List Mark)) → list_all begins rest ≡ true → EachOn F t (first ∷ rest) → Parts o t (first ∷ rest)
      of_led first rest h y = by_first first rest (fresh (first ∷ t) rest h y.1) (leading first (formed t first y.0))

-- ---- along the log

-- `I` stands between the parts so far and the trace, and `G` comes of each part
pub record PartWalk (o : Setting) (F : Trace → List Mark → Type 0) (I : List (List Effect) → Trace → Type 0) (G : List (List Effect) → List Effect → Type 0) : Type 0 where
  pub none : (parts : List (List Effect)) (t : Trace) → I parts t → G parts [] × I (parts ++ [] ∷ []) t
  pub one : (parts : List (List Effect)) (t : Trace) (item : List Mark) → F t item → I parts t → G parts (effects_of_item o t item) × I (parts ++ effects_of_item o t item ∷ []) (item ∷ t)

module _ (o : Setting) (F : Trace → List Mark → Type 0) (formed : (t : Trace) (item : List Mark) → F t item → (now : ℕ) × HasForm o now t item) (I : List (List Effect) → Trace → Type 0)
    (G : List (List Effect) → List Effect → Type 0) (w : PartWalk o F I G) where
  walk_items : (parts : List (List Effect)) (t : Trace) (items : List (List Mark)) → EachOn F t items → I parts t → EachAt G parts (effects_each o t items) × I (parts ++ effects_each o t items) (after_items items t)
  walk_items parts t [] x h = (tt, subst (λ ps. I ps t) (sym (append-nil parts)) h)
  walk_items parts t (item ∷ items) x h =
      let now = w.one parts t item x.0 h in
      let later = walk_items (parts ++ effects_of_item o t item ∷ []) (item ∷ t) items x.1 now.1 in
      ((now.0, later.0), subst (λ ps. I ps (after_items items (item ∷ t))) (append_assoc parts (effects_of_item o t item ∷ []) (effects_each o (item ∷ t) items)) later.1)

  -- what an event gives
  abbrev Given : List (List Effect) → Trace → List (List Effect) → Type 0
  Given parts t more = EachAt G parts more × I (parts ++ more) t

  walk_event : (parts : List (List Effect)) (now : ℕ) (t : Trace) (e : Event) → EachOn F t (items_of o now t e) → I parts t → Given parts (after_event o now t e) (in_parts (effects_of o t (items_of o now t e)))
  walk_event parts now t e x h =
      let p : Parts o t (items_of o now t e) = event_parts o F formed now t e x in
      subst (Given parts (after_event o now t e)) (sym p.are) (by_lead p.lead)
    where
      items : List (List Mark)
      items = items_of o now t e

      by_lead : (v : Bool) → Given parts (after_event o now t e) (cond v ([] ∷ effects_each o t items) (effects_each o t items))
      by_lead false = walk_items parts t items x h
      by_lead true =
          let first = w.none parts t h in
          let later = walk_items (parts ++ [] ∷ []) t items x first.1 in
          ((first.0, later.0), subst (λ ps. I ps (after_items items t)) (append_assoc parts ([] ∷ []) (effects_each o t items)) later.1)

  walk_events : (parts : List (List Effect)) (now : ℕ) (t : Trace) (h : List Event) → EachItem F (after_events o now t h) → I parts t → EachAt G parts (flat_map (λ (n : Entry). in_parts n.effects) (entries_from o now t h))
  walk_events parts now t [] x i = tt
  walk_events parts now t (e ∷ h) x i =
      let on : EachOn F t (items_of o now t e) = (parted F t (items_of o now t e) (earlier F o (now + 1) (after_event o now t e) h x)).1 in
      let first : Given parts (after_event o now t e) (in_parts (effects_of o t (items_of o now t e))) = walk_event parts now t e on i in
      at-append G parts (in_parts (effects_of o t (items_of o now t e))) (flat_map (λ (n : Entry). in_parts n.effects) (entries_from o (now + 1) (after_event o now t e) h))
      first.0 (walk_events (parts ++ in_parts (effects_of o t (items_of o now t e))) (now + 1) (after_event o now t e) h x first.1)

  -- of all parts of the log of these events
  pub walk_log : (h : List Event) → EachItem F (trace_of o h) → I [] [] → EachAt G [] (flat_map (λ (n : Entry). in_parts n.effects) (run_of o h))
  walk_log h x i = walk_events [] 0 [] h x i
