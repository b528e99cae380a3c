-- A command's SCSI Response goes out on the connection on which it entered: so it is in the log of a session.
use Rattle.std.proofs.Common.{◌≡◌, ℕ, ◌==◌, ◌+◌, ◌≤◌, inl, ⊎_elim, cond, Bool, true, false, List, [], ◌∷◌, ◌++◌, map, length, filter_map, count_by, not, Option, Some, None, refl, ap, sym, subst, ◌∙◌, arith, eq-eqb}
use Rattle.std.specs.List.{flat_map}
use Rattle.std.proofs.lemmas.Bool.{false≢true, eqb-true}
use Rattle.std.proofs.lemmas.List.{append-nil}
use Rattle.std.proofs.lemmas.List.Elements.{filter_map-append}
use Rattle.std.proofs.lemmas.List.Sums.{sum_by-cons}
use Rattle.iscsi_wire.specs.declared.reply.Reply.{Reply}
use Rattle.iscsi_wire.specs.declared.request.Request.{Request}
use Rattle.iscsi_wire.specs.Fields.{connection_of}
use Rattle.iscsi_rules.specs.declared.effect.Effect.{Effect}
use Rattle.iscsi_rules.specs.declared.entry.Entry.{Entry}
use Rattle.iscsi_rules.specs.declared.event.Event.{Event}
use Rattle.iscsi_rules.specs.rules.Settings.{Setting}
use Rattle.iscsi_rules.specs.rules.Trace.{Arrival, Command, Mark, Admits, Delivers, Executes, Voids, Empties, Waits, Leaves, Enters, Sends, ClosesConn, ClosesSession, Ignores, Trace, first_of, has, enters, entered as entered_so_far, leaves_ticket, live}
use Rattle.iscsi_rules.specs.rules.Run.{effects_of_mark, newly_enabled, effects_of_item, trace_of, run_of}
use Rattle.iscsi_rules.specs.promises.Lives.{ticket_entered, tickets_entered}
use Rattle.iscsi_rules.specs.promises.Order.{in_parts}
use Rattle.iscsi_rules.proofs.general.ElementLemmas.{In, in-filter, append-in_first, append-in_second}
use Rattle.iscsi_rules.proofs.items.Forms.{Start, AtTurn, AtArrival, AfterWaiting, Deeds, Form, Ignored, Rejected, Received, Postponed, Completed, Executed, marks_of_form, Each, EntersAs, IsFormed, HasForm, HaveForms}
use Rattle.iscsi_rules.proofs.items.FormRuns.{trace_has_forms}
use Rattle.iscsi_rules.proofs.promises.LifeLemmas.{tickets_count}
use Rattle.iscsi_rules.proofs.promises.NumberingLemmas.{to_list}
use Rattle.iscsi_rules.proofs.items.TouchLemmas.{entering_in, enable_effect, enters_form}
use Rattle.iscsi_outbox_rules.specs.rules.Calls.{Opening, Call}
use Rattle.iscsi_outbox_rules.specs.rules.Items.{executing, tickets_left, reply_sent}
use Rattle.iscsi_outbox_rules.specs.rules.Run.{opened}
use Rattle.iscsi_outbox_rules.specs.promises.Deeds.{deeds_of, items_in, entry_taken, FollowsSession}
use Rattle.iscsi_outbox_rules.specs.promises.Scope.{completed_in}
use Rattle.iscsi_outbox_rules.proofs.general.EachLemmas.{EachOf}
use Rattle.iscsi_outbox_rules.proofs.order.SentLemmas.{items_logged}
use Rattle.iscsi_outbox_rules.proofs.commands.TicketLemmas.{entered, in_range_once}
use Rattle.iscsi_outbox_rules.proofs.closes.ClosedParts.{EachAt, EachItem, walk_log}

-- ---- what effects show of commands

tickets_of_marks : (o : Setting) (t : Trace) (ms : List Mark) → tickets_entered (flat_map (effects_of_mark o t) ms) ≡ map (λ (c : Command). c.ticket) (filter_map enters ms)
tickets_of_marks o t [] = refl
tickets_of_marks o t (Admits a ∷ ms) = tickets_of_marks o t ms
tickets_of_marks o t (Delivers a ∷ ms) = tickets_of_marks o t ms
tickets_of_marks o t (Executes a ∷ ms) = tickets_of_marks o t ms
tickets_of_marks o t (Voids n ∷ ms) = tickets_of_marks o t ms
tickets_of_marks o t (Empties a ∷ ms) = tickets_of_marks o t ms
tickets_of_marks o t (Waits a ∷ ms) = tickets_of_marks o t ms
tickets_of_marks o t (Leaves c ∷ ms) = tickets_of_marks o t ms
tickets_of_marks o t (Enters c ∷ ms) = ap (λ ns. c.ticket ∷ ns) (tickets_of_marks o t ms)
tickets_of_marks o t (Sends conn reply ∷ ms) = tickets_of_marks o t ms
tickets_of_marks o t (ClosesConn conn ∷ ms) = tickets_of_marks o t ms
tickets_of_marks o t (ClosesSession ∷ ms) = tickets_of_marks o t ms
tickets_of_marks o t (Ignores why ∷ ms) = tickets_of_marks o t ms

none_enters : (cs : List Command) → tickets_entered (map enable_effect cs) ≡ []
none_enters [] = refl
none_enters (c ∷ cs) = none_enters cs

pub none_leaves : (cs : List Command) → tickets_left (map enable_effect cs) ≡ []
none_leaves [] = refl
none_leaves (c ∷ cs) = none_leaves cs

pub none_executes : (cs : List Command) → executing (map enable_effect cs) ≡ None
none_executes [] = refl
none_executes (c ∷ cs) = refl

tickets_of_form : (o : Setting) (t : Trace) (form : Form) → tickets_entered (effects_of_item o t (marks_of_form form)) ≡ map (λ (c : Command). c.ticket) (to_list (entering_in form))
tickets_of_form o t form =
    filter_map-append ticket_entered (flat_map (effects_of_mark o t) (marks_of_form form)) (map enable_effect (newly_enabled o t (marks_of_form form)))
    ∙ ap (λ ns. tickets_entered (flat_map (effects_of_mark o t) (marks_of_form form)) ++ ns) (none_enters (newly_enabled o t (marks_of_form form)))
    ∙ append-nil (tickets_entered (flat_map (effects_of_mark o t) (marks_of_form form))) ∙ tickets_of_marks o t (marks_of_form form)
    ∙ ap (map (λ (c : Command). c.ticket)) (enters_form form)

same_request : (r q : Request) → Some r ≡ Some q → r ≡ q
same_request r q h = cc

same_number : (n m : ℕ) → Some n ≡ Some m → n ≡ m
same_number n m h = cc

-- `F` holds of the connection on which the command came
module _ (k : ℕ) (F : ℕ → Type 0) where
  abbrev Home : Trace → Type 0
  Home t = (d : Command) → In d (entered_so_far t) → d.ticket ≡ k → F (connection_of d.arrival.request)

  home_before : (item : List Mark) (t : Trace) → Home (item ∷ t) → Home t
  home_before item t h d there same = h d (append-in_first (entered_so_far t) (filter_map enters item) d there) same

  -- so it enters on such a one, and a reply in the item of its completion goes out on such a one
  abbrev pub EntersWith : List Effect → Type 0
  EntersWith item = (r : Request) → executing item ≡ Some r → 1 ≤ entered k item → F (connection_of r)

  abbrev pub RepliesOn : List Effect → Type 0
  RepliesOn item = completed_in item ≡ Some k → (conn : ℕ) (reply : Reply) → first_of (filter_map reply_sent item) ≡ Some (conn, reply) → F conn

  abbrev pub StaysHome : List Effect → Type 0
  StaysHome item = EntersWith item × RepliesOn item

  stays_nothing : StaysHome []
  stays_nothing = ((λ r is some. absurd (let no : None ≡ Some r = is in cc)), (λ is conn reply sent. absurd (let no : None ≡ Some k = is in cc)))

  -- no request executes, and nothing leaves
  stays_idle : (es : List Effect) → executing es ≡ None → tickets_left es ≡ [] → StaysHome es
  stays_idle es none unleft = (
    (λ r is some. absurd (let no : None ≡ Some r = sym none ∙ is in cc)),
    (λ is conn reply sent.
        let shown : completed_in es ≡ None = ap (λ x. elim x [ Some r ↦ None | None ↦ first_of (tickets_left es) ]) none ∙ ap first_of unleft in
        absurd (let no : None ≡ Some k = sym shown ∙ is in cc)),
  )

  -- a completion
  stays_completed : (o : Setting) (t : Trace) (d : Command) (status : ℕ) → In d (live t) → Home t → StaysHome (effects_of_item o t (marks_of_form (Completed d status)))
  stays_completed o t d status lives home = (
    (λ r is some. absurd (let no : None ≡ Some r = is in cc)),
    (λ is conn reply sent.
        let same : d.ticket ≡ k = same_number d.ticket k is in
        let there = in-filter (λ (e : Command). not (has (leaves_ticket e.ticket) t)) (entered_so_far t) d lives in
        let shown : conn ≡ connection_of d.arrival.request = sym (ap (λ (x : Option (ℕ × Reply)). elim x [ Some p ↦ p.0 | None ↦ 0 ]) sent) in
        subst F (sym shown) (home d there.0 same)),
  )

  -- a request that executes
  counted : (y : Option Command) → count_by (λ j. j == k) (map (λ (e : Command). e.ticket) (to_list y)) ≡ elim y [ Some e ↦ cond {A = ℕ} (e.ticket == k) 1 0 | None ↦ 0 ]
  counted None = refl
  counted (Some e) = let one : count_by (λ j. j == k) (e.ticket ∷ []) ≡ cond {A = ℕ} (e.ticket == k) 1 0 + 0 = sum_by-cons (λ j. cond (j == k) 1 0) e.ticket [] in omega (arith, one)

  comes_on : (o : Setting) (t : Trace) (start : Start) (a : Arrival) (d : Deeds) (y : Option Command) → d.entering ≡ y → Each (EntersAs o t a d) y → Home (marks_of_form (Executed start a d) ∷ t)
      → 1 ≤ elim y [ Some e ↦ cond {A = ℕ} (e.ticket == k) 1 0 | None ↦ 0 ] → F (connection_of a.request)
  comes_on o t start a d None is e home some = let z : 1 ≤ 0 = some in absurd (omega (arith, z))
  comes_on o t start a d (Some x) is e home some =
      elim (x.ticket == k) as (λ v. (x.ticket == k) ≡ v → 1 ≤ cond {A = ℕ} v 1 0 → F (connection_of a.request)) [
        | true ↦ λ same more.
            let form : Form = Executed start a d in
            let these : filter_map enters (marks_of_form form) ≡ x ∷ [] = enters_form form ∙ ap (λ z. to_list z) is in
            let there : In x (entered_so_far (marks_of_form form ∷ t)) =
            append-in_second (entered_so_far t) (filter_map enters (marks_of_form form)) x (subst (In x) (sym these) (inl refl)) in
            subst F (ap (λ (z : Command). connection_of z.arrival.request) e.next) (home x there (eqb-true x.ticket k same))
        | false ↦ λ apart more. let z : 1 ≤ 0 = more in absurd (omega (arith, z))
      ] refl some

  stays_executed : (o : Setting) (t : Trace) (start : Start) (a : Arrival) (d : Deeds) → Each (EntersAs o t a d) d.entering → Home (marks_of_form (Executed start a d) ∷ t)
      → executing (effects_of_item o t (marks_of_form (Executed start a d))) ≡ Some a.request → StaysHome (effects_of_item o t (marks_of_form (Executed start a d)))
  stays_executed o t start a d e home begun = (
    (λ r is some.
        let form : Form = Executed start a d in
        let all : entered k (effects_of_item o t (marks_of_form form)) ≡ elim (d.entering) [ Some x ↦ cond {A = ℕ} (x.ticket == k) 1 0 | None ↦ 0 ] =
        ap (count_by (λ j. j == k)) (tickets_of_form o t form) ∙ counted d.entering in
        subst F (sym (ap connection_of (same_request r a.request (sym is ∙ begun)))) (comes_on o t start a d d.entering refl e home (subst (λ n. 1 ≤ n) all some))),
    (λ is conn reply sent.
        let es : List Effect = effects_of_item o t (marks_of_form (Executed start a d)) in
        let shown : completed_in es ≡ None = ap (λ x. elim x [ Some r ↦ None | None ↦ first_of (tickets_left es) ]) begun in
        absurd (let no : None ≡ Some k = sym shown ∙ is in cc)),
  )

  stays_form : (o : Setting) (now : ℕ) (t : Trace) (form : Form) → IsFormed o now t form → Home (marks_of_form form ∷ t) → StaysHome (effects_of_item o t (marks_of_form form))
  stays_form o now t (Ignored why) x home = stays_idle (effects_of_item o t (marks_of_form (Ignored why))) refl (none_leaves (newly_enabled o t (marks_of_form (Ignored why))))
  stays_form o now t (Rejected a) x home = stays_idle (effects_of_item o t (marks_of_form (Rejected a))) refl (none_leaves (newly_enabled o t (marks_of_form (Rejected a))))
  stays_form o now t (Received a) x home = stays_idle (effects_of_item o t (marks_of_form (Received a))) (none_executes (newly_enabled o t (marks_of_form (Received a)))) (none_leaves (newly_enabled o t (marks_of_form (Received a))))
  stays_form o now t (Postponed a) x home = stays_idle (effects_of_item o t (marks_of_form (Postponed a))) refl (none_leaves (newly_enabled o t (marks_of_form (Postponed a))))
  stays_form o now t (Completed d status) x home = stays_completed o t d status x (home_before (marks_of_form (Completed d status)) t home)
  stays_form o now t (Executed AtTurn a d) x home = stays_executed o t AtTurn a d x.1.enters home refl
  stays_form o now t (Executed AtArrival a d) x home = stays_executed o t AtArrival a d x.1.enters home refl
  stays_form o now t (Executed AfterWaiting a d) x home = stays_executed o t AfterWaiting a d x.1.enters home refl

  abbrev Formed : Setting → Trace → List Mark → Type 0
  Formed o t item = ((now : ℕ) × HasForm o now t item) × StaysHome (effects_of_item o t item)

  stay_home : (o : Setting) (t : Trace) (next : ℕ) → HaveForms o next t → Home t → EachItem (Formed o) t
  stay_home o [] next x home = tt
  stay_home o (item ∷ t) next x home =
      let f : HasForm o x.0 t item = x.1.1.0 in
      (((x.0, f), subst (λ i. StaysHome (effects_of_item o t i)) (sym f.is) (stays_form o x.0 t f.form f.formed (subst (λ i. Home (i ∷ t)) f.is home))), stay_home o t _ x.1.1.1 (home_before item t home))

-- ---- the connection of a command

module _ (k : ℕ) where
  one_home : (cs : List Command) → count_by (λ j. j == k) (map (λ (d : Command). d.ticket) cs) ≤ 1 → (c : ℕ) × ((d : Command) → In d cs → d.ticket ≡ k → connection_of d.arrival.request ≡ c)
  one_home [] once = (0, (λ d there same. absurd there))
  one_home (x ∷ cs) once = by_ticket (x.ticket == k) (one_home cs) refl
    where
      tickets : List ℕ
      tickets = map (λ (d : Command). d.ticket) cs

      parts : count_by (λ j. j == k) (x.ticket ∷ tickets) ≡ cond {A = ℕ} (x.ticket == k) 1 0 + count_by (λ j. j == k) tickets
      parts = sum_by-cons (λ j. cond (j == k) 1 0) x.ticket tickets

      -- none of these
      none_of : (ds : List Command) → count_by (λ j. j == k) (map (λ (d : Command). d.ticket) ds) ≡ 0 → (d : Command) → In d ds → d.ticket ≡ k → ⊥
      none_of [] none d there same = there
      none_of (y ∷ ds) none d there same =
          let all : count_by (λ j. j == k) (y.ticket ∷ map (λ (e : Command). e.ticket) ds) ≡ cond {A = ℕ} (y.ticket == k) 1 0 + count_by (λ j. j == k) (map (λ (e : Command). e.ticket) ds) =
          sum_by-cons (λ j. cond (j == k) 1 0) y.ticket (map (λ (e : Command). e.ticket) ds) in
          ⊎_elim
          (λ here.
          let one : cond {A = ℕ} (y.ticket == k) 1 0 ≡ 1 = ap (λ v. cond {A = ℕ} v 1 0) (eq-eqb y.ticket k (ap (λ (e : Command). e.ticket) here ∙ same)) in
          omega (arith, none, all, one))
          (λ later. none_of ds (omega (arith, none, all)) d later same) there

      by_ticket : (v : Bool) → (count_by (λ j. j == k) tickets ≤ 1 → (c : ℕ) × ((d : Command) → In d cs → d.ticket ≡ k → connection_of d.arrival.request ≡ c)) → (x.ticket == k) ≡ v → (c : ℕ) × ((d : Command) → In d (x ∷ cs) → d.ticket ≡ k → connection_of d.arrival.request ≡ c)
      by_ticket true go is = (
        connection_of x.arrival.request,
        (λ d there same.
            let one : cond {A = ℕ} (x.ticket == k) 1 0 ≡ 1 = ap (λ v. cond {A = ℕ} v 1 0) is in
            ⊎_elim (λ here. ap (λ (e : Command). connection_of e.arrival.request) (sym here)) (λ later. absurd (none_of cs (omega (arith, once, parts, one)) d later same)) there),
      )
      by_ticket false go apart =
          let rest = go (omega (arith, once, parts)) in
          (rest.0, (λ d there same. ⊎_elim (λ here. absurd (false≢true (sym apart ∙ eq-eqb x.ticket k (ap (λ (e : Command). e.ticket) here ∙ same)))) (λ later. rest.1 d later same) there))

pub each_at : (P : List Effect → Type 0) (before parts : List (List Effect)) → EachAt (λ ps part. P part) before parts → EachOf P parts
each_at P before [] h = tt
each_at P before (part ∷ parts) h = (h.0, each_at P (before ++ part ∷ []) parts h.1)

-- what holds of the connections of its commands in the history holds in the log
pub logged : (o : Opening) (cs : List Call) (h : List Event) → flat_map entry_taken cs ≡ run_of o.session h → (k : ℕ) (F : ℕ → Type 0)
    → ((d : Command) → In d (entered_so_far (trace_of o.session h)) → d.ticket ≡ k → F (connection_of d.arrival.request)) → EachOf (StaysHome k F) (items_in (deeds_of o cs))
logged o cs h follows k F home =
    let same : items_in (deeds_of o cs) ≡ flat_map (λ (e : Entry). in_parts e.effects) (run_of o.session h) = items_logged o (opened o) cs ∙ ap (flat_map (λ (e : Entry). in_parts e.effects)) follows in
    subst (EachOf (StaysHome k F)) (sym same)
    (each_at (StaysHome k F) [] (flat_map (λ (e : Entry). in_parts e.effects) (run_of o.session h))
    (walk_log o.session (Formed k F o.session) (λ t item x. x.0) (λ parts t. Unit {0}) (λ parts part. StaysHome k F part)
    (record { none = λ parts t i. (stays_nothing k F, tt); one = λ parts t item x i. (x.1, tt) }) h (stay_home k F o.session (trace_of o.session h) (length h) (trace_has_forms o.session h) home) tt))

-- the connection on which the command with a ticket entered, and on which its response goes out
pub homes : (o : Opening) (cs : List Call) → FollowsSession o cs → (k : ℕ) → (c : ℕ) × EachOf (StaysHome k (λ e. e ≡ c)) (items_in (deeds_of o cs))
homes o cs follows k =
    let h : List Event = follows.0 in
    let t : Trace = trace_of o.session h in
    let once : count_by (λ j. j == k) (map (λ (d : Command). d.ticket) (entered_so_far t)) ≤ 1 =
    subst (λ ns. count_by (λ j. j == k) ns ≤ 1) (sym (tickets_count o.session t (length h) (trace_has_forms o.session h))) (in_range_once k 1 (length (entered_so_far t))) in
    let home = one_home k (entered_so_far t) once in
    (home.0, logged o cs h follows.1 k (λ e. e ≡ home.0) home.1)
