-- A request that executed has at most one reply, and one whose command was taken out has none, in the trace of each list of events.
use Rattle.std.proofs.Common.{◌≡◌, ℕ, ◌+◌, ◌<◌, ◌≤◌, ⊎_elim, cond, List, [], ◌∷◌, ◌++◌, length, count_by, Option, Some, None, refl, ap, sym, subst, ◌∙◌, arith, nat_lt, eq-eqb}
use Rattle.std.specs.List.{filter_map}
use Rattle.std.proofs.lemmas.Bool.Decides.{nat_tests}
use Rattle.iscsi_wire.specs.declared.reply.Reply.{Reply}
use Rattle.iscsi_wire.specs.declared.reply.Reply.TheVariants.{Scsi, Reject}
use Rattle.iscsi_wire.specs.declared.request.Request.{Request}
use Rattle.iscsi_wire.specs.Fields.{connection_of, header_of, itt}
use Rattle.iscsi_rules.specs.declared.event.Event.{Event}
use Rattle.iscsi_rules.specs.declared.event.Event.TheVariants.{Arrive, Done}
use Rattle.iscsi_rules.specs.rules.Settings.{Setting}
use Rattle.iscsi_rules.specs.rules.Trace.{Arrival, Command, Mark, Delivers, Leaves, Sends, Trace}
use Rattle.iscsi_rules.specs.rules.Execution.{sense_of_status, completion}
use Rattle.iscsi_rules.specs.rules.Agenda.{command_of}
use Rattle.iscsi_rules.specs.promises.Replies.{executed_in, answered_in, replies_to}
use Rattle.iscsi_rules.specs.rules.Run.{trace_of, run_of, after_event, effects_of, entries_from}
use Rattle.iscsi_rules.specs.promises.Answers.{Answers, AnswersOnce, AnswersOnceIn, CompletesWith, CompletesAll}
use Rattle.iscsi_rules.proofs.general.ListLemmas.{first_itself}
use Rattle.iscsi_rules.proofs.general.ElementLemmas.{In, in-contains}
use Rattle.iscsi_rules.proofs.promises.MomentLemmas.{log_effects}
use Rattle.iscsi_rules.proofs.general.CountLemmas.{one, count-one}
use Rattle.iscsi_rules.proofs.items.DeedLemmas.{views}
use Rattle.iscsi_rules.proofs.items.Forms.{Start, AtTurn, Deeds, if_some, start_mark, marks_done, Form, Executed, marks_of_form, IsDone, IsFormed, HasForm, is_arrival, HaveForms}
use Rattle.iscsi_rules.proofs.items.FormRuns.{trace_has_forms}
use Rattle.iscsi_rules.proofs.promises.ReplyForms.{comes_of, replies_seen}
use Rattle.iscsi_rules.proofs.promises.ReplyTurns.{begins_of}
use Rattle.iscsi_rules.proofs.promises.ReplySince.{undelivered_silent}
use Rattle.iscsi_rules.proofs.promises.ReplyRuns.{aborted_in, standing, standing_item, begun_by, one_most, is_below, none_left, standing_once, Since, since}

-- ---- the marks of an item

-- what a view shows of a mark, it shows of the marks
viewed-in : {B : Type 0} (view : Mark → Option B) (ms : List Mark) (m : Mark) (x : B) → In m ms → view m ≡ Some x → In x (filter_map view ms)
viewed-in view [] m x h is = absurd h
viewed-in view (n ∷ ms) m x h is = grind (arith, viewed-in view ms m x)

-- a reply, and where it goes out
abbrev send_of : Mark → Option (ℕ × Reply)
send_of (Sends conn reply) = Some (conn, reply)
send_of _ = None

abbrev leaver_of : Mark → Option Command
leaver_of (Leaves c) = Some c
leaver_of _ = None

-- what goes out of what a request does
sent_done : (a : Arrival) (d : Deeds) (conn : ℕ) (reply : Reply) → In (Sends conn reply) (marks_done a d) → (conn ≡ connection_of a.request) × (d.reply ≡ Some reply)
sent_done a d conn reply h =
    by_reply d.reply
    (subst (In (conn, reply)) (replies_seen send_of (λ n. refl) (λ c. refl) (λ b. refl) (λ c. refl) (λ conn. refl) refl a d)
    (viewed-in send_of (marks_done a d) (Sends conn reply) (conn, reply) h refl))
  where
    by_reply : (x : Option Reply) → In (conn, reply) (filter_map send_of (if_some (Sends (connection_of a.request)) x)) → (conn ≡ connection_of a.request) × (x ≡ Some reply)
    by_reply x k = grind arith

-- what leaves
left_done : (a : Arrival) (d : Deeds) → filter_map leaver_of (marks_done a d) ≡ d.leaving
left_done a d = simp views

-- ---- an item in which a request executes

-- its replies are to the request
fitting_done : (o : Setting) (t : Trace) (start : Start) (a b : Arrival) (d : Deeds) → IsDone o t start a d → a ≡ b → (conn : ℕ) (reply : Reply) → In (Sends conn reply) (marks_done a d)
    → (conn ≡ connection_of b.request) × Answers b.request reply
fitting_done o t start a b d x same conn reply h = grind (arith, sent_done)

fitting_form : (o : Setting) (now : ℕ) (t : Trace) (form : Form) → IsFormed o now t form → (a : Arrival) → executed_in (marks_of_form form) ≡ Some a → (conn : ℕ) (reply : Reply) → In (Sends conn reply) (marks_of_form form)
    → (conn ≡ connection_of a.request) × Answers a.request reply
fitting_form o now t (Executed AtTurn b d) x a is conn reply h = ⊎_elim (λ same. absurd cc) (λ later. fitting_done o t AtTurn b a d x.1 (cc) conn reply later) h
fitting_form o now t (Executed start b d) x a is conn reply h = ⊎_elim (λ same. absurd cc) (λ later. fitting_done o t start b a d x.1 (cc) conn reply later) h
fitting_form o now t form x a is conn reply h = absurd cc

-- its commands that leave are those that are taken out
left_form : (form : Form) (a : Arrival) (c : Command) → executed_in (marks_of_form form) ≡ Some a → In (Leaves c) (marks_of_form form) → In c (aborted_in form)
left_form (Executed AtTurn b d) a c is h = subst (In c) (left_done b d) (viewed-in leaver_of (Delivers b ∷ marks_done b d) (Leaves c) c h refl)
left_form (Executed start b d) a c is h = subst (In c) (left_done b d) (viewed-in leaver_of (start_mark start b ∷ marks_done b d) (Leaves c) c h refl)
left_form form a c is h = absurd cc

-- ---- an item that completes a command

abbrev Completes : Command → List Mark → Type 0
Completes c ms = (status : ℕ) × (ms ≡ Sends (connection_of c.arrival.request) (Scsi (itt c.arrival.request) status (sense_of_status status)) ∷ [])

completing_form : (form : Form) (c : Command) (ms : List Mark) → Leaves c ∷ ms ≡ marks_of_form form → Completes c ms
completing_form form c ms is = grind arith

-- ---- an item that answers no request

rejecting_form : (form : Form) → answered_in (marks_of_form form) ≡ None → (conn : ℕ) (reply : Reply) → In (Sends conn reply) (marks_of_form form)
    → (r : Request) × (marks_of_form form ≡ Sends (connection_of r) (Reject 5 (header_of r)) ∷ [])
rejecting_form form is conn reply h = grind arith

-- ---- the clauses

-- a command that is taken out has no reply, before or after
taken_unanswered : (o : Setting) (next : ℕ) (later before : Trace) (item : List Mark) (a : Arrival) (c : Command) → HaveForms o next (later ++ item ∷ before) → executed_in item ≡ Some a → In (Leaves c) item
    → replies_to c.arrival.event (later ++ item ∷ before) ≡ []
taken_unanswered o next later before item a c x is h =
    let v : ℕ = c.arrival.event in
    let s : Since o next later (item ∷ before) = since o later (item ∷ before) next x in
    let now : ℕ = s.before.0 in
    let f : HasForm o now before item = s.before.1.1.0 in
    let out : In c (aborted_in f.form) = left_form f.form a c (sym (ap executed_in f.is) ∙ is) (subst (In (Leaves c)) f.is h) in
    let some : 1 ≤ count_by (comes_of v) (aborted_in f.form) = count-one (comes_of v) (aborted_in f.form) c out (eq-eqb v v refl) in
    let here : standing v (item ∷ before) + count_by (comes_of v) (aborted_in f.form) ≤ standing v before + begins_of now v f.form = standing_item o now v before item f in
    let once : standing v before ≤ one (nat_lt v (cond (is_arrival f.form) now (now + 1))) = standing_once o v before _ s.before.1.1.1 in
    let begun : one (nat_lt v (cond (is_arrival f.form) now (now + 1))) + begins_of now v f.form ≤ one (nat_lt v s.place) = begun_by now v s.place (is_arrival f.form) s.before.1.0 in
    let lt : v < s.place = is_below v s.place (omega (arith, some, here, once, begun)) in
    none_left (replies_to v (later ++ item ∷ before)) (omega (arith, s.falls v lt, some, here, once, begun, one_most (nat_lt v s.place)))

-- for every list of events
pub answers_once : (o : Setting) (h : List Event) → AnswersOnce (trace_of o h)
answers_once o h = record {
  once = λ event. omega (arith, standing_once o event (trace_of o h) (length h) (trace_has_forms o h), one_most (nat_lt event (length h)));
  fitting = λ later before item a split is conn reply there.
      let s : Since o (length h) later (item ∷ before) = since o later (item ∷ before) (length h) (subst (HaveForms o (length h)) (sym split) (trace_has_forms o h)) in
      let f : HasForm o s.before.0 before item = s.before.1.1.0 in
      fitting_form o s.before.0 before f.form f.formed a (sym (ap executed_in f.is) ∙ is) conn reply (subst (In (Sends conn reply)) f.is (in-contains item (Sends conn reply) there));
  completing =
      λ later before c ms split. grind (arith, nat_tests, since, trace_has_forms o h, completing_form);
  rejecting =
      λ later before item split is conn reply there. grind (arith, nat_tests, since, trace_has_forms o h, rejecting_form, in-contains);
  unanswered =
      λ later before item a c split is there. grind (arith, nat_tests, taken_unanswered, trace_has_forms o h, in-contains);
  undelivered = λ n a there none. undelivered_silent o (length h) (trace_of o h) n a (trace_has_forms o h) there none;
}

-- ---- the entries of completions

completes_with : (o : Setting) (t : Trace) (ticket status : ℕ) → CompletesWith ticket status (effects_of o t (completion status (command_of t ticket)))
completes_with o t ticket status = grind (arith, first_itself)

completes_all : (o : Setting) (event : ℕ) (t : Trace) (h : List Event) → CompletesAll h (entries_from o event t h)
completes_all o event t [] = tt
completes_all o event t (Arrive conn header ∷ h) = completes_all o (event + 1) (after_event o event t (Arrive conn header)) h
completes_all o event t (Done ticket status ∷ h) = (completes_with o t ticket status, completes_all o (event + 1) (after_event o event t (Done ticket status)) h)

-- and for its log
pub answers_once_in : (o : Setting) (h : List Event) → AnswersOnceIn o h (run_of o h)
answers_once_in o h = record { whole = sym (log_effects o 0 [] h); hold = answers_once o h; completed = completes_all o 0 [] h }
