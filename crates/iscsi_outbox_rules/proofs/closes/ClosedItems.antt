-- While a request executes its reply goes out on its connection, and nothing is sent where an item before closed, if each request
-- came on a connection of the session.
use Rattle.std.proofs.Common.{◌≡◌, ℕ, ◌⊎◌, inl, inr, ⊎_elim, ◌==◌, ◌&&◌, ◌||◌, ◌+◌, not, cond, Bool, true, false, List, [], ◌∷◌, ◌++◌, filter_map, length, Option, Some, None, refl, ap, sym, ◌∙◌, eq-eqb}
use Rattle.std.specs.List.{list_any, list_all, flat_map}
use Rattle.std.proofs.lemmas.Bool.{false≢true}
use Rattle.iscsi_wire.specs.Fields.{connection_of}
use Rattle.iscsi_wire.specs.declared.reply.Reply.{Reply}
use Rattle.iscsi_wire.specs.declared.request.Request.{Request}
use Rattle.iscsi_rules.specs.declared.effect.Effect.{Effect}
use Rattle.iscsi_rules.specs.declared.entry.Entry.{Entry}
use Rattle.iscsi_rules.specs.declared.event.Event.{Event}
use Rattle.iscsi_rules.specs.rules.Settings.{Setting, is_known}
use Rattle.iscsi_rules.specs.rules.Trace.{Arrival, Command, Mark, Admits, Delivers, Executes, Voids, Empties, Waits, Leaves, Enters, Sends, ClosesConn, ClosesSession, Ignores, Trace, has, first_of, closes_conn, closes_session, is_ended, is_closed}
use Rattle.iscsi_rules.specs.rules.Logout.{is_open}
use Rattle.iscsi_rules.specs.rules.Agenda.{belongs}
use Rattle.iscsi_rules.specs.rules.Run.{effects_of_mark, newly_enabled, effects_of_item, trace_of, run_of}
use Rattle.iscsi_rules.specs.promises.Order.{in_parts}
use Rattle.iscsi_rules.proofs.general.BoolLemmas.{and_false, or_first, or_second, or_false}
use Rattle.iscsi_rules.proofs.items.Forms.{AtTurn, AtArrival, AfterWaiting, Deeds, if_some, marks_done, Form, Ignored, Rejected, Received, Postponed, Completed, Executed, marks_of_form, HasForm, is_arrival, HaveForms}
use Rattle.iscsi_rules.proofs.items.FormRuns.{trace_has_forms}
use Rattle.iscsi_rules.proofs.promises.ReplyForms.{replies_seen}
use Rattle.iscsi_rules.proofs.promises.CloseLemmas.{is_at, Sound}
use Rattle.iscsi_rules.proofs.promises.CloseRuns.{Sounds, trace_sounds}
use Rattle.iscsi_outbox_rules.specs.rules.Items.{executing, reply_sent}
use Rattle.iscsi_outbox_rules.specs.promises.Scope.{is_closed_by, closes_in}
use Rattle.iscsi_outbox_rules.proofs.closes.MarkRuns.{closes_as, is_closing, closed_by, closed_by-more}
use Rattle.iscsi_outbox_rules.proofs.closes.ClosedParts.{enables, EachAt, EachItem, PartWalk, walk_log}

-- ---- what the effects of an item show of its marks

-- a reply, and the connection on which it goes out
abbrev pub send_of : Mark → Option (ℕ × Reply)
send_of (Sends conn reply) = Some (conn, reply)
send_of _ = None

sent_none : (cs : List Command) → filter_map reply_sent (enables cs) ≡ []
sent_none [] = refl
sent_none (c ∷ cs) = sent_none cs

sent_marks : (o : Setting) (t : Trace) (ms : List Mark) (cs : List Command) → filter_map reply_sent (flat_map (effects_of_mark o t) ms ++ enables cs) ≡ filter_map send_of ms
sent_marks o t [] cs = sent_none cs
sent_marks o t (Admits a ∷ ms) cs = sent_marks o t ms cs
sent_marks o t (Delivers a ∷ ms) cs = sent_marks o t ms cs
sent_marks o t (Executes a ∷ ms) cs = sent_marks o t ms cs
sent_marks o t (Waits a ∷ ms) cs = sent_marks o t ms cs
sent_marks o t (Voids n ∷ ms) cs = sent_marks o t ms cs
sent_marks o t (Empties a ∷ ms) cs = sent_marks o t ms cs
sent_marks o t (Leaves c ∷ ms) cs = sent_marks o t ms cs
sent_marks o t (Enters c ∷ ms) cs = sent_marks o t ms cs
sent_marks o t (Sends conn reply ∷ ms) cs = ap (λ xs. (conn, reply) ∷ xs) (sent_marks o t ms cs)
sent_marks o t (ClosesConn conn ∷ ms) cs = sent_marks o t ms cs
sent_marks o t (ClosesSession ∷ ms) cs = sent_marks o t ms cs
sent_marks o t (Ignores why ∷ ms) cs = sent_marks o t ms cs

pub sent_item : (o : Setting) (t : Trace) (item : List Mark) → filter_map reply_sent (effects_of_item o t item) ≡ filter_map send_of item
sent_item o t item = sent_marks o t item (newly_enabled o t item)

pub some_pair : (x y : ℕ × Reply) → Some x ≡ Some y → x ≡ y
some_pair x y h = cc

-- something is done where a reply goes out
sent_at : (ms : List Mark) (conn : ℕ) (reply : Reply) → first_of (filter_map send_of ms) ≡ Some (conn, reply) → list_any (is_at conn) ms ≡ true
sent_at [] conn reply h = absurd cc
sent_at (Admits a ∷ ms) conn reply h = or_second (connection_of a.request == conn) (list_any (is_at conn) ms) (sent_at ms conn reply h)
sent_at (Delivers a ∷ ms) conn reply h = or_second (connection_of a.request == conn) (list_any (is_at conn) ms) (sent_at ms conn reply h)
sent_at (Executes a ∷ ms) conn reply h = or_second (connection_of a.request == conn) (list_any (is_at conn) ms) (sent_at ms conn reply h)
sent_at (Waits a ∷ ms) conn reply h = or_second (connection_of a.request == conn) (list_any (is_at conn) ms) (sent_at ms conn reply h)
sent_at (Voids n ∷ ms) conn reply h = sent_at ms conn reply h
sent_at (Empties a ∷ ms) conn reply h = sent_at ms conn reply h
sent_at (Leaves c ∷ ms) conn reply h = sent_at ms conn reply h
sent_at (Enters c ∷ ms) conn reply h = or_second (connection_of c.arrival.request == conn) (list_any (is_at conn) ms) (sent_at ms conn reply h)
sent_at (Sends k sent ∷ ms) conn reply h = or_first (k == conn) (list_any (is_at conn) ms) (eq-eqb k conn (ap (λ (s : ℕ × Reply). s.0) (some_pair (k, sent) (conn, reply) h)))
sent_at (ClosesConn k ∷ ms) conn reply h = sent_at ms conn reply h
sent_at (ClosesSession ∷ ms) conn reply h = sent_at ms conn reply h
sent_at (Ignores why ∷ ms) conn reply h = sent_at ms conn reply h

-- it closes the connection, alone or with the session
closing_none : (c : ℕ) (cs : List Command) → list_any (is_closed_by c) (enables cs) ≡ false
closing_none c [] = refl
closing_none c (x ∷ cs) = closing_none c cs

closing_marks : (o : Setting) (t : Trace) (c : ℕ) (ms : List Mark) (cs : List Command) → list_any (is_closed_by c) (flat_map (effects_of_mark o t) ms ++ enables cs) ≡ true
    → (list_any closes_session ms || list_any (closes_conn c) ms) ≡ true
closing_marks o t c [] cs h = absurd (false≢true (sym (closing_none c cs) ∙ h))
closing_marks o t c (Admits a ∷ ms) cs h = closing_marks o t c ms cs h
closing_marks o t c (Delivers a ∷ ms) cs h = closing_marks o t c ms cs h
closing_marks o t c (Executes a ∷ ms) cs h = closing_marks o t c ms cs h
closing_marks o t c (Waits a ∷ ms) cs h = closing_marks o t c ms cs h
closing_marks o t c (Voids n ∷ ms) cs h = closing_marks o t c ms cs h
closing_marks o t c (Empties a ∷ ms) cs h = closing_marks o t c ms cs h
closing_marks o t c (Leaves d ∷ ms) cs h = closing_marks o t c ms cs h
closing_marks o t c (Enters d ∷ ms) cs h = closing_marks o t c ms cs h
closing_marks o t c (Sends k reply ∷ ms) cs h = closing_marks o t c ms cs h
closing_marks o t c (ClosesConn k ∷ ms) cs h = by_test (k == c) (closing_marks o t c ms cs) h
  where
    by_test : (v : Bool) → (list_any (is_closed_by c) (flat_map (effects_of_mark o t) ms ++ enables cs) ≡ true → (list_any closes_session ms || list_any (closes_conn c) ms) ≡ true)
        → (v || list_any (is_closed_by c) (flat_map (effects_of_mark o t) ms ++ enables cs)) ≡ true → (list_any closes_session ms || (v || list_any (closes_conn c) ms)) ≡ true
    by_test true later is = or_second (list_any closes_session ms) true refl
    by_test false later is = later is
closing_marks o t c (ClosesSession ∷ ms) cs h = refl
closing_marks o t c (Ignores why ∷ ms) cs h = closing_marks o t c ms cs h

either : (x y : Bool) → (x || y) ≡ true → (x ≡ true) ⊎ (y ≡ true)
either true y h = inl refl
either false y h = inr h

-- what was closed, or is in this item, is closed after it
closed_more : (o : Setting) (t : Trace) (item : List Mark) (c : ℕ) → (is_closed c t ≡ true) ⊎ (is_closing c (effects_of_item o t item) ≡ true) → is_closed c (item ∷ t) ≡ true
closed_more o t item c h =
    both (list_any closes_session item) (is_ended t) (list_any (closes_conn c) item) (has (closes_conn c) t)
    (⊎_elim (λ before. or_first (is_closed c t) (list_any closes_session item || list_any (closes_conn c) item) before)
    (λ now. or_second (is_closed c t) (list_any closes_session item || list_any (closes_conn c) item) (closing_marks o t c item (newly_enabled o t item) (closing (executing es) now))) h)
  where
    es : List Effect
    es = effects_of_item o t item

    closing : (r : Option Request) → closes_as c r es ≡ true → closes_in c es ≡ true
    closing (Some r) is = is
    closing None is = absurd (false≢true is)

    both : (x e y k : Bool) → ((e || k) || (x || y)) ≡ true → ((x || e) || (y || k)) ≡ true
    both true e y k is = refl
    both false true y k is = refl
    both false false true k is = refl
    both false false false true is = refl
    both false false false false is = is

-- ---- an item in which a request executes

executing_none : (cs : List Command) → executing (enables cs) ≡ None
executing_none [] = refl
executing_none (c ∷ cs) = refl

some_request : (q r : Request) → Some q ≡ Some r → q ≡ r
some_request q r h = cc

-- its reply goes out on the connection of the request
sent_done : (a : Arrival) (d : Deeds) (conn : ℕ) (reply : Reply) → first_of (filter_map send_of (marks_done a d)) ≡ Some (conn, reply) → conn ≡ connection_of a.request
sent_done a d conn reply h =
    by_reply d.reply (ap first_of (sym (replies_seen send_of (λ n. refl) (λ c. refl) (λ b. refl) (λ c. refl) (λ k. refl) refl a d)) ∙ h)
  where
    by_reply : (x : Option Reply) → first_of (filter_map send_of (if_some (Sends (connection_of a.request)) x)) ≡ Some (conn, reply) → conn ≡ connection_of a.request
    by_reply None is = absurd cc
    by_reply (Some sent) is = sym (ap (λ (s : ℕ × Reply). s.0) (some_pair (connection_of a.request, sent) (conn, reply) is))

on_own_form : (o : Setting) (t : Trace) (form : Form) (r : Request) (conn : ℕ) (reply : Reply) → executing (effects_of_item o t (marks_of_form form)) ≡ Some r
    → first_of (filter_map send_of (marks_of_form form)) ≡ Some (conn, reply) → conn ≡ connection_of r
on_own_form o t (Ignored why) r conn reply is found = absurd cc
on_own_form o t (Rejected a) r conn reply is found = absurd cc
on_own_form o t (Received a) r conn reply is found = let none : None ≡ Some r = sym (executing_none (newly_enabled o t (marks_of_form (Received a)))) ∙ is in absurd cc
on_own_form o t (Postponed a) r conn reply is found = absurd cc
on_own_form o t (Completed c status) r conn reply is found = absurd cc
on_own_form o t (Executed AtTurn a d) r conn reply is found = sent_done a d conn reply found ∙ ap connection_of (some_request a.request r is)
on_own_form o t (Executed AtArrival a d) r conn reply is found = sent_done a d conn reply found ∙ ap connection_of (some_request a.request r is)
on_own_form o t (Executed AfterWaiting a d) r conn reply is found = sent_done a d conn reply found ∙ ap connection_of (some_request a.request r is)

-- ---- the items of a log

-- a reply of an item, by the items before it
pub record Fitting (before : List (List Effect)) (item : List Effect) : Type 0 where
  pub on_own : (r : Request) (conn : ℕ) (reply : Reply) → executing item ≡ Some r → first_of (filter_map reply_sent item) ≡ Some (conn, reply) → conn ≡ connection_of r
  pub on_open : (conn : ℕ) (reply : Reply) → first_of (filter_map reply_sent item) ≡ Some (conn, reply) → closed_by before conn ≡ false

-- what is known of an item
abbrev Known : Setting → Trace → List Mark → Type 0
Known o t item = ((now : ℕ) × HasForm o now t item) × Sound o t item

-- what these parts closed is closed
abbrev Told : List (List Effect) → Trace → Type 0
Told parts t = (c : ℕ) → closed_by parts c ≡ true → is_closed c t ≡ true

module _ (o : Setting) (parts : List (List Effect)) (t : Trace) (item : List Mark) (known : Known o t item) (told : Told parts t) where
  on_own : (r : Request) (conn : ℕ) (reply : Reply) → executing (effects_of_item o t item) ≡ Some r → first_of (filter_map reply_sent (effects_of_item o t item)) ≡ Some (conn, reply) → conn ≡ connection_of r
  on_own r conn reply is found =
      let f : HasForm o known.0.0 t item = known.0.1 in
      on_own_form o t f.form r conn reply (ap (λ ms. executing (effects_of_item o t ms)) (sym f.is) ∙ is)
      (ap (λ ms. first_of (filter_map send_of ms)) (sym f.is) ∙ ap first_of (sym (sent_item o t item)) ∙ found)

  on_open : (conn : ℕ) (reply : Reply) → first_of (filter_map reply_sent (effects_of_item o t item)) ≡ Some (conn, reply) → closed_by parts conn ≡ false
  on_open conn reply found = by_closed (closed_by parts conn) refl
    where
      there : list_any (is_at conn) item ≡ true
      there = sent_at item conn reply (ap first_of (sym (sent_item o t item)) ∙ found)

      unopen : is_closed conn t ≡ true → is_open o t conn ≡ false
      unopen closed = ap (λ v. is_known conn o.conns && not v) closed ∙ and_false (is_known conn o.conns)

      by_closed : (v : Bool) → closed_by parts conn ≡ v → closed_by parts conn ≡ false
      by_closed false is = is
      by_closed true is = absurd (false≢true (sym (known.1.on_open conn (unopen (told conn is))) ∙ there))

  told_more : Told (parts ++ effects_of_item o t item ∷ []) (item ∷ t)
  told_more c closed =
      closed_more o t item c
      (⊎_elim (λ before. inl (told c before)) (λ now. inr now) (either (closed_by parts c) (is_closing c (effects_of_item o t item)) (sym (closed_by-more parts (effects_of_item o t item) c) ∙ closed)))

fitting_walk : (o : Setting) → PartWalk o (Known o) Told Fitting
fitting_walk o = record {
  none = λ parts t told. (
    record { on_own = λ r conn reply is found. absurd cc; on_open = λ conn reply found. absurd cc },
    λ c closed. told c (sym (closed_by-more parts [] c ∙ or_false (closed_by parts c)) ∙ closed),
  );
  one = λ parts t item known told. (record { on_own = on_own o parts t item known told; on_open = on_open o parts t item known told }, told_more o parts t item known told);
}

known_each : (o : Setting) (next : ℕ) (t : Trace) → HaveForms o next t → Sounds o t → EachItem (Known o) t
known_each o next [] x s = tt
known_each o next (item ∷ t) x s = (((x.0, x.1.1.0), s.0), known_each o (cond (is_arrival x.1.1.0.form) x.0 (x.0 + 1)) t x.1.1.1 s.1)

-- of the log of events that come on the session's connections
pub fitting_log : (o : Setting) (h : List Event) → list_all (belongs o) h ≡ true → EachAt Fitting [] (flat_map (λ (e : Entry). in_parts e.effects) (run_of o h))
fitting_log o h known =
    walk_log o (Known o) (λ t item k. k.0) Told Fitting (fitting_walk o) h (known_each o (length h) (trace_of o h) (trace_has_forms o h) (trace_sounds o h known)) (λ c closed. absurd (false≢true closed))
