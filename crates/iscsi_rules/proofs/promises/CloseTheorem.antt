-- Nothing goes on in a session that is closed, nor on a connection that is, in the trace of each list of events that come on
-- the session's connections. A request on another one would go on after the last of them is closed, and the session with it.
use Rattle.std.proofs.Common.{arith, ◌≡◌, ℕ, ◌==◌, ◌&&◌, ◌||◌, inl, ⊎_elim, not, true, false, List, [], ◌∷◌, ◌++◌, map, filter, refl, ap, sym, subst, ◌∙◌}
use Rattle.std.specs.List.{list_all, list_any, flat_map, range_with_len}
use Rattle.std.proofs.lemmas.Bool.{false≢true}
use Rattle.std.proofs.lemmas.List.Folds.{list_any-append, list_all-append}
use Rattle.iscsi_rules.specs.declared.effect.Effect.TheVariants.{Enable}
use Rattle.iscsi_rules.specs.declared.event.Event.{Event}
use Rattle.iscsi_rules.specs.rules.Settings.{Setting}
use Rattle.iscsi_rules.specs.rules.Trace.{Command, Mark, Ignores, Trace, has, live, live_in, was_free, enabled_in, closes_conn, closes_session, is_ended}
use Rattle.iscsi_rules.specs.rules.Logout.{is_open}
use Rattle.iscsi_rules.specs.rules.Run.{trace_of, effects_of_mark, newly_enabled, effects_of_item, run_of}
use Rattle.iscsi_rules.specs.rules.Agenda.{belongs}
use Rattle.iscsi_rules.specs.promises.Closes.{is_session_close, is_close_of, is_ignored, is_on, ClosesHold, ClosesHoldIn}
use Rattle.iscsi_rules.proofs.general.BoolLemmas.{and_both, or_second}
use Rattle.iscsi_rules.proofs.promises.MomentLemmas.{log_effects, enables_none, shown_so_far}
use Rattle.iscsi_rules.proofs.general.ElementLemmas.{In, in-filter, in-append}
use Rattle.iscsi_rules.proofs.promises.CloseLemmas.{is_at, ignores, Sound, Clear, clear-item, open-unended}
use Rattle.iscsi_rules.proofs.promises.CloseRuns.{Sounds, clear_of, trace_sounds}

-- ---- what the effects show of closing

session_mark : (o : Setting) (t : Trace) (m : Mark) → list_any is_session_close (effects_of_mark o t m) ≡ closes_session m
session_mark o t m = grind arith

conn_mark : (o : Setting) (k : ℕ) (t : Trace) (m : Mark) → list_any (is_close_of k) (effects_of_mark o t m) ≡ closes_conn k m
conn_mark o k t m = grind arith

-- ---- what an item shows on a connection

on_marks : (o : Setting) (k : ℕ) (t : Trace) (ms : List Mark) → list_any (is_at k) ms ≡ false → list_any (is_on k) (flat_map (effects_of_mark o t) ms) ≡ false
on_marks o k t [] h = refl
on_marks o k t (m ∷ ms) h = grind (arith, on_marks o k t ms)

on_item : (o : Setting) (k : ℕ) (t : Trace) (item : List Mark) → list_any (is_at k) item ≡ false → list_any (is_on k) (effects_of_item o t item) ≡ false
on_item o k t item h =
    list_any-append (is_on k) (flat_map (effects_of_mark o t) item) (map (λ (c : Command). Enable c.ticket c.unit) (newly_enabled o t item))
    ∙ ap (λ b. b || list_any (is_on k) (map (λ (c : Command). Enable c.ticket c.unit) (newly_enabled o t item))) (on_marks o k t item h)
    ∙ enables_none (is_on k) (λ ticket unit. refl) (newly_enabled o t item)

-- ---- an item that passes its event over, where nothing is live

ignored_marks : (o : Setting) (t : Trace) (ms : List Mark) → list_all ignores ms ≡ true → list_all is_ignored (flat_map (effects_of_mark o t) ms) ≡ true
ignored_marks o t [] h = refl
ignored_marks o t (Ignores why ∷ ms) h = ignored_marks o t ms h
ignored_marks o t (m ∷ ms) h = absurd (false≢true h)

none_in : {A : Type 0} (xs : List A) → ((x : A) → In x xs → ⊥) → xs ≡ []
none_in [] none = refl
none_in (x ∷ xs) none = absurd (none x (inl refl))

none_mapped : {A : Type 0} (f : ℕ → List A) (ns : List ℕ) → ((n : ℕ) (x : A) → In x (f n) → ⊥) → (x : A) → In x (flat_map f ns) → ⊥
none_mapped f [] none x h = h
none_mapped f (n ∷ ns) none x h = ⊎_elim (λ here. none n x here) (λ later. none_mapped f ns none x later) (in-append (f n) (flat_map f ns) x h)

ignored_item : (o : Setting) (t : Trace) (item : List Mark) → list_all ignores item ≡ true → ((c : Command) → In c (live (item ∷ t)) → ⊥) → list_all is_ignored (effects_of_item o t item) ≡ true
ignored_item o t item all none =
    let newly : newly_enabled o t item ≡ [] = none_in (newly_enabled o t item) (none_mapped (λ unit. filter (λ c. not (was_free c t)) (enabled_in unit (item ∷ t))) (range_with_len 0 o.units) unlive) in
    list_all-append is_ignored (flat_map (effects_of_mark o t) item) (map (λ (c : Command). Enable c.ticket c.unit) (newly_enabled o t item))
    ∙ ap (λ cs. list_all is_ignored (flat_map (effects_of_mark o t) item) && list_all is_ignored (map (λ (c : Command). Enable c.ticket c.unit) cs)) newly
    ∙ and_both (list_all is_ignored (flat_map (effects_of_mark o t) item)) true (ignored_marks o t item all) refl
  where
    unlive : (unit : ℕ) (c : Command) → In c (filter (λ d. not (was_free d t)) (enabled_in unit (item ∷ t))) → ⊥
    unlive unit c h =
        none c (in-filter (λ (d : Command). d.unit == unit) (live (item ∷ t)) c
        (in-filter (λ (d : Command). was_free d (item ∷ t)) (live_in unit (item ∷ t)) c
        (in-filter (λ (d : Command). not (was_free d t)) (enabled_in unit (item ∷ t)) c h).0).0).0

-- ---- the clause

-- an item of the trace, and those before it
part : (o : Setting) (later before : Trace) (item : List Mark) → Sounds o (later ++ item ∷ before) → Sound o before item × Sounds o before
part o [] before item x = x
part o (i ∷ later) before item x = part o later before item x.1

-- a connection that is closed isn't open
unopen : (o : Setting) (t : Trace) (conn : ℕ) → has (closes_conn conn) t ≡ true → is_open o t conn ≡ false
unopen o t conn h = grind arith

sounds_hold : (o : Setting) (t : Trace) → Sounds o t → ClosesHold o t
sounds_hold o t x = record {
  session = λ later before item split closed.
      let here = part o later before item (subst (Sounds o) (sym split) x) in
      let sound : Sound o before item = here.0 in
      let over : is_ended before ≡ true = sym (shown_so_far o is_session_close closes_session (λ ticket unit. refl) (session_mark o) before) ∙ closed in
      let clear : Clear o (item ∷ before) = clear-item o item before sound (clear_of o before here.1) in
      ignored_item o before item (sound.ended over)
      (λ c there. false≢true (sym (open-unended o (item ∷ before) _ (clear.lives c there)) ∙ or_second (list_any closes_session item) (is_ended before) over));
  conns = λ conn later before item split closed.
      let here = part o later before item (subst (Sounds o) (sym split) x) in
      let sound : Sound o before item = here.0 in
      let over : has (closes_conn conn) before ≡ true = sym (shown_so_far o (is_close_of conn) (closes_conn conn) (λ ticket unit. refl) (conn_mark o conn) before) ∙ closed in
      on_item o conn before item (sound.on_open conn (unopen o before conn over));
}

-- for every list of events that come on the session's connections, and for its log
pub closes_hold_in : (o : Setting) (h : List Event) → list_all (belongs o) h ≡ true → ClosesHoldIn o h (run_of o h)
closes_hold_in o h known = record { whole = sym (log_effects o 0 [] h); hold = sounds_hold o (trace_of o h) (trace_sounds o h known) }
