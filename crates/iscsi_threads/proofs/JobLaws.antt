-- The jobs that the log of a list of events gives.
use Rattle.std.specs.Prelude.{◌≡◌, ℕ, ◌<◌, ◌==◌, true, List, [], ◌∷◌, ◌++◌, map, length, None, refl}
use Rattle.std.specs.List.{list_all, flat_map}
use Rattle.std.proofs.Common.{ap, sym, subst, ◌∙◌, get_or}
use Rattle.std.proofs.lemmas.List.{length-map, get_or-map}
use Rattle.std.proofs.lemmas.Grind.{flat_map-append}
use mathlib.Core.List.{IsPrefix}
use Rattle.iscsi_rules.specs.declared.effect.Effect.{Effect}
use Rattle.iscsi_rules.specs.declared.effect.Effect.TheVariants.{Enable}
use Rattle.iscsi_rules.specs.declared.entry.Entry.{Entry}
use Rattle.iscsi_rules.specs.declared.event.Event.{Event}
use Rattle.iscsi_rules.specs.rules.Settings.{Setting}
use Rattle.iscsi_rules.specs.rules.Trace.{Arrival, Command, Trace}
use Rattle.iscsi_rules.specs.rules.Run.{effects_of_mark, newly_enabled, effects_of_item, trace_of, run_of, next_entry}
use Rattle.iscsi_rules.specs.promises.Enabling.{effects_so_far, effects_in}
use Rattle.iscsi_rules.specs.promises.Lives.{StartsOnce, is_life, life_of}
use Rattle.iscsi_rules.proofs.promises.MomentLemmas.{log_effects}
use Rattle.iscsi_rules.proofs.items.Forms.{Start, AtTurn, AtArrival, AfterWaiting, Deeds, marks_done, Form, Ignored, Rejected, Received, Postponed, Completed, Executed, marks_of_form, HasForm, HaveForms}
use Rattle.iscsi_rules.proofs.items.FormRuns.{trace_has_forms}
use Rattle.iscsi_rules.proofs.promises.LifeTheorem.{starts_once}
use Rattle.iscsi_rules.proofs.traces.RunLemmas.{run_of-push}
use Rattle.iscsi_threads.specs.declared.job.Job.{Job}
use Rattle.iscsi_threads.specs.rules.Desks.{nothing, jobs_from, known_after}
use Rattle.iscsi_threads.specs.rules.Journal.{jobs_of}
use Rattle.iscsi_threads.specs.rules.Jobs.{jobs, tickets_enabled, GivesJobs}
use Rattle.iscsi_threads.proofs.DeskLemmas.{jobs_from-append}
use Rattle.iscsi_threads.proofs.Journals.{jobs_of_append}
use Rattle.iscsi_threads.proofs.JobLemmas.{is_asked, asked-some, asked-append, same_jobs, tickets_of_jobs, all_start_apart, tickets_apart, jobs_of-unit}

-- ---- a request executes before each Enter of a log

asked-enables : (cs : List Command) → is_asked None (map (λ (c : Command). Enable c.ticket c.unit) cs) ≡ true
asked-enables [] = refl
asked-enables (c ∷ cs) = asked-enables cs

-- what a request does that executes, and the commands that it enables
abbrev after_start : Setting → Trace → Start → Arrival → Deeds → List Effect
after_start o t start a d = flat_map (effects_of_mark o t) (marks_done a d) ++ map (λ (c : Command). Enable c.ticket c.unit) (newly_enabled o t (marks_of_form (Executed start a d)))

-- a command enters only in an item that begins with its request
asked-form : (o : Setting) (t : Trace) (form : Form) → is_asked None (effects_of_item o t (marks_of_form form)) ≡ true
asked-form o t (Ignored why) = asked-enables (newly_enabled o t (marks_of_form (Ignored why)))
asked-form o t (Rejected a) = asked-enables (newly_enabled o t (marks_of_form (Rejected a)))
asked-form o t (Received a) = asked-enables (newly_enabled o t (marks_of_form (Received a)))
asked-form o t (Postponed a) = asked-enables (newly_enabled o t (marks_of_form (Postponed a)))
asked-form o t (Completed c status) = asked-enables (newly_enabled o t (marks_of_form (Completed c status)))
asked-form o t (Executed AtTurn a d) = asked-some a.request (after_start o t AtTurn a d)
asked-form o t (Executed AtArrival a d) = asked-some a.request (after_start o t AtArrival a d)
asked-form o t (Executed AfterWaiting a d) = asked-some a.request (after_start o t AfterWaiting a d)

asked-so_far : (o : Setting) (t : Trace) (next : ℕ) → HaveForms o next t → is_asked None (effects_so_far o t) ≡ true
asked-so_far o [] next x = refl
asked-so_far o (item ∷ t) next x =
    let f : HasForm o x.0 t item = x.1.1.0 in
    asked-append None (effects_so_far o t) (effects_of_item o t item) (asked-so_far o t _ x.1.1.1)
    (ap (λ ms. is_asked None (effects_of_item o t ms)) f.is ∙ asked-form o t f.form)

asked-log : (o : Setting) (h : List Event) → is_asked None (effects_in (run_of o h)) ≡ true
asked-log o h = ap (is_asked None) (sym (log_effects o 0 [] h)) ∙ asked-so_far o (trace_of o h) (length h) (trace_has_forms o h)

-- ---- the jobs of a log

module _ (o : Setting) (h : List Event) where
  abbrev effects : List Effect
  effects = effects_in (run_of o h)

  lives : (ticket : ℕ) → is_life (life_of ticket effects) ≡ true
  lives = let s : StartsOnce (run_of o h) = starts_once o h in s.lives

  -- a unit's jobs are those that the loop notes
  pub jobs_as_noted : (u : ℕ) → jobs u (run_of o h) ≡ jobs_of u (jobs_from nothing (effects_in (run_of o h)))
  jobs_as_noted u = sym (same_jobs effects lives (asked-log o h) u [] effects refl)

  tickets : (u : ℕ) → map (λ (j : Job). j.ticket) (jobs u (run_of o h)) ≡ tickets_enabled u effects
  tickets u = tickets_of_jobs effects lives (asked-log o h) u [] effects refl

  count : (u : ℕ) → length (jobs u (run_of o h)) ≡ length (tickets_enabled u effects)
  count u = sym (length-map (jobs u (run_of o h)) (λ (j : Job). j.ticket)) ∙ ap length (tickets u)

  ticket_at : (u i : ℕ) (d : Job) → i < length (jobs u (run_of o h)) → (get_or (jobs u (run_of o h)) i d).ticket ≡ get_or (tickets_enabled u effects) i d.ticket
  ticket_at u i d low = sym (get_or-map (λ (j : Job). j.ticket) (jobs u (run_of o h)) i d d.ticket low) ∙ ap (λ ns. get_or ns i d.ticket) (tickets u)

  -- the log of every list of events gives jobs as it should
  pub gives_jobs : GivesJobs (run_of o h)
  gives_jobs = record {
    each = tickets;
    of_unit = λ u. ap (list_all (λ (j : Job). j.unit == u)) (jobs_as_noted u) ∙ jobs_of-unit u (jobs_from nothing effects);
    apart = λ u v i k d low high same.
        tickets_apart u v effects (all_start_apart effects lives (asked-log o h) [] effects refl) i k d.ticket
        (subst (λ n. i < n) (count u) low) (subst (λ n. k < n) (count v) high)
        (sym (ticket_at u i d low) ∙ same ∙ ticket_at v k d high);
  }

-- with one event more a unit's jobs are the same, and perhaps more
pub jobs_prefix : (o : Setting) (h : List Event) (e : Event) (u : ℕ) → IsPrefix (jobs u (run_of o h)) (jobs u (run_of o (h ++ e ∷ [])))
jobs_prefix o h e u =
    let es : List Effect = effects_in (run_of o h) in
    let fs : List Effect = effects_in (next_entry o h e ∷ []) in
    let more : List Job = jobs_of u (jobs_from (known_after nothing es) fs) in
    let both : effects_in (run_of o (h ++ e ∷ [])) ≡ es ++ fs = ap effects_in (run_of-push o h e) ∙ flat_map-append (λ (n : Entry). n.effects) (run_of o h) (next_entry o h e ∷ []) in (
      more,
      ap (λ js. js ++ more) (jobs_as_noted o h u)
          ∙ sym (jobs_of_append u (jobs_from nothing es) (jobs_from (known_after nothing es) fs))
          ∙ sym (ap (jobs_of u) (jobs_from-append nothing es fs))
          ∙ sym (ap (λ xs. jobs_of u (jobs_from nothing xs)) both)
          ∙ sym (jobs_as_noted o (h ++ e ∷ []) u),
    )
