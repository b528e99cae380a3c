-- A session of a sound recording refuses only for want of memory.
use Rattle.std.proofs.Common.{◌≡◌, ◌<◌, ◌≤◌, ◌&&◌, Bool, true, List, ◌∷◌, ◌++◌, length, Option, None, refl, ap, sym, ◌∙◌, subst, arith, length-append, nat_lt, lt-ltb}
use Rattle.std.specs.Prelude.{Result, Err}
use Rattle.std.specs.List.{list_all}
use Rattle.std.proofs.lemmas.List.Folds.{list_all-append}
use Rattle.iscsi_rules.proofs.general.BoolLemmas.{and_first, and_second}
use Rattle.iscsi_rules.specs.declared.event.Event.{Event}
use Rattle.iscsi_rules.specs.declared.event.Event.TheVariants.{Arrive, Done}
use Rattle.iscsi_session.specs.declared.fault.SessionFault.{SessionFault}
use Rattle.iscsi_session.specs.declared.fault.SessionFault.TheVariants.{NoMemory}
use Rattle.iscsi_rules.specs.rules.Settings.{Setting, is_valid}
use Rattle.iscsi_session.specs.promises.Refusals.{RefusesAs, refusal_of, refusal_of_options}
use Rattle.iscsi_rules.specs.rules.Agenda.{belongs}
use Rattle.iscsi_recording.specs.Recorded.{belongs_to}

-- where nothing is refused, a refusal is want of memory
pub memory_alone : {A : Type 0} (refusal : Option SessionFault) (result : Result A SessionFault) (fault : SessionFault) → refusal ≡ None → result ≡ Err fault
    → RefusesAs refusal result → fault ≡ NoMemory
memory_alone refusal result fault none is h =
    let as_none = subst (λ r. RefusesAs r result) none h in
    subst (λ r. RefusesAs None r) is as_none

-- valid options are not refused
pub options_taken : (o : Setting) → is_valid o ≡ true → refusal_of_options o ≡ None
options_taken o valid = rw valid refl

belongs_same : (o : Setting) (e : Event) → belongs o e ≡ belongs_to o.conns e
belongs_same o (Arrive conn header) = refl
belongs_same o (Done ticket status) = refl

-- a test that each passes is passed by each
pub each_belongs : (p : Event → Bool) (before after events : List Event) (e : Event) → events ≡ before ++ e ∷ after → list_all p events ≡ true → p e ≡ true
each_belongs p before after events e whole all =
    let all_pass = sym (list_all-append p before (e ∷ after)) ∙ sym (ap (list_all p) whole) ∙ all in
    and_first (p e) (list_all p after) (and_second (list_all p before) (p e && list_all p after) all_pass)

-- an event is not refused after those before it, where each is known and they aren't too many
pub event_taken : (o : Setting) (before after events : List Event) (e : Event) → events ≡ before ++ e ∷ after → list_all (belongs_to o.conns) events ≡ true → length events ≤ o.events
    → refusal_of o before e ≡ None
event_taken o before after events e whole known few =
    let belongs_is : belongs o e ≡ true = belongs_same o e ∙ each_belongs (belongs_to o.conns) before after events e whole known in
    let below : length before < o.events = omega (arith, ap length whole, length-append before (e ∷ after)) in
    let test : nat_lt (length before) o.events ≡ true = lt-ltb _ _ below in
    rw (belongs_is, test) refl
