-- The report of a recording, event by event.
use Rattle.std.proofs.Common.{◌≡◌, ℕ, List, [], ◌∷◌, ◌++◌, Option, None, Some, Result, Ok, Err, IfSome, sym, ap, ap₂, subst, ◌∙◌, append-nil, append_assoc}
use Rattle.std.specs.List.{flat_map}
use Rattle.std.specs.Io.KnownBytes.{Appends}
use Rattle.std.proofs.KnownBytes.{Keeps-refl}
use Rattle.iscsi_rules.specs.declared.effect.Effect.{Effect}
use Rattle.iscsi_rules.specs.declared.effect.Numbers.{Numbers}
use Rattle.iscsi_rules.specs.declared.event.Event.{Event}
use Rattle.iscsi_rules.specs.declared.entry.Entry.{Entry}
use Rattle.iscsi_rules.specs.rules.Settings.{Setting}
use Rattle.iscsi_rules.specs.rules.Run.{next_entry}
use Rattle.iscsi_report.specs.Lines.{event_line, effect_line, entry_lines}
use Rattle.iscsi_report.proofs.LineLemmas.{report_of-push}
use Rattle.iscsi_settings.specs.declared.settings.Settings.{Settings}
use Rattle.iscsi_recording.specs.declared.fault.ReplayFault.{ReplayFault}
use Rattle.iscsi_recording.specs.Recorded.{Recorded, read_of}
use Rattle.iscsi_replay.specs.promises.Replayed.{report_by, report_of, FrontReported}
use Rattle.iscsi_recording.specs.Writing.{AppendsFront, AppendsBut}
use Rattle.iscsi_recording.proofs.Written.{nothing_of, front_longer, waits_more, all_after}

-- the report of more events begins with that of the first ones
pub report_longer : (o : Setting) (h es : List Event)
    → (rest : List ℕ) × (report_by o (h ++ es) ≡ report_by o h ++ rest)
report_longer o h [] = ([], ap (report_by o) (append-nil h) ∙ sym (append-nil (report_by o h)))
report_longer o h (e ∷ es) =
    let lines : List ℕ = event_line e ++ entry_lines (next_entry o h e) in
    let next = report_longer o (h ++ e ∷ []) es in (
      lines ++ next.0,
      ap (report_by o) (sym (append_assoc h (e ∷ []) es)) ∙ next.1
          ∙ ap (λ l. l ++ next.0) (report_of-push o h e)
          ∙ append_assoc (report_by o h) lines next.0,
    )

-- a front of the report of the first events is one of that of all
pub front_of_all : (a b : Option (List ℕ)) (o : Setting) (before after events : List Event) → events ≡ before ++ after
    → AppendsFront a b (report_by o before) → AppendsFront a b (report_by o events)
front_of_all a b o before after events whole f =
    let longer = report_longer o before after in
    front_longer a b (report_by o before) longer.0 (report_by o events) (ap (report_by o) whole ∙ longer.1) f

-- the lines of an event and its effects
entry_lines_are : (entry : Entry) (numbers : Numbers) (effects : List Effect) → numbers ≡ entry.numbers → effects ≡ entry.effects
    → entry_lines (record { numbers = numbers; effects = effects }) ≡ entry_lines entry
entry_lines_are entry numbers effects n e =
    ap₂ (λ (ns : Numbers) (es : List Effect). flat_map (λ effect. effect_line effect ns) es) n e

-- after one more event its lines wait too
pub waits_next : (a b : Option (List ℕ)) (o : Setting) (before : List Event) (e : Event) (waiting longer : List ℕ)
    (numbers : Numbers) (effects : List Effect)
    → longer ≡ waiting ++ (event_line e ++ entry_lines (record { numbers = numbers; effects = effects }))
    → numbers ≡ (next_entry o before e).numbers
    → effects ≡ (next_entry o before e).effects
    → AppendsBut a b waiting (report_by o before)
    → AppendsBut a b longer (report_by o (before ++ e ∷ []))
waits_next a b o before e waiting longer numbers effects is numbers_are effects_are h =
    let entry : Entry = next_entry o before e in
    let lines : List ℕ = event_line e ++ entry_lines entry in
    let longer_is : longer ≡ waiting ++ lines =
    is ∙ ap (λ l. waiting ++ (event_line e ++ l)) (entry_lines_are entry numbers effects numbers_are effects_are) in
    waits_more a b waiting lines longer (report_by o before) (report_by o (before ++ e ∷ [])) longer_is (report_of-push o before e) h

-- the effects of a step onto a list that is empty
pub effects_alone : (given out cleared effects : List Effect) → given ≡ out → out ≡ cleared ++ effects → cleared ≡ [] → given ≡ effects
effects_alone given out cleared effects same more empty = same ∙ more ∙ ap (λ l. l ++ effects) empty

-- the whole report is written
pub all_written : (a b c : Option (List ℕ)) (o : Setting) (before events : List Event) (waiting put : List ℕ)
    → before ≡ events → put ≡ waiting → AppendsBut a b waiting (report_by o before) → Appends b c put
    → Appends a c (report_by o events)
all_written a b c o before events waiting put all is h more =
    subst (λ es. Appends a c (report_by o es)) all (all_after a b c waiting put (report_by o before) is h more)

none_reported : (s : Settings) (r : Result Recorded ReplayFault) (a : Option (List ℕ)) → FrontReported s r a a
none_reported s (Ok r) a = nothing_of a (report_of s r)
none_reported s (Err e) a = Keeps-refl a

-- nothing is a front of the report of any bytes
pub front_of_none : (s : Settings) (given a : Option (List ℕ)) → IfSome given (λ bytes. FrontReported s (read_of bytes) a a)
front_of_none s None a = tt
front_of_none s (Some bytes) a = none_reported s (read_of bytes) a
