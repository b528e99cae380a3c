-- A host with one event more.
use Rattle.std.proofs.Common.{◌≡◌, ◌≢◌, ◌∙◌, ◌≤◌, ◌+◌, ℕ, ap, sym, subst, arith, List, [], ◌∷◌, ◌++◌, Option, None, Result, Err}
use Rattle.iscsi_rules.specs.declared.effect.Effect.{Effect}
use Rattle.iscsi_rules.specs.declared.effect.Numbers.{Numbers}
use Rattle.iscsi_rules.specs.declared.event.Event.{Event}
use Rattle.iscsi_rules.specs.rules.Settings.{Setting}
use Rattle.iscsi_rules.specs.rules.Run.{run_of, next_entry, numbers_of}
use Rattle.iscsi_rules.proofs.traces.RunLemmas.{run_of-push, trace_of-push}
use Rattle.iscsi_session.specs.declared.fault.SessionFault.{SessionFault}
use Rattle.iscsi_session.specs.declared.fault.SessionFault.TheVariants.{NoMemory}
use Rattle.iscsi_session.specs.promises.Refusals.{RefusesAs, refusal_of}
use Rattle.iscsi_session.specs.promises.Bounds.{most_effects}
use Rattle.iscsi_session.specs.private.Standing.{Core, StandsFor}
use Rattle.iscsi_session.specs.private.Steps.{refusal_by}
use Rattle.iscsi_session.proofs.AgendaLemmas.{refusal_as}
use Rattle.iscsi_host.specs.Serving.{Hosted, Serves, last_effects}
use Rattle.iscsi_host.proofs.EffectLemmas.{last_effects-push}

-- what a host says of the refusal of the next event
pub refusal_here : (o : Setting) (h : List Event) (e : Event) (host : Hosted) (refusal : Option SessionFault) → Serves o host h → refusal ≡ refusal_by host.session e → refusal ≡ refusal_of o h e
refusal_here o h e host refusal serves is = sym (refusal_as o host.session h e refusal serves.stands (sym is))

-- a step that isn't due to be refused is done, as there is room
pub never_refused : (o : Setting) (h : List Event) (e : Event) (host : Hosted) (len room : ℕ) (refusal : Option SessionFault) (result : Result Numbers SessionFault) (fault : SessionFault)
    → Serves o host h → refusal ≡ None → refusal ≡ refusal_by host.session e → len ≡ 0 → room ≡ host.room
    → RefusesAs (refusal_of o h e) result → (len + most_effects o ≤ room → result ≢ Err NoMemory) → result ≡ Err fault → ⊥
never_refused o h e host len room refusal result fault serves none is empty same refuses roomy err =
    let due : refusal_of o h e ≡ None = sym (refusal_here o h e host refusal serves is) ∙ none in
    let P : Option SessionFault → Type 0 = λ x. RefusesAs {A = Numbers} x result in
    let Q : Result Numbers SessionFault → Type 0 = λ r. RefusesAs {A = Numbers} None r in
    let memory : fault ≡ NoMemory = subst Q err (subst P due refuses) in
    let enough : most_effects o ≤ host.room = serves.room in
    roomy (let z : len + most_effects o ≤ room = omega (arith, empty, same, enough) in z) (err ∙ ap Err memory)

pub serves_more : (o : Setting) (h : List Event) (e : Event) (host : Hosted) (s : Core) (before after : List Effect) (numbers : Numbers) (room : ℕ)
    → Serves o host h → StandsFor o s (h ++ e ∷ []) → before ≡ [] → after ≡ before ++ (next_entry o h e).effects → numbers ≡ (next_entry o h e).numbers → host.room ≤ room
    → Serves o (record { session = s; effects = after; numbers = numbers; room = room }) (h ++ e ∷ [])
serves_more o h e host s before after numbers room serves stands none effects_are numbers_are wider = record {
  stands = stands;
  effects = effects_are ∙ ap (λ (es : List Effect). es ++ (next_entry o h e).effects) none ∙ sym (last_effects-push (run_of o h) (next_entry o h e)) ∙ ap last_effects (sym (run_of-push o h e));
  numbers = numbers_are ∙ ap (numbers_of o) (sym (trace_of-push o h e));
  room = let enough : most_effects o ≤ host.room = serves.room in let z : most_effects o ≤ room = omega (arith, enough, wider) in z;
}
