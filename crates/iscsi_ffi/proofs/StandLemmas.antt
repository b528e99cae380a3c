-- A side goes on as its steps do.
use Rattle.std.proofs.Common.{◌≡◌, ◌∙◌, ◌+◌, ◌<◌, ℕ, nat_lt, Bool, true, false, List, [], ◌∷◌, ◌++◌, length, Option, Some, None, refl, sym, ap, subst, not, arith, length-append, if◌then◌else◌}
use Rattle.std.proofs.lemmas.Bool.{ltb-true}
use Rattle.iscsi_rules.specs.declared.effect.Effect.{Effect}
use Rattle.iscsi_rules.specs.declared.effect.Numbers.{Numbers}
use Rattle.iscsi_rules.specs.declared.entry.Entry.{Entry}
use Rattle.iscsi_rules.specs.declared.event.Event.{Event}
use Rattle.iscsi_rules.specs.rules.Agenda.{belongs}
use Rattle.iscsi_rules.specs.rules.Settings.{Setting}
use Rattle.iscsi_rules.specs.rules.Trace.{Trace}
use Rattle.iscsi_rules.specs.rules.Run.{after_event, entry_of, next_entry, numbers_of, run_of, trace_of}
use Rattle.iscsi_rules.proofs.traces.RunLemmas.{run_of-push, trace_of-push}
use Rattle.iscsi_session.specs.declared.fault.SessionFault.{SessionFault}
use Rattle.iscsi_session.specs.declared.fault.SessionFault.TheVariants.{UnknownConnection, Exhausted}
use Rattle.iscsi_session.specs.promises.Refusals.{refusal_of}
use Rattle.iscsi_host.specs.Serving.{Hosted, Serves, last_effects}
use Rattle.iscsi_host.proofs.EffectLemmas.{last_effects-push}
use Rattle.iscsi_ffi_rules.specs.rules.Calls.{Interface}
use Rattle.iscsi_ffi_steps.specs.Walk.{Doing}
use Rattle.iscsi_ffi_steps.specs.Steps.{Going, happening, takes}
use Rattle.iscsi_ffi.specs.Standing.{Begun, Sided}
use Rattle.iscsi_ffi.proofs.Outboxes.{takes_limits}

-- what is kept beside the session becomes another, and the connections stay
abbrev pub set_desk : (i : Interface) (v : Sided) (g : Going) (d e : Doing) → Begun i v g → d ≡ e → e.state.outbox.limits ≡ g.doing.state.outbox.limits
    → Begun i (record v { desk = d }) (record g { doing = e })
set_desk i v g d e b same limits = let s = b.stands in record {
  stands = record {
    history = s.history;
    serves = s.serves;
    event = s.event;
    trace = s.trace;
    taken = s.taken;
    doing = same;
    limits = limits ∙ s.limits;
    events = s.events;
    kept = s.kept;
    unwritten = s.unwritten;
  };
  given = b.given;
  forgotten = b.forgotten;
}

-- ---- an event

none_refused : (b : Bool) (x : SessionFault) → None ≡ (if b then None else Some x) → b ≡ true
none_refused true x e = refl
none_refused false x e = cc

one_refused : (b : Bool) (x fault : SessionFault) → Some fault ≡ (if b then None else Some x) → b ≡ false
one_refused true x fault e = cc
one_refused false x fault e = refl

belonging : (o : Setting) (h : List Event) (e : Event) → belongs o e ≡ true → refusal_of o h e ≡ (if nat_lt (length h) o.events then None else Some Exhausted)
belonging o h e is = ap (λ b. if not b then Some UnknownConnection else (if nat_lt (length h) o.events then None else Some Exhausted)) is

-- the session takes an event that isn't refused
pub may_happen : (o : Setting) (h : List Event) (e : Event) → belongs o e ≡ true → None ≡ refusal_of o h e → nat_lt (length h) o.events ≡ true
may_happen o h e is none = none_refused (nat_lt (length h) o.events) Exhausted (none ∙ belonging o h e is)

pub may_not_happen : (o : Setting) (h : List Event) (e : Event) (fault : SessionFault) → belongs o e ≡ true → Some fault ≡ refusal_of o h e → nat_lt (length h) o.events ≡ false
may_not_happen o h e fault is some = one_refused (nat_lt (length h) o.events) Exhausted fault (some ∙ belonging o h e is)

-- fewer events were taken than may be
pub more_may : (i : Interface) (v : Sided) (g : Going) (e : Event) → (b : Begun i v g) → belongs i.outbox.session e ≡ true → None ≡ refusal_of i.outbox.session b.stands.history e → v.taken < v.events
more_may i v g e b is none =
    let s = b.stands in
    let P : ℕ → Type 0 = λ n. v.taken < n in
    let Q : ℕ → Type 0 = λ n. n < i.outbox.session.events in
    subst P (sym s.events) (subst Q (sym s.taken) (ltb-true (length s.history) i.outbox.session.events (may_happen i.outbox.session s.history e is none)))

-- the entry of an event, as the host has it
pub entry_told : (o : Setting) (h : List Event) (e : Event) (host : Hosted) → Serves o host (h ++ e ∷ []) → record { numbers = host.numbers; effects = host.effects } ≡ entry_of o (length h) (trace_of o h) e
entry_told o h e host s =
    ap (λ (n : Numbers). record { numbers = n; effects = host.effects }) (s.numbers ∙ ap (numbers_of o) (trace_of-push o h e))
    ∙ ap (λ (es : List Effect). record { numbers = numbers_of o (after_event o (length h) (trace_of o h) e); effects = es })
    (s.effects ∙ ap last_effects (run_of-push o h e) ∙ last_effects-push (run_of o h) (next_entry o h e))

-- the effects of an event
pub effects_told : (i : Interface) (v : Sided) (g : Going) (e : Event) (host : Hosted) → (b : Begun i v g) → Serves i.outbox.session host (b.stands.history ++ e ∷ [])
    → host.effects ≡ (entry_of i.outbox.session g.event g.trace e).effects
effects_told i v g e host b serves =
    let o = i.outbox.session in
    let s = b.stands in
    ap (λ (x : Entry). x.effects) (entry_told o s.history e host serves
    ∙ ap (λ (n : ℕ). entry_of o n (trace_of o s.history) e) (sym s.event) ∙ ap (λ (t : Trace). entry_of o g.event t e) (sym s.trace))

-- the session took an event, and the desk what came of it
pub event_taken : (i : Interface) (v : Sided) (g : Going) (own : Option ℕ) (e : Event) (host : Hosted) (d : Doing) (taken : ℕ)
    → (b : Begun i v g) → belongs i.outbox.session e ≡ true → None ≡ refusal_of i.outbox.session b.stands.history e → Serves i.outbox.session host (b.stands.history ++ e ∷ [])
    → d ≡ takes own (record { numbers = host.numbers; effects = host.effects }) v.desk → taken ≡ v.taken + 1
    → Begun i (record v { host = host; desk = d; taken = taken }) (happening i own e g)
event_taken i v g own e host d taken b is none serves told count =
    let s = b.stands in
    let o = i.outbox.session in
    let h = s.history in
    let may : nat_lt (length h) o.events ≡ true = may_happen o h e is none in
    let entry = entry_of o g.event g.trace e in
    let same : entry_of o (length h) (trace_of o h) e ≡ entry = ap (λ (n : ℕ). entry_of o n (trace_of o h) e) (sym s.event) ∙ ap (λ (t : Trace). entry_of o g.event t e) (sym s.trace) in
    let happens : happening i own e g ≡ record { event = g.event + 1; trace = after_event o g.event g.trace e; doing = takes own entry g.doing } =
    ap (λ (b : Bool). if b then record { event = g.event + 1; trace = after_event o g.event g.trace e; doing = takes own entry g.doing } else g) (ap (λ n. nat_lt n o.events) s.event ∙ may) in
    let P : Going → Type 0 = λ x. Begun i (record v { host = host; desk = d; taken = taken }) x in
    subst P (sym happens) (record {
      stands = record {
        history = h ++ e ∷ [];
        serves = serves;
        event = (let z : g.event + 1 ≡ length (h ++ e ∷ []) = omega (arith, s.event, length-append h (e ∷ [])) in z);
        trace = ap (λ (n : ℕ). after_event o n g.trace e) s.event ∙ ap (λ (t : Trace). after_event o (length h) t e) s.trace ∙ sym (trace_of-push o h e);
        taken = (let z : taken ≡ length (h ++ e ∷ []) = omega (arith, count, s.taken, length-append h (e ∷ [])) in z);
        doing = told ∙ ap (λ (x : Entry). takes own x v.desk) (entry_told o h e host serves ∙ same) ∙ ap (takes own entry) s.doing;
        limits = takes_limits own entry g.doing ∙ s.limits;
        events = s.events;
        kept = s.kept;
        unwritten = s.unwritten;
      };
      given = b.given;
      forgotten = b.forgotten;
    })

-- the session takes no more events: nothing happens
pub event_refused : (i : Interface) (v : Sided) (g : Going) (own : Option ℕ) (e : Event) (host : Hosted) (fault : SessionFault)
    → (b : Begun i v g) → belongs i.outbox.session e ≡ true → Some fault ≡ refusal_of i.outbox.session b.stands.history e → host ≡ v.host
    → Begun i (record v { host = host }) (happening i own e g)
event_refused i v g own e host fault b is some same =
    let s = b.stands in
    let o = i.outbox.session in
    let none : nat_lt g.event o.events ≡ false = ap (λ n. nat_lt n o.events) s.event ∙ may_not_happen o s.history e fault is some in
    let entry = entry_of o g.event g.trace e in
    let happens : happening i own e g ≡ g = ap (λ (b : Bool). if b then record { event = g.event + 1; trace = after_event o g.event g.trace e; doing = takes own entry g.doing } else g) none in
    let P : Hosted → Type 0 = λ x. Begun i (record v { host = x }) (happening i own e g) in
    let Q : Going → Type 0 = λ x. Begun i v x in
    subst P (sym same) (subst Q (sym happens) b)
