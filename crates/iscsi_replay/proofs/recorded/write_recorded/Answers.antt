use Rattle.std.proofs.Common.{rules, ◌≡◌, ◌≢◌, ◌∙◌, ◌↔◌, [], ◌∷◌, ◌++◌, ℕ, List, append_assoc, refl, ap, sym, subst, Bool, true, false, Result, Ok, Err, MatchResult, IfErr, IsErrOf}
use Rattle.std.specs.Prelude.{OnOk}
use Rattle.std.proofs.lemmas.Bool.{false≢true}
use Rattle.std.proofs.lemmas.Result.{IfOk-weaker}
use Rattle.iscsi_rules.specs.promises.Flow.{FlowsThrough}
use Rattle.iscsi_rules.proofs.traces.FlowItems.{FlowsThrough-push, FlowsThrough-none}
use Rattle.iscsi_session.proofs.RunLemmas.{promises_kept}
use Rattle.iscsi_session.specs.private.Standing.{StandsFor}
use Rattle.iscsi_recording.specs.declared.fault.ReplayFault.{ReplayFault}
use Rattle.iscsi_recording.specs.declared.fault.ReplayFault.TheVariants.{Write, NoMemory}
use Rattle.std.specs.List.{flat_map}
use Rattle.iscsi_rules.specs.declared.effect.Effect.{Effect}
use Rattle.iscsi_rules.specs.rules.Run.{next_entry, numbers_of}
use Rattle.iscsi_rules.proofs.traces.RunLemmas.{trace_of-push}
use Rattle.iscsi_report.specs.Lines.{event_line, effect_line}
use Rattle.iscsi_report.specs.Filled.{Written, at_rest}
use Rattle.iscsi_recording.specs.Writing.{AppendsBut}
use Rattle.iscsi_replay.specs.promises.Replayed.{setting_with, report_by}
use Rattle.iscsi_recording.proofs.Written.{front_before, front_after, waits_not, waits_less}
use Rattle.iscsi_replay.proofs.ReportLemmas.{front_of_all, waits_next, all_written}
use Rattle.iscsi_replay.proofs.RefusalLemmas.{memory_alone, event_taken}
use Rattle.iscsi_recording.proofs.SourceLemmas.{with_next, past_next, all_came}
use Rattle.iscsi_replay.proofs.recorded.write_recorded.Given.{Over}
use Rattle.iscsi_replay.proofs.recorded.write_recorded.Goals.{In-Ok-end}
use Rattle.iscsi_replay.proofs.recorded.write_recorded.Goals as goal

pub events-init : goal.events-init
events-init g c = record {
  before = [];
  whole = refl;
  rest = rw c.new-report.ensures (refl, refl);
  fresh = search rules;
  stands = c.in_ok-session.ensures.stands;
  flow = FlowsThrough-none _;
  written = waits_not _ _ (ap (λ (w : Written). w.bytes) c.new-report.ensures);
}

pub returns-in_default-end-clause-front : goal.returns-in_default-end-clause-front
returns-in_default-end-clause-front g c =
    let so_far = c.events.invariant in
    front_of_all _ _ (setting_with c.args.most c.args.settings.now c.args.conns.items) so_far.before c.events.events _ so_far.whole
    (front_before _ _ _ _ so_far.written)

-- the event is taken
pub unreachable-requires : goal.unreachable-requires
unreachable-requires g c =
    let o = setting_with c.args.most c.args.settings.now c.args.conns.items in
    let so_far = c.events.invariant in
    let after = c.step_next.new.events in
    let whole = with_next _ so_far.before c.events.events after c.step_next.ensures.event so_far.whole c.step_next.ensures.came in
    c.step_next.ensures.memory (c.in_default.is ∙ ap Err (memory_alone _ _ _ (event_taken o so_far.before after _ c.step_next.ensures.event whole c.requires.known c.requires.few)
    c.in_default.is (c.step_next.ensures.refused o so_far.before so_far.stands)))

-- its lines are there, and no more are to come
ended : (g : Over) (c : In-Ok-end g) → c.end.new.self ≡ at_rest ((c.events.report.bytes ++ event_line c.in-Ok.ensures.event)
    ++ flat_map (λ effect. effect_line effect c.numbers.result) (next_entry (setting_with c.args.most c.args.settings.now c.args.conns.items) c.events.invariant.before c.in-Ok.ensures.event).effects)
ended g c =
    let o = setting_with c.args.most c.args.settings.now c.args.conns.items in
    let so_far = c.events.invariant in
    let text : List ℕ = c.events.report.bytes ++ event_line c.in-Ok.ensures.event in
    c.in-Ok-end.ensures.text text _ (c.in-Ok.ensures.lines o so_far.before so_far.stands)

pub write_chunk-requires-clause-rest : goal.write_chunk-requires-clause-rest
write_chunk-requires-clause-rest g c = rw (ended g (goal.at.write_chunk-requires-clause-rest g c).In-Ok-end) (refl, refl)

-- the session's numbers are those of the event
numbers_now : (g : Over) (c : In-Ok-end g) → let o = setting_with c.args.most c.args.settings.now c.args.conns.items in
    c.numbers.result ≡ (next_entry o c.events.invariant.before c.in-Ok.ensures.event).numbers
numbers_now g c =
    let o = setting_with c.args.most c.args.settings.now c.args.conns.items in
    let before = c.events.invariant.before in
    let event = c.in-Ok.ensures.event in
    c.numbers.ensures.numbers o (before ++ event ∷ []) (c.in-Ok.ensures.stands o before c.events.invariant.stands)
    ∙ ap (numbers_of o) (trace_of-push o before event)

waits_now : (g : Over) (c : In-Ok-end g) → let o = setting_with c.args.most c.args.settings.now c.args.conns.items in
    AppendsBut (g.W.Sink.contents c.args.writer.now) (g.W.Sink.contents c.events.writer) c.end.new.self.bytes (report_by o (c.events.invariant.before ++ c.in-Ok.ensures.event ∷ []))
waits_now g c =
    let o = setting_with c.args.most c.args.settings.now c.args.conns.items in
    let so_far = c.events.invariant in
    let effects : List Effect = (next_entry o so_far.before c.in-Ok.ensures.event).effects in
    waits_next _ _ o so_far.before c.in-Ok.ensures.event c.events.report.bytes c.end.new.self.bytes c.numbers.result effects
    (ap (λ (w : Written). w.bytes) (ended g c) ∙ append_assoc c.events.report.bytes (event_line c.in-Ok.ensures.event) (flat_map (λ effect. effect_line effect c.numbers.result) effects))
    (numbers_now g c) refl so_far.written

pub returns-in_err-write_chunk-clause-front : goal.returns-in_err-write_chunk-clause-front
returns-in_err-write_chunk-clause-front g c =
    let o = setting_with c.args.most c.args.settings.now c.args.conns.items in
    let so_far = c.events.invariant in
    let before = so_far.before in
    let after = c.step_next.new.events in
    front_of_all _ _ o (before ++ c.in-Ok.ensures.event ∷ []) after _ (past_next _ before c.events.events after c.in-Ok.ensures.event so_far.whole c.in-Ok.ensures.came)
    (front_after _ _ _ _ _ _ refl (waits_now g (goal.at.returns-in_err-write_chunk-clause-front g c).In-Ok-end) c.in_err-write_chunk.ensures.front)

pub events-preserved : goal.events-preserved
events-preserved g c =
    let o = setting_with c.args.most c.args.settings.now c.args.conns.items in
    let so_far = c.events.invariant in
    let before = so_far.before in
    let after = c.step_next.new.events in
    record {
      before = before ++ c.in-Ok.ensures.event ∷ [];
      whole = past_next _ before c.events.events after c.in-Ok.ensures.event so_far.whole c.in-Ok.ensures.came;
      rest = c.in_ok-write_chunk.ensures.rest;
      fresh = search rules;
      stands = c.in-Ok.ensures.stands o before so_far.stands;
      flow = FlowsThrough-push o before _ so_far.flow (c.in-Ok.ensures.flow o before so_far.stands);
      written = waits_less _ _ _ _ _ _ (waits_now g (goal.at.events-preserved g c).In-Ok-end) c.in_ok-write_chunk.ensures.ok;
    }

pub returns-clause-ok : goal.returns-clause-ok
returns-clause-ok g c = IfOk-weaker c.put_all.result _ _ (λ x h.
    let so_far = c.events.invariant in
    all_written _ _ _ (setting_with c.args.most c.args.settings.now c.args.conns.items) so_far.before _ _ _
    (all_came _ so_far.before c.events.events so_far.whole (c.has_next.ensures.none c.events-test.false)) c.as_slice.ensures so_far.written h) c.put_all.ensures.ok

pub returns-clause-front : goal.returns-clause-front
returns-clause-front g c =
    let so_far = c.events.invariant in
    front_of_all _ _ (setting_with c.args.most c.args.settings.now c.args.conns.items) so_far.before c.events.events _ so_far.whole
    (front_after _ _ _ _ _ _ c.as_slice.ensures so_far.written c.put_all.ensures.front)

only_write : {T : Type 0} (x : Result T ReplayFault) (fresh failed : Type 0) → MatchResult x (λ v. fresh) (λ e. (e ≡ Write) × failed) → IfErr x (λ e. e ≢ Write → e ≡ NoMemory)
only_write (Ok v) fresh failed h = tt
only_write (Err e) fresh failed h = λ other. absurd (other h.0)

pub returns-clause-kinds : goal.returns-clause-kinds
returns-clause-kinds g c = only_write c.put_all.result _ _ c.put_all.ensures.failed

-- it is the answer Write just where the writer has failed
just_write : {T : Type 0} (x : Result T ReplayFault) (now : Bool) → MatchResult x (λ v. now ≡ false) (λ e. (e ≡ Write) × (now ≡ true)) → IsErrOf x Write ↔ (now ≡ true)
just_write (Ok v) now h = (λ none. absurd cc, λ said. absurd (false≢true (sym h ∙ said)))
just_write (Err e) now h = (λ is. h.1, λ said. ap Err h.0)

pub returns-clause-failed : goal.returns-clause-failed
returns-clause-failed g c = just_write c.put_all.result _ c.put_all.ensures.failed

-- a fact holds where the answer is Ok, and elsewhere too
whatever : {P : Type 0} (x : Result (Unit {0}) ReplayFault) → P → OnOk x P
whatever (Ok v) h = h
whatever (Err e) h = tt

pub returns-clause-promises : goal.returns-clause-promises
returns-clause-promises g c =
    let o = setting_with c.args.most c.args.settings.now c.args.conns.items in
    let so_far = c.events.invariant in
    let all = all_came _ so_far.before c.events.events so_far.whole (c.has_next.ensures.none c.events-test.false) in
    whatever c.put_all.result (promises_kept o c.events.session _ (subst (StandsFor o c.events.session) all so_far.stands) (subst (FlowsThrough o) all so_far.flow))
