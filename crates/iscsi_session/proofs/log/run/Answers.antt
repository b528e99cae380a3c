use Rattle.iscsi_session.proofs.Names.{arith, ◌≡◌, ◌<◌, ◌∙◌, [], List, length, take, drop, ap, sym, subst, inl, inr, ⊎_elim, false, Result, OnOk, is_err, common_steps, take_more, take_all, err_from_is_err_and, Numbers, Event, Setting, setting_of, run_of, FlowsThrough, refusal_of, refusal_of_options, first_refusal, StandsFor, run_of-push, FlowsThrough-push, nat_tests}
use Rattle.std.specs.Prelude.{Ok, Err}
use Rattle.iscsi_session.proofs.RunLemmas.{taken_none, refused_cases, refusal_more, refusal_here, event_refused, run_taken, promises_kept}
use Rattle.iscsi_session.proofs.log.run.Goals as goal

pub returns-in_err-numbers-clause-refused : goal.returns-in_err-numbers-clause-refused
returns-in_err-numbers-clause-refused c =
    let o : Setting = setting_of c.args.options in
    let i = c.loop-event.event-index in
    let in_range : i < length c.args.events.now = omega arith in
    let inv = c.loop-event.invariant in
    let opened = taken_none (refusal_of_options o) c.in_ok-session.session c.in_ok-session.ensures.refused in
    let cases = refused_cases Numbers (refusal_of o (take i c.args.events.now) _) c.in_err-numbers.field-0.0 (c.in_err-numbers.ensures.refused o (take i c.args.events.now) inv.stands) in
    let p = err_from_is_err_and c.from_residual-in_err-numbers.result c.from_residual-in_err-numbers.ensures.1 in
    rw (p.1, p.2) (event_refused _ _ _ c.in_err-numbers.field-0.0 opened
    (⊎_elim (λ wanting. inl wanting) (λ refused. inr (refusal_here o c.args.events.now i _ (first_refusal o 0 c.args.events.now) c.in_err-numbers.field-0.0 in_range inv.refusal refused)) cases))

-- what an answer says that is no error
granted : {T E : Type 0} (P : Type 0) (r : Result T E) → is_err r ≡ false → OnOk r P → P
granted P (Ok x) ok h = h
granted P (Err e) ok h = absurd cc

pub push_reserved-requires : goal.push_reserved-requires
push_reserved-requires c = grind (arith, nat_tests, granted)

pub loop-event-preserved : goal.loop-event-preserved
loop-event-preserved c =
    let o : Setting = setting_of c.args.options in
    let i = c.loop-event.event-index in
    let h : List Event = take i c.args.events.now in
    let in_range : i < length c.args.events.now = omega arith in
    let inv = c.loop-event.invariant in
    let step = c.in_ok-numbers.ensures in
    let more = take_more c.args.events.now i _ in_range in
    record {
      stands = rw more (step.stands o h inv.stands);
      flow = rw more (FlowsThrough-push o h _ inv.flow (step.flow o h inv.stands));
      log = rw (more, run_of-push, c.push_reserved.ensures.items, c.reserve.ensures.items, inv.log, step.numbers o h inv.stands, c.from_vec.ensures, step.effects o h inv.stands, c.new-effects.ensures.items);
      refusal = refusal_more o c.args.events.now i _ (first_refusal o 0 c.args.events.now) in_range inv.refusal (taken_none _ c.in_ok-numbers.numbers (step.refused o h inv.stands));
    }

pub returns : goal.returns
returns c =
    let o : Setting = setting_of c.args.options in
    let events : List Event = c.args.events.now in
    let inv = c.loop-event.invariant in
    let all = take_all c.loop-event.event-index events c.loop-event-test.false in
    let log : c.loop-event.log.items ≡ run_of o events = inv.log ∙ ap (run_of o) all in
    let stands : StandsFor o c.loop-event.session events = rw (← all) inv.stands in
    let opened = taken_none (refusal_of_options o) c.in_ok-session.session c.in_ok-session.ensures.refused in
    let over : drop c.loop-event.event-index events ≡ [] = grind (arith, common_steps) in
    record {
      log = log;
      promises = rw log (promises_kept o c.loop-event.session events stands (subst (FlowsThrough o) all inv.flow));
      refused = run_taken (refusal_of_options o) (first_refusal o 0 events) c.loop-event.log opened (sym inv.refusal ∙ ap (first_refusal o c.loop-event.event-index) over);
    }
