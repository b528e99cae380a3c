-- A command that goes on ends: it completes, or stops where another session's reset takes it out.
use Rattle.std.proofs.Common.{◌≡◌, ℕ, ◌+◌, ◌*◌, ◌≤◌, ◌==◌, ◌&&◌, not, cond, Bool, true, false, List, [], length, count_by, filter, Option, Some, None, refl, ap, sym, subst, ◌∙◌, arith}
use Rattle.std.proofs.lemmas.Bool.{and_from, eqb-true, false≢true}
use Rattle.iscsi_rules.specs.declared.event.Event.TheVariants.{Done}
use Rattle.iscsi_rules.specs.rules.Agenda.{command_of}
use Rattle.iscsi_rules.specs.rules.Trace.{Command as RulesCommand, Trace, live, was_free}
use Rattle.iscsi_rules.proofs.general.BoolLemmas.{and_parts}
use Rattle.iscsi_rules.proofs.general.ElementLemmas.{first-in, in-filter}
use Rattle.iscsi_outbox_rules.specs.promises.Room.{places}
use Rattle.iscsi_outbox_rules.specs.rules.Words.{contains}
use Rattle.iscsi_ffi_commands.specs.declared.command.Command.{Command}
use Rattle.iscsi_ffi_commands.specs.Commands.{is_going, is_marked}
use Rattle.iscsi_ffi_rules.specs.declared.action.Action.{Action}
use Rattle.iscsi_ffi_rules.specs.rules.Calls.{Interface, Completes, Stops}
use Rattle.iscsi_ffi_rules.specs.rules.Clearing.{TASK_ABORTED}
use Rattle.iscsi_ffi_rules.specs.rules.Happening.{Told, happening as happening_there, happens as happens_there, withheld, withholding as withholding_there}
use Rattle.iscsi_ffi_rules.specs.rules.Run as rules
use Rattle.iscsi_ffi_rules.specs.rules.Sides.{Side}
use Rattle.iscsi_ffi_steps.specs.State.{State}
use Rattle.iscsi_ffi_steps.specs.Steps.{Answered, Going, Side as StepsSide, complete, complete_as, done, going, happens, stop, stop_as, stop_running, withholding}
use Rattle.iscsi_ffi_law.specs.Alike.{GoesAlike}
use Rattle.iscsi_ffi_law.specs.Done.{AllDone, AreDoneFit}
use Rattle.iscsi_ffi_law.specs.Stands.{Stands}
use Rattle.iscsi_ffi_law.proofs.completions.DoneBox.{IsFound, b}
use Rattle.iscsi_ffi_law.proofs.completions.DoneChain.{chain, none_first}
use Rattle.iscsi_ffi_law.proofs.completions.DoneHeld.{held_of}
use Rattle.iscsi_ffi_law.proofs.completions.DoneMid.{acts_then, as_many, going_at, happens_to, mid_then, state_then}
use Rattle.iscsi_ffi_law.proofs.completions.DoneRules.{rules_are, side_after}
use Rattle.iscsi_ffi_law.proofs.completions.DoneShape.{few_counted, tickets_of}
use Rattle.iscsi_ffi_law.proofs.calls.Ends.{EndsAlike, GoesTo}
use Rattle.iscsi_ffi_law.proofs.requests.Releases.{endings}
use Rattle.iscsi_ffi_law.proofs.commands.Staging.{Both}

-- ---- an event, and those that follow it

module _ (i : Interface) (s : StepsSide) (r : Side) (h : Stands i s r) (d : RulesCommand) (status : ℕ) (command : command_of r.both.trace d.ticket ≡ Some d) (a : AllDone i r d.ticket status) where
  abbrev f : IsFound i h.names h.notes s.state r d status
  f = record { pending = endings []; gone = λ p. []; requests = h.requests; outbox = h.outbox; sizes = h.sizes; counts = h.counts; command = command; fit = a.fit }

  held : s.state.withheld ≡ tickets_of (filter (λ (c : RulesCommand). not (c.ticket == d.ticket)) (held_of r))
  held = h.withheld ∙ ap (λ cs. tickets_of (filter (λ (c : RulesCommand). not (c.ticket == d.ticket)) cs)) (sym (none_first (held_of r) h.calm))

  room : 0 + count_by (λ (c : RulesCommand). not (was_free c r.both.trace)) (live r.both.trace) ≤ 3 * places i.outbox
  room = let few = a.fit.few in let all = few_counted (λ (c : RulesCommand). not (was_free c r.both.trace)) (live r.both.trace) in omega (arith, few, all)

  abbrev s2 : State
  s2 = state_then i h.names h.notes s.state r d status f h.flags a.regular [] held room

  abbrev r2 : Side
  r2 = side_after i h.names h.notes s.state r d status f

  abbrev acts2 : List Action
  acts2 = acts_then i h.names h.notes s.state r d status f h.flags a.regular [] held room

  told_is : happening_there i r (Done d.ticket status) ≡ record { side = r2; actions = acts2 }
  told_is = rules_are i h.names h.notes s.state r d status f

  steps_are : happens i None (Done d.ticket status) (going s) ≡ withholding i (length s2.commands.items) (going_at s2 r2 acts2)
  steps_are =
      ap (λ (x : ℕ). happens i None (Done d.ticket status) (record { event = x; trace = s.trace; doing = record { state = s.state; actions = []; forgets = [] } })) h.event
      ∙ ap (λ (t : Trace). happens i None (Done d.ticket status) (record { event = r.both.event; trace = t; doing = record { state = s.state; actions = []; forgets = [] } })) h.trace
      ∙ ap (λ (x : Going). withholding i (length x.doing.state.commands.items) x) (happens_to i h.names h.notes s.state r d status f h.flags a.regular [] held room)

  all_end : EndsAlike i (withholding i (length s2.commands.items) (going_at s2 r2 acts2)) (withholding_there i (length (live r2.both.trace)) (record { side = r2; actions = acts2 })).side (withholding_there i (length (live r2.both.trace)) (record { side = r2; actions = acts2 })).actions
  all_end = chain i h.names h.notes a.fit.fit.distinct [] (length (live r2.both.trace)) (length s2.commands.items) s2 r2 acts2 (mid_then i h.names h.notes s.state r d status f h.flags a.regular [] held room h.slots h.functions) (omega arith) (omega arith)
      (as_many i h.names h.notes s.state r d status f h.flags a.regular [] held room) (subst (λ (w : Told). AreDoneFit i (length (live w.side.both.trace)) w) told_is a.withheld)

  pub done_goes : GoesTo i (done (happens i None (Done d.ticket status) (going s))) (rules.done (happens_there i r (Done d.ticket status)))
  done_goes =
      subst (λ (x : Going). GoesTo i (done x) (rules.done (happens_there i r (Done d.ticket status)))) (sym steps_are)
      (subst (λ (w : Told). GoesTo i (done (withholding i (length s2.commands.items) (going_at s2 r2 acts2))) (rules.done w)) (sym (ap (withheld i) told_is)) (record { answer = refl; tells = all_end.tells; stands = all_end.stands }))

-- ---- by the ticket

module _ (i : Interface) (s : StepsSide) (r : Side) (h : Stands i s r) where
  abbrev status_by : ℕ → ℕ → ℕ
  status_by ticket status = cond (contains r.marked ticket) TASK_ABORTED status

  -- the command that goes on
  record Goes (ticket : ℕ) : Type 0 where
    pub d : RulesCommand
    pub command : command_of r.both.trace d.ticket ≡ Some d
    pub is : d.ticket ≡ ticket
    pub told : contains r.told ticket ≡ true

  goes_on : (ticket : ℕ) → rules.is_going r ticket ≡ true → Goes ticket
  goes_on ticket going = by_command (command_of r.both.trace ticket) refl going
    where
      by_command : (x : Option RulesCommand) → command_of r.both.trace ticket ≡ x → elim x [ Some c ↦ contains r.told ticket | None ↦ false ] ≡ true → Goes ticket
      by_command None found e = absurd (false≢true e)
      by_command (Some d) found e =
          let there = in-filter (λ (c : RulesCommand). c.ticket == ticket && was_free c r.both.trace) (live r.both.trace) d (first-in (filter (λ (c : RulesCommand). c.ticket == ticket && was_free c r.both.trace) (live r.both.trace)) d found) in
          let is : d.ticket ≡ ticket = eqb-true d.ticket ticket (and_parts (d.ticket == ticket) (was_free d r.both.trace) there.1).0 in
          record { d = d; command = ap (command_of r.both.trace) is ∙ found; is = is; told = e }

  module _ (d : RulesCommand) (command : command_of r.both.trace d.ticket ≡ Some d) (told : contains r.told d.ticket ≡ true) where
    is_going_there : rules.is_going r d.ticket ≡ true
    is_going_there = ap (λ (x : Option RulesCommand). elim x as (λ (y : Option RulesCommand). Bool) [ Some c ↦ contains r.told d.ticket | None ↦ false ]) command ∙ told

    module _ (st : ℕ) (fit : AllDone i r d.ticket st) where
      two : Both h.names r s.state.commands.items d
      two = b i h.names h.notes s.state r d st (record { pending = endings []; gone = λ p. []; requests = h.requests; outbox = h.outbox; sizes = h.sizes; counts = h.counts; command = command; fit = fit.fit })

      going_on : is_going two.c ≡ true
      going_on = two.is.going ∙ ap (λ v. v && contains r.told d.ticket) two.lives ∙ told

      marked_too : is_marked two.c ≡ contains r.marked d.ticket
      marked_too = two.is.marked ∙ ap (λ v. v && contains r.marked d.ticket) two.lives

    completes_on : (status : ℕ) → AllDone i r d.ticket (status_by d.ticket status) → GoesAlike i s r (Completes d.ticket status)
    completes_on status fit =
        let e : GoesTo i (complete i d.ticket status s) (rules.complete i r d.ticket status)
        = subst (λ (x : Answered). GoesTo i x (rules.complete i r d.ticket status)) (sym steps_are)
        (subst (λ v. GoesTo i (done (happens i None (Done d.ticket (status_by d.ticket status)) (going s))) (cond v (rules.done (happens_there i r (Done d.ticket (status_by d.ticket status)))) (rules.stopped i r d.ticket))) (sym is_going_there)
        (done_goes i s r h d (status_by d.ticket status) command fit)) in
        record { answer = e.answer; tells = e.tells; stands = e.stands }
      where
        c : Command
        c = (two (status_by d.ticket status) fit).c

        steps_are : complete i d.ticket status s ≡ done (happens i None (Done d.ticket (status_by d.ticket status)) (going s))
        steps_are =
            ap (λ (x : Option Command). elim x as (λ (y : Option Command). Answered) [ Some e ↦ complete_as i e status s | None ↦ stop_running d.ticket s ]) ((two (status_by d.ticket status) fit).found s.state.commands refl)
            ∙ ap (λ v. cond v (done (happens i None (Done c.ticket (cond (is_marked c) TASK_ABORTED status)) (going s))) (stop_running c.ticket s)) (going_on (status_by d.ticket status) fit)
            ∙ ap (λ v. done (happens i None (Done c.ticket (cond v TASK_ABORTED status)) (going s))) (marked_too (status_by d.ticket status) fit)
            ∙ ap (λ n. done (happens i None (Done n (status_by d.ticket status)) (going s))) (two (status_by d.ticket status) fit).is.ticket

    stops_on : contains r.marked d.ticket ≡ true → AllDone i r d.ticket TASK_ABORTED → GoesAlike i s r (Stops d.ticket)
    stops_on marked fit =
        let e : GoesTo i (stop i d.ticket s) (rules.stops i r d.ticket)
        = subst (λ (x : Answered). GoesTo i x (rules.stops i r d.ticket)) (sym steps_are)
        (subst (λ v. GoesTo i (done (happens i None (Done d.ticket TASK_ABORTED) (going s))) (cond v (rules.done (happens_there i r (Done d.ticket TASK_ABORTED))) (rules.stopped i r d.ticket))) (sym (and_from (rules.is_going r d.ticket) (contains r.marked d.ticket) is_going_there marked))
        (done_goes i s r h d TASK_ABORTED command fit)) in
        record { answer = e.answer; tells = e.tells; stands = e.stands }
      where
        c : Command
        c = (two TASK_ABORTED fit).c

        steps_are : stop i d.ticket s ≡ done (happens i None (Done d.ticket TASK_ABORTED) (going s))
        steps_are =
            ap (λ (x : Option Command). elim x as (λ (y : Option Command). Answered) [ Some e ↦ stop_as i e s | None ↦ stop_running d.ticket s ]) ((two TASK_ABORTED fit).found s.state.commands refl)
            ∙ ap (λ v. cond v (done (happens i None (Done c.ticket TASK_ABORTED) (going s))) (stop_running c.ticket s)) (and_from (is_going c) (is_marked c) (going_on TASK_ABORTED fit) (marked_too TASK_ABORTED fit ∙ marked))
            ∙ ap (λ n. done (happens i None (Done n TASK_ABORTED) (going s))) (two TASK_ABORTED fit).is.ticket

  -- a command that goes on completes
  pub done_alike : (ticket status : ℕ) → rules.is_going r ticket ≡ true → AllDone i r ticket (cond (contains r.marked ticket) TASK_ABORTED status) → GoesAlike i s r (Completes ticket status)
  done_alike ticket status going =
      let k : Goes ticket = goes_on ticket going in
      subst (λ n. AllDone i r n (status_by n status) → GoesAlike i s r (Completes n status)) k.is
      (completes_on k.d k.command (ap (contains r.told) k.is ∙ k.told) status)

  -- one that another session's reset takes out stops
  pub stopped_alike : (ticket : ℕ) → (rules.is_going r ticket && contains r.marked ticket) ≡ true → AllDone i r ticket TASK_ABORTED → GoesAlike i s r (Stops ticket)
  stopped_alike ticket both =
      let parts = and_parts (rules.is_going r ticket) (contains r.marked ticket) both in
      let k : Goes ticket = goes_on ticket parts.0 in
      subst (λ n. AllDone i r n TASK_ABORTED → GoesAlike i s r (Stops n)) k.is
      (stops_on k.d k.command (ap (contains r.told) k.is ∙ k.told) (ap (contains r.marked) k.is ∙ parts.1))
