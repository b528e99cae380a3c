-- What the steps make of the end of a command, up to those that are withheld then.
use Rattle.std.proofs.Common.{◌≡◌, ℕ, zero, suc, ◌+◌, ◌≤◌, cond, List, [], ◌∷◌, length, map, Option, None, refl, ap, ◌∙◌, lt-ltb}
use Rattle.iscsi_rules.specs.declared.event.Event.TheVariants.{Done}
use Rattle.iscsi_rules.specs.rules.Execution.{completion}
use Rattle.iscsi_rules.specs.rules.Run.{after_event, entry_of}
use Rattle.iscsi_rules.specs.rules.Trace.{Command as RulesCommand, after_items}
use Rattle.iscsi_rules.proofs.general.ElementLemmas.{In}
use Rattle.iscsi_ffi_commands.specs.declared.command.Stage.TheVariants.{Over}
use Rattle.iscsi_ffi_rules.specs.declared.action.Action.{Action}
use Rattle.iscsi_ffi_rules.specs.rules.Calls.{Interface}
use Rattle.iscsi_ffi_rules.specs.rules.Sides.{Side}
use Rattle.iscsi_ffi_steps.specs.State.{State}
use Rattle.iscsi_ffi_steps.specs.Steps.{Going, changed, happening, start_each, status_of, takes, withholding}
use Rattle.iscsi_ffi_steps.specs.Walk.{Doing, in_state}
use Rattle.iscsi_ffi_law.specs.Names.{Name, Note}
use Rattle.iscsi_ffi_law.proofs.completions.DoneBox.{IsFound}
use Rattle.iscsi_ffi_law.proofs.completions.DoneRequests.{done_side, have_over, live_named_done}
use Rattle.iscsi_ffi_law.proofs.completions.DoneRules.{apart_after, new_one}
use Rattle.iscsi_ffi_law.proofs.completions.DoneShape.{IsNew, done_trace, entry_is, news, tickets_of}
use Rattle.iscsi_ffi_law.proofs.completions.DoneWalk.{outbox_after, state_done, takes_is}
use Rattle.iscsi_ffi_law.proofs.requests.NameLemmas.{found_named}
use Rattle.iscsi_ffi_law.proofs.sending.Sources.{cookie_named}
use Rattle.iscsi_ffi_law.proofs.commands.Staging.{restaged}
use Rattle.iscsi_ffi_law.proofs.commands.Starting.{MayStart, Starts, all_start}

-- no command waits to be completed
pub idle : (i : Interface) (n : ℕ) (g : Going) → g.doing.state.withheld ≡ [] → withholding i n g ≡ g
idle i zero g none = refl
idle i (suc n) g none = ap (λ (ts : List ℕ). elim ts as (λ (us : List ℕ). Going) [ [] ↦ g | ticket ∷ tickets ↦ next ticket tickets ]) none
  where
    next : ℕ → List ℕ → Going
    next ticket tickets =
        let status = status_of g.doing.state ticket in
        withholding i n (happening i None (Done ticket status) (changed (in_state (λ s. record s { withheld = tickets })) g))

-- ---- an event

module _ (i : Interface) (names : List Name) (notes : List Note) (s : State) (r : Side) (d : RulesCommand) (status : ℕ) (f : IsFound i names notes s r d status) (acts : List Action)
    (room : length acts + length (news i.outbox.session r.both.trace d status) ≤ s.room) (held : length s.withheld + length (news i.outbox.session r.both.trace d status) ≤ s.room) where
  abbrev doing_now : Doing
  doing_now = record { state = state_done i names notes s r d status f; actions = acts; forgets = [] }

  may_start : (n : RulesCommand) → In n (news i.outbox.session r.both.trace d status) → MayStart (done_side i names notes s r d status f) n
  may_start n at = let k : IsNew r.both.trace (done_trace r.both.trace d status) n = new_one i names notes s r d status f n at in record { there = k.there; lives = k.lives; free = k.free }

  pub starts_now : Starts names (done_side i names notes s r d status f) (outbox_after i names notes s r d status f) (map (restaged Over d.ticket) s.commands.items) (news i.outbox.session r.both.trace d status) doing_now
      (start_each (tickets_of (news i.outbox.session r.both.trace d status)) doing_now)
  starts_now = all_start names (outbox_after i names notes s r d status f) (map (restaged Over d.ticket) s.commands.items) (news i.outbox.session r.both.trace d status) (done_side i names notes s r d status f) (apart_after i names notes s r d status f)
      (live_named_done i names notes s r d status f) may_start doing_now
      (λ event place named. cookie_named names notes s.cookies r.asked f.requests.apart f.requests.kept f.requests.counted f.requests.asked event place (found_named names event place named))
      (have_over i names notes s r d status f) room held

  -- what the steps come to
  pub happening_is : happening i None (Done d.ticket status) (record { event = r.both.event; trace = r.both.trace; doing = record { state = s; actions = acts; forgets = [] } })
      ≡ record { event = r.both.event + 1; trace = done_trace r.both.trace d status; doing = start_each (tickets_of (news i.outbox.session r.both.trace d status)) doing_now }
  happening_is =
      ap (λ v. cond v next before) (lt-ltb r.both.event i.outbox.session.events f.fit.events)
      ∙ ap (λ (x : Option RulesCommand). record { event = r.both.event + 1; trace = after_items (completion status x) r.both.trace; doing = takes None (entry_of i.outbox.session r.both.event r.both.trace (Done d.ticket status)) before.doing }) f.command
      ∙ ap (λ e. record { event = r.both.event + 1; trace = done_trace r.both.trace d status; doing = takes None e before.doing }) (entry_is i.outbox.session r.both.event r.both.trace d status f.command)
      ∙ ap (λ (e : Doing). record { event = r.both.event + 1; trace = done_trace r.both.trace d status; doing = e }) (takes_is i names notes s r d status f acts [])
    where
      before : Going
      before = record { event = r.both.event; trace = r.both.trace; doing = record { state = s; actions = acts; forgets = [] } }

      next : Going
      next = record { event = r.both.event + 1; trace = after_event i.outbox.session r.both.event r.both.trace (Done d.ticket status); doing = takes None (entry_of i.outbox.session r.both.event r.both.trace (Done d.ticket status)) before.doing }
