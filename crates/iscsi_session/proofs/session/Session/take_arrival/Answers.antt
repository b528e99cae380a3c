use Rattle.iscsi_session.proofs.Names.{◌≡◌, ◌∙◌, ◌+◌, ap, arith, List, length, length_push, Event, Setting, trace_of, items_of, HasOneMore, trace_of-push, belong_more, Core, StandsFor, KeepsPace, Handles, arrived}
use Rattle.iscsi_session.proofs.RunLemmas.{Flows-step, taken_belongs}
use Rattle.iscsi_session.proofs.SoundLemmas.{few, owed_few, taken_sound}
use Rattle.iscsi_session.proofs.AgreeLemmas.{settled_numbers}
use Rattle.iscsi_session.proofs.AgendaLemmas.{taken_by, refusal_as}
use Rattle.iscsi_session.proofs.session.Session.take_arrival.Given.{Over}
use Rattle.iscsi_session.proofs.session.Session.take_arrival.Goals as goal
use Rattle.iscsi_session.proofs.session.Session.take_arrival.Goals.{After-arrive}

pub invariant_of-self : goal.invariant_of-self
invariant_of-self over c = taken_sound c.self.invariant (rw (← c.self.view_is) at (taken_by c.args.self.now (arrived c.args.request.now) c.requires.taken).1)

pub arrive-requires-clause-room : goal.arrive-requires-clause-room
arrive-requires-clause-room over c = omega (arith, c.requires.room, owed_few _ _ c.self.invariant.commands.in_sets, few c.self.invariant, c.self.invariant.window.most, c.self.invariant.window.fits, c.self.invariant.few_conns)

-- what the event does, where the session stood for those before
applied : (over : Over) (c : After-arrive over) (o : Setting) (h : List Event) → StandsFor o c.args.self.now h
    → Handles over.S.EffectSink.has o (trace_of o h) (items_of o (length h) (trace_of o h) (arrived c.args.request.now)) HasOneMore c.arrive.new.self c.args.out.now c.arrive.new.out
applied over c o h stands =
    let here = rw (← c.self.view_is) at stands in
    let index : c.self.inside.taken + 1 ≡ length h + 1 = omega (arith, here.taken) in
    c.arrive.ensures.items o (length h) (trace_of o h) index (assumption here.settled)

pub returns : goal.returns
returns over c =
    let a : After-arrive over = (goal.at.returns over c).After-arrive in
    let e : Event = (arrived c.args.request.now) in
    let pace : KeepsPace c.args.self.now.window a.arrive.new.self.window = rw (← c.self.view_is) a.arrive.ensures.pace in
    record {
      stands = λ o h stands. record {
        settled = rw (trace_of-push o h e) (applied over a o h stands).settled;
        belong = belong_more o h e stands.belong (taken_belongs o h e (refusal_as o _ h e _ stands c.requires.taken));
        taken = omega (arith, a.arrive.ensures.taken, ap (λ (s : Core). s.taken) c.self.view_is, stands.taken, length_push h e);
      };
      effects = λ o h stands. (applied over a o h stands).effects;
      numbers = λ o h stands. c.numbers.ensures.value ∙ settled_numbers o a.arrive.new.self _ (applied over a o h stands).settled;
      flow = λ o h stands. let now = applied over a o h stands in
          rw (trace_of-push o h e) (Flows-step o c.args.self.now a.arrive.new.self (length h) (trace_of o h) e now.receives stands.settled now.settled pace);
      capacity = a.arrive.ensures.capacity;
    }
