use Rattle.iscsi_session.proofs.Names.{◌≡◌, ◌∙◌, ◌+◌, ap, arith, List, length, ⊎_elim, length_push, Event, Setting, trace_of, items_of, HasOneMore, trace_of-push, belong_more, Core, StandsFor, KeepsPace, Handles}
use Rattle.iscsi_session.proofs.RunLemmas.{Flows-step, taken_belongs}
use Rattle.iscsi_session.proofs.SoundLemmas.{few, taken_sound}
use Rattle.iscsi_session.proofs.AgreeLemmas.{settled_numbers}
use Rattle.iscsi_session.proofs.AgendaLemmas.{taken_by, refusal_as}
use Rattle.iscsi_session.proofs.session.Session.take.Given.{Over}
use Rattle.iscsi_session.proofs.session.Session.take.Goals as goal
use Rattle.iscsi_session.proofs.session.Session.take.Goals.{After-apply}

pub invariant_of-self : goal.invariant_of-self
invariant_of-self over c = taken_sound c.self.invariant (rw (← c.self.view_is) at (taken_by c.args.self.now c.args.event.now c.requires.taken).1)

pub apply-requires-clause-room : goal.apply-requires-clause-room
apply-requires-clause-room over c = ⊎_elim (λ most. omega (arith, most, few c.self.invariant, c.self.invariant.window.most, c.self.invariant.window.fits, c.self.invariant.few_conns)) (λ enough. enough) (rw (← c.self.view_is) at c.requires.room)

-- what the event does, where the session stood for those before
applied : (over : Over) (c : After-apply over) (o : Setting) (h : List Event) → StandsFor o c.args.self.now h
    → Handles over.S.EffectSink.has o (trace_of o h) (items_of o (length h) (trace_of o h) c.args.event.now) HasOneMore c.apply.new.self c.args.out.now c.apply.new.out
applied over c o h stands =
    let here = rw (← c.self.view_is) at stands in
    let index : c.self.inside.taken + 1 ≡ length h + 1 = omega (arith, here.taken) in
    c.apply.ensures.items o (length h) (trace_of o h) index (assumption here.settled)

pub returns : goal.returns
returns over c =
    let a : After-apply over = (goal.at.returns over c).After-apply in
    let e : Event = c.args.event.now in
    let pace : KeepsPace c.args.self.now.window a.apply.new.self.window = rw (← c.self.view_is) a.apply.ensures.pace in
    record {
      stands = λ o h stands. record {
        settled = rw (trace_of-push o h e) (applied over a o h stands).settled;
        belong = belong_more o h e stands.belong (taken_belongs o h e (refusal_as o _ h _ _ stands c.requires.taken));
        taken = omega (arith, a.apply.ensures.taken, ap (λ (s : Core). s.taken) c.self.view_is, stands.taken, length_push h e);
      };
      effects = λ o h stands. (applied over a o h stands).effects;
      numbers = λ o h stands. c.numbers.ensures.value ∙ settled_numbers o a.apply.new.self _ (applied over a o h stands).settled;
      flow = λ o h stands. let now = applied over a o h stands in
          rw (trace_of-push o h e) (Flows-step o c.args.self.now a.apply.new.self (length h) (trace_of o h) e now.receives stands.settled now.settled pace);
      spent = rw (← c.self.view_is) a.apply.ensures.spent;
      capacity = a.apply.ensures.capacity;
    }
