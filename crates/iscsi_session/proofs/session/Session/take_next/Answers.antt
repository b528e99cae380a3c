use Rattle.iscsi_session.proofs.Names.{◌∙◌, Some, ap, sym, subst, refl, arith, Request, Core, KeepsPace, with_offered, turn_taken}
use Rattle.iscsi_session.proofs.AgendaLemmas.{offered_known, carried_at_once, held_handled}
use Rattle.iscsi_session.proofs.WindowLemmas.{held_now, comes_alone, comes_first, Delivered, delivered}
use Rattle.iscsi_session.proofs.DeedLemmas.{pace-turned, turned_taken}
use Rattle.iscsi_session.proofs.session.Session.take_next.Goals as goal

pub returns-clause-items : goal.returns-clause-items
returns-clause-items over c = λ o index t now h.
    let s : Core = c.args.self.now in
    let r : Request = c.args.request.now in
    held_handled over.S.EffectSink.has o s (with_offered s r) c.run_agenda.new.self index t r c.args.out.now c.run_agenda.new.out (offered_known o s index t r (comes_first s.window (held_now s r) (comes_alone s r c.requires.next).1).0 h c.requires.regular c.requires.known now) refl
    (carried_at_once over.S.EffectSink.has over.S.EffectSink.capacity s c.deliver_at_once.new.self c.run_agenda.new.self r c.args.out.now c.deliver_at_once.new.out c.run_agenda.new.out c.requires.next c.deliver_at_once.ensures.done c.run_agenda.ensures.items)

pub returns-clause-taken : goal.returns-clause-taken
returns-clause-taken over c =
    c.run_agenda.ensures.taken ∙ ap (λ (v : Core). v.taken) c.deliver_at_once.ensures.done.core ∙ turned_taken (with_offered c.args.self.now c.args.request.now) (Some (Some (held_now c.args.self.now c.args.request.now)))

pub returns-clause-pace : goal.returns-clause-pace
returns-clause-pace over c =
    let s : Core = c.args.self.now in
    let r : Request = c.args.request.now in
    let d : Delivered s.window (held_now s r) = delivered s.window (held_now s r) (comes_alone s r c.requires.next).1 in
    let one : KeepsPace (with_offered s r).window c.deliver_at_once.new.self.window = subst (λ (v : Core). KeepsPace (with_offered s r).window v.window) (sym c.deliver_at_once.ensures.done.core)
    (subst (λ p. KeepsPace (with_offered s r).window (turn_taken (with_offered s r) p).core.window) d.there (pace-turned (with_offered s r))) in
    omega (arith, one, c.run_agenda.ensures.pace, d.grown_is.turned, d.grown_is.unfinished)
