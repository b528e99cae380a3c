use Rattle.iscsi_session.proofs.Names.{◌∙◌, ap, sym, refl, arith, count_by, at_place, Core, is_held, nat_tests}
use Rattle.iscsi_session.proofs.AgendaLemmas.{whole_of, left_before, begun, Leads-functions, turned-one, turns_done}
use Rattle.iscsi_session.proofs.DeedLemmas.{same_expected, pace-turned, turned_taken}
use Rattle.iscsi_session.proofs.session.Session.run_agenda.Goals as goal

pub loop-self-preserved : goal.loop-self-preserved
loop-self-preserved over c =
    let inv = c.loop-self.invariant in
    let s : Core = c.loop-self.self in
    let p = at_place s.window 0 in
    let f = c.execute_waiting-in-loop-self.ensures in
    record {
      due = λ o t out whole d. Leads-functions (turned-one p refl (sym c.deliver_next.ensures.answer ∙ c.loop-self-test.true) (inv.due o t out whole d) c.deliver_next.ensures.done) (same_expected c.deliver_next.new.self.window c.execute_waiting-in-loop-self.new.self.window f.first f.turned) f.items;
      pace = grind (arith, nat_tests, pace-turned);
      taken = f.taken ∙ ap (λ (v : Core). v.taken) c.deliver_next.ensures.done.core ∙ turned_taken s p ∙ inv.taken;
      spent = omega (arith, c.deliver_next.ensures.spent, c.deliver_next.ensures.waiting, f.spent, ap (count_by is_held) f.places, inv.spent);
      capacity = f.capacity ∙ c.deliver_next.ensures.done.room ∙ inv.capacity;
    }

pub returns-clause-items : goal.returns-clause-items
returns-clause-items over c = λ o t a.
    let s : Core = c.args.self.now in
    let f = c.execute_waiting.ensures in
    let out = c.args.out.now in
    let start = Leads-functions (begun over.S.EffectSink.has o s t out (left_before o t s) a) (same_expected s.window c.execute_waiting.new.self.window f.first f.turned) f.items in
    turns_done (sym c.deliver_next.ensures.answer ∙ c.loop-self-test.false) c.deliver_next.ensures.done (c.loop-self.invariant.due o t out (whole_of o s t) start)
