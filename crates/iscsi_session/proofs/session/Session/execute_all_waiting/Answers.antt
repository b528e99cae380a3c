use Rattle.iscsi_session.proofs.Names.{◌∙◌, ap, sym, arith, refl, Core, next_waiting, is_none}
use Rattle.iscsi_session.proofs.AgendaLemmas.{functions-on, functions-end}
use Rattle.iscsi_session.proofs.DeedLemmas.{function_stays}
use Rattle.iscsi_session.proofs.session.Session.execute_all_waiting.Goals as goal

pub loop-preserved : goal.loop-preserved
loop-preserved over c =
    let inv = c.loop.invariant in
    let s : Core = c.loop.self in
    let x = c.execute_next_waiting.ensures.done in
    let h = function_stays s (next_waiting s) in
    record {
      due = λ o t a. functions-on (next_waiting s) refl (sym c.execute_next_waiting.ensures.answer ∙ c.loop-test.true) (inv.due o t a) x;
      places = c.execute_next_waiting.ensures.places ∙ inv.places;
      turned = ap (λ (v : Core). v.window.turned) x.core ∙ h.turned ∙ inv.turned;
      first = ap (λ (v : Core). v.window.first) x.core ∙ h.first ∙ inv.first;
      taken = ap (λ (v : Core). v.taken) x.core ∙ h.taken ∙ inv.taken;
      pace = rw x.core (omega (arith, h, inv.pace));
      spent = omega (arith, c.execute_next_waiting.ensures.spent, inv.spent);
      capacity = x.room ∙ inv.capacity;
    }

-- the last call executes none
pub returns-clause-items : goal.returns-clause-items
returns-clause-items over c = λ o t a. functions-end (is_none (next_waiting c.loop.self) (sym c.execute_next_waiting.ensures.answer ∙ c.loop-test.false)) (c.loop.invariant.due o t a) c.execute_next_waiting.ensures.done
