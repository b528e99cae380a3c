use Rattle.iscsi_session.proofs.Names.{◌∙◌, sym, arith, [], ◌∷◌, Enable}
use Rattle.iscsi_session.proofs.KeptLemmas.{continued, ended, given_one, given_all}
use Rattle.iscsi_session.proofs.session.sets.enable_new.Goals as goal

pub loop-ticket-preserved : goal.loop-ticket-preserved
loop-ticket-preserved over c =
    let inv = c.loop-ticket.invariant in
    let g = given_one c.args.unit c.in-Some.ticket c.loop-ticket.set.list (sym c.next_new.ensures.answer ∙ c.in-Some.is) in
    record {
      set = rw (c.next_new.ensures.state, g.same) inv.set;
      effects = rw c.next_new.ensures.state (continued (Enable c.in-Some.ticket c.args.unit ∷ []) inv.effects g.effects c.put_enable.ensures.has);
      spent = rw c.next_new.ensures.state (omega (arith, g.fewer, c.put_enable.ensures.len, inv.spent));
      capacity = c.put_enable.ensures.capacity ∙ inv.capacity;
    }

pub returns-clause-effects : goal.returns-clause-effects
returns-clause-effects over c =
    let inv = c.loop-ticket.invariant in
    let g = given_all c.args.unit c.loop-ticket.set.list (sym c.next_new.ensures.answer ∙ c.in_default.is) in
    ended inv.effects g.effects
