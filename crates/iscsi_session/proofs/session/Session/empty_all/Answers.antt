use Rattle.iscsi_session.proofs.Names.{sym, arith, ◌∙◌, ◌≡◌, length, true, Arrived, number_expected, is_clear_below, nat_tests}
use Rattle.iscsi_session.proofs.KeptLemmas.{ended, continued}
use Rattle.iscsi_session.proofs.LogoutLemmas.{dropped_all}
use Rattle.iscsi_session.proofs.session.Session.empty_all.Goals as goal

pub returns-clause-done : goal.returns-clause-done
returns-clause-done over c =
    let w : Arrived = c.loop-ahead.self.window in
    let clear : is_clear_below c.args.scope (length w.places) w.places ≡ true = grind (arith, nat_tests) in
    let none = dropped_all c.args.scope (number_expected w) w.places clear in record {
      core = rw none.0 at c.loop-ahead.invariant.session;
      effects = ended c.loop-ahead.invariant.effects none.1;
      room = c.loop-ahead.invariant.capacity;
    }

pub loop-ahead-preserved : goal.loop-ahead-preserved
loop-ahead-preserved over c =
    let inv = c.loop-ahead.invariant in
    let x = c.empty_at.ensures in
    record {
      session = x.session ∙ inv.session;
      effects = continued x.effects.done inv.effects (sym x.effects.both) x.effects.effects;
      clear = x.lowest;
      long = x.long ∙ inv.long;
      spent = omega (arith, x.spent, inv.spent);
      capacity = x.capacity ∙ inv.capacity;
    }
