use Rattle.iscsi_session.proofs.Names.{◌≡◌, ◌==◌, find, arith, None, nat_tests, Waiting}
use Rattle.iscsi_session.proofs.SoundLemmas.{none_due}
use Rattle.iscsi_session.proofs.session.waiting.Waitlist.has_due.Goals as goal

pub returns-else-self-turn : goal.returns-else-self-turn
returns-else-self-turn c =
    let none : find (λ (w : Waiting). w.turn == c.args.turn) c.self.inside.functions.items ≡ None = none_due c.self.inside.functions.items c.self.inside.next_turn c.args.turn c.self.invariant.0 c.if-self-turn.false in
    rw (← c.self.view_is, none) (grind (arith, nat_tests))
