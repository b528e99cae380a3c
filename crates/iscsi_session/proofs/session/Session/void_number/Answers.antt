use Rattle.iscsi_session.proofs.Names.{◌≤◌, cond, arith, place_in, is_received_at}
use Rattle.iscsi_session.proofs.WindowLemmas.{voided_changes}
use Rattle.iscsi_session.proofs.SoundLemmas.{window_sound, changed_sound}
use Rattle.iscsi_session.proofs.session.Session.void_number.Goals as goal

pub invariant_of-self : goal.invariant_of-self
invariant_of-self over c =
    let inv = c.self.invariant in
    let g = voided_changes c.self.inside.window c.args.sn (rw (← c.self.view_is) at c.requires.inside) in
    let less : cond (is_received_at c.self.inside.window (place_in c.self.inside.window c.args.sn)) 0 1 ≤ 1 = grind arith in
    rw c.void.ensures.state (window_sound inv g.unfinished g.long (changed_sound inv.window g (omega (arith, less, rw (← c.self.view_is) at c.requires.counted)) (omega (arith, less, rw (← c.self.view_is) at c.requires.entered))))
