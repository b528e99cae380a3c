use Rattle.std.proofs.Common.{arith}
use Rattle.iscsi_session.proofs.WindowLemmas.{emptied_changes}
use Rattle.iscsi_session.proofs.SoundLemmas.{window_sound, changed_sound}
use Rattle.iscsi_session.proofs.session.Session.empty_number.Goals as goal

pub invariant_of-self : goal.invariant_of-self
invariant_of-self over c =
    let inv = c.self.invariant in
    let g = emptied_changes c.self.inside.window c.args.sn in
    rw c.empty.ensures.state (window_sound inv g.unfinished g.long (changed_sound inv.window g (omega (arith, inv.window.turned)) (omega (arith, inv.window.entered))))
