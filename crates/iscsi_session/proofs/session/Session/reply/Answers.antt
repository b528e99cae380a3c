use Rattle.iscsi_session.proofs.Names.{refl, sym, subst, vec_capacity, Connected, the_view, IsSessionSound}
use Rattle.iscsi_session.proofs.SoundLemmas.{replied_sound}
use Rattle.iscsi_session.proofs.session.Session.reply.Goals as goal

pub invariant_of-self : goal.invariant_of-self
invariant_of-self over c =
    subst (λ (x : Connected). IsSessionSound (record (the_view c.self.inside) { conns = x.conns; open_conns = x.open_conns }) x.immediate c.self.inside.live.room c.self.inside.waiting.room (vec_capacity c.self.inside.left)) (sym c.assign_stat_sn-stat_sn.ensures.state)
    (replied_sound c.self.invariant c.args.conn refl)
