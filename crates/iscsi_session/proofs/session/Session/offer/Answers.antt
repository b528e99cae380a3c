use Rattle.iscsi_session.proofs.Names.{◌≡◌, ◌<◌, ◌-◌, ◌+◌, ◌⊎◌, ⊎_elim, sym, subst, arith, count_by, is_some, true, connection_of, is_known, Core}
use Rattle.iscsi_session.proofs.WindowLemmas.{Grown, held_or_same, grown_sound}
use Rattle.iscsi_session.proofs.SoundLemmas.{window_sound, same_sound}
use Rattle.iscsi_session.proofs.session.Session.offer.Goals as goal
use Rattle.iscsi_session.proofs.session.Session.offer.Goals.{After-offer}

-- the request is held, or the window is the same
offered : (c : After-offer) → Grown c.self.inside.window c.offer.new.self (record { request = c.args.request.now; event = c.self.inside.taken - 1 }) ⊎ (c.offer.new.self ≡ c.self.inside.window)
offered c = held_or_same c.self.inside.window c.offer.new.self (record { request = c.args.request.now; event = c.self.inside.taken - 1 }) c.offer.ensures.state

pub invariant_of-self : goal.invariant_of-self
invariant_of-self c =
    let inv = c.self.invariant in
    let now = λ (P : Core → Type 0). subst P (sym c.self.view_is) in
    let room = now (λ s. s.window.turned + count_by is_some s.window.places < s.taken) c.requires.counted in
    let entered = now (λ s. s.entered + count_by is_some s.window.places < s.taken) c.requires.entered in
    let known = now (λ s. is_known (connection_of c.args.request.now) s.conns ≡ true) c.requires.known in
    ⊎_elim (λ g. window_sound inv g.unfinished g.long (grown_sound inv.window g room entered c.requires.regular known)) (λ same. same_sound inv same) (offered c)

pub returns-clause-held : goal.returns-clause-held
returns-clause-held c = grind (arith, offered c)

pub returns-clause-counted : goal.returns-clause-counted
returns-clause-counted c = grind (arith, offered c)
