use Rattle.iscsi_session.proofs.Names.{◌≡◌, ◌∙◌, ap, sym, Core, NoPlace, Request, cmd_sn, offer_at, place_in, with_offered}
use Rattle.iscsi_session.proofs.AgreeLemmas.{handled}
use Rattle.iscsi_session.proofs.AgendaLemmas.{offered_known, held_handled}
use Rattle.iscsi_session.proofs.session.Session.receive_numbered.Goals as goal

pub returns-in-Held-clause-items : goal.returns-in-Held-clause-items
returns-in-Held-clause-items over c = λ o index t now h.
    held_handled over.S.EffectSink.has o c.args.self.now c.offer.new.self c.run_agenda_apart.new.self index t c.args.request.now c.args.out.now c.run_agenda_apart.new.out (offered_known o c.args.self.now index t c.args.request.now (sym c.offer.ensures.answer ∙ c.in-Held.is) h c.requires.regular c.requires.known now) c.offer.ensures.session c.run_agenda_apart.ensures.items

-- a number that has no place is offered for nothing
unoffered : (s : Core) (r : Request) → place_in s.window (cmd_sn r) ≡ NoPlace → s ≡ with_offered s r
unoffered s r none = rw none

pub returns-in-Outside-clause-items : goal.returns-in-Outside-clause-items
returns-in-Outside-clause-items over c = λ o index t now h.
    let s : Core = c.args.self.now in
    let r : Request = c.args.request.now in
    let none : place_in s.window (cmd_sn r) ≡ NoPlace = ap (place_in s.window) (sym c.cmd_sn.ensures) ∙ ap (λ (v : Core). place_in v.window c.cmd_sn.result) (sym c.self.view_is) ∙ sym c.place.ensures ∙ c.in-Outside.is in
    let x = offered_known o s index t r (ap (offer_at s.window) none) h c.requires.regular c.requires.known now in
    handled over.S.EffectSink.has o _ t _ s c.args.out.now c.put_ignore.new.self x (unoffered s r none) c.put_ignore.ensures.has

pub returns-in-Duplicate-clause-items : goal.returns-in-Duplicate-clause-items
returns-in-Duplicate-clause-items over c = λ o index t now h.
    let x = offered_known o c.args.self.now index t c.args.request.now (sym c.offer.ensures.answer ∙ c.in-Duplicate.is) h c.requires.regular c.requires.known now in
    handled over.S.EffectSink.has o _ t _ c.offer.new.self c.args.out.now c.put_ignore-in-Duplicate.new.self x c.offer.ensures.session c.put_ignore-in-Duplicate.ensures.has
