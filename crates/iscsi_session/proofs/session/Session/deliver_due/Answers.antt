use Rattle.iscsi_session.proofs.Names.{◌≡◌, false, Option, Some, None, ap, subst, arith, is_some, count_by, is_immediate, Arrived, HeldRequest, the_view, Deliver, Core, is_held, Takes, after_effect, executed, position_by, deed_by, and_first, not_true}
use Rattle.std.specs.Option.{option_flatten}
use Rattle.iscsi_session.proofs.WindowLemmas.{Advanced, advanced_at}
use Rattle.iscsi_session.proofs.DeedLemmas.{carried_counted, fits_deed}
use Rattle.iscsi_session.proofs.session.Session.deliver_due.Given.{Over}
use Rattle.iscsi_session.proofs.session.Session.deliver_due.Goals as goal
use Rattle.iscsi_session.proofs.session.Session.deliver_due.Goals.{In-Some}

-- what is held is that of a number which is received
held_there : {A : Type 0} (x : Option (Option A)) (h : A) → option_flatten x ≡ Some h → x ≡ Some (Some h)
held_there None h is = absurd cc
held_there (Some None) h is = absurd cc
held_there (Some (Some a)) h is = ap Some is

-- the number has turned, and this was held for it
turned : (over : Over) (c : In-Some over) → Advanced c.self.inside.window (Some c.in-Some.held.now)
turned over c = advanced_at c.self.inside.window (Some c.in-Some.held.now) (held_there _ _ c.in-Some.ensures)

numbered : (over : Over) (c : In-Some over) → is_immediate c.in-Some.held.now.request ≡ false
numbered over c = not_true _ (and_first _ _ ((turned over c).known c.self.inside.connections.conns c.self.invariant.window.known).0)

pub returns-clause-done : goal.returns-clause-done
returns-clause-done over c =
    let s : Core = the_view c.self.inside in
    let h : HeldRequest = c.in-Some.held.now in
    let n = turned over (goal.at.returns-clause-done over c).In-Some in
    rw (← c.self.view_is, n.here) (subst (λ (v : Arrived). Takes over.S.EffectSink.has over.S.EffectSink.capacity (after_effect (Deliver h.request) (executed (record s { window = v }) h.request h.event)) c.deliver.new.self c.args.out.now c.deliver.new.out) c.turn-2.ensures.state c.deliver.ensures.done)

pub returns-clause-spent : goal.returns-clause-spent
returns-clause-spent over c =
    let n = turned over (goal.at.returns-clause-spent over c).In-Some in
    rw (← c.self.view_is) (omega (arith, ap (λ w. count_by is_held w.places) c.turn-2.ensures.state, n.held, c.deliver.ensures.spent))

pub returns-clause-fewer : goal.returns-clause-fewer
returns-clause-fewer over c =
    let path = (goal.at.returns-clause-fewer over c).In-Some in
    let t : Core = record (the_view c.self.inside) { window = c.turn-2.new.self } in
    let h : HeldRequest = c.in-Some.held.now in
    let counted = carried_counted t h.request (position_by t h.request) h.event (deed_by t h.request) (fits_deed t h.request) (numbered over path) in
    omega (arith, ap (λ (u : Core). count_by is_some u.window.places) c.self.view_is, ap (λ (u : Core). count_by is_some u.window.places) c.deliver.ensures.done.core, counted, ap (λ w. count_by is_some w.places) c.turn-2.ensures.state, (turned over path).counted)
