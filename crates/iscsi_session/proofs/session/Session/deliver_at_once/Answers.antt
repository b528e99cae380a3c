use Rattle.iscsi_session.proofs.Names.{◌≡◌, ◌<◌, ◌-◌, ◌+◌, ◌∙◌, Some, true, length, subst, ap, sym, arith, is_some, count_by, Request, connection_of, Arrived, is_known, the_view, Deliver, Core, Takes, after_effect, with_offered, turn_taken, executed, comes_next}
use Rattle.iscsi_session.proofs.WindowLemmas.{held_now, comes_alone, Delivered, delivered, grown_sound}
use Rattle.iscsi_session.proofs.SoundLemmas.{turned_counts, window_sound, advanced_sound}
use Rattle.iscsi_session.proofs.session.Session.deliver_at_once.Goals as goal

pub invariant_of-self : goal.invariant_of-self
invariant_of-self over c =
    let inv = c.self.invariant in
    let s : Core = the_view c.self.inside in
    let now = λ (P : Core → Type 0). subst P (sym c.self.view_is) in
    let d : Delivered s.window (held_now s c.args.request.now) = delivered s.window _ (comes_alone s c.args.request.now (now (λ v. comes_next v c.args.request.now ≡ true) c.requires.next)).1 in
    let is = c.pass.ensures.state (s.taken - 1) in
    let window = grown_sound inv.window d.grown_is (now (λ v. v.window.turned + count_by is_some v.window.places < v.taken) c.requires.counted) (now (λ v. v.entered + count_by is_some v.window.places < v.taken) c.requires.entered)
    c.requires.regular (now (λ v. is_known (connection_of c.args.request.now) v.conns ≡ true) c.requires.known) in
    window_sound inv (ap (λ (v : Arrived). v.unfinished) is ∙ d.advanced_is.unfinished ∙ d.grown_is.unfinished) (ap (λ (v : Arrived). length v.places) is ∙ d.advanced_is.long ∙ d.grown_is.long) (advanced_sound window d.advanced_is is)

pub returns-clause-done : goal.returns-clause-done
returns-clause-done over c =
    let s : Core = the_view c.self.inside in
    let r : Request = c.args.request.now in
    subst (λ (v : Core). Takes over.S.EffectSink.has over.S.EffectSink.capacity (turn_taken (with_offered v r) (Some (Some (held_now v r)))) c.deliver.new.self c.args.out.now c.deliver.new.out) c.self.view_is
    (subst (λ (v : Arrived). Takes over.S.EffectSink.has over.S.EffectSink.capacity (after_effect (Deliver r) (executed (record s { window = v }) r (s.taken - 1))) c.deliver.new.self c.args.out.now c.deliver.new.out) (c.pass.ensures.state (s.taken - 1)) c.deliver.ensures.done)

pub deliver-requires-clause-counted : goal.deliver-requires-clause-counted
deliver-requires-clause-counted over c = grind (arith, turned_counts c.args.request.now c.self.view_is c.requires.next c.pass.ensures.state)

pub deliver-requires-clause-room : goal.deliver-requires-clause-room
deliver-requires-clause-room over c = grind (arith, turned_counts c.args.request.now c.self.view_is c.requires.next c.pass.ensures.state)

pub returns-clause-spent : goal.returns-clause-spent
returns-clause-spent over c = grind (arith, turned_counts c.args.request.now c.self.view_is c.requires.next c.pass.ensures.state)
