use Rattle.std.proofs.Common.{◌≡◌, ◌∙◌, ℕ, List, Some, None, true, false, sym, ap, subst}
use Rattle.iscsi_arrivals.specs.Counts.{Counts}
use Rattle.iscsi_rules.specs.declared.event.Event.TheVariants.{Arrive}
use Rattle.iscsi_outbox_steps.specs.State.{State, link_at, place_of}
use Rattle.iscsi_ffi_steps.specs.Walk.{Doing}
use Rattle.iscsi_ffi_steps.specs.Steps.{Going, going, happens}
use Rattle.iscsi_ffi_desk.specs.Calls.{lost_on}
use Rattle.iscsi_ffi.specs.Standing.{Begun, Sided}
use Rattle.iscsi_ffi.specs.contracts.side.Side.{the_view}
use Rattle.iscsi_ffi.proofs.StandLemmas.{set_desk}
use Rattle.iscsi_ffi.proofs.CallLemmas.{lose_going, lost_limits, place_known}
use Rattle.iscsi_ffi.proofs.side.Side.lose_now.Goals as goal

pub returns-then-not-is_closed-clause-stands : goal.returns-then-not-is_closed-clause-stands
returns-then-not-is_closed-clause-stands c = λ i s b.
    let P : Sided → Type 0 = λ v. Begun i v (going s) in
    let here : Begun i (the_view c.self.inside) (going s) = subst P (sym c.self.view_is) b in
    let conn = c.in-Some.conn in
    let at : place_of s.state.outbox c.args.cid ≡ Some conn =
    ap (λ (d : Doing). place_of d.state.outbox c.args.cid) (sym here.stands.doing) ∙ ap (λ (o : State). place_of o c.args.cid) (sym c.outbox.ensures) ∙ sym c.place.ensures ∙ c.in-Some.is in
    let link : c.link-link.result ≡ link_at s.state.outbox conn =
    c.link-link.ensures ∙ ap (λ (o : State). link_at o conn) c.outbox-2.ensures ∙ ap (λ (d : Doing). link_at d.state.outbox conn) here.stands.doing in
    let lost : (link_at s.state.outbox conn).lost ≡ false = ap (λ (l : Counts). l.lost) (sym link) ∙ sym c.is_lost.ensures.answer ∙ c.if-is_lost.false in
    let g = record (going s) { doing = lost_on c.args.cid conn (going s).doing } in
    let gone = set_desk i (the_view c.self.inside) (going s) c.lose.new.self (lost_on c.args.cid conn (going s).doing) here (c.lose.ensures ∙ ap (lost_on c.args.cid conn) here.stands.doing) (lost_limits c.args.cid conn (going s).doing) in
    let closed : (link_at s.state.outbox conn).closed ≡ false = ap (λ (l : Counts). l.closed) (sym link) ∙ sym c.is_closed.ensures.answer ∙ c.if-not-is_closed.true in
    let Q : Going → Type 0 = λ x. Begun i c.happen.new.self x in
    subst Q (ap (λ (h : List ℕ). happens i None (Arrive c.args.cid h) g) c.parting-header.ensures ∙ sym (lose_going i c.args.cid conn s false at lost closed))
    (c.happen.ensures i g gone (place_known i s.state.outbox c.args.cid conn here.stands.limits at))

pub returns-else-not-is_closed-clause-stands : goal.returns-else-not-is_closed-clause-stands
returns-else-not-is_closed-clause-stands c = λ i s b.
    let P : Sided → Type 0 = λ v. Begun i v (going s) in
    let here : Begun i (the_view c.self.inside) (going s) = subst P (sym c.self.view_is) b in
    let conn = c.in-Some.conn in
    let at : place_of s.state.outbox c.args.cid ≡ Some conn =
    ap (λ (d : Doing). place_of d.state.outbox c.args.cid) (sym here.stands.doing) ∙ ap (λ (o : State). place_of o c.args.cid) (sym c.outbox.ensures) ∙ sym c.place.ensures ∙ c.in-Some.is in
    let link : c.link-link.result ≡ link_at s.state.outbox conn =
    c.link-link.ensures ∙ ap (λ (o : State). link_at o conn) c.outbox-2.ensures ∙ ap (λ (d : Doing). link_at d.state.outbox conn) here.stands.doing in
    let lost : (link_at s.state.outbox conn).lost ≡ false = ap (λ (l : Counts). l.lost) (sym link) ∙ sym c.is_lost.ensures.answer ∙ c.if-is_lost.false in
    let g = record (going s) { doing = lost_on c.args.cid conn (going s).doing } in
    let gone = set_desk i (the_view c.self.inside) (going s) c.lose.new.self (lost_on c.args.cid conn (going s).doing) here (c.lose.ensures ∙ ap (lost_on c.args.cid conn) here.stands.doing) (lost_limits c.args.cid conn (going s).doing) in
    let closed : (link_at s.state.outbox conn).closed ≡ true = ap (λ (l : Counts). l.closed) (sym link) ∙ sym c.is_closed.ensures.answer ∙ c.if-not-is_closed.false in
    let Q : Going → Type 0 = λ x. Begun i (record (the_view c.self.inside) { desk = c.lose.new.self }) x in
    subst Q (sym (lose_going i c.args.cid conn s true at lost closed)) gone
