use Rattle.std.proofs.Common.{◌≡◌, ℕ, ◌∙◌, not, true, false, sym, ap}
use Rattle.iscsi_arrivals.specs.Counts.{Counts}
use Rattle.iscsi_outbox_steps.specs.State.{State, link_at}
use Rattle.iscsi_outbox_steps.specs.Steps.{closed_in}
use Rattle.iscsi_outbox.proofs.CloseLemmas.{closed_here, closed_past, none_filtered, same_filtered}
use Rattle.iscsi_outbox.proofs.outbox.Outbox.closes.Goals as goal

pub returns-then-is_closed : goal.returns-then-is_closed
returns-then-is_closed c =
    let now = c.args.self.now in
    let closed : (link_at now c.args.conn).closed ≡ true =
    ap (λ (s : State). (link_at s c.args.conn).closed) (sym c.self.view_is) ∙ sym (ap (λ (l : Counts). l.closed) c.at.ensures) ∙ sym c.is_closed.ensures.answer ∙ c.if-is_closed.true in
    sym (none_filtered c.args.conn (λ (conn : ℕ). not (link_at now conn).closed) (closed_in now c.args.item.now) (ap not closed))

pub returns-then-is_closed_by : goal.returns-then-is_closed_by
returns-then-is_closed_by c =
    let now = c.args.self.now in
    let stays : (link_at now c.args.conn).closed ≡ false =
    ap (λ (s : State). (link_at s c.args.conn).closed) (sym c.self.view_is) ∙ sym (ap (λ (l : Counts). l.closed) c.at.ensures) ∙ sym c.is_closed.ensures.answer ∙ c.if-is_closed.false in
    sym (
    same_filtered c.args.conn (λ (conn : ℕ). not (link_at now conn).closed) (closed_in now c.args.item.now) (ap not stays)
    ∙ sym c.loop-effect.invariant
    ∙ closed_here c.args.conn c.loop-effect.effect-index now c.args.item.now _ c.loop-effect-test.true (sym c.is_closed_by.ensures ∙ c.if-is_closed_by.true)
    )

pub returns : goal.returns
returns c =
    let now = c.args.self.now in
    let stays : (link_at now c.args.conn).closed ≡ false =
    ap (λ (s : State). (link_at s c.args.conn).closed) (sym c.self.view_is) ∙ sym (ap (λ (l : Counts). l.closed) c.at.ensures) ∙ sym c.is_closed.ensures.answer ∙ c.if-is_closed.false in
    sym (same_filtered c.args.conn (λ (conn : ℕ). not (link_at now conn).closed) (closed_in now c.args.item.now) (ap not stays) ∙ sym c.loop-effect.invariant ∙ closed_past c.args.conn c.loop-effect.effect-index now c.args.item.now c.loop-effect-test.false)
