use Rattle.std.proofs.Common.{◌<◌, length, sym, ap, subst, ◌∙◌}
use Rattle.std.proofs.lemmas.Bool.{false≢true}
use Rattle.iscsi_tickets.specs.Tickets.{IsLiveAt, kept_at, ticket_of}
use Rattle.iscsi_tickets.proofs.LogLemmas.{live_within, ticket_at}
use Rattle.iscsi_tickets.proofs.tickets.place_of.Goals.{else-is_at-2-via-then-is_at-2+else-kept_at-2, else-is_at-2-via-else-is_at-2}
use Rattle.iscsi_tickets.proofs.tickets.place_of.Goals as goal

pub returns-else-is_at-2 : goal.returns-else-is_at-2
returns-else-is_at-2 c = λ k live is.
    let l = live_within c.args.log.now k live in
    let below = c.count_below-k.ensures in
    let here = ticket_at c.args.log.now c.args.ticket c.count_below-k.result c.requires below.below below.above k l is in
    elim c.else-is_at-2.branch [
      | else-is_at-2-via-then-is_at-2+else-kept_at-2 w ↦ false≢true (sym w.if-kept_at-2.false ∙ ap (λ e. e.is_live) w.kept_at-then-is_at-2.ensures ∙ subst (IsLiveAt c.args.log.now) here live)
      | else-is_at-2-via-else-is_at-2 w ↦ false≢true (sym w.if-is_at-2.false ∙ c.is_at-2.ensures.no (subst (λ n. n < length c.args.log.now) here l) (ap (λ n. ticket_of (kept_at c.args.log.now n)) (sym here) ∙ is))
    ]
