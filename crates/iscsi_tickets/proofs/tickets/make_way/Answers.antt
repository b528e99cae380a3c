use Rattle.std.proofs.Common.{◌≡◌, ◌≤◌, List, length, All, ap, sym, subst, ◌∙◌, arith}
use Rattle.iscsi_slots.specs.Places.{AreAscending}
use Rattle.iscsi_tickets.specs.declared.kept.Kept.{Kept}
use Rattle.iscsi_tickets.specs.Tickets.{live_in, ticket_of}
use Rattle.iscsi_tickets.proofs.LogLemmas.{all_live, live_again, kept_newest, kept_up}
use Rattle.iscsi_tickets.proofs.tickets.make_way.Goals as goal

pub returns-then-len-room-clause-same : goal.returns-then-len-room-clause-same
returns-then-len-room-clause-same c = ap live_in c.keep_live.ensures.log ∙ live_again c.args.log.now.items

pub returns-then-len-room-clause-ascending : goal.returns-then-len-room-clause-ascending
returns-then-len-room-clause-ascending c = subst (AreAscending ticket_of) (sym c.keep_live.ensures.log) (kept_up c.args.log.now.items c.requires.ascending)

pub returns-then-len-room-clause-newest : goal.returns-then-len-room-clause-newest
returns-then-len-room-clause-newest c = λ last all.
    subst (All (λ e. ticket_of e ≤ last)) (sym c.keep_live.ensures.log) (kept_newest c.args.log.now.items last all)

pub returns-then-len-room-clause-counted : goal.returns-then-len-room-clause-counted
returns-then-len-room-clause-counted c =
    let all = subst (λ (l : List Kept). length (live_in l) ≡ length l) (sym c.keep_live.ensures.log) (all_live c.args.log.now.items) in
    omega (arith, all)
