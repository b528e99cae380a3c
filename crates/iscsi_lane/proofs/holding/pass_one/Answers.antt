use Rattle.std.proofs.Common.{◌≡◌, ◌∙◌, ap, cond, eq-eqb, sym, arith}
use Rattle.std.proofs.lemmas.List.{get_or-set_same, get_or_default}
use Rattle.iscsi_lane.specs.Hints.{behind, hint_at}
use Rattle.iscsi_lane.specs.Standings.{slots_at}
use Rattle.iscsi_lane.proofs.HintLemmas.{next_is}
use Rattle.iscsi_lane.proofs.StampLemmas.{once_at, within_at}
use Rattle.iscsi_lane.proofs.holding.pass_one.Goals as goal

pub next-requires : goal.next-requires
next-requires c = within_at c.args.log.now c.known.ensures.apart 2 c.args.slot c.requires.slot

pub returns-then-index-slot-clause-here : goal.returns-then-index-slot-clause-here
returns-then-index-slot-clause-here c =
    let log = c.args.log.now in
    let order = slots_at log 2 in
    let hint = hint_at c.args.holders.now.items c.args.waiting in
    let test : hint ≡ c.args.slot = cc (c.if-index-slot.true, c.index.ensures, get_or_default c.args.holders.now.items c.args.waiting c.index.result.now 0 c.requires.waiting) in
    get_or-set_same c.args.holders.now.items c.args.waiting c.unwrap_or.result 0 c.requires.waiting
    ∙ c.unwrap_or.ensures
    ∙ next_is c.args.slot order c.requires.slot (once_at log c.known.ensures.apart 2 c.args.slot) c.next.result (λ front back at_it. c.next.ensures.slot 2 front back (let a = c.requires.lists in omega (arith, a)) at_it)
    ∙ sym (ap (λ b. cond b (behind c.args.slot order) hint) (eq-eqb hint c.args.slot test))
