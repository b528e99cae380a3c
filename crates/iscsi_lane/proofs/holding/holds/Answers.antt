use Rattle.std.proofs.Common.{◌∙◌, ap, sym}
use Rattle.iscsi_outbox_state.specs.Lane.{holds_back}
use Rattle.iscsi_lane.specs.Standings.{NOBODY, slots_at}
use Rattle.iscsi_lane.proofs.HoldLemmas.{holds_any}
use Rattle.iscsi_lane.proofs.StampLemmas.{once_at, within_at}
use Rattle.iscsi_lane.proofs.holding.holds.Goals as goal

pub at-requires : goal.at-requires
at-requires c = within_at c.args.log.now c.known.ensures.apart 2 c.args.before (c.stands_before.ensures.there c.if-stands_before.true)

pub returns-then-stands_before-clause-held : goal.returns-then-stands_before-clause-held
returns-then-stands_before-clause-held c on =
    let log = c.args.log.now in
    holds_any c.args.stamps.now (slots_at log 2) log.values c.args.answer c.args.slot c.args.before c.requires.up (once_at log c.known.ensures.apart 2 c.args.slot) c.requires.there
    (c.stands_before.ensures.there c.if-stands_before.true) (c.stands_before.ensures.before c.if-stands_before.true)
    (ap (holds_back c.args.answer) (sym (c.at.ensures NOBODY)) ∙ sym c.holds_back.ensures ∙ on)

pub returns-then-stands_before-clause-there : goal.returns-then-stands_before-clause-there
returns-then-stands_before-clause-there c on = c.stands_before.ensures.there c.if-stands_before.true

pub returns-then-stands_before-clause-holds : goal.returns-then-stands_before-clause-holds
returns-then-stands_before-clause-holds c on = ap (holds_back c.args.answer) (sym (c.at.ensures NOBODY)) ∙ sym c.holds_back.ensures ∙ on
