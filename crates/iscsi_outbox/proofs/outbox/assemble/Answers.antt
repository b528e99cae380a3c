use Rattle.std.proofs.Common.{None, sym, subst}
use Rattle.iscsi_cids.specs.Cids.{Named}
use Rattle.iscsi_links.specs.Links.{Links}
use Rattle.iscsi_outbox_state.specs.Lane.{Lane}
use Rattle.iscsi_outbox_state.specs.Waits.{Waits}
use Rattle.iscsi_tracked.specs.Tracked.{Tracked}
use Rattle.iscsi_outbox.specs.private.Kept.{IsOutbox}
use Rattle.iscsi_outbox.specs.promises.Options.{lane_of, links_of, tracked_of, waits_of}
use Rattle.iscsi_outbox.proofs.OpenLemmas.{assembled, is_outbox, valid}
use Rattle.iscsi_outbox.proofs.outbox.assemble.Goals as goal

pub invariant_of-result : goal.invariant_of-result
invariant_of-result c =
    let o = c.args.options.now in
    let last = c.first_max-last.result in
    let i = is_outbox o last (valid o c.requires.options) c.first_max-last.ensures.few in
    let a = subst (λ (x : Named). IsOutbox x.cids (links_of o).links (waits_of o) (lane_of o) (tracked_of o) None o.window o.units last last) (sym c.requires.cids) i in
    let b = subst (λ (x : Links). IsOutbox c.args.cids.cids x.links (waits_of o) (lane_of o) (tracked_of o) None o.window o.units last last) (sym c.requires.links) a in
    let d = subst (λ (x : Waits). IsOutbox c.args.cids.cids c.args.links.links x (lane_of o) (tracked_of o) None o.window o.units last last) (sym c.requires.waits) b in
    let e = subst (λ (x : Lane). IsOutbox c.args.cids.cids c.args.links.links c.args.waits x (tracked_of o) None o.window o.units last last) (sym c.requires.lane) d in
    subst (λ (x : Tracked). IsOutbox c.args.cids.cids c.args.links.links c.args.waits c.args.lane x None o.window o.units last last) (sym c.requires.tracked) e

pub returns : goal.returns
returns c = assembled c.args.options.now c.args.cids c.args.links c.args.waits c.args.lane c.args.tracked c.first_max-last.result c.requires.cids c.requires.links c.requires.waits c.requires.lane c.requires.tracked c.first_max-last.ensures.value
