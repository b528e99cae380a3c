use Rattle.std.proofs.Common.{map, refl, ap, arith}
use Rattle.iscsi_lists.specs.Lists.{with_last, without}
use Rattle.iscsi_waiting.specs.Kept.{BLANK, let_go}
use Rattle.iscsi_waiting.proofs.EnterLemmas.{kept_alike}
use Rattle.iscsi_waiting.proofs.OutLemmas.{let_kept}
use Rattle.iscsi_waiting.proofs.slots.Slots.let_go.Goals as goal

pub returns-clause-kept : goal.returns-clause-kept
returns-clause-kept c =
    let s = c.args.self.now in
    let waits = c.requires.waits in
    let high = c.known.ensures.apart.within c.args.slot (omega (arith, waits)) in
    let long = c.known.ensures.values in
    kept_alike c.set.new.self s.owned c.move_owned.new.owned s.fence _ _ _ 0 c.args.slot c.move_owned.ensures
    (let_kept s.waiting s.owned s.fence s.counts.items s.all s.time c.requires.kept c.args.slot (omega (arith, high, long)) waits
    (let_go c.at.result.now) (ap let_go (c.at.ensures BLANK)) c.set.new.self c.set.ensures (record s.owned { lists = with_last 0 c.args.slot (map (without c.args.slot) s.owned.lists) }) refl)
