use Rattle.iscsi_waiting.proofs.AskLemmas.{behind_first, behind_second}
use Rattle.iscsi_waiting.proofs.slots.Slots.is_behind_any.Goals as goal

pub returns-then-is_behind : goal.returns-then-is_behind
returns-then-is_behind c =
    behind_first c.args.self.now c.args.time c.requires c.is_behind.result c.if-is_behind.true (c.is_behind.ensures.yes c.if-is_behind.true)

pub returns-else-is_behind : goal.returns-else-is_behind
returns-else-is_behind c =
    behind_second c.args.self.now c.args.time c.requires c.is_behind-else-is_behind.result (c.is_behind.ensures.no c.if-is_behind.false) c.is_behind-else-is_behind.ensures.yes c.is_behind-else-is_behind.ensures.no
