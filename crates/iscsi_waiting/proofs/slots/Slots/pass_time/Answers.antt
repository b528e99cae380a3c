use Rattle.std.proofs.Common.{◌+◌, ◌-◌, length, arith}
use Rattle.iscsi_waiting.proofs.EnterLemmas.{fit_later}
use Rattle.iscsi_waiting.specs.Kept.{entry_at}
use Rattle.iscsi_waiting.proofs.slots.Slots.pass_time.Goals as goal

pub returns-clause-kept : goal.returns-clause-kept
returns-clause-kept c = λ kept.
    let s = c.args.self.now in record {
      commands = kept.commands;
      fences = kept.fences;
      kinds = kept.kinds;
      fit = λ slot there. fit_later s.time (s.time + 1) (length s.owned.lists - 1) (entry_at s.waiting slot) (omega arith) (kept.fit slot there);
      ascend = kept.ascend;
      kinds_ascend = kept.kinds_ascend;
      conns = kept.conns;
      total = kept.total;
    }
