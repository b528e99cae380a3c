use Rattle.std.proofs.Common.{arith, refl}
use Rattle.iscsi_recording.proofs.CommonLemmas.{common_taken}
use Rattle.iscsi_recording.proofs.reading.Reading.take_common.Goals as goal

pub returns-clause-taken : goal.returns-clause-taken
returns-clause-taken c is =
    common_taken c.args.self.now (record c.args.self.now { so_far = c.take_first-size.new.self }) c.args.left.now c.take_first-size.result
    c.requires.ready (omega arith) c.requires.fresh refl c.requires.fresh (c.take_first-size.ensures.taken is)
