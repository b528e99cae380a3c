use Rattle.std.proofs.Common.{◌≡◌, ◌<◌, [], arith, length}
use Rattle.std.proofs.lemmas.Grind.{common_steps}
use Rattle.iscsi_recording.specs.Recorded.{view, read_line, Steps}
use Rattle.iscsi_recording.proofs.LineLemmas.{nothing_more}
use Rattle.iscsi_recording.proofs.ReadingLemmas.{last_ok, last_sound, last_err}
use Rattle.iscsi_recording.proofs.reading.Reading.take_last.Goals as goal

pub returns-then-is_empty-clause-ok : goal.returns-then-is_empty-clause-ok
returns-then-is_empty-clause-ok c =
    let w = c.args.self.now in
    let none : w.pending.items ≡ [] = grind (arith, common_steps) in
    nothing_more w.line (view w.so_far) w.pending.items none

-- the step, at the bytes that are kept
the_step : (c : goal.After-take_line) → Steps c.take_line.result (view c.take_line.new.self) (read_line c.args.self.now.line (view c.args.self.now.so_far) c.args.self.now.pending.items)
the_step c = rw c.deref.ensures.value at c.take_line.ensures.step

pub returns-clause-ok : goal.returns-clause-ok
returns-clause-ok c =
    let some : 0 < length c.args.self.now.pending.items = grind (arith, common_steps) in
    last_ok c.args.self.now c.take_line.result (view c.take_line.new.self) c.requires some (the_step c)

pub returns-clause-sound : goal.returns-clause-sound
returns-clause-sound c =
    last_sound c.args.self.now c.take_line.result (view c.take_line.new.self) c.requires (the_step c)

pub returns-clause-err : goal.returns-clause-err
returns-clause-err c =
    let some : 0 < length c.args.self.now.pending.items = grind (arith, common_steps) in
    last_err c.args.self.now c.take_line.result (view c.take_line.new.self) c.requires some (the_step c)
