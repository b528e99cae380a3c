use Rattle.std.proofs.Common.{◌++◌}
use Rattle.std.proofs.lemmas.Result.{err_from_is_err_and}
use Rattle.iscsi_recording.specs.Recorded.{view}
use Rattle.iscsi_recording.proofs.LineLemmas.{line_ends, fails_first}
use Rattle.iscsi_recording.proofs.ReadingLemmas.{HasEnded, ended_ready, ended_left, ended_more}
use Rattle.iscsi_recording.proofs.reading.Reading.end_line.Goals as goal

pub returns-in_err-complete-clause-err : goal.returns-in_err-complete-clause-err
returns-in_err-complete-clause-err c =
    let p = err_from_is_err_and c.from_residual.result c.from_residual.ensures.1 in
    let w = c.args.self.now in
    rw (p.1, p.2) (λ rest. fails_first c.in_err-complete.field-0.0 _ _ _ c.in_err-complete.ensures.step
    (line_ends w.line (view w.so_far) w.pending.items c.args.last.now rest c.requires.ready.one c.requires.one))

pub returns-clause-ready : goal.returns-clause-ready
returns-clause-ready c =
    let ended : HasEnded c.args.self.now c.complete.new.self (c.args.self.now.pending.items ++ c.args.last.now) =
    record { step = c.in_ok-complete.ensures.step; line = c.in_ok-complete.ensures.line; pending = c.in_ok-complete.ensures.pending } in
    ended_ready _ _ _ c.requires.ready ended

pub returns-clause-ok : goal.returns-clause-ok
returns-clause-ok c =
    let ended : HasEnded c.args.self.now c.complete.new.self (c.args.self.now.pending.items ++ c.args.last.now) =
    record { step = c.in_ok-complete.ensures.step; line = c.in_ok-complete.ensures.line; pending = c.in_ok-complete.ensures.pending } in
    λ rest. ended_left _ _ c.args.last.now rest c.requires.ready c.requires.one ended

pub returns-clause-more : goal.returns-clause-more
returns-clause-more c =
    let ended : HasEnded c.args.self.now c.complete.new.self (c.args.self.now.pending.items ++ c.args.last.now) =
    record { step = c.in_ok-complete.ensures.step; line = c.in_ok-complete.ensures.line; pending = c.in_ok-complete.ensures.pending } in
    ended_more _ _ c.args.last.now c.requires.ready ended
