use Rattle.std.proofs.Common.{[], ◌++◌, subst, append-nil}
use Rattle.std.proofs.lemmas.Result.{err_from_is_err_and}
use Rattle.iscsi_recording.specs.Recorded.{view, read_line, Fails}
use Rattle.iscsi_recording.proofs.reading.Reading.complete.Goals as goal

pub returns-in_err-keep-clause-step : goal.returns-in_err-keep-clause-step
returns-in_err-keep-clause-step c =
    let p = err_from_is_err_and c.from_residual.result c.from_residual.ensures.1 in
    let w = c.args.self.now in
    rw (p.1, p.2) (subst (λ l. Fails c.in_err-keep.field-0.0 (read_line w.line (view w.so_far) l)) (append-nil (w.pending.items ++ c.args.last.now)) (c.in_err-keep.ensures.err.1 []))
