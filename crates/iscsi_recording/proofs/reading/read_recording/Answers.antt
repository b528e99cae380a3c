use Rattle.std.proofs.Common.{Ok, Err}
use Rattle.std.proofs.lemmas.Result.{err_from_is_err_and}
use Rattle.iscsi_recording.specs.Recorded.{read_of}
use Rattle.iscsi_recording.proofs.OrderLemmas.{memory_at_first, order_as, end_in_order}
use Rattle.iscsi_recording.proofs.reading.read_recording.Goals as goal

pub returns-in_default-clause-order : goal.returns-in_default-clause-order
returns-in_default-clause-order g c = memory_at_first _

pub returns-in_err-fill-clause-order : goal.returns-in_err-fill-clause-order
returns-in_err-fill-clause-order g c =
    let p = err_from_is_err_and c.from_residual.result c.from_residual.ensures.1 in
    rw (p.1, p.2) (order_as _ read_of (Err c.in_err-fill.field-0.0) _ _ c.new-reading.ensures.nothing c.in_err-fill.ensures.order)

pub returns-in_err-recording-clause-order : goal.returns-in_err-recording-clause-order
returns-in_err-recording-clause-order g c =
    let p = err_from_is_err_and c.from_residual-in_err-recording.result c.from_residual-in_err-recording.ensures.1 in
    rw (p.1, p.2) (end_in_order read_of _ _ c.new-reading.result c.fill.new.reading (Err c.in_err-recording.field-0.0) c.new-reading.ensures.nothing
    c.in_ok-fill.ensures.ready c.in_ok-fill.ensures.seen c.in_err-recording.ensures.read c.in_ok-fill.ensures.ended)

pub returns-clause-order : goal.returns-clause-order
returns-clause-order g c =
    end_in_order read_of _ _ c.new-reading.result c.fill.new.reading (Ok tt) c.new-reading.ensures.nothing
    c.in_ok-fill.ensures.ready c.in_ok-fill.ensures.seen tt c.in_ok-fill.ensures.ended
