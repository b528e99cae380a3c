use Rattle.std.proofs.Common.{◌≡◌, ◌-◌, false}
use Rattle.iscsi_recording.specs.Reading.{IsReading, weight, ReadsOn}
use Rattle.iscsi_recording.proofs.reading.fill.Given as goal

abbrev pub invariant-chunks : goal.invariant-chunks
invariant-chunks g l = record {
  ready : IsReading l.reading;
  fresh : g.R.Source.has_failed l.reader ≡ false;
  read : ReadsOn (g.R.Source.remaining l.initial.reader) (g.R.Source.remaining l.reader) l.initial.reading l.reading;
}

abbrev pub decreases-chunks : goal.decreases-chunks
decreases-chunks g l = 269484289 - weight l.reading
