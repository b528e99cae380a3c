use Rattle.iscsi_recording.proofs.DigitTable.{is_raised}
use Rattle.iscsi_recording.proofs.parse.raised_value.Goals as goal

pub returns : goal.returns
returns c = rw (c.max.ensures, c.saturating_sub-decimal.ensures) (is_raised c.args.c c.ranges.c.fits)
