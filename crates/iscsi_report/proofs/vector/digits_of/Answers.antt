use Rattle.iscsi_report.proofs.DigitLanes.{high_ok, low_ok, woven}
use Rattle.iscsi_report.proofs.vector.digits_of.Goals as goal

pub swizzle-high : goal.swizzle-high
swizzle-high c = high_ok c.args.bytes c.fits-bytes.0 c.fits-bytes.1

pub swizzle-low : goal.swizzle-low
swizzle-low c = low_ok c.args.bytes c.fits-bytes.0

pub returns-clause-digits : goal.returns-clause-digits
returns-clause-digits c = woven c.args.bytes c.fits-bytes.0 c.fits-bytes.1
