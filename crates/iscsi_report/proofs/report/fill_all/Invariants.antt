use Rattle.std.proofs.Common.{◌≡◌, length, drop}
use Rattle.iscsi_report.specs.Filled.{filled}
use Rattle.iscsi_report.proofs.report.fill_all.Given as goal

abbrev pub invariant-loop-place : goal.invariant-loop-place
invariant-loop-place l = record {
  long : length l.bytes ≡ length l.fn.bytes;
  filled : filled l.numbers (drop l.place-index l.places) l.bytes ≡ filled l.numbers l.places l.fn.bytes;
}
