use Rattle.std.proofs.Common.{◌≡◌, ◌≤◌, take}
use Rattle.iscsi_ffi.specs.Standing.{waiting}
use Rattle.iscsi_ffi_handle.specs.Telling.{taken_many, written_over}
use Rattle.iscsi_ffi_handle.proofs.telling.hand_over_each.Given as goal

-- so many were taken, and written into the first places
abbrev pub invariant-loop-index : goal.invariant-loop-index
invariant-loop-index l = record {
  side : l.side ≡ taken_many l.index l.fn.side;
  actions : l.actions ≡ written_over l.fn.actions (take l.index (waiting l.fn.side));
  within : l.index ≤ l.count;
}
