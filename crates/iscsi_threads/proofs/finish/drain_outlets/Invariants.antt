use Rattle.std.proofs.Common.{◌≡◌, ℕ, ◌≤◌, slice_index_or, vec_len, Vec}
use Rattle.std.specs.declared.alloc.Global.{Global}
use Rattle.iscsi_threads.specs.declared.port.UnitPort.{UnitPort}
use Rattle.iscsi_threads.specs.declared.outlet.Outlet.{Outlet}
use Rattle.iscsi_threads.specs.rules.Ports.{Answer}
use Rattle.iscsi_threads.specs.private.Finishing.{UnitsLeft}
use Rattle.iscsi_threads.proofs.finish.drain_outlets.Given as goal

abbrev pub invariant-loop-i : goal.invariant-loop-i
invariant-loop-i l = record {
  done : UnitsLeft l.initial.units.items l.initial.outlets.items l.initial.untaken.items l.untaken.items l.unread.items l.i;
  units : (k : ℕ) (d : UnitPort) → l.i ≤ k → slice_index_or l.units.items k d ≡ slice_index_or l.initial.units.items k d;
  outlets : (k : ℕ) (d : Outlet) → l.i ≤ k → slice_index_or l.outlets.items k d ≡ slice_index_or l.initial.outlets.items k d;
  untaken : (k : ℕ) (d : Vec ℕ Global) → l.i ≤ k → slice_index_or l.untaken.items k d ≡ slice_index_or l.initial.untaken.items k d;
  unread : (k : ℕ) (d : Vec Answer Global) → l.i ≤ k → slice_index_or l.unread.items k d ≡ slice_index_or l.initial.unread.items k d;
  units_len : vec_len l.units ≡ vec_len l.initial.units;
  outlets_len : vec_len l.outlets ≡ vec_len l.initial.outlets;
  untaken_len : vec_len l.untaken ≡ vec_len l.initial.untaken;
  unread_len : vec_len l.unread ≡ vec_len l.initial.unread;
}
