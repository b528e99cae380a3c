use Rattle.std.proofs.Common.{◌≡◌, ℕ, ◌≤◌, List, slice_index_or, vec_len, Vec}
use Rattle.std.specs.declared.alloc.Global.{Global}
use Rattle.iscsi_threads.specs.declared.port.Port.{Port}
use Rattle.iscsi_threads.specs.declared.inlet.Inlet.{Inlet}
use Rattle.iscsi_threads.specs.private.Finishing.{HeadersLeft}
use Rattle.iscsi_threads.proofs.finish.drain_inlets.Given as goal

abbrev pub invariant-loop-i : goal.invariant-loop-i
invariant-loop-i l = record {
  done : HeadersLeft l.initial.ports.items l.initial.inlets.items l.left.items l.i;
  ports : (k : ℕ) (d : Port) → l.i ≤ k → slice_index_or l.ports.items k d ≡ slice_index_or l.initial.ports.items k d;
  inlets : (k : ℕ) (d : Inlet) → l.i ≤ k → slice_index_or l.inlets.items k d ≡ slice_index_or l.initial.inlets.items k d;
  left : (k : ℕ) (d : Vec (List ℕ) Global) → l.i ≤ k → slice_index_or l.left.items k d ≡ slice_index_or l.initial.left.items k d;
  ports_len : vec_len l.ports ≡ vec_len l.initial.ports;
  inlets_len : vec_len l.inlets ≡ vec_len l.initial.inlets;
  left_len : vec_len l.left ≡ vec_len l.initial.left;
}
