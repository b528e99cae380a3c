use Rattle.std.proofs.Common.{◌≡◌, drop}
use Rattle.std.specs.List.{flat_map}
use Rattle.iscsi_ffi_steps.specs.Walk.{sweep, touched_by}
use Rattle.iscsi_ffi_desk.proofs.desk.Desk.sweep.Given as goal

abbrev pub invariant-loop-effect : goal.invariant-loop-effect
invariant-loop-effect l = record {
  state : sweep (flat_map (touched_by l.fn.self.state) (drop l.effect-index l.effects)) l.self ≡ sweep (flat_map (touched_by l.fn.self.state) l.effects) l.fn.self;
  outbox : l.self.state.outbox ≡ l.fn.self.state.outbox;
}
