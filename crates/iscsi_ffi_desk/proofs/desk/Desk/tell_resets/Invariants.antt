use Rattle.std.proofs.Common.{◌≡◌, ◌≤◌}
use Rattle.std.specs.List.{flat_map}
use Rattle.iscsi_rules.specs.promises.Order.{in_parts}
use Rattle.iscsi_ffi_steps.specs.Steps.{reset_in}
use Rattle.iscsi_ffi_steps.specs.Walk.{tell_all}
use Rattle.iscsi_ffi_desk.proofs.TellLemmas.{resets_left}
use Rattle.iscsi_ffi_desk.proofs.desk.Desk.tell_resets.Given as goal

abbrev pub invariant-loop-at : goal.invariant-loop-at
invariant-loop-at l = record {
  actions : tell_all (resets_left l.fn.self.state.outbox.limits.units l.effects l.from l.at) l.self ≡ tell_all (flat_map (reset_in l.fn.self.state.outbox.limits.units) (in_parts l.effects)) l.fn.self;
  state : l.self.state ≡ l.fn.self.state;
  begun : l.from ≤ l.at;
}
