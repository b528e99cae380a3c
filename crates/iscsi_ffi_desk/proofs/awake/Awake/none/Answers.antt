use Rattle.std.proofs.Common.{◌∙◌, sym, ap}
use Rattle.iscsi_ffi_desk.specs.Awake.{asleep_in}
use Rattle.iscsi_ffi_desk.proofs.AwakeLemmas.{all_asleep}
use Rattle.iscsi_ffi_desk.proofs.awake.Awake.none.Goals as goal

pub invariant_of-result : goal.invariant_of-result
invariant_of-result c = sym (ap asleep_in c.in_ok-none_told.ensures ∙ all_asleep c.args.conns)
