use Rattle.std.proofs.Common.{ℕ, List, length, ap}
use Rattle.iscsi_ffi_desk.proofs.OpenLemmas.{are_few}
use Rattle.iscsi_ffi_desk.proofs.desk.opening.rooms_of.Goals as goal

pub returns-clause-few : goal.returns-clause-few
returns-clause-few c = are_few c.args.options.now (length c.as_slice-cids.result.now) c.requires (ap (λ (xs : List ℕ). length xs) c.as_slice-cids.ensures.value)
