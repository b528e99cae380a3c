use Rattle.iscsi_ffi.specs.Options.{is_valid}
use Rattle.iscsi_ffi_handle.proofs.OpenLemmas.{no_memory, opens_too}
use Rattle.iscsi_ffi_handle.proofs.handle.opening.opened.Goals as goal

pub returns-in-Ok-new-clause-refused : goal.returns-in-Ok-new-clause-refused
returns-in-Ok-new-clause-refused c = opens_too (is_valid c.args.options.now c.args.cids.now) c.in-Ok.side c.in-Ok-new.side c.in-Ok.ensures.refused

pub returns-clause-refused : goal.returns-clause-refused
returns-clause-refused c = no_memory _ (is_valid c.args.options.now c.args.cids.now) c.in-Ok.side c.in-Ok.ensures.refused
