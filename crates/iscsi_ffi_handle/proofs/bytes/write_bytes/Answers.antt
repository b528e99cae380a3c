use Rattle.std.proofs.Common.{◌∙◌, ◌++◌, sym, ap}
use Rattle.iscsi_outbox_rules.specs.rules.Handing.{header_with}
use Rattle.iscsi_outbox_steps.specs.declared.given.Pdu.{Pdu}
use Rattle.iscsi_outbox.specs.rules.Headers.{as_rules}
use Rattle.iscsi_ffi_handle.specs.Bytes.{put_first, tail_in}
use Rattle.iscsi_ffi_handle.proofs.bytes.write_bytes.Goals as goal

pub returns-in-Reply-clause-buffer : goal.returns-in-Reply-clause-buffer
returns-in-Reply-clause-buffer c =
    let handed = c.args.handed.now in
    c.write_encoded.ensures.buffer
    ∙ ap (λ (p : Pdu). put_first (header_with (as_rules p) handed.stat_sn handed.exp handed.max ++ tail_in p) c.args.buffer.now) (sym c.in-Reply.is)
