use Rattle.std.proofs.Common.{◌∙◌, List, ℕ, append-nil, None, sym, ap}
use Rattle.iscsi_wire.specs.declared.reply.Reply.TheVariants.{Scsi}
use Rattle.iscsi_wire.specs.Replies.{header_of}
use Rattle.iscsi_ffi_handle.specs.Bytes.{put_first}
use Rattle.iscsi_ffi_handle.proofs.bytes.write_response.Goals as goal

pub returns-clause-buffer : goal.returns-clause-buffer
returns-clause-buffer c =
    let h = c.args.handed.now in
    c.write_header-length.ensures.buffer
    ∙ ap (λ (bytes : List ℕ). put_first bytes c.args.buffer.now) (c.scsi_header-header.ensures ∙ sym (append-nil (header_of (Scsi h.itt h.status None) h.stat_sn h.exp h.max)))
