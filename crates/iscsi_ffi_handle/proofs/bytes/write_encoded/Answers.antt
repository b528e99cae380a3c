use Rattle.std.proofs.Common.{◌≡◌, ◌∙◌, List, ℕ, ◌++◌, length, drop, ap, rules}
use Rattle.iscsi_ffi_handle.specs.Bytes.{put_first}
use Rattle.iscsi_ffi_handle.proofs.ByteLemmas.{put_both}
use Rattle.iscsi_ffi_handle.proofs.bytes.write_encoded.Goals as goal

pub returns-clause-buffer : goal.returns-clause-buffer
returns-clause-buffer c =
    let header = c.copy_from_slice.ensures.after ∙ c.header.ensures ∙ c.encode-pdu.ensures.header in
    let segment = c.copy_from_slice-2.ensures.after ∙ c.tail-tail.ensures.bytes ∙ c.encode-pdu.ensures.tail in
    let long : length c.copy_from_slice.new.self ≡ 48 = search rules in
    let behind : c.split_at_mut-data.result.1.now ≡ drop (length c.copy_from_slice-2.new.self) (drop 48 c.args.buffer.now) = search rules in
    put_both c.copy_from_slice.new.self c.copy_from_slice-2.new.self c.split_at_mut-data.result.1.now c.args.buffer.now long behind
    ∙ ap (λ (bytes : List ℕ). put_first bytes c.args.buffer.now) (λ i. header i ++ segment i)
