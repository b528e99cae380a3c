-- A PDU's bytes in a buffer.
use Rattle.std.proofs.Common.{◌≡◌, ◌∙◌, ℕ, ◌+◌, List, ◌++◌, length, drop, sym, ap, arith, append_assoc}
use Rattle.std.proofs.lemmas.List.{drop-drop, length-append}
use Rattle.iscsi_ffi_handle.specs.Bytes.{put_first}

-- a header, its data behind it, and what stood behind both
pub put_both : (header segment behind buffer : List ℕ) → length header ≡ 48 → behind ≡ drop (length segment) (drop 48 buffer)
    → header ++ (segment ++ behind) ≡ put_first (header ++ segment) buffer
put_both header segment behind buffer long is =
    let all : 48 + length segment ≡ length (header ++ segment) = omega (arith, length-append header segment, long) in
    sym (append_assoc header segment behind)
    ∙ ap (λ (bytes : List ℕ). (header ++ segment) ++ bytes) (is ∙ drop-drop (length segment) 48 buffer ∙ ap (λ n. drop n buffer) all)
