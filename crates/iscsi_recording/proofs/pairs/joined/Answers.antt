use Rattle.iscsi_recording.proofs.PairLemmas.{in_thirds}
use Rattle.iscsi_recording.proofs.pairs.joined.Goals as goal
use Rattle.std.proofs.Common.{◌∙◌}

pub returns : goal.returns
returns c =
    let front = c.sixteen_joined-front in
    let middle = c.sixteen_joined-middle in
    let back = c.sixteen_joined-back in
    c.in_one.ensures ∙ in_thirds c.args.values.now front.result middle.result back.result c.told-values front.ensures.len middle.ensures.len back.ensures.len
    front.ensures.bytes middle.ensures.bytes back.ensures.bytes
