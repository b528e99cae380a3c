use Rattle.std.proofs.Common.{◌∙◌, ap}
use Rattle.iscsi_slots.proofs.SlotLemmas.{stands}
use Rattle.iscsi_tasks.proofs.Names.{Chained}
use Rattle.iscsi_tasks.proofs.linked_queue.let_go.Goals as goal

pub returns-clause-room : goal.returns-clause-room
returns-clause-room c =
    let at = stands c.args.slot c.args.chain.now.slots c.requires.there in
    ap (λ (v : Chained). v.room) c.enable_free.ensures.state ∙ ap (λ (v : Chained). v.room) (c.remove.ensures.state at.place at.inside at.there)
