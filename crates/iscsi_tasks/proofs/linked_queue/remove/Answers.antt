use Rattle.std.proofs.Common.{◌∙◌, get_or, ap, sym, subst, arith}
use Rattle.std.specs.List.{position_or_len}
use Rattle.iscsi_tasks.proofs.Names.{common_steps, Member, Marks, is_ordered_in, BLANK, Chained, IsMarked, IsPastNone, moved_off}
use Rattle.iscsi_slots.proofs.SlotLemmas.{stands}
use Rattle.iscsi_tasks.specs.Marked.{left_by}
use Rattle.iscsi_tasks.proofs.MarkedLemmas.{past_none, one_head, marked_left}
use Rattle.iscsi_tasks.proofs.linked_queue.remove.Goals as goal

pub next_ordered-ordered-requires : goal.next_ordered-ordered-requires
next_ordered-ordered-requires c =
    let at = stands c.args.slot c.args.chain.now.slots c.requires.there in
    grind (arith, common_steps, IsPastNone, moved_off, past_none)

pub note_left-requires : goal.note_left-requires
note_left-requires c =
    let at = stands c.args.slot c.args.chain.now.slots c.requires.there in
    one_head c.requires.marked at.place at.inside c.args.slot c.after-next.result at.there (c.after-next.ensures at.place at.inside at.there) BLANK c.at.result.now.task.attr
    (ap (λ (m : Member). m.task.attr) (c.at.ensures at.place BLANK at.inside at.there))

pub returns-clause-marked : goal.returns-clause-marked
returns-clause-marked c =
    let at = stands c.args.slot c.args.chain.now.slots c.requires.there in
    let state = c.remove.ensures at.place at.inside at.there in
    subst (λ (m : Marks). IsMarked m c.remove.new.self.slots c.remove.new.self.members) (sym c.note_left.ensures)
    (subst (λ (v : Chained). IsMarked (left_by c.args.marks.now c.args.slot c.after-next.result c.at.result.now.task.attr c.next_ordered-ordered.result) v.slots v.members) (sym state)
    (marked_left c.requires.marked at.place at.inside c.args.slot c.after-next.result at.there (c.after-next.ensures at.place at.inside at.there) BLANK c.at.result.now.task.attr c.next_ordered-ordered.result
    (ap (λ (m : Member). m.task.attr) (c.at.ensures at.place BLANK at.inside at.there))
    (c.next_ordered-ordered.ensures ∙ ap (λ (v : Chained). get_or v.slots (position_or_len is_ordered_in v.members) 0) state)))
