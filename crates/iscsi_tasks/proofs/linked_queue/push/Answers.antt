use Rattle.std.proofs.Common.{ap, sym, subst}
use Rattle.iscsi_tasks.proofs.Names.{Member, Marks, AreApart, Chained, IsMarked, pushed_by}
use Rattle.iscsi_tasks.proofs.MarkedLemmas.{marked_push}
use Rattle.iscsi_tasks.proofs.linked_queue.push.Goals as goal

pub returns-clause-marked : goal.returns-clause-marked
returns-clause-marked c =
    let one : Member = record { task = c.args.task; enabled = c.args.enabled; given = c.args.given } in
    let state = c.push-slot.ensures.state in
    let slots_are = ap (λ (v : Chained). v.slots) state in
    subst (λ (m : Marks). IsMarked m c.push-slot.new.self.slots c.push-slot.new.self.members) (sym c.note_last.ensures)
    (subst (λ (v : Chained). IsMarked (pushed_by c.args.marks.now c.args.task.attr c.args.enabled c.args.given c.push-slot.result) v.slots v.members) (sym state)
    (marked_push c.requires.marked one c.push-slot.result (subst AreApart slots_are c.push-slot.ensures.apart) c.requires.newest c.requires.head))
