use Rattle.std.proofs.Common.{List, sym, subst}
use Rattle.iscsi_commands.specs.declared.entry.Entry.{Entry}
use Rattle.iscsi_commands.specs.Log.{AreTagged}
use Rattle.iscsi_commands.proofs.RankLemmas.{renumbered}
use Rattle.iscsi_commands.proofs.closing.close_up.Goals as goal

pub returns-clause-tagged : goal.returns-clause-tagged
returns-clause-tagged c =
    let log : List Entry = c.args.log.now.items in
    let r = c.renumber_others.ensures in
    subst (λ (l : List Entry). AreTagged l c.keep_live.new.places.items c.renumber_others.new.self.crowded.items c.renumber_others.new.self.others.items) (sym c.keep_live.ensures.log)
    (renumbered log c.requires.tagged c.renumber_others.new.self.others.items c.keep_live.new.places.items c.renumber_others.new.self.crowded.items r.groups (rw c.deref.ensures.value at r.marked) (rw c.deref.ensures.value at r.others) c.keep_live.ensures.groups
    (λ k live at. c.keep_live.ensures.places k live (rw r.places at)))
