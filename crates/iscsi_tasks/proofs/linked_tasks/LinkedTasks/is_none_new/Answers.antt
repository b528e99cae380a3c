use Rattle.std.proofs.Common.{◌≡◌, ◌∙◌, All, false, sym, subst}
use Rattle.iscsi_tasks.proofs.Names.{is_new, Linked}
use Rattle.iscsi_tasks.proofs.MarkedLemmas.{none_marked}
use Rattle.iscsi_tasks.proofs.linked_tasks.LinkedTasks.is_none_new.Goals as goal

pub returns : goal.returns
returns c = λ yes. subst (λ (l : Linked). All (λ m. is_new m ≡ false) l.shown.list) c.self.view_is (none_marked c.self.invariant.marked (sym c.is_none_new.ensures ∙ yes))
