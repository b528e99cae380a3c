use Rattle.std.proofs.Common.{◌≡◌, ◌∙◌, sym, subst, eqb-true}
use Rattle.iscsi_ffi_steps.specs.Walk.{Doing}
use Rattle.iscsi_ffi_steps.specs.Steps.{tell_each}
use Rattle.iscsi_ffi_desk.specs.Awake.{asleep_in}
use Rattle.iscsi_ffi_desk.specs.contracts.desk.Desk.{the_view}
use Rattle.iscsi_ffi_desk.proofs.EndLemmas.{none_told}
use Rattle.iscsi_ffi_desk.proofs.desk.Desk.tell_ready.Goals as goal

pub returns-then-are_all : goal.returns-then-are_all
returns-then-are_all c =
    let i = c.self.inside in
    subst (λ (d : Doing). d ≡ tell_each 0 d.state.outbox.limits.cids d) c.self.view_is
    (sym (none_told i.outbox.limits.cids (the_view i) c.self.invariant.awake (eqb-true (asleep_in i.awake) 0 (sym c.are_all.ensures ∙ c.if-are_all.true))))
