use Rattle.std.proofs.Common.{◌≡◌, ◌∙◌, [], None, length, sym, ap, subst}
use Rattle.iscsi_ffi_steps.specs.Walk.{Doing}
use Rattle.iscsi_ffi_steps.specs.Steps.{Going}
use Rattle.iscsi_ffi_desk.specs.Calls.{first_of_withheld, first_withheld}
use Rattle.iscsi_ffi.specs.Standing.{Begun, Sided}
use Rattle.iscsi_ffi.proofs.WithheldLemmas.{stop}
use Rattle.iscsi_ffi.proofs.side.Side.complete_withheld.Goals as goal

pub returns-then-is_none_withheld : goal.returns-then-is_none_withheld
returns-then-is_none_withheld c = λ i g b.
    let same = ap (λ (x : Sided). x.desk.state.withheld) c.self.view_is ∙ ap (λ (d : Doing). d.state.withheld) b.stands.doing in
    let empty : g.doing.state.withheld ≡ [] = sym same ∙ c.is_none_withheld.ensures.yes c.if-is_none_withheld.true in
    let none : first_withheld g.doing.state ≡ None = ap (first_of_withheld g.doing.state) empty in
    subst (λ (x : Going). Begun i c.args.self.now x) (sym (stop i (length g.doing.state.commands.items) g none)) b
