use Rattle.std.proofs.Common.{◌≡◌, ◌∙◌, None, sym, ap, subst}
use Rattle.iscsi_ffi_commands.specs.Commands.{find_ticket}
use Rattle.iscsi_ffi_steps.specs.Walk.{Doing}
use Rattle.iscsi_ffi_steps.specs.Steps.{Answered, going}
use Rattle.iscsi_ffi.specs.Answers.{answer_of}
use Rattle.iscsi_ffi.specs.Standing.{Begun, Sided}
use Rattle.iscsi_ffi.specs.contracts.side.Side.{the_view}
use Rattle.iscsi_ffi.proofs.CallLemmas.{complete_none}
use Rattle.iscsi_ffi.proofs.side.Side.complete_now.Goals as goal

pub returns-in-None-clause-stands : goal.returns-in-None-clause-stands
returns-in-None-clause-stands c = λ i s b.
    let P : Sided → Type 0 = λ v. Begun i v (going s) in
    let here : Begun i (the_view c.self.inside) (going s) = subst P (sym c.self.view_is) b in
    let no : find_ticket c.args.ticket s.state.commands ≡ None = ap (λ (d : Doing). find_ticket c.args.ticket d.state.commands) (sym here.stands.doing) ∙ sym c.command.ensures ∙ c.in-None.is in
    let Q : Answered → Type 0 = λ x. Begun i c.stop_now.new.self x.going in
    subst Q (sym (complete_none i c.args.ticket c.args.status s no)) (c.stop_now.ensures.stands i s b)

pub returns-in-None-clause-answer : goal.returns-in-None-clause-answer
returns-in-None-clause-answer c = λ i s b.
    let P : Sided → Type 0 = λ v. Begun i v (going s) in
    let here : Begun i (the_view c.self.inside) (going s) = subst P (sym c.self.view_is) b in
    let no : find_ticket c.args.ticket s.state.commands ≡ None = ap (λ (d : Doing). find_ticket c.args.ticket d.state.commands) (sym here.stands.doing) ∙ sym c.command.ensures ∙ c.in-None.is in
    c.stop_now.ensures.answer i s b ∙ ap (λ (x : Answered). answer_of x.answer) (sym (complete_none i c.args.ticket c.args.status s no))
