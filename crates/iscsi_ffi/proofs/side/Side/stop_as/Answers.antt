use Rattle.std.proofs.Common.{◌≡◌, ◌∙◌, ◌&&◌, true, false, refl, sym, ap, subst}
use Rattle.iscsi_ffi_commands.specs.Commands.{is_going, is_marked}
use Rattle.iscsi_ffi_steps.specs.Steps.{Answered, Going, going}
use Rattle.iscsi_ffi.specs.Answers.{answer_of}
use Rattle.iscsi_ffi.specs.Standing.{Begun}
use Rattle.iscsi_ffi.proofs.CallLemmas.{stop_goes, stop_not}
use Rattle.iscsi_ffi.proofs.side.Side.stop_as.Goals as goal

pub returns-clause-stands : goal.returns-clause-stands
returns-clause-stands c = λ i s b.
    let yes : (is_going c.args.command.now && is_marked c.args.command.now) ≡ true = sym c.is_cleared.ensures ∙ c.if-not-is_cleared.false in
    let Q : Going → Type 0 = λ x. Begun i c.happen.new.self x in
    subst Q (stop_goes i c.args.command.now s yes) (c.happen.ensures i (going s) b refl)

pub returns-then-not-is_cleared-clause-stands : goal.returns-then-not-is_cleared-clause-stands
returns-then-not-is_cleared-clause-stands c = λ i s b.
    let no : (is_going c.args.command.now && is_marked c.args.command.now) ≡ false = sym c.is_cleared.ensures ∙ c.if-not-is_cleared.true in
    let Q : Answered → Type 0 = λ x. Begun i c.stop_now.new.self x.going in
    subst Q (sym (stop_not i c.args.command.now s no)) (c.stop_now.ensures.stands i s b)

pub returns-then-not-is_cleared-clause-answer : goal.returns-then-not-is_cleared-clause-answer
returns-then-not-is_cleared-clause-answer c = λ i s b.
    let no : (is_going c.args.command.now && is_marked c.args.command.now) ≡ false = sym c.is_cleared.ensures ∙ c.if-not-is_cleared.true in
    c.stop_now.ensures.answer i s b ∙ ap (λ (x : Answered). answer_of x.answer) (sym (stop_not i c.args.command.now s no))
