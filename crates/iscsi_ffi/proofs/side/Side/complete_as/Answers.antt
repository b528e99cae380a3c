use Rattle.std.proofs.Common.{◌≡◌, ◌∙◌, ℕ, None, true, false, refl, sym, ap, subst}
use Rattle.iscsi_rules.specs.declared.event.Event.TheVariants.{Done}
use Rattle.iscsi_ffi_commands.specs.Commands.{is_going}
use Rattle.iscsi_ffi_steps.specs.Steps.{Answered, Going, going, happens}
use Rattle.iscsi_ffi.specs.Answers.{answer_of}
use Rattle.iscsi_ffi.specs.Standing.{Begun}
use Rattle.iscsi_ffi.proofs.CallLemmas.{complete_goes, complete_not}
use Rattle.iscsi_ffi.proofs.side.Side.complete_as.Goals as goal

pub returns-clause-stands : goal.returns-clause-stands
returns-clause-stands c = λ i s b.
    let yes : is_going c.args.command.now ≡ true = sym c.is_going.ensures ∙ c.if-not-is_going.false in
    let Q : Going → Type 0 = λ x. Begun i c.happen.new.self x in
    subst Q (ap (λ (n : ℕ). happens i None (Done c.args.command.now.ticket n) (going s)) c.status_of-status.ensures ∙ complete_goes i c.args.command.now c.args.status s yes) (c.happen.ensures i (going s) b refl)

pub returns-then-not-is_going-clause-stands : goal.returns-then-not-is_going-clause-stands
returns-then-not-is_going-clause-stands c = λ i s b.
    let no : is_going c.args.command.now ≡ false = sym c.is_going.ensures ∙ c.if-not-is_going.true in
    let Q : Answered → Type 0 = λ x. Begun i c.stop_now.new.self x.going in
    subst Q (sym (complete_not i c.args.command.now c.args.status s no)) (c.stop_now.ensures.stands i s b)

pub returns-then-not-is_going-clause-answer : goal.returns-then-not-is_going-clause-answer
returns-then-not-is_going-clause-answer c = λ i s b.
    let no : is_going c.args.command.now ≡ false = sym c.is_going.ensures ∙ c.if-not-is_going.true in
    c.stop_now.ensures.answer i s b ∙ ap (λ (x : Answered). answer_of x.answer) (sym (complete_not i c.args.command.now c.args.status s no))
