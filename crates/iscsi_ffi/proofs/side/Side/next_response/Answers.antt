use Rattle.std.proofs.Common.{◌∙◌, sym, subst}
use Rattle.iscsi_ffi_rules.specs.rules.Calls.{Nexts}
use Rattle.iscsi_ffi.specs.Answers.{given_of}
use Rattle.iscsi_ffi.specs.Responses.{ResponseIsNext}
use Rattle.iscsi_ffi.specs.Standing.{Sided}
use Rattle.iscsi_ffi.specs.declared.answer.Answer.TheVariants.{ActionsWait}
use Rattle.iscsi_ffi.specs.declared.side.outgoing.Next.TheVariants.{Goes, None as NoPdu}
use Rattle.iscsi_outbox.specs.promises.Responses.{handed_of}
use Rattle.iscsi_ffi.proofs.PublicLemmas.{call_taken}
use Rattle.iscsi_ffi.proofs.side.Side.next_response.Goals as goal

pub give_response-given-requires : goal.give_response-given-requires
give_response-given-requires c =
    let n = c.in_ok-conn.ensures.some in
    let R : Sided → Type 0 = λ v. ResponseIsNext c.args.cid c.in_ok-conn.conn c.in_ok-conn.response v in
    subst R (sym c.begin.ensures.state) (record { place = n.place; within = n.within; may = n.may; goes = n.goes })

pub returns-clause-some : goal.returns-clause-some
returns-clause-some c =
    let g = c.give_response-given in
    call_taken given_of (NoPdu ActionsWait) (Nexts c.args.cid) c.args.self.now c.begin.new.self g.new.self c.end.new.self (Goes (handed_of g.result.0) g.result.1) (sym c.waits.ensures ∙ c.if-waits.false) c.begin.ensures.stands g.ensures.stands g.ensures.answer c.end.ensures
