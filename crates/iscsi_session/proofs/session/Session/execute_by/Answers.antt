use Rattle.iscsi_session.proofs.Names.{rules, w64, arith, to_z-of_z, deed_by}
use Rattle.iscsi_session.proofs.DeedLemmas.{fits_deed, ready, executed_stays, Stays}
use Rattle.iscsi_session.proofs.session.Session.execute_by.Goals as goal

pub carry_out-requires-clause-ready : goal.carry_out-requires-clause-ready
carry_out-requires-clause-ready over c =
    rw c.requires.deed
    (ready c.args.self.now c.args.request.now (deed_by c.args.self.now c.args.request.now) (fits_deed c.args.self.now c.args.request.now) c.requires.space c.requires.turned c.requires.counted c.requires.known)

pub returns : goal.returns
returns over c =
    let number = to_z-of_z w64 c.args.number (search rules) in
    let done = rw (number, c.requires.deed, c.requires.number) at c.carry_out.ensures.done in
    let stays : Stays 1 c.args.self.now c.carry_out.new.self = rw done.core (executed_stays c.args.self.now c.args.request.now c.args.event) in
    record { done = done; spent = omega (arith, c.carry_out.ensures.spent, stays.held); waiting = stays.waiting }
