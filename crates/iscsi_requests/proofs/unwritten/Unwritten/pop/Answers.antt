use Rattle.std.proofs.Common.{◌-◌, ◌<◌, ◌∙◌, length, set, None, Some, ap, sym, subst}
use Rattle.iscsi_requests.specs.Conns.{of_conn, oldest}
use Rattle.iscsi_requests.specs.Unwritten.{Unwritten, popped}
use Rattle.iscsi_requests.specs.Kept.{unwritten_of}
use Rattle.iscsi_requests.proofs.ValueLemmas.{popped_by}
use Rattle.iscsi_requests.proofs.CountLemmas.{popped_counts, read_here}
use Rattle.iscsi_requests.proofs.unwritten.Unwritten.pop.Goals as goal

pub invariant_of-self-2 : goal.invariant_of-self-2
invariant_of-self-2 c =
    let i = c.self.inside in
    let e = c.in_ok-first.ensures in
    let within = subst (λ (v : Unwritten). c.args.conn < length v.handed) (sym c.self.view_is) c.requires in
    let read = read_here i.counts.items i.kept c.self.invariant c.args.conn c.index_mut.result.now c.index_mut.ensures.value within in
    ap (λ n. set i.counts.items c.args.conn (n - 1)) read
    ∙ popped_counts i.counts.items i.kept c.self.invariant c.args.conn c.in_ok-first.first c.pop_front.new.self e.none e.state

pub returns-clause-answer : goal.returns-clause-answer
returns-clause-answer c =
    let e = c.in_ok-first.ensures in
    let is = popped_by None c.args.conn c.self.inside.kept c.pop_front.new.self (Some c.in_ok-first.first) e.none e.unchanged e.value e.state in
    is.answer ∙ ap (λ (v : Unwritten). oldest (of_conn c.args.conn v.handed)) c.self.view_is

pub returns-clause-state : goal.returns-clause-state
returns-clause-state c =
    let e = c.in_ok-first.ensures in
    let is = popped_by None c.args.conn c.self.inside.kept c.pop_front.new.self (Some c.in_ok-first.first) e.none e.unchanged e.value e.state in
    ap (λ ws. record { handed = ws; room = c.pop_front.new.self.room }) is.waiting
    ∙ ap (λ n. record (popped c.args.conn (unwritten_of c.self.inside.kept)) { room = n }) is.room ∙ ap (popped c.args.conn) c.self.view_is
