use Rattle.std.proofs.Common.{◌<◌, ◌∙◌, ap, length, subst, sym}
use Rattle.iscsi_requests.specs.Conns.{of_conn}
use Rattle.iscsi_requests.specs.Unwritten.{Unwritten}
use Rattle.iscsi_requests.proofs.CountLemmas.{counted_at, read_here}
use Rattle.iscsi_requests.proofs.unwritten.Unwritten.count.Goals as goal

pub returns : goal.returns
returns c =
    let i = c.self.inside in
    let within = subst (λ (v : Unwritten). c.args.conn < length v.handed) (sym c.self.view_is) c.requires in
    read_here i.counts.items i.kept c.self.invariant c.args.conn c.index.result.now c.index.ensures within
    ∙ counted_at i.counts.items i.kept c.self.invariant c.args.conn
    ∙ ap (λ (v : Unwritten). length (of_conn c.args.conn v.handed)) c.self.view_is
