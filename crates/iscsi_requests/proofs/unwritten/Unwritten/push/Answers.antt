use Rattle.std.proofs.Common.{ℕ, ◌+◌, ◌<◌, ◌∙◌, length, set, Option, None, ap, sym, subst, arith}
use Rattle.iscsi_lists.specs.Lists.{Listed}
use Rattle.iscsi_lists.proofs.PlaceLemmas.{last_there}
use Rattle.iscsi_requests.specs.Conns.{count_all}
use Rattle.iscsi_requests.specs.Unwritten.{Unwritten, pushed}
use Rattle.iscsi_requests.specs.Kept.{unwritten_of}
use Rattle.iscsi_requests.proofs.ValueLemmas.{free_there, pushed_values}
use Rattle.iscsi_requests.proofs.CountLemmas.{count_below, counts_of, one_more, read_here}
use Rattle.iscsi_requests.proofs.unwritten.Unwritten.push.Goals as goal

pub push_back-requires-clause-room : goal.push_back-requires-clause-room
push_back-requires-clause-room c =
    free_there None c.self.inside.kept c.known.ensures.apart (subst (λ (v : Unwritten). count_all v.handed < v.room) (sym c.self.view_is) c.requires.room)

pub overflow_add-index_mut : goal.overflow_add-index_mut
overflow_add-index_mut c =
    let i = c.self.inside in
    let within = subst (λ (v : Unwritten). c.args.conn < length v.handed) (sym c.self.view_is) c.requires.conn in
    let read = read_here i.counts.items i.kept c.self.invariant c.args.conn c.index_mut.result.now c.index_mut.ensures.value within in
    let few = count_below i.counts.items i.kept c.self.invariant c.args.conn c.known.ensures.apart in
    let short = c.known.ensures.short in
    omega (arith, read, few, short)

pub invariant_of-self : goal.invariant_of-self
invariant_of-self c =
    let i = c.self.inside in
    let within = subst (λ (v : Unwritten). c.args.conn < length v.handed) (sym c.self.view_is) c.requires.conn in
    let read = read_here i.counts.items i.kept c.self.invariant c.args.conn c.index_mut.result.now c.index_mut.ensures.value within in
    ap (λ n. set i.counts.items c.args.conn (n + 1)) read
    ∙ one_more i.counts.items i.kept c.self.invariant c.args.conn c.push_back.result
    ∙ sym (ap (λ (u : Listed (Option ℕ)). counts_of u.lists) c.push_back.ensures.state)

pub returns : goal.returns
returns c =
    let kept = c.self.inside.kept in
    let slot = c.push_back.result in
    let free = last_there slot kept.free c.push_back.ensures.slot in
    let high = c.known.ensures.apart.within slot (omega (arith, free)) in
    let long = c.known.ensures.values in
    ap unwritten_of c.push_back.ensures.state
    ∙ ap (λ ws. record { handed = ws; room = kept.room })
    (pushed_values None kept.values slot c.args.request c.args.conn kept.lists c.push_back.ensures.fresh (omega (arith, high, long)))
    ∙ ap (pushed c.args.conn c.args.request) c.self.view_is
