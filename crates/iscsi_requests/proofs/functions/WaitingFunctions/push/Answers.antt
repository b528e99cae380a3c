use Rattle.std.proofs.Common.{◌<◌, ◌∙◌, ap, sym, subst, arith}
use Rattle.iscsi_lists.proofs.PlaceLemmas.{last_there}
use Rattle.iscsi_requests.specs.Conns.{count_all}
use Rattle.iscsi_requests.specs.Functions.{WaitingFunctions, pushed}
use Rattle.iscsi_requests.specs.Kept.{NO_FUNCTION, functions_of}
use Rattle.iscsi_requests.proofs.ValueLemmas.{free_there, pushed_values}
use Rattle.iscsi_requests.proofs.functions.WaitingFunctions.push.Goals as goal

pub push_back-requires-clause-room : goal.push_back-requires-clause-room
push_back-requires-clause-room c =
    free_there NO_FUNCTION c.self.inside.kept c.known.ensures.apart (subst (λ (v : WaitingFunctions). count_all v.waiting < v.room) (sym c.self.view_is) c.requires.room)

pub returns : goal.returns
returns c =
    let kept = c.self.inside.kept in
    let slot = c.push_back.result in
    let free = last_there slot kept.free c.push_back.ensures.slot in
    let high = c.known.ensures.apart.within slot (omega (arith, free)) in
    let long = c.known.ensures.values in
    ap functions_of c.push_back.ensures.state
    ∙ ap (λ ws. record { waiting = ws; room = kept.room })
    (pushed_values NO_FUNCTION kept.values slot (record { number = c.args.number; request = c.args.request }) c.args.conn kept.lists c.push_back.ensures.fresh (omega (arith, high, long)))
    ∙ ap (pushed c.args.conn (record { number = c.args.number; request = c.args.request })) c.self.view_is
