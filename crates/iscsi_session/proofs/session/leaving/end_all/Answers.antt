use Rattle.iscsi_session.proofs.Names.{◌∙◌, ◌<◌, ◌≤◌, ◌==◌, ℕ, not, List, length, count_by, get_or, ap, sym, arith, rules, [], ◌∷◌, IsSome, fewer_counted, list_all-filter, Live, Leave, leave_each, find_ticket, without_ticket, is_numbered, is_known, nat_tests}
use Rattle.iscsi_session.proofs.KeptLemmas.{started, continued, ascending-kept, without_none, without_more, leave_next, there_yet, finished_none, finished_on, without_shorter}
use Rattle.iscsi_session.proofs.session.leaving.end_all.Goals.{In-loop-k}
use Rattle.iscsi_session.proofs.session.leaving.end_all.Given.{Over}
use Rattle.iscsi_session.proofs.session.leaving.end_all.Goals as goal

pub loop-k-init : goal.loop-k-init
loop-k-init over c = search (rules, arith, sym (without_none c.args.live.now.items), sym (finished_none c.args.window.now c.args.live.now.items), started {has = over.S.EffectSink.has} {whole = leave_each c.args.unit c.args.tickets.now} {out = c.args.out.now})

-- the command with the next ticket is still live
still_live : (over : Over) (c : In-loop-k over) → IsSome (find_ticket (get_or c.args.tickets.now c.loop-k.k 0) c.loop-k.live.items)
still_live over c = grind (arith, nat_tests, there_yet)

pub end-requires-clause-there : goal.end-requires-clause-there
end-requires-clause-there over c = still_live over (goal.at.end-requires-clause-there over c).In-loop-k

pub put_leave-requires : goal.put_leave-requires
put_leave-requires over c =
    omega (arith, without_shorter (get_or c.args.tickets.now c.loop-k.k 0) c.loop-k.live.items (still_live over (goal.at.put_leave-requires over c).In-loop-k), c.loop-k.invariant.spent, c.loop-k.invariant.capacity, c.requires.room)

pub loop-k-preserved : goal.loop-k-preserved
loop-k-preserved over c =
    let inv = c.loop-k.invariant in
    let tickets : List ℕ = c.args.tickets.now in
    let k : ℕ = c.loop-k.k in
    let ticket : ℕ = get_or tickets k 0 in
    let lives : List Live = c.args.live.now.items in
    let before : List Live = c.loop-k.live.items in
    let inside : k < length tickets = c.loop-k-test.true in
    let there = still_live over (goal.at.loop-k-preserved over c).In-loop-k in
    let less : count_by is_numbered (without_ticket ticket before) ≤ count_by is_numbered before = fewer_counted is_numbered (λ l. not (l.ticket == ticket)) before in
    record {
      live = rw (c.end.ensures.live, inv.live) (without_more tickets k 0 inside lives);
      window = rw (c.end.ensures.window, c.end.ensures.live) (finished_on c.args.window.now c.loop-k.window lives before (without_ticket ticket before) inv.window c.requires.numbered less inv.fewer);
      fewer = omega (arith, ap (count_by is_numbered) c.end.ensures.live, less, inv.fewer);
      connections = rw (c.end.ensures.connections, inv.connections);
      counted = rw inv.connections at c.end.ensures.counted;
      ascending = rw c.end.ensures.live (ascending-kept (λ l. not (l.ticket == ticket)) before inv.ascending);
      known = rw c.end.ensures.live (list_all-filter (λ (l : Live). not (l.ticket == ticket)) (λ l. is_known l.conn c.args.connections.now.conns) before inv.known);
      live_capacity = c.end.ensures.capacity ∙ inv.live_capacity;
      effects = continued (Leave ticket c.args.unit ∷ []) inv.effects (leave_next tickets k 0 inside c.args.unit) c.put_leave.ensures.has;
      spent = omega (arith, ap length c.end.ensures.live, without_shorter ticket before there, inv.spent, c.put_leave.ensures.len);
      capacity = c.put_leave.ensures.capacity ∙ inv.capacity;
    }
