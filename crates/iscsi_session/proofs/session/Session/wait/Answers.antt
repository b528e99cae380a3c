use Rattle.iscsi_session.proofs.Names.{◌≡◌, ◌<◌, ◌+◌, ◌-◌, nat_lt, true, refl, ap, arith, nat_tests, list_all-append, Queued, Waiting, Fits, Wait, the_view}
use Rattle.iscsi_session.proofs.SoundLemmas.{Waits, waits_more, functions_sound}
use Rattle.iscsi_session.proofs.session.Session.wait.Given.{Over}
use Rattle.iscsi_session.proofs.session.Session.wait.Goals as goal
use Rattle.iscsi_session.proofs.session.Session.wait.Goals.{After-exp}

waits_later : (over : Over) (c : After-exp over) → Fits (the_view c.self.inside) c.args.request.now Wait
waits_later over c = rw (← c.self.view_is) at c.requires.later

-- one function more waits
waits_one : (over : Over) (c : After-exp over) (w : Waiting) → w.request ≡ c.args.request.now → Waits c.self.inside.connections.conns c.self.inside.waiting.items w
waits_one over c w is =
    let functions = c.self.invariant.functions in
    waits_more c.self.inside.connections.conns c.self.inside.waiting.items w functions.few functions.known (rw is (rw (← c.self.view_is) at c.requires.known)) (rw is (waits_later over c).2)

pub push-requires-clause-room : goal.push-requires-clause-room
push-requires-clause-room over c =
    let w = waits_one over (goal.at.push-requires-clause-room over c).After-exp (record { request = c.args.request.now; turn = 0; event = 0 }) refl in
    omega (arith, w.room, c.self.invariant.waiting_fits)

pub invariant_of-self : goal.invariant_of-self
invariant_of-self over c =
    let inv = c.self.invariant in
    let here = (goal.at.invariant_of-self over c).After-exp in
    let w = waits_one over here (record { request = c.args.request.now; turn = c.turned.result + c.from.result; event = c.self.inside.taken - 1 }) refl in
    let items = ap (λ (q : Queued Waiting). q.items) c.push.ensures in
    let some : 0 < c.self.inside.taken = rw (← c.self.view_is) at c.requires.taken in
    let before : nat_lt (c.self.inside.taken - 1) c.self.inside.taken ≡ true = grind (arith, nat_tests) in
    functions_sound inv (record {
      before = rw (items, list_all-append, inv.functions.before, before);
      known = rw items w.known;
      may = rw (items, list_all-append, inv.functions.may, (waits_later over here).0);
      few = λ cid. rw items (w.few cid);
    }) (omega (arith, ap (λ (q : Queued Waiting). q.room) c.push.ensures))
