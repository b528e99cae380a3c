use Rattle.iscsi_session.proofs.Names.{◌≡◌, ◌∙◌, ◌<◌, ◌++◌, length, take, drop, get_or, set, ap, sym, arith, opened, ungiven_in, owed, set_staying, covered_tickets, covers_by, staying, finished_by, Core}
use Rattle.iscsi_session.proofs.KeptLemmas.{ungiven_in-staying, covered_live, without_covered}
use Rattle.iscsi_session.proofs.SoundLemmas.{sets_written, left_sound}
use Rattle.iscsi_session.proofs.session.Session.leave.Goals.{After-deref_mut, After-deref}
use Rattle.iscsi_session.proofs.session.Session.leave.Given.{Over}
use Rattle.iscsi_session.proofs.session.Session.leave.Goals as goal

inside : (over : Over) (c : After-deref_mut over) → c.args.unit < length c.self.inside.sets.items
inside over c = rw (← c.self.view_is) at c.requires.unit

-- the tickets are those of the covered commands of the unit
tickets_are : (over : Over) (c : After-deref over) → c.deref.result.now ≡ covered_tickets (covers_by c.args.leaving.now) (get_or c.self.inside.sets.items c.args.unit (opened 0)).list
tickets_are over c = c.deref.ensures.value ∙ rw c.deref_mut.ensures.value at c.dequeue.ensures.left

-- the sets, once the set of the unit was written
sets_are : (over : Over) (c : After-deref over) → take c.self.inside.sets.len (c.dequeue.new.sets ++ drop (length c.dequeue.new.sets) c.self.inside.sets.items)
    ≡ set c.self.inside.sets.items c.args.unit (set_staying (covers_by c.args.leaving.now) (get_or c.self.inside.sets.items c.args.unit (opened 0)))
sets_are over c = sets_written c.args.unit c.self.inside.sets.len (covers_by c.args.leaving.now) c.self.inside.sets.items c.dequeue.new.sets c.self.inside.sets.ok.0 (rw c.deref_mut.ensures.value at c.dequeue.ensures.sets)

pub end_all-requires-clause-there : goal.end_all-requires-clause-there
end_all-requires-clause-there over c =
    let within = inside over (goal.at.end_all-requires-clause-there over c).After-deref_mut in
    rw (tickets_are over (goal.at.end_all-requires-clause-there over c).After-deref)
    (covered_live (get_or c.self.inside.sets.items c.args.unit (opened 0)) (covers_by c.args.leaving.now) c.args.unit c.self.inside.live.items (c.self.invariant.commands.in_sets c.args.unit within))

live_are : (over : Over) (c : goal.After-end_all over) → c.end_all.new.live.items ≡ staying (covers_by c.args.leaving.now) (get_or c.self.inside.sets.items c.args.unit (opened 0)) c.self.inside.live.items
live_are over c = c.end_all.ensures.live ∙ rw (tickets_are over (goal.at.returns over c).After-deref) (without_covered (get_or c.self.inside.sets.items c.args.unit (opened 0)) (covers_by c.args.leaving.now) c.self.inside.live.items)

window_is : (over : Over) (c : goal.After-end_all over) → c.end_all.new.window ≡ finished_by c.self.inside.window c.self.inside.live.items (staying (covers_by c.args.leaving.now) (get_or c.self.inside.sets.items c.args.unit (opened 0)) c.self.inside.live.items)
window_is over c = c.end_all.ensures.window ∙ ap (finished_by c.self.inside.window c.self.inside.live.items) (sym c.end_all.ensures.live ∙ live_are over c)

pub invariant_of-self : goal.invariant_of-self
invariant_of-self over c =
    let d = (goal.at.invariant_of-self over c).After-deref in
    rw (c.end_all.ensures.connections, c.end_all.ensures.live_capacity, c.dequeue.ensures.capacity, window_is over c, live_are over c, sets_are over d)
    (left_sound c.self.invariant c.args.unit (covers_by c.args.leaving.now) (inside over (goal.at.invariant_of-self over c).After-deref_mut) (rw (live_are over c) at c.end_all.ensures.counted))

pub returns : goal.returns
returns over c =
    let i = c.self.inside in
    let covers = covers_by c.args.leaving.now in
    let d = (goal.at.returns over c).After-deref in
    record {
      done = record { core = rw (← c.self.view_is, c.end_all.ensures.connections, window_is over c, live_are over c, sets_are over d); effects = rw (← c.self.view_is) (rw (tickets_are over d) at c.end_all.ensures.effects); room = c.end_all.ensures.capacity };
      spent = omega (arith, c.end_all.ensures.spent, ap ungiven_in (sets_are over d), ungiven_in-staying i.sets.items c.args.unit covers (inside over (goal.at.returns over c).After-deref_mut), ap (λ (x : Core). owed x.live x.sets) c.self.view_is);
    }
