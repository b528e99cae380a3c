use Rattle.iscsi_session.proofs.Names.{subst, ◌≡◌, ◌∙◌, ◌+◌, ◌≤◌, ◌<◌, ◌++◌, true, Some, List, length, get_or, set, take, drop, ap, sym, arith, length-set, ◌==◌, ◌&&◌, nat_le, nat_lt, ℕ, ltb-true, Members, opened, Live, Core, find_ticket, Located, option_map, without_ticket, enabled_in, staying, finished_by, covers_ticket, set_staying, has_covered, ungiven_in, owed, and_second, find-passes, fewer}
use Rattle.iscsi_session.proofs.KeptLemmas.{found_ticket, enabled_found, enabled_covered, ungiven_in-staying, rises, one_live, one_leaves}
use Rattle.iscsi_session.proofs.SoundLemmas.{sets_written, left_sound}
use Rattle.iscsi_session.proofs.session.Session.leave_enabled.Given.{Over}
use Rattle.iscsi_session.proofs.session.Session.leave_enabled.Goals as goal
use Rattle.iscsi_session.proofs.session.Session.leave_enabled.Goals.{In-Some, After-end_command}

-- the command that leaves, as the session keeps it
record Found (sets : List Members) (lives : List Live) (l : Live) : Type 0 where
  found : find_ticket l.ticket lives ≡ Some l
  inside : l.unit < length sets
  covered : has_covered (covers_ticket l.ticket) (get_or sets l.unit (opened 0)) ≡ true
  left : length (without_ticket l.ticket lives) + 1 ≤ length lives

-- it is the one that is looked for
found_it : (over : Over) (c : In-Some over) → enabled_in c.self.inside.sets.items c.self.inside.live.items c.args.ticket ≡ Some c.in-Some.located.command
found_it over c = sym (rw c.deref_mut.ensures.value at c.take_enabled.ensures.command) ∙ ap (option_map (λ (p : Located). p.command)) c.in-Some.is

command : (over : Over) (c : In-Some over) → Found c.self.inside.sets.items c.self.inside.live.items c.in-Some.located.command
command over c =
    let l : Live = c.in-Some.located.command in
    let lives : List Live = c.self.inside.live.items in
    let sets : List Members = c.self.inside.sets.items in
    let k : ℕ = c.args.ticket in
    let there = enabled_found sets k (find_ticket k lives) l (found_it over c) in
    let named = found_ticket k lives l there in
    let here : find_ticket l.ticket lives ≡ Some l = ap (λ n. find_ticket n lives) named ∙ there in
    let test : nat_lt l.unit (length sets) ≡ true = and_second _ _ (find-passes (λ (x : Live). x.ticket == k) (λ (x : Live). nat_le x.ticket c.self.inside.entered && nat_lt x.unit (length sets)) lives l c.self.invariant.commands.within there) in
    record {
      found = here;
      inside = ltb-true l.unit (length sets) test;
      covered = rw named (enabled_covered sets k (find_ticket k lives) l (found_it over c));
      left = fewer (λ (x : Live). x.ticket == l.ticket) lives l here;
    }

-- the sets, once the set of the unit was written
sets_are : (over : Over) (c : In-Some over) → take c.self.inside.sets.len (c.take_enabled.new.sets ++ drop (length c.take_enabled.new.sets) c.self.inside.sets.items) ≡ set c.self.inside.sets.items c.in-Some.located.command.unit (set_staying (covers_ticket c.in-Some.located.command.ticket) (get_or c.self.inside.sets.items c.in-Some.located.command.unit (opened 0)))
sets_are over c = sets_written c.in-Some.located.command.unit c.self.inside.sets.len (covers_ticket c.in-Some.located.command.ticket) c.self.inside.sets.items c.take_enabled.new.sets c.self.inside.sets.ok.0 (rw (c.in-Some.is, c.deref_mut.ensures.value) at c.take_enabled.ensures.sets)

live_are : (over : Over) (c : After-end_command over) → (f : Found c.self.inside.sets.items c.self.inside.live.items c.in-Some.located.command) → c.end_command.new.live.items ≡ staying (covers_ticket c.in-Some.located.command.ticket) (get_or c.self.inside.sets.items c.in-Some.located.command.unit (opened 0)) c.self.inside.live.items
live_are over c f = c.end_command.ensures.live ∙ rw f.covered at (one_live c.in-Some.located.command.ticket (get_or c.self.inside.sets.items c.in-Some.located.command.unit (opened 0)) c.self.inside.live.items)

window_is : (over : Over) (c : After-end_command over) → (f : Found c.self.inside.sets.items c.self.inside.live.items c.in-Some.located.command) → c.end_command.new.window ≡ finished_by c.self.inside.window c.self.inside.live.items (staying (covers_ticket c.in-Some.located.command.ticket) (get_or c.self.inside.sets.items c.in-Some.located.command.unit (opened 0)) c.self.inside.live.items)
window_is over c f = c.end_command.ensures.window ∙ ap (finished_by c.self.inside.window c.self.inside.live.items) (sym c.end_command.ensures.live ∙ live_are over c f)

pub invariant_of-self-2 : goal.invariant_of-self-2
invariant_of-self-2 over c =
    let e = (goal.at.invariant_of-self-2 over c).In-Some in
    let a = (goal.at.invariant_of-self-2 over c).After-end_command in
    let l : Live = c.in-Some.located.command in
    let f = command over e in
    rw (c.end_command.ensures.connections, c.end_command.ensures.capacity, window_is over a f, live_are over a f, sets_are over e) (left_sound c.self.invariant l.unit (covers_ticket l.ticket) f.inside (rw (live_are over a f) at c.end_command.ensures.counted))

pub returns : goal.returns
returns over c =
    let i = c.self.inside in
    let l : Live = c.in-Some.located.command in
    let e = (goal.at.returns over c).In-Some in
    let a = (goal.at.returns over c).After-end_command in
    let f = command over e in
    let set : Members = get_or i.sets.items l.unit (opened 0) in
    let up = rises i.sets.items i.live.items l.unit (covers_ticket l.ticket) f.inside c.self.invariant.commands.in_sets c.self.invariant.commands.ascending in
    record {
      command = rw (← c.self.view_is) (sym (found_it over e));
      unit = rw (sets_are over e, length-set) f.inside;
      done = record {
        core = rw (← c.self.view_is, c.end_command.ensures.connections, window_is over a f, live_are over a f, sets_are over e);
        effects = λ text es was. rw (← c.self.view_is) (subst (λ more. over.S.EffectSink.has c.put_leave.new.self text (es ++ more)) (rw f.covered at (one_leaves l.ticket l.unit set.list up)) (c.put_leave.ensures.has text es was));
        room = c.put_leave.ensures.capacity;
      };
      spent = omega (arith, f.left, c.put_leave.ensures.len, ap length c.end_command.ensures.live, ap ungiven_in (sets_are over e), ungiven_in-staying i.sets.items l.unit (covers_ticket l.ticket) f.inside, ap (λ (x : Core). owed x.live x.sets) c.self.view_is);
    }
