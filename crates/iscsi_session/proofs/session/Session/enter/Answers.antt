use Rattle.iscsi_session.proofs.Names.{rules, w64, refl, ◌≡◌, ◌∙◌, ◌<◌, ◌≤◌, not, cond, ap, sym, false, arith, length, ◌+◌, ℕ, List, [], ◌∷◌, get_or, set, take, drop, ◌++◌, length-set, append_assoc, leb-false, nat_tests, Queued, written, to_z-of_z, Request, is_immediate, Arrived, Members, opened, entered_to, given_by, Live, Core, IsWindowSound, new_live, new_task, started}
use Rattle.iscsi_session.proofs.KeptLemmas.{AreCounted-entered, room_for_one, Match-entered, roomy_set, few_in}
use Rattle.iscsi_session.proofs.SoundLemmas.{places_sound, commands_sound, entered_sound}
use Rattle.iscsi_session.proofs.session.Session.enter.Given.{Over}
use Rattle.iscsi_session.proofs.session.Session.enter.Goals as goal
use Rattle.iscsi_session.proofs.session.Session.enter.Goals.{After-deref_mut, After-enter-slot, After-push}

-- the window, once the command began: a place of it is left
started_parts : (w v : Arrived) (r : Request) → v ≡ started w r → w.unfinished ≤ length w.places → (is_immediate r ≡ false → w.unfinished < length w.places)
    → (v.turned ≡ w.turned) × ((v.places ≡ w.places) × ((v.unfinished ≡ w.unfinished + cond (not (is_immediate r)) 1 0) × (v.unfinished ≤ length w.places)))
started_parts w v r is few space = grind arith

-- there is room for one command more
room_left : (over : Over) (c : After-deref_mut over) → length c.self.inside.live.items < c.self.inside.live.room
room_left over c =
    let inv = c.self.invariant in
    omega (
      arith,
      inv.live_fits,
      room_for_one c.self.inside.window.unfinished (length c.self.inside.window.places) c.self.inside.connections.conns c.self.inside.live.items (new_live c.args.self.now c.args.request.now c.args.unit)
          inv.commands.numbered inv.window.fits inv.commands.counted.few inv.commands.known (rw (← c.self.view_is) at c.requires.known) (λ is. (rw (← c.self.view_is) at (c.requires.space is)).not_full) (rw (← c.self.view_is) at c.requires.few),
    )

pub enter-slot-requires-clause-not_full : goal.enter-slot-requires-clause-not_full
enter-slot-requires-clause-not_full over c =
    let sets : List Members = c.self.inside.sets.items in
    let inside : c.args.unit < length sets = omega (arith, c.requires.unit, ap (λ (s : Core). length s.sets) c.self.view_is) in
    let below : length (get_or sets c.args.unit (opened 0)).list < c.self.inside.depth = leb-false _ _ (rw (← c.self.view_is) at c.requires.not_full) in
    let few = few_in (get_or sets c.args.unit (opened 0)) c.args.unit c.self.inside.live.items (c.self.invariant.commands.in_sets c.args.unit inside) in
    rw c.deref_mut.ensures.value (c.self.invariant.sets c.args.unit (length (get_or sets c.args.unit (opened 0)).list) inside below (omega (arith, few, room_left over (goal.at.enter-slot-requires-clause-not_full over c).After-deref_mut)))

pub push-requires-clause-room : goal.push-requires-clause-room
push-requires-clause-room over c = room_left over (goal.at.push-requires-clause-room over c).After-deref_mut

-- the set of the unit has the task as the definitions say
sets_are : (over : Over) (c : After-enter-slot over) → c.enter-slot.new.sets ≡ set c.self.inside.sets.items c.args.unit (given_by (entered_to (get_or c.self.inside.sets.items c.args.unit (opened 0)) (new_task c.args.self.now c.args.request.now)))
sets_are over c =
    let position = to_z-of_z w64 c.args.pos (search rules) in
    c.enter-slot.ensures.sets
    ∙ rw (c.deref_mut.ensures.value, c.conn.ensures, c.itt.ensures, c.attr_of-attr.ensures, c.attr.ensures, c.immediate.ensures, position, c.requires.number, c.event-event.ensures, ap (λ (s : Core). s.entered) c.self.view_is)

-- and so they are written back
sets_now : (over : Over) (c : After-enter-slot over) → take c.self.inside.sets.len (c.enter-slot.new.sets ++ drop (length c.enter-slot.new.sets) c.self.inside.sets.items) ≡ c.enter-slot.new.sets
sets_now over c = written c.self.inside.sets.len c.enter-slot.new.sets c.self.inside.sets.items (ap length (sets_are over c) ∙ length-set c.self.inside.sets.items c.args.unit _) c.self.inside.sets.ok.0

-- the live commands are those of before and the new one
lives_are : (over : Over) (c : After-push over) → c.push.new.self.items ≡ c.self.inside.live.items ++ new_live c.args.self.now c.args.request.now c.args.unit ∷ []
lives_are over c = ap (λ (q : Queued Live). q.items) c.push.ensures ∙ rw (c.conn.ensures, c.itt.ensures, c.immediate.ensures, ap (λ (s : Core). s.entered) c.self.view_is)

pub invariant_of-self : goal.invariant_of-self
invariant_of-self over c =
    let inv = c.self.invariant in
    let e : After-enter-slot over = (goal.at.invariant_of-self over c).After-enter-slot in
    let p : After-push over = (goal.at.invariant_of-self over c).After-push in
    let r : Request = c.args.request.now in
    let l : Live = new_live c.args.self.now r c.args.unit in
    let old : List Members = c.self.inside.sets.items in
    let conns : List (ℕ × ℕ) = c.self.inside.connections.conns in
    let w = started_parts c.self.inside.window c.begin.new.window r c.begin.ensures.window inv.window.fits (λ no. (rw (← c.self.view_is) at (c.requires.space no)).not_full) in
    let inside : c.args.unit < length old = omega (arith, c.requires.unit, ap (λ (s : Core). length s.sets) c.self.view_is) in
    let next : l.ticket ≡ c.self.inside.entered + 1 = ap (λ (s : Core). s.entered + 1) (sym c.self.view_is) in
    let now = sets_now over e ∙ sets_are over e in
    let room = ap (λ (q : Queued Live). q.room) c.push.ensures in
    let long = ap length now ∙ length-set old c.args.unit _ in
    let commands = entered_sound inv.commands l (lives_are over p) next inside (rw (← c.self.view_is) at c.requires.known) (omega (arith, inv.commands.numbered, w.1.1.0)) long
    (rw now (Match-entered old c.self.inside.live.items l (new_task c.args.self.now r) inv.commands.in_sets inside refl))
    (AreCounted-entered c.self.inside.connections.immediate c.begin.new.connections.immediate conns c.self.inside.live.items l inv.commands.counted c.begin.ensures.long c.begin.ensures.counted (rw (← c.self.view_is) at c.requires.few)) in
    let window : IsWindowSound c.begin.new.window (c.self.inside.entered + 1) c.self.inside.taken conns = places_sound inv.window w.1.0 w.0 w.1.1.1 (omega (arith, rw (← c.self.view_is) at c.requires.counted)) in
    let more : c.self.inside.live.room ≤ c.push.new.self.room = omega (arith, room) in
    rw c.begin.ensures.connections (commands_sound inv window commands w.1.0 long (rw (now, room) (roomy_set _ _ old c.args.unit _ inside inv.sets refl)) more)

pub returns-clause-done : goal.returns-clause-done
returns-clause-done over c =
    let e : After-enter-slot over = (goal.at.returns-clause-done over c).After-enter-slot in
    let p : After-push over = (goal.at.returns-clause-done over c).After-push in
    let position = to_z-of_z w64 c.args.pos (search rules) in
    record {
      core = rw (sets_now over e, sets_are over e, lives_are over p, c.begin.ensures.connections, c.begin.ensures.window, ← c.self.view_is);
      effects = grind (arith, nat_tests, append_assoc);
      room = c.enter-slot.ensures.capacity ∙ c.put_enter.ensures.capacity;
    }
