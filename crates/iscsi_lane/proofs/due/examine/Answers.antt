use Rattle.std.proofs.Common.{◌≡◌, ◌∙◌, ◌<◌, ◌≤◌, ℕ, List, true, not, ap, sym, subst, length, get_or, arith}
use Rattle.std.proofs.lemmas.Bool.{false≢true}
use Rattle.iscsi_slots.specs.Places.{AreAscending}
use Rattle.iscsi_slots.specs.Slots.{times}
use Rattle.iscsi_slots.proofs.SlotLemmas.{times_at}
use Rattle.iscsi_lane.specs.Standings.{NOBODY, at, slots_at}
use Rattle.iscsi_lane.specs.Times.{has, is_cleared, time_of}
use Rattle.iscsi_lane.proofs.AfterLemmas.{due_there}
use Rattle.iscsi_lane.proofs.OrderLemmas.{comes, filter_few, not_yet, room_for, stays, up_filter}
use Rattle.iscsi_lane.proofs.due.examine.Goals as goal

pub at-requires : goal.at-requires
at-requires c = c.requires.within c.in-Some.slot (c.requires.stands c.in-Some.slot (due_there c.args.scopes.now c.args.key c.in-Some.slot (sym c.in-Some.ensures)))

pub place_of-k-requires-clause-slot : goal.place_of-k-requires-clause-slot
place_of-k-requires-clause-slot c =
    let there = c.requires.stands c.in-Some.slot (due_there c.args.scopes.now c.args.key c.in-Some.slot (sym c.in-Some.ensures)) in
    let a = c.requires.within c.in-Some.slot there in let b = c.requires.long in omega (arith, a, b)

pub place_of-k-requires-clause-within : goal.place_of-k-requires-clause-within
place_of-k-requires-clause-within c = subst (λ (d : List ℕ). (j : ℕ) → j < length d → get_or d j 0 < length c.args.stamps.now) (sym c.deref.ensures.value)
    (λ j l.
    let due = c.args.due.now.items in
    let order = slots_at c.args.log.now 2 in
    let x : ℕ = get_or due j 0 in
    let here = times_at due j l in
    let same = ap (times x) c.requires.order in
    let few = filter_few x (has due) order in
    let a = c.requires.within x (omega (arith, here, same, few)) in let b = c.requires.long in omega (arith, a, b))

pub place_of-k-requires-clause-up : goal.place_of-k-requires-clause-up
place_of-k-requires-clause-up c = subst (AreAscending (time_of c.args.stamps.now)) (sym c.deref.ensures.value)
    (subst (AreAscending (time_of c.args.stamps.now)) (sym c.requires.order) (up_filter c.args.stamps.now (has c.args.due.now.items) (slots_at c.args.log.now 2) c.requires.up))

pub returns-then-is_at-clause-due : goal.returns-then-is_at-clause-due
returns-then-is_at-clause-due c =
    let log = c.args.log.now in
    let due = c.args.due.now.items in
    let order = slots_at log 2 in
    let slot = c.in-Some.slot in
    let k = c.place_of-k.result in
    let there = c.requires.stands slot (due_there c.args.scopes.now c.args.key slot (sym c.in-Some.ensures)) in
    let cleared : is_cleared (at log.values slot) ≡ true = ap is_cleared (sym (c.at.ensures NOBODY) ∙ c.in-Undue.is) ∙ ap not c.if-answer.false in
    let within = subst (λ (d : List ℕ). k ≤ length d) c.deref.ensures.value c.place_of-k.ensures.within in
    let below = subst (λ (d : List ℕ). (j : ℕ) → j < k → time_of c.args.stamps.now (get_or d j 0) < time_of c.args.stamps.now slot) c.deref.ensures.value c.place_of-k.ensures.below in
    let above = subst (λ (d : List ℕ). (j : ℕ) → k ≤ j → j < length d → time_of c.args.stamps.now slot ≤ time_of c.args.stamps.now (get_or d j 0)) c.deref.ensures.value c.place_of-k.ensures.above in
    let yes = c.is_at.ensures.yes c.if-is_at.true in
    let l = subst (λ (d : List ℕ). k < length d) c.deref-2.ensures.value yes.0 in
    let is = subst (λ (d : List ℕ). get_or d k 0 ≡ slot) c.deref-2.ensures.value yes.1 in
    stays c.args.scopes.now c.args.key log.values order due c.requires.order slot (sym c.in-Some.ensures) cleared c.args.stamps.now c.requires.up there (c.requires.once slot) k within below above l is

pub insert_at-requires-clause-room : goal.insert_at-requires-clause-room
insert_at-requires-clause-room c =
    let log = c.args.log.now in
    let due = c.args.due.now.items in
    let order = slots_at log 2 in
    let slot = c.in-Some.slot in
    let k = c.place_of-k.result in
    let there = c.requires.stands slot (due_there c.args.scopes.now c.args.key slot (sym c.in-Some.ensures)) in
    let cleared : is_cleared (at log.values slot) ≡ true = ap is_cleared (sym (c.at.ensures NOBODY) ∙ c.in-Undue.is) ∙ ap not c.if-answer.false in
    let within = subst (λ (d : List ℕ). k ≤ length d) c.deref.ensures.value c.place_of-k.ensures.within in
    let below = subst (λ (d : List ℕ). (j : ℕ) → j < k → time_of c.args.stamps.now (get_or d j 0) < time_of c.args.stamps.now slot) c.deref.ensures.value c.place_of-k.ensures.below in
    let above = subst (λ (d : List ℕ). (j : ℕ) → k ≤ j → j < length d → time_of c.args.stamps.now slot ≤ time_of c.args.stamps.now (get_or d j 0)) c.deref.ensures.value c.place_of-k.ensures.above in
    let no = subst (λ (d : List ℕ). k < length d → get_or d k 0 ≡ slot → c.is_at.result ≡ true) c.deref-2.ensures.value c.is_at.ensures.no in
    let off = not_yet c.args.scopes.now c.args.key log.values order due c.requires.order slot (sym c.in-Some.ensures) cleared c.args.stamps.now c.requires.up there (c.requires.once slot) k within below above
    (λ l is. false≢true (sym c.if-is_at.false ∙ no l is)) in
    let fewer = room_for c.args.scopes.now c.args.key log.values order due c.requires.order slot (sym c.in-Some.ensures) cleared c.args.stamps.now c.requires.up there (c.requires.once slot) k within below above off in
    let room = c.requires.room in omega (arith, fewer, room)

pub returns-clause-due : goal.returns-clause-due
returns-clause-due c =
    let log = c.args.log.now in
    let due = c.args.due.now.items in
    let order = slots_at log 2 in
    let slot = c.in-Some.slot in
    let k = c.place_of-k.result in
    let there = c.requires.stands slot (due_there c.args.scopes.now c.args.key slot (sym c.in-Some.ensures)) in
    let cleared : is_cleared (at log.values slot) ≡ true = ap is_cleared (sym (c.at.ensures NOBODY) ∙ c.in-Undue.is) ∙ ap not c.if-answer.false in
    let within = subst (λ (d : List ℕ). k ≤ length d) c.deref.ensures.value c.place_of-k.ensures.within in
    let below = subst (λ (d : List ℕ). (j : ℕ) → j < k → time_of c.args.stamps.now (get_or d j 0) < time_of c.args.stamps.now slot) c.deref.ensures.value c.place_of-k.ensures.below in
    let above = subst (λ (d : List ℕ). (j : ℕ) → k ≤ j → j < length d → time_of c.args.stamps.now slot ≤ time_of c.args.stamps.now (get_or d j 0)) c.deref.ensures.value c.place_of-k.ensures.above in
    let no = subst (λ (d : List ℕ). k < length d → get_or d k 0 ≡ slot → c.is_at.result ≡ true) c.deref-2.ensures.value c.is_at.ensures.no in
    let off = not_yet c.args.scopes.now c.args.key log.values order due c.requires.order slot (sym c.in-Some.ensures) cleared c.args.stamps.now c.requires.up there (c.requires.once slot) k within below above
    (λ l is. false≢true (sym c.if-is_at.false ∙ no l is)) in
    c.insert_at.ensures.due
    ∙ comes c.args.scopes.now c.args.key log.values order due c.requires.order slot (sym c.in-Some.ensures) cleared c.args.stamps.now c.requires.up there (c.requires.once slot) k within below above off
