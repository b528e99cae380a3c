use Rattle.std.proofs.Common.{◌≡◌, ◌-◌, List, length, set, vec_capacity, sym, subst, arith}
use Rattle.std.proofs.lemmas.Bool.Decides.{nat_tests}
use Rattle.iscsi_commands.specs.declared.entry.Entry.{Entry}
use Rattle.iscsi_commands.specs.Log.{AreTagged, AreLogged, IsLiveAt, ended, entry_at, ticket_of}
use Rattle.iscsi_commands.proofs.LogLemmas.{one_fewer, ticket_leaves, no_ticket_leaves, logged_without}
use Rattle.iscsi_commands.proofs.live_commands.LiveCommands.remove_sought.Goals as goal

pub overflow_sub-self : goal.overflow_sub-self
overflow_sub-self c =
    let found = subst (λ (log : List Entry). IsLiveAt log c.in-Some.k × (ticket_of (entry_at log c.in-Some.k) ≡ c.args.ticket)) c.deref.ensures.value c.in-Some.ensures in
    let fewer = one_fewer c.self.inside.log.items c.in-Some.k found.0 in
    let counted = c.self.invariant.counted in
    omega (arith, fewer, counted)

pub invariant_of-self : goal.invariant_of-self
invariant_of-self c =
    let log = c.self.inside.log.items in
    let k = c.in-Some.k in
    let found = subst (λ (log : List Entry). IsLiveAt log c.in-Some.k × (ticket_of (entry_at log c.in-Some.k) ≡ c.args.ticket)) c.deref.ensures.value c.in-Some.ensures in
    let tagged = subst (λ (log : List Entry). AreTagged (set log k (ended (entry_at log k))) c.leave.new.self.places.items c.leave.new.self.crowded.items c.leave.new.self.others.items) c.deref-in-Some.ensures.value c.leave.ensures.tagged in
    subst (λ (l : List Entry). AreLogged l (vec_capacity c.end.new.log) (c.self.inside.live - 1) c.self.inside.room (length c.self.inside.hints.items) c.leave.new.self.places.items c.leave.new.self.crowded.items c.leave.new.self.others.items c.leave.new.self.others.room) (sym c.end.ensures.log)
    (subst (λ n. AreLogged (set log k (ended (entry_at log k))) n (c.self.inside.live - 1) c.self.inside.room (length c.self.inside.hints.items) c.leave.new.self.places.items c.leave.new.self.crowded.items c.leave.new.self.others.items c.leave.new.self.others.room) (sym c.end.ensures.capacity)
    (subst (λ n. AreLogged (set log k (ended (entry_at log k))) (vec_capacity c.self.inside.log) (c.self.inside.live - 1) c.self.inside.room (length c.self.inside.hints.items) c.leave.new.self.places.items c.leave.new.self.crowded.items c.leave.new.self.others.items n) (sym c.leave.ensures.room)
    (logged_without c.self.invariant c.args.ticket k found.0 found.1 tagged)))

pub returns-in-Some : goal.returns-in-Some
returns-in-Some c = grind (arith, nat_tests, ticket_leaves)

pub returns-in_default : goal.returns-in_default
returns-in_default c = grind (arith, nat_tests, no_ticket_leaves)
