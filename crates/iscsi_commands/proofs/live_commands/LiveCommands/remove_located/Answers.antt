use Rattle.std.proofs.Common.{◌≡◌, List, set, refl, subst, arith}
use Rattle.std.proofs.lemmas.Bool.Decides.{nat_tests}
use Rattle.iscsi_commands.specs.declared.entry.Entry.{Entry}
use Rattle.iscsi_commands.specs.Log.{AreTagged, IsLiveAt, ended, entry_at, ticket_of}
use Rattle.iscsi_commands.proofs.LogLemmas.{one_fewer, ticket_leaves, logged_without}
use Rattle.iscsi_commands.proofs.live_commands.LiveCommands.remove_located.Goals as goal

pub overflow_sub-self : goal.overflow_sub-self
overflow_sub-self c =
    let found = subst (λ (log : List Entry). IsLiveAt log c.args.place × (ticket_of (entry_at log c.args.place) ≡ c.args.ticket)) c.deref.ensures.value (c.if-not-is_live_at.ensures refl) in
    omega (arith, one_fewer c.self.inside.log.items c.args.place found.0, c.self.invariant.counted)

pub invariant_of-self : goal.invariant_of-self
invariant_of-self c =
    let log = c.self.inside.log.items in
    let k = c.args.place in
    let found = subst (λ (log : List Entry). IsLiveAt log k × (ticket_of (entry_at log k) ≡ c.args.ticket)) c.deref.ensures.value (c.if-not-is_live_at.ensures refl) in
    let tagged = subst (λ (log : List Entry). AreTagged (set log k (ended (entry_at log k))) c.leave.new.self.places.items c.leave.new.self.crowded.items c.leave.new.self.others.items) c.deref-2.ensures.value c.leave.ensures.tagged in
    rw (c.end.ensures.log, c.end.ensures.capacity, c.leave.ensures.room) (logged_without c.self.invariant c.args.ticket k found.0 found.1 tagged)

pub returns : goal.returns
returns c =
    let k = c.args.place in
    let found = subst (λ (log : List Entry). IsLiveAt log k × (ticket_of (entry_at log k) ≡ c.args.ticket)) c.deref.ensures.value (c.if-not-is_live_at.ensures refl) in
    grind (arith, nat_tests, ticket_leaves, found)
