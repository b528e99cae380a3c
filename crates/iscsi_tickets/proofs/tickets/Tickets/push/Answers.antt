use Rattle.std.proofs.Common.{◌≤◌, ◌<◌, ◌*◌, List, length, vec_capacity, ap, sym, subst, ◌∙◌, arith}
use Rattle.iscsi_tickets.specs.declared.kept.Kept.{Kept}
use Rattle.iscsi_tickets.specs.Tickets.{AreLogged, Known, live_in}
use Rattle.iscsi_tickets.proofs.LogLemmas.{logged_with}
use Rattle.iscsi_tickets.proofs.tickets.Tickets.push.Goals as goal

pub invariant_of-self : goal.invariant_of-self
invariant_of-self c =
    let way = c.make_way in
    let kept = c.self.invariant in
    let log = way.new.log.items in
    let capacity = vec_capacity c.push_reserved.new.self in
    let lives = way.ensures.same ∙ ap (λ (v : Known). v.entries) c.self.view_is in
    let room = ap (λ (v : Known). v.room) c.self.view_is in
    let last = ap (λ (v : Known). v.last) c.self.view_is in
    let few : length (live_in log) < c.self.inside.room = let a = ap length lives in let b = c.requires.room in omega (arith, a, b, room) in
    let roomy : 2 * c.self.inside.room ≤ capacity =
    let a = kept.has_room in let b = way.ensures.capacity in let d = c.push_reserved.ensures.capacity in omega (arith, a, b, d) in
    let newer : c.self.inside.last < c.args.ticket = let a = c.requires.newest in omega (arith, a, last) in
    subst (λ (l : List Kept). AreLogged l capacity way.new.ended c.args.ticket c.self.inside.room) (sym c.push_reserved.ensures.items)
    (logged_with log c.args.ticket c.args.value way.ensures.ascending (way.ensures.newest c.self.inside.last kept.newest) way.ensures.counted few
    way.ensures.long roomy kept.short newer)
