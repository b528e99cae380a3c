use Rattle.std.proofs.Common.{◌≡◌, ◌+◌, ℕ, take, get_or, set, true, ap, sym, subst, ◌∙◌, arith}
use Rattle.iscsi_slots.specs.Queued.{Queued}
use Rattle.iscsi_slots.proofs.SlotLemmas.{times_at}
use Rattle.iscsi_commands.specs.Log.{AreTagged, tag_at, group_of}
use Rattle.iscsi_commands.proofs.TagIndexLemmas.{entered_other, other_before, sorted_before}
use Rattle.iscsi_commands.proofs.tag_index.TagIndex.enter_apart.Goals as goal

pub count_below-place-requires-clause-within : goal.count_below-place-requires-clause-within
count_below-place-requires-clause-within c = λ i l.
    let here = other_before c.args.log.now c.args.k c.requires.tagged c.requires.place c.requires.live (get_or c.args.self.now.others.items i 0) (times_at c.args.self.now.others.items i l) in
    let place = c.requires.place in
    omega (arith, here, place)

pub count_below-place-requires-clause-sorted : goal.count_below-place-requires-clause-sorted
count_below-place-requires-clause-sorted c = sorted_before c.args.log.now c.args.k c.requires.tagged c.requires.place c.requires.live

pub returns-clause-tagged : goal.returns-clause-tagged
returns-clause-tagged c =
    let found = c.count_below-place.ensures in
    let tag : c.entry_at.result.now.command.itt ≡ tag_at c.args.log.now c.args.k = ap (λ e. e.command.itt) c.entry_at.ensures in
    let group : c.group_of-group.result ≡ group_of (tag_at c.args.log.now c.args.k) = c.group_of-group.ensures ∙ ap group_of tag in
    subst (λ (o : Queued ℕ). AreTagged (take (c.args.k + 1) c.args.log.now) c.args.self.now.places.items (set c.args.self.now.crowded.items c.group_of-group.result true) o.items) (sym c.insert.ensures)
    (entered_other c.args.log.now c.args.k c.requires.tagged c.requires.place c.requires.live c.count_below-place.result c.group_of-group.result group found.within c.requires.taken
    (λ i l. let b = found.below i l in omega (arith, b, tag))
    (λ i from l. let a = found.above i from l in omega (arith, a, tag))
    c.requires.unused)
