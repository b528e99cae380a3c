use Rattle.std.proofs.Common.{◌≡◌, ℕ, ◌+◌, ◌-◌, length, map, refl, ap, sym, subst, ◌∙◌, arith}
use Rattle.iscsi_lists.specs.Lists.{Listed, with_last, without}
use Rattle.iscsi_waiting.specs.Counting.{with_one}
use Rattle.iscsi_waiting.specs.Kept.{BLANK, GoesTo, kind_in, place_in, place_of, queues_of}
use Rattle.iscsi_waiting.proofs.EnterLemmas.{all_has_place, conn_has_place, counted_here, entered_kept, entered_state, free_high, free_low, kept_alike, kind_small, place_within}
use Rattle.iscsi_waiting.proofs.MarkLemmas.{all_in, moved_long}
use Rattle.iscsi_waiting.proofs.slots.Slots.enter.Goals as goal

pub move_owned-requires-clause-slot : goal.move_owned-requires-clause-slot
move_owned-requires-clause-slot c =
    let s = c.args.self.now in let slot = c.push_back-slot in
    all_in BLANK place_in s.waiting s.owned c.requires.kept.commands c.known-2.ensures.apart slot.result
    (free_low s.waiting c.known.ensures.apart slot.result slot.ensures.slot) (free_high s.waiting c.known.ensures.apart slot.result slot.ensures.slot)

pub move_to_back-requires-clause-slot : goal.move_to_back-requires-clause-slot
move_to_back-requires-clause-slot c =
    let s = c.args.self.now in let slot = c.push_back-slot in
    all_in BLANK kind_in s.waiting s.fence c.requires.kept.fences c.known-3.ensures.apart slot.result
    (free_low s.waiting c.known.ensures.apart slot.result slot.ensures.slot) (free_high s.waiting c.known.ensures.apart slot.result slot.ensures.slot)

pub count_in-requires-clause-one : goal.count_in-requires-clause-one
count_in-requires-clause-one c =
    let s = c.args.self.now in let short = c.known.ensures.short in
    conn_has_place s.waiting s.owned s.fence s.counts.items s.all s.time c.requires.kept c.known.ensures.apart (omega (arith, short)) c.args.conn c.requires.conn c.index_mut.result.now c.index_mut.ensures.value

pub count_in-requires-clause-all : goal.count_in-requires-clause-all
count_in-requires-clause-all c =
    let s = c.args.self.now in let short = c.known.ensures.short in
    all_has_place s.waiting s.owned s.fence s.counts.items s.all s.time c.requires.kept c.known.ensures.apart (omega (arith, short))

pub returns-clause-kept : goal.returns-clause-kept
returns-clause-kept c =
    let s = c.args.self.now in let slot = c.push_back-slot in
    let high = free_high s.waiting c.known.ensures.apart slot.result slot.ensures.slot in let long = c.known.ensures.values in
    let kinds = c.requires.kept.kinds in let small = kind_small c.args.item in
    let goes : GoesTo s.owned c.move_owned.new.owned (place_of c.args.item) slot.result = subst (λ n. GoesTo s.owned c.move_owned.new.owned n slot.result) c.place_of.ensures c.move_owned.ensures in
    kept_alike slot.new.self s.owned c.move_owned.new.owned c.move_to_back.new.self _ _ _ (place_of c.args.item) slot.result goes
    (entered_kept s.waiting s.owned s.fence s.counts.items s.all s.time c.requires.kept c.args.conn slot.result c.args.item c.requires.conn slot.new.self slot.ensures.state slot.ensures.fresh
    (omega (arith, high, long)) (record s.owned { lists = with_last (place_of c.args.item) slot.result (map (without slot.result) s.owned.lists) }) c.move_to_back.new.self
    refl
    (c.move_to_back.ensures.state ∙ ap (λ (n : ℕ). record s.fence { lists = with_last n slot.result (map (without slot.result) s.fence.lists) }) c.kind_of.ensures)
    (place_within c.args.item.command (length s.owned.lists) c.requires.kept.commands.some c.requires.command) (omega (arith, kinds, small))
    c.count_in.new.one c.count_in.new.all (record { past = omega arith; command = c.requires.command; fence = c.requires.fence })
    (c.count_in.ensures.one ∙ ap (with_one c.args.item) (counted_here s.waiting s.owned s.fence s.counts.items s.all s.time c.requires.kept c.args.conn c.requires.conn c.index_mut.result.now c.index_mut.ensures.value))
    c.count_in.ensures.all)

pub returns-clause-state : goal.returns-clause-state
returns-clause-state c =
    let s = c.args.self.now in let slot = c.push_back-slot in
    let high = free_high s.waiting c.known.ensures.apart slot.result slot.ensures.slot in let long = c.known.ensures.values in
    let kinds = c.requires.kept.kinds in let small = kind_small c.args.item in
    let target : Listed ℕ = record s.owned { lists = with_last (place_of c.args.item) slot.result (map (without slot.result) s.owned.lists) } in
    let lists : length c.move_owned.new.owned.lists ≡ length target.lists = c.move_owned.ensures.long ∙ sym (moved_long s.owned target (place_of c.args.item) slot.result refl) in
    entered_state s.waiting s.owned s.fence s.counts.items s.all s.time c.requires.kept c.args.conn slot.result c.args.item c.requires.conn slot.new.self slot.ensures.state slot.ensures.fresh
    (omega (arith, high, long)) target c.move_to_back.new.self
    refl
    (c.move_to_back.ensures.state ∙ ap (λ (n : ℕ). record s.fence { lists = with_last n slot.result (map (without slot.result) s.fence.lists) }) c.kind_of.ensures)
    (place_within c.args.item.command (length s.owned.lists) c.requires.kept.commands.some c.requires.command) (omega (arith, kinds, small))
    _ (ap (λ (n : ℕ). record { queues = queues_of slot.new.self; time = s.time + 1; commands = n - 1; room = slot.new.self.room }) lists)
