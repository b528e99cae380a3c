use Rattle.std.proofs.Common.{◌+◌, ◌∙◌, ℕ, List, set, ◌++◌, ◌∷◌, [], cond, filter, length, map, refl, ap, sym, subst, arith}
use Rattle.std.proofs.lemmas.List.{length-append, length-set}
use Rattle.iscsi_outbox_state.specs.declared.lane.Standing.TheVariants.{Undue as IsUndue}
use Rattle.iscsi_lists.specs.Lists.{with_last, without}
use Rattle.iscsi_lane.specs.Scoping.{untold_at}
use Rattle.iscsi_lane.specs.Hints.{AreHints}
use Rattle.iscsi_lane.specs.Standings.{slots_at}
use Rattle.iscsi_lane.specs.Times.{AllUnder, IsUp}
use Rattle.iscsi_lane.proofs.HintLemmas.{hints_join}
use Rattle.iscsi_lane.proofs.LiningLemmas.{joined_order, joined_room, joined_untold}
use Rattle.iscsi_lane.proofs.OrderLemmas.{filter_long}
use Rattle.iscsi_lane.proofs.StampLemmas.{few_at}
use Rattle.iscsi_lane.proofs.lines.Lines.join.Goals as goal

pub add_if-requires : goal.add_if-requires
add_if-requires c =
    let log = c.args.log.now in
    let p = record log { lists = with_last 2 c.args.slot (map (without c.args.slot) log.lists) } in
    let order = joined_order log p c.join.new.log c.args.slot (IsUndue c.args.answer) refl c.join.ensures.log c.requires.lists c.requires.none in
    let room = joined_room log p c.join.new.log c.args.slot (IsUndue c.args.answer) refl c.join.ensures.log c.requires.lists c.requires.none in
    let a = few_at c.join.new.log c.known-2.ensures.apart 2 in let b = ap length order in let d = length-append (slots_at log 2) (c.args.slot ∷ []) in
    let e = filter_long (untold_at log.values) (slots_at log 2) in let f = ap length c.requires.lined.of_untold in let g = c.requires.lined.untold_room in
    omega (arith, a, b, d, e, f, g, room)

pub returns-clause-lined : goal.returns-clause-lined
returns-clause-lined c =
    let log = c.args.log.now in
    let p = record log { lists = with_last 2 c.args.slot (map (without c.args.slot) log.lists) } in
    let order = joined_order log p c.join.new.log c.args.slot (IsUndue c.args.answer) refl c.join.ensures.log c.requires.lists c.requires.none in
    let room = joined_room log p c.join.new.log c.args.slot (IsUndue c.args.answer) refl c.join.ensures.log c.requires.lists c.requires.none in
    let joins = joined_untold log p c.join.new.log c.args.slot (IsUndue c.args.answer) refl c.join.ensures.log c.requires.lists c.requires.none (let a = c.requires.within in let b = c.known.ensures.values in omega (arith, a, b)) in
    record {
      following = c.join.ensures.follows;
      up = subst (IsUp c.stamp-self.new.stamps.items) (sym order) c.stamp-self.ensures.up;
      under = subst (AllUnder c.stamp-self.new.stamps.items c.stamp-self.result) (sym order) c.stamp-self.ensures.under;
      long = c.stamp-self.ensures.long ∙ ap (λ n. n + 1) (sym room);
      of_untold = c.add_if.ensures.slots
          ∙ ap (λ r. r ++ cond c.is_untold.result (c.args.slot ∷ []) []) c.requires.lined.of_untold
          ∙ ap (λ b. filter (untold_at log.values) (slots_at log 2) ++ cond b (c.args.slot ∷ []) []) c.is_untold.ensures ∙ sym joins;
      untold_room = let a = c.requires.lined.untold_room in let b = c.add_if.ensures.capacity in omega (arith, a, b, room);
      holders = length-set c.args.self.now.holders.items c.args.slot 0 ∙ c.requires.lined.holders ∙ ap (λ n. n + 1) (sym room);
      hints = subst (λ (q : List ℕ). AreHints q (set c.args.self.now.holders.items c.args.slot 0) c.add_if.new.slots.items) (sym order)
          (hints_join c.args.slot (slots_at log 2) c.args.self.now.untold.items c.add_if.new.slots.items c.args.self.now.holders.items c.is_untold.result
          (let a = c.requires.within in let b = c.requires.lined.holders in omega (arith, a, b)) c.add_if.ensures.slots c.requires.lined.hints);
    }
