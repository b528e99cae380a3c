use Rattle.std.proofs.Common.{◌+◌, ◌≤◌, ◌∙◌, ℕ, List, filter, ap, sym, subst, arith}
use Rattle.std.specs.Prelude.{◌||◌}
use Rattle.iscsi_slots.specs.Slots.{times}
use Rattle.iscsi_scopes.specs.Scopes.{slots_of}
use Rattle.iscsi_lane.specs.Hints.{AreHints}
use Rattle.iscsi_lane.specs.Standings.{slots_at}
use Rattle.iscsi_lane.specs.Times.{AllUnder, IsUp, gains, has}
use Rattle.iscsi_lane.proofs.ClearLemmas.{clear_follows, clear_order, clear_stands, clear_untold, t_order, t_room}
use Rattle.iscsi_lane.proofs.StampLemmas.{once_at, within_at}
use Rattle.iscsi_lane.proofs.lines.Lines.clear.Goals as goal

pub set-requires : goal.set-requires
set-requires c = within_at c.args.log.now c.known.ensures.apart 2 c.args.slot c.requires.there

pub examine-requires-clause-stands : goal.examine-requires-clause-stands
examine-requires-clause-stands c = subst (λ u. (s : ℕ) → 1 ≤ times s (slots_of u c.args.self.now.units.lines) → 1 ≤ times s (slots_at c.set.new.self 2)) (sym c.from.ensures)
    (clear_stands c.args.log.now c.args.self.now.units c.args.self.now.tags c.args.self.now.due.items _ c.requires.lined.following c.known.ensures.apart c.known.ensures.values c.args.slot c.requires.there c.args.unit c.args.answer c.requires.is c.requires.waits c.set.new.self c.set.ensures)

pub examine-requires-clause-within : goal.examine-requires-clause-within
examine-requires-clause-within c s there = within_at c.set.new.self c.known-2.ensures.apart 2 s there

pub examine-requires-clause-once : goal.examine-requires-clause-once
examine-requires-clause-once c s = once_at c.set.new.self c.known-2.ensures.apart 2 s

pub examine-requires-clause-order : goal.examine-requires-clause-order
examine-requires-clause-order c = clear_order c.args.log.now c.args.self.now.units c.args.self.now.tags c.args.self.now.due.items _ c.requires.lined.following c.known.ensures.apart c.known.ensures.values c.args.slot c.requires.there c.args.unit c.args.answer c.requires.is c.requires.waits c.set.new.self c.set.ensures

pub returns-clause-lined : goal.returns-clause-lined
returns-clause-lined c =
    let log = c.args.log.now in
    let now = c.args.self.now in
    let order = t_order c.args.log.now c.args.self.now.units c.args.self.now.tags c.args.self.now.due.items _ c.requires.lined.following c.known.ensures.apart c.known.ensures.values c.args.slot c.requires.there c.args.unit c.args.answer c.requires.is c.requires.waits c.set.new.self c.set.ensures in
    let room = t_room c.args.log.now c.args.self.now.units c.args.self.now.tags c.args.self.now.due.items _ c.requires.lined.following c.known.ensures.apart c.known.ensures.values c.args.slot c.requires.there c.args.unit c.args.answer c.requires.is c.requires.waits c.set.new.self c.set.ensures in
    record {
      following = clear_follows c.args.log.now c.args.self.now.units c.args.self.now.tags c.args.self.now.due.items _ c.requires.lined.following c.known.ensures.apart c.known.ensures.values c.args.slot c.requires.there c.args.unit c.args.answer c.requires.is c.requires.waits c.set.new.self c.set.ensures
          _ _ (c.examine.ensures.due ∙ ap (λ u. filter (λ k. has now.due.items k || gains now.units u c.set.new.self.values k) (slots_at c.set.new.self 2)) c.from.ensures) c.examine.ensures.capacity;
      up = subst (IsUp now.stamps.items) (sym order) c.requires.lined.up;
      under = subst (AllUnder now.stamps.items now.next) (sym order) c.requires.lined.under;
      long = c.requires.lined.long ∙ ap (λ n. n + 1) (sym room);
      of_untold = c.requires.lined.of_untold ∙ sym (clear_untold c.args.log.now c.args.self.now.units c.args.self.now.tags c.args.self.now.due.items _ c.requires.lined.following c.known.ensures.apart c.known.ensures.values c.args.slot c.requires.there c.args.unit c.args.answer c.requires.is c.requires.waits c.set.new.self c.set.ensures);
      untold_room = let a = c.requires.lined.untold_room in omega (arith, a, room);
      holders = c.requires.lined.holders ∙ ap (λ n. n + 1) (sym room);
      hints = subst (λ (q : List ℕ). AreHints q now.holders.items now.untold.items) (sym order) c.requires.lined.hints;
    }
