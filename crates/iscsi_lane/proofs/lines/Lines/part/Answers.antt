use Rattle.std.proofs.Common.{◌≤◌, ◌<◌, ◌+◌, ◌∙◌, ℕ, List, length, get_or, ap, sym, subst, arith}
use Rattle.iscsi_lists.specs.Lists.{without}
use Rattle.iscsi_slots.specs.Places.{AreAscending}
use Rattle.iscsi_slots.specs.Slots.{times}
use Rattle.iscsi_lane.specs.Times.{AllUnder, IsUp, time_of}
use Rattle.iscsi_lane.specs.Scoping.{untold_at}
use Rattle.iscsi_lane.specs.Standings.{slots_at}
use Rattle.iscsi_lane.proofs.LaneLemmas.{moved_other, moved_room}
use Rattle.iscsi_lane.proofs.LiningLemmas.{untold_goes}
use Rattle.iscsi_lane.specs.Hints.{AreHints, Passes}
use Rattle.iscsi_lane.proofs.HintLemmas.{hints_part}
use Rattle.iscsi_lane.proofs.StampLemmas.{once_at, some_at, under_goes, up_goes}
use Rattle.iscsi_lane.proofs.TellLemmas.{kept_there, kept_up, kept_within}
use Rattle.iscsi_lane.proofs.lines.Lines.part.Goals as goal

pub pass_over-requires-clause-there : goal.pass_over-requires-clause-there
pass_over-requires-clause-there c = subst (λ (d : List ℕ). (t : ℕ) → 1 ≤ times t d → 1 ≤ times t (slots_at c.args.log.now 2)) (sym c.deref.ensures.value)
    (kept_there c.args.log.now c.args.self.now.units c.args.self.now.tags c.args.self.now.due.items _ c.requires.lined.following c.known.ensures.apart (untold_at c.args.log.now.values) c.args.self.now.untold.items c.requires.lined.of_untold)

pub leave_due-requires-clause-within : goal.leave_due-requires-clause-within
leave_due-requires-clause-within c =
    subst (λ (ts : List ℕ). (j : ℕ) → j < length c.args.self.now.untold.items → get_or c.args.self.now.untold.items j 0 < length ts) (sym c.deref-2.ensures.value)
    (kept_within c.args.log.now c.args.self.now.units c.args.self.now.tags c.args.self.now.due.items _ c.requires.lined.following c.known.ensures.apart (untold_at c.args.log.now.values) c.args.self.now.untold.items c.requires.lined.of_untold c.args.self.now.stamps.items c.requires.lined.long)

pub leave_due-requires-clause-up : goal.leave_due-requires-clause-up
leave_due-requires-clause-up c =
    subst (λ (ts : List ℕ). AreAscending (time_of ts) c.args.self.now.untold.items) (sym c.deref-2.ensures.value)
    (kept_up c.args.log.now c.args.self.now.units c.args.self.now.tags c.args.self.now.due.items _ c.requires.lined.following c.known.ensures.apart (untold_at c.args.log.now.values) c.args.self.now.untold.items c.requires.lined.of_untold c.args.self.now.stamps.items c.requires.lined.up)

pub returns-clause-lined : goal.returns-clause-lined
returns-clause-lined c =
    let log = c.args.log.now in
    let now = c.args.self.now in
    let slot = c.args.slot in
    let order = moved_other log c.part.new.log 1 slot c.part.ensures.log 2 (λ e. omega (arith, e)) in
    let room = moved_room log c.part.new.log 1 slot c.part.ensures.log in
    record {
      following = c.part.ensures.follows;
      up = subst (IsUp now.stamps.items) (sym order) (up_goes now.stamps.items slot (slots_at log 2) c.requires.lined.up);
      under = subst (AllUnder now.stamps.items now.next) (sym order) (under_goes now.stamps.items slot now.next (slots_at log 2) c.requires.lined.under);
      long = c.requires.lined.long ∙ ap (λ n. n + 1) (sym room);
      of_untold = c.leave_due.ensures.due ∙ ap (without slot) c.requires.lined.of_untold ∙ sym (untold_goes log c.part.new.log slot c.part.ensures.log);
      untold_room = let a = c.requires.lined.untold_room in let b = c.leave_due.ensures.capacity in omega (arith, a, b, room);
      holders = c.pass_over.ensures.holders ∙ ap (λ n. n + 1) (sym room);
      hints = subst (λ (q : List ℕ). AreHints q c.pass_over.new.holders.items c.leave_due.new.due.items) (sym order)
          (hints_part slot (slots_at log 2) c.requires.there (once_at log c.known.ensures.apart 2 slot) (some_at log c.known.ensures.apart 2 slot c.requires.there) now.untold.items c.leave_due.new.due.items now.holders.items c.pass_over.new.holders.items
          c.leave_due.ensures.due
          (subst (λ (d : List ℕ). Passes slot (slots_at log 2) d now.holders.items c.pass_over.new.holders.items) c.deref.ensures.value c.pass_over.ensures.passes) c.requires.lined.hints);
    }
