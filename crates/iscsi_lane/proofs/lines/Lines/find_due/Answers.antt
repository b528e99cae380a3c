use Rattle.std.proofs.Common.{◌<◌, ◌≤◌, ◌∙◌, ℕ, List, length, get_or, ap, sym, subst}
use Rattle.iscsi_slots.specs.Places.{AreAscending}
use Rattle.iscsi_slots.specs.Slots.{times}
use Rattle.iscsi_lists.specs.Lists.{first_of}
use Rattle.iscsi_lane.specs.Scoping.{untold_at}
use Rattle.iscsi_lane.specs.Standings.{NOBODY, slots_at}
use Rattle.iscsi_lane.specs.Times.{time_of}
use Rattle.iscsi_lane.specs.Walking.{AreTold, IsFirstDue, IsHeldAt}
use Rattle.iscsi_lane.proofs.HoldLemmas.{all_told}
use Rattle.iscsi_lane.proofs.TellLemmas.{are_told, due_up, due_within, kept_there, none_of_left, none_told, told_first, told_within}
use Rattle.iscsi_lane.proofs.lines.Lines.find_due.Goals as goal

pub are_held-requires-clause-there : goal.are_held-requires-clause-there
are_held-requires-clause-there c = subst (λ (d : List ℕ). (t : ℕ) → 1 ≤ times t d → 1 ≤ times t (slots_at c.args.log.now 2)) (sym c.deref-2.ensures.value)
    (kept_there c.args.log.now c.args.self.now.units c.args.self.now.tags c.args.self.now.due.items _ c.requires.lined.following c.known.ensures.apart (untold_at c.args.log.now.values) c.args.self.now.untold.items c.requires.lined.of_untold)

pub first_due-requires-clause-told : goal.first_due-requires-clause-told
first_due-requires-clause-told c = subst (AreTold c.args.log.now) (sym c.deref-then-not-are_held-2.ensures.value) (are_told c.args.log.now c.args.self.now.units c.args.self.now.tags c.args.self.now.due.items _ c.requires.lined.following c.known.ensures.apart)

pub first_due-requires-clause-within : goal.first_due-requires-clause-within
first_due-requires-clause-within c =
    subst (λ (d : List ℕ). (j : ℕ) → j < length d → get_or d j 0 < length c.deref-then-not-are_held.result.now) (sym c.deref-then-not-are_held-2.ensures.value)
    (subst (λ (ts : List ℕ). (j : ℕ) → j < length c.args.self.now.due.items → get_or c.args.self.now.due.items j 0 < length ts) (sym c.deref-then-not-are_held.ensures.value)
    (due_within c.args.log.now c.args.self.now.units c.args.self.now.tags c.args.self.now.due.items _ c.requires.lined.following c.known.ensures.apart c.args.self.now.stamps.items c.requires.lined.long))

pub first_due-requires-clause-up : goal.first_due-requires-clause-up
first_due-requires-clause-up c =
    subst (λ (d : List ℕ). AreAscending (time_of c.deref-then-not-are_held.result.now) d) (sym c.deref-then-not-are_held-2.ensures.value)
    (subst (λ (ts : List ℕ). AreAscending (time_of ts) c.args.self.now.due.items) (sym c.deref-then-not-are_held.ensures.value)
    (due_up c.args.log.now c.args.self.now.units c.args.self.now.tags c.args.self.now.due.items _ c.requires.lined.following c.known.ensures.apart c.args.self.now.stamps.items c.requires.lined.up))

pub returns-in_err-slot-clause-first : goal.returns-in_err-slot-clause-first
returns-in_err-slot-clause-first c =
    let all = all_told c.args.log.now c.args.self.now.units c.args.self.now.tags c.args.self.now.due.items _ c.requires.lined.following c.known.ensures.apart
    (subst (λ (d : List ℕ). (t : ℕ) → 1 ≤ times t d → IsHeldAt c.args.log.now t) (c.deref-2.ensures.value ∙ c.requires.lined.of_untold) (c.are_held.ensures.held c.if-not-are_held.false)) in
    subst (IsFirstDue c.args.log.now) (sym c.from_residual.ensures)
    (none_told c.args.log.now c.args.self.now.units c.args.self.now.tags c.args.self.now.due.items _ c.requires.lined.following all c.known.ensures.apart (ap first_of (sym c.deref-3.ensures.value) ∙ sym c.in_err-slot.ensures))

pub at-requires : goal.at-requires
at-requires c =
    let all = all_told c.args.log.now c.args.self.now.units c.args.self.now.tags c.args.self.now.due.items _ c.requires.lined.following c.known.ensures.apart
    (subst (λ (d : List ℕ). (t : ℕ) → 1 ≤ times t d → IsHeldAt c.args.log.now t) (c.deref-2.ensures.value ∙ c.requires.lined.of_untold) (c.are_held.ensures.held c.if-not-are_held.false)) in
    told_within c.args.log.now c.args.self.now.units c.args.self.now.tags c.args.self.now.due.items _ c.requires.lined.following all c.known.ensures.apart c.in_ok-slot.slot (ap first_of (sym c.deref-3.ensures.value) ∙ sym c.in_ok-slot.ensures)

pub returns-in_default-clause-first : goal.returns-in_default-clause-first
returns-in_default-clause-first c =
    let all = all_told c.args.log.now c.args.self.now.units c.args.self.now.tags c.args.self.now.due.items _ c.requires.lined.following c.known.ensures.apart
    (subst (λ (d : List ℕ). (t : ℕ) → 1 ≤ times t d → IsHeldAt c.args.log.now t) (c.deref-2.ensures.value ∙ c.requires.lined.of_untold) (c.are_held.ensures.held c.if-not-are_held.false)) in
    none_of_left c.args.log.now c.args.self.now.units c.args.self.now.tags c.args.self.now.due.items _ c.requires.lined.following all c.known.ensures.apart c.in_ok-slot.slot (ap first_of (sym c.deref-3.ensures.value) ∙ sym c.in_ok-slot.ensures) c.in_default.field-0 (sym (c.at.ensures NOBODY) ∙ c.in_default.is)

pub returns-clause-first : goal.returns-clause-first
returns-clause-first c =
    let all = all_told c.args.log.now c.args.self.now.units c.args.self.now.tags c.args.self.now.due.items _ c.requires.lined.following c.known.ensures.apart
    (subst (λ (d : List ℕ). (t : ℕ) → 1 ≤ times t d → IsHeldAt c.args.log.now t) (c.deref-2.ensures.value ∙ c.requires.lined.of_untold) (c.are_held.ensures.held c.if-not-are_held.false)) in
    told_first c.args.log.now c.args.self.now.units c.args.self.now.tags c.args.self.now.due.items _ c.requires.lined.following all c.known.ensures.apart c.in_ok-slot.slot (ap first_of (sym c.deref-3.ensures.value) ∙ sym c.in_ok-slot.ensures) c.in-Undue.answer (sym (c.at.ensures NOBODY) ∙ c.in-Undue.is)
