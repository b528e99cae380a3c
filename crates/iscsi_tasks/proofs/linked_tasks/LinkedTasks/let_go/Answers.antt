use Rattle.std.proofs.Common.{◌≡◌, ◌∷◌, ◌∙◌, ◌<◌, ◌≤◌, ℕ, List, Some, length, get_or, ap, sym, subst}
use Rattle.std.specs.List.{remove}
use Rattle.iscsi_tasks.proofs.Names.{times, Task, Member, Members, left_by, after_moment, without, Left, StandsFor, BLANK, member_of, Linked, linked}
use Rattle.iscsi_slots.proofs.SlotLemmas.{StandsAt, stands}
use Rattle.iscsi_tasks.proofs.HistoryLemmas.{StandsFor-left}
use Rattle.iscsi_tasks.proofs.LinkedSetLemmas.{in_slots, kept_left, left_is}
use Rattle.iscsi_tasks.proofs.linked_tasks.LinkedTasks.let_go.Goals as goal

-- the place of the slot
at : (c : goal.After-let_go) → StandsAt c.args.slot c.self.inside.chain.slots
at c = stands c.args.slot c.self.inside.chain.slots (subst (λ (l : Linked). 1 ≤ times c.args.slot l.slots) (sym c.self.view_is) c.requires)

-- the set after the moment is the set without the command
after : (c : goal.After-let_go) → c.let_go.new.chain.members ≡ after_moment (without c.at.result.now.task.ticket c.self.inside.chain.members)
after c = c.let_go.ensures.members (at c).place (at c).inside (at c).there ∙ left_is c.self.invariant (member_of c.at.result.now) (at c) c.at.ensures

pub invariant_of-self : goal.invariant_of-self
invariant_of-self c = kept_left c.self.invariant (member_of c.at.result.now) c.let_go.ensures.marked (after c) c.let_go.ensures.room

pub returns-clause-sound : goal.returns-clause-sound
returns-clause-sound c = in_slots (invariant_of-self c)

pub returns-clause-state : goal.returns-clause-state
returns-clause-state c =
    let i = c.self.inside in
    let t : Task = c.at.result.now.task in
    let with : List Member → Members = λ l. record { depth = i.depth; looked = i.looked; list = l } in
    subst (λ (v : Linked). (k : ℕ) (d : Member) → k < length v.slots → get_or v.slots k 0 ≡ c.args.slot → (t ≡ (get_or v.shown.list k d).task) × (linked (with c.let_go.new.chain.members) c.let_go.new.chain.slots ≡ linked (left_by v.shown (Some t)) (remove v.slots k))) c.self.view_is
    (λ k d l is. (
      ap (λ (m : Member). m.task) (c.at.ensures k d l is),
      ap (λ ms. linked (with ms) c.let_go.new.chain.slots) (after c) ∙ ap (linked (left_by (with i.chain.members) (Some t))) (c.let_go.ensures.slots k l is),
    ))

pub returns-clause-stands : goal.returns-clause-stands
returns-clause-stands c = λ h st.
    let s = c.args.self.now in
    let at = stands c.args.slot s.slots c.requires in
    let left = (returns-clause-state c at.place BLANK at.inside at.there).1 in
    subst (λ (l : Linked). StandsFor l.shown (Left c.at.result.now.task.ticket ∷ h)) (sym left) (StandsFor-left s.shown c.at.result.now.task h st)
