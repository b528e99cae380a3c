use Rattle.std.proofs.Common.{◌≡◌, ◌∙◌, Option, List, ℕ, length, map, ap, sym, subst, arith}
use Rattle.std.proofs.lemmas.List.{length-map}
use Rattle.iscsi_tasks.proofs.Names.{Member, Members, given_by, given_in, IsSettled, IsCoveredFrom, IsAscendingTo, Chained, Linked, StandsFor, after_giving}
use Rattle.iscsi_tasks.proofs.FrontLemmas.{ascending_given}
use Rattle.iscsi_tasks.proofs.GivingLemmas.{tasks-given, settled-given, StandsFor-giving}
use Rattle.iscsi_tasks.proofs.LinkedSetLemmas.{in_slots, kept_on}
use Rattle.iscsi_tasks.proofs.linked_tasks.LinkedTasks.next_new.Goals as goal

pub invariant_of-self : goal.invariant_of-self
invariant_of-self c =
    let list = c.self.inside.chain.members in
    let given = ap (λ (v : Chained). v.members) c.give_next.ensures.state in
    let long : length (given_in list) ≡ length list = sym (length-map (given_in list) (λ m. m.task)) ∙ ap length (tasks-given list) ∙ length-map list (λ m. m.task) in
    let kept = ap length given in
    kept_on c.self.invariant c.give_next.ensures.marked (omega (arith, long, kept)) (ap (λ (v : Chained). v.room) c.give_next.ensures.state)
    (subst IsSettled (sym given) (settled-given list c.self.invariant.settled))
    (subst (IsCoveredFrom c.self.inside.covered_from) (sym (ap (map (λ m. m.task)) given ∙ tasks-given list)) c.self.invariant.covered_from)
    (λ up. subst (IsAscendingTo c.self.inside.ascends_to) (sym given) (ascending_given c.self.inside.ascends_to list up))

pub returns-clause-sound : goal.returns-clause-sound
returns-clause-sound c = in_slots (invariant_of-self c)

pub returns-clause-stands : goal.returns-clause-stands
returns-clause-stands c = λ h st.
    let i = c.self.inside in
    let v : Members = record { depth = i.depth; looked = i.looked; list = i.chain.members } in
    let same : v ≡ c.args.self.now.shown = (ap (λ (v : Linked). v.shown) c.self.view_is) in
    let both = StandsFor-giving v h c.self.invariant.marked.counted.order (subst (λ (s : Members). StandsFor s h) (sym same) st) in (
      c.give_next.ensures.ticket ∙ both.0,
      subst (λ (l : List Member). StandsFor (record { depth = i.depth; looked = i.looked; list = l }) (after_giving c.give_next.result h)) (sym (ap (λ (v : Chained). v.members) c.give_next.ensures.state))
          (subst (λ (o : Option ℕ). StandsFor (given_by v) (after_giving o h)) (sym c.give_next.ensures.ticket) both.1),
    )
