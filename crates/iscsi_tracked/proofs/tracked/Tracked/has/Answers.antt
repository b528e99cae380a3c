use Rattle.std.proofs.Common.{◌∙◌, ap, sym, ⊎_elim}
use Rattle.std.proofs.lemmas.Bool.{cases_Bool}
use Rattle.iscsi_tracked.specs.Tracked.{has_place}
use Rattle.iscsi_tracked.proofs.StateLemmas.{has_there, there_has}
use Rattle.iscsi_tracked.proofs.tracked.Tracked.has.Goals as goal

pub returns : goal.returns
returns c =
    let i = c.self.inside in
    ⊎_elim
    (λ yes. yes ∙ sym (ap (has_place c.args.place) (sym c.self.view_is) ∙ there_has i.tickets i.kept c.self.invariant c.known.ensures.apart c.args.place (c.holds.ensures.yes yes)))
    (λ no. ⊎_elim
    (λ has. c.holds.ensures.no (has_there i.tickets i.kept c.self.invariant c.known.ensures.apart c.args.place (ap (has_place c.args.place) c.self.view_is ∙ has)) ∙ sym has)
    (λ hasnt. no ∙ sym hasnt)
    (cases_Bool (has_place c.args.place c.args.self.now)))
    (cases_Bool c.holds.result)
