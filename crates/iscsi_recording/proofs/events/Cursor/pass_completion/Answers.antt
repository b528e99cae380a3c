use Rattle.std.proofs.Common.{◌-◌, List, ◌∷◌, drop, slice_index, ap, ap₂, sym, ◌∙◌}
use Rattle.byteorder.specs.Endian.{big_number}
use Rattle.iscsi_rules.specs.declared.event.Event.{Event}
use Rattle.iscsi_rules.specs.declared.event.Event.TheVariants.{Done}
use Rattle.iscsi_recording.specs.Dense.{events_of}
use Rattle.iscsi_recording.specs.Firsts.{begins_with_completion}
use Rattle.iscsi_recording.proofs.NextLemmas.{completion_next}
use Rattle.iscsi_recording.proofs.events.Cursor.pass_completion.Goals as goal

pub invariant_of-self : goal.invariant_of-self
invariant_of-self c =
    let next = completion_next c.self.inside.count c.self.inside.left.now c.self.invariant (ap begins_with_completion c.self.view_is ∙ c.requires) in
    rw c.split_at.ensures.back next.rest

pub returns : goal.returns
returns c =
    let n = c.self.inside.count in
    let left = c.self.inside.left.now in
    let next = completion_next n left c.self.invariant (ap begins_with_completion c.self.view_is ∙ c.requires) in
    sym c.self.view_is ∙ next.is
    ∙ ap₂ (λ e (es : List Event). e ∷ es)
    (ap₂ Done (ap (λ l. big_number 8 (drop 1 l)) (sym c.split_at.ensures.front) ∙ sym c.completion_in.ensures.0)
    (ap (λ l. slice_index l 9) (sym c.split_at.ensures.front) ∙ sym c.completion_in.ensures.1))
    (ap (events_of (n - 1)) (sym c.split_at.ensures.back))
