use Rattle.std.proofs.Common.{◌≡◌, List, length, ap, sym, ◌∙◌, arith}
use Rattle.iscsi_rules.specs.declared.event.Event.{Event}
use Rattle.iscsi_recording.specs.Dense.{events_of}
use Rattle.iscsi_recording.specs.Firsts.{begins_with_arrival, begins_with_completion}
use Rattle.iscsi_recording.proofs.DenseLemmas.{length_events}
use Rattle.iscsi_recording.proofs.NextLemmas.{kind_told, completion_told}
use Rattle.iscsi_recording.proofs.events.Cursor.is_at_arrival.Goals as goal

pub returns-clause-arrival : goal.returns-clause-arrival
returns-clause-arrival c is =
    let n = c.self.inside.count in
    let left = c.self.inside.left.now in
    let long : length (events_of n left) ≡ length c.args.self.now = ap (λ (es : List Event). length es) c.self.view_is in
    ap begins_with_arrival (sym c.self.view_is) ∙ kind_told n left (λ none. absurd (omega (arith, long, length_events n left, c.requires))) c.self.invariant ∙ is

pub returns-clause-completion : goal.returns-clause-completion
returns-clause-completion c is =
    let n = c.self.inside.count in
    let left = c.self.inside.left.now in
    let long : length (events_of n left) ≡ length c.args.self.now = ap (λ (es : List Event). length es) c.self.view_is in
    ap begins_with_completion (sym c.self.view_is) ∙ completion_told n left (λ none. absurd (omega (arith, long, length_events n left, c.requires))) c.self.invariant is
