use Rattle.std.proofs.Common.{ℕ, ◌+◌, slice_range, refl, sym, ap, ◌∙◌, arith}
use Rattle.iscsi_ffi_steps.specs.State.{State}
use Rattle.iscsi_ffi_steps.specs.Steps.{reset_in}
use Rattle.iscsi_ffi_steps.specs.Walk.{Doing, tell_all}
use Rattle.iscsi_ffi_desk.proofs.TellLemmas.{no_resets_yet, resets_begin, resets_go_on, resets_left, told_state}
use Rattle.iscsi_ffi_desk.proofs.desk.Desk.tell_resets.Goals as goal
use Rattle.iscsi_ffi_desk.proofs.desk.Desk.tell_resets.Goals.{then-is_request, else-is_request}

pub loop-at-init : goal.loop-at-init
loop-at-init c = record { actions = no_resets_yet c.args.self.now.state.outbox.limits.units c.args.effects.now c.args.self.now; state = refl; begun = omega arith }

pub loop-at-preserved : goal.loop-at-preserved
loop-at-preserved c =
    let es = c.args.effects.now in
    let at = c.loop-at.at in
    let units = c.args.self.now.state.outbox.limits.units in
    let now = c.loop-at.self in
    let left = λ (from : ℕ) (d : Doing). tell_all (resets_left units es from (at + 1)) d in
    elim c.if-is_request.branch [
      | then-is_request w ↦
          let told = w.tell_reset.ensures ∙ ap (λ (s : State). tell_all (reset_in s.outbox.limits.units (slice_range es c.loop-at.from at)) now) c.loop-at.invariant.state in
          record {
            actions =
                ap (λ n. left n c.if-is_request.self) w.from-is
                ∙ ap (λ d. left at d) (w.self-is ∙ told)
                ∙ resets_begin units es c.loop-at.from at _ now c.loop-at-test.true (sym c.is_request.ensures ∙ w.if-is_request.true)
                ∙ c.loop-at.invariant.actions;
            state = ap (λ (d : Doing). d.state) (w.self-is ∙ told) ∙ told_state (reset_in units (slice_range es c.loop-at.from at)) now ∙ c.loop-at.invariant.state;
            begun = omega arith;
          }
      | else-is_request w ↦ record {
        actions =
            ap (λ n. left n c.if-is_request.self) w.from-is
            ∙ ap (λ d. left c.loop-at.from d) w.self-is
            ∙ resets_go_on units es c.loop-at.from at _ now c.loop-at.invariant.begun c.loop-at-test.true (sym c.is_request.ensures ∙ w.if-is_request.false)
            ∙ c.loop-at.invariant.actions;
        state = ap (λ (d : Doing). d.state) w.self-is ∙ c.loop-at.invariant.state;
        begun = omega arith;
      }
    ]
