use Rattle.std.proofs.Common.{List, [], ℕ, get_or, ap, ◌∙◌}
use Rattle.iscsi_rules.specs.declared.effect.Effect.{Effect}
use Rattle.iscsi_rules.specs.declared.effect.Effect.TheVariants.{Deliver}
use Rattle.iscsi_ffi_steps.specs.Walk.{Doing, touched_by}
use Rattle.iscsi_ffi_desk.proofs.DropLemmas.{sweep_more, sweep_outbox}
use Rattle.iscsi_ffi_desk.proofs.desk.Desk.sweep.Goals as goal

pub loop-effect-preserved : goal.loop-effect-preserved
loop-effect-preserved c =
    let now = c.loop-effect.self in
    let effects = c.args.effects.now in
    let none : Effect = Deliver (record { conn = 0; bytes = [] }) in
    let touched : List ℕ = touched_by now.state (get_or effects c.loop-effect.effect-index none) in
    record {
      state = sweep_more c.loop-effect.effect-index c.args.self.now.state effects none now c.sweep_touched.new.self c.loop-effect-test.true c.loop-effect.invariant.outbox c.sweep_touched.ensures ∙ c.loop-effect.invariant.state;
      outbox = ap (λ (d : Doing). d.state.outbox) c.sweep_touched.ensures ∙ sweep_outbox touched now ∙ c.loop-effect.invariant.outbox;
    }
