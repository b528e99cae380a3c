use Rattle.std.proofs.Common.{◌∙◌, List, sym, ap, subst}
use Rattle.iscsi_rules.specs.declared.effect.Effect.{Effect}
use Rattle.iscsi_rules.specs.declared.effect.Numbers.{Numbers}
use Rattle.iscsi_ffi_steps.specs.Steps.{takes}
use Rattle.iscsi_ffi.specs.Standing.{Begun, Sided}
use Rattle.iscsi_ffi.specs.contracts.side.Side.{the_view}
use Rattle.iscsi_ffi.proofs.StandLemmas.{event_taken, more_may}
use Rattle.iscsi_ffi.proofs.side.Side.take_event.Goals as goal

pub returns-in-Ok : goal.returns-in-Ok
returns-in-Ok c = λ i g b is.
    let P : Sided → Type 0 = λ v. Begun i v g in
    let here : Begun i (the_view c.self.inside) g = subst P (sym c.self.view_is) b in
    let o = i.outbox.session in
    let s = here.stands in
    let told = c.take.ensures
    ∙ ap (λ (es : List Effect). takes c.args.own (record { numbers = c.event_numbers.result; effects = es }) c.self.inside.desk) c.effects.ensures
    ∙ ap (λ (n : Numbers). takes c.args.own (record { numbers = n; effects = c.step.new.self.effects }) c.self.inside.desk) c.event_numbers.ensures in
    let none = c.in-Ok.ensures.refused o s.history s.serves in
    let count = c.following-self-inside.ensures (more_may i (the_view c.self.inside) g c.args.event.now here is none) in
    event_taken i (the_view c.self.inside) g c.args.own c.args.event.now c.step.new.self c.take.new.self c.following-self-inside.result here is
    none (c.in-Ok.ensures.serves o s.history s.serves) told count
