use Rattle.std.proofs.Common.{◌≡◌, ◌∙◌, ℕ, List, Option, sym, ap, subst}
use Rattle.iscsi_wire.specs.Fields.{request_of}
use Rattle.iscsi_rules.specs.declared.effect.Effect.{Effect}
use Rattle.iscsi_rules.specs.declared.effect.Numbers.{Numbers}
use Rattle.iscsi_rules.specs.declared.event.Event.TheVariants.{Arrive}
use Rattle.iscsi_ffi_steps.specs.Walk.{Doing}
use Rattle.iscsi_ffi_steps.specs.Steps.{Going, happening, takes}
use Rattle.iscsi_ffi.specs.Held.{held_of, own_of}
use Rattle.iscsi_ffi.specs.Standing.{Begun, Sided}
use Rattle.iscsi_ffi.specs.contracts.side.Side.{the_view}
use Rattle.iscsi_ffi.proofs.CallLemmas.{arriving_goes, held_limits}
use Rattle.iscsi_ffi.proofs.StandLemmas.{effects_told, event_taken, more_may, set_desk}
use Rattle.iscsi_ffi.proofs.side.Side.take_request.Goals as goal

pub returns-in-Ok : goal.returns-in-Ok
returns-in-Ok c = λ i g b known fewer.
    let P : Sided → Type 0 = λ v. Begun i v g in
    let v = the_view c.self.inside in
    let here : Begun i v g = subst P (sym c.self.view_is) b in
    let o = i.outbox.session in
    let s = here.stands in
    let header = c.args.header.now in
    let e = Arrive c.args.cid header in
    let r = request_of c.args.cid header in
    let place = c.args.place in
    let host = c.step.new.self in
    let es = host.effects in
    let none = c.in-Ok.ensures.refused o s.history s.serves in
    let serves = c.in-Ok.ensures.serves o s.history s.serves in
    let held : Doing → Doing = held_of r place es in
    let v1 = record v { desk = held v.desk } in
    let g1 = record g { doing = held g.doing } in
    let b1 : Begun i v1 g1 = set_desk i v g (held v.desk) (held g.doing) here (ap held s.doing) (held_limits r place es g.doing) in
    let count = c.following-self-inside.ensures (more_may i v g e here known none) in
    -- what is kept as the desk takes the effects
    let now = the_view c.self-in-Ok.inside in
    let w = record v { host = host; taken = c.following-self-inside.result; desk = held v.desk } in
    let is : now ≡ w =
    c.self-in-Ok.view_is ∙ c.place_request-own.ensures.state in
    let own : c.place_request-own.result ≡ own_of r place es = c.place_request-own.ensures.own in
    let told : c.take.new.self ≡ takes (own_of r place es) (record { numbers = host.numbers; effects = es }) (held v.desk) =
    c.take.ensures
    ∙ ap (λ (x : Option ℕ). takes x (record { numbers = c.event_numbers.result; effects = c.effects.result.now }) c.self-in-Ok.inside.desk) own
    ∙ ap (λ (x : List Effect). takes (own_of r place es) (record { numbers = c.event_numbers.result; effects = x }) c.self-in-Ok.inside.desk) c.effects.ensures
    ∙ ap (λ (x : Numbers). takes (own_of r place es) (record { numbers = x; effects = c.self-in-Ok.inside.host.effects }) c.self-in-Ok.inside.desk) c.event_numbers.ensures
    ∙ ap (λ (x : Sided). takes (own_of r place es) (record { numbers = x.host.numbers; effects = x.host.effects }) x.desk) is in
    let taken = event_taken i v1 g1 (own_of r place es) e host c.take.new.self c.following-self-inside.result b1 known none serves told count in
    let g2 = happening i (own_of r place es) e g1 in
    let Q : Sided → Type 0 = λ x. Begun i (record x { desk = c.take.new.self }) g2 in
    let completed = c.complete_withheld.ensures i g2 (subst Q (sym is) taken) in
    let R : Going → Type 0 = λ x. Begun i c.complete_withheld.new.self x in
    subst R (arriving_goes i c.args.cid header place g es (effects_told i v g e host here serves)) completed
