use Rattle.std.proofs.Common.{◌≤◌, ◌∙◌, sym, subst, arith, vec_len, vec_capacity}
use Rattle.iscsi_host.specs.Serving.{Hosted, Serves}
use Rattle.iscsi_host.proofs.ServingLemmas.{refusal_here, never_refused, serves_more}
use Rattle.iscsi_host.proofs.host.Host.step.Goals as goal

pub returns-in-Some-clause-refused : goal.returns-in-Some-clause-refused
returns-in-Some-clause-refused c = λ o h serves.
    let here = subst (λ (m : Hosted). Serves o m h) (sym c.self.view_is) serves in
    sym c.in-Some.is ∙ refusal_here o h c.args.event.now (record { session = c.self.inside.session; effects = c.self.inside.effects.items; numbers = c.self.inside.numbers; room = vec_capacity c.self.inside.effects }) c.refusal.result here c.refusal.ensures

pub returns-in_err-self-inside-clause-refused : goal.returns-in_err-self-inside-clause-refused
returns-in_err-self-inside-clause-refused c = λ o h serves.
    let here = subst (λ (m : Hosted). Serves o m h) (sym c.self.view_is) serves in
    absurd (never_refused o h c.args.event.now (record { session = c.self.inside.session; effects = c.self.inside.effects.items; numbers = c.self.inside.numbers; room = vec_capacity c.self.inside.effects }) (vec_len c.clear.new.self) (vec_capacity c.clear.new.self) c.refusal.result c.step.result _
    here c.in_default.is c.refusal.ensures c.clear.ensures.len c.clear.ensures.capacity (c.step.ensures.refused o h here.stands) (c.step.ensures.room_for_most o h here.stands) c.in_err-self-inside.was)

pub returns-in_err-self-inside-clause-err : goal.returns-in_err-self-inside-clause-err
returns-in_err-self-inside-clause-err c = λ o h serves.
    let here = subst (λ (m : Hosted). Serves o m h) (sym c.self.view_is) serves in
    absurd (never_refused o h c.args.event.now (record { session = c.self.inside.session; effects = c.self.inside.effects.items; numbers = c.self.inside.numbers; room = vec_capacity c.self.inside.effects }) (vec_len c.clear.new.self) (vec_capacity c.clear.new.self) c.refusal.result c.step.result _
    here c.in_default.is c.refusal.ensures c.clear.ensures.len c.clear.ensures.capacity (c.step.ensures.refused o h here.stands) (c.step.ensures.room_for_most o h here.stands) c.in_err-self-inside.was)

pub returns-clause-serves : goal.returns-clause-serves
returns-clause-serves c = λ o h serves.
    let here = subst (λ (m : Hosted). Serves o m h) (sym c.self.view_is) serves in
    let step = c.in_ok-self-inside.ensures in
    serves_more o h c.args.event.now (record { session = c.self.inside.session; effects = c.self.inside.effects.items; numbers = c.self.inside.numbers; room = vec_capacity c.self.inside.effects }) c.step.new.self c.clear.new.self.items c.step.new.out.items c.in_ok-self-inside.field-0 (vec_capacity c.step.new.out)
    here (step.stands o h here.stands) c.clear.ensures.items (step.effects o h here.stands) (step.numbers o h here.stands)
    (let z : vec_capacity c.self.inside.effects ≤ vec_capacity c.step.new.out = omega (arith, c.clear.ensures.capacity, c.step.ensures.capacity) in z)
