use Rattle.std.proofs.Common.{◌≡◌, ◌∙◌, ◌+◌, ◌-◌, suc, length, refl, sym, ap, subst, arith}
use Rattle.iscsi_ffi_steps.specs.Walk.{Doing}
use Rattle.iscsi_ffi_steps.specs.Steps.{withholding}
use Rattle.iscsi_ffi_desk.specs.Calls.{popped_withheld}
use Rattle.iscsi_ffi.specs.Standing.{Sided}
use Rattle.iscsi_ffi.specs.contracts.side.Side.{the_view}
use Rattle.iscsi_ffi.proofs.WithheldLemmas.{IsWithholding, all_completed_at, none_left, one_completed, one_popped}
use Rattle.iscsi_ffi.proofs.side.Side.complete_each.Goals as goal

pub loop-done-init : goal.loop-done-init
loop-done-init c = λ i g b. record {
  now = g;
  begun = b;
  same = ap (λ n. withholding i n g) (let z : length g.doing.state.commands.items - 0 ≡ length g.doing.state.commands.items = omega arith in z);
}

pub loop-done-preserved : goal.loop-done-preserved
loop-done-preserved c = λ i g b.
    let all = length g.doing.state.commands.items in
    let P : Sided → Type 0 = λ v. IsWithholding i (all - c.loop-done._done) all v g in
    let v = the_view c.self-in-loop-done.inside in
    let w : IsWithholding i (all - c.loop-done._done) all v g = subst P (sym c.self-in-loop-done.view_is) (c.loop-done.invariant i g b) in
    let count : c.commands-done-end.result ≡ all =
    c.commands-done-end.ensures ∙ ap (λ (x : Sided). length x.desk.state.commands.items) c.self.view_is ∙ ap (λ (d : Doing). length d.state.commands.items) b.stands.doing in
    let one : all - c.loop-done._done ≡ suc (all - (c.loop-done._done + 1)) = omega (arith, count, c.loop-done-test.true) in
    one_completed i (all - c.loop-done._done) (all - (c.loop-done._done + 1)) all c.in-Some.ticket c.in-Some.status v c.take_event.new.self g w one
    (sym c.take_withheld.ensures.answer ∙ c.in-Some.is)
    (c.take_event.ensures i (record w.now { doing = popped_withheld w.now.doing }) (one_popped i (all - c.loop-done._done) all v g c.take_withheld.new.self w c.take_withheld.ensures.state) refl)

pub returns : goal.returns
returns c = λ i g b.
    let all = length g.doing.state.commands.items in
    let count : c.commands-done-end.result ≡ all =
    c.commands-done-end.ensures ∙ ap (λ (x : Sided). length x.desk.state.commands.items) c.self.view_is ∙ ap (λ (d : Doing). length d.state.commands.items) b.stands.doing in
    let none : all - c.loop-done._done ≡ 0 = omega (arith, count, c.loop-done-test.false) in
    none_left i (all - c.loop-done._done) all c.loop-done.self g (c.loop-done.invariant i g b) none

pub returns-in_default : goal.returns-in_default
returns-in_default c = λ i g b.
    let all = length g.doing.state.commands.items in
    let P : Sided → Type 0 = λ v. IsWithholding i (all - c.loop-done._done) all v g in
    let v = the_view c.self-in-loop-done.inside in
    let w : IsWithholding i (all - c.loop-done._done) all v g = subst P (sym c.self-in-loop-done.view_is) (c.loop-done.invariant i g b) in
    all_completed_at i (all - c.loop-done._done) all v g c.take_withheld.new.self w (sym c.take_withheld.ensures.answer ∙ c.in_default.is) c.take_withheld.ensures.state
