use Rattle.std.proofs.Common.{◌≡◌, ◌≤◌, set, ap, sym, subst, ◌∙◌, arith}
use Rattle.iscsi_scopes.specs.Scopes.{Scoped, entered, scoped, shown, times_over}
use Rattle.iscsi_scopes.proofs.KeyCalls.{none_in, push_keyed, push_shown, room_for}
use Rattle.iscsi_scopes.proofs.scopes.Scopes.push.Goals as goal

pub enter-line-requires : goal.enter-line-requires
enter-line-requires c =
    let i = c.self.inside in
    let none = subst (λ (s : Scoped). times_over c.args.slot s.lines ≡ 0) (sym c.self.view_is) c.requires.none in
    let high = subst (λ (s : Scoped). c.args.slot ≤ s.room) (sym c.self.view_is) c.requires.high in
    room_for i.keys i.lines c.self.invariant c.known.ensures c.known-2.ensures.lines c.args.slot none c.requires.low high

pub push-requires-clause-line : goal.push-requires-clause-line
push-requires-clause-line c =
    let a = c.enter-line.ensures.within in let b = c.self.invariant.count in omega (arith, a, b)

pub push-requires-clause-high : goal.push-requires-clause-high
push-requires-clause-high c = subst (λ (s : Scoped). c.args.slot ≤ s.room) (sym c.self.view_is) c.requires.high

pub push-requires-clause-none : goal.push-requires-clause-none
push-requires-clause-none c =
    let i = c.self.inside in
    let none = subst (λ (s : Scoped). times_over c.args.slot s.lines ≡ 0) (sym c.self.view_is) c.requires.none in
    none_in i.keys i.lines c.self.invariant c.known.ensures c.known-2.ensures.lines c.args.slot none

pub invariant_of-self : goal.invariant_of-self
invariant_of-self c =
    let i = c.self.inside in
    let e = c.enter-line.ensures in
    let none = subst (λ (s : Scoped). times_over c.args.slot s.lines ≡ 0) (sym c.self.view_is) c.requires.none in
    push_keyed i.keys i.lines c.self.invariant c.known.ensures c.known-2.ensures.lines c.args.key c.args.slot c.enter-line.result c.args.item none e.within e.line e.fresh
    c.enter-line.new.self e.state c.push.new.self c.push.ensures

pub returns : goal.returns
returns c =
    let i = c.self.inside in
    let e = c.enter-line.ensures in
    let w = c.push.new.self in
    let ks = entered c.args.key c.args.slot (shown i.lines i.keys.tags) in
    let none = subst (λ (s : Scoped). times_over c.args.slot s.lines ≡ 0) (sym c.self.view_is) c.requires.none in
    push_shown i.keys i.lines c.self.invariant c.known.ensures c.known-2.ensures.lines c.args.key c.args.slot c.enter-line.result c.args.item none e.within e.line e.fresh
    c.enter-line.new.self e.state w c.push.ensures
    ∙ ap (λ xs. scoped ks xs w.slots.room) c.push.ensures.values
    ∙ ap (scoped ks (set i.lines.slots.values c.args.slot c.args.item)) c.push.ensures.room
    ∙ ap (λ (s : Scoped). scoped (entered c.args.key c.args.slot s.lines) (set s.items c.args.slot c.args.item) s.room) c.self.view_is
