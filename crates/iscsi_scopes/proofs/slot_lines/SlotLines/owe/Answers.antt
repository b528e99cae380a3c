use Rattle.std.proofs.Common.{◌≡◌, ◌≤◌, ◌<◌, ◌+◌, length, set, sym, subst, arith}
use Rattle.std.proofs.lemmas.List.{get_or_read}
use Rattle.iscsi_slots.specs.Slots.{times}
use Rattle.iscsi_lines.specs.declared.item.Item.TheVariants.{Command}
use Rattle.iscsi_lines.specs.Lines.{Lined, item_at, line_at}
use Rattle.iscsi_lines.specs.Settling.{AllAre, IsLess, IsLine, Moves, items_at, may_stand}
use Rattle.iscsi_scopes.specs.SlotLines.{Lessens, lined}
use Rattle.iscsi_scopes.proofs.ScopeLemmas.{owe_passed, owe_scoped, owe_stand, owe_state, part_within}
use Rattle.iscsi_scopes.proofs.slot_lines.SlotLines.owe.Goals as goal

pub set-requires : goal.set-requires
set-requires c =
    let i = c.self.inside in
    part_within i.conns.items i.lists c.self.invariant c.known.ensures.apart c.args.line c.args.slot (subst (λ (v : Lined). 1 ≤ times c.args.slot (line_at v c.args.line)) (sym c.self.view_is) c.requires.there)

pub settle-requires-clause-passed : goal.settle-requires-clause-passed
settle-requires-clause-passed c =
    let i = c.self.inside in
    let slot = c.args.slot in
    let line = c.args.line in
    let low : line < length i.conns.items = subst (λ (v : Lined). line < v.count) (sym c.self.view_is) c.requires.line in
    let there : 1 ≤ times slot (line_at (lined i.conns.items i.lists) line) = subst (λ (v : Lined). 1 ≤ times slot (line_at v line)) (sym c.self.view_is) c.requires.there in
    owe_passed i.conns.items i.lists c.self.invariant c.known.ensures.apart line low c.set.new.self slot c.args.command there c.set.ensures c.known.ensures.values c.requires.owes
    (subst (λ (v : Lined). IsLess (item_at v slot) c.args.command) (sym c.self.view_is) c.requires.less)
    c.index.result.now (get_or_read i.conns.items line c.index.result.now low c.index.ensures 0)

pub settle-requires-clause-stand : goal.settle-requires-clause-stand
settle-requires-clause-stand c =
    let i = c.self.inside in
    let slot = c.args.slot in
    let line = c.args.line in
    let low : line < length i.conns.items = subst (λ (v : Lined). line < v.count) (sym c.self.view_is) c.requires.line in
    let there : 1 ≤ times slot (line_at (lined i.conns.items i.lists) line) = subst (λ (v : Lined). 1 ≤ times slot (line_at v line)) (sym c.self.view_is) c.requires.there in
    let e : c.len.result ≡ length i.conns.items = (let a = c.len.ensures in let b = i.conns.ok.0 in omega (arith, a, b)) in
    subst (λ k. AllAre may_stand (items_at c.set.new.self (k + line))) (sym e)
    (owe_stand i.conns.items i.lists c.self.invariant c.known.ensures.apart line low c.set.new.self slot c.args.command there c.set.ensures c.known.ensures.values c.requires.owes)

pub invariant_of-self : goal.invariant_of-self
invariant_of-self c =
    let i = c.self.inside in
    let slot = c.args.slot in
    let line = c.args.line in
    let u = c.settle.new.lists in
    let low : line < length i.conns.items = subst (λ (v : Lined). line < v.count) (sym c.self.view_is) c.requires.line in
    let there : 1 ≤ times slot (line_at (lined i.conns.items i.lists) line) = subst (λ (v : Lined). 1 ≤ times slot (line_at v line)) (sym c.self.view_is) c.requires.there in
    let e : c.len.result ≡ length i.conns.items = (let a = c.len.ensures in let b = i.conns.ok.0 in omega (arith, a, b)) in
    owe_scoped i.conns.items i.lists c.self.invariant c.known.ensures.apart line low c.set.new.self slot c.args.command there c.set.ensures c.known.ensures.values c.requires.owes
    u c.settle.result (subst (λ k. Moves c.set.new.self u line (k + line)) e c.settle.ensures.moves) (subst (λ k. IsLine c.settle.result (items_at u line) (items_at u (k + line))) e c.settle.ensures.line)

pub returns : goal.returns
returns c =
    let i = c.self.inside in
    let slot = c.args.slot in
    let line = c.args.line in
    let u = c.settle.new.lists in
    let low : line < length i.conns.items = subst (λ (v : Lined). line < v.count) (sym c.self.view_is) c.requires.line in
    let there : 1 ≤ times slot (line_at (lined i.conns.items i.lists) line) = subst (λ (v : Lined). 1 ≤ times slot (line_at v line)) (sym c.self.view_is) c.requires.there in
    let e : c.len.result ≡ length i.conns.items = (let a = c.len.ensures in let b = i.conns.ok.0 in omega (arith, a, b)) in
    subst (λ (v : Lined). Lessens v (lined (set i.conns.items line c.settle.result) u) slot (Command c.args.command)) c.self.view_is
    (owe_state i.conns.items i.lists c.self.invariant c.known.ensures.apart line low c.set.new.self slot c.args.command there c.set.ensures c.known.ensures.values c.requires.owes
    u c.settle.result (subst (λ k. Moves c.set.new.self u line (k + line)) e c.settle.ensures.moves) (subst (λ k. IsLine c.settle.result (items_at u line) (items_at u (k + line))) e c.settle.ensures.line))
