use Rattle.std.proofs.Common.{◌≡◌, ◌≤◌, ◌<◌, ◌+◌, ℕ, length, map, set, sym, subst, arith}
use Rattle.std.proofs.lemmas.List.{get_or_read}
use Rattle.iscsi_slots.specs.Slots.{times}
use Rattle.iscsi_lists.specs.Lists.{with_last, without}
use Rattle.iscsi_lines.specs.Lines.{Lined, line_at}
use Rattle.iscsi_lines.specs.Settling.{AllAre, IsLine, Moves, items_at, may_stand}
use Rattle.iscsi_scopes.specs.SlotLines.{Enters, lined}
use Rattle.iscsi_scopes.proofs.ScopeLemmas.{in_some, push_passed, push_scoped, push_stand, push_state}
use Rattle.iscsi_scopes.proofs.slot_lines.SlotLines.push.Goals as goal

pub move_to_back-requires-clause-slot : goal.move_to_back-requires-clause-slot
move_to_back-requires-clause-slot c =
    let i = c.self.inside in
    in_some i.conns.items i.lists c.self.invariant c.known.ensures.apart c.args.slot c.requires.low (subst (λ (v : Lined). c.args.slot ≤ v.slots.room) (sym c.self.view_is) c.requires.high)

pub settle-requires-clause-passed : goal.settle-requires-clause-passed
settle-requires-clause-passed c =
    let i = c.self.inside in
    let slot = c.args.slot in
    let line = c.args.line in
    let p = c.move_to_back.new.self in
    let low : line < length i.conns.items = subst (λ (v : Lined). line < v.count) (sym c.self.view_is) c.requires.line in
    let high : slot ≤ i.lists.room = subst (λ (v : Lined). slot ≤ v.slots.room) (sym c.self.view_is) c.requires.high in
    let none : (k : ℕ) → k < length i.conns.items → times slot (line_at (lined i.conns.items i.lists) k) ≡ 0 =
    subst (λ (v : Lined). (k : ℕ) → k < v.count → times slot (line_at v k) ≡ 0) (sym c.self.view_is) c.requires.none in
    let e : c.len.result ≡ length i.conns.items = (let a = c.len.ensures in let b = i.conns.ok.0 in omega (arith, a, b)) in
    let is = subst (λ k. p ≡ record i.lists { lists = with_last (k + line) slot (map (without slot) i.lists.lists) }) e c.move_to_back.ensures.state in
    push_passed i.conns.items i.lists c.self.invariant c.known.ensures.apart line low p c.set.new.self slot c.args.item none c.requires.low high is c.set.ensures c.known.ensures.values
    c.index.result.now (get_or_read i.conns.items line c.index.result.now low c.index.ensures 0)

pub settle-requires-clause-stand : goal.settle-requires-clause-stand
settle-requires-clause-stand c =
    let i = c.self.inside in
    let slot = c.args.slot in
    let line = c.args.line in
    let p = c.move_to_back.new.self in
    let low : line < length i.conns.items = subst (λ (v : Lined). line < v.count) (sym c.self.view_is) c.requires.line in
    let high : slot ≤ i.lists.room = subst (λ (v : Lined). slot ≤ v.slots.room) (sym c.self.view_is) c.requires.high in
    let none : (k : ℕ) → k < length i.conns.items → times slot (line_at (lined i.conns.items i.lists) k) ≡ 0 =
    subst (λ (v : Lined). (k : ℕ) → k < v.count → times slot (line_at v k) ≡ 0) (sym c.self.view_is) c.requires.none in
    let e : c.len.result ≡ length i.conns.items = (let a = c.len.ensures in let b = i.conns.ok.0 in omega (arith, a, b)) in
    let is = subst (λ k. p ≡ record i.lists { lists = with_last (k + line) slot (map (without slot) i.lists.lists) }) e c.move_to_back.ensures.state in
    subst (λ k. AllAre may_stand (items_at c.set.new.self (k + line))) (sym e)
    (push_stand i.conns.items i.lists c.self.invariant c.known.ensures.apart line low p c.set.new.self slot c.args.item none c.requires.low high is c.set.ensures c.known.ensures.values c.requires.stands)

pub invariant_of-self : goal.invariant_of-self
invariant_of-self c =
    let i = c.self.inside in
    let slot = c.args.slot in
    let line = c.args.line in
    let p = c.move_to_back.new.self in
    let u = c.settle.new.lists in
    let low : line < length i.conns.items = subst (λ (v : Lined). line < v.count) (sym c.self.view_is) c.requires.line in
    let high : slot ≤ i.lists.room = subst (λ (v : Lined). slot ≤ v.slots.room) (sym c.self.view_is) c.requires.high in
    let none : (k : ℕ) → k < length i.conns.items → times slot (line_at (lined i.conns.items i.lists) k) ≡ 0 =
    subst (λ (v : Lined). (k : ℕ) → k < v.count → times slot (line_at v k) ≡ 0) (sym c.self.view_is) c.requires.none in
    let e : c.len.result ≡ length i.conns.items = (let a = c.len.ensures in let b = i.conns.ok.0 in omega (arith, a, b)) in
    let is = subst (λ k. p ≡ record i.lists { lists = with_last (k + line) slot (map (without slot) i.lists.lists) }) e c.move_to_back.ensures.state in
    push_scoped i.conns.items i.lists c.self.invariant c.known.ensures.apart line low p c.set.new.self slot c.args.item none c.requires.low high is c.set.ensures c.known.ensures.values
    u c.settle.result (subst (λ k. Moves c.set.new.self u line (k + line)) e c.settle.ensures.moves) (subst (λ k. IsLine c.settle.result (items_at u line) (items_at u (k + line))) e c.settle.ensures.line)

pub returns : goal.returns
returns c =
    let i = c.self.inside in
    let slot = c.args.slot in
    let line = c.args.line in
    let p = c.move_to_back.new.self in
    let u = c.settle.new.lists in
    let low : line < length i.conns.items = subst (λ (v : Lined). line < v.count) (sym c.self.view_is) c.requires.line in
    let high : slot ≤ i.lists.room = subst (λ (v : Lined). slot ≤ v.slots.room) (sym c.self.view_is) c.requires.high in
    let none : (k : ℕ) → k < length i.conns.items → times slot (line_at (lined i.conns.items i.lists) k) ≡ 0 =
    subst (λ (v : Lined). (k : ℕ) → k < v.count → times slot (line_at v k) ≡ 0) (sym c.self.view_is) c.requires.none in
    let e : c.len.result ≡ length i.conns.items = (let a = c.len.ensures in let b = i.conns.ok.0 in omega (arith, a, b)) in
    let is = subst (λ k. p ≡ record i.lists { lists = with_last (k + line) slot (map (without slot) i.lists.lists) }) e c.move_to_back.ensures.state in
    subst (λ (v : Lined). Enters v (lined (set i.conns.items line c.settle.result) u) line slot c.args.item) c.self.view_is
    (push_state i.conns.items i.lists c.self.invariant c.known.ensures.apart line low p c.set.new.self slot c.args.item none c.requires.low high is c.set.ensures c.known.ensures.values
    u c.settle.result (subst (λ k. Moves c.set.new.self u line (k + line)) e c.settle.ensures.moves) (subst (λ k. IsLine c.settle.result (items_at u line) (items_at u (k + line))) e c.settle.ensures.line))
