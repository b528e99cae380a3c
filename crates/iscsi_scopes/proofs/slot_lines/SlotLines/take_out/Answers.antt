use Rattle.std.proofs.Common.{◌≡◌, ◌≤◌, ◌<◌, ◌+◌, length, map, set, sym, subst, arith}
use Rattle.std.proofs.lemmas.List.{get_or_read}
use Rattle.iscsi_slots.specs.Slots.{times}
use Rattle.iscsi_lists.specs.Lists.{with_last, without}
use Rattle.iscsi_lines.specs.Lines.{Lined, line_at}
use Rattle.iscsi_lines.specs.Settling.{AllAre, IsLine, Moves, items_at, may_stand}
use Rattle.iscsi_scopes.specs.SlotLines.{Leaves, lined}
use Rattle.iscsi_scopes.proofs.ScopeLemmas.{out_passed, out_scoped, out_stand, out_state, part_in}
use Rattle.iscsi_scopes.proofs.slot_lines.SlotLines.take_out.Goals as goal

pub move_to_back-requires-clause-slot : goal.move_to_back-requires-clause-slot
move_to_back-requires-clause-slot c =
    let i = c.self.inside in
    part_in i.conns.items i.lists c.self.invariant c.known.ensures.apart c.args.line c.args.slot (subst (λ (v : Lined). 1 ≤ times c.args.slot (line_at v c.args.line)) (sym c.self.view_is) c.requires.there)

pub settle-requires-clause-passed : goal.settle-requires-clause-passed
settle-requires-clause-passed c =
    let i = c.self.inside in
    let slot = c.args.slot in
    let line = c.args.line in
    let t = c.move_to_back.new.self in
    let low : line < length i.conns.items = subst (λ (v : Lined). line < v.count) (sym c.self.view_is) c.requires.line in
    let there : 1 ≤ times slot (line_at (lined i.conns.items i.lists) line) = subst (λ (v : Lined). 1 ≤ times slot (line_at v line)) (sym c.self.view_is) c.requires.there in
    let e : c.len-lines.result ≡ length i.conns.items = (let a = c.len-lines.ensures in let b = i.conns.ok.0 in omega (arith, a, b)) in
    let is = subst (λ k. t ≡ record i.lists { lists = with_last (k + k) slot (map (without slot) i.lists.lists) }) e c.move_to_back.ensures.state in
    out_passed i.conns.items i.lists c.self.invariant c.known.ensures.apart line low t slot there is
    c.index.result.now (get_or_read i.conns.items line c.index.result.now low c.index.ensures 0)

pub settle-requires-clause-stand : goal.settle-requires-clause-stand
settle-requires-clause-stand c =
    let i = c.self.inside in
    let slot = c.args.slot in
    let line = c.args.line in
    let t = c.move_to_back.new.self in
    let low : line < length i.conns.items = subst (λ (v : Lined). line < v.count) (sym c.self.view_is) c.requires.line in
    let there : 1 ≤ times slot (line_at (lined i.conns.items i.lists) line) = subst (λ (v : Lined). 1 ≤ times slot (line_at v line)) (sym c.self.view_is) c.requires.there in
    let e : c.len-lines.result ≡ length i.conns.items = (let a = c.len-lines.ensures in let b = i.conns.ok.0 in omega (arith, a, b)) in
    let is = subst (λ k. t ≡ record i.lists { lists = with_last (k + k) slot (map (without slot) i.lists.lists) }) e c.move_to_back.ensures.state in
    subst (λ k. AllAre may_stand (items_at t (k + line))) (sym e)
    (out_stand i.conns.items i.lists c.self.invariant c.known.ensures.apart line low t slot there is)

pub invariant_of-self : goal.invariant_of-self
invariant_of-self c =
    let i = c.self.inside in
    let slot = c.args.slot in
    let line = c.args.line in
    let t = c.move_to_back.new.self in
    let u = c.settle.new.lists in
    let low : line < length i.conns.items = subst (λ (v : Lined). line < v.count) (sym c.self.view_is) c.requires.line in
    let there : 1 ≤ times slot (line_at (lined i.conns.items i.lists) line) = subst (λ (v : Lined). 1 ≤ times slot (line_at v line)) (sym c.self.view_is) c.requires.there in
    let e : c.len-lines.result ≡ length i.conns.items = (let a = c.len-lines.ensures in let b = i.conns.ok.0 in omega (arith, a, b)) in
    let is = subst (λ k. t ≡ record i.lists { lists = with_last (k + k) slot (map (without slot) i.lists.lists) }) e c.move_to_back.ensures.state in
    out_scoped i.conns.items i.lists c.self.invariant c.known.ensures.apart line low t slot there is
    u c.settle.result (subst (λ k. Moves t u line (k + line)) e c.settle.ensures.moves) (subst (λ k. IsLine c.settle.result (items_at u line) (items_at u (k + line))) e c.settle.ensures.line)

pub returns : goal.returns
returns c =
    let i = c.self.inside in
    let slot = c.args.slot in
    let line = c.args.line in
    let t = c.move_to_back.new.self in
    let u = c.settle.new.lists in
    let low : line < length i.conns.items = subst (λ (v : Lined). line < v.count) (sym c.self.view_is) c.requires.line in
    let there : 1 ≤ times slot (line_at (lined i.conns.items i.lists) line) = subst (λ (v : Lined). 1 ≤ times slot (line_at v line)) (sym c.self.view_is) c.requires.there in
    let e : c.len-lines.result ≡ length i.conns.items = (let a = c.len-lines.ensures in let b = i.conns.ok.0 in omega (arith, a, b)) in
    let is = subst (λ k. t ≡ record i.lists { lists = with_last (k + k) slot (map (without slot) i.lists.lists) }) e c.move_to_back.ensures.state in
    subst (λ (v : Lined). Leaves v (lined (set i.conns.items line c.settle.result) u) line slot) c.self.view_is
    (out_state i.conns.items i.lists c.self.invariant c.known.ensures.apart line low t slot there is
    u c.settle.result (subst (λ k. Moves t u line (k + line)) e c.settle.ensures.moves) (subst (λ k. IsLine c.settle.result (items_at u line) (items_at u (k + line))) e c.settle.ensures.line))
