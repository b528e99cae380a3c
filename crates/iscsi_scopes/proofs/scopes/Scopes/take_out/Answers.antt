use Rattle.std.proofs.Common.{◌≤◌, ap, sym, subst, ◌∙◌}
use Rattle.iscsi_slots.specs.Slots.{times}
use Rattle.iscsi_scopes.specs.Scopes.{Scoped, left, scoped, slots_of}
use Rattle.iscsi_scopes.proofs.KeyCalls.{is_some_from, line_inside, line_there, out_keyed, out_shown, some_line}
use Rattle.iscsi_scopes.proofs.scopes.Scopes.take_out.Goals as goal

pub unwrap-line-requires : goal.unwrap-line-requires
unwrap-line-requires c =
    let i = c.self.inside in
    let there = subst (λ (s : Scoped). 1 ≤ times c.args.slot (slots_of c.args.key s.lines)) (sym c.self.view_is) c.requires in
    is_some_from c.find.result (λ none. some_line i.keys i.lines c.self.invariant c.known.ensures c.known-2.ensures.lines c.args.key c.args.slot there (sym c.find.ensures ∙ none))

pub take_out-requires-clause-line : goal.take_out-requires-clause-line
take_out-requires-clause-line c =
    let i = c.self.inside in
    let there = subst (λ (s : Scoped). 1 ≤ times c.args.slot (slots_of c.args.key s.lines)) (sym c.self.view_is) c.requires in
    line_inside i.keys i.lines c.self.invariant c.known.ensures c.known-2.ensures.lines c.args.key c.args.slot there c.unwrap-line.result (sym c.find.ensures ∙ c.unwrap-line.ensures)

pub take_out-requires-clause-there : goal.take_out-requires-clause-there
take_out-requires-clause-there c =
    let i = c.self.inside in
    let there = subst (λ (s : Scoped). 1 ≤ times c.args.slot (slots_of c.args.key s.lines)) (sym c.self.view_is) c.requires in
    line_there i.keys i.lines c.self.invariant c.known.ensures c.known-2.ensures.lines c.args.key c.args.slot there c.unwrap-line.result (sym c.find.ensures ∙ c.unwrap-line.ensures)

pub invariant_of-self : goal.invariant_of-self
invariant_of-self c =
    let i = c.self.inside in
    let there = subst (λ (s : Scoped). 1 ≤ times c.args.slot (slots_of c.args.key s.lines)) (sym c.self.view_is) c.requires in
    out_keyed i.keys i.lines c.self.invariant c.known.ensures c.known-2.ensures.lines c.args.key c.args.slot there c.unwrap-line.result (sym c.find.ensures ∙ c.unwrap-line.ensures)
    c.leave.new.self c.leave.ensures c.take_out.new.self c.take_out.ensures

pub returns : goal.returns
returns c =
    let i = c.self.inside in
    let there = subst (λ (s : Scoped). 1 ≤ times c.args.slot (slots_of c.args.key s.lines)) (sym c.self.view_is) c.requires in
    out_shown i.keys i.lines c.self.invariant c.known.ensures c.known-2.ensures.lines c.args.key c.args.slot there c.unwrap-line.result (sym c.find.ensures ∙ c.unwrap-line.ensures)
    c.leave.new.self c.leave.ensures c.take_out.new.self c.take_out.ensures
    ∙ ap (λ (s : Scoped). scoped (left c.args.key c.args.slot s.lines) s.items s.room) c.self.view_is
