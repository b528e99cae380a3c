use Rattle.std.proofs.Common.{◌≤◌, set, ap, sym, subst, ◌∙◌}
use Rattle.iscsi_slots.specs.Slots.{times}
use Rattle.iscsi_lines.specs.declared.item.Item.TheVariants.{Command}
use Rattle.iscsi_lines.specs.Settling.{IsLess}
use Rattle.iscsi_scopes.specs.Scopes.{Scoped, item_of, scoped, shown, slots_of}
use Rattle.iscsi_scopes.proofs.KeyCalls.{is_some_from, line_inside, line_there, owe_keyed, owe_shown, some_line}
use Rattle.iscsi_scopes.proofs.scopes.Scopes.owe.Goals as goal

pub unwrap-line-requires : goal.unwrap-line-requires
unwrap-line-requires c =
    let i = c.self.inside in
    let there = subst (λ (s : Scoped). 1 ≤ times c.args.slot (slots_of c.args.key s.lines)) (sym c.self.view_is) c.requires.there in
    is_some_from c.find.result (λ none. some_line i.keys i.lines c.self.invariant c.known.ensures c.known-2.ensures.lines c.args.key c.args.slot there (sym c.find.ensures ∙ none))

pub owe-requires-clause-line : goal.owe-requires-clause-line
owe-requires-clause-line c =
    let i = c.self.inside in
    let there = subst (λ (s : Scoped). 1 ≤ times c.args.slot (slots_of c.args.key s.lines)) (sym c.self.view_is) c.requires.there in
    line_inside i.keys i.lines c.self.invariant c.known.ensures c.known-2.ensures.lines c.args.key c.args.slot there c.unwrap-line.result (sym c.find.ensures ∙ c.unwrap-line.ensures)

pub owe-requires-clause-there : goal.owe-requires-clause-there
owe-requires-clause-there c =
    let i = c.self.inside in
    let there = subst (λ (s : Scoped). 1 ≤ times c.args.slot (slots_of c.args.key s.lines)) (sym c.self.view_is) c.requires.there in
    line_there i.keys i.lines c.self.invariant c.known.ensures c.known-2.ensures.lines c.args.key c.args.slot there c.unwrap-line.result (sym c.find.ensures ∙ c.unwrap-line.ensures)

pub owe-requires-clause-less : goal.owe-requires-clause-less
owe-requires-clause-less c = subst (λ (s : Scoped). IsLess (item_of s c.args.slot) c.args.command) (sym c.self.view_is) c.requires.less

pub invariant_of-self : goal.invariant_of-self
invariant_of-self c =
    let i = c.self.inside in
    owe_keyed i.keys i.lines c.self.invariant c.known.ensures c.known-2.ensures.lines c.args.slot (Command c.args.command) c.owe.new.self c.owe.ensures

pub returns : goal.returns
returns c =
    let i = c.self.inside in
    let w = c.owe.new.self in
    let ks = shown i.lines i.keys.tags in
    owe_shown i.keys i.lines c.self.invariant c.known.ensures c.known-2.ensures.lines c.args.slot (Command c.args.command) w c.owe.ensures
    ∙ ap (λ xs. scoped ks xs w.slots.room) c.owe.ensures.values
    ∙ ap (scoped ks (set i.lines.slots.values c.args.slot (Command c.args.command))) c.owe.ensures.room
    ∙ ap (λ (s : Scoped). scoped s.lines (set s.items c.args.slot (Command c.args.command)) s.room) c.self.view_is
