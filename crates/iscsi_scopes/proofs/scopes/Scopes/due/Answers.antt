use Rattle.std.proofs.Common.{ap, sym, ◌∙◌}
use Rattle.iscsi_lines.specs.Lines.{due_in}
use Rattle.iscsi_scopes.specs.Scopes.{Scoped, slots_of}
use Rattle.iscsi_scopes.proofs.KeyLemmas.{slots_none, slots_some}
use Rattle.iscsi_scopes.proofs.KeyCalls.{found_inside}
use Rattle.iscsi_scopes.proofs.scopes.Scopes.due.Goals as goal

pub returns-in_err-line : goal.returns-in_err-line
returns-in_err-line c =
    let i = c.self.inside in
    c.from_residual.ensures
    ∙ ap (due_in i.lines.slots.values) (sym (slots_none i.lines c.args.key i.keys.tags (sym c.in_err-line.ensures)))
    ∙ ap (λ (s : Scoped). due_in s.items (slots_of c.args.key s.lines)) c.self.view_is

pub due-requires : goal.due-requires
due-requires c =
    let i = c.self.inside in
    found_inside i.keys i.lines c.self.invariant c.known.ensures c.args.key c.in_ok-line.field-0 (sym c.in_ok-line.ensures)

pub returns : goal.returns
returns c =
    let i = c.self.inside in
    c.due.ensures
    ∙ ap (due_in i.lines.slots.values) (sym (slots_some i.lines c.args.key c.in_ok-line.field-0 i.keys.tags (sym c.in_ok-line.ensures)))
    ∙ ap (λ (s : Scoped). due_in s.items (slots_of c.args.key s.lines)) c.self.view_is
