use Rattle.std.proofs.Common.{◌≡◌, ◌<◌, ◌+◌, ◌∙◌, cond, ap, length, not, Some, None, sym, subst, arith}
use Rattle.std.specs.List.{list_any}
use Rattle.iscsi_lists.specs.Lists.{first_of}
use Rattle.iscsi_lines.specs.Lines.{BLANK, Lined, holds_back, due_in, line_at}
use Rattle.iscsi_lines.specs.Settling.{conn_at, items_at, slots_at}
use Rattle.iscsi_lines.proofs.DueLemmas.{due_at_none, due_at_command, due_at_answer}
use Rattle.iscsi_scopes.proofs.slot_lines.SlotLines.due.Goals as goal

pub returns-in_err-slot : goal.returns-in_err-slot
returns-in_err-slot c =
    let i = c.self.inside in
    let low : c.args.line < length i.conns.items = subst (λ (v : Lined). c.args.line < v.count) (sym c.self.view_is) c.requires in
    let e : c.len.result ≡ length i.conns.items = (let a = c.len.ensures in let b = i.conns.ok.0 in omega (arith, a, b)) in
    let is = c.self.invariant.each c.args.line low in
    c.from_residual.ensures ∙ subst (λ (v : Lined). None ≡ due_in v.slots.values (line_at v c.args.line)) c.self.view_is
    (due_at_none i.lists (conn_at i.conns.items c.args.line) c.args.line (length i.conns.items + c.args.line) is (subst (λ k. None ≡ first_of (slots_at i.lists (k + c.args.line))) e c.in_err-slot.ensures.slot))

pub returns-in_default : goal.returns-in_default
returns-in_default c =
    let i = c.self.inside in
    let low : c.args.line < length i.conns.items = subst (λ (v : Lined). c.args.line < v.count) (sym c.self.view_is) c.requires in
    let e : c.len.result ≡ length i.conns.items = (let a = c.len.ensures in let b = i.conns.ok.0 in omega (arith, a, b)) in
    let is = c.self.invariant.each c.args.line low in
    subst (λ (v : Lined). None ≡ due_in v.slots.values (line_at v c.args.line)) c.self.view_is
    (due_at_command i.lists (conn_at i.conns.items c.args.line) c.args.line (length i.conns.items + c.args.line) is c.in_ok-slot.slot c.in_default.field-0 (subst (λ k. Some c.in_ok-slot.slot ≡ first_of (slots_at i.lists (k + c.args.line))) e c.in_ok-slot.ensures.slot) (sym (c.at.ensures BLANK) ∙ c.in_default.is))

pub returns-then-is_clear : goal.returns-then-is_clear
returns-then-is_clear c =
    let i = c.self.inside in
    let low : c.args.line < length i.conns.items = subst (λ (v : Lined). c.args.line < v.count) (sym c.self.view_is) c.requires in
    let e : c.len.result ≡ length i.conns.items = (let a = c.len.ensures in let b = i.conns.ok.0 in omega (arith, a, b)) in
    let is = c.self.invariant.each c.args.line low in
    subst (λ (v : Lined). Some c.in_ok-slot.slot ≡ due_in v.slots.values (line_at v c.args.line)) c.self.view_is
    (sym (due_at_answer i.lists (conn_at i.conns.items c.args.line) c.args.line (length i.conns.items + c.args.line) is c.in_ok-slot.slot c.in-Answer.conn (subst (λ k. Some c.in_ok-slot.slot ≡ first_of (slots_at i.lists (k + c.args.line))) e c.in_ok-slot.ensures.slot) (sym (c.at.ensures BLANK) ∙ c.in-Answer.is) c.is_clear.result
    (c.is_clear.ensures ∙ ap (λ (v : Lined). not (list_any (holds_back c.in-Answer.conn) (items_at v.slots c.args.line))) (sym c.self.view_is))
    ∙ ap (λ b. cond b (Some c.in_ok-slot.slot) None) c.if-is_clear.true))

pub returns-else-is_clear : goal.returns-else-is_clear
returns-else-is_clear c =
    let i = c.self.inside in
    let low : c.args.line < length i.conns.items = subst (λ (v : Lined). c.args.line < v.count) (sym c.self.view_is) c.requires in
    let e : c.len.result ≡ length i.conns.items = (let a = c.len.ensures in let b = i.conns.ok.0 in omega (arith, a, b)) in
    let is = c.self.invariant.each c.args.line low in
    subst (λ (v : Lined). None ≡ due_in v.slots.values (line_at v c.args.line)) c.self.view_is
    (sym (due_at_answer i.lists (conn_at i.conns.items c.args.line) c.args.line (length i.conns.items + c.args.line) is c.in_ok-slot.slot c.in-Answer.conn (subst (λ k. Some c.in_ok-slot.slot ≡ first_of (slots_at i.lists (k + c.args.line))) e c.in_ok-slot.ensures.slot) (sym (c.at.ensures BLANK) ∙ c.in-Answer.is) c.is_clear.result
    (c.is_clear.ensures ∙ ap (λ (v : Lined). not (list_any (holds_back c.in-Answer.conn) (items_at v.slots c.args.line))) (sym c.self.view_is))
    ∙ ap (λ b. cond b (Some c.in_ok-slot.slot) None) c.if-is_clear.false))
