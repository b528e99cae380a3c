use Rattle.std.proofs.Common.{true, ◌≡◌, ◌<◌, ◌∙◌, not, length, sym, subst}
use Rattle.std.specs.List.{list_any}
use Rattle.std.proofs.lemmas.List.{get_or_read}
use Rattle.iscsi_lines.specs.Lines.{Lined, holds_back}
use Rattle.iscsi_lines.specs.Settling.{conn_at, items_at}
use Rattle.iscsi_lines.proofs.DueLemmas.{same_clear, empty_clear}
use Rattle.iscsi_scopes.proofs.slot_lines.SlotLines.is_clear.Goals as goal

pub returns-then-index-conn : goal.returns-then-index-conn
returns-then-index-conn c =
    let i = c.self.inside in
    let low : c.args.line < length i.conns.items = subst (λ (v : Lined). c.args.line < v.count) (sym c.self.view_is) c.requires in
    subst (λ (v : Lined). true ≡ not (list_any (holds_back c.args.conn) (items_at v.slots c.args.line))) c.self.view_is
    (same_clear (conn_at i.conns.items c.args.line) c.args.conn (items_at i.lists c.args.line) (c.self.invariant.each c.args.line low).passed
    (sym (get_or_read i.conns.items c.args.line c.index.result.now low c.index.ensures 0) ∙ c.if-index-conn.true))

pub returns : goal.returns
returns c =
    let i = c.self.inside in
    let low : c.args.line < length i.conns.items = subst (λ (v : Lined). c.args.line < v.count) (sym c.self.view_is) c.requires in
    subst (λ (v : Lined). c.is_empty.result ≡ not (list_any (holds_back c.args.conn) (items_at v.slots c.args.line))) c.self.view_is
    (empty_clear i.lists c.args.line (conn_at i.conns.items c.args.line) c.args.conn c.is_empty.result (c.self.invariant.each c.args.line low).passed
    (λ e. c.if-index-conn.false (get_or_read i.conns.items c.args.line c.index.result.now low c.index.ensures 0 ∙ e))
    c.is_empty.ensures.yes c.is_empty.ensures.no)
