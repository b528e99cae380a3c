use Rattle.std.proofs.Common.{◌≡◌, [], ◌++◌, true, length, take, ap, sym, ◌∙◌, eqb-true, arith}
use Rattle.std.proofs.lemmas.List.{with_items_is}
use Rattle.std.proofs.lemmas.List.{nil_from_length}
use Rattle.std.specs.Vec.{with_items}
use Rattle.std.specs.List.{flat_map}
use Rattle.iscsi_report.specs.Lines.{effect_line}
use Rattle.iscsi_report.specs.Filled.{filled}
use Rattle.iscsi_report.proofs.FilledLemmas.{filled_front}
use Rattle.iscsi_report.proofs.report.Report.end.Goals as goal

pub returns-then-not-is_empty-clause-text : goal.returns-then-not-is_empty-clause-text
returns-then-not-is_empty-clause-text c = λ text es lines.
    let inside = c.self.inside in
    let whole : c.fill.new.bytes ≡ filled c.args.numbers inside.places.items inside.memory.text.items =
    rw (c.deref.ensures.value, c.deref_mut.ensures.value) at c.fill.ensures.filled in
    let is : inside.memory.is_whole ≡ true = c.if-not-self.false in
    let text_is : take inside.len (with_items inside.memory.text c.fill.new.bytes).items ≡ text ++ flat_map (λ effect. effect_line effect c.args.numbers) es =
    ap (take inside.len) (with_items_is inside.memory.text c.fill.new.bytes (omega (arith, c.fill.ensures.long, c.deref_mut.ensures.len)) ∙ whole)
    ∙ filled_front c.args.numbers inside.places.items inside.memory.text.items inside.len c.self.invariant.1.0 (omega (arith, c.self.invariant.0, ap length c.deref_mut.ensures.value, c.deref_mut.ensures.len))
    ∙ (rw (← c.self.view_is) at lines) is c.args.numbers in
    rw (text_is, c.clear.ensures.items, is)

pub returns-else-not-is_empty-clause-text : goal.returns-else-not-is_empty-clause-text
returns-else-not-is_empty-clause-text c = λ text es lines.
    let inside = c.self.inside in
    let is : inside.memory.is_whole ≡ true = c.if-not-self.false in
    let none : inside.places.items ≡ [] = nil_from_length inside.places.items (omega (arith, inside.places.ok.0, eqb-true _ _ (sym c.is_empty.ensures ∙ c.if-not-is_empty.false))) in
    let text_is : take inside.len inside.memory.text.items ≡ text ++ flat_map (λ effect. effect_line effect c.args.numbers) es =
    ap (λ ps. filled c.args.numbers ps (take inside.len inside.memory.text.items)) (sym none) ∙ (rw (← c.self.view_is) at lines) is c.args.numbers in
    rw (← c.self.view_is, text_is, none, is)
