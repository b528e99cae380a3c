use Rattle.std.proofs.Common.{◌≡◌, ◌≤◌, ◌<◌, ℕ, List, Some, true, length, ap, sym, subst, ◌∙◌}
use Rattle.std.proofs.lemmas.Bool.{false≢true}
use Rattle.iscsi_tags.specs.declared.tag_line.TagLine.{TagLine}
use Rattle.iscsi_tags.specs.Tags.{Tagged, line_at, line_of, tag_at}
use Rattle.iscsi_tags.proofs.TagLemmas.{AreBelow, beyond, line_here, line_nowhere}
use Rattle.iscsi_tags.proofs.tags.Tags.find.Goals as goal

pub returns-then-is_at : goal.returns-then-is_at
returns-then-is_at c =
    let ts = c.self.inside.tags.items in
    let k = c.count_below-k.result in
    let tag = c.args.tag in
    let below = subst (λ xs. AreBelow xs k tag) c.deref.ensures.value c.count_below-k.ensures.below in
    let here = subst (λ (xs : List TagLine). (k < length xs) × (tag_at xs k ≡ tag)) c.deref-2.ensures.value (c.is_at.ensures.yes c.if-is_at.true) in
    ap (λ (t : TagLine). Some t.line) (c.line_at.ensures ∙ ap (λ xs. line_at xs k) c.deref-then-is_at.ensures.value)
    ∙ sym (line_here ts k tag here.0 here.1 below) ∙ ap (λ (v : Tagged). line_of tag v.tags) c.self.view_is

pub returns : goal.returns
returns c =
    let ts = c.self.inside.tags.items in
    let k = c.count_below-k.result in
    let tag = c.args.tag in
    let below = subst (λ xs. AreBelow xs k tag) c.deref.ensures.value c.count_below-k.ensures.below in
    let above = subst (λ (xs : List TagLine). (j : ℕ) → k ≤ j → j < length xs → tag ≤ tag_at xs j) c.deref.ensures.value c.count_below-k.ensures.above in
    let no = subst (λ (xs : List TagLine). k < length xs → tag_at xs k ≡ tag → c.is_at.result ≡ true) c.deref-2.ensures.value c.is_at.ensures.no in
    sym (line_nowhere ts k tag below (beyond ts k tag c.self.invariant.ascending above (λ l at. false≢true (sym c.if-is_at.false ∙ no l at))))
    ∙ ap (λ (v : Tagged). line_of tag v.tags) c.self.view_is
