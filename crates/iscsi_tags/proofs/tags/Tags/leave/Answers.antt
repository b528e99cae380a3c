use Rattle.std.proofs.Common.{◌≡◌, ◌≤◌, ◌<◌, ℕ, List, true, length, vec_capacity, ap, sym, subst, ◌∙◌, arith}
use Rattle.std.proofs.lemmas.Bool.{false≢true}
use Rattle.iscsi_tags.specs.declared.tag_line.TagLine.{TagLine}
use Rattle.iscsi_tags.specs.Tags.{Tagged, left, line_at, tag_at, tagged}
use Rattle.iscsi_tags.proofs.TagLemmas.{AreBelow, beyond, free_fits, held_gone, held_less, left_fewer, left_gone, left_none, line_nowhere}
use Rattle.iscsi_tags.proofs.tags.Tags.leave.Goals as goal

pub returns-then-not-is_at : goal.returns-then-not-is_at
returns-then-not-is_at c =
    let i = c.self.inside in
    let k = c.count_below-k.result in
    let tag = c.args.tag in
    let below = subst (λ xs. AreBelow xs k tag) c.deref.ensures.value c.count_below-k.ensures.below in
    let above = subst (λ (xs : List TagLine). (j : ℕ) → k ≤ j → j < length xs → tag ≤ tag_at xs j) c.deref.ensures.value c.count_below-k.ensures.above in
    let no = subst (λ (xs : List TagLine). k < length xs → tag_at xs k ≡ tag → c.is_at.result ≡ true) c.deref-2.ensures.value c.is_at.ensures.no in
    let past = beyond i.tags.items k tag c.self.invariant.ascending above (λ l at. false≢true (sym c.if-not-is_at.true ∙ no l at)) in
    sym c.self.view_is
    ∙ ap (λ xs. tagged xs i.room) (sym (left_none i.tags.items tag (line_nowhere i.tags.items k tag below past)))
    ∙ ap (λ (v : Tagged). tagged (left tag v.tags) v.room) c.self.view_is

pub invariant_of-self : goal.invariant_of-self
invariant_of-self c =
    let i = c.self.inside in
    let k = c.count_below-k.result in
    let tag = c.args.tag in
    let below = subst (λ xs. AreBelow xs k tag) c.deref.ensures.value c.count_below-k.ensures.below in
    let here = subst (λ (xs : List TagLine). (k < length xs) × (tag_at xs k ≡ tag)) c.deref-2.ensures.value (c.is_at.ensures.yes c.if-not-is_at.false) in
    let at : c.line_at.result.now ≡ line_at i.tags.items k = c.line_at.ensures ∙ ap (λ xs. line_at xs k) c.deref-3.ensures.value in
    let several : 1 < (line_at i.tags.items k).uses = subst (λ (t : TagLine). 1 < t.uses) at c.if-uses-gt1.true in
    held_less i.tags.items i.free.items (vec_capacity i.tags) (vec_capacity i.free) i.room c.self.invariant k here.0 several
    c.use_less.new.tags.items (vec_capacity c.use_less.new.tags) c.use_less.ensures.tags c.use_less.ensures.capacity

pub returns-then-uses-gt1 : goal.returns-then-uses-gt1
returns-then-uses-gt1 c =
    let i = c.self.inside in
    let k = c.count_below-k.result in
    let tag = c.args.tag in
    let below = subst (λ xs. AreBelow xs k tag) c.deref.ensures.value c.count_below-k.ensures.below in
    let here = subst (λ (xs : List TagLine). (k < length xs) × (tag_at xs k ≡ tag)) c.deref-2.ensures.value (c.is_at.ensures.yes c.if-not-is_at.false) in
    let at : c.line_at.result.now ≡ line_at i.tags.items k = c.line_at.ensures ∙ ap (λ xs. line_at xs k) c.deref-3.ensures.value in
    let several : 1 < (line_at i.tags.items k).uses = subst (λ (t : TagLine). 1 < t.uses) at c.if-uses-gt1.true in
    ap (λ xs. tagged xs i.room) (c.use_less.ensures.tags ∙ sym (left_fewer i.tags.items k tag here.0 here.1 below several))
    ∙ ap (λ (v : Tagged). tagged (left tag v.tags) v.room) c.self.view_is

pub push_reserved-requires : goal.push_reserved-requires
push_reserved-requires c =
    let i = c.self.inside in
    let k = c.count_below-k.result in
    let tag = c.args.tag in
    let below = subst (λ xs. AreBelow xs k tag) c.deref.ensures.value c.count_below-k.ensures.below in
    let here = subst (λ (xs : List TagLine). (k < length xs) × (tag_at xs k ≡ tag)) c.deref-2.ensures.value (c.is_at.ensures.yes c.if-not-is_at.false) in
    let at : c.line_at.result.now ≡ line_at i.tags.items k = c.line_at.ensures ∙ ap (λ xs. line_at xs k) c.deref-3.ensures.value in
    let long = i.free.ok.0 in
    let fit = free_fits i.tags.items i.free.items (vec_capacity i.tags) (vec_capacity i.free) i.room c.self.invariant k c.line_at.result.now.line here.0 (ap (λ (t : TagLine). t.line) at) in
    omega (arith, long, fit)

pub invariant_of-self-else-uses-gt1 : goal.invariant_of-self-else-uses-gt1
invariant_of-self-else-uses-gt1 c =
    let i = c.self.inside in
    let k = c.count_below-k.result in
    let tag = c.args.tag in
    let below = subst (λ xs. AreBelow xs k tag) c.deref.ensures.value c.count_below-k.ensures.below in
    let here = subst (λ (xs : List TagLine). (k < length xs) × (tag_at xs k ≡ tag)) c.deref-2.ensures.value (c.is_at.ensures.yes c.if-not-is_at.false) in
    let at : c.line_at.result.now ≡ line_at i.tags.items k = c.line_at.ensures ∙ ap (λ xs. line_at xs k) c.deref-3.ensures.value in
    held_gone i.tags.items i.free.items (vec_capacity i.tags) (vec_capacity i.free) i.room c.self.invariant k c.line_at.result.now.line here.0 (ap (λ (t : TagLine). t.line) at)
    c.remove.new.self.items c.push_reserved.new.self.items (vec_capacity c.remove.new.self) (vec_capacity c.push_reserved.new.self)
    c.remove.ensures.items c.push_reserved.ensures.items c.remove.ensures.capacity c.push_reserved.ensures.capacity

pub returns-else-uses-gt1 : goal.returns-else-uses-gt1
returns-else-uses-gt1 c =
    let i = c.self.inside in
    let k = c.count_below-k.result in
    let tag = c.args.tag in
    let below = subst (λ xs. AreBelow xs k tag) c.deref.ensures.value c.count_below-k.ensures.below in
    let here = subst (λ (xs : List TagLine). (k < length xs) × (tag_at xs k ≡ tag)) c.deref-2.ensures.value (c.is_at.ensures.yes c.if-not-is_at.false) in
    let at : c.line_at.result.now ≡ line_at i.tags.items k = c.line_at.ensures ∙ ap (λ xs. line_at xs k) c.deref-3.ensures.value in
    let once : (line_at i.tags.items k).uses ≤ 1 = subst (λ (t : TagLine). t.uses ≤ 1) at c.if-uses-gt1.false in
    ap (λ xs. tagged xs i.room) (c.remove.ensures.items ∙ sym (left_gone i.tags.items k tag here.0 here.1 below once))
    ∙ ap (λ (v : Tagged). tagged (left tag v.tags) v.room) c.self.view_is
