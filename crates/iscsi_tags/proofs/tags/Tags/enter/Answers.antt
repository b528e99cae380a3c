use Rattle.std.proofs.Common.{◌≡◌, ◌≤◌, ◌<◌, ℕ, List, Some, None, true, length, vec_capacity, ap, sym, subst, ◌∙◌}
use Rattle.std.proofs.lemmas.Bool.{false≢true}
use Rattle.iscsi_slots.specs.Slots.{times}
use Rattle.iscsi_tags.specs.declared.tag_line.TagLine.{TagLine}
use Rattle.iscsi_tags.specs.Tags.{Tagged, entered, line_at, line_of, lines, tag_at, tagged, total}
use Rattle.iscsi_tags.proofs.TagLemmas.{AreBelow, beyond, entered_here, entered_new, fits, fresh, held_more, held_new, line_held, line_here, line_nowhere, line_within, some_free, some_line}
use Rattle.iscsi_tags.proofs.tags.Tags.enter.Goals as goal

pub use_more-requires-clause-fits : goal.use_more-requires-clause-fits
use_more-requires-clause-fits c =
    let i = c.self.inside in
    let fewer = subst (λ (v : Tagged). total v.tags < v.room) (sym c.self.view_is) c.requires in
    fits i.tags.items i.free.items (vec_capacity i.tags) (vec_capacity i.free) i.room c.self.invariant c.count_below-k.result fewer

pub invariant_of-self : goal.invariant_of-self
invariant_of-self c =
    let i = c.self.inside in
    let k = c.count_below-k.result in
    let fewer = subst (λ (v : Tagged). total v.tags < v.room) (sym c.self.view_is) c.requires in
    let here = subst (λ (xs : List TagLine). (k < length xs) × (tag_at xs k ≡ c.args.tag)) c.deref-2.ensures.value (c.is_at.ensures.yes c.if-is_at.true) in
    held_more i.tags.items i.free.items (vec_capacity i.tags) (vec_capacity i.free) i.room c.self.invariant k here.0 fewer
    c.use_more.new.tags.items (vec_capacity c.use_more.new.tags) c.use_more.ensures.tags c.use_more.ensures.capacity

pub returns-then-is_at-clause-state : goal.returns-then-is_at-clause-state
returns-then-is_at-clause-state c =
    let i = c.self.inside in
    let k = c.count_below-k.result in
    let tag = c.args.tag in
    let line = c.use_more.result in
    let below = subst (λ xs. AreBelow xs k tag) c.deref.ensures.value c.count_below-k.ensures.below in
    let here = subst (λ (xs : List TagLine). (k < length xs) × (tag_at xs k ≡ tag)) c.deref-2.ensures.value (c.is_at.ensures.yes c.if-is_at.true) in
    ap (λ xs. tagged xs i.room) (c.use_more.ensures.tags ∙ sym (entered_here i.tags.items k tag line here.0 here.1 below))
    ∙ ap (λ (v : Tagged). tagged (entered tag line v.tags) v.room) c.self.view_is

pub returns-then-is_at-clause-line : goal.returns-then-is_at-clause-line
returns-then-is_at-clause-line c = λ line at.
    let i = c.self.inside in
    let k = c.count_below-k.result in
    let tag = c.args.tag in
    let below = subst (λ xs. AreBelow xs k tag) c.deref.ensures.value c.count_below-k.ensures.below in
    let here = subst (λ (xs : List TagLine). (k < length xs) × (tag_at xs k ≡ tag)) c.deref-2.ensures.value (c.is_at.ensures.yes c.if-is_at.true) in
    c.use_more.ensures.line ∙ some_line (sym (line_here i.tags.items k tag here.0 here.1 below) ∙ ap (λ (v : Tagged). line_of tag v.tags) c.self.view_is ∙ at)

pub returns-then-is_at-clause-fresh : goal.returns-then-is_at-clause-fresh
returns-then-is_at-clause-fresh c = λ none.
    let i = c.self.inside in
    let k = c.count_below-k.result in
    let tag = c.args.tag in
    let below = subst (λ xs. AreBelow xs k tag) c.deref.ensures.value c.count_below-k.ensures.below in
    let here = subst (λ (xs : List TagLine). (k < length xs) × (tag_at xs k ≡ tag)) c.deref-2.ensures.value (c.is_at.ensures.yes c.if-is_at.true) in
    let e : Some (line_at i.tags.items k).line ≡ None = sym (line_here i.tags.items k tag here.0 here.1 below) ∙ ap (λ (v : Tagged). line_of tag v.tags) c.self.view_is ∙ none in
    absurd (cc)

pub returns-then-is_at-clause-within : goal.returns-then-is_at-clause-within
returns-then-is_at-clause-within c =
    let i = c.self.inside in
    let k = c.count_below-k.result in
    let here = subst (λ (xs : List TagLine). (k < length xs) × (tag_at xs k ≡ c.args.tag)) c.deref-2.ensures.value (c.is_at.ensures.yes c.if-is_at.true) in
    subst (λ (v : Tagged). c.use_more.result < v.room) c.self.view_is
    (line_held i.tags.items i.free.items (vec_capacity i.tags) (vec_capacity i.free) i.room c.self.invariant k c.use_more.result here.0 c.use_more.ensures.line)

pub take_last-line-requires : goal.take_last-line-requires
take_last-line-requires c =
    let i = c.self.inside in
    let fewer = subst (λ (v : Tagged). total v.tags < v.room) (sym c.self.view_is) c.requires in
    some_free i.tags.items i.free.items (vec_capacity i.tags) (vec_capacity i.free) i.room c.self.invariant fewer

pub invariant_of-self-2 : goal.invariant_of-self-2
invariant_of-self-2 c =
    let i = c.self.inside in
    let k = c.count_below-k.result in
    let tag = c.args.tag in
    let p = c.take_last-line in
    let q = c.insert_at in
    let fewer = subst (λ (v : Tagged). total v.tags < v.room) (sym c.self.view_is) c.requires in
    let within = subst (λ (xs : List TagLine). k ≤ length xs) c.deref.ensures.value c.count_below-k.ensures.within in
    let below = subst (λ xs. AreBelow xs k tag) c.deref.ensures.value c.count_below-k.ensures.below in
    let above = subst (λ (xs : List TagLine). (j : ℕ) → k ≤ j → j < length xs → tag ≤ tag_at xs j) c.deref.ensures.value c.count_below-k.ensures.above in
    let no = subst (λ (xs : List TagLine). k < length xs → tag_at xs k ≡ tag → c.is_at.result ≡ true) c.deref-2.ensures.value c.is_at.ensures.no in
    let past = beyond i.tags.items k tag c.self.invariant.ascending above (λ l at. false≢true (sym c.if-is_at.false ∙ no l at)) in
    held_new i.tags.items i.free.items (vec_capacity i.tags) (vec_capacity i.free) i.room c.self.invariant k tag p.result p.new.free.items within fewer p.ensures.rest below past
    q.new.tags.items (vec_capacity q.new.tags) (vec_capacity p.new.free) q.ensures.tags q.ensures.capacity p.ensures.capacity

pub returns-clause-state : goal.returns-clause-state
returns-clause-state c =
    let i = c.self.inside in
    let k = c.count_below-k.result in
    let tag = c.args.tag in
    let line = c.take_last-line.result in
    let within = subst (λ (xs : List TagLine). k ≤ length xs) c.deref.ensures.value c.count_below-k.ensures.within in
    let below = subst (λ xs. AreBelow xs k tag) c.deref.ensures.value c.count_below-k.ensures.below in
    let above = subst (λ (xs : List TagLine). (j : ℕ) → k ≤ j → j < length xs → tag ≤ tag_at xs j) c.deref.ensures.value c.count_below-k.ensures.above in
    let no = subst (λ (xs : List TagLine). k < length xs → tag_at xs k ≡ tag → c.is_at.result ≡ true) c.deref-2.ensures.value c.is_at.ensures.no in
    let past = beyond i.tags.items k tag c.self.invariant.ascending above (λ l at. false≢true (sym c.if-is_at.false ∙ no l at)) in
    ap (λ xs. tagged xs i.room) (c.insert_at.ensures.tags ∙ sym (entered_new i.tags.items k tag line within below past))
    ∙ ap (λ (v : Tagged). tagged (entered tag line v.tags) v.room) c.self.view_is

pub returns-clause-line : goal.returns-clause-line
returns-clause-line c = λ line at.
    let i = c.self.inside in
    let k = c.count_below-k.result in
    let tag = c.args.tag in
    let below = subst (λ xs. AreBelow xs k tag) c.deref.ensures.value c.count_below-k.ensures.below in
    let above = subst (λ (xs : List TagLine). (j : ℕ) → k ≤ j → j < length xs → tag ≤ tag_at xs j) c.deref.ensures.value c.count_below-k.ensures.above in
    let no = subst (λ (xs : List TagLine). k < length xs → tag_at xs k ≡ tag → c.is_at.result ≡ true) c.deref-2.ensures.value c.is_at.ensures.no in
    let past = beyond i.tags.items k tag c.self.invariant.ascending above (λ l at. false≢true (sym c.if-is_at.false ∙ no l at)) in
    let e : None ≡ Some line = sym (line_nowhere i.tags.items k tag below past) ∙ ap (λ (v : Tagged). line_of tag v.tags) c.self.view_is ∙ at in
    absurd (cc)

pub returns-clause-fresh : goal.returns-clause-fresh
returns-clause-fresh c = λ none.
    let i = c.self.inside in
    let k = c.count_below-k.result in
    let tag = c.args.tag in
    let p = c.take_last-line in
    let fewer = subst (λ (v : Tagged). total v.tags < v.room) (sym c.self.view_is) c.requires in
    let within = subst (λ (xs : List TagLine). k ≤ length xs) c.deref.ensures.value c.count_below-k.ensures.within in
    let below = subst (λ xs. AreBelow xs k tag) c.deref.ensures.value c.count_below-k.ensures.below in
    let above = subst (λ (xs : List TagLine). (j : ℕ) → k ≤ j → j < length xs → tag ≤ tag_at xs j) c.deref.ensures.value c.count_below-k.ensures.above in
    let no = subst (λ (xs : List TagLine). k < length xs → tag_at xs k ≡ tag → c.is_at.result ≡ true) c.deref-2.ensures.value c.is_at.ensures.no in
    let past = beyond i.tags.items k tag c.self.invariant.ascending above (λ l at. false≢true (sym c.if-is_at.false ∙ no l at)) in
    subst (λ (v : Tagged). times p.result (lines v.tags) ≡ 0) c.self.view_is
    (fresh i.tags.items i.free.items (vec_capacity i.tags) (vec_capacity i.free) i.room c.self.invariant k tag p.result p.new.free.items within fewer p.ensures.rest below past)

pub returns-clause-within : goal.returns-clause-within
returns-clause-within c =
    let i = c.self.inside in
    let k = c.count_below-k.result in
    let tag = c.args.tag in
    let p = c.take_last-line in
    let fewer = subst (λ (v : Tagged). total v.tags < v.room) (sym c.self.view_is) c.requires in
    let within = subst (λ (xs : List TagLine). k ≤ length xs) c.deref.ensures.value c.count_below-k.ensures.within in
    let below = subst (λ xs. AreBelow xs k tag) c.deref.ensures.value c.count_below-k.ensures.below in
    let above = subst (λ (xs : List TagLine). (j : ℕ) → k ≤ j → j < length xs → tag ≤ tag_at xs j) c.deref.ensures.value c.count_below-k.ensures.above in
    let no = subst (λ (xs : List TagLine). k < length xs → tag_at xs k ≡ tag → c.is_at.result ≡ true) c.deref-2.ensures.value c.is_at.ensures.no in
    let past = beyond i.tags.items k tag c.self.invariant.ascending above (λ l at. false≢true (sym c.if-is_at.false ∙ no l at)) in
    subst (λ (v : Tagged). p.result < v.room) c.self.view_is
    (line_within i.tags.items i.free.items (vec_capacity i.tags) (vec_capacity i.free) i.room c.self.invariant k tag p.result p.new.free.items within fewer p.ensures.rest below past)
