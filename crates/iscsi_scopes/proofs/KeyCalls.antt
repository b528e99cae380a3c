-- What a call leaves of the keys and their lines.
use Rattle.std.proofs.Common.{◌≡◌, ◌≢◌, ℕ, ◌<◌, ◌≤◌, [], ◌∷◌, ◌++◌, length, Option, Some, None, refl, ap, sym, subst, ◌∙◌, arith, ⊎_elim}
use Rattle.std.specs.Prelude.{IsSome}
use Rattle.std.proofs.lemmas.Bool.{cases_eq, cases_lt}
use Rattle.iscsi_slots.specs.Slots.{times}
use Rattle.iscsi_lines.specs.declared.item.Item.{Item}
use Rattle.iscsi_lines.specs.Lines.{Lined, line_at}
use Rattle.iscsi_tags.specs.Tags.{AreTags, Tagged, entered as tags_entered, left as tags_left, line_of, lines, tagged, total}
use Rattle.iscsi_scopes.specs.SlotLines.{AreInLines, Enters, Leaves, Lessens, outside_at}
use Rattle.iscsi_scopes.specs.Scopes.{AreKeyed, entered, left, scoped, scoped_of, shown, slots_of, times_over}
use Rattle.iscsi_scopes.proofs.KeyLemmas.{AreWithin, Comes, Goes, SameBut, ascend, comes_again, comes_new, counted_same, goes, has_line, line_in, lines_more, no_over, shown_same, slots_some, total_more}

module _ (keys : Tagged) (v : Lined) (are : AreKeyed keys v) (tags : AreTags keys) (known : AreInLines v) where
  within : AreWithin v.count keys.tags
  within line there = let a = tags.within line there in let b = are.count in omega (arith, a, b)

  pub none_in : (slot : ℕ) → times_over slot (scoped_of keys v).lines ≡ 0 → (k : ℕ) → k < v.count → times slot (line_at v k) ≡ 0
  none_in slot none k l = ⊎_elim
      (λ there. no_over v slot k keys.tags none there)
      (λ unused. ap (times slot) (are.unused k l (omega (arith, unused))))
      (cases_lt 0 (times k (lines keys.tags)))

  pub room_for : (slot : ℕ) → times_over slot (scoped_of keys v).lines ≡ 0 → 1 ≤ slot → slot ≤ v.slots.room → total keys.tags < keys.room
  room_for slot none low high = let a = known.outside slot low high (none_in slot none) in let b = are.all in omega (arith, a, b)

  module _ (key slot line : ℕ) (item : Item) (none : times_over slot (scoped_of keys v).lines ≡ 0) (low : line < keys.room)
      (told : (k : ℕ) → line_of key keys.tags ≡ Some k → line ≡ k) (fresh : line_of key keys.tags ≡ None → times line (lines keys.tags) ≡ 0)
      (next : Tagged) (is : next ≡ tagged (tags_entered key line keys.tags) keys.room) (w : Lined) (enters : Enters v w line slot item) where
    line_low : line < v.count
    line_low = let a = are.count in omega (arith, a, low)

    comes : Comes v w v.count line enters.others key slot keys.tags
    comes = elim (line_of key keys.tags) as (λ o. line_of key keys.tags ≡ o → Comes v w v.count line enters.others key slot keys.tags) [
      | None ↦ λ at.
          comes_new v w v.count line enters.others key slot keys.tags within (fresh at) are.counted at
          (enters.here ∙ ap (λ xs. xs ++ slot ∷ []) (are.unused line line_low (fresh at)))
      | Some k ↦ λ at.
          comes_again v w v.count line enters.others key slot keys.tags within (ascend keys.tags tags.ascending) (tags.apart line) are.counted
          (at ∙ ap Some (sym (told k at))) enters.here
    ] refl

    pub push_keyed : AreKeyed next w
    push_keyed = subst (λ u. AreKeyed u w) (sym is) (record {
      counted = comes.counted;
      unused = λ k l none_of. ⊎_elim
          (λ (same : k ≡ line). let a = ap (λ x. times x (lines (tags_entered key line keys.tags))) same in let b = comes.of_it in absurd (omega (arith, a, b, none_of)))
          (λ other.
          let inside : k < v.count = let a = enters.count in omega (arith, a, l) in
          enters.others k inside other ∙ are.unused k inside (let a = lines_more v w v.count line enters.others key slot k keys.tags in omega (arith, a, none_of)))
          (cases_eq k line);
      all = let a = total_more v w v.count line enters.others key slot keys.tags in let b = enters.outside in let c = are.all in omega (arith, a, b, c);
      count = enters.count ∙ are.count;
      room = enters.room ∙ are.room;
    })

    pub push_shown : scoped_of next w ≡ scoped (entered key slot (shown v keys.tags)) w.slots.values w.slots.room
    push_shown = ap (λ (u : Tagged). scoped_of u w) is ∙ ap (λ ks. scoped ks w.slots.values w.slots.room) comes.view

  -- a key that has a slot has a line
  module _ (key slot : ℕ) (there : 1 ≤ times slot (slots_of key (scoped_of keys v).lines)) where
    pub some_line : line_of key keys.tags ≢ None
    some_line none = has_line v key slot keys.tags there none

    module _ (line : ℕ) (at : line_of key keys.tags ≡ Some line) where
      pub line_there : 1 ≤ times slot (line_at v line)
      line_there = subst (λ xs. 1 ≤ times slot xs) (slots_some v key line keys.tags at) there

      pub line_inside : line < v.count
      line_inside = within line (line_in key line keys.tags at)

      module _ (next : Tagged) (is : next ≡ tagged (tags_left key keys.tags) keys.room) (w : Lined) (leaves : Leaves v w line slot) where
        gone : Goes v w v.count line leaves.others key slot keys.tags
        gone = goes v w v.count line leaves.others key slot keys.tags within (tags.apart line) are.counted at leaves.here
            (let a = known.once line slot line_inside in let b = line_there in omega (arith, a, b))

        pub out_keyed : AreKeyed next w
        out_keyed = subst (λ u. AreKeyed u w) (sym is) (record {
          counted = gone.counted;
          unused = λ k l none_of. ⊎_elim
              (λ (same : k ≡ line). subst (λ x. line_at w x ≡ []) (sym same) (gone.of_none (ap (λ x. times x (lines (tags_left key keys.tags))) (sym same) ∙ none_of)))
              (λ other.
              let inside : k < v.count = let a = leaves.count in omega (arith, a, l) in
              leaves.others k inside other ∙ are.unused k inside (sym (gone.elsewhere k other) ∙ none_of))
              (cases_eq k line);
          all = let a = gone.total in let b = leaves.outside in let c = are.all in omega (arith, a, b, c);
          count = leaves.count ∙ are.count;
          room = leaves.room ∙ are.room;
        })

        pub out_shown : scoped_of next w ≡ scoped (left key slot (shown v keys.tags)) v.slots.values v.slots.room
        out_shown =
            ap (λ (u : Tagged). scoped_of u w) is ∙ ap (λ ks. scoped ks w.slots.values w.slots.room) gone.view
            ∙ ap (λ xs. scoped (left key slot (shown v keys.tags)) xs w.slots.room) leaves.values
            ∙ ap (scoped (left key slot (shown v keys.tags)) v.slots.values) leaves.room

  -- a slot owes less
  module _ (slot : ℕ) (item : Item) (w : Lined) (lessens : Lessens v w slot item) where
    same_but : SameBut v w v.count v.count
    same_but k l other = lessens.lines k l

    no_line : times v.count (lines keys.tags) ≡ 0
    no_line = ⊎_elim
        (λ there. let a = within v.count there in absurd (omega (arith, a)))
        (λ none. omega (arith, none))
        (cases_lt 0 (times v.count (lines keys.tags)))

    pub owe_keyed : AreKeyed keys w
    owe_keyed = record {
      counted = counted_same v w v.count v.count same_but keys.tags within no_line are.counted;
      unused = λ k l none_of. let inside : k < v.count = (let a = lessens.count in omega (arith, a, l)) in lessens.lines k inside ∙ are.unused k inside none_of;
      all = let a = lessens.outside in let b = are.all in omega (arith, a, b);
      count = lessens.count ∙ are.count;
      room = lessens.room ∙ are.room;
    }

    pub owe_shown : scoped_of keys w ≡ scoped (shown v keys.tags) w.slots.values w.slots.room
    owe_shown = ap (λ ks. scoped ks w.slots.values w.slots.room) (shown_same v w v.count v.count same_but keys.tags within no_line)

pub empty_keyed : (keys : Tagged) (v : Lined) (room : ℕ) → keys ≡ tagged [] room → v.count ≡ room → v.slots.room ≡ room → ((k : ℕ) → k < room → line_at v k ≡ []) → length (outside_at v) ≡ room → AreKeyed keys v
empty_keyed keys v room is count roomy empty outside = subst (λ u. AreKeyed u v) (sym is) (record {
  counted = tt;
  unused = λ k l none_of. empty k (omega (arith, count, l));
  all = omega (arith, outside);
  count = count;
  room = roomy;
})

pub is_some_from : (o : Option ℕ) → o ≢ None → IsSome o
is_some_from None some = absurd (some refl)
is_some_from (Some x) some = refl

-- a line that was found is one of theirs
pub found_inside : (keys : Tagged) (v : Lined) → AreKeyed keys v → AreTags keys → (key line : ℕ) → line_of key keys.tags ≡ Some line → line < v.count
found_inside keys v are tags key line at =
    let a = tags.within line (line_in key line keys.tags at) in let b = are.count in omega (arith, a, b)
