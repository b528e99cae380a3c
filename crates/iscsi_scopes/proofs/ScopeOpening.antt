-- Lines in which nothing stands yet.
use Rattle.std.proofs.Common.{◌≡◌, ℕ, zero, suc, ◌+◌, ◌<◌, ◌≤◌, List, [], ◌∷◌, ◌++◌, length, get_or, set, refl, ap, sym, subst, ◌∙◌, arith, replicate, Some}
use Rattle.std.proofs.lemmas.List.{get_or-set_same, get_or-set_other, length-set, length_push}
use Rattle.iscsi_lists.proofs.PlaceLemmas.{counted_long, fewer_free, replicate_long}
use Rattle.iscsi_lists.specs.Lists.{Listed, AreApart, counted, last_of, linked_in, times_in, without, with_last}
use Rattle.iscsi_lines.specs.declared.item.Item.{Item}
use Rattle.iscsi_lines.specs.declared.item.Item.TheVariants.{Answer}
use Rattle.iscsi_lines.specs.Lines.{items_of}
use Rattle.iscsi_lines.specs.Settling.{IsLine, conn_at, items_at, slots_at}
use Rattle.iscsi_scopes.specs.SlotLines.{AreEmpty, AreScoped, lined}

pub none_at : (n k : ℕ) → get_or (replicate {A = List ℕ} n []) k [] ≡ []
none_at zero zero = refl
none_at zero (suc k) = refl
none_at (suc n) zero = refl
none_at (suc n) (suc k) = none_at n k

-- so far the slots of the last list were pushed there
pub record IsOpening (s : Listed Item) (lines room done : ℕ) : Type 0 where
  pub free : length s.free + done ≡ room
  pub empty : (k : ℕ) → k < lines + lines → slots_at s k ≡ []
  pub outside : length (slots_at s (lines + lines)) ≡ done
  pub lists : length s.lists ≡ lines + lines + 1
  pub slots : s.room ≡ room
  pub within : done ≤ room

no_slots : (xs : List ℕ) → length xs ≡ 0 → xs ≡ []
no_slots [] none = refl
no_slots (x ∷ xs) none = absurd (omega (arith, none))

none_items : (s : Listed Item) (k : ℕ) → slots_at s k ≡ [] → items_at s k ≡ []
none_items s k none = ap (items_of s.values) none

no_line : (c : ℕ) (xs ys : List Item) → xs ≡ [] → ys ≡ [] → IsLine c xs ys
no_line c xs ys a b = subst (λ x. IsLine c x ys) (sym a) (subst (λ y. IsLine c [] y) (sym b) (record { passed = tt; stand = tt; settled = tt }))

pub opened_scoped : (s : Listed Item) (conns : List ℕ) (room : ℕ) → IsOpening s (length conns) room room → AreScoped conns s
opened_scoped s conns room o = record {
  each = λ k l. no_line (conn_at conns k) (items_at s k) (items_at s (length conns + k)) (none_items s k (o.empty k (omega (arith, l)))) (none_items s (length conns + k) (o.empty (length conns + k) (omega (arith, l))));
  lists = o.lists;
  all = no_slots s.free (let a = o.free in omega (arith, a));
}

pub opened_empty : (s : Listed Item) (conns : List ℕ) (room : ℕ) → IsOpening s (length conns) room room → AreEmpty (lined conns s) (length conns) room
opened_empty s conns room o = record {
  count = refl;
  slots = o.slots;
  empty = λ k l. ap (λ q. q ++ slots_at s (length conns + k)) (o.empty k (omega (arith, l))) ∙ o.empty (length conns + k) (omega (arith, l));
  outside = o.outside;
}

pub opening_begins : (s : Listed Item) (lines room count : ℕ) → count ≡ lines + lines + 1 → s ≡ record { free = counted 1 room; lists = replicate count []; room = room; values = replicate (room + 1) (Answer 0) } → IsOpening s lines room 0
opening_begins s lines room count many is = record {
  free = let a = ap (λ (u : Listed Item). length u.free) is in let b = counted_long 1 room in omega (arith, a, b);
  empty = λ k l. ap (λ (u : Listed Item). slots_at u k) is ∙ none_at count k;
  outside = ap (λ (u : Listed Item). length (slots_at u (lines + lines))) is ∙ ap length (none_at count (lines + lines));
  lists = ap (λ (u : Listed Item). length u.lists) is ∙ replicate_long count ∙ many;
  slots = ap (λ (u : Listed Item). u.room) is;
  within = omega arith;
}

pub opening_goes_on : (s t : Listed Item) (lines room done list slot : ℕ) (x : Item) → list ≡ lines + lines → done < room → IsOpening s lines room done → AreApart (linked_in s) → last_of s.free ≡ Some slot → times_in slot s.lists ≡ 0
    → t ≡ record s { free = without slot s.free; lists = with_last list slot s.lists; values = set s.values slot x } → IsOpening t lines room (done + 1)
opening_goes_on s t lines room done list slot x at more o known last fresh is =
    let l : list < length s.lists = (let a = o.lists in omega (arith, a, at)) in
    let long = length-set s.lists list (slots_at s list ++ slot ∷ []) in
    record {
      free =
          let a = ap (λ (u : Listed Item). length u.free) is in let b = fewer_free s known slot last fresh in let c = o.free in omega (arith, a, b, c);
      empty = λ k lk.
          ap (λ (u : Listed Item). slots_at u k) is
          ∙ get_or-set_other s.lists list k (slots_at s list ++ slot ∷ []) [] (λ e. omega (arith, e, at, lk)) ∙ o.empty k lk;
      outside =
          let a = ap (λ n. length (slots_at t n)) (sym at) in
          let b = ap (λ (u : Listed Item). length (slots_at u list)) is in
          let c = ap length (get_or-set_same s.lists list (slots_at s list ++ slot ∷ []) [] l) in
          let d = length_push (slots_at s list) slot in
          let e = ap (λ n. length (slots_at s n)) at in
          let f = o.outside in omega (arith, a, b, c, d, e, f);
      lists = let a = ap (λ (u : Listed Item). length u.lists) is in let b = o.lists in omega (arith, a, b, long);
      slots = ap (λ (u : Listed Item). u.room) is ∙ o.slots;
      within = omega (arith, more);
    }
