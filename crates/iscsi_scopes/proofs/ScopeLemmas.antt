-- All lines, where a slot comes to one of them, owes less there, or leaves it.
use Rattle.std.proofs.Common.{◌≡◌, ◌≢◌, ◌⊎◌, ℕ, ◌+◌, ◌-◌, ◌<◌, ◌≤◌, List, [], ◌∷◌, ◌++◌, length, map, get_or, set, refl, ap, sym, subst, ◌∙◌, arith, ⊎_elim, inl, inr, append_assoc, true}
use Rattle.std.proofs.lemmas.Bool.{cases_eq, cases_lt}
use Rattle.std.proofs.lemmas.List.{get_or-set_same, get_or-set_other, length-set, length-map, length_push}
use Rattle.iscsi_slots.specs.Slots.{times}
use Rattle.iscsi_slots.proofs.SlotLemmas.{times_append}
use Rattle.iscsi_lists.specs.Lists.{Listed, AreApart, linked_in, times_in, without, with_last}
use Rattle.iscsi_lists.proofs.WithoutLemmas.{length_without, without_none, without_append}
use Rattle.iscsi_lines.specs.declared.item.Owing.{Owing}
use Rattle.iscsi_lines.specs.declared.item.Item.{Item}
use Rattle.iscsi_lines.specs.declared.item.Item.TheVariants.{Command}
use Rattle.iscsi_lines.specs.Lines.{BLANK, items_of, line_at, owes}
use Rattle.iscsi_lines.specs.Settling.{AllAre, may_stand, is_ahead, IsLine, IsLineAt, IsLess, conn_at, items_at, slots_at, Moves}
use Rattle.iscsi_lines.proofs.ItemLemmas.{items_append, items_fresh, all_append, all_set, all_without}
use Rattle.iscsi_lists.proofs.PlaceLemmas.{nth_map, only_there, times_any}
use Rattle.iscsi_lines.proofs.MoveLemmas.{stands_in}
use Rattle.iscsi_lines.proofs.SettleLemmas.{items_by}
use Rattle.iscsi_lines.proofs.LineLemmas.{whole_at, all_less}
use Rattle.iscsi_scopes.specs.SlotLines.{AreInLines, AreScoped, Enters, Leaves, Lessens, lined, outside_at}

-- ---- a line is settled again: t is after a change of s in it, and u after that

module _ (conns : List ℕ) (s t u : Listed Item) (line : ℕ) (low : line < length conns) (moves : Moves t u line (length conns + line)) (r : ℕ) where
  abbrev again_conns : List ℕ
  again_conns = set conns line r

  same_long : length (set conns line r) ≡ length conns
  same_long = length-set conns line r

  -- what stands in each line, and outside, is what stood there after the change
  pub line_again : (k : ℕ) → k < length conns → line_at (lined (set conns line r) u) k ≡ slots_at t k ++ slots_at t (length conns + k)
  line_again k l = ap (λ n. slots_at u k ++ slots_at u (n + k)) same_long ∙ whole_at conns t u line low moves k l

  pub outside_again : outside_at (lined (set conns line r) u) ≡ slots_at t (length conns + length conns)
  outside_again =
      ap (λ n. slots_at u (n + n)) same_long
      ∙ moves.same.others (length conns + length conns) (λ e. omega (arith, e, low)) (λ e. omega (arith, e, low))

  module _ (are : AreScoped conns s) (long : length t.lists ≡ length s.lists) (free : t.free ≡ s.free)
      (others : (k : ℕ) → k < length conns + length conns → k ≢ line → k ≢ length conns + line → items_at t k ≡ items_at s k)
      (is : IsLine r (items_at u line) (items_at u (length conns + line))) where
    others_u : (k : ℕ) → k < length conns + length conns → k ≢ line → k ≢ length conns + line → items_at u k ≡ items_at s k
    others_u k l a b = items_by t u k (slots_at t k) moves.same.values (moves.same.others k a b) ∙ others k l a b

    here : IsLineAt (set conns line r) u line
    here = subst (λ n. IsLine (conn_at (set conns line r) line) (items_at u line) (items_at u (n + line))) (sym same_long)
        (subst (λ c. IsLine c (items_at u line) (items_at u (length conns + line))) (sym (get_or-set_same conns line r 0 low)) is)

    elsewhere : (k : ℕ) → k < length conns → k ≢ line → IsLineAt (set conns line r) u k
    elsewhere k l other = subst (λ n. IsLine (conn_at (set conns line r) k) (items_at u k) (items_at u (n + k))) (sym same_long)
        (subst (λ c. IsLine c (items_at u k) (items_at u (length conns + k))) (sym (get_or-set_other conns line k r 0 other))
        (subst (λ x. IsLine (conn_at conns k) x (items_at u (length conns + k))) (sym (others_u k (omega (arith, l)) other (λ e. omega (arith, e, l))))
        (subst (λ x. IsLine (conn_at conns k) (items_at s k) x) (sym (others_u (length conns + k) (omega (arith, l)) (λ e. omega (arith, e, low)) (λ e. other (omega (arith, e)))))
        (are.each k l))))

    pub scoped_again : AreScoped (set conns line r) u
    scoped_again = record {
      each = λ k l. ⊎_elim
          (λ (e : k ≡ line). subst (IsLineAt (set conns line r) u) (sym e) here)
          (λ other. elsewhere k (omega (arith, l, same_long)) other)
          (cases_eq k line);
      lists = let a = are.lists in let b = moves.same.lists in omega (arith, a, b, long, same_long);
      all = moves.same.free ∙ free ∙ are.all;
    }

-- ---- a slot goes from list to list

module _ (s t : Listed Item) (list slot : ℕ) (is : t ≡ record s { lists = with_last list slot (map (without slot) s.lists) }) where
  abbrev others_left : List (List ℕ)
  others_left = map (without slot) s.lists

  pub moved_other : (k : ℕ) → k ≢ list → slots_at t k ≡ without slot (slots_at s k)
  moved_other k other =
      ap (λ (u : Listed Item). slots_at u k) is
      ∙ get_or-set_other others_left list k (get_or others_left list [] ++ slot ∷ []) [] other ∙ nth_map slot k s.lists

  pub moved_here : list < length s.lists → slots_at t list ≡ without slot (slots_at s list) ++ slot ∷ []
  moved_here l =
      ap (λ (u : Listed Item). slots_at u list) is
      ∙ get_or-set_same others_left list (get_or others_left list [] ++ slot ∷ []) [] (let a = length-map s.lists (without slot) in omega (arith, a, l))
      ∙ ap (λ q. q ++ slot ∷ []) (nth_map slot list s.lists)

  pub moved_long : length t.lists ≡ length s.lists
  moved_long = ap (λ (u : Listed Item). length u.lists) is ∙ length-set others_left list (get_or others_left list [] ++ slot ∷ []) ∙ length-map s.lists (without slot)

  pub moved_free : t.free ≡ s.free
  moved_free = ap (λ (u : Listed Item). u.free) is

  pub moved_room : t.room ≡ s.room
  moved_room = ap (λ (u : Listed Item). u.room) is

  pub moved_values : t.values ≡ s.values
  moved_values = ap (λ (u : Listed Item). u.values) is

-- ---- where a slot stands

module _ (conns : List ℕ) (s : Listed Item) (are : AreScoped conns s) (known : AreApart (linked_in s)) where
  none_free : (slot : ℕ) → times slot s.free ≡ 0
  none_free slot = ap (times slot) are.all

  pub in_one : (slot : ℕ) → times_in slot s.lists ≤ 1
  in_one slot = ⊎_elim
      (λ there.
      let some : 1 ≤ times slot s.free + times_in slot s.lists = omega (arith, there) in
      let one = known.once slot (known.some slot some) (known.within slot some) in omega (arith, one))
      (λ none. omega (arith, none))
      (cases_lt 0 (times_in slot s.lists))

  pub in_some : (slot : ℕ) → 1 ≤ slot → slot ≤ s.room → 1 ≤ times_in slot s.lists
  in_some slot low high = let one = known.once slot low high in let a = none_free slot in omega (arith, one, a)

  -- the part of its line in which it stands
  pub record InPart (line slot : ℕ) : Type 0 where
    pub list : ℕ
    pub part : (list ≡ line) ⊎ (list ≡ length conns + line)
    pub there : 1 ≤ times slot (slots_at s list)

  pub in_part : (line slot : ℕ) → 1 ≤ times slot (line_at (lined conns s) line) → InPart line slot
  in_part line slot there = ⊎_elim
      (λ front. record { list = line; part = inl refl; there = front })
      (λ none. record {
        list = length conns + line;
        part = inr refl;
        there = let a = times_append slot (slots_at s line) (slots_at s (length conns + line)) in omega (arith, a, there, none);
      })
      (cases_lt 0 (times slot (slots_at s line)))

  pub part_else : (line slot k : ℕ) → 1 ≤ times slot (line_at (lined conns s) line) → k ≢ line → k ≢ length conns + line → times slot (slots_at s k) ≡ 0
  part_else line slot k there a b =
      let p = in_part line slot there in
      only_there slot p.list k s.lists p.there (in_one slot) (λ e. ⊎_elim (λ (q : p.list ≡ line). a (e ∙ q)) (λ q. b (e ∙ q)) p.part)

  pub part_in : (line slot : ℕ) → 1 ≤ times slot (line_at (lined conns s) line) → 1 ≤ times_in slot s.lists
  part_in line slot there = let p = in_part line slot there in let a = times_any slot p.list s.lists in let b = p.there in omega (arith, a, b)

  pub part_within : (line slot : ℕ) → 1 ≤ times slot (line_at (lined conns s) line) → slot ≤ s.room
  part_within line slot there = let a = part_in line slot there in known.within slot (omega (arith, a))

  pub part_some : (line slot : ℕ) → 1 ≤ times slot (line_at (lined conns s) line) → 1 ≤ slot
  part_some line slot there = let a = part_in line slot there in known.some slot (omega (arith, a))

  -- a slot that stands in no line is outside
  module _ (slot : ℕ) (none : (k : ℕ) → k < length conns → times slot (line_at (lined conns s) k) ≡ 0) where
    pub not_in : (k : ℕ) → k < length conns + length conns → times slot (slots_at s k) ≡ 0
    not_in k l = ⊎_elim
        (λ front.
        let a = times_append slot (slots_at s k) (slots_at s (length conns + k)) in
        let b = none k front in omega (arith, a, b))
        (λ back.
        let j : ℕ = k - length conns in
        let e : length conns + j ≡ k = omega (arith, back) in
        let a = times_append slot (slots_at s j) (slots_at s (length conns + j)) in
        let b = none j (omega (arith, l, back)) in
        let d = ap (λ n. times slot (slots_at s n)) e in omega (arith, a, b, d))
        (cases_lt k (length conns))

    pub is_outside : 1 ≤ slot → slot ≤ s.room → times slot (slots_at s (length conns + length conns)) ≡ 1
    is_outside lo hi =
        let st = stands_in slot s.lists (in_some slot lo hi) in
        let a = st.within in let b = are.lists in let there = st.there in
        ⊎_elim
        (λ inside. let z = not_in st.list inside in absurd (omega (arith, z, there)))
        (λ past.
        let e : st.list ≡ length conns + length conns = omega (arith, past, a, b) in
        let d = ap (λ n. times slot (slots_at s n)) e in
        let f = times_any slot (length conns + length conns) s.lists in
        let one = in_one slot in omega (arith, d, f, one, there))
        (cases_lt st.list (length conns + length conns))

times_few : (slot : ℕ) (xs : List ℕ) → times slot xs ≤ length xs
times_few slot xs = let a = length_without slot xs in omega (arith, a)

-- what callers know of them
pub in_lines : (conns : List ℕ) (s : Listed Item) → AreScoped conns s → AreApart (linked_in s) → length s.values ≡ s.room + 1 → AreInLines (lined conns s)
in_lines conns s are known long = record {
  once = λ k slot l. ⊎_elim
      (λ front.
      let a = times_append slot (slots_at s k) (slots_at s (length conns + k)) in
      let b = only_there slot k (length conns + k) s.lists front (in_one conns s are known slot) (λ e. omega (arith, e, l)) in
      let d = times_any slot k s.lists in let one = in_one conns s are known slot in omega (arith, a, b, d, one))
      (λ none.
      let a = times_append slot (slots_at s k) (slots_at s (length conns + k)) in
      let d = times_any slot (length conns + k) s.lists in let one = in_one conns s are known slot in omega (arith, a, d, one, none))
      (cases_lt 0 (times slot (slots_at s k)));
  apart = λ k j slot lk lj other there.
      let a = times_append slot (slots_at s j) (slots_at s (length conns + j)) in
      let b = part_else conns s are known k slot j there (λ e. other (sym e)) (λ e. omega (arith, e, lj)) in
      let d = part_else conns s are known k slot (length conns + j) there (λ e. omega (arith, e, lk)) (λ e. other (omega (arith, e))) in omega (arith, a, b, d);
  some = λ k slot l there. part_some conns s are known k slot there;
  within = λ k slot l there. part_within conns s are known k slot there;
  outside = λ slot low high none.
      let a = is_outside conns s are known slot none low high in
      let b = times_few slot (slots_at s (length conns + length conns)) in omega (arith, a, b);
  values = long;
}

-- ---- a call, up to where its line is settled again, and after that

module _ (conns : List ℕ) (s : Listed Item) (are : AreScoped conns s) (known : AreApart (linked_in s)) (line : ℕ) (low : line < length conns) where
  of_line : (c : ℕ) → c ≡ conn_at conns line → IsLine c (items_at s line) (items_at s (length conns + line))
  of_line c same = subst (λ k. IsLine k (items_at s line) (items_at s (length conns + line))) (sym same) (are.each line low)

  -- a slot is pushed behind
  module _ (p t : Listed Item) (slot : ℕ) (x : Item) (none : (k : ℕ) → k < length conns → times slot (line_at (lined conns s) k) ≡ 0) (lo : 1 ≤ slot) (hi : slot ≤ s.room)
      (is_p : p ≡ record s { lists = with_last (length conns + line) slot (map (without slot) s.lists) })
      (is_t : t ≡ record p { values = set p.values slot x }) (long : length s.values ≡ s.room + 1) where
    t_slots : (k : ℕ) → slots_at t k ≡ slots_at p k
    t_slots k = ap (λ (u : Listed Item). slots_at u k) is_t

    t_values : t.values ≡ set s.values slot x
    t_values = ap (λ (u : Listed Item). u.values) is_t ∙ ap (λ v. set v slot x) (moved_values s p (length conns + line) slot is_p)

    absent : (k : ℕ) → k < length conns + length conns → times slot (slots_at s k) ≡ 0
    absent = not_in conns s are known slot none

    t_other : (k : ℕ) → k < length conns + length conns → k ≢ length conns + line → slots_at t k ≡ slots_at s k
    t_other k l other = t_slots k ∙ moved_other s p (length conns + line) slot is_p k other ∙ without_none slot (slots_at s k) (absent k l)

    t_here : slots_at t (length conns + line) ≡ slots_at s (length conns + line) ++ slot ∷ []
    t_here =
        t_slots (length conns + line)
        ∙ moved_here s p (length conns + line) slot is_p (let a = are.lists in omega (arith, a, low))
        ∙ ap (λ q. q ++ slot ∷ []) (without_none slot (slots_at s (length conns + line)) (absent (length conns + line) (omega (arith, low))))

    kept : (k : ℕ) → k < length conns + length conns → items_of (set s.values slot x) (slots_at s k) ≡ items_at s k
    kept k l = items_fresh s.values slot x (slots_at s k) (absent k l)

    t_items : (k : ℕ) → k < length conns + length conns → k ≢ length conns + line → items_at t k ≡ items_at s k
    t_items k l other = ap (λ v. items_of v (slots_at t k)) t_values ∙ ap (items_of (set s.values slot x)) (t_other k l other) ∙ kept k l

    t_item : items_at t (length conns + line) ≡ items_at s (length conns + line) ++ x ∷ []
    t_item =
        ap (λ v. items_of v (slots_at t (length conns + line))) t_values ∙ ap (items_of (set s.values slot x)) t_here
        ∙ items_append (set s.values slot x) (slots_at s (length conns + line)) (slot ∷ [])
        ∙ ap (λ q. q ++ get_or (set s.values slot x) slot BLANK ∷ []) (kept (length conns + line) (omega (arith, low)))
        ∙ ap (λ i. items_at s (length conns + line) ++ i ∷ []) (get_or-set_same s.values slot x BLANK (omega (arith, hi, long)))

    t_long : length t.lists ≡ length s.lists
    t_long = ap (λ (u : Listed Item). length u.lists) is_t ∙ moved_long s p (length conns + line) slot is_p

    t_free : t.free ≡ s.free
    t_free = ap (λ (u : Listed Item). u.free) is_t ∙ moved_free s p (length conns + line) slot is_p

    t_room : t.room ≡ s.room
    t_room = ap (λ (u : Listed Item). u.room) is_t ∙ moved_room s p (length conns + line) slot is_p

    t_outside : length (slots_at t (length conns + length conns)) + 1 ≡ length (slots_at s (length conns + length conns))
    t_outside =
        let a = ap length (t_slots (length conns + length conns) ∙ moved_other s p (length conns + line) slot is_p (length conns + length conns) (λ e. omega (arith, e, low))) in
        let b = length_without slot (slots_at s (length conns + length conns)) in
        let d = is_outside conns s are known slot none lo hi in omega (arith, a, b, d)

    pub push_passed : (c : ℕ) → c ≡ conn_at conns line → AllAre (is_ahead c) (items_at t line)
    push_passed c same = subst (AllAre (is_ahead c)) (sym (t_items line (omega (arith, low)) (λ q. omega (arith, q, low)))) (of_line c same).passed

    pub push_stand : may_stand x ≡ true → AllAre may_stand (items_at t (length conns + line))
    push_stand on = subst (AllAre may_stand) (sym t_item) (all_append may_stand (items_at s (length conns + line)) (x ∷ []) (of_line (conn_at conns line) refl).stand (on, tt))

    module _ (u : Listed Item) (r : ℕ) (moves : Moves t u line (length conns + line)) (is : IsLine r (items_at u line) (items_at u (length conns + line))) where
      pub push_scoped : AreScoped (set conns line r) u
      push_scoped = scoped_again conns s t u line low moves r are t_long t_free (λ k l a b. t_items k l b) is

      pub push_state : Enters (lined conns s) (lined (set conns line r) u) line slot x
      push_state = record {
        here =
            line_again conns s t u line low moves r line low
            ∙ ap (λ q. q ++ slots_at t (length conns + line)) (t_other line (omega (arith, low)) (λ q. omega (arith, q, low)))
            ∙ ap (λ q. slots_at s line ++ q) t_here
            ∙ sym (append_assoc (slots_at s line) (slots_at s (length conns + line)) (slot ∷ []));
        others = λ k l away.
            line_again conns s t u line low moves r k l
            ∙ ap (λ q. q ++ slots_at t (length conns + k)) (t_other k (omega (arith, l)) (λ q. omega (arith, q, l)))
            ∙ ap (λ q. slots_at s k ++ q) (t_other (length conns + k) (omega (arith, l)) (λ q. away (omega (arith, q))));
        values = moves.same.values ∙ t_values;
        outside = let a = ap length (outside_again conns s t u line low moves r) in let b = t_outside in omega (arith, a, b);
        count = length-set conns line r;
        room = moves.same.room ∙ t_room;
      }

  -- a slot leaves its line
  module _ (t : Listed Item) (slot : ℕ) (there : 1 ≤ times slot (line_at (lined conns s) line))
      (is_t : t ≡ record s { lists = with_last (length conns + length conns) slot (map (without slot) s.lists) }) where
    o_slots : (k : ℕ) → k < length conns + length conns → slots_at t k ≡ without slot (slots_at s k)
    o_slots k l = moved_other s t (length conns + length conns) slot is_t k (λ e. omega (arith, e, l))

    o_items : (k : ℕ) → k < length conns + length conns → items_at t k ≡ items_of s.values (without slot (slots_at s k))
    o_items k l = items_by s t k (without slot (slots_at s k)) (moved_values s t (length conns + length conns) slot is_t) (o_slots k l)

    o_same : (k : ℕ) → k < length conns + length conns → k ≢ line → k ≢ length conns + line → slots_at t k ≡ slots_at s k
    o_same k l a b = o_slots k l ∙ without_none slot (slots_at s k) (part_else conns s are known line slot k there a b)

    o_others : (k : ℕ) → k < length conns + length conns → k ≢ line → k ≢ length conns + line → items_at t k ≡ items_at s k
    o_others k l a b = items_by s t k (slots_at s k) (moved_values s t (length conns + length conns) slot is_t) (o_same k l a b)

    o_outside : length (slots_at t (length conns + length conns)) ≡ length (slots_at s (length conns + length conns)) + 1
    o_outside =
        let none = part_else conns s are known line slot (length conns + length conns) there (λ e. omega (arith, e, low)) (λ e. omega (arith, e, low)) in
        ap length (moved_here s t (length conns + length conns) slot is_t (let a = are.lists in omega (arith, a)))
        ∙ length_push (without slot (slots_at s (length conns + length conns))) slot
        ∙ ap (λ q. length q + 1) (without_none slot (slots_at s (length conns + length conns)) none)

    pub out_passed : (c : ℕ) → c ≡ conn_at conns line → AllAre (is_ahead c) (items_at t line)
    out_passed c same = subst (AllAre (is_ahead c)) (sym (o_items line (omega (arith, low)))) (all_without (is_ahead c) s.values slot (slots_at s line) (of_line c same).passed)

    pub out_stand : AllAre may_stand (items_at t (length conns + line))
    out_stand = subst (AllAre may_stand) (sym (o_items (length conns + line) (omega (arith, low)))) (all_without may_stand s.values slot (slots_at s (length conns + line)) (of_line (conn_at conns line) refl).stand)

    module _ (u : Listed Item) (r : ℕ) (moves : Moves t u line (length conns + line)) (is : IsLine r (items_at u line) (items_at u (length conns + line))) where
      pub out_scoped : AreScoped (set conns line r) u
      out_scoped = scoped_again conns s t u line low moves r are (moved_long s t (length conns + length conns) slot is_t) (moved_free s t (length conns + length conns) slot is_t) o_others is

      pub out_state : Leaves (lined conns s) (lined (set conns line r) u) line slot
      out_state = record {
        here =
            line_again conns s t u line low moves r line low
            ∙ ap (λ q. q ++ slots_at t (length conns + line)) (o_slots line (omega (arith, low)))
            ∙ ap (λ q. without slot (slots_at s line) ++ q) (o_slots (length conns + line) (omega (arith, low)))
            ∙ sym (without_append slot (slots_at s line) (slots_at s (length conns + line)));
        others = λ k l away.
            line_again conns s t u line low moves r k l
            ∙ ap (λ q. q ++ slots_at t (length conns + k)) (o_same k (omega (arith, l)) away (λ q. omega (arith, q, l)))
            ∙ ap (λ q. slots_at s k ++ q) (o_same (length conns + k) (omega (arith, l)) (λ q. omega (arith, q, low)) (λ q. away (omega (arith, q))));
        values = moves.same.values ∙ moved_values s t (length conns + length conns) slot is_t;
        outside = let a = ap length (outside_again conns s t u line low moves r) in let b = o_outside in omega (arith, a, b);
        count = length-set conns line r;
        room = moves.same.room ∙ moved_room s t (length conns + length conns) slot is_t;
      }

  -- a command owes less
  module _ (t : Listed Item) (slot : ℕ) (x : Owing) (there : 1 ≤ times slot (line_at (lined conns s) line))
      (is_t : t ≡ record s { values = set s.values slot (Command x) }) (long : length s.values ≡ s.room + 1) (owing : owes x ≡ true) where
    inside : slot < length s.values
    inside = let a = part_within conns s are known line slot there in omega (arith, a, long)

    l_slots : (k : ℕ) → slots_at t k ≡ slots_at s k
    l_slots k = ap (λ (u : Listed Item). slots_at u k) is_t

    l_values : t.values ≡ set s.values slot (Command x)
    l_values = ap (λ (u : Listed Item). u.values) is_t

    l_items : (k : ℕ) → items_at t k ≡ items_of (set s.values slot (Command x)) (slots_at s k)
    l_items k = ap (λ v. items_of v (slots_at t k)) l_values ∙ ap (items_of (set s.values slot (Command x))) (l_slots k)

    l_others : (k : ℕ) → k < length conns + length conns → k ≢ line → k ≢ length conns + line → items_at t k ≡ items_at s k
    l_others k l a b = l_items k ∙ items_fresh s.values slot (Command x) (slots_at s k) (part_else conns s are known line slot k there a b)

    pub owe_passed : IsLess (get_or s.values slot BLANK) x → (c : ℕ) → c ≡ conn_at conns line → AllAre (is_ahead c) (items_at t line)
    owe_passed less c same = subst (AllAre (is_ahead c)) (sym (l_items line)) (all_less c s.values slot x (slots_at s line) inside less owing (of_line c same).passed)

    pub owe_stand : AllAre may_stand (items_at t (length conns + line))
    owe_stand = subst (AllAre may_stand) (sym (l_items (length conns + line))) (all_set may_stand s.values slot (Command x) (slots_at s (length conns + line)) inside owing (of_line (conn_at conns line) refl).stand)

    module _ (u : Listed Item) (r : ℕ) (moves : Moves t u line (length conns + line)) (is : IsLine r (items_at u line) (items_at u (length conns + line))) where
      pub owe_scoped : AreScoped (set conns line r) u
      owe_scoped = scoped_again conns s t u line low moves r are (ap (λ (w : Listed Item). length w.lists) is_t) (ap (λ (w : Listed Item). w.free) is_t) l_others is

      pub owe_state : Lessens (lined conns s) (lined (set conns line r) u) slot (Command x)
      owe_state = record {
        lines = λ k l.
            line_again conns s t u line low moves r k l
            ∙ ap (λ q. q ++ slots_at t (length conns + k)) (l_slots k)
            ∙ ap (λ q. slots_at s k ++ q) (l_slots (length conns + k));
        values = moves.same.values ∙ l_values;
        outside = let a = ap length (outside_again conns s t u line low moves r) in let b = ap length (l_slots (length conns + length conns)) in omega (arith, a, b);
        count = length-set conns line r;
        room = moves.same.room ∙ ap (λ (w : Listed Item). w.room) is_t;
      }
