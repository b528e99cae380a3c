-- Lines by key follow the lane, as one comes, owes less, or goes.
use Rattle.std.proofs.Common.{◌≡◌, ◌≢◌, ℕ, ◌<◌, ◌≤◌, ◌==◌, cond, true, false, List, [], ◌∷◌, ◌++◌, length, get_or, set, refl, ap, sym, subst, ◌∙◌, arith, ⊎_elim, eq-eqb, ne_eqb}
use Rattle.std.proofs.lemmas.Bool.{cases_Bool, cases_eq, true≢false}
use Rattle.std.proofs.lemmas.List.{append-nil, get_or-set_same, get_or-set_other}
use Rattle.iscsi_slots.specs.Slots.{times}
use Rattle.iscsi_lists.specs.Lists.{without}
use Rattle.iscsi_lists.proofs.WithoutLemmas.{not_first, none_behind, times_other, without_none, without_other, without_same}
use Rattle.iscsi_lines.specs.declared.item.Item.{Item}
use Rattle.iscsi_lines.specs.Lines.{BLANK}
use Rattle.iscsi_outbox_state.specs.declared.lane.Aim.{Aim}
use Rattle.iscsi_outbox_state.specs.declared.lane.Standing.{Standing}
use Rattle.iscsi_scopes.specs.Scopes.{AreKeysAscending, Scoped, entered, left, scoped, slots_of, times_over}
use Rattle.iscsi_scopes.proofs.FacetLemmas.{entered_here, entered_other, left_here, left_other, none_over}
use Rattle.iscsi_lane.specs.Standings.{NOBODY, at}
use Rattle.iscsi_lane.specs.Scoping.{AreItems, Mirrors, as_item, line_of, stands_in}

-- ---- the line of an aim

module _ (aim : Aim) (xs : List Standing) where
  pub line_first : (s : ℕ) (slots : List ℕ) → stands_in aim (at xs s) ≡ true → line_of aim xs (s ∷ slots) ≡ s ∷ line_of aim xs slots
  line_first s slots on = ap (λ b. cond b (s ∷ line_of aim xs slots) (line_of aim xs slots)) on

  line_later : (s : ℕ) (slots : List ℕ) → stands_in aim (at xs s) ≡ false → line_of aim xs (s ∷ slots) ≡ line_of aim xs slots
  line_later s slots off = ap (λ b. cond b (s ∷ line_of aim xs slots) (line_of aim xs slots)) off

  pub line_append : (slots more : List ℕ) → line_of aim xs (slots ++ more) ≡ line_of aim xs slots ++ line_of aim xs more
  line_append [] more = refl
  line_append (s ∷ slots) more = ⊎_elim
      (λ on. line_first s (slots ++ more) on ∙ ap (λ r. s ∷ r) (line_append slots more) ∙ sym (ap (λ r. r ++ line_of aim xs more) (line_first s slots on)))
      (λ off. line_later s (slots ++ more) off ∙ line_append slots more ∙ sym (ap (λ r. r ++ line_of aim xs more) (line_later s slots off)))
      (cases_Bool (stands_in aim (at xs s)))

  pub line_without : (s : ℕ) (slots : List ℕ) → line_of aim xs (without s slots) ≡ without s (line_of aim xs slots)
  line_without s [] = refl
  line_without s (y ∷ ys) = ⊎_elim
      (λ (same : y ≡ s).
      ap (line_of aim xs) (without_same s y ys same) ∙ line_without s ys
      ∙ ⊎_elim
      (λ on. sym (ap (without s) (line_first y ys on) ∙ without_same s y (line_of aim xs ys) same))
      (λ off. ap (without s) (sym (line_later y ys off)))
      (cases_Bool (stands_in aim (at xs y))))
      (λ other.
      ap (line_of aim xs) (without_other s y ys other)
      ∙ ⊎_elim
      (λ on. line_first y (without s ys) on ∙ ap (λ r. y ∷ r) (line_without s ys) ∙ sym (ap (without s) (line_first y ys on) ∙ without_other s y (line_of aim xs ys) other))
      (λ off. line_later y (without s ys) off ∙ line_without s ys ∙ ap (without s) (sym (line_later y ys off)))
      (cases_Bool (stands_in aim (at xs y))))
      (cases_eq y s)

  pub line_few : (t : ℕ) (slots : List ℕ) → times t (line_of aim xs slots) ≤ times t slots
  line_few t [] = omega arith
  line_few t (y ∷ ys) =
      let rest = line_few t ys in
      ⊎_elim
      (λ on. let e = ap (times t) (line_first y ys on) in omega (arith, e, rest))
      (λ off. let e = ap (times t) (line_later y ys off) in omega (arith, e, rest))
      (cases_Bool (stands_in aim (at xs y)))

  pub line_has : (t : ℕ) (slots : List ℕ) → stands_in aim (at xs t) ≡ true → times t (line_of aim xs slots) ≡ times t slots
  line_has t [] is = refl
  line_has t (y ∷ ys) is =
      let rest = line_has t ys is in
      ⊎_elim
      (λ on. let e = ap (times t) (line_first y ys on) in omega (arith, e, rest))
      (λ off.
      let e = ap (times t) (line_later y ys off) in
      let other : y ≢ t = λ same. true≢false (sym (ap (λ k. stands_in aim (at xs k)) same ∙ is) ∙ off) in
      let a = times_other t y ys other in omega (arith, e, rest, a))
      (cases_Bool (stands_in aim (at xs y)))

  pub none_in_line : (t : ℕ) (slots : List ℕ) → stands_in aim (at xs t) ≡ false → times t (line_of aim xs slots) ≡ 0
  none_in_line t [] off = refl
  none_in_line t (y ∷ ys) off =
      let rest = none_in_line t ys off in
      ⊎_elim
      (λ on.
      let e = ap (times t) (line_first y ys on) in
      let other : y ≢ t = λ same. true≢false (sym on ∙ ap (λ k. stands_in aim (at xs k)) same ∙ off) in
      let a = times_other t y (line_of aim xs ys) other in omega (arith, e, rest, a))
      (λ not_on. let e = ap (times t) (line_later y ys not_on) in omega (arith, e, rest))
      (cases_Bool (stands_in aim (at xs y)))

  -- a slot whose standing changes
  module _ (s : ℕ) (x : Standing) where
    pub line_fresh : (slots : List ℕ) → times s slots ≡ 0 → line_of aim (set xs s x) slots ≡ line_of aim xs slots
    line_fresh [] none = refl
    line_fresh (y ∷ ys) none =
        ap (λ z. cond (stands_in aim z) (y ∷ line_of aim (set xs s x) ys) (line_of aim (set xs s x) ys)) (get_or-set_other xs s y x NOBODY (not_first s y ys none))
        ∙ ap (λ r. cond (stands_in aim (at xs y)) (y ∷ r) r) (line_fresh ys (none_behind s y ys none))

    pub line_same : s < length xs → stands_in aim x ≡ stands_in aim (at xs s) → (slots : List ℕ) → line_of aim (set xs s x) slots ≡ line_of aim xs slots
    line_same l same [] = refl
    line_same l same (y ∷ ys) =
        let first : stands_in aim (at (set xs s x) y) ≡ stands_in aim (at xs y) =
        (⊎_elim
        (λ (here : y ≡ s). ap (stands_in aim) (ap (at (set xs s x)) here ∙ get_or-set_same xs s x NOBODY l) ∙ same ∙ ap (λ k. stands_in aim (at xs k)) (sym here))
        (λ other. ap (stands_in aim) (get_or-set_other xs s y x NOBODY other))
        (cases_eq y s)) in
        ap (λ b. cond b (y ∷ line_of aim (set xs s x) ys) (line_of aim (set xs s x) ys)) first
        ∙ ap (λ r. cond (stands_in aim (at xs y)) (y ∷ r) r) (line_same l same ys)

-- ---- the items of slots

items_fresh : (xs : List Standing) (items : List Item) (s : ℕ) (x : Standing) (i : Item) (slots : List ℕ) → times s slots ≡ 0 → AreItems xs items slots → AreItems (set xs s x) (set items s i) slots
items_fresh xs items s x i [] none are = tt
items_fresh xs items s x i (y ∷ ys) none are = (
  (let other = not_first s y ys none in get_or-set_other items s y i BLANK other ∙ are.0 ∙ ap as_item (sym (get_or-set_other xs s y x NOBODY other))),
  items_fresh xs items s x i ys (none_behind s y ys none) are.1,
)

-- where no line has the slot, it needs no item
items_beside : (xs : List Standing) (items : List Item) (s : ℕ) (x : Standing) (slots : List ℕ) → times s slots ≡ 0 → AreItems xs items slots → AreItems (set xs s x) items slots
items_beside xs items s x [] none are = tt
items_beside xs items s x (y ∷ ys) none are = (are.0 ∙ ap as_item (sym (get_or-set_other xs s y x NOBODY (not_first s y ys none))), items_beside xs items s x ys (none_behind s y ys none) are.1)

items_append : (xs : List Standing) (items : List Item) (slots more : List ℕ) → AreItems xs items slots → AreItems xs items more → AreItems xs items (slots ++ more)
items_append xs items [] more a b = b
items_append xs items (y ∷ ys) more a b = (a.0, items_append xs items ys more a.1 b)

items_set : (xs : List Standing) (items : List Item) (s : ℕ) (x : Standing) (slots : List ℕ) → s < length xs → s < length items → AreItems xs items slots → AreItems (set xs s x) (set items s (as_item x)) slots
items_set xs items s x [] l m are = tt
items_set xs items s x (y ∷ ys) l m are = (
  ⊎_elim
      (λ (same : y ≡ s).
      ap (λ k. get_or (set items s (as_item x)) k BLANK) same ∙ get_or-set_same items s (as_item x) BLANK m
      ∙ ap as_item (sym (ap (at (set xs s x)) same ∙ get_or-set_same xs s x NOBODY l)))
      (λ other. get_or-set_other items s y (as_item x) BLANK other ∙ are.0 ∙ ap as_item (sym (get_or-set_other xs s y x NOBODY other)))
      (cases_eq y s),
  items_set xs items s x ys l m are.1,
)

-- what changes and is the same item still
items_kept : (xs : List Standing) (items : List Item) (s : ℕ) (x : Standing) (slots : List ℕ) → s < length xs → as_item x ≡ as_item (at xs s) → AreItems xs items slots → AreItems (set xs s x) items slots
items_kept xs items s x [] l same are = tt
items_kept xs items s x (y ∷ ys) l same are = (
  are.0 ∙ ⊎_elim
      (λ (here : y ≡ s). ap (λ k. as_item (at xs k)) here ∙ sym same ∙ ap as_item (sym (ap (at (set xs s x)) here ∙ get_or-set_same xs s x NOBODY l)))
      (λ other. ap as_item (sym (get_or-set_other xs s y x NOBODY other)))
      (cases_eq y s),
  items_kept xs items s x ys l same are.1,
)

items_without : (xs : List Standing) (items : List Item) (s : ℕ) (slots : List ℕ) → AreItems xs items slots → AreItems xs items (without s slots)
items_without xs items s [] are = tt
items_without xs items s (y ∷ ys) are = ⊎_elim
    (λ same. subst (AreItems xs items) (sym (without_same s y ys same)) (items_without xs items s ys are.1))
    (λ other. subst (AreItems xs items) (sym (without_other s y ys other)) (are.0, items_without xs items s ys are.1))
    (cases_eq y s)

-- ---- all lines by key

module _ (aim : ℕ → Aim) (scopes : Scoped) (xs : List Standing) (order : List ℕ) (mirrors : Mirrors aim scopes xs order) (s : ℕ) where
  -- a slot that doesn't stand in the lane stands in no line
  pub no_line : AreKeysAscending scopes.lines → times s order ≡ 0 → times_over s scopes.lines ≡ 0
  no_line up none = none_over s scopes.lines up (λ key. let a = ap (times s) (mirrors.lines key) in let b = line_few (aim key) xs s order in omega (arith, a, b, none))

  -- and one that does, in that of its key
  pub its_line : (key : ℕ) → stands_in (aim key) (at xs s) ≡ true → 1 ≤ times s order → 1 ≤ times s (slots_of key scopes.lines)
  its_line key is there = let a = ap (times s) (mirrors.lines key) in let b = line_has (aim key) xs s order is in omega (arith, a, b, there)

  absent : (key : ℕ) → times s order ≡ 0 → times s (line_of (aim key) xs order) ≡ 0
  absent key none = let b = line_few (aim key) xs s order in omega (arith, b, none)

  -- ---- one comes

  module _ (x : Standing) (l : s < length xs) (none : times s order ≡ 0) where
    at_it : at (set xs s x) s ≡ x
    at_it = get_or-set_same xs s x NOBODY l

    pushed : (key : ℕ) → line_of (aim key) (set xs s x) (order ++ s ∷ []) ≡ line_of (aim key) xs order ++ line_of (aim key) (set xs s x) (s ∷ [])
    pushed key = line_append (aim key) (set xs s x) order (s ∷ []) ∙ ap (λ r. r ++ line_of (aim key) (set xs s x) (s ∷ [])) (line_fresh (aim key) xs s x order none)

    pushed_on : (key : ℕ) → stands_in (aim key) x ≡ true → line_of (aim key) (set xs s x) (order ++ s ∷ []) ≡ line_of (aim key) xs order ++ s ∷ []
    pushed_on key on = pushed key ∙ ap (λ r. line_of (aim key) xs order ++ r) (line_first (aim key) (set xs s x) s [] (ap (stands_in (aim key)) at_it ∙ on))

    pushed_off : (key : ℕ) → stands_in (aim key) x ≡ false → line_of (aim key) (set xs s x) (order ++ s ∷ []) ≡ line_of (aim key) xs order
    pushed_off key off = pushed key ∙ ap (λ r. line_of (aim key) xs order ++ r) (line_later (aim key) (set xs s x) s [] (ap (stands_in (aim key)) at_it ∙ off)) ∙ append-nil (line_of (aim key) xs order)

    -- in the line of one key
    pub comes_in : (key : ℕ) → ((k : ℕ) → stands_in (aim k) x ≡ (key == k)) → AreKeysAscending scopes.lines → s < length scopes.items
        → Mirrors aim (scoped (entered key s scopes.lines) (set scopes.items s (as_item x)) scopes.room) (set xs s x) (order ++ s ∷ [])
    comes_in key of_key up m = record {
      lines = λ k. ⊎_elim
          (λ (same : k ≡ key).
          ap (λ n. slots_of n (entered key s scopes.lines)) same ∙ entered_here key s scopes.lines up
          ∙ ap (λ r. r ++ s ∷ []) (ap (λ n. slots_of n scopes.lines) (sym same) ∙ mirrors.lines k)
          ∙ sym (pushed_on k (of_key k ∙ eq-eqb key k (sym same))))
          (λ other.
          entered_other key s scopes.lines k other ∙ mirrors.lines k
          ∙ sym (pushed_off k (of_key k ∙ ne_eqb key k (λ e. other (sym e)))))
          (cases_eq k key);
      items = λ k.
          let before = items_fresh xs scopes.items s x (as_item x) (line_of (aim k) xs order) (absent k none) (mirrors.items k) in
          ⊎_elim
          (λ on. subst (AreItems (set xs s x) (set scopes.items s (as_item x))) (sym (pushed_on k on))
          (items_append (set xs s x) (set scopes.items s (as_item x)) (line_of (aim k) xs order) (s ∷ []) before
          (get_or-set_same scopes.items s (as_item x) BLANK m ∙ ap as_item (sym at_it), tt)))
          (λ off. subst (AreItems (set xs s x) (set scopes.items s (as_item x))) (sym (pushed_off k off)) before)
          (cases_Bool (stands_in (aim k) x));
    }

    -- in none of them
    pub comes_beside : ((k : ℕ) → stands_in (aim k) x ≡ false) → Mirrors aim scopes (set xs s x) (order ++ s ∷ [])
    comes_beside of_none = record {
      lines = λ k. mirrors.lines k ∙ sym (pushed_off k (of_none k));
      items = λ k. subst (AreItems (set xs s x) scopes.items) (sym (pushed_off k (of_none k))) (items_beside xs scopes.items s x (line_of (aim k) xs order) (absent k none) (mirrors.items k));
    }

  -- ---- a command owes less, in the same lines

  pub owes_less : (x : Standing) → s < length xs → s < length scopes.items → ((k : ℕ) → stands_in (aim k) x ≡ stands_in (aim k) (at xs s))
      → Mirrors aim (scoped scopes.lines (set scopes.items s (as_item x)) scopes.room) (set xs s x) order
  owes_less x l m same = record {
    lines = λ k. mirrors.lines k ∙ sym (line_same (aim k) xs s x l (same k) order);
    items = λ k. subst (AreItems (set xs s x) (set scopes.items s (as_item x))) (sym (line_same (aim k) xs s x l (same k) order))
        (items_set xs scopes.items s x (line_of (aim k) xs order) l m (mirrors.items k));
  }

  -- ---- an answer changes, and is the same item in the same line

  pub stays_as : (x : Standing) → s < length xs → ((k : ℕ) → stands_in (aim k) x ≡ stands_in (aim k) (at xs s)) → as_item x ≡ as_item (at xs s) → Mirrors aim scopes (set xs s x) order
  stays_as x l same item = record {
    lines = λ k. mirrors.lines k ∙ sym (line_same (aim k) xs s x l (same k) order);
    items = λ k. subst (AreItems (set xs s x) scopes.items) (sym (line_same (aim k) xs s x l (same k) order))
        (items_kept xs scopes.items s x (line_of (aim k) xs order) l item (mirrors.items k));
  }

  -- ---- one goes

  -- from the line of one key
  pub goes_out : (key : ℕ) → ((k : ℕ) → stands_in (aim k) (at xs s) ≡ (key == k)) → AreKeysAscending scopes.lines
      → Mirrors aim (scoped (left key s scopes.lines) scopes.items scopes.room) xs (without s order)
  goes_out key of_key up = record {
    lines = λ k. ⊎_elim
        (λ (same : k ≡ key).
        ap (λ n. slots_of n (left key s scopes.lines)) same ∙ left_here key s scopes.lines up
        ∙ ap (without s) (ap (λ n. slots_of n scopes.lines) (sym same) ∙ mirrors.lines k)
        ∙ sym (line_without (aim k) xs s order))
        (λ other.
        left_other key s scopes.lines k other ∙ mirrors.lines k
        ∙ sym (without_none s (line_of (aim k) xs order) (none_in_line (aim k) xs s order (of_key k ∙ ne_eqb key k (λ e. other (sym e)))))
        ∙ sym (line_without (aim k) xs s order))
        (cases_eq k key);
    items = λ k. subst (AreItems xs scopes.items) (sym (line_without (aim k) xs s order)) (items_without xs scopes.items s (line_of (aim k) xs order) (mirrors.items k));
  }

  -- from none of them
  pub goes_beside : ((k : ℕ) → stands_in (aim k) (at xs s) ≡ false) → Mirrors aim scopes xs (without s order)
  goes_beside of_none = record {
    lines = λ k. mirrors.lines k ∙ sym (without_none s (line_of (aim k) xs order) (none_in_line (aim k) xs s order (of_none k))) ∙ sym (line_without (aim k) xs s order);
    items = λ k. subst (AreItems xs scopes.items) (sym (line_without (aim k) xs s order)) (items_without xs scopes.items s (line_of (aim k) xs order) (mirrors.items k));
  }
