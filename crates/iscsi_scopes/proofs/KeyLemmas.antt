-- Keys with their lines, where a slot comes to the line of one, or leaves it.
use Rattle.std.proofs.Common.{◌≡◌, ◌≢◌, ℕ, suc, ◌+◌, ◌<◌, ◌≤◌, ◌==◌, cond, ltb, Bool, true, false, List, [], ◌∷◌, ◌++◌, length, get_or, Some, None, refl, ap, sym, subst, ◌∙◌, arith, ⊎_elim, eq-eqb, ne_eqb}
use Rattle.std.proofs.lemmas.Bool.{cases_eq, cases_lt, lt-ltb, le-ltb}
use Rattle.std.proofs.lemmas.List.{length_push}
use Rattle.iscsi_slots.specs.Places.{AreAscending}
use Rattle.iscsi_slots.specs.Slots.{times}
use Rattle.iscsi_lists.specs.Lists.{without}
use Rattle.iscsi_lists.proofs.WithoutLemmas.{length_without, times_same, times_other, not_first, none_behind}
use Rattle.iscsi_lines.specs.Lines.{Lined, line_at}
use Rattle.iscsi_tags.specs.declared.tag_line.TagLine.{TagLine}
use Rattle.iscsi_tags.specs.Tags.{entered as tags_entered, left as tags_left, line_of, lines, tag_line, tag_of, total, used_less, used_more}
use Rattle.iscsi_scopes.specs.Scopes.{AreCounted, Keyed, entered, keyed, left, shown, slots_of, times_over, unless_empty}

-- ---- the tags

-- each tag is above a number
abbrev pub AllAbove : ℕ → List TagLine → Type 0
AllAbove n [] = Unit {0}
AllAbove n (t ∷ ts) = (n < t.tag) × AllAbove n ts

abbrev pub Ascend : List TagLine → Type 0
Ascend [] = Unit {0}
Ascend (t ∷ ts) = AllAbove t.tag ts × Ascend ts

above_all : (n : ℕ) (ts : List TagLine) → ((k : ℕ) (d : TagLine) → k < length ts → n < tag_of (get_or ts k d)) → AllAbove n ts
above_all n [] each = tt
above_all n (t ∷ ts) each = (each 0 t (omega arith), above_all n ts (λ k d l. each (suc k) d (omega (arith, l))))

pub ascend : (ts : List TagLine) → AreAscending tag_of ts → Ascend ts
ascend [] up = tt
ascend (t ∷ ts) up = (
  above_all t.tag ts (λ k d l. up 0 (suc k) d (omega arith) (omega (arith, l))),
  ascend ts (λ i j d lt l. up (suc i) (suc j) d (omega (arith, lt)) (omega (arith, l))),
)

line_first : (key : ℕ) (t : TagLine) (ts : List TagLine) → t.tag ≡ key → line_of key (t ∷ ts) ≡ Some t.line
line_first key t ts same = ap (λ b. cond b (Some t.line) (line_of key ts)) (eq-eqb t.tag key same)

line_later : (key : ℕ) (t : TagLine) (ts : List TagLine) → t.tag ≢ key → line_of key (t ∷ ts) ≡ line_of key ts
line_later key t ts other = ap (λ b. cond b (Some t.line) (line_of key ts)) (ne_eqb t.tag key other)

some_same : {a b : ℕ} → Some a ≡ Some b → a ≡ b
some_same e = cc

found_above : (n key line : ℕ) (ts : List TagLine) → AllAbove n ts → line_of key ts ≡ Some line → n < key
found_above n key line [] above at = absurd (cc)
found_above n key line (t ∷ ts) above at = ⊎_elim
    (λ (same : t.tag ≡ key). let a = above.0 in omega (arith, a, same))
    (λ other. found_above n key line ts above.1 (sym (line_later key t ts other) ∙ at))
    (cases_eq t.tag key)

pub line_in : (key line : ℕ) (ts : List TagLine) → line_of key ts ≡ Some line → 1 ≤ times line (lines ts)
line_in key line [] at = absurd (cc)
line_in key line (t ∷ ts) at = ⊎_elim
    (λ same. let a = times_same line t.line (lines ts) (some_same (sym (line_first key t ts same) ∙ at)) in omega (arith, a))
    (λ other. let a = line_in key line ts (sym (line_later key t ts other) ∙ at) in omega (arith, a))
    (cases_eq t.tag key)

-- ---- what the tags show

slots_first : (key : ℕ) (k : Keyed) (ks : List Keyed) → k.key ≡ key → slots_of key (k ∷ ks) ≡ k.slots
slots_first key k ks same = ap (λ b. cond b k.slots (slots_of key ks)) (eq-eqb k.key key same)

slots_later : (key : ℕ) (k : Keyed) (ks : List Keyed) → k.key ≢ key → slots_of key (k ∷ ks) ≡ slots_of key ks
slots_later key k ks other = ap (λ b. cond b k.slots (slots_of key ks)) (ne_eqb k.key key other)

pub slots_some : (v : Lined) (key line : ℕ) (ts : List TagLine) → line_of key ts ≡ Some line → slots_of key (shown v ts) ≡ line_at v line
slots_some v key line [] at = absurd (cc)
slots_some v key line (t ∷ ts) at = ⊎_elim
    (λ same. slots_first key (keyed t.tag (line_at v t.line)) (shown v ts) same ∙ ap (line_at v) (some_same (sym (line_first key t ts same) ∙ at)))
    (λ other. slots_later key (keyed t.tag (line_at v t.line)) (shown v ts) other ∙ slots_some v key line ts (sym (line_later key t ts other) ∙ at))
    (cases_eq t.tag key)

pub slots_none : (v : Lined) (key : ℕ) (ts : List TagLine) → line_of key ts ≡ None → slots_of key (shown v ts) ≡ []
slots_none v key [] none = refl
slots_none v key (t ∷ ts) none = ⊎_elim
    (λ same. let e : Some t.line ≡ None = sym (line_first key t ts same) ∙ none in absurd (cc))
    (λ other. slots_later key (keyed t.tag (line_at v t.line)) (shown v ts) other ∙ slots_none v key ts (sym (line_later key t ts other) ∙ none))
    (cases_eq t.tag key)

pub no_over : (v : Lined) (slot line : ℕ) (ts : List TagLine) → times_over slot (shown v ts) ≡ 0 → 1 ≤ times line (lines ts) → times slot (line_at v line) ≡ 0
no_over v slot line [] none there = absurd (omega (arith, there))
no_over v slot line (t ∷ ts) none there = ⊎_elim
    (λ (same : t.line ≡ line). subst (λ n. times slot (line_at v n) ≡ 0) same (omega (arith, none)))
    (λ other. let a = times_other line t.line (lines ts) other in no_over v slot line ts (omega (arith, none)) (omega (arith, a, there)))
    (cases_eq t.line line)

-- a key that has a slot has a line
pub has_line : (v : Lined) (key slot : ℕ) (ts : List TagLine) → 1 ≤ times slot (slots_of key (shown v ts)) → line_of key ts ≢ None
has_line v key slot ts there none = let a = ap (times slot) (slots_none v key ts none) in omega (arith, a, there)

-- ---- lines that stay as they are

abbrev pub AreWithin : ℕ → List TagLine → Type 0
AreWithin n ts = (line : ℕ) → 1 ≤ times line (lines ts) → line < n

within_first : (n : ℕ) (t : TagLine) (ts : List TagLine) → AreWithin n (t ∷ ts) → t.line < n
within_first n t ts within = within t.line (let a = times_same t.line t.line (lines ts) refl in omega (arith, a))

within_rest : (n : ℕ) (t : TagLine) (ts : List TagLine) → AreWithin n (t ∷ ts) → AreWithin n ts
within_rest n t ts within line there = within line (omega (arith, there))

-- all lines but one are the same
abbrev pub SameBut : Lined → Lined → ℕ → ℕ → Type 0
SameBut v w n line = (k : ℕ) → k < n → k ≢ line → line_at w k ≡ line_at v k

module _ (v w : Lined) (n line : ℕ) (others : SameBut v w n line) where
  shown_first : (t : TagLine) (ts : List TagLine) → AreWithin n (t ∷ ts) → t.line ≢ line → keyed t.tag (line_at w t.line) ≡ keyed t.tag (line_at v t.line)
  shown_first t ts within other = ap (keyed t.tag) (others t.line (within_first n t ts within) other)

  pub shown_same : (ts : List TagLine) → AreWithin n ts → times line (lines ts) ≡ 0 → shown w ts ≡ shown v ts
  shown_same [] within none = refl
  shown_same (t ∷ ts) within none =
      ap (λ k. k ∷ shown w ts) (shown_first t ts within (not_first line t.line (lines ts) none))
      ∙ ap (λ r. keyed t.tag (line_at v t.line) ∷ r) (shown_same ts (within_rest n t ts within) (none_behind line t.line (lines ts) none))

  counted_first : (t : TagLine) (ts : List TagLine) → AreWithin n (t ∷ ts) → t.line ≢ line → t.uses ≡ length (line_at v t.line) → t.uses ≡ length (line_at w t.line)
  counted_first t ts within other is = is ∙ ap length (sym (others t.line (within_first n t ts within) other))

  pub counted_same : (ts : List TagLine) → AreWithin n ts → times line (lines ts) ≡ 0 → AreCounted v ts → AreCounted w ts
  counted_same [] within none counted = tt
  counted_same (t ∷ ts) within none counted = (
    counted_first t ts within (not_first line t.line (lines ts) none) counted.0,
    counted_same ts (within_rest n t ts within) (none_behind line t.line (lines ts) none) counted.1,
  )

  -- ---- a slot comes

  module _ (key slot : ℕ) where
    abbrev tags_first : TagLine → List TagLine → Bool → Bool → List TagLine
    tags_first t ts low here = cond low (tag_line key line 1 ∷ t ∷ ts) (cond here (used_more t ∷ ts) (t ∷ tags_entered key line ts))

    abbrev keys_first : Keyed → List Keyed → Bool → Bool → List Keyed
    keys_first k ks low here = cond low (keyed key (slot ∷ []) ∷ k ∷ ks) (cond here (keyed k.key (k.slots ++ slot ∷ []) ∷ ks) (k ∷ entered key slot ks))

    tags_low : (t : TagLine) (ts : List TagLine) → key < t.tag → tags_entered key line (t ∷ ts) ≡ tag_line key line 1 ∷ t ∷ ts
    tags_low t ts low = ap (λ b. tags_first t ts b (t.tag == key)) (lt-ltb key t.tag low)

    tags_here : (t : TagLine) (ts : List TagLine) → t.tag ≡ key → tags_entered key line (t ∷ ts) ≡ used_more t ∷ ts
    tags_here t ts same = ap (λ b. tags_first t ts b (t.tag == key)) (le-ltb key t.tag (omega (arith, same))) ∙ ap (tags_first t ts false) (eq-eqb t.tag key same)

    tags_past : (t : TagLine) (ts : List TagLine) → t.tag < key → tags_entered key line (t ∷ ts) ≡ t ∷ tags_entered key line ts
    tags_past t ts past = ap (λ b. tags_first t ts b (t.tag == key)) (le-ltb key t.tag (omega (arith, past))) ∙ ap (tags_first t ts false) (ne_eqb t.tag key (λ e. omega (arith, e, past)))

    keys_low : (k : Keyed) (ks : List Keyed) → key < k.key → entered key slot (k ∷ ks) ≡ keyed key (slot ∷ []) ∷ k ∷ ks
    keys_low k ks low = ap (λ b. keys_first k ks b (k.key == key)) (lt-ltb key k.key low)

    keys_here : (k : Keyed) (ks : List Keyed) → k.key ≡ key → entered key slot (k ∷ ks) ≡ keyed k.key (k.slots ++ slot ∷ []) ∷ ks
    keys_here k ks same = ap (λ b. keys_first k ks b (k.key == key)) (le-ltb key k.key (omega (arith, same))) ∙ ap (keys_first k ks false) (eq-eqb k.key key same)

    keys_past : (k : Keyed) (ks : List Keyed) → k.key < key → entered key slot (k ∷ ks) ≡ k ∷ entered key slot ks
    keys_past k ks past = ap (λ b. keys_first k ks b (k.key == key)) (le-ltb key k.key (omega (arith, past))) ∙ ap (keys_first k ks false) (ne_eqb k.key key (λ e. omega (arith, e, past)))

    -- each line is of a tag still
    pub lines_more : (x : ℕ) (ts : List TagLine) → times x (lines ts) ≤ times x (lines (tags_entered key line ts))
    lines_more x [] = omega arith
    lines_more x (t ∷ ts) = ⊎_elim
        (λ low. let e = ap (λ us. times x (lines us)) (tags_low t ts low) in omega (arith, e))
        (λ high. ⊎_elim
        (λ same. let e = ap (λ us. times x (lines us)) (tags_here t ts same) in omega (arith, e))
        (λ other. let e = ap (λ us. times x (lines us)) (tags_past t ts (omega (arith, high, other))) in let rest = lines_more x ts in omega (arith, e, rest))
        (cases_eq t.tag key))
        (cases_lt key t.tag)

    pub total_more : (ts : List TagLine) → total (tags_entered key line ts) ≡ total ts + 1
    total_more [] = omega arith
    total_more (t ∷ ts) = ⊎_elim
        (λ low. let e = ap total (tags_low t ts low) in omega (arith, e))
        (λ high. ⊎_elim
        (λ same. let e = ap total (tags_here t ts same) in omega (arith, e))
        (λ other. let e = ap total (tags_past t ts (omega (arith, high, other))) in let rest = total_more ts in omega (arith, e, rest))
        (cases_eq t.tag key))
        (cases_lt key t.tag)

    pub record Comes (ts : List TagLine) : Type 0 where
      pub view : shown w (tags_entered key line ts) ≡ entered key slot (shown v ts)
      pub counted : AreCounted w (tags_entered key line ts)
      pub of_it : 1 ≤ times line (lines (tags_entered key line ts))

    -- to the line of a key that has one
    pub comes_again : (ts : List TagLine) → AreWithin n ts → Ascend ts → times line (lines ts) ≤ 1 → AreCounted v ts → line_of key ts ≡ Some line → line_at w line ≡ line_at v line ++ slot ∷ [] → Comes ts
    comes_again [] within up once counted at here = absurd (cc)
    comes_again (t ∷ ts) within up once counted at here = ⊎_elim
        (λ (same : t.tag ≡ key).
        let is : t.line ≡ line = some_same (sym (line_first key t ts same) ∙ at) in
        let none : times line (lines ts) ≡ 0 = let a = times_same line t.line (lines ts) is in omega (arith, a, once) in
        let e = tags_here t ts same in
        let slots : line_at w t.line ≡ line_at v t.line ++ slot ∷ [] = subst (λ k. line_at w k ≡ line_at v k ++ slot ∷ []) (sym is) here in
        record {
          view =
              ap (shown w) e
              ∙ ap (λ xs. keyed t.tag xs ∷ shown w ts) slots
              ∙ ap (λ r. keyed t.tag (line_at v t.line ++ slot ∷ []) ∷ r) (shown_same ts (within_rest n t ts within) none)
              ∙ sym (keys_here (keyed t.tag (line_at v t.line)) (shown v ts) same);
          counted = subst (AreCounted w) (sym e) (
            (let a = counted.0 in let b = ap length slots in let c = length_push (line_at v t.line) slot in omega (arith, a, b, c)),
            counted_same ts (within_rest n t ts within) none counted.1,
          );
          of_it = let a = ap (λ us. times line (lines us)) e in let b = times_same line t.line (lines ts) is in omega (arith, a, b);
        })
        (λ other.
        let later : line_of key ts ≡ Some line = sym (line_later key t ts other) ∙ at in
        let past = found_above t.tag key line ts up.0 later in
        let e = tags_past t ts past in
        let apart : t.line ≢ line = λ is. (let a = times_same line t.line (lines ts) is in let b = line_in key line ts later in omega (arith, a, b, once)) in
        let rest = comes_again ts (within_rest n t ts within) up.1 (let a = times_other line t.line (lines ts) apart in omega (arith, a, once)) counted.1 later here in
        record {
          view =
              ap (shown w) e
              ∙ ap (λ k. k ∷ shown w (tags_entered key line ts)) (shown_first t ts within apart)
              ∙ ap (λ r. keyed t.tag (line_at v t.line) ∷ r) rest.view
              ∙ sym (keys_past (keyed t.tag (line_at v t.line)) (shown v ts) past);
          counted = subst (AreCounted w) (sym e) (counted_first t ts within apart counted.0, rest.counted);
          of_it = let a = ap (λ us. times line (lines us)) e in let b = rest.of_it in omega (arith, a, b);
        })
        (cases_eq t.tag key)

    -- to the line that a key gets
    pub comes_new : (ts : List TagLine) → AreWithin n ts → times line (lines ts) ≡ 0 → AreCounted v ts → line_of key ts ≡ None → line_at w line ≡ slot ∷ [] → Comes ts
    comes_new [] within none counted at here = record {
      view = ap (λ xs. keyed key xs ∷ []) here;
      counted = (sym (ap length here), tt);
      of_it = let a = times_same line line [] refl in omega (arith, a);
    }
    comes_new (t ∷ ts) within none counted at here =
        let apart : t.line ≢ line = not_first line t.line (lines ts) none in
        ⊎_elim
        (λ low.
        let e = tags_low t ts low in
        record {
          view =
              ap (shown w) e
              ∙ ap (λ xs. keyed key xs ∷ shown w (t ∷ ts)) here
              ∙ ap (λ r. keyed key (slot ∷ []) ∷ r) (shown_same (t ∷ ts) within none)
              ∙ sym (keys_low (keyed t.tag (line_at v t.line)) (shown v ts) low);
          counted = subst (AreCounted w) (sym e) (sym (ap length here), counted_same (t ∷ ts) within none counted);
          of_it = let a = ap (λ us. times line (lines us)) e in let b = times_same line line (lines (t ∷ ts)) refl in omega (arith, a, b);
        })
        (λ high.
        let other : t.tag ≢ key = λ same. (let f : Some t.line ≡ None = sym (line_first key t ts same) ∙ at in absurd (cc)) in
        let past : t.tag < key = omega (arith, high, other) in
        let e = tags_past t ts past in
        let rest = comes_new ts (within_rest n t ts within) (none_behind line t.line (lines ts) none) counted.1 (sym (line_later key t ts other) ∙ at) here in
        record {
          view =
              ap (shown w) e
              ∙ ap (λ k. k ∷ shown w (tags_entered key line ts)) (shown_first t ts within apart)
              ∙ ap (λ r. keyed t.tag (line_at v t.line) ∷ r) rest.view
              ∙ sym (keys_past (keyed t.tag (line_at v t.line)) (shown v ts) past);
          counted = subst (AreCounted w) (sym e) (counted_first t ts within apart counted.0, rest.counted);
          of_it = let a = ap (λ us. times line (lines us)) e in let b = rest.of_it in omega (arith, a, b);
        })
        (cases_lt key t.tag)

    -- ---- a slot leaves

    abbrev tags_out : TagLine → List TagLine → Bool → Bool → List TagLine
    tags_out t ts here more = cond here (cond more (used_less t ∷ ts) ts) (t ∷ tags_left key ts)

    abbrev keys_out : Keyed → List Keyed → Bool → List Keyed
    keys_out k ks here = cond here (unless_empty k.key (without slot k.slots) ks) (k ∷ left key slot ks)

    out_fewer : (t : TagLine) (ts : List TagLine) → t.tag ≡ key → 1 < t.uses → tags_left key (t ∷ ts) ≡ used_less t ∷ ts
    out_fewer t ts same more = ap (λ b. tags_out t ts b (ltb 1 t.uses)) (eq-eqb t.tag key same) ∙ ap (tags_out t ts true) (lt-ltb 1 t.uses more)

    out_gone : (t : TagLine) (ts : List TagLine) → t.tag ≡ key → t.uses ≤ 1 → tags_left key (t ∷ ts) ≡ ts
    out_gone t ts same one = ap (λ b. tags_out t ts b (ltb 1 t.uses)) (eq-eqb t.tag key same) ∙ ap (tags_out t ts true) (le-ltb 1 t.uses one)

    out_later : (t : TagLine) (ts : List TagLine) → t.tag ≢ key → tags_left key (t ∷ ts) ≡ t ∷ tags_left key ts
    out_later t ts other = ap (λ b. tags_out t ts b (ltb 1 t.uses)) (ne_eqb t.tag key other)

    left_here : (k : Keyed) (ks : List Keyed) → k.key ≡ key → left key slot (k ∷ ks) ≡ unless_empty k.key (without slot k.slots) ks
    left_here k ks same = ap (keys_out k ks) (eq-eqb k.key key same)

    left_later : (k : Keyed) (ks : List Keyed) → k.key ≢ key → left key slot (k ∷ ks) ≡ k ∷ left key slot ks
    left_later k ks other = ap (keys_out k ks) (ne_eqb k.key key other)

    not_empty : (xs : List ℕ) (ks : List Keyed) → 1 ≤ length xs → unless_empty key xs ks ≡ keyed key xs ∷ ks
    not_empty [] ks some = absurd (omega (arith, some))
    not_empty (x ∷ xs) ks some = refl

    is_empty : (xs : List ℕ) (ks : List Keyed) → length xs ≡ 0 → unless_empty key xs ks ≡ ks
    is_empty [] ks none = refl
    is_empty (x ∷ xs) ks none = absurd (omega (arith, none))

    no_slots : (xs : List ℕ) → length xs ≡ 0 → xs ≡ []
    no_slots [] none = refl
    no_slots (x ∷ xs) none = absurd (omega (arith, none))

    pub record Goes (ts : List TagLine) : Type 0 where
      pub view : shown w (tags_left key ts) ≡ left key slot (shown v ts)
      pub counted : AreCounted w (tags_left key ts)
      pub of_none : times line (lines (tags_left key ts)) ≡ 0 → line_at w line ≡ []
      pub elsewhere : (x : ℕ) → x ≢ line → times x (lines (tags_left key ts)) ≡ times x (lines ts)
      pub total : total (tags_left key ts) + 1 ≡ total ts

    pub goes : (ts : List TagLine) → AreWithin n ts → times line (lines ts) ≤ 1 → AreCounted v ts → line_of key ts ≡ Some line → line_at w line ≡ without slot (line_at v line) → times slot (line_at v line) ≡ 1 → Goes ts
    goes [] within once counted at here there = absurd (cc)
    goes (t ∷ ts) within once counted at here there = ⊎_elim
        (λ (same : t.tag ≡ key).
        let is : t.line ≡ line = some_same (sym (line_first key t ts same) ∙ at) in
        let none : times line (lines ts) ≡ 0 = let a = times_same line t.line (lines ts) is in omega (arith, a, once) in
        let slots : line_at w t.line ≡ without slot (line_at v t.line) = subst (λ k. line_at w k ≡ without slot (line_at v k)) (sym is) here in
        let long : length (line_at w t.line) + 1 ≡ t.uses =
        (let a = ap length slots in let b = length_without slot (line_at v t.line) in let c = counted.0 in let d = ap (λ k. times slot (line_at v k)) is in omega (arith, a, b, c, d, there)) in
        let same_rest = shown_same ts (within_rest n t ts within) none in
        let counted_rest = counted_same ts (within_rest n t ts within) none counted.1 in
        let k = keyed t.tag (line_at v t.line) in
        ⊎_elim
        (λ (more : 1 < t.uses).
        let e = out_fewer t ts same more in
        record {
          view =
              ap (shown w) e
              ∙ ap (λ r. keyed t.tag (line_at w t.line) ∷ r) same_rest
              ∙ ap (λ q. keyed q (line_at w t.line) ∷ shown v ts) same
              ∙ sym (not_empty (line_at w t.line) (shown v ts) (omega (arith, long, more)))
              ∙ ap (λ q. unless_empty q (line_at w t.line) (shown v ts)) (sym same)
              ∙ ap (λ xs. unless_empty t.tag xs (shown v ts)) slots
              ∙ sym (left_here k (shown v ts) same);
          counted = subst (AreCounted w) (sym e) (omega (arith, long), counted_rest);
          of_none = λ gone. let a = ap (λ us. times line (lines us)) e in let b = times_same line t.line (lines ts) is in absurd (omega (arith, a, b, gone));
          elsewhere = λ x apart. ap (λ us. times x (lines us)) e;
          total = let a = ap total e in omega (arith, a, more);
        })
        (λ (one : t.uses ≤ 1).
        let e = out_gone t ts same one in
        let empty : length (line_at w t.line) ≡ 0 = omega (arith, long, one) in
        record {
          view =
              ap (shown w) e
              ∙ same_rest
              ∙ sym (is_empty (line_at w t.line) (shown v ts) empty)
              ∙ ap (λ q. unless_empty q (line_at w t.line) (shown v ts)) (sym same)
              ∙ ap (λ xs. unless_empty t.tag xs (shown v ts)) slots
              ∙ sym (left_here k (shown v ts) same);
          counted = subst (AreCounted w) (sym e) counted_rest;
          of_none = λ gone. no_slots (line_at w line) (ap (λ q. length (line_at w q)) (sym is) ∙ empty);
          elsewhere = λ x apart. ap (λ us. times x (lines us)) e ∙ sym (times_other x t.line (lines ts) (λ q. apart (sym q ∙ is)));
          total = let a = ap total e in omega (arith, a, long, one);
        })
        (cases_lt 1 t.uses))
        (λ other.
        let later : line_of key ts ≡ Some line = sym (line_later key t ts other) ∙ at in
        let e = out_later t ts other in
        let apart : t.line ≢ line = λ is. (let a = times_same line t.line (lines ts) is in let b = line_in key line ts later in omega (arith, a, b, once)) in
        let rest = goes ts (within_rest n t ts within) (let a = times_other line t.line (lines ts) apart in omega (arith, a, once)) counted.1 later here there in
        record {
          view =
              ap (shown w) e
              ∙ ap (λ k. k ∷ shown w (tags_left key ts)) (shown_first t ts within apart)
              ∙ ap (λ r. keyed t.tag (line_at v t.line) ∷ r) rest.view
              ∙ sym (left_later (keyed t.tag (line_at v t.line)) (shown v ts) other);
          counted = subst (AreCounted w) (sym e) (counted_first t ts within apart counted.0, rest.counted);
          of_none = λ gone. rest.of_none (let a = ap (λ us. times line (lines us)) e in let b = times_other line t.line (lines (tags_left key ts)) apart in omega (arith, a, b, gone));
          elsewhere = λ x away. let a = ap (λ us. times x (lines us)) e in let b = rest.elsewhere x away in omega (arith, a, b);
          total = let a = ap total e in let b = rest.total in omega (arith, a, b);
        })
        (cases_eq t.tag key)
