-- Tags in their order, where one comes, goes or is used.
use Rattle.std.proofs.Common.{◌≡◌, ◌≢◌, ℕ, zero, suc, ◌+◌, ◌<◌, ◌≤◌, ◌==◌, cond, ltb, Bool, true, false, List, [], ◌∷◌, ◌++◌, length, get_or, set, Some, None, refl, ap, sym, subst, ◌∙◌, arith, ⊎_elim, eq-eqb, ne_eqb}
use Rattle.std.specs.List.{insert, remove}
use Rattle.std.proofs.lemmas.Bool.{cases_eq, cases_lt, lt-ltb, le-ltb}
use Rattle.std.proofs.lemmas.List.{length-set, length_push}
use Rattle.std.proofs.lemmas.List.Edits.{length-insert, length-remove}
use Rattle.iscsi_slots.specs.Places.{AreAscending}
use Rattle.iscsi_slots.specs.Slots.{times}
use Rattle.iscsi_slots.proofs.SlotLemmas.{times_append, times_at, times_insert, times_remove, map-insert, map-remove}
use Rattle.iscsi_slots.proofs.SortedLemmas.{inserted_up, removed_up}
use Rattle.iscsi_tags.specs.declared.tag_line.TagLine.{TagLine}
use Rattle.iscsi_tags.specs.Tags.{NO_TAG, AreHeld, AreTags, AreUsed, entered, left, line_at, line_of, lines, tag_at, tag_line, tag_of, tagged, total, used_less, used_more}

-- ---- a tag is looked for

-- all tags before a place are lower
abbrev pub AreBelow : List TagLine → ℕ → ℕ → Type 0
AreBelow ts k tag = (j : ℕ) → j < k → tag_at ts j < tag

-- and all from there on are greater
abbrev pub AreAbove : List TagLine → ℕ → ℕ → Type 0
AreAbove ts k tag = (j : ℕ) → k ≤ j → j < length ts → tag < tag_at ts j

below_tail : (t : TagLine) (ts : List TagLine) (k tag : ℕ) → AreBelow (t ∷ ts) (suc k) tag → AreBelow ts k tag
below_tail t ts k tag below j l = below (suc j) (omega (arith, l))

above_tail : (t : TagLine) (ts : List TagLine) (k tag : ℕ) → AreAbove (t ∷ ts) (suc k) tag → AreAbove ts k tag
above_tail t ts k tag above j from l = above (suc j) (omega (arith, from)) (omega (arith, l))

-- where it doesn't stand at its place, those from there on are greater
pub beyond : (ts : List TagLine) (k tag : ℕ) → AreAscending tag_of ts → ((j : ℕ) → k ≤ j → j < length ts → tag ≤ tag_at ts j) → (k < length ts → tag_at ts k ≡ tag → ⊥) → AreAbove ts k tag
beyond ts k tag up above none j from l =
    let here : tag ≤ tag_at ts k = above k (omega arith) (omega (arith, from, l)) in
    let apart : tag_at ts k ≢ tag = none (omega (arith, from, l)) in
    ⊎_elim
    (λ (same : k ≡ j). subst (λ n. tag < tag_at ts n) same (omega (arith, here, apart)))
    (λ other. let u : tag_at ts k < tag_at ts j = up k j NO_TAG (omega (arith, from, other)) l in omega (arith, here, u))
    (cases_eq k j)

pub line_here : (ts : List TagLine) (k tag : ℕ) → k < length ts → tag_at ts k ≡ tag → AreBelow ts k tag → line_of tag ts ≡ Some (line_at ts k).line
line_here [] k tag l at below = absurd (omega (arith, l))
line_here (t ∷ ts) zero tag l at below = ap (λ b. cond b (Some t.line) (line_of tag ts)) (eq-eqb t.tag tag at)
line_here (t ∷ ts) (suc k) tag l at below =
    let low : t.tag < tag = below 0 (omega arith) in
    ap (λ b. cond b (Some t.line) (line_of tag ts)) (ne_eqb t.tag tag (λ e. omega (arith, e, low)))
    ∙ line_here ts k tag (omega (arith, l)) at (below_tail t ts k tag below)

pub line_nowhere : (ts : List TagLine) (k tag : ℕ) → AreBelow ts k tag → AreAbove ts k tag → line_of tag ts ≡ None
line_nowhere [] k tag below above = refl
line_nowhere (t ∷ ts) zero tag below above =
    let high : tag < t.tag = above 0 (omega arith) (omega arith) in
    ap (λ b. cond b (Some t.line) (line_of tag ts)) (ne_eqb t.tag tag (λ e. omega (arith, e, high)))
    ∙ line_nowhere ts zero tag (λ j l. absurd (omega (arith, l))) (λ j from l. above (suc j) (omega arith) (omega (arith, l)))
line_nowhere (t ∷ ts) (suc k) tag below above =
    let low : t.tag < tag = below 0 (omega arith) in
    ap (λ b. cond b (Some t.line) (line_of tag ts)) (ne_eqb t.tag tag (λ e. omega (arith, e, low)))
    ∙ line_nowhere ts k tag (below_tail t ts k tag below) (above_tail t ts k tag above)

-- ---- a tag is used once more

pub some_line : {a b : ℕ} → Some a ≡ Some b → a ≡ b
some_line e = cc

abbrev entered_first : ℕ → ℕ → TagLine → List TagLine → Bool → Bool → List TagLine
entered_first tag line t ts low here = cond low (tag_line tag line 1 ∷ t ∷ ts) (cond here (used_more t ∷ ts) (t ∷ entered tag line ts))

pub entered_here : (ts : List TagLine) (k tag line : ℕ) → k < length ts → tag_at ts k ≡ tag → AreBelow ts k tag → entered tag line ts ≡ set ts k (used_more (line_at ts k))
entered_here [] k tag line l at below = absurd (omega (arith, l))
entered_here (t ∷ ts) zero tag line l at below =
    let is : t.tag ≡ tag = at in
    ap (λ b. entered_first tag line t ts b (t.tag == tag)) (le-ltb tag t.tag (omega (arith, is)))
    ∙ ap (λ b. entered_first tag line t ts false b) (eq-eqb t.tag tag is)
entered_here (t ∷ ts) (suc k) tag line l at below =
    let low : t.tag < tag = below 0 (omega arith) in
    ap (λ b. entered_first tag line t ts b (t.tag == tag)) (le-ltb tag t.tag (omega (arith, low)))
    ∙ ap (λ b. entered_first tag line t ts false b) (ne_eqb t.tag tag (λ e. omega (arith, e, low)))
    ∙ ap (λ r. t ∷ r) (entered_here ts k tag line (omega (arith, l)) at (below_tail t ts k tag below))

pub entered_new : (ts : List TagLine) (k tag line : ℕ) → k ≤ length ts → AreBelow ts k tag → AreAbove ts k tag → entered tag line ts ≡ insert ts k (tag_line tag line 1)
entered_new [] zero tag line l below above = refl
entered_new [] (suc k) tag line l below above = absurd (omega (arith, l))
entered_new (t ∷ ts) zero tag line l below above =
    let high : tag < t.tag = above 0 (omega arith) (omega arith) in
    ap (λ b. entered_first tag line t ts b (t.tag == tag)) (lt-ltb tag t.tag high)
entered_new (t ∷ ts) (suc k) tag line l below above =
    let low : t.tag < tag = below 0 (omega arith) in
    ap (λ b. entered_first tag line t ts b (t.tag == tag)) (le-ltb tag t.tag (omega (arith, low)))
    ∙ ap (λ b. entered_first tag line t ts false b) (ne_eqb t.tag tag (λ e. omega (arith, e, low)))
    ∙ ap (λ r. t ∷ r) (entered_new ts k tag line (omega (arith, l)) (below_tail t ts k tag below) (above_tail t ts k tag above))

-- ---- a tag is used once less

abbrev left_first : ℕ → TagLine → List TagLine → Bool → Bool → List TagLine
left_first tag t ts here more = cond here (cond more (used_less t ∷ ts) ts) (t ∷ left tag ts)

pub left_fewer : (ts : List TagLine) (k tag : ℕ) → k < length ts → tag_at ts k ≡ tag → AreBelow ts k tag → 1 < (line_at ts k).uses → left tag ts ≡ set ts k (used_less (line_at ts k))
left_fewer [] k tag l at below more = absurd (omega (arith, l))
left_fewer (t ∷ ts) zero tag l at below more =
    ap (λ b. left_first tag t ts b (ltb 1 t.uses)) (eq-eqb t.tag tag at) ∙ ap (λ b. left_first tag t ts true b) (lt-ltb 1 t.uses more)
left_fewer (t ∷ ts) (suc k) tag l at below more =
    let low : t.tag < tag = below 0 (omega arith) in
    ap (λ b. left_first tag t ts b (ltb 1 t.uses)) (ne_eqb t.tag tag (λ e. omega (arith, e, low)))
    ∙ ap (λ r. t ∷ r) (left_fewer ts k tag (omega (arith, l)) at (below_tail t ts k tag below) more)

pub left_gone : (ts : List TagLine) (k tag : ℕ) → k < length ts → tag_at ts k ≡ tag → AreBelow ts k tag → (line_at ts k).uses ≤ 1 → left tag ts ≡ remove ts k
left_gone [] k tag l at below once = absurd (omega (arith, l))
left_gone (t ∷ ts) zero tag l at below once =
    ap (λ b. left_first tag t ts b (ltb 1 t.uses)) (eq-eqb t.tag tag at) ∙ ap (λ b. left_first tag t ts true b) (le-ltb 1 t.uses once)
left_gone (t ∷ ts) (suc k) tag l at below once =
    let low : t.tag < tag = below 0 (omega arith) in
    ap (λ b. left_first tag t ts b (ltb 1 t.uses)) (ne_eqb t.tag tag (λ e. omega (arith, e, low)))
    ∙ ap (λ r. t ∷ r) (left_gone ts k tag (omega (arith, l)) at (below_tail t ts k tag below) once)

pub left_none : (ts : List TagLine) (tag : ℕ) → line_of tag ts ≡ None → left tag ts ≡ ts
left_none [] tag none = refl
left_none (t ∷ ts) tag none = ⊎_elim
    (λ same. let e : Some t.line ≡ None = sym (ap (λ b. cond b (Some t.line) (line_of tag ts)) (eq-eqb t.tag tag same)) ∙ none in absurd (cc))
    (λ other.
    let off = ne_eqb t.tag tag other in
    ap (λ b. left_first tag t ts b (ltb 1 t.uses)) off
    ∙ ap (λ r. t ∷ r) (left_none ts tag (sym (ap (λ b. cond b (Some t.line) (line_of tag ts)) off) ∙ none)))
    (cases_eq t.tag tag)

-- ---- lines and uses

line_read : (xs : List TagLine) (i : ℕ) (d : TagLine) → i < length xs → line_at xs i ≡ get_or xs i d
line_read [] i d l = absurd (omega (arith, l))
line_read (x ∷ xs) zero d l = refl
line_read (x ∷ xs) (suc i) d l = line_read xs i d (omega (arith, l))

lines_at : (xs : List TagLine) (i : ℕ) → i < length xs → get_or (lines xs) i 0 ≡ (line_at xs i).line
lines_at [] i l = absurd (omega (arith, l))
lines_at (x ∷ xs) zero l = refl
lines_at (x ∷ xs) (suc i) l = lines_at xs i (omega (arith, l))

lines_long : (xs : List TagLine) → length (lines xs) ≡ length xs
lines_long [] = refl
lines_long (x ∷ xs) = ap suc (lines_long xs)

pub lines_set : (ts : List TagLine) (k : ℕ) (x : TagLine) → k < length ts → x.line ≡ (line_at ts k).line → lines (set ts k x) ≡ lines ts
lines_set [] k x l same = absurd (omega (arith, l))
lines_set (t ∷ ts) zero x l same = ap (λ n. n ∷ lines ts) same
lines_set (t ∷ ts) (suc k) x l same = ap (λ r. t.line ∷ r) (lines_set ts k x (omega (arith, l)) same)

pub total_set : (ts : List TagLine) (k : ℕ) (x : TagLine) → k < length ts → total (set ts k x) + (line_at ts k).uses ≡ total ts + x.uses
total_set [] k x l = absurd (omega (arith, l))
total_set (t ∷ ts) zero x l = omega arith
total_set (t ∷ ts) (suc k) x l = let rest = total_set ts k x (omega (arith, l)) in omega (arith, rest)

pub total_insert : (ts : List TagLine) (k : ℕ) (x : TagLine) → k ≤ length ts → total (insert ts k x) ≡ total ts + x.uses
total_insert [] zero x l = omega arith
total_insert [] (suc k) x l = absurd (omega (arith, l))
total_insert (t ∷ ts) zero x l = omega arith
total_insert (t ∷ ts) (suc k) x l = let rest = total_insert ts k x (omega (arith, l)) in omega (arith, rest)

pub total_remove : (ts : List TagLine) (k : ℕ) → k < length ts → total (remove ts k) + (line_at ts k).uses ≡ total ts
total_remove [] k l = absurd (omega (arith, l))
total_remove (t ∷ ts) zero l = omega arith
total_remove (t ∷ ts) (suc k) l = let rest = total_remove ts k (omega (arith, l)) in omega (arith, rest)

pub uses_few : (ts : List TagLine) (k : ℕ) → (line_at ts k).uses ≤ total ts
uses_few [] zero = omega arith
uses_few [] (suc k) = omega arith
uses_few (t ∷ ts) zero = omega arith
uses_few (t ∷ ts) (suc k) = let rest = uses_few ts k in omega (arith, rest)

pub used_set : (ts : List TagLine) (k : ℕ) (x : TagLine) → 1 ≤ x.uses → AreUsed ts → AreUsed (set ts k x)
used_set [] k x some used = tt
used_set (t ∷ ts) zero x some used = (some, used.1)
used_set (t ∷ ts) (suc k) x some used = (used.0, used_set ts k x some used.1)

pub used_insert : (ts : List TagLine) (k : ℕ) (x : TagLine) → k ≤ length ts → 1 ≤ x.uses → AreUsed ts → AreUsed (insert ts k x)
used_insert [] zero x l some used = (some, tt)
used_insert [] (suc k) x l some used = absurd (omega (arith, l))
used_insert (t ∷ ts) zero x l some used = (some, used)
used_insert (t ∷ ts) (suc k) x l some used = (used.0, used_insert ts k x (omega (arith, l)) some used.1)

pub used_remove : (ts : List TagLine) (k : ℕ) → k < length ts → AreUsed ts → AreUsed (remove ts k)
used_remove [] k l used = absurd (omega (arith, l))
used_remove (t ∷ ts) zero l used = used.1
used_remove (t ∷ ts) (suc k) l used = (used.0, used_remove ts k (omega (arith, l)) used.1)

-- each is used, so there are no more tags than uses
pub few_tags : (ts : List TagLine) → AreUsed ts → length ts ≤ total ts
few_tags [] used = omega arith
few_tags (t ∷ ts) used = let rest = few_tags ts used.1 in let some = used.0 in omega (arith, rest, some)

pub used_at : (ts : List TagLine) (k : ℕ) → k < length ts → AreUsed ts → 1 ≤ (line_at ts k).uses
used_at [] k l used = absurd (omega (arith, l))
used_at (t ∷ ts) zero l used = used.0
used_at (t ∷ ts) (suc k) l used = used_at ts k (omega (arith, l)) used.1

same_tag : (ts : List TagLine) (k : ℕ) (x : TagLine) → k < length ts → x.tag ≡ tag_at ts k → (i : ℕ) (d : TagLine) → tag_of (get_or (set ts k x) i d) ≡ tag_of (get_or ts i d)
same_tag [] k x l same i d = absurd (omega (arith, l))
same_tag (t ∷ ts) zero x l same zero d = same
same_tag (t ∷ ts) zero x l same (suc i) d = refl
same_tag (t ∷ ts) (suc k) x l same zero d = refl
same_tag (t ∷ ts) (suc k) x l same (suc i) d = same_tag ts k x (omega (arith, l)) same i d

pub ascending_set : (ts : List TagLine) (k : ℕ) (x : TagLine) → k < length ts → x.tag ≡ tag_at ts k → AreAscending tag_of ts → AreAscending tag_of (set ts k x)
ascending_set ts k x l same up i j d lt lj =
    let long = length-set ts k x in
    let a = same_tag ts k x l same i d in let b = same_tag ts k x l same j d in
    let u : tag_of (get_or ts i d) < tag_of (get_or ts j d) = up i j d lt (omega (arith, lj, long)) in omega (arith, a, b, u)

-- ---- what holds of them

abbrev pub one_if : Bool → ℕ
one_if b = cond b 1 0

is_one : (line room : ℕ) → line < room → one_if (ltb line room) ≡ 1
is_one line room l = ap one_if (lt-ltb line room l)

is_none : (line room : ℕ) → room ≤ line → one_if (ltb line room) ≡ 0
is_none line room l = ap one_if (le-ltb line room l)

pub one_at_most : (line room : ℕ) → one_if (ltb line room) ≤ 1
one_at_most line room = ⊎_elim
    (λ l. let a = is_one line room l in omega (arith, a))
    (λ past. let a = is_none line room past in omega (arith, a))
    (cases_lt line room)

pub inside : (line room n : ℕ) → n ≡ one_if (ltb line room) → 1 ≤ n → line < room
inside line room n is some = ⊎_elim
    (λ l. l)
    (λ past. let a = is_none line room past in absurd (omega (arith, a, is, some)))
    (cases_lt line room)

module _ (ts : List TagLine) (free : List ℕ) (a b room : ℕ) (held : AreHeld ts free a b room) where
  pub are_tags : AreTags (tagged ts room)
  are_tags = record {
    ascending = held.ascending;
    used = held.used;
    apart = λ line. let o = held.once line in let m = one_at_most line room in omega (arith, o, m);
    within = λ line there. inside line room (times line free + times line (lines ts)) (held.once line) (omega (arith, there));
    few = held.few;
  }

  pub line_held : (k line : ℕ) → k < length ts → line ≡ (line_at ts k).line → line < room
  line_held k line l is =
      let long = lines_long ts in
      let there = times_at (lines ts) k (omega (arith, l, long)) in
      let e : get_or (lines ts) k 0 ≡ line = lines_at ts k l ∙ sym is in
      are_tags.within line (subst (λ n. 1 ≤ times n (lines ts)) e there)

  -- a line is free where there are fewer uses than lines
  pub some_free : total ts < room → 1 ≤ length free
  some_free fewer = let f = few_tags ts held.used in let all = held.all in omega (arith, f, all, fewer)

  pub fits : (k : ℕ) → total ts < room → (line_at ts k).uses < 4294967295
  fits k fewer = let f = uses_few ts k in let s = held.short in omega (arith, f, s, fewer)

  -- a tag is used once more
  module _ (k : ℕ) (l : k < length ts) (fewer : total ts < room) where
    abbrev more : TagLine
    more = used_more (line_at ts k)

    pub held_more : (us : List TagLine) (c : ℕ) → us ≡ set ts k more → c ≡ a → AreHeld us free c b room
    held_more us c is same =
        subst (λ xs. AreHeld xs free c b room) (sym is) (subst (λ n. AreHeld (set ts k more) free n b room) (sym same) (record {
          ascending = ascending_set ts k more l refl held.ascending;
          used = used_set ts k more (omega arith) held.used;
          once = λ line. let o = held.once line in let e = ap (times line) (lines_set ts k more l refl) in omega (arith, o, e);
          all = let e = length-set ts k more in let o = held.all in omega (arith, e, o);
          few = let e = total_set ts k more l in omega (arith, e, fewer);
          tags_room = held.tags_room;
          free_room = held.free_room;
          short = held.short;
        }))

  -- a tag comes into use, with a line that was free
  module _ (k tag line : ℕ) (rest : List ℕ) (l : k ≤ length ts) (fewer : total ts < room) (last : free ≡ rest ++ line ∷ []) (below : AreBelow ts k tag) (above : AreAbove ts k tag) where
    line_once : (n : ℕ) → times n free ≡ times n rest + times n (line ∷ [])
    line_once n = ap (times n) last ∙ times_append n rest (line ∷ [])

    self : times line (line ∷ []) ≡ 1
    self = ap (λ x. cond x 1 0 + 0) (eq-eqb line line refl)

    pub fresh : times line (lines ts) ≡ 0
    fresh = let o = held.once line in let m = one_at_most line room in let e = line_once line in omega (arith, o, m, e, self)

    pub line_within : line < room
    line_within = inside line room (times line free + times line (lines ts)) (held.once line) (let e = line_once line in omega (arith, e, self))

    abbrev new : TagLine
    new = tag_line tag line 1

    below_at : (j : ℕ) (d : TagLine) → j < k → tag_of (get_or ts j d) < tag_of new
    below_at j d lj = subst (λ t. tag_of t < tag) (line_read ts j d (omega (arith, lj, l))) (below j lj)

    above_at : (j : ℕ) (d : TagLine) → k ≤ j → j < length ts → tag_of new < tag_of (get_or ts j d)
    above_at j d from lj = subst (λ t. tag < tag_of t) (line_read ts j d lj) (above j from lj)

    pub held_new : (us : List TagLine) (c d : ℕ) → us ≡ insert ts k new → a ≤ c → d ≡ b → AreHeld us rest c d room
    held_new us c d is roomy same =
        subst (λ xs. AreHeld xs rest c d room) (sym is) (record {
          ascending = inserted_up tag_of ts k new held.ascending l below_at above_at;
          used = used_insert ts k new l (omega arith) held.used;
          once = λ n.
              let o = held.once n in let e = line_once n in
              let m = ap (times n) (map-insert (λ (t : TagLine). t.line) ts k new) in
              let i = times_insert n (lines ts) k line (let q = lines_long ts in omega (arith, q, l)) in omega (arith, o, e, m, i);
          all = let e = length-insert ts k new l in let o = held.all in let q = ap length last in let p = length_push rest line in omega (arith, e, o, q, p);
          few = let e = total_insert ts k new l in omega (arith, e, fewer);
          tags_room = let r = held.tags_room in omega (arith, r, roomy);
          free_room = let r = held.free_room in omega (arith, r, same);
          short = held.short;
        })

  -- a tag is used once less, and still
  module _ (k : ℕ) (l : k < length ts) (several : 1 < (line_at ts k).uses) where
    abbrev less : TagLine
    less = used_less (line_at ts k)

    pub held_less : (us : List TagLine) (c : ℕ) → us ≡ set ts k less → c ≡ a → AreHeld us free c b room
    held_less us c is same =
        subst (λ xs. AreHeld xs free c b room) (sym is) (subst (λ n. AreHeld (set ts k less) free n b room) (sym same) (record {
          ascending = ascending_set ts k less l refl held.ascending;
          used = used_set ts k less (omega (arith, several)) held.used;
          once = λ line. let o = held.once line in let e = ap (times line) (lines_set ts k less l refl) in omega (arith, o, e);
          all = let e = length-set ts k less in let o = held.all in omega (arith, e, o);
          few = let e = total_set ts k less l in let f = held.few in omega (arith, e, f, several);
          tags_room = held.tags_room;
          free_room = held.free_room;
          short = held.short;
        }))

  -- a tag goes out of use, and its line is free
  module _ (k line : ℕ) (l : k < length ts) (at : line ≡ (line_at ts k).line) where
    pub free_fits : length free < b
    free_fits = let o = held.all in let r = held.free_room in omega (arith, o, r, l)

    pub held_gone : (us : List TagLine) (freed : List ℕ) (c d : ℕ) → us ≡ remove ts k → freed ≡ free ++ line ∷ [] → c ≡ a → d ≡ b → AreHeld us freed c d room
    held_gone us freed c d is now same_c same_d =
        subst (λ xs. AreHeld xs freed c d room) (sym is) (subst (λ fs. AreHeld (remove ts k) fs c d room) (sym now) (record {
          ascending = removed_up tag_of ts k l held.ascending;
          used = used_remove ts k l held.used;
          once = λ n.
              let o = held.once n in
              let p = times_append n free (line ∷ []) in
              let m = ap (times n) (map-remove (λ (t : TagLine). t.line) ts k) in
              let r = times_remove n (lines ts) k (let q = lines_long ts in omega (arith, q, l)) in
              let e = ap (λ x. times n (x ∷ [])) (lines_at ts k l ∙ sym at) in omega (arith, o, p, m, r, e);
          all = let e = length-remove ts k l in let o = held.all in let p = length_push free line in omega (arith, e, o, p);
          few = let e = total_remove ts k l in let f = held.few in omega (arith, e, f);
          tags_room = let r = held.tags_room in omega (arith, r, same_c);
          free_room = let r = held.free_room in omega (arith, r, same_d);
          short = held.short;
        }))

-- ---- none is in use

pub held_opened : (free : List ℕ) (a b room : ℕ) → ((line : ℕ) → times line free ≡ one_if (ltb line room)) → length free ≡ room → room ≤ a → room ≤ b → room ≤ 4294967295 → AreHeld [] free a b room
held_opened free a b room once all tags_room free_room short = record {
  ascending = λ i j d lt l. absurd (omega (arith, l));
  used = tt;
  once = λ line. let o = once line in omega (arith, o);
  all = omega (arith, all);
  few = omega arith;
  tags_room = tags_room;
  free_room = free_room;
  short = short;
}

-- one line more is free
pub counted_more : (free : List ℕ) (n : ℕ) → ((line : ℕ) → times line free ≡ one_if (ltb line n)) → (line : ℕ) → times line (free ++ n ∷ []) ≡ one_if (ltb line (n + 1))
counted_more free n are line =
    let a = times_append line free (n ∷ []) in
    let b = are line in
    ⊎_elim
    (λ (same : n ≡ line).
    let c : times line (n ∷ []) ≡ 1 = ap (λ x. cond x 1 0 + 0) (eq-eqb n line same) in
    let d = is_none line n (omega (arith, same)) in let e = is_one line (n + 1) (omega (arith, same)) in omega (arith, a, b, c, d, e))
    (λ other.
    let c : times line (n ∷ []) ≡ 0 = ap (λ x. cond x 1 0 + 0) (ne_eqb n line other) in
    ⊎_elim
    (λ l. let d = is_one line n l in let e = is_one line (n + 1) (omega (arith, l)) in omega (arith, a, b, c, d, e))
    (λ past. let d = is_none line n past in let e = is_none line (n + 1) (omega (arith, past, other)) in omega (arith, a, b, c, d, e))
    (cases_lt line n))
    (cases_eq n line)
