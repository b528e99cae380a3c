-- Lines by key, numbers and the answers that are due follow the lane, as one comes, owes less, or goes.
use Rattle.std.proofs.Common.{◌≡◌, ◌≢◌, ℕ, ◌<◌, ◌≤◌, ◌==◌, ◌||◌, ◌&&◌, not, cond, Bool, true, false, List, [], ◌∷◌, ◌++◌, length, filter, set, Option, Some, None, refl, ap, sym, subst, ◌∙◌, arith, ⊎_elim, eq-eqb}
use Rattle.std.proofs.lemmas.Bool.{cases_Bool, cases_eq, eqb-true, false≢true}
use Rattle.std.proofs.lemmas.List.{append-nil, get_or-set_same}
use Rattle.iscsi_slots.specs.Slots.{times}
use Rattle.iscsi_slots.proofs.SlotLemmas.{times_append}
use Rattle.iscsi_lists.specs.Lists.{without}
use Rattle.iscsi_lists.proofs.WithoutLemmas.{times_other, times_without, times_without_other, without_none, without_other, without_same}
use Rattle.iscsi_outbox_state.specs.declared.lane.Aim.{Aim}
use Rattle.iscsi_outbox_state.specs.declared.lane.Aim.TheVariants.{Tag, Unit as AtUnit, Conn, Session, Nothing}
use Rattle.iscsi_outbox_state.specs.declared.lane.Left.{Left}
use Rattle.iscsi_outbox_state.specs.declared.lane.Undue.{Undue}
use Rattle.iscsi_outbox_state.specs.declared.lane.Standing.{Standing}
use Rattle.iscsi_outbox_state.specs.declared.lane.Standing.TheVariants.{Left as IsLeft, Undue as IsUndue}
use Rattle.iscsi_outbox_state.specs.Lane.{is_of_logout, is_same_aim}
use Rattle.iscsi_scopes.specs.Scopes.{AreKeysAscending, Scoped, entered, scoped}
use Rattle.iscsi_lane.specs.Standings.{NOBODY, at}
use Rattle.iscsi_lane.specs.Scoping.{Mirrors, as_item, due_of, is_it, stands_in, told, told_of}
use Rattle.iscsi_lane.specs.Times.{InOrder, gains, has, is_cleared}
use Rattle.iscsi_lane.specs.Following.{Follows}
use Rattle.iscsi_lane.proofs.MirrorLemmas.{comes_beside, comes_in}
use Rattle.iscsi_lane.proofs.StepLemmas.{filter_both}
use Rattle.iscsi_lane.proofs.TurnLemmas.{TellSame, answer_comes, command_comes, due_at, same_filter, told_beside, told_left}
use Rattle.iscsi_lane.proofs.OrderLemmas.{filter_few, filter_none, has_filter, has_none}
use Rattle.iscsi_lane.proofs.AfterLemmas.{due_stands}

pub or_none : (b : Bool) → (b || false) ≡ b
or_none true = refl
or_none false = refl

or_same : (b : Bool) → (b || b) ≡ b
or_same true = refl
or_same false = refl

pub and_none : (b : Bool) → (b && false) ≡ false
and_none true = refl
and_none false = refl

pub is_same : (t : ℕ) (o : Option ℕ) → is_it t o ≡ true → o ≡ Some t
is_same t None on = absurd (false≢true on)
is_same t (Some x) on = ap Some (eqb-true x t on)

-- ---- those that are due

pub has_is : (test : ℕ → Bool) (order due : List ℕ) → due ≡ filter test order → (t : ℕ) → 1 ≤ times t order → has due t ≡ test t
has_is test order due e t there = ap (λ d. has d t) e ∙ has_filter test order t there

has_not : (test : ℕ → Bool) (order due : List ℕ) → due ≡ filter test order → (t : ℕ) → times t order ≡ 0 → has due t ≡ false
has_not test order due e t none = ap (λ d. has d t) e ∙ has_none (filter test order) t (let few = filter_few t test order in omega (arith, few, none))

pub in_order_of : (test : ℕ → Bool) (order due : List ℕ) → due ≡ filter test order → InOrder due order
in_order_of test order due e = e ∙ same_filter test (has due) order (λ t there. sym (has_is test order due e t there))

pub in_order_push : (test : ℕ → Bool) (order due : List ℕ) → due ≡ filter test order → (s : ℕ) → times s order ≡ 0 → InOrder due (order ++ s ∷ [])
in_order_push test order due e s none =
    in_order_of test order due e ∙ sym (append-nil (filter (has due) order))
    ∙ ap (λ b. filter (has due) order ++ cond b (s ∷ []) []) (sym (has_not test order due e s none))
    ∙ sym (filter_both (has due) s (has due) order (s ∷ []))

pub filter_without : (test : ℕ → Bool) (s : ℕ) (slots : List ℕ) → filter test (without s slots) ≡ without s (filter test slots)
filter_without test s [] = refl
filter_without test s (y ∷ ys) =
    let rest = filter_without test s ys in
    ⊎_elim
    (λ (same : y ≡ s). ap (filter test) (without_same s y ys same) ∙ rest ∙ ⊎_elim
    (λ on. sym (ap (λ b. without s (cond b (y ∷ filter test ys) (filter test ys))) on ∙ without_same s y (filter test ys) same))
    (λ off. sym (ap (λ b. without s (cond b (y ∷ filter test ys) (filter test ys))) off))
    (cases_Bool (test y)))
    (λ other. ap (filter test) (without_other s y ys other) ∙ ⊎_elim
    (λ on. ap (λ b. cond b (y ∷ filter test (without s ys)) (filter test (without s ys))) on ∙ ap (λ r. y ∷ r) rest
    ∙ sym (ap (λ b. without s (cond b (y ∷ filter test ys) (filter test ys))) on ∙ without_other s y (filter test ys) other))
    (λ off. ap (λ b. cond b (y ∷ filter test (without s ys)) (filter test (without s ys))) off ∙ rest
    ∙ sym (ap (λ b. without s (cond b (y ∷ filter test ys) (filter test ys))) off))
    (cases_Bool (test y)))
    (cases_eq y s)

-- what isn't due is none of them
pub due_without : (test : ℕ → Bool) (order due : List ℕ) → due ≡ filter test order → (s : ℕ) → test s ≡ false → due ≡ filter test (without s order)
due_without test order due e s off = e ∙ sym (filter_without test s order ∙ without_none s (filter test order) (filter_none s test order off))

pub in_more : (t s : ℕ) (slots : List ℕ) → 1 ≤ times t (without s slots) → 1 ≤ times t slots
in_more t s slots there = ⊎_elim
    (λ (same : t ≡ s). let a = ap (λ k. times k (without s slots)) same in let b = times_without s slots in absurd (omega (arith, a, b, there)))
    (λ other. let a = times_without_other s t slots other in omega (arith, a, there))
    (cases_eq t s)

-- ---- what a look at a line gains is told

module _ (units tags : Scoped) (t key : ℕ) where
  unit_same : (aim : Aim) → is_same_aim (AtUnit key) aim ≡ true → is_it t (due_at units key) ≡ is_it t (due_of units tags aim)
  unit_same (AtUnit k) on = ap (λ n. is_it t (due_at units n)) (sym (eqb-true k key on))
  unit_same (Tag k) on = absurd (false≢true on)
  unit_same (Conn conn) on = absurd (false≢true on)
  unit_same Session on = absurd (false≢true on)
  unit_same Nothing on = absurd (false≢true on)

  pub unit_gain : (x : Standing) → stands_in (AtUnit key) x ≡ true → (is_cleared x && is_it t (due_at units key)) ≡ told_of units tags t x
  unit_gain (IsLeft c) on = refl
  unit_gain (IsUndue a) on = ap (λ b. not a.uncleared && b) (unit_same a.aim on)

  pub unit_or : (xs : List Standing) (order : List ℕ) → Mirrors AtUnit units xs order → (b : Bool) → b ≡ told units tags xs t → (b || gains units key xs t) ≡ told units tags xs t
  unit_or xs order mirrors b e = ⊎_elim
      (λ on.
      ap (λ g. b || g) (unit_gain (at xs t) (due_stands AtUnit units xs order mirrors key t (is_same t (due_at units key) on)))
      ∙ ap (λ q. q || told units tags xs t) e ∙ or_same (told units tags xs t))
      (λ off. ap (λ g. b || g) (ap (λ q. is_cleared (at xs t) && q) off ∙ and_none (is_cleared (at xs t))) ∙ or_none b ∙ e)
      (cases_Bool (is_it t (due_at units key)))

  tag_same : (aim : Aim) → is_same_aim (Tag key) aim ≡ true → is_it t (due_at tags key) ≡ is_it t (due_of units tags aim)
  tag_same (Tag k) on = ap (λ n. is_it t (due_at tags n)) (sym (eqb-true k key on))
  tag_same (AtUnit k) on = absurd (false≢true on)
  tag_same (Conn conn) on = absurd (false≢true on)
  tag_same Session on = absurd (false≢true on)
  tag_same Nothing on = absurd (false≢true on)

  pub tag_gain : (x : Standing) → stands_in (Tag key) x ≡ true → (is_cleared x && is_it t (due_at tags key)) ≡ told_of units tags t x
  tag_gain (IsLeft c) on = refl
  tag_gain (IsUndue a) on = ap (λ b. not a.uncleared && b) (tag_same a.aim on)

  tag_or : (xs : List Standing) (order : List ℕ) → Mirrors Tag tags xs order → (b : Bool) → b ≡ told units tags xs t → (b || gains tags key xs t) ≡ told units tags xs t
  tag_or xs order mirrors b e = ⊎_elim
      (λ on.
      ap (λ g. b || g) (tag_gain (at xs t) (due_stands Tag tags xs order mirrors key t (is_same t (due_at tags key) on)))
      ∙ ap (λ q. q || told units tags xs t) e ∙ or_same (told units tags xs t))
      (λ off. ap (λ g. b || g) (ap (λ q. is_cleared (at xs t) && q) off ∙ and_none (is_cleared (at xs t))) ∙ or_none b ∙ e)
      (cases_Bool (is_it t (due_at tags key)))

-- ---- a Logout's answer has no line

pub record HasNoLine (units tags : Scoped) (s : ℕ) (aim : Aim) : Type 0 where
  pub no_unit : (k : ℕ) → is_same_aim (AtUnit k) aim ≡ false
  pub no_tag : (k : ℕ) → is_same_aim (Tag k) aim ≡ false
  pub not_due : is_it s (due_of units tags aim) ≡ false

pub no_line_of : (units tags : Scoped) (s : ℕ) (aim : Aim) → is_of_logout aim ≡ true → HasNoLine units tags s aim
no_line_of units tags s (Tag tag) logout = absurd (false≢true logout)
no_line_of units tags s (AtUnit unit) logout = absurd (false≢true logout)
no_line_of units tags s (Conn conn) logout = record { no_unit = λ k. refl; no_tag = λ k. refl; not_due = refl }
no_line_of units tags s Session logout = record { no_unit = λ k. refl; no_tag = λ k. refl; not_due = refl }
no_line_of units tags s Nothing logout = record { no_unit = λ k. refl; no_tag = λ k. refl; not_due = refl }

-- ---- one comes

module _ (units tags : Scoped) (xs : List Standing) (order due : List ℕ) (f : Follows units tags xs order due)
    (up_u : AreKeysAscending units.lines) (up_t : AreKeysAscending tags.lines) (s : ℕ) (l : s < length xs)
    (none : times s order ≡ 0) (in_u : s < length units.items) (in_t : s < length tags.items) where
  -- a command, in two lines

  module _ (c : Left) where
    abbrev units_left : Scoped
    units_left = scoped (entered c.unit s units.lines) (set units.items s (as_item (IsLeft c))) units.room

    abbrev tags_left : Scoped
    tags_left = scoped (entered c.tag s tags.lines) (set tags.items s (as_item (IsLeft c))) tags.room

    left_same : (t : ℕ) → t ≢ s → TellSame units tags units_left tags_left t
    left_same t other key = (
      ap (is_it t) (command_comes AtUnit units xs order f.of_units up_u c.unit s (as_item (IsLeft c)) none in_u refl key),
      ap (is_it t) (command_comes Tag tags xs order f.of_tags up_t c.tag s (as_item (IsLeft c)) none in_t refl key),
    )

    pub left_comes : Follows units_left tags_left (set xs s (IsLeft c)) (order ++ s ∷ []) due
    left_comes = record {
      of_units = comes_in AtUnit units xs order f.of_units s (IsLeft c) l none c.unit (λ k. refl) up_u in_u;
      of_tags = comes_in Tag tags xs order f.of_tags s (IsLeft c) l none c.tag (λ k. refl) up_t in_t;
      is_due = f.is_due ∙ sym (told_left units tags units_left tags_left xs order s (IsLeft c) l none left_same refl);
    }

  -- an answer of a unit, in its line

  module _ (a : Undue) (key : ℕ) (of_it : a.aim ≡ AtUnit key) where
    abbrev units_with : Scoped
    units_with = scoped (entered key s units.lines) (set units.items s (as_item (IsUndue a))) units.room

    abbrev with_unit : List Standing
    with_unit = set xs s (IsUndue a)

    unit_here : (k : ℕ) → stands_in (AtUnit k) (IsUndue a) ≡ (key == k)
    unit_here k = ap (is_same_aim (AtUnit k)) of_it

    unit_beside : (k : ℕ) → stands_in (Tag k) (IsUndue a) ≡ false
    unit_beside k = ap (is_same_aim (Tag k)) of_it

    unit_tells : (t : ℕ) → t ≢ s → TellSame units tags units_with tags t
    unit_tells t other k = (answer_comes AtUnit units xs order f.of_units up_u key s (as_item (IsUndue a)) none in_u t k other, refl)

    pub unit_line : Mirrors AtUnit units_with with_unit (order ++ s ∷ [])
    unit_line = comes_in AtUnit units xs order f.of_units s (IsUndue a) l none key unit_here up_u in_u

    unit_at : at with_unit s ≡ IsUndue a
    unit_at = get_or-set_same xs s (IsUndue a) NOBODY l

    unit_it : (has due s || gains units_with key with_unit s) ≡ told units_with tags with_unit s
    unit_it =
        ap (λ b. b || gains units_with key with_unit s) (has_not (told units tags xs) order due f.is_due s none)
        ∙ unit_gain units_with tags s key (at with_unit s) (ap (stands_in (AtUnit key)) unit_at ∙ unit_here key ∙ eq-eqb key key refl)

    unit_each : (t : ℕ) → 1 ≤ times t (order ++ s ∷ []) → (has due t || gains units_with key with_unit t) ≡ told units_with tags with_unit t
    unit_each t there = ⊎_elim
        (λ (same : t ≡ s). subst (λ k. (has due k || gains units_with key with_unit k) ≡ told units_with tags with_unit k) (sym same) unit_it)
        (λ other.
        let b = times_append t order (s ∷ []) in let c = times_other t s [] (λ e. other (sym e)) in
        let before : 1 ≤ times t order = omega (arith, b, c, there) in
        unit_or units_with tags t key with_unit (order ++ s ∷ []) unit_line (has due t)
        (has_is (told units tags xs) order due f.is_due t before ∙ sym (told_beside units tags units_with tags xs order s (IsUndue a) l none unit_tells t before)))
        (cases_eq t s)

    pub unit_comes : (due' : List ℕ) → due' ≡ filter (λ t. has due t || gains units_with key with_unit t) (order ++ s ∷ []) → Follows units_with tags with_unit (order ++ s ∷ []) due'
    unit_comes due' e = record {
      of_units = unit_line;
      of_tags = comes_beside Tag tags xs order f.of_tags s (IsUndue a) l none unit_beside;
      is_due = e ∙ same_filter (λ t. has due t || gains units_with key with_unit t) (told units_with tags with_unit) (order ++ s ∷ []) unit_each;
    }

  -- an answer of a tag, in its line

  module _ (a : Undue) (key : ℕ) (of_it : a.aim ≡ Tag key) where
    abbrev tags_with : Scoped
    tags_with = scoped (entered key s tags.lines) (set tags.items s (as_item (IsUndue a))) tags.room

    abbrev with_tag : List Standing
    with_tag = set xs s (IsUndue a)

    tag_here : (k : ℕ) → stands_in (Tag k) (IsUndue a) ≡ (key == k)
    tag_here k = ap (is_same_aim (Tag k)) of_it

    tag_beside : (k : ℕ) → stands_in (AtUnit k) (IsUndue a) ≡ false
    tag_beside k = ap (is_same_aim (AtUnit k)) of_it

    tag_tells : (t : ℕ) → t ≢ s → TellSame units tags units tags_with t
    tag_tells t other k = (refl, answer_comes Tag tags xs order f.of_tags up_t key s (as_item (IsUndue a)) none in_t t k other)

    pub tag_line : Mirrors Tag tags_with with_tag (order ++ s ∷ [])
    tag_line = comes_in Tag tags xs order f.of_tags s (IsUndue a) l none key tag_here up_t in_t

    tag_at : at with_tag s ≡ IsUndue a
    tag_at = get_or-set_same xs s (IsUndue a) NOBODY l

    tag_it : (has due s || gains tags_with key with_tag s) ≡ told units tags_with with_tag s
    tag_it =
        ap (λ b. b || gains tags_with key with_tag s) (has_not (told units tags xs) order due f.is_due s none)
        ∙ tag_gain units tags_with s key (at with_tag s) (ap (stands_in (Tag key)) tag_at ∙ tag_here key ∙ eq-eqb key key refl)

    tag_each : (t : ℕ) → 1 ≤ times t (order ++ s ∷ []) → (has due t || gains tags_with key with_tag t) ≡ told units tags_with with_tag t
    tag_each t there = ⊎_elim
        (λ (same : t ≡ s). subst (λ k. (has due k || gains tags_with key with_tag k) ≡ told units tags_with with_tag k) (sym same) tag_it)
        (λ other.
        let b = times_append t order (s ∷ []) in let c = times_other t s [] (λ e. other (sym e)) in
        let before : 1 ≤ times t order = omega (arith, b, c, there) in
        tag_or units tags_with t key with_tag (order ++ s ∷ []) tag_line (has due t)
        (has_is (told units tags xs) order due f.is_due t before ∙ sym (told_beside units tags units tags_with xs order s (IsUndue a) l none tag_tells t before)))
        (cases_eq t s)

    pub tag_comes : (due' : List ℕ) → due' ≡ filter (λ t. has due t || gains tags_with key with_tag t) (order ++ s ∷ []) → Follows units tags_with with_tag (order ++ s ∷ []) due'
    tag_comes due' e = record {
      of_tags = tag_line;
      of_units = comes_beside AtUnit units xs order f.of_units s (IsUndue a) l none tag_beside;
      is_due = e ∙ same_filter (λ t. has due t || gains tags_with key with_tag t) (told units tags_with with_tag) (order ++ s ∷ []) tag_each;
    }

  -- an answer that has no line

  module _ (a : Undue) (logout : is_of_logout a.aim ≡ true) where
    pub beside_comes : Follows units tags (set xs s (IsUndue a)) (order ++ s ∷ []) due
    beside_comes =
        let none_of = no_line_of units tags s a.aim logout in
        record {
          of_units = comes_beside AtUnit units xs order f.of_units s (IsUndue a) l none none_of.no_unit;
          of_tags = comes_beside Tag tags xs order f.of_tags s (IsUndue a) l none none_of.no_tag;
          is_due = f.is_due
              ∙ sym (told_left units tags units tags xs order s (IsUndue a) l none (λ t other key. (refl, refl)) (ap (λ b. not a.uncleared && b) none_of.not_due ∙ and_none (not a.uncleared)));
        }
