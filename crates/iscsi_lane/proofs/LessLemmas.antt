-- Lines by key and the answers that are due follow the lane, as a command owes less or goes, and as an answer goes.
use Rattle.std.proofs.Common.{◌≡◌, ◌≢◌, ℕ, ◌<◌, ◌≤◌, ◌==◌, ◌||◌, ◌&&◌, not, Bool, true, false, List, length, filter, get_or, set, refl, ap, sym, subst, ◌∙◌, arith, ⊎_elim, eq-eqb, ne_eqb}
use Rattle.std.proofs.lemmas.Bool.{cases_eq, false≢true, or_from, or_parts}
use Rattle.std.proofs.lemmas.List.{get_or-set_same, get_or-set_other}
use Rattle.iscsi_slots.specs.Slots.{times}
use Rattle.iscsi_lists.specs.Lists.{without}
use Rattle.iscsi_lists.proofs.WithoutLemmas.{times_without}
use Rattle.iscsi_lines.specs.Lines.{BLANK}
use Rattle.iscsi_outbox_state.specs.declared.lane.Aim.TheVariants.{Tag, Unit as AtUnit}
use Rattle.iscsi_outbox_state.specs.declared.lane.Left.{Left}
use Rattle.iscsi_outbox_state.specs.declared.lane.Undue.{Undue}
use Rattle.iscsi_outbox_state.specs.declared.lane.Standing.{Standing}
use Rattle.iscsi_outbox_state.specs.declared.lane.Standing.TheVariants.{Left as IsLeft, Undue as IsUndue}
use Rattle.iscsi_outbox_state.specs.Lane.{is_of_logout, is_same_aim, not_running, not_under_way}
use Rattle.iscsi_scopes.specs.Scopes.{AreKeysAscending, Scoped, left, scoped, slots_of}
use Rattle.iscsi_lane.specs.Standings.{NOBODY, at}
use Rattle.iscsi_lane.specs.Scoping.{Mirrors, as_item, blocks, is_it, line_of, stands_in, told, told_of}
use Rattle.iscsi_lane.specs.Times.{InOrder, gains, has, is_cleared}
use Rattle.iscsi_lane.specs.Following.{Follows}
use Rattle.iscsi_lane.proofs.MirrorLemmas.{goes_beside, goes_out, its_line, line_has, none_in_line, owes_less}
use Rattle.iscsi_lane.proofs.ToldLemmas.{item_at}
use Rattle.iscsi_lane.proofs.TurnLemmas.{due_at, gone_beside, gone_stays, less_beside, less_stays, same_filter}
use Rattle.iscsi_lane.proofs.FollowLemmas.{due_without, filter_without, has_is, in_order_of, is_same, no_line_of, or_none, tag_gain, unit_gain}
use Rattle.iscsi_lane.proofs.AfterLemmas.{due_stands, told_then}

-- a command that owes less holds back no more than before
pub less_running : (c : Left) (conn : ℕ) → blocks conn (as_item (IsLeft c)) ≡ false → blocks conn (as_item (IsLeft (not_running c))) ≡ false
less_running c conn off = (or_parts c.running (c.under_way && not (c.conn == conn)) off).1

pub less_under_way : (c : Left) (conn : ℕ) → blocks conn (as_item (IsLeft c)) ≡ false → blocks conn (as_item (IsLeft (not_under_way c))) ≡ false
less_under_way c conn off = or_from c.running false (or_parts c.running (c.under_way && not (c.conn == conn)) off).0 refl

and_both : (p q : Bool) → (p && q) ≡ true → (p ≡ true) × (q ≡ true)
and_both true q on = (refl, on)
and_both false q on = absurd (false≢true on)

-- what is told anyway makes no difference
extra_last : (b g h : Bool) → (h ≡ true → b ≡ true) → (b || g) ≡ ((b || g) || h)
extra_last true g h on = refl
extra_last false g true on = absurd (false≢true (on refl))
extra_last false g false on = sym (or_none g)

extra_first : (b h g : Bool) → (h ≡ true → b ≡ true) → (b || g) ≡ ((b || h) || g)
extra_first true h g on = refl
extra_first false true g on = absurd (false≢true (on refl))
extra_first false false g on = refl

-- looks at two lines
two_looks : (order due due1 due2 : List ℕ) (test g1 g2 new : ℕ → Bool) → ((t : ℕ) → 1 ≤ times t order → has due t ≡ test t)
    → due1 ≡ filter (λ t. has due t || g1 t) order → due2 ≡ filter (λ t. has due1 t || g2 t) order
    → ((t : ℕ) → 1 ≤ times t order → new t ≡ ((test t || g1 t) || g2 t)) → due2 ≡ filter new order
two_looks order due due1 due2 test g1 g2 new is e1 e2 all =
    e2 ∙ same_filter (λ t. has due1 t || g2 t) new order (λ t there.
    ap (λ b. b || g2 t) (has_is (λ k. has due k || g1 k) order due1 e1 t there ∙ ap (λ b. b || g1 t) (is t there)) ∙ sym (all t there))

module _ (units tags : Scoped) (xs : List Standing) (order due : List ℕ) (f : Follows units tags xs order due)
    (up_u : AreKeysAscending units.lines) (up_t : AreKeysAscending tags.lines) (s : ℕ) (once : (t : ℕ) → times t order ≤ 1) where
  -- ---- a command

  module _ (c : Left) (is : at xs s ≡ IsLeft c) where
    not_told : told units tags xs s ≡ false
    not_told = ap (told_of units tags s) is

    alone_u : (k : ℕ) → k ≢ c.unit → times s (slots_of k units.lines) ≡ 0
    alone_u k other = ap (times s) (f.of_units.lines k) ∙ none_in_line (AtUnit k) xs s order (ap (stands_in (AtUnit k)) is ∙ ne_eqb c.unit k (λ e. other (sym e)))

    alone_t : (k : ℕ) → k ≢ c.tag → times s (slots_of k tags.lines) ≡ 0
    alone_t k other = ap (times s) (f.of_tags.lines k) ∙ none_in_line (Tag k) xs s order (ap (stands_in (Tag k)) is ∙ ne_eqb c.tag k (λ e. other (sym e)))

    pub in_unit : 1 ≤ times s order → 1 ≤ times s (slots_of c.unit units.lines)
    in_unit there = its_line AtUnit units xs order f.of_units s c.unit (ap (stands_in (AtUnit c.unit)) is ∙ eq-eqb c.unit c.unit refl) there

    pub in_tag : 1 ≤ times s order → 1 ≤ times s (slots_of c.tag tags.lines)
    in_tag there = its_line Tag tags xs order f.of_tags s c.tag (ap (stands_in (Tag c.tag)) is ∙ eq-eqb c.tag c.tag refl) there

    pub unit_item : 1 ≤ times s order → get_or units.items s BLANK ≡ as_item (IsLeft c)
    unit_item there =
        item_at xs units.items s (line_of (AtUnit c.unit) xs order)
        (let a = line_has (AtUnit c.unit) xs s order (ap (stands_in (AtUnit c.unit)) is ∙ eq-eqb c.unit c.unit refl) in omega (arith, a, there)) (f.of_units.items c.unit)
        ∙ ap as_item is

    pub tag_item : 1 ≤ times s order → get_or tags.items s BLANK ≡ as_item (IsLeft c)
    tag_item there =
        item_at xs tags.items s (line_of (Tag c.tag) xs order)
        (let a = line_has (Tag c.tag) xs s order (ap (stands_in (Tag c.tag)) is ∙ eq-eqb c.tag c.tag refl) in omega (arith, a, there)) (f.of_tags.items c.tag)
        ∙ ap as_item is

    -- owes less

    module _ (d : Left) (same_unit : d.unit ≡ c.unit) (same_tag : d.tag ≡ c.tag) (less : (conn : ℕ) → blocks conn (as_item (IsLeft c)) ≡ false → blocks conn (as_item (IsLeft d)) ≡ false)
        (there : 1 ≤ times s order) (l : s < length xs) (in_u : s < length units.items) (in_t : s < length tags.items) where
      abbrev units_less : Scoped
      units_less = scoped units.lines (set units.items s (as_item (IsLeft d))) units.room

      abbrev tags_less : Scoped
      tags_less = scoped tags.lines (set tags.items s (as_item (IsLeft d))) tags.room

      abbrev with_less : List Standing
      with_less = set xs s (IsLeft d)

      pub less_units : Mirrors AtUnit units_less with_less order
      less_units = owes_less AtUnit units xs order f.of_units s (IsLeft d) l in_u (λ k. ap (λ u. u == k) same_unit ∙ sym (ap (stands_in (AtUnit k)) is))

      pub less_tags : Mirrors Tag tags_less with_less order
      less_tags = owes_less Tag tags xs order f.of_tags s (IsLeft d) l in_t (λ k. ap (λ u. u == k) same_tag ∙ sym (ap (stands_in (Tag k)) is))

      less_at : at with_less s ≡ IsLeft d
      less_at = get_or-set_same xs s (IsLeft d) NOBODY l

      abbrev less_told : ℕ → Bool
      less_told t = (told units tags xs t || gains units_less c.unit with_less t) || gains tags_less c.tag with_less t

      less_it : told units_less tags_less with_less s ≡ less_told s
      less_it =
          ap (told_of units_less tags_less s) less_at
          ∙ sym (ap (λ b. (b || gains units_less c.unit with_less s) || gains tags_less c.tag with_less s) not_told
          ∙ ap (λ x. (is_cleared x && is_it s (due_at units_less c.unit)) || (is_cleared x && is_it s (due_at tags_less c.tag))) less_at)

      less_each : (t : ℕ) → 1 ≤ times t order → told units_less tags_less with_less t ≡ less_told t
      less_each t in_it = ⊎_elim
          (λ (same : t ≡ s). subst (λ k. told units_less tags_less with_less k ≡ less_told k) (sym same) less_it)
          (λ other. told_then units tags units_less tags_less c.unit c.tag t
          (λ k due. less_stays AtUnit units xs order f.of_units up_u c.unit s t (once t) other (as_item (IsLeft d)) in_u
          (λ conn off. less conn (ap (blocks conn) (sym (unit_item there)) ∙ off)) k due)
          (λ k due. less_stays Tag tags xs order f.of_tags up_t c.tag s t (once t) other (as_item (IsLeft d)) in_t
          (λ conn off. less conn (ap (blocks conn) (sym (tag_item there)) ∙ off)) k due)
          (λ k away. less_beside AtUnit units xs order f.of_units up_u c.unit s k (as_item (IsLeft d)) (alone_u k away))
          (λ k away. less_beside Tag tags xs order f.of_tags up_t c.tag s k (as_item (IsLeft d)) (alone_t k away))
          xs with_less order less_units less_tags (get_or-set_other xs s t (IsLeft d) NOBODY other))
          (cases_eq t s)

      pub less_follows : (due1 due2 : List ℕ) → due1 ≡ filter (λ t. has due t || gains units_less c.unit with_less t) order
          → due2 ≡ filter (λ t. has due1 t || gains tags_less c.tag with_less t) order → Follows units_less tags_less with_less order due2
      less_follows due1 due2 e1 e2 = record {
        of_units = less_units;
        of_tags = less_tags;
        is_due = two_looks order due due1 due2 (told units tags xs) (λ t. gains units_less c.unit with_less t) (λ t. gains tags_less c.tag with_less t) (told units_less tags_less with_less)
            (λ t in_it. has_is (told units tags xs) order due f.is_due t in_it) e1 e2 less_each;
      }

    -- goes

    abbrev units_gone : Scoped
    units_gone = scoped (left c.unit s units.lines) units.items units.room

    abbrev tags_gone : Scoped
    tags_gone = scoped (left c.tag s tags.lines) tags.items tags.room

    pub gone_units : Mirrors AtUnit units_gone xs (without s order)
    gone_units = goes_out AtUnit units xs order f.of_units s c.unit (λ k. ap (stands_in (AtUnit k)) is) up_u

    pub gone_tags : Mirrors Tag tags_gone xs (without s order)
    gone_tags = goes_out Tag tags xs order f.of_tags s c.tag (λ k. ap (stands_in (Tag k)) is) up_t

    not_gone : (t : ℕ) → 1 ≤ times t (without s order) → t ≢ s
    not_gone t in_it same = let a = ap (λ k. times k (without s order)) same in let b = times_without s order in omega (arith, a, b, in_it)

    pub gone_due : due ≡ filter (told units tags xs) (without s order)
    gone_due = due_without (told units tags xs) order due f.is_due s not_told

    pub gone_in_order : InOrder due (without s order)
    gone_in_order = in_order_of (told units tags xs) (without s order) due gone_due

    gone_each : (t : ℕ) → 1 ≤ times t (without s order) → told units_gone tags_gone xs t ≡ ((told units tags xs t || gains units_gone c.unit xs t) || gains tags_gone c.tag xs t)
    gone_each t in_it =
        let other = not_gone t in_it in
        told_then units tags units_gone tags_gone c.unit c.tag t
        (λ k due. gone_stays AtUnit units xs order f.of_units up_u c.unit s t (once t) other k due)
        (λ k due. gone_stays Tag tags xs order f.of_tags up_t c.tag s t (once t) other k due)
        (λ k away. gone_beside AtUnit units xs order f.of_units up_u c.unit s k away)
        (λ k away. gone_beside Tag tags xs order f.of_tags up_t c.tag s k away)
        xs xs (without s order) gone_units gone_tags refl

    pub gone_follows : (due1 due2 : List ℕ) → due1 ≡ filter (λ t. has due t || gains units_gone c.unit xs t) (without s order)
        → due2 ≡ filter (λ t. has due1 t || gains tags_gone c.tag xs t) (without s order) → Follows units_gone tags_gone xs (without s order) due2
    gone_follows due1 due2 e1 e2 = record {
      of_units = gone_units;
      of_tags = gone_tags;
      is_due = two_looks (without s order) due due1 due2 (told units tags xs) (λ t. gains units_gone c.unit xs t) (λ t. gains tags_gone c.tag xs t) (told units_gone tags_gone xs)
          (λ t in_it. has_is (told units tags xs) (without s order) due gone_due t in_it) e1 e2 gone_each;
    }

  -- ---- an answer goes, and from those that are due

  module _ (rest : List ℕ) (is_rest : rest ≡ without s due) where
    rest_is : rest ≡ filter (told units tags xs) (without s order)
    rest_is = is_rest ∙ ap (without s) f.is_due ∙ sym (filter_without (told units tags xs) s order)

    pub rest_in_order : InOrder rest (without s order)
    rest_in_order = in_order_of (told units tags xs) (without s order) rest rest_is

    no_more : (t : ℕ) → 1 ≤ times t (without s order) → t ≢ s
    no_more t in_it same = let a = ap (λ k. times k (without s order)) same in let b = times_without s order in omega (arith, a, b, in_it)

    -- an answer of a unit
    module _ (a : Undue) (is : at xs s ≡ IsUndue a) (key : ℕ) (of_it : a.aim ≡ AtUnit key) where
      abbrev units_taken : Scoped
      units_taken = scoped (left key s units.lines) units.items units.room

      pub unit_left_line : Mirrors AtUnit units_taken xs (without s order)
      unit_left_line = goes_out AtUnit units xs order f.of_units s key (λ k. ap (stands_in (AtUnit k)) is ∙ ap (is_same_aim (AtUnit k)) of_it) up_u

      pub unit_other_line : Mirrors Tag tags xs (without s order)
      unit_other_line = goes_beside Tag tags xs order f.of_tags s (λ k. ap (stands_in (Tag k)) is ∙ ap (is_same_aim (Tag k)) of_it)

      pub in_line_of_unit : 1 ≤ times s order → 1 ≤ times s (slots_of key units.lines)
      in_line_of_unit there = its_line AtUnit units xs order f.of_units s key (ap (stands_in (AtUnit key)) is ∙ ap (is_same_aim (AtUnit key)) of_it ∙ eq-eqb key key refl) there

      -- in the other lines nothing is due that wasn't
      unit_nothing : (t : ℕ) → gains tags 0 xs t ≡ true → told units tags xs t ≡ true
      unit_nothing t on =
          let both = and_both (is_cleared (at xs t)) (is_it t (due_at tags 0)) on in
          sym (tag_gain units tags t 0 (at xs t) (due_stands Tag tags xs order f.of_tags 0 t (is_same t (due_at tags 0) both.1))) ∙ on

      unit_then : (t : ℕ) → 1 ≤ times t (without s order) → (has rest t || gains units_taken key xs t) ≡ told units_taken tags xs t
      unit_then t in_it =
          ap (λ b. b || gains units_taken key xs t) (has_is (told units tags xs) (without s order) rest rest_is t in_it)
          ∙ extra_last (told units tags xs t) (gains units_taken key xs t) (gains tags 0 xs t) (unit_nothing t)
          ∙ sym (told_then units tags units_taken tags key 0 t
          (λ k due. gone_stays AtUnit units xs order f.of_units up_u key s t (once t) (no_more t in_it) k due)
          (λ k due. due)
          (λ k away. gone_beside AtUnit units xs order f.of_units up_u key s k away)
          (λ k away. refl)
          xs xs (without s order) unit_left_line unit_other_line refl)

      pub unit_taken : (due' : List ℕ) → due' ≡ filter (λ t. has rest t || gains units_taken key xs t) (without s order) → Follows units_taken tags xs (without s order) due'
      unit_taken due' e = record {
        of_units = unit_left_line;
        of_tags = unit_other_line;
        is_due = e ∙ same_filter (λ t. has rest t || gains units_taken key xs t) (told units_taken tags xs) (without s order) unit_then;
      }

    -- an answer of a tag
    module _ (a : Undue) (is : at xs s ≡ IsUndue a) (key : ℕ) (of_it : a.aim ≡ Tag key) where
      abbrev tags_taken : Scoped
      tags_taken = scoped (left key s tags.lines) tags.items tags.room

      pub tag_left_line : Mirrors Tag tags_taken xs (without s order)
      tag_left_line = goes_out Tag tags xs order f.of_tags s key (λ k. ap (stands_in (Tag k)) is ∙ ap (is_same_aim (Tag k)) of_it) up_t

      pub tag_other_line : Mirrors AtUnit units xs (without s order)
      tag_other_line = goes_beside AtUnit units xs order f.of_units s (λ k. ap (stands_in (AtUnit k)) is ∙ ap (is_same_aim (AtUnit k)) of_it)

      pub in_line_of_tag : 1 ≤ times s order → 1 ≤ times s (slots_of key tags.lines)
      in_line_of_tag there = its_line Tag tags xs order f.of_tags s key (ap (stands_in (Tag key)) is ∙ ap (is_same_aim (Tag key)) of_it ∙ eq-eqb key key refl) there

      -- in the other lines nothing is due that wasn't
      tag_nothing : (t : ℕ) → gains units 0 xs t ≡ true → told units tags xs t ≡ true
      tag_nothing t on =
          let both = and_both (is_cleared (at xs t)) (is_it t (due_at units 0)) on in
          sym (unit_gain units tags t 0 (at xs t) (due_stands AtUnit units xs order f.of_units 0 t (is_same t (due_at units 0) both.1))) ∙ on

      tag_then : (t : ℕ) → 1 ≤ times t (without s order) → (has rest t || gains tags_taken key xs t) ≡ told units tags_taken xs t
      tag_then t in_it =
          ap (λ b. b || gains tags_taken key xs t) (has_is (told units tags xs) (without s order) rest rest_is t in_it)
          ∙ extra_first (told units tags xs t) (gains units 0 xs t) (gains tags_taken key xs t) (tag_nothing t)
          ∙ sym (told_then units tags units tags_taken 0 key t
          (λ k due. due)
          (λ k due. gone_stays Tag tags xs order f.of_tags up_t key s t (once t) (no_more t in_it) k due)
          (λ k away. refl)
          (λ k away. gone_beside Tag tags xs order f.of_tags up_t key s k away)
          xs xs (without s order) tag_other_line tag_left_line refl)

      pub tag_taken : (due' : List ℕ) → due' ≡ filter (λ t. has rest t || gains tags_taken key xs t) (without s order) → Follows units tags_taken xs (without s order) due'
      tag_taken due' e = record {
        of_tags = tag_left_line;
        of_units = tag_other_line;
        is_due = e ∙ same_filter (λ t. has rest t || gains tags_taken key xs t) (told units tags_taken xs) (without s order) tag_then;
      }

    -- an answer that has no line
    module _ (a : Undue) (is : at xs s ≡ IsUndue a) (logout : is_of_logout a.aim ≡ true) where
      pub beside_taken : Follows units tags xs (without s order) rest
      beside_taken =
          let none_of = no_line_of units tags s a.aim logout in
          record {
            of_units = goes_beside AtUnit units xs order f.of_units s (λ k. ap (stands_in (AtUnit k)) is ∙ none_of.no_unit k);
            of_tags = goes_beside Tag tags xs order f.of_tags s (λ k. ap (stands_in (Tag k)) is ∙ none_of.no_tag k);
            is_due = rest_is;
          }
