-- The first of some answers is dropped, or waits for other sessions no more.
use Rattle.std.proofs.Common.{◌≡◌, ℕ, ◌+◌, ◌<◌, ◌≤◌, not, cond, Bool, true, false, List, [], ◌∷◌, ◌++◌, length, filter, set, refl, ap, sym, subst, ◌∙◌, arith}
use Rattle.std.specs.List.{list_any}
use Rattle.std.proofs.lemmas.Bool.{or_parts}
use Rattle.std.proofs.lemmas.List.{get_or-set_same, get_or-set_other}
use Rattle.iscsi_slots.specs.Slots.{times}
use Rattle.iscsi_slots.proofs.SlotLemmas.{times_append}
use Rattle.iscsi_lists.specs.Lists.{AreApart, Listed, linked_in}
use Rattle.iscsi_lists.proofs.WithoutLemmas.{none_behind, not_first, times_same}
use Rattle.iscsi_outbox_state.specs.declared.lane.Undue.{Undue}
use Rattle.iscsi_outbox_state.specs.declared.lane.Standing.{Standing}
use Rattle.iscsi_outbox_state.specs.declared.lane.Standing.TheVariants.{Left as IsLeft, Undue as IsUndue}
use Rattle.iscsi_outbox_state.specs.Lane.{as_cleared, cleared_in, is_left, is_numbered, waits_for_clear}
use Rattle.iscsi_lane.specs.Standings.{AllBehind, IsLane, NOBODY, StandAt, StandsAt, at, is_undue, items_in, slots_at, standings, tally}
use Rattle.iscsi_lane.specs.Walking.{is_uncleared_of}
use Rattle.iscsi_lane.proofs.StandLemmas.{stand_set, standings_fresh, stands_at, tally_set}
use Rattle.iscsi_lane.proofs.LaneLemmas.{at_within}

-- ---- where it stands

module _ (order front : List ℕ) (s : ℕ) (rest : List ℕ) (parts : order ≡ front ++ s ∷ rest) where
  pub stands : 1 ≤ times s order
  stands = let a = ap (times s) parts in let b = times_append s front (s ∷ rest) in let c = times_same s s rest refl in omega (arith, a, b, c)

  pub alone : times s order ≤ 1 → (times s front ≡ 0) × (times s rest ≡ 0)
  alone once =
      let a = ap (times s) parts in let b = times_append s front (s ∷ rest) in let c = times_same s s rest refl in
      (omega (arith, a, b, c, once), omega (arith, a, b, c, once))

-- ---- it is dropped

module _ (test : Standing → Bool) where
  abbrev others : List Standing → List Standing
  others xs = filter (λ s. not (test s)) xs

  pub none_to_drop : (xs : List Standing) → list_any test xs ≡ false → others xs ≡ xs
  none_to_drop [] none = refl
  none_to_drop (x ∷ xs) none =
      let parts = or_parts (test x) (list_any test xs) none in
      ap (λ b. cond (not b) (x ∷ others xs) (others xs)) parts.0 ∙ ap (λ r. x ∷ r) (none_to_drop xs parts.1)

  pub others_same : (xs : List Standing) (s : ℕ) → test (at xs s) ≡ true → (front rest : List ℕ) → others (standings xs (front ++ rest)) ≡ others (standings xs (front ++ s ∷ rest))
  others_same xs s on [] rest = sym (ap (λ b. cond (not b) (at xs s ∷ others (standings xs rest)) (others (standings xs rest))) on)
  others_same xs s on (y ∷ ys) rest = ap (λ r. cond (not (test (at xs y))) (at xs y ∷ r) r) (others_same xs s on ys rest)

-- ---- it waits for other sessions no more

passes_on : (unit : ℕ) (x : Standing) (rest : List Standing) → is_uncleared_of unit x ≡ false → cleared_in unit (x ∷ rest) ≡ x ∷ cleared_in unit rest
passes_on unit (IsLeft c) rest off = refl
passes_on unit (IsUndue a) rest off = ap (λ b. cond b (IsUndue (as_cleared a) ∷ rest) (IsUndue a ∷ cleared_in unit rest)) off

pub none_to_clear : (unit : ℕ) (xs : List Standing) → list_any (is_uncleared_of unit) xs ≡ false → cleared_in unit xs ≡ xs
none_to_clear unit [] none = refl
none_to_clear unit (x ∷ xs) none =
    let parts = or_parts (is_uncleared_of unit x) (list_any (is_uncleared_of unit) xs) none in
    passes_on unit x xs parts.0 ∙ ap (λ r. x ∷ r) (none_to_clear unit xs parts.1)

module _ (unit : ℕ) (xs : List Standing) (s : ℕ) (a : Undue) (is : at xs s ≡ IsUndue a) (on : waits_for_clear unit a ≡ true) (l : s < length xs) (rest : List ℕ) (behind : times s rest ≡ 0) where
  abbrev changed : List Standing
  changed = set xs s (IsUndue (as_cleared a))

  pub clears : (front : List ℕ) → times s front ≡ 0 → list_any (is_uncleared_of unit) (standings xs front) ≡ false → cleared_in unit (standings xs (front ++ s ∷ rest)) ≡ standings changed (front ++ s ∷ rest)
  clears [] none off =
      ap (λ x. cleared_in unit (x ∷ standings xs rest)) is
      ∙ ap (λ b. cond b (IsUndue (as_cleared a) ∷ standings xs rest) (IsUndue a ∷ cleared_in unit (standings xs rest))) on
      ∙ ap (λ x. x ∷ standings xs rest) (sym (get_or-set_same xs s (IsUndue (as_cleared a)) NOBODY l))
      ∙ ap (λ r. at changed s ∷ r) (sym (standings_fresh xs s (IsUndue (as_cleared a)) rest behind))
  clears (y ∷ ys) none off =
      let parts = or_parts (is_uncleared_of unit (at xs y)) (list_any (is_uncleared_of unit) (standings xs ys)) off in
      passes_on unit (at xs y) (standings xs (ys ++ s ∷ rest)) parts.0
      ∙ ap (λ r. at xs y ∷ r) (clears ys (none_behind s y ys none) parts.1)
      ∙ ap (λ x. x ∷ standings changed (ys ++ s ∷ rest)) (sym (get_or-set_other xs s y (IsUndue (as_cleared a)) NOBODY (not_first s y ys none)))

module _ (log : Listed Standing) (conns commands answers owing waiting numbered : ℕ) (lane : IsLane log commands answers owing waiting numbered) (known : AreApart (linked_in log)) (long : length log.values ≡ log.room + 1)
    (s : ℕ) (a : Undue) (there : 1 ≤ times s (slots_at log 2)) (is : at log.values s ≡ IsUndue a) (t : Listed Standing) (is_t : t ≡ record log { values = set log.values s (IsUndue (as_cleared a)) }) where
  inside : s < length log.values
  inside = let b = at_within log commands lane.standing known 2 s there in omega (arith, b, long)

  changed_tally : (test : Standing → Bool) → test (IsUndue (as_cleared a)) ≡ test (IsUndue a) → tally test (items_in t) ≡ tally test (items_in log)
  changed_tally test same = ap (λ (u : Listed Standing). tally test (items_in u)) is_t ∙ tally_set test log.values s (IsUndue (as_cleared a)) (slots_at log 2) inside (same ∙ ap test (sym is))

  pub cleared_lane : IsLane t commands answers owing waiting numbered
  cleared_lane = record {
    standing = record {
      all = ap (λ (u : Listed Standing). u.free) is_t ∙ lane.standing.all;
      lists = ap (λ (u : Listed Standing). length u.lists) is_t ∙ lane.standing.lists;
      behind = subst (AllBehind commands) (sym (ap (λ (u : Listed Standing). slots_at u 1) is_t)) lane.standing.behind;
      stand = subst (λ (u : Listed Standing). StandAt commands u.values (slots_at u 2)) (sym is_t)
          (stand_set commands log.values s (IsUndue (as_cleared a)) (slots_at log 2) inside
          (subst (StandsAt commands s) is (stands_at commands log.values s (slots_at log 2) there lane.standing.stand)) lane.standing.stand);
      most = let b = ap (λ (u : Listed Standing). u.room) is_t in let d = lane.standing.most in omega (arith, b, d);
    };
    slots = ap (λ (u : Listed Standing). u.room) is_t ∙ lane.slots;
    left = lane.left ∙ sym (changed_tally is_left refl);
    undue = lane.undue ∙ sym (changed_tally is_undue refl);
    of_numbered = lane.of_numbered ∙ sym (changed_tally is_numbered refl);
    rest = let b = ap (λ (u : Listed Standing). length (slots_at u 1)) is_t in let d = lane.rest in omega (arith, b, d);
  }

  pub cleared_view : (unit : ℕ) (front rest : List ℕ) → slots_at log 2 ≡ front ++ s ∷ rest → times s (slots_at log 2) ≤ 1 → waits_for_clear unit a ≡ true → list_any (is_uncleared_of unit) (standings log.values front) ≡ false
      → items_in t ≡ cleared_in unit (items_in log)
  cleared_view unit front rest parts once on none =
      let apart = alone (slots_at log 2) front s rest parts once in
      ap items_in is_t ∙ ap (standings (set log.values s (IsUndue (as_cleared a)))) parts
      ∙ sym (clears unit log.values s a is on inside rest apart.1 front apart.0 none)
      ∙ ap (λ q. cleared_in unit (standings log.values q)) (sym parts)
