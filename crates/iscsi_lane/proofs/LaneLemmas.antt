-- The lane, where one comes, owes less, or goes.
use Rattle.std.proofs.Common.{◌≡◌, ◌≢◌, ℕ, ◌+◌, ◌<◌, ◌≤◌, Bool, true, false, List, [], ◌∷◌, ◌++◌, length, map, get_or, set, Option, Some, None, refl, ap, sym, subst, ◌∙◌, arith, ⊎_elim}
use Rattle.std.specs.List.{list_any}
use Rattle.std.specs.Option.{is_some}
use Rattle.std.proofs.lemmas.Bool.{cases_lt, cases_Bool, true≢false}
use Rattle.std.proofs.lemmas.List.{get_or-set_same, get_or-set_other, length-set, length-map}
use Rattle.iscsi_slots.specs.Slots.{times}
use Rattle.iscsi_lists.specs.Lists.{Listed, AreApart as AreSlotsApart, first_of, linked_in, times_in, without, with_last}
use Rattle.iscsi_lists.proofs.WithoutLemmas.{without_none, times_same}
use Rattle.iscsi_lists.proofs.PlaceLemmas.{nth_map, only_there, times_any}
use Rattle.iscsi_lines.proofs.MoveLemmas.{length_any, stands_in}
use Rattle.iscsi_outbox_state.specs.declared.lane.Left.{Left}
use Rattle.iscsi_outbox_state.specs.declared.lane.Undue.{Undue}
use Rattle.iscsi_outbox_state.specs.declared.lane.Standing.{Standing}
use Rattle.iscsi_outbox_state.specs.declared.lane.Standing.TheVariants.{Left as IsLeft, Undue as IsUndue}
use Rattle.iscsi_outbox_state.specs.Lane.{count_in, is_command, is_left, is_numbered, lessened, owes, with_items}
use Rattle.iscsi_lane.specs.Standings.{AllBehind, AreSound, AreStanding, Found, IsLane, NOBODY, StandAt, StandsAt, at, is_undue, items_in, lane_of, left_in, slots_at, standings, tally}
use Rattle.iscsi_lane.proofs.StandLemmas.{any_here, are_apart, behind_without, left_at, left_none, lessened_gone, lessened_kept, lessened_none, none_here, none_past, not_behind, one_if, stand_append, stand_fresh, stand_set, stand_without, standings_append, standings_fresh, standings_long, stands_at, tally_append, tally_few, tally_gone, tally_is, tally_set}

-- ---- a slot goes from list to list

module _ (s t : Listed Standing) (list slot : ℕ) (is : t ≡ record s { lists = with_last list slot (map (without slot) s.lists) }) where
  abbrev others_left : List (List ℕ)
  others_left = map (without slot) s.lists

  pub moved_other : (k : ℕ) → k ≢ list → slots_at t k ≡ without slot (slots_at s k)
  moved_other k other =
      ap (λ (u : Listed Standing). slots_at u k) is
      ∙ get_or-set_other others_left list k (get_or others_left list [] ++ slot ∷ []) [] other ∙ nth_map slot k s.lists

  pub moved_here : list < length s.lists → slots_at t list ≡ without slot (slots_at s list) ++ slot ∷ []
  moved_here l =
      ap (λ (u : Listed Standing). slots_at u list) is
      ∙ get_or-set_same others_left list (get_or others_left list [] ++ slot ∷ []) [] (let a = length-map s.lists (without slot) in omega (arith, a, l))
      ∙ ap (λ q. q ++ slot ∷ []) (nth_map slot list s.lists)

  pub moved_long : length t.lists ≡ length s.lists
  moved_long = ap (λ (u : Listed Standing). length u.lists) is ∙ length-set others_left list (get_or others_left list [] ++ slot ∷ []) ∙ length-map s.lists (without slot)

  pub moved_free : t.free ≡ s.free
  moved_free = ap (λ (u : Listed Standing). u.free) is

  pub moved_room : t.room ≡ s.room
  moved_room = ap (λ (u : Listed Standing). u.room) is

  pub moved_values : t.values ≡ s.values
  moved_values = ap (λ (u : Listed Standing). u.values) is

-- ---- where a slot is

module _ (log : Listed Standing) (commands : ℕ) (are : AreStanding log commands) (known : AreSlotsApart (linked_in log)) where
  pub in_one : (slot : ℕ) → times_in slot log.lists ≤ 1
  in_one slot = ⊎_elim
      (λ there.
      let some : 1 ≤ times slot log.free + times_in slot log.lists = omega (arith, there) in
      let one = known.once slot (known.some slot some) (known.within slot some) in omega (arith, one))
      (λ none. omega (arith, none))
      (cases_lt 0 (times_in slot log.lists))

  pub in_lists : (slot : ℕ) → 1 ≤ slot → slot ≤ log.room → 1 ≤ times_in slot log.lists
  in_lists slot low high = let one = known.once slot low high in let a = ap (times slot) are.all in omega (arith, one, a)

  pub in_at : (list slot : ℕ) → 1 ≤ times slot (slots_at log list) → 1 ≤ times_in slot log.lists
  in_at list slot there = let a = times_any slot list log.lists in omega (arith, a, there)

  pub at_some : (list slot : ℕ) → 1 ≤ times slot (slots_at log list) → 1 ≤ slot
  at_some list slot there = let a = in_at list slot there in known.some slot (omega (arith, a))

  pub at_within : (list slot : ℕ) → 1 ≤ times slot (slots_at log list) → slot ≤ log.room
  at_within list slot there = let a = in_at list slot there in known.within slot (omega (arith, a))

  pub at_once : (list slot : ℕ) → times slot (slots_at log list) ≤ 1
  at_once list slot = let a = times_any slot list log.lists in let b = in_one slot in omega (arith, a, b)

  pub only_at : (list slot k : ℕ) → 1 ≤ times slot (slots_at log list) → k ≢ list → times slot (slots_at log k) ≡ 0
  only_at list slot k there other = only_there slot list k log.lists there (in_one slot) other

  -- a slot whose list is told
  pub told_there : (slot list told : ℕ) → 1 ≤ slot → slot ≤ log.room → ((k : ℕ) → k < length log.lists → 1 ≤ times slot (slots_at log k) → told ≡ k) → told ≡ list → 1 ≤ times slot (slots_at log list)
  told_there slot list told low high tells is =
      let st = stands_in slot log.lists (in_lists slot low high) in
      let e : st.list ≡ list = sym (tells st.list st.within st.there) ∙ is in
      subst (λ k. 1 ≤ times slot (slots_at log k)) e st.there

  pub told_else : (slot list told : ℕ) → list < length log.lists → ((k : ℕ) → k < length log.lists → 1 ≤ times slot (slots_at log k) → told ≡ k) → told ≢ list → times slot (slots_at log list) ≡ 0
  told_else slot list told l tells other = ⊎_elim
      (λ there. absurd (other (tells list l there)))
      (λ none. omega (arith, none))
      (cases_lt 0 (times slot (slots_at log list)))

  -- ---- a command is looked for

  pub found_none : (command : ℕ) → times command (slots_at log 2) ≡ 0 → list_any (is_command command) (items_in log) ≡ false
  found_none command none = none_here commands log.values command (slots_at log 2) none are.stand

  pub found_zero : (command : ℕ) → command < 1 → list_any (is_command command) (items_in log) ≡ false
  found_zero command low = found_none command (⊎_elim
      (λ there. let a = at_some 2 command there in absurd (omega (arith, a, low)))
      (λ none. omega (arith, none))
      (cases_lt 0 (times command (slots_at log 2))))

  pub found_past : (command : ℕ) → commands < command → list_any (is_command command) (items_in log) ≡ false
  found_past command past = none_past commands log.values command (slots_at log 2) past are.stand

  pub found_left : (command : ℕ) (c : Left) → 1 ≤ times command (slots_at log 2) → at log.values command ≡ IsLeft c → Found log command (Some c)
  found_left command c there is =
      let stands = subst (StandsAt commands command) is (stands_at commands log.values command (slots_at log 2) there are.stand) in
      (there, (is, (stands.0, stands.1.1)))

  pub found_undue : (command : ℕ) (a : Undue) → command ≤ commands → 1 ≤ times command (slots_at log 2) → at log.values command ≡ IsUndue a → ⊥
  found_undue command a low there is =
      let past : commands < command = subst (StandsAt commands command) is (stands_at commands log.values command (slots_at log 2) there are.stand) in omega (arith, low, past)

  pub not_there : (command : ℕ) → command ≤ commands → list_any (is_command command) (items_in log) ≡ false → times command (slots_at log 2) ≡ 0
  not_there command low none = ⊎_elim
      (λ there. absurd (true≢false (sym (any_here commands log.values command (slots_at log 2) there low are.stand) ∙ none)))
      (λ gone. omega (arith, gone))
      (cases_lt 0 (times command (slots_at log 2)))

-- ---- one comes

module _ (log : Listed Standing) (conns commands answers owing waiting numbered : ℕ) (lane : IsLane log commands answers owing waiting numbered) (known : AreSlotsApart (linked_in log)) (long : length log.values ≡ log.room + 1)
    (slot : ℕ) (x : Standing) (p t : Listed Standing) (is_p : p ≡ record log { lists = with_last 2 slot (map (without slot) log.lists) }) (is_t : t ≡ record p { values = set p.values slot x })
    (low : slot ≤ log.room) (none : times slot (slots_at log 2) ≡ 0) (stands : StandsAt commands slot x) where
  t_slots : (k : ℕ) → slots_at t k ≡ slots_at p k
  t_slots k = ap (λ (u : Listed Standing). slots_at u k) is_t

  t_values : t.values ≡ set log.values slot x
  t_values = ap (λ (u : Listed Standing). u.values) is_t ∙ ap (λ v. set v slot x) (moved_values log p 2 slot is_p)

  t_order : slots_at t 2 ≡ slots_at log 2 ++ slot ∷ []
  t_order = t_slots 2 ∙ moved_here log p 2 slot is_p (let a = lane.standing.lists in omega (arith, a)) ∙ ap (λ q. q ++ slot ∷ []) (without_none slot (slots_at log 2) none)

  t_other : (k : ℕ) → k ≢ 2 → slots_at t k ≡ without slot (slots_at log k)
  t_other k other = t_slots k ∙ moved_other log p 2 slot is_p k other

  pub come_items : items_in t ≡ items_in log ++ x ∷ []
  come_items =
      ap (λ v. standings v (slots_at t 2)) t_values ∙ ap (standings (set log.values slot x)) t_order
      ∙ standings_append (set log.values slot x) (slots_at log 2) (slot ∷ [])
      ∙ ap (λ q. q ++ at (set log.values slot x) slot ∷ []) (standings_fresh log.values slot x (slots_at log 2) none)
      ∙ ap (λ i. items_in log ++ i ∷ []) (get_or-set_same log.values slot x NOBODY (omega (arith, low, long)))

  pub come_view : lane_of t conns commands answers ≡ with_items (lane_of log conns commands answers) (items_in log ++ x ∷ [])
  come_view = ap (with_items (lane_of log conns commands answers)) come_items

  come_tally : (test : Standing → Bool) → tally test (items_in t) ≡ tally test (items_in log) + one_if (test x)
  come_tally test = let a = ap (tally test) come_items in let b = tally_append test (items_in log) (x ∷ []) in omega (arith, a, b)

  pub come_lane : (o w m : ℕ) → o ≡ owing + one_if (is_left x) → w ≡ waiting + one_if (is_undue x) → m ≡ numbered + one_if (is_numbered x) → length (without slot (slots_at log 1)) + w ≡ answers → IsLane t commands answers o w m
  come_lane o w m eo ew em rest = record {
    standing = record {
      all = ap (λ (u : Listed Standing). u.free) is_t ∙ moved_free log p 2 slot is_p ∙ lane.standing.all;
      lists = ap (λ (u : Listed Standing). length u.lists) is_t ∙ moved_long log p 2 slot is_p ∙ lane.standing.lists;
      behind = subst (AllBehind commands) (sym (t_other 1 (λ e. omega (arith, e)))) (behind_without commands slot (slots_at log 1) lane.standing.behind);
      stand = subst (λ v. StandAt commands v (slots_at t 2)) (sym t_values) (subst (StandAt commands (set log.values slot x)) (sym t_order)
          (stand_append commands (set log.values slot x) (slots_at log 2) (slot ∷ [])
          (stand_fresh commands log.values slot x (slots_at log 2) none lane.standing.stand)
          (subst (StandsAt commands slot) (sym (get_or-set_same log.values slot x NOBODY (omega (arith, low, long)))) stands, tt)));
      most = let a = ap (λ (u : Listed Standing). u.room) is_t in let b = moved_room log p 2 slot is_p in let c = lane.standing.most in omega (arith, a, b, c);
    };
    slots = ap (λ (u : Listed Standing). u.room) is_t ∙ moved_room log p 2 slot is_p ∙ lane.slots;
    left = let a = come_tally is_left in let b = lane.left in omega (arith, a, b, eo);
    undue = let a = come_tally is_undue in let b = lane.undue in omega (arith, a, b, ew);
    of_numbered = let a = come_tally is_numbered in let b = lane.of_numbered in omega (arith, a, b, em);
    rest = let a = ap length (t_other 1 (λ e. omega (arith, e))) in omega (arith, a, rest);
  }

-- ---- a command owes less, or goes

module _ (log : Listed Standing) (conns commands answers owing waiting numbered : ℕ) (lane : IsLane log commands answers owing waiting numbered) (known : AreSlotsApart (linked_in log)) (long : length log.values ≡ log.room + 1)
    (change : Left → Left) (command : ℕ) where
  -- there is no such command
  pub none_view : list_any (is_command command) (items_in log) ≡ false → lane_of log conns commands answers ≡ lessened change command (lane_of log conns commands answers)
  none_view none = ap (with_items (lane_of log conns commands answers)) (sym (lessened_none change commands log.values command (slots_at log 2) lane.standing.stand none))

  module _ (c : Left) (found : Found log command (Some c)) where
    inside : command < length log.values
    inside = let a = at_within log commands lane.standing known 2 command found.0 in omega (arith, a, long)

    pub low : command ≤ commands
    low = let st = subst (StandsAt commands command) found.1.0 (stands_at commands log.values command (slots_at log 2) found.0 lane.standing.stand) in st.1.0

    module _ (t : Listed Standing) (on : owes (change c) ≡ true) (same_place : (change c).command ≡ command) (is : t ≡ record log { values = set log.values command (IsLeft (change c)) }) where
      kept_items : items_in t ≡ standings (set log.values command (IsLeft (change c))) (slots_at log 2)
      kept_items = ap items_in is

      pub kept_view : lane_of t conns commands answers ≡ lessened change command (lane_of log conns commands answers)
      kept_view = ap (with_items (lane_of log conns commands answers))
          (kept_items ∙ sym (lessened_kept change commands log.values command c found.1.0 found.1.1.0 on inside (slots_at log 2) lane.standing.stand))

      kept_tally : (test : Standing → Bool) → test (IsLeft (change c)) ≡ test (IsLeft c) → tally test (items_in t) ≡ tally test (items_in log)
      kept_tally test same = ap (tally test) kept_items ∙ tally_set test log.values command (IsLeft (change c)) (slots_at log 2) inside (same ∙ ap test (sym found.1.0))

      pub kept_lane : IsLane t commands answers owing waiting numbered
      kept_lane = record {
        standing = record {
          all = ap (λ (u : Listed Standing). u.free) is ∙ lane.standing.all;
          lists = ap (λ (u : Listed Standing). length u.lists) is ∙ lane.standing.lists;
          behind = subst (AllBehind commands) (sym (ap (λ (u : Listed Standing). slots_at u 1) is)) lane.standing.behind;
          stand = subst (λ (u : Listed Standing). StandAt commands u.values (slots_at u 2)) (sym is) (stand_set commands log.values command (IsLeft (change c)) (slots_at log 2) inside (same_place, (low, on)) lane.standing.stand);
          most = let a = ap (λ (u : Listed Standing). u.room) is in let b = lane.standing.most in omega (arith, a, b);
        };
        slots = ap (λ (u : Listed Standing). u.room) is ∙ lane.slots;
        left = lane.left ∙ sym (kept_tally is_left refl);
        undue = lane.undue ∙ sym (kept_tally is_undue refl);
        of_numbered = lane.of_numbered ∙ sym (kept_tally is_numbered refl);
        rest = let a = ap (λ (u : Listed Standing). length (slots_at u 1)) is in let b = lane.rest in omega (arith, a, b);
      }

    module _ (t : Listed Standing) (off : owes (change c) ≡ false) (is : t ≡ record log { lists = with_last 0 command (map (without command) log.lists) }) where
      gone_items : items_in t ≡ standings log.values (without command (slots_at log 2))
      gone_items = ap (λ v. standings v (slots_at t 2)) (moved_values log t 0 command is) ∙ ap (standings log.values) (moved_other log t 0 command is 2 (λ e. omega (arith, e)))

      pub gone_view : lane_of t conns commands answers ≡ lessened change command (lane_of log conns commands answers)
      gone_view = ap (with_items (lane_of log conns commands answers))
          (gone_items ∙ sym (lessened_gone change commands log.values command c found.1.0 found.1.1.0 off (slots_at log 2) lane.standing.stand))

      gone_tally : (test : Standing → Bool) → tally test (items_in t) + one_if (test (IsLeft c)) ≡ tally test (items_in log)
      gone_tally test =
          let once : times command (slots_at log 2) ≡ 1 = (let a = at_once log commands lane.standing known 2 command in let b = found.0 in omega (arith, a, b)) in
          let a = ap (tally test) gone_items in
          let b = tally_gone test log.values command (slots_at log 2) once in
          let e = ap (λ y. one_if (test y)) found.1.0 in omega (arith, a, b, e)

      pub some_owing : 1 ≤ owing
      some_owing = let a = gone_tally is_left in let b = lane.left in omega (arith, a, b)

      pub gone_lane : (o : ℕ) → o + 1 ≡ owing → IsLane t commands answers o waiting numbered
      gone_lane o eo = record {
        standing = record {
          all = moved_free log t 0 command is ∙ lane.standing.all;
          lists = moved_long log t 0 command is ∙ lane.standing.lists;
          behind = subst (AllBehind commands) (sym (moved_other log t 0 command is 1 (λ e. omega (arith, e)))) (behind_without commands command (slots_at log 1) lane.standing.behind);
          stand = subst (λ v. StandAt commands v (slots_at t 2)) (sym (moved_values log t 0 command is))
              (subst (StandAt commands log.values) (sym (moved_other log t 0 command is 2 (λ e. omega (arith, e)))) (stand_without commands log.values command (slots_at log 2) lane.standing.stand));
          most = let a = moved_room log t 0 command is in let b = lane.standing.most in omega (arith, a, b);
        };
        slots = moved_room log t 0 command is ∙ lane.slots;
        left = let a = gone_tally is_left in let b = lane.left in omega (arith, a, b, eo);
        undue = let a = gone_tally is_undue in let b = lane.undue in omega (arith, a, b);
        of_numbered = let a = gone_tally is_numbered in let b = lane.of_numbered in omega (arith, a, b);
        rest =
            let a = ap length (moved_other log t 0 command is 1 (λ e. omega (arith, e))) in
            let b = ap length (without_none command (slots_at log 1) (not_behind commands command (slots_at log 1) low lane.standing.behind)) in
            let d = lane.rest in omega (arith, a, b, d);
      }

    -- as the call has it
    module _ (t : Listed Standing) (r : ℕ) (same_place : (change c).command ≡ command)
        (kept : owes (change c) ≡ true → (r ≡ 0) × (t ≡ record log { values = set log.values (change c).command (IsLeft (change c)) }))
        (gone : owes (change c) ≡ false → (r ≡ 1) × (t ≡ record log { lists = with_last 0 (change c).command (map (without (change c).command) log.lists) })) where
      kept_is : owes (change c) ≡ true → t ≡ record log { values = set log.values command (IsLeft (change c)) }
      kept_is on = subst (λ k. t ≡ record log { values = set log.values k (IsLeft (change c)) }) same_place (kept on).1

      gone_is : owes (change c) ≡ false → t ≡ record log { lists = with_last 0 command (map (without command) log.lists) }
      gone_is off = subst (λ k. t ≡ record log { lists = with_last 0 k (map (without k) log.lists) }) same_place (gone off).1

      pub less_owing : r ≤ owing
      less_owing = ⊎_elim
          (λ on. let a = (kept on).0 in omega (arith, a))
          (λ off. let a = (gone off).0 in let b = some_owing t off (gone_is off) in omega (arith, a, b))
          (cases_Bool (owes (change c)))

      pub less_lane : (o : ℕ) → o + r ≡ owing → IsLane t commands answers o waiting numbered
      less_lane o eo = ⊎_elim
          (λ on. let a = (kept on).0 in let e : owing ≡ o = omega (arith, a, eo) in subst (λ k. IsLane t commands answers k waiting numbered) e (kept_lane t on same_place (kept_is on)))
          (λ off. let a = (gone off).0 in gone_lane t off (gone_is off) o (omega (arith, a, eo)))
          (cases_Bool (owes (change c)))

      pub less_view : lane_of t conns commands answers ≡ lessened change command (lane_of log conns commands answers)
      less_view = ⊎_elim
          (λ on. kept_view t on same_place (kept_is on))
          (λ off. gone_view t off (gone_is off))
          (cases_Bool (owes (change c)))

-- whether one was found
pub found_is : (log : Listed Standing) (commands command : ℕ) → AreStanding log commands → (o : Option Left) → Found log command o → is_some o ≡ list_any (is_command command) (items_in log)
found_is log commands command are None found = sym found
found_is log commands command are (Some c) found =
    let st = subst (StandsAt commands command) found.1.0 (stands_at commands log.values command (slots_at log 2) found.0 are.stand) in
    sym (any_here commands log.values command (slots_at log 2) found.0 st.1.0 are.stand)

pub found_left_in : (log : Listed Standing) (commands command : ℕ) → AreStanding log commands → (o : Option Left) → Found log command o → o ≡ left_in command (items_in log)
found_left_in log commands command are None found = sym (left_none command (items_in log) found)
found_left_in log commands command are (Some c) found = sym (left_at commands log.values command c (slots_at log 2) found.0 found.1.0 found.1.1.0 are.stand)

-- ---- the first free slot

pub first_there : (slot : ℕ) (xs : List ℕ) → first_of xs ≡ Some slot → 1 ≤ times slot xs
first_there slot [] first = absurd (cc)
first_there slot (x ∷ xs) first = let same : x ≡ slot = cc in let a = times_same slot x xs same in omega (arith, a)

pub some_first : (xs : List ℕ) → xs ≢ [] → is_some (first_of xs) ≡ true
some_first [] some = absurd (some refl)
some_first (x ∷ xs) some = refl

-- ---- what callers know

module _ (log : Listed Standing) (conns commands answers owing waiting numbered : ℕ) (lane : IsLane log commands answers owing waiting numbered) where
  pub counted_left : owing ≡ count_in is_left (lane_of log conns commands answers)
  counted_left = lane.left ∙ tally_is is_left (items_in log)

  pub counted_undue : waiting ≡ count_in is_undue (lane_of log conns commands answers)
  counted_undue = lane.undue ∙ tally_is is_undue (items_in log)

  pub counted_numbered : numbered ≡ count_in is_numbered (lane_of log conns commands answers)
  counted_numbered = lane.of_numbered ∙ tally_is is_numbered (items_in log)

  module _ (known : AreSlotsApart (linked_in log)) where
    pub are_sound : log.room + length log.lists + 2 ≤ 4294967295 → AreSound (lane_of log conns commands answers)
    are_sound short = record {
      apart = are_apart commands log.values (slots_at log 2)
          (λ s there. at_some log commands lane.standing known 2 s there) (λ s. at_once log commands lane.standing known 2 s) lane.standing.stand;
      few = let a = counted_undue in let b = lane.rest in omega (arith, a, b);
      long = let a = standings_long log.values (slots_at log 2) in let b = length_any 2 log.lists in let c = known.all in let d = lane.slots in omega (arith, a, b, c, d);
      short = let a = lane.slots in let b = lane.standing.lists in omega (arith, a, b, short);
    }

    -- a slot is free where fewer answers wait than may
    pub some_free : count_in is_undue (lane_of log conns commands answers) < answers → slots_at log 1 ≢ []
    some_free fewer none = let a = counted_undue in let b = lane.rest in let d = ap length none in omega (arith, a, b, d, fewer)

    few : (test : Standing → Bool) → tally test (items_in log) ≤ log.room
    few test =
        let b = tally_few test (items_in log) in let c = standings_long log.values (slots_at log 2) in
        let d = length_any 2 log.lists in let e = known.all in omega (arith, b, c, d, e)

    pub few_owing : owing ≤ log.room
    few_owing = let a = few is_left in let b = lane.left in omega (arith, a, b)

    pub few_waiting : waiting ≤ log.room
    few_waiting = let a = few is_undue in let b = lane.undue in omega (arith, a, b)

    pub few_numbered : numbered ≤ log.room
    few_numbered = let a = few is_numbered in let b = lane.of_numbered in omega (arith, a, b)
