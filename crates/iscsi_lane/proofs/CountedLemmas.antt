-- The counts of each connection follow the lane, call by call.
use Rattle.std.proofs.Common.{◌≡◌, ℕ, ◌+◌, ◌-◌, ◌<◌, ◌≤◌, not, true, List, [], ◌∷◌, ◌++◌, length, map, set, get_or, Some, None, refl, ap, sym, subst, ◌∙◌, arith, ⊎_elim}
use Rattle.std.specs.Prelude.{nat_lt}
use Rattle.std.proofs.lemmas.Bool.{cases_lt}
use Rattle.std.proofs.lemmas.List.{get_or_default}
use Rattle.iscsi_outbox_state.specs.declared.lane.Left.{Left}
use Rattle.iscsi_outbox_state.specs.declared.lane.Undue.{Undue}
use Rattle.iscsi_outbox_state.specs.declared.lane.Standing.{Standing}
use Rattle.iscsi_outbox_state.specs.declared.lane.Standing.TheVariants.{Left as IsLeft, Undue as IsUndue}
use Rattle.iscsi_outbox_state.specs.Lane.{Lane, any_in, arrived, awaited, cleared, count_in, dropped_on, first_due, goes_out_on, has_left, is_under_way_on, not_running, not_under_way, still_owes, stopped, with_items, with_left, without_due}
use Rattle.iscsi_lane.specs.Standings.{AreApart, left_in}
use Rattle.iscsi_lane.specs.Counting.{AreCounts, IsCounted}
use Rattle.iscsi_lane.proofs.StandLemmas.{one_if, tally_few, tally_is}
use Rattle.iscsi_lane.proofs.CountLemmas.{any_tally, arrives, arrives_none, cleared_tally, cleared_within, comes, conn_as_before, count_at, counts_beside, counts_fewer, counts_more, counts_none, counts_same, counts_some, due_goes, due_none, due_within, found_within, going_out_of, none_dropped, others_stay, others_within, owes_as_before, owes_still, tally_filter, tally_map, under_way_of, under_way_stays, waits_as_before, waits_still, within_filter, within_map, within_push}

-- what was read of a connection
read_is : (counts : List ℕ) (conn old n : ℕ) → old ≡ get_or counts conn old → conn < n → length counts ≡ n → old ≡ get_or counts conn 0
read_is counts conn old n is l long = is ∙ get_or_default counts conn old 0 (omega (arith, l, long))

module _ (v : Lane) (under out : List ℕ) (is : IsCounted v under out) where
  -- ---- one comes

  pub left_counted : (left : Left) (conn m old : ℕ) → conn ≡ left.conn → m ≡ one_if left.under_way → left.conn < v.conns → old ≡ get_or under conn old → IsCounted (has_left left v) (set under conn (old + m)) out
  left_counted left conn m old own amount l read =
      let e = read_is under conn old v.conns read (omega (arith, own, l)) is.of_under_way.long in
      record {
        within = within_push v.conns v.items (IsLeft left) is.within l;
        of_under_way = subst (λ n. AreCounts is_under_way_on (v.items ++ IsLeft left ∷ []) v.conns (set under conn (n + m))) (sym e)
            (subst (λ k. AreCounts is_under_way_on (v.items ++ IsLeft left ∷ []) v.conns (set under k (get_or under k 0 + m))) (sym own)
            (counts_more is_under_way_on v.items (v.items ++ IsLeft left ∷ []) v.conns under is.of_under_way left.conn m left.under_way amount (λ k. comes (is_under_way_on k) v.items (IsLeft left)) l));
        of_going_out = counts_same goes_out_on v.items (v.items ++ IsLeft left ∷ []) v.conns out is.of_going_out (λ k. let a = comes (goes_out_on k) v.items (IsLeft left) in omega (arith, a));
        conns = is.conns;
        short = is.short;
      }

  pub answer_counted : (a : Undue) (conn old : ℕ) → conn ≡ a.conn → a.conn < v.conns → old ≡ get_or out conn old → IsCounted (awaited a v) under (set out conn (old + 1))
  answer_counted a conn old own l read =
      let e = read_is out conn old v.conns read (omega (arith, own, l)) is.of_going_out.long in
      record {
        within = within_push v.conns v.items (IsUndue a) is.within l;
        of_under_way = counts_same is_under_way_on v.items (v.items ++ IsUndue a ∷ []) v.conns under is.of_under_way (λ k. let b = comes (is_under_way_on k) v.items (IsUndue a) in omega (arith, b));
        of_going_out = subst (λ n. AreCounts goes_out_on (v.items ++ IsUndue a ∷ []) v.conns (set out conn (n + 1))) (sym e)
            (subst (λ k. AreCounts goes_out_on (v.items ++ IsUndue a ∷ []) v.conns (set out k (get_or out k 0 + 1))) (sym own)
            (counts_more goes_out_on v.items (v.items ++ IsUndue a ∷ []) v.conns out is.of_going_out a.conn 1 true refl (λ k. comes (goes_out_on k) v.items (IsUndue a)) l));
        conns = is.conns;
        short = is.short;
      }

  -- no more than all that stands there
  pub under_way_few : (conn old : ℕ) → conn < v.conns → old ≡ get_or under conn old → old ≤ length v.items
  under_way_few conn old l read =
      let a = read_is under conn old v.conns read l is.of_under_way.long in let b = is.of_under_way.each conn l in let d = tally_few (is_under_way_on conn) v.items in omega (arith, a, b, d)

  pub going_out_few : (conn old : ℕ) → conn < v.conns → old ≡ get_or out conn old → old ≤ length v.items
  going_out_few conn old l read =
      let a = read_is out conn old v.conns read l is.of_going_out.long in let b = is.of_going_out.each conn l in let d = tally_few (goes_out_on conn) v.items in omega (arith, a, b, d)

  -- ---- a command owes less

  pub stopped_counted : (place : ℕ) → IsCounted (stopped place v) under out
  stopped_counted place =
      let less = map (with_left not_running place) v.items in
      record {
        within = within_filter v.conns still_owes less (within_map v.conns (with_left not_running place) (conn_as_before not_running (λ c. refl) place) v.items is.within);
        of_under_way = counts_same is_under_way_on v.items (stopped place v).items v.conns under is.of_under_way
            (λ k. tally_filter (is_under_way_on k) still_owes (owes_still k) less ∙ tally_map (is_under_way_on k) (with_left not_running place) (owes_as_before place k) v.items);
        of_going_out = counts_same goes_out_on v.items (stopped place v).items v.conns out is.of_going_out
            (λ k. tally_filter (goes_out_on k) still_owes (waits_still k) less ∙ tally_map (goes_out_on k) (with_left not_running place) (waits_as_before not_running place k) v.items);
        conns = is.conns;
        short = is.short;
      }

  module _ (place : ℕ) where
    abbrev arriving : List Standing
    arriving = map (with_left not_under_way place) v.items

    arrived_going : AreCounts goes_out_on (arrived place v).items v.conns out
    arrived_going = counts_same goes_out_on v.items (arrived place v).items v.conns out is.of_going_out
        (λ k. tally_filter (goes_out_on k) still_owes (waits_still k) arriving ∙ tally_map (goes_out_on k) (with_left not_under_way place) (waits_as_before not_under_way place k) v.items)

    pub none_arrived : left_in place v.items ≡ None → IsCounted (arrived place v) under out
    none_arrived none = record {
      within = within_filter v.conns still_owes arriving (within_map v.conns (with_left not_under_way place) (conn_as_before not_under_way (λ c. refl) place) v.items is.within);
      of_under_way = counts_same is_under_way_on v.items (arrived place v).items v.conns under is.of_under_way
          (λ k. tally_filter (is_under_way_on k) still_owes (owes_still k) arriving ∙ arrives_none place k v.items none);
      of_going_out = arrived_going;
      conns = is.conns;
      short = is.short;
    }

    module _ (apart : AreApart v.commands v.items) (c : Left) (found : left_in place v.items ≡ Some c) (conn m old : ℕ) (own : conn ≡ c.conn) (amount : m ≡ one_if c.under_way) where
      pub its_conn : conn < v.conns
      its_conn = let a = found_within v.conns place v.items c found is.within in omega (arith, a, own)

      module _ (read : old ≡ get_or under conn old) where
        old_is : old ≡ get_or under conn 0
        old_is = read_is under conn old v.conns read its_conn is.of_under_way.long

        its_place : c.conn < v.conns
        its_place = found_within v.conns place v.items c found is.within

        pub arrived_some : m ≤ old
        arrived_some =
            let a = counts_some is_under_way_on v.items (arrived place v).items v.conns under is.of_under_way c.conn m c.under_way amount
            (λ k. let b = tally_filter (is_under_way_on k) still_owes (owes_still k) arriving in let d = arrives v.commands place k v.items c apart found in omega (arith, b, d)) its_place in
            let b = ap (λ k. get_or under k 0) own in let d = old_is in omega (arith, a, b, d)

        pub arrived_counted : IsCounted (arrived place v) (set under conn (old - m)) out
        arrived_counted = record {
          within = within_filter v.conns still_owes arriving (within_map v.conns (with_left not_under_way place) (conn_as_before not_under_way (λ d. refl) place) v.items is.within);
          of_under_way = subst (λ n. AreCounts is_under_way_on (arrived place v).items v.conns (set under conn (n - m))) (sym old_is)
              (subst (λ k. AreCounts is_under_way_on (arrived place v).items v.conns (set under k (get_or under k 0 - m))) (sym own)
              (counts_fewer is_under_way_on v.items (arrived place v).items v.conns under is.of_under_way c.conn m c.under_way amount
              (λ k. let b = tally_filter (is_under_way_on k) still_owes (owes_still k) arriving in let d = arrives v.commands place k v.items c apart found in omega (arith, b, d)) its_place));
          of_going_out = arrived_going;
          conns = is.conns;
          short = is.short;
        }

  -- ---- the first answer that is due goes

  pub none_taken : first_due v ≡ None → IsCounted (without_due v) under out
  none_taken none = subst (λ xs. IsCounted (with_items v xs) under out) (sym (due_none [] v.items none)) is

  module _ (a : Undue) (due : first_due v ≡ Some a) (conn old : ℕ) (own : conn ≡ a.conn) where
    pub taken_conn : conn < v.conns
    taken_conn = let b = due_within v.conns [] v.items a due is.within in omega (arith, b, own)

    module _ (read : old ≡ get_or out conn old) where
      was : old ≡ get_or out conn 0
      was = read_is out conn old v.conns read taken_conn is.of_going_out.long

      pub taken_some : 1 ≤ old
      taken_some =
          let b = counts_some goes_out_on v.items (without_due v).items v.conns out is.of_going_out a.conn 1 true refl (λ k. due_goes (goes_out_on k) [] v.items a due) (due_within v.conns [] v.items a due is.within) in
          let d = ap (λ k. get_or out k 0) own in let e = was in omega (arith, b, d, e)

      pub taken_counted : IsCounted (without_due v) under (set out conn (old - 1))
      taken_counted = record {
        within = others_within v.conns [] v.items tt is.within;
        of_under_way = counts_same is_under_way_on v.items (without_due v).items v.conns under is.of_under_way (λ k. let b = due_goes (is_under_way_on k) [] v.items a due in omega (arith, b));
        of_going_out = subst (λ n. AreCounts goes_out_on (without_due v).items v.conns (set out conn (n - 1))) (sym was)
            (subst (λ k. AreCounts goes_out_on (without_due v).items v.conns (set out k (get_or out k 0 - 1))) (sym own)
            (counts_fewer goes_out_on v.items (without_due v).items v.conns out is.of_going_out a.conn 1 true refl (λ k. due_goes (goes_out_on k) [] v.items a due) (due_within v.conns [] v.items a due is.within)));
        conns = is.conns;
        short = is.short;
      }

  -- ---- answers are dropped, or one is cleared

  pub dropped_counted : (conn : ℕ) (counts : List ℕ) → (conn < length out → counts ≡ set out conn 0) → (length out ≤ conn → counts ≡ out) → IsCounted (dropped_on conn v) under counts
  dropped_counted conn counts here past = record {
    within = within_filter v.conns (λ s. not (goes_out_on conn s)) v.items is.within;
    of_under_way = counts_same is_under_way_on v.items (dropped_on conn v).items v.conns under is.of_under_way
        (λ k. tally_filter (is_under_way_on k) (λ s. not (goes_out_on conn s)) (under_way_stays conn k) v.items);
    of_going_out = ⊎_elim
        (λ l. subst (AreCounts goes_out_on (dropped_on conn v).items v.conns) (sym (here l))
        (counts_none goes_out_on v.items (dropped_on conn v).items v.conns out is.of_going_out conn (none_dropped (goes_out_on conn) v.items)
        (λ k other. tally_filter (goes_out_on k) (λ s. not (goes_out_on conn s)) (others_stay conn k other) v.items) l))
        (λ l. subst (AreCounts goes_out_on (dropped_on conn v).items v.conns) (sym (past (omega (arith, l))))
        (counts_beside goes_out_on v.items (dropped_on conn v).items v.conns out is.of_going_out conn (none_dropped (goes_out_on conn) v.items)
        (λ k other. tally_filter (goes_out_on k) (λ s. not (goes_out_on conn s)) (others_stay conn k other) v.items) (omega (arith, l))))
        (cases_lt conn (length out));
    conns = is.conns;
    short = is.short;
  }

  pub cleared_counted : (unit : ℕ) → IsCounted (cleared unit v) under out
  cleared_counted unit = record {
    within = cleared_within v.conns unit v.items is.within;
    of_under_way = counts_same is_under_way_on v.items (cleared unit v).items v.conns under is.of_under_way (λ k. cleared_tally (is_under_way_on k) (λ a. refl) unit v.items);
    of_going_out = counts_same goes_out_on v.items (cleared unit v).items v.conns out is.of_going_out (λ k. cleared_tally (goes_out_on k) (λ a. refl) unit v.items);
    conns = is.conns;
    short = is.short;
  }

  -- ---- what callers ask

  pub some_under_way : (k : ℕ) → nat_lt 0 (get_or under k 0) ≡ nat_lt 0 (count_in (is_under_way_on k) v)
  some_under_way k = ap (nat_lt 0) (count_at is_under_way_on v.items v.conns under is.of_under_way is.within under_way_of k ∙ tally_is (is_under_way_on k) v.items)

  pub some_going_out : (k : ℕ) → nat_lt 0 (get_or out k 0) ≡ any_in (goes_out_on k) v
  some_going_out k = ap (nat_lt 0) (count_at goes_out_on v.items v.conns out is.of_going_out is.within going_out_of k) ∙ sym (any_tally (goes_out_on k) v.items)
