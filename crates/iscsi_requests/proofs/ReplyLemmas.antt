-- All replies that wait, as one enters and as one goes.
use Rattle.std.proofs.Common.{◌≡◌, ◌≢◌, ℕ, zero, suc, ◌+◌, ◌<◌, ◌≤◌, ◌==◌, Bool, false, List, [], ◌∷◌, ◌++◌, length, map, find, get_or, set, replicate, All, Some, None, refl, ap, sym, subst, ◌∙◌, arith, ⊎_elim, eq-eqb, ne_eqb}
use Rattle.std.specs.List.{AllPairs}
use Rattle.std.proofs.lemmas.Bool.{cases_eq, false≢true}
use Rattle.std.proofs.lemmas.List.{get_or-map, get_or-set_other, get_or-set_same, length-map, length_push}
use Rattle.std.proofs.lemmas.List.Quantifiers.{all_pairs_push}
use Rattle.iscsi_slots.specs.Slots.{times, values}
use Rattle.iscsi_lists.specs.Lists.{AreApart, Listed, counted, last_of, linked_in, listed, times_in, with_last, without}
use Rattle.iscsi_lists.proofs.ListedLemmas.{taken_first}
use Rattle.iscsi_lists.proofs.PlaceLemmas.{counted_long, fewer_free, last_there, nth_map, once_in, only_there, times_any}
use Rattle.iscsi_lists.proofs.WithoutLemmas.{times_in_other, times_in_with, times_in_without, times_other, times_same}
use Rattle.iscsi_tickets.specs.Tickets.{Known, known, value_of, without_ticket}
use Rattle.iscsi_requests.specs.declared.replies.WaitingReply.{WaitingReply}
use Rattle.iscsi_requests.specs.Conns.{of_conn, with_newest}
use Rattle.iscsi_requests.specs.Replies.{AreKnown, all_of, has_log_place, pushed, without_log_place}
use Rattle.iscsi_requests.specs.Kept.{AreReplies, IsKept, NO_REPLY, log_place_of, replies_of, reply_at, slots_at, ticket_of, values_in}
use Rattle.iscsi_requests.proofs.EntryLemmas.{Pair, one_fewer, same_some, value_bound, value_push_here, value_push_other, value_without, without_none}
use Rattle.iscsi_requests.proofs.ValueLemmas.{conn_values, count_values, pushed_values, times_there}
use Rattle.iscsi_requests.proofs.FoundLemmas.{drop_all, each_push, each_weaken, each_without, find_it, find_none, flat, flat_times, flat_values, found_kept, keep_all, last_known, none_last, one_above, same_reply, up_same, up_without}

-- ---- what holds of all

module _ (tickets : Known) (kept : Listed WaitingReply) (are : AreReplies tickets kept) (apart : AreApart (linked_in kept)) where
  abbrev here : ℕ → WaitingReply
  here slot = reply_at kept.values slot

  abbrev ticket : ℕ → ℕ
  ticket slot = ticket_of kept.values slot

  abbrev waiting : List (List WaitingReply)
  waiting = values_in NO_REPLY kept.values kept.lists

  listed_at : (list s : ℕ) → 1 ≤ times s (slots_at kept list) → 1 ≤ times_in s kept.lists
  listed_at list s some = let a = times_any s list kept.lists in omega (arith, a, some)

  same_slot : (s t : ℕ) → 1 ≤ times_in s kept.lists → 1 ≤ times_in t kept.lists → ticket s ≡ ticket t → s ≡ t
  same_slot s t a b same = same_some s t (sym (are.owned s a) ∙ ap (λ n. value_of n tickets.entries) same ∙ are.owned t b)

  pub found_there : (key slot : ℕ) → value_of key tickets.entries ≡ Some slot → IsKept kept (key, slot)
  found_there key slot is = found_kept kept key slot tickets.entries are.each is

  long_at : (conn : ℕ) → length (of_conn conn waiting) ≡ length (slots_at kept conn)
  long_at conn = ap (λ (rs : List WaitingReply). length rs) (conn_values NO_REPLY kept.values kept.lists conn) ∙ length-map (slots_at kept conn) (λ s. get_or kept.values s NO_REPLY)

  read_at : (conn i : ℕ) (d : WaitingReply) → i < length (of_conn conn waiting) → get_or (of_conn conn waiting) i d ≡ here (get_or (slots_at kept conn) i 0)
  read_at conn i d l =
      ap (λ (rs : List WaitingReply). get_or rs i d) (conn_values NO_REPLY kept.values kept.lists conn)
      ∙ get_or-map (λ s. get_or kept.values s NO_REPLY) (slots_at kept conn) i 0 d (let a = long_at conn in omega (arith, l, a))

  slot_at : (conn i : ℕ) → i < length (of_conn conn waiting) → 1 ≤ times (get_or (slots_at kept conn) i 0) (slots_at kept conn)
  slot_at conn i l = times_there (slots_at kept conn) i 0 (let a = long_at conn in omega (arith, l, a))

  module _ (newest : All (λ (e : Pair). e.0 ≤ tickets.last) tickets.entries) where
    below : (slot : ℕ) → 1 ≤ times_in slot kept.lists → ticket slot ≤ tickets.last
    below slot there = value_bound (ticket slot) slot tickets.last tickets.entries newest (are.owned slot there)

    empty_at : tickets.last ≡ 0 → (slots : List ℕ) → ((s : ℕ) → 1 ≤ times s slots → 1 ≤ times_in s kept.lists) → slots ≡ []
    empty_at none [] there = refl
    empty_at none (s ∷ slots) there = let a = times_same s s slots refl in let b = below s (there s (omega (arith, a))) in absurd (omega (arith, b, none))

    pub are_known : AreKnown (replies_of tickets kept)
    are_known = record {
      ascending = λ conn i j d lt l.
          let a = ap (λ (r : WaitingReply). r.log_place) (read_at conn i d (omega (arith, lt, l))) in
          let b = ap (λ (r : WaitingReply). r.log_place) (read_at conn j d l) in
          let c = long_at conn in
          let up : ticket (get_or (slots_at kept conn) i 0) < ticket (get_or (slots_at kept conn) j 0) = are.ascending conn i j 0 lt (omega (arith, l, c)) in
          omega (arith, a, b, up);
      newest = λ conn last is i d l.
          let a = ap (λ (r : WaitingReply). r.log_place) (read_at conn i d l) in
          let b = below (get_or (slots_at kept conn) i 0) (listed_at conn (get_or (slots_at kept conn) i 0) (slot_at conn i l)) in
          let c = last_known tickets.last last is in omega (arith, a, b, c);
      none = λ conn is.
          conn_values NO_REPLY kept.values kept.lists conn
          ∙ ap (values NO_REPLY kept.values) (empty_at (none_last tickets.last is) (slots_at kept conn) (listed_at conn));
      apart = λ conn other i j d ne l m same.
          let s = get_or (slots_at kept conn) i 0 in
          let t = get_or (slots_at kept other) j 0 in
          let a = slot_at conn i l in
          let b = slot_at other j m in
          let one : s ≡ t = same_slot s t (listed_at conn s a) (listed_at other t b)
          (ap (λ n. n + 1) (sym (ap (λ (r : WaitingReply). r.log_place) (read_at conn i d l)) ∙ same ∙ ap (λ (r : WaitingReply). r.log_place) (read_at other j d m))) in
          let none = only_there t other conn kept.lists b (once_in apart t) ne in
          let c = ap (λ n. times n (slots_at kept conn)) one in absurd (omega (arith, a, c, none));
      few = let a = count_values NO_REPLY kept.values kept.lists in let b = apart.all in omega (arith, a, b);
    }

    -- ---- one enters

    module _ (conn slot log_place request : ℕ) (inside : conn < length kept.lists) (last : last_of kept.free ≡ Some slot) (fresh : times_in slot kept.lists ≡ 0)
        (long : length kept.values ≡ kept.room + 1) (above : tickets.last < log_place + 1) (short : log_place + 1 < 18446744073709551616) where
      abbrev reply : WaitingReply
      reply = record { log_place = log_place; request = request }

      abbrev with_entry : Known
      with_entry = known (tickets.entries ++ (log_place + 1, slot) ∷ []) (log_place + 1) tickets.room

      abbrev with_slot : Listed WaitingReply
      with_slot = record kept { free = without slot kept.free; lists = with_last conn slot kept.lists; values = set kept.values slot reply }

      within : slot < length kept.values
      within = let a = last_there slot kept.free last in let b = apart.within slot (omega (arith, a)) in omega (arith, b, long)

      ticket_here : ticket_of with_slot.values slot ≡ log_place + 1
      ticket_here = ap (λ (r : WaitingReply). r.log_place + 1) (get_or-set_same kept.values slot reply NO_REPLY within)

      ticket_other : (p : ℕ) → p ≢ slot → ticket_of with_slot.values p ≡ ticket p
      ticket_other p other = ap (λ (r : WaitingReply). r.log_place + 1) (get_or-set_other kept.values slot p reply NO_REPLY other)

      others : (p : ℕ) → 1 ≤ times_in p kept.lists → p ≢ slot
      others p there same = let a = ap (λ n. times_in n kept.lists) same in omega (arith, a, fresh, there)

      with_times : (p : ℕ) → times_in p with_slot.lists ≡ times_in p kept.lists + times p (slot ∷ [])
      with_times p = times_in_with conn slot p kept.lists inside

      was_there : (p : ℕ) → p ≢ slot → 1 ≤ times_in p with_slot.lists → 1 ≤ times_in p kept.lists
      was_there p other there = let a = with_times p in let b = times_other p slot [] (λ same. other (sym same)) in omega (arith, a, b, there)

      pub pushed_state : replies_of with_entry with_slot ≡ pushed conn reply (replies_of tickets kept)
      pushed_state =
          ap (λ ws. record { waiting = ws; last = log_place_of (log_place + 1); room = kept.room }) (pushed_values NO_REPLY kept.values slot reply conn kept.lists fresh within)
          ∙ ap (λ n. record { waiting = with_newest conn reply waiting; last = n; room = kept.room }) (one_above log_place)

      up_at : (k : ℕ) → AllPairs (λ (s t : ℕ). ticket_of with_slot.values s < ticket_of with_slot.values t) (slots_at kept k)
      up_at k = up_same ticket (ticket_of with_slot.values) (slots_at kept k) (λ s some. ticket_other s (others s (listed_at k s some))) (are.ascending k)

      up_with : (k : ℕ) → AllPairs (λ (s t : ℕ). ticket_of with_slot.values s < ticket_of with_slot.values t) (slots_at with_slot k)
      up_with k = ⊎_elim
          (λ same. subst (AllPairs (λ (s t : ℕ). ticket_of with_slot.values s < ticket_of with_slot.values t))
          (sym (ap (slots_at with_slot) same ∙ get_or-set_same kept.lists conn (slots_at kept conn ++ slot ∷ []) [] inside))
          (all_pairs_push (λ (s t : ℕ). ticket_of with_slot.values s < ticket_of with_slot.values t) (slots_at kept conn) slot (up_at conn)
          (λ i d l.
          let p = get_or (slots_at kept conn) i d in
          let there = listed_at conn p (times_there (slots_at kept conn) i d l) in
          let a = ticket_other p (others p there) in
          let b = below p there in
          let c = ticket_here in omega (arith, a, b, c, above))))
          (λ other. subst (AllPairs (λ (s t : ℕ). ticket_of with_slot.values s < ticket_of with_slot.values t))
          (sym (get_or-set_other kept.lists conn k (slots_at kept conn ++ slot ∷ []) [] other)) (up_at k))
          (cases_eq k conn)

      pub pushed_are : AreReplies with_entry with_slot
      pushed_are = record {
        each = each_push with_slot tickets.entries (log_place + 1, slot)
            (each_weaken kept with_slot tickets.entries (λ e k. record {
              ticket = ticket_other e.1 (others e.1 k.there) ∙ k.ticket;
              there = let a = with_times e.1 in let b = k.there in omega (arith, a, b);
            }) are.each)
            (record { ticket = ticket_here; there = let a = with_times slot in let b = times_same slot slot [] refl in omega (arith, a, b) });
        owned = λ p there. ⊎_elim
            (λ same.
            ap (λ n. value_of (ticket_of with_slot.values n) with_entry.entries) same
            ∙ ap (λ n. value_of n with_entry.entries) ticket_here
            ∙ value_push_here (log_place + 1) slot tickets.entries (λ k d l. let a : (get_or tickets.entries k d).0 ≤ tickets.last = newest k d l in omega (arith, a, above))
            ∙ ap Some (sym same))
            (λ other.
            ap (λ n. value_of n with_entry.entries) (ticket_other p other)
            ∙ value_push_other (log_place + 1) slot (ticket p) tickets.entries p (are.owned p (was_there p other there)))
            (cases_eq p slot);
        short = λ p there. ⊎_elim
            (λ same. let a = ap (ticket_of with_slot.values) same in let b = ticket_here in omega (arith, a, b, short))
            (λ other. let a = ticket_other p other in let b = are.short p (was_there p other there) in omega (arith, a, b))
            (cases_eq p slot);
        ascending = up_with;
        counted =
            let a = length_push tickets.entries (log_place + 1, slot) in
            let b = fewer_free kept apart slot last fresh in
            let c = are.counted in omega (arith, a, b, c);
        room = are.room;
      }

  -- ---- one goes

  module _ (slot : ℕ) (there : 1 ≤ times_in slot kept.lists) where
    abbrev without_entry : Known
    without_entry = known (without_ticket (ticket slot) tickets.entries) tickets.last tickets.room

    abbrev without_slot : Listed WaitingReply
    without_slot = record kept { free = kept.free ++ slot ∷ []; lists = map (without slot) kept.lists }

    left_apart : (p : ℕ) → 1 ≤ times_in p without_slot.lists → p ≢ slot
    left_apart p some same = let a = ap (λ n. times_in n without_slot.lists) same in let b = times_in_without slot kept.lists in omega (arith, a, b, some)

    left_before : (p : ℕ) → 1 ≤ times_in p without_slot.lists → 1 ≤ times_in p kept.lists
    left_before p some = let a = times_in_other slot p kept.lists (left_apart p some) in omega (arith, a, some)

    pub removed_are : AllPairs (λ (a b : Pair). a.0 < b.0) tickets.entries → AreReplies without_entry without_slot
    removed_are up = record {
      each = each_without kept without_slot (ticket slot) tickets.entries (λ e isnt k. record {
        ticket = k.ticket;
        there =
            let a = times_in_other slot e.1 kept.lists (λ same. false≢true (sym isnt ∙ eq-eqb e.0 (ticket slot) (sym k.ticket ∙ ap ticket same))) in
            let b = k.there in omega (arith, a, b);
      }) are.each;
      owned = λ p some.
          let before = left_before p some in
          value_without (ticket slot) (ticket p) tickets.entries (λ same. left_apart p some (same_slot p slot before there same)) ∙ are.owned p before;
      short = λ p some. are.short p (left_before p some);
      ascending = λ k.
          subst (AllPairs (λ (s t : ℕ). ticket s < ticket t)) (sym (nth_map slot k kept.lists)) (up_without ticket slot (slots_at kept k) (are.ascending k));
      counted =
          let a = one_fewer (ticket slot) slot tickets.entries up (are.owned slot there) in
          let b = length_push kept.free slot in
          let c = are.counted in omega (arith, a, b, c);
      room = are.room;
    }

  -- one with a log place
  module _ (log_place : ℕ) where
    abbrev has_it : ℕ → Bool
    has_it s = has_log_place log_place (here s)

    it_is : (slot : ℕ) → IsKept kept (log_place + 1, slot) → (s : ℕ) → 1 ≤ times_in s kept.lists → has_it s ≡ (s == slot)
    it_is slot k s some = ⊎_elim
        (λ same. eq-eqb (here s).log_place log_place (let a = ap ticket same in let b = k.ticket in omega (arith, a, b)) ∙ sym (eq-eqb s slot same))
        (λ other.
        ne_eqb (here s).log_place log_place (λ e. other (same_slot s slot some k.there (let b = k.ticket in omega (arith, e, b)))) ∙ sym (ne_eqb s slot other))
        (cases_eq s slot)

    it_isnt : value_of (log_place + 1) tickets.entries ≡ None → (s : ℕ) → 1 ≤ times_in s kept.lists → has_it s ≡ false
    it_isnt none s some = ne_eqb (here s).log_place log_place
        (λ e. let no : Some s ≡ None = sym (are.owned s some) ∙ ap (λ n. value_of (n + 1) tickets.entries) e ∙ none in absurd (cc))

    pub found_answer : (slot : ℕ) → value_of (log_place + 1) tickets.entries ≡ Some slot → find (has_log_place log_place) (all_of waiting) ≡ Some (here slot)
    found_answer slot is =
        let k = found_there (log_place + 1) slot is in
        ap (find (has_log_place log_place)) (flat_values kept.values kept.lists)
        ∙ find_it kept.values log_place slot (flat kept.lists)
        (λ s some. it_is slot k s (let a = flat_times s kept.lists in omega (arith, a, some)))
        (let a = flat_times slot kept.lists in let b = k.there in omega (arith, a, b))

    pub none_answer : value_of (log_place + 1) tickets.entries ≡ None → find (has_log_place log_place) (all_of waiting) ≡ None
    none_answer none =
        ap (find (has_log_place log_place)) (flat_values kept.values kept.lists)
        ∙ find_none kept.values log_place (flat kept.lists) (λ s some. it_isnt none s (let a = flat_times s kept.lists in omega (arith, a, some)))

    pub found_state : (slot : ℕ) → value_of (log_place + 1) tickets.entries ≡ Some slot
        → values_in NO_REPLY kept.values (map (without slot) kept.lists) ≡ map (without_log_place log_place) waiting
    found_state slot is = drop_all kept.values log_place slot kept.lists (it_is slot (found_there (log_place + 1) slot is))

    pub none_state : value_of (log_place + 1) tickets.entries ≡ None → map (without_log_place log_place) waiting ≡ waiting
    none_state none = keep_all kept.values log_place kept.lists (it_isnt none)

  pub none_are : (key : ℕ) → value_of key tickets.entries ≡ None → known (without_ticket key tickets.entries) tickets.last tickets.room ≡ tickets
  none_are key none = ap (λ es. known es tickets.last tickets.room) (without_none key tickets.entries none)

  -- the oldest one of a connection
  module _ (conn : ℕ) (first : WaitingReply) (none : slots_at kept conn ≡ [] → Some first ≡ None)
      (value : (slot : ℕ) (rest : List ℕ) (d : WaitingReply) → slots_at kept conn ≡ slot ∷ rest → Some first ≡ Some (get_or kept.values slot d)) where
    first_is : (slot : ℕ) (rest : List ℕ) → slots_at kept conn ≡ slot ∷ rest → first ≡ here slot
    first_is slot rest at = let e = value slot rest NO_REPLY at in same_reply first (here slot) e

    oldest_there : (slot : ℕ) (rest : List ℕ) → slots_at kept conn ≡ slot ∷ rest → 1 ≤ times_in slot kept.lists
    oldest_there slot rest at = listed_at conn slot (let a = ap (times slot) at in let b = times_same slot slot rest refl in omega (arith, a, b))

    pub oldest_fits : first.log_place + 1 < 18446744073709551616
    oldest_fits = elim (slots_at kept conn) as (λ slots. slots_at kept conn ≡ slots → first.log_place + 1 < 18446744073709551616) [
      | [] ↦ λ at. absurd (let no : Some first ≡ None = none at in cc)
      | (slot ∷ rest) ↦ λ at.
          let a = ap (λ (r : WaitingReply). r.log_place) (first_is slot rest at) in
          let b = are.short slot (oldest_there slot rest at) in omega (arith, a, b)
    ] refl

    pub popped_are : conn < length kept.lists → AllPairs (λ (a b : Pair). a.0 < b.0) tickets.entries → (others : Known) (left : Listed WaitingReply)
        → ((slot : ℕ) (rest : List ℕ) → slots_at kept conn ≡ slot ∷ rest → left ≡ record kept { free = kept.free ++ slot ∷ []; lists = set kept.lists conn rest })
        → others ≡ known (without_ticket (first.log_place + 1) tickets.entries) tickets.last tickets.room → AreReplies others left
    popped_are inside up others left state gone = elim (slots_at kept conn) as (λ slots. slots_at kept conn ≡ slots → AreReplies others left) [
      | [] ↦ λ at. absurd (let no : Some first ≡ None = none at in cc)
      | (slot ∷ rest) ↦ λ at.
          let by : others ≡ known (without_ticket (ticket slot) tickets.entries) tickets.last tickets.room =
          gone ∙ ap (λ (r : WaitingReply). known (without_ticket (r.log_place + 1) tickets.entries) tickets.last tickets.room) (first_is slot rest at) in
          let now : left ≡ record kept { free = kept.free ++ slot ∷ []; lists = map (without slot) kept.lists } =
          state slot rest at ∙ ap (λ ls. record kept { free = kept.free ++ slot ∷ []; lists = ls }) (sym (taken_first conn slot rest kept.lists inside at (once_in apart slot))) in
          subst (λ (t : Known). AreReplies t left) (sym by)
          (subst (AreReplies (known (without_ticket (ticket slot) tickets.entries) tickets.last tickets.room)) (sym now) (removed_are slot (oldest_there slot rest at) up))
    ] refl

-- ---- none yet

none_in : (s n : ℕ) → times_in s (replicate {A = List ℕ} n []) ≡ 0
none_in s zero = refl
none_in s (suc n) = let rest = none_in s n in omega (arith, rest)

none_at : (n k : ℕ) → get_or (replicate {A = List ℕ} n []) k [] ≡ []
none_at zero zero = refl
none_at zero (suc k) = refl
none_at (suc n) zero = refl
none_at (suc n) (suc k) = none_at n k

pub opened_are : (conns room : ℕ) → AreReplies (known [] 0 room) (listed (counted 1 room) (replicate conns []) room (replicate (room + 1) NO_REPLY))
opened_are conns room = record {
  each = tt;
  owned = λ p some. let a = none_in p conns in absurd (omega (arith, a, some));
  short = λ p some. let a = none_in p conns in absurd (omega (arith, a, some));
  ascending = λ k i j d lt l. let a = ap (λ (xs : List ℕ). length xs) (none_at conns k) in absurd (omega (arith, a, l));
  counted = let a = counted_long 1 room in omega (arith, a);
  room = refl;
}
