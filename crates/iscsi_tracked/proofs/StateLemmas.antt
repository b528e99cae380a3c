-- All commands that are kept, as one enters, changes, moves and goes.
use Rattle.std.proofs.Common.{◌≡◌, ◌≢◌, ℕ, zero, suc, ◌+◌, ◌<◌, ◌≤◌, ◌||◌, true, false, List, [], ◌∷◌, ◌++◌, length, map, get_or, set, replicate, All, Some, None, refl, ap, sym, subst, ◌∙◌, arith, ⊎_elim, eq-eqb, ne_eqb}
use Rattle.std.specs.List.{AllPairs, list_any}
use Rattle.std.proofs.lemmas.Bool.{cases_Bool, cases_eq, cases_lt, eqb-true, false≢true}
use Rattle.std.proofs.lemmas.List.{get_or-set_same, get_or-set_other, get_or-map, length-map, length-set, length_push, map-append}
use Rattle.iscsi_slots.specs.Slots.{times}
use Rattle.iscsi_slots.proofs.SlotLemmas.{times_append}
use Rattle.iscsi_lists.specs.Lists.{AreApart, Listed, counted, last_of, linked_in, listed, times_in, with_last, without}
use Rattle.iscsi_lists.proofs.PlaceLemmas.{counted_long, fewer_free, last_there, nth_map, once_in, replicate_long, times_any}
use Rattle.iscsi_lists.proofs.WithoutLemmas.{times_in_other, times_in_with, times_in_without, times_other, times_same, times_without, times_without_other}
use Rattle.iscsi_arrivals.specs.declared.stamp.Stamp.{Stamp}
use Rattle.iscsi_tickets.specs.Tickets.{Known, known, value_of, without_ticket}
use Rattle.iscsi_tracked.specs.declared.command.Command.{Command}
use Rattle.iscsi_tracked.specs.declared.command.Entering.{Entering}
use Rattle.iscsi_tracked.specs.declared.command.Phase.{Phase}
use Rattle.iscsi_tracked.specs.Tracked.{AreKnown, IsTrailed, arrived, as_command, entered, find_place, handed_out, has_place, in_phase, is_out, removed, to_phase, with_command, with_out}
use Rattle.iscsi_tracked.specs.Kept.{AllKept, AreTracked, BLANK, IsKept, behind_first, command_at, commands_of, slots_at, tracked_of}
use Rattle.iscsi_tracked.proofs.TrackedLemmas.{Pair, any_place, each_at, each_push, each_weaken, each_without, found_place, of_place, of_ticket, one_fewer, other_commands, place_there, removed_commands, same_some, set_commands, some_list, value_push_here, value_push_other, value_some, value_without}

-- ---- lists

pub behind_read : (k : ℕ) (lists : List (List ℕ)) → get_or (behind_first lists) k [] ≡ get_or lists (suc k) []
behind_read zero [] = refl
behind_read (suc k) [] = refl
behind_read k (xs ∷ lists) = refl

pub behind_long : (lists : List (List ℕ)) → 1 ≤ length lists → length (behind_first lists) + 1 ≡ length lists
behind_long [] some = absurd (omega (arith, some))
behind_long (xs ∷ lists) some = omega arith

behind_map : (s : ℕ) (lists : List (List ℕ)) → behind_first (map (without s) lists) ≡ map (without s) (behind_first lists)
behind_map s [] = refl
behind_map s (xs ∷ lists) = refl

behind_with : (s : ℕ) (lists : List (List ℕ)) → behind_first (with_last 0 s lists) ≡ behind_first lists
behind_with s [] = refl
behind_with s (xs ∷ lists) = refl

behind_idle : (s : ℕ) (lists : List (List ℕ)) → behind_first (with_last 0 s (map (without s) lists)) ≡ map (without s) (behind_first lists)
behind_idle s [] = refl
behind_idle s (xs ∷ lists) = refl

behind_out : (conn s : ℕ) (lists : List (List ℕ)) → behind_first (with_last (suc conn) s (map (without s) lists)) ≡ with_last conn s (map (without s) (behind_first lists))
behind_out conn s [] = refl
behind_out conn s (xs ∷ lists) = refl

behind_times : (s : ℕ) (lists : List (List ℕ)) → times_in s (behind_first lists) ≤ times_in s lists
behind_times s [] = omega arith
behind_times s (xs ∷ lists) = omega arith

times_less : (s p : ℕ) (xs : List ℕ) → times p (without s xs) ≤ times p xs
times_less s p xs = ⊎_elim
    (λ same. let a = ap (λ n. times n (without s xs)) same in let b = times_without s xs in omega (arith, a, b))
    (λ other. let a = times_without_other s p xs other in omega (arith, a))
    (cases_eq p s)

-- ---- what holds of all

module _ (tickets : Known) (kept : Listed Command) (are : AreTracked tickets kept) (apart : AreApart (linked_in kept)) where
  abbrev entries : List Pair
  entries = tickets.entries

  abbrev here : ℕ → Command
  here place = command_at kept.values place

  pub low : (place : ℕ) → 1 ≤ times_in place kept.lists → 1 ≤ place
  low place there = apart.some place (let a = there in omega (arith, a))

  pub high : (place : ℕ) → 1 ≤ times_in place kept.lists → place ≤ kept.room
  high place there = apart.within place (let a = there in omega (arith, a))

  pub has_there : (place : ℕ) → has_place place (tracked_of tickets kept) ≡ true → 1 ≤ times_in place kept.lists
  has_there place has = place_there kept place entries are.each (sym (any_place kept place entries are.each) ∙ has)

  owned_place : (place : ℕ) → 1 ≤ times_in place kept.lists → list_any (of_place place) entries ≡ true
  owned_place place there = value_some (here place).ticket place entries (are.owned place there)

  pub find_there : (place : ℕ) → 1 ≤ times_in place kept.lists → find_place place (tracked_of tickets kept) ≡ Some (here place)
  find_there place there = found_place kept place entries are.each (owned_place place there)

  pub place_here : (place : ℕ) → 1 ≤ times_in place kept.lists → (here place).place ≡ place
  place_here place there = named place entries are.each (owned_place place there)
    where
      named : (place : ℕ) (es : List Pair) → AllKept kept es → list_any (of_place place) es ≡ true → (here place).place ≡ place
      named place [] all some = absurd (false≢true some)
      named place (e ∷ es) all some =
          elim (of_place place e) as (λ b. of_place place e ≡ b → (b || list_any (of_place place) es) ≡ true → (here place).place ≡ place) [
            | true ↦ λ is _. subst (λ n. (here n).place ≡ n) (eqb-true e.1 place is) all.0.place
            | false ↦ λ is later. named place es all.1 later
          ] refl some

  pub there_has : (place : ℕ) → 1 ≤ times_in place kept.lists → has_place place (tracked_of tickets kept) ≡ true
  there_has place there = any_place kept place entries are.each ∙ owned_place place there

  -- a command that is found by its ticket has a place
  pub found_there : (ticket place : ℕ) → value_of ticket entries ≡ Some place → 1 ≤ times_in place kept.lists
  found_there ticket place is = place_there kept place entries are.each (value_some ticket place entries is)

  -- the entry with a place's ticket is that of the place
  same_entry : (place : ℕ) → 1 ≤ times_in place kept.lists → (e : Pair) → IsKept kept e → of_ticket (here place).ticket e ≡ of_place place e
  same_entry place there e k = ⊎_elim
      (λ is.
      let t : e.0 ≡ (here place).ticket = eqb-true e.0 (here place).ticket is in
      let owner : value_of e.0 entries ≡ Some e.1 = ap (λ n. value_of n entries) (sym k.ticket) ∙ are.owned e.1 k.there in
      is ∙ sym (eq-eqb e.1 place (same_some e.1 place (sym owner ∙ ap (λ n. value_of n entries) t ∙ are.owned place there))))
      (λ isnt. isnt ∙ sym (ne_eqb e.1 place (λ same. false≢true (sym isnt ∙ eq-eqb e.0 (here place).ticket (sym k.ticket ∙ ap (λ n. (here n).ticket) same)))))
      (cases_Bool (of_ticket (here place).ticket e))

  module _ (up : AllPairs (λ (a b : Pair). a.0 < b.0) entries) (newest : All (λ (e : Pair). e.0 ≤ tickets.last) entries) where
    abbrev shown : List Command
    shown = commands_of kept.values entries

    long : length shown ≡ length entries
    long = length-map entries (λ (e : Pair). here e.1)

    shown_at : (i : ℕ) (d : Command) → i < length shown → get_or shown i d ≡ here (get_or entries i (0, 0)).1
    shown_at i d l = get_or-map (λ (e : Pair). here e.1) entries i (0, 0) d (let a = long in omega (arith, l, a))

    kept_at : (i : ℕ) → i < length shown → IsKept kept (get_or entries i (0, 0))
    kept_at i l = each_at kept entries are.each i (0, 0) (let a = long in omega (arith, l, a))

    trailed_at : (e : Pair) → IsKept kept e → IsTrailed (tracked_of tickets kept) (here e.1)
    trailed_at e k = record {
      conn = let a = are.conns e.1 k.there in let b = behind_long kept.lists are.some in omega (arith, a, b);
      out = λ is. on_trail is (some_list e.1 kept.lists k.there);
      idle = λ is. ⊎_elim
          (λ some. absurd (off_trail is (some_list (here e.1).place (behind_first kept.lists) some)))
          (λ none. omega (arith, none))
          (cases_lt 0 (times_in (here e.1).place (behind_first kept.lists)));
      once = let a = behind_times (here e.1).place kept.lists in let b = once_in apart (here e.1).place in omega (arith, a, b);
    }
      where
        on_trail : is_out (here e.1) ≡ true → ((i : ℕ) × (i < length kept.lists) × (1 ≤ times e.1 (get_or kept.lists i []))) → times (here e.1).place (get_or (behind_first kept.lists) (here e.1).conn []) ≡ 1
        on_trail is (zero, l, there) = absurd (false≢true (sym (are.idle e.1 there) ∙ is))
        on_trail is (suc i, l, there) =
            let conn : (here e.1).conn ≡ i = are.on i e.1 there in
            let a = ap (λ n. times n (get_or (behind_first kept.lists) (here e.1).conn [])) k.place in
            let b = ap (λ n. times e.1 (get_or (behind_first kept.lists) n [])) conn in
            let c = ap (times e.1) (behind_read i kept.lists) in
            let d = times_any e.1 (suc i) kept.lists in
            let f = once_in apart e.1 in
            omega (arith, a, b, c, d, f, there)

        off_trail : is_out (here e.1) ≡ false → ((i : ℕ) × (i < length (behind_first kept.lists)) × (1 ≤ times (here e.1).place (get_or (behind_first kept.lists) i []))) → ⊥
        off_trail is (i, l, there) =
            let a = ap (times (here e.1).place) (behind_read i kept.lists) in
            let b = ap (λ n. times n (get_or kept.lists (suc i) [])) k.place in
            false≢true (sym is ∙ are.out i e.1 (omega (arith, a, b, there)))

    pub are_known : AreKnown (tracked_of tickets kept)
    are_known = record {
      ascending = λ i j d lt l.
          let a = ap (λ (c : Command). c.ticket) (shown_at i d (omega (arith, lt, l))) in
          let b = ap (λ (c : Command). c.ticket) (shown_at j d l) in
          let p = (kept_at i (omega (arith, lt, l))).ticket in
          let q = (kept_at j l).ticket in
          let u : (get_or entries i (0, 0)).0 < (get_or entries j (0, 0)).0 = up i j (0, 0) lt (let e = long in omega (arith, l, e)) in
          omega (arith, a, b, p, q, u);
      newest = λ i d l.
          let a = ap (λ (c : Command). c.ticket) (shown_at i d l) in
          let p = (kept_at i l).ticket in
          let u : (get_or entries i (0, 0)).0 ≤ tickets.last = newest i (0, 0) (let e = long in omega (arith, l, e)) in
          omega (arith, a, p, u);
      apart = λ i j d lt l same.
          let a = ap (λ (c : Command). c.place) (shown_at i d (omega (arith, lt, l))) in
          let b = ap (λ (c : Command). c.place) (shown_at j d l) in
          let k = kept_at i (omega (arith, lt, l)) in
          let m = kept_at j l in
          let places : (get_or entries i (0, 0)).1 ≡ (get_or entries j (0, 0)).1 = sym k.place ∙ sym a ∙ same ∙ b ∙ m.place in
          let one = sym k.ticket ∙ ap (λ n. (here n).ticket) places ∙ m.ticket in
          let u : (get_or entries i (0, 0)).0 < (get_or entries j (0, 0)).0 = up i j (0, 0) lt (let e = long in omega (arith, l, e)) in
          omega (arith, one, u);
      low = λ i d l.
          let a = ap (λ (c : Command). c.place) (shown_at i d l) in
          let k = kept_at i l in
          let p = k.place in
          let u = low (get_or entries i (0, 0)).1 k.there in
          omega (arith, a, p, u);
      high = λ i d l.
          let a = ap (λ (c : Command). c.place) (shown_at i d l) in
          let k = kept_at i l in
          let p = k.place in
          let u = high (get_or entries i (0, 0)).1 k.there in
          omega (arith, a, p, u);
      trailed = λ i d l. subst (IsTrailed (tracked_of tickets kept)) (sym (shown_at i d l)) (trailed_at (get_or entries i (0, 0)) (kept_at i l));
      of_one = λ place some. there_has place (let a = behind_times place kept.lists in omega (arith, a, some));
      counted = let a = long in let b = are.counted in omega (arith, a, b);
      unused = λ place is. ⊎_elim
          (λ has.
          let a = has_there place has in
          let one = apart.once place (low place a) (high place a) in absurd (omega (arith, a, one, is)))
          (λ no. no)
          (cases_Bool (has_place place (tracked_of tickets kept)));
    }

  -- ---- a command enters

  module _ (e : Entering) (slot : ℕ) (fresh : times_in slot kept.lists ≡ 0) (last : last_of kept.free ≡ Some slot)
      (values : length kept.values ≡ kept.room + 1) (conn : e.conn < length (behind_first kept.lists))
      (newest : All (λ (x : Pair). x.0 ≤ tickets.last) entries) (above : tickets.last < e.ticket) where
    abbrev entering : Command
    entering = as_command e slot

    abbrev with_entry : Known
    with_entry = known (entries ++ (e.ticket, slot) ∷ []) e.ticket tickets.room

    abbrev with_slot : Listed Command
    with_slot = record kept { free = without slot kept.free; lists = with_last 0 slot kept.lists; values = set kept.values slot entering }

    is_free : 1 ≤ times slot kept.free + times_in slot kept.lists
    is_free = let a = last_there slot kept.free last in omega (arith, a)

    pub slot_low : 1 ≤ slot
    slot_low = apart.some slot is_free

    pub slot_high : slot ≤ kept.room
    slot_high = apart.within slot is_free

    entering_at : command_at with_slot.values slot ≡ entering
    entering_at = get_or-set_same kept.values slot entering _ (let a = slot_high in omega (arith, a, values))

    entering_other : (p : ℕ) → p ≢ slot → command_at with_slot.values p ≡ here p
    entering_other p other = get_or-set_other kept.values slot p entering _ other

    in_use_apart : (p : ℕ) → 1 ≤ times_in p kept.lists → p ≢ slot
    in_use_apart p there same = let a = ap (λ n. times_in n kept.lists) same in omega (arith, a, fresh, there)

    with_times : (p : ℕ) → times_in p with_slot.lists ≡ times_in p kept.lists + times p (slot ∷ [])
    with_times p = times_in_with 0 slot p kept.lists (let a = are.some in omega (arith, a))

    was_there : (p : ℕ) → p ≢ slot → 1 ≤ times_in p with_slot.lists → 1 ≤ times_in p kept.lists
    was_there p other there = let a = with_times p in let b = times_other p slot [] (λ same. other (sym same)) in omega (arith, a, b, there)

    pub entered_state : tracked_of with_entry with_slot ≡ entered e slot (tracked_of tickets kept)
    entered_state =
        let cs : commands_of with_slot.values (entries ++ (e.ticket, slot) ∷ []) ≡ commands_of kept.values entries ++ entering ∷ [] =
        map-append (λ (x : Pair). command_at with_slot.values x.1) entries ((e.ticket, slot) ∷ [])
        ∙ ap (λ xs. xs ++ command_at with_slot.values slot ∷ []) (other_commands kept slot entering entries are.each fresh)
        ∙ ap (λ c. commands_of kept.values entries ++ c ∷ []) entering_at in
        ap (λ xs. record { commands = xs; last = e.ticket; trails = behind_first with_slot.lists; free = without slot kept.free; room = kept.room }) cs
        ∙ ap (λ ts. record { commands = commands_of kept.values entries ++ entering ∷ []; last = e.ticket; trails = ts; free = without slot kept.free; room = kept.room }) (behind_with slot kept.lists)

    idle_read : slots_at with_slot 0 ≡ slots_at kept 0 ++ slot ∷ []
    idle_read = get_or-set_same kept.lists 0 (slots_at kept 0 ++ slot ∷ []) [] (let a = are.some in omega (arith, a))

    trail_read : (k : ℕ) → slots_at with_slot (suc k) ≡ slots_at kept (suc k)
    trail_read k = get_or-set_other kept.lists 0 (suc k) (slots_at kept 0 ++ slot ∷ []) [] (λ same. omega (arith, same))

    trail_before : (k p : ℕ) → 1 ≤ times p (slots_at with_slot (suc k)) → 1 ≤ times p (slots_at kept (suc k))
    trail_before k p there = let a = ap (times p) (trail_read k) in omega (arith, a, there)

    trail_apart : (k p : ℕ) → 1 ≤ times p (slots_at kept (suc k)) → p ≢ slot
    trail_apart k p there = in_use_apart p (let a = times_any p (suc k) kept.lists in omega (arith, a, there))

    pub entered_are : AreTracked with_entry with_slot
    entered_are = record {
      each = each_push with_slot entries (e.ticket, slot)
          (each_weaken kept with_slot entries (λ x k.
          let same = entering_other x.1 (in_use_apart x.1 k.there) in record {
            ticket = ap (λ (c : Command). c.ticket) same ∙ k.ticket;
            place = ap (λ (c : Command). c.place) same ∙ k.place;
            there = let a = with_times x.1 in let b = k.there in omega (arith, a, b);
          }) are.each)
          (record {
            ticket = ap (λ (c : Command). c.ticket) entering_at;
            place = ap (λ (c : Command). c.place) entering_at;
            there = let a = with_times slot in let b = times_same slot slot [] refl in omega (arith, a, b);
          });
      owned = λ p there. ⊎_elim
          (λ same.
          subst (λ n. value_of (command_at with_slot.values n).ticket with_entry.entries ≡ Some n) (sym same)
          (ap (λ (c : Command). value_of c.ticket with_entry.entries) entering_at
          ∙ value_push_here e.ticket slot entries (λ k d l. let u : (get_or entries k d).0 ≤ tickets.last = newest k d l in omega (arith, u, above))))
          (λ other.
          ap (λ (c : Command). value_of c.ticket with_entry.entries) (entering_other p other)
          ∙ value_push_other e.ticket slot (here p).ticket entries p (are.owned p (was_there p other there)))
          (cases_eq p slot);
      conns = λ p there.
          let long = length-set kept.lists 0 (slots_at kept 0 ++ slot ∷ []) in
          ⊎_elim
          (λ same.
          let a = ap (λ n. (command_at with_slot.values n).conn) same in
          let b = ap (λ (c : Command). c.conn) entering_at in
          let c = behind_long kept.lists are.some in omega (arith, a, b, c, conn, long))
          (λ other.
          let a = ap (λ (c : Command). c.conn) (entering_other p other) in
          let b = are.conns p (was_there p other there) in omega (arith, a, b, long))
          (cases_eq p slot);
      idle = λ p there. ⊎_elim
          (λ same. ap (λ n. is_out (command_at with_slot.values n)) same ∙ ap is_out entering_at)
          (λ other.
          let a = ap (times p) idle_read in
          let b = times_append p (slots_at kept 0) (slot ∷ []) in
          let c = times_other p slot [] (λ same. other (sym same)) in
          ap is_out (entering_other p other) ∙ are.idle p (omega (arith, a, b, c, there)))
          (cases_eq p slot);
      out = λ k p there. let old = trail_before k p there in ap is_out (entering_other p (trail_apart k p old)) ∙ are.out k p old;
      on = λ k p there. let old = trail_before k p there in ap (λ (c : Command). c.conn) (entering_other p (trail_apart k p old)) ∙ are.on k p old;
      counted =
          let a = length_push entries (e.ticket, slot) in
          let b = fewer_free kept apart slot last fresh in
          let c = are.counted in omega (arith, a, b, c);
      room = are.room;
      some = let a = length-set kept.lists 0 (slots_at kept 0 ++ slot ∷ []) in let b = are.some in omega (arith, a, b);
    }

  -- ---- a command goes

  module _ (place : ℕ) (there : 1 ≤ times_in place kept.lists) (up : AllPairs (λ (a b : Pair). a.0 < b.0) entries) where
    abbrev less_entry : Known
    less_entry = known (without_ticket (here place).ticket entries) tickets.last tickets.room

    abbrev less_slot : Listed Command
    less_slot = record kept { free = kept.free ++ place ∷ []; lists = map (without place) kept.lists }

    pub removed_state : tracked_of less_entry less_slot ≡ removed place (tracked_of tickets kept)
    removed_state =
        ap (λ xs. record { commands = xs; last = tickets.last; trails = behind_first less_slot.lists; free = less_slot.free; room = kept.room })
        (removed_commands kept (here place).ticket place entries are.each (same_entry place there))
        ∙ ap (λ ts. record { commands = (removed place (tracked_of tickets kept)).commands; last = tickets.last; trails = ts; free = less_slot.free; room = kept.room }) (behind_map place kept.lists)

    left_apart : (p : ℕ) → 1 ≤ times_in p less_slot.lists → p ≢ place
    left_apart p some same = let a = ap (λ n. times_in n less_slot.lists) same in let b = times_in_without place kept.lists in omega (arith, a, b, some)

    left_before : (p : ℕ) → 1 ≤ times_in p less_slot.lists → 1 ≤ times_in p kept.lists
    left_before p some = let a = times_in_other place p kept.lists (left_apart p some) in omega (arith, a, some)

    fewer_at : (list p : ℕ) → 1 ≤ times p (slots_at less_slot list) → 1 ≤ times p (slots_at kept list)
    fewer_at list p some = let a = ap (times p) (nth_map place list kept.lists) in let b = times_less place p (slots_at kept list) in omega (arith, a, b, some)

    pub removed_are : AreTracked less_entry less_slot
    removed_are = record {
      each = each_without kept less_slot (here place).ticket entries (λ x isnt k. record {
        ticket = k.ticket;
        place = k.place;
        there =
            let a = times_in_other place x.1 kept.lists (λ same. false≢true (sym isnt ∙ same_entry place there x k ∙ eq-eqb x.1 place same)) in
            let b = k.there in omega (arith, a, b);
      }) are.each;
      owned = λ p some.
          let before = left_before p some in
          value_without (here place).ticket (here p).ticket entries
          (λ same. left_apart p some (same_some p place (sym (are.owned p before) ∙ ap (λ n. value_of n entries) same ∙ are.owned place there)))
          ∙ are.owned p before;
      conns = λ p some. let a = are.conns p (left_before p some) in let b = length-map kept.lists (without place) in omega (arith, a, b);
      idle = λ p some. are.idle p (fewer_at 0 p some);
      out = λ k p some. are.out k p (fewer_at (suc k) p some);
      on = λ k p some. are.on k p (fewer_at (suc k) p some);
      counted =
          let a = one_fewer (here place).ticket place entries up (are.owned place there) in
          let b = length_push kept.free place in
          let c = are.counted in omega (arith, a, b, c);
      room = are.room;
      some = let a = length-map kept.lists (without place) in let b = are.some in omega (arith, a, b);
    }

  -- ---- a command changes, and stays where it is

  module _ (place : ℕ) (there : 1 ≤ times_in place kept.lists) (values : length kept.values ≡ kept.room + 1) (change : Command → Command)
      (ticket : (c : Command) → (change c).ticket ≡ c.ticket) (name : (c : Command) → (change c).place ≡ c.place) (conn : (c : Command) → (change c).conn ≡ c.conn) where
    abbrev with_value : Listed Command
    with_value = record kept { values = set kept.values place (change (here place)) }

    within : place < length kept.values
    within = let a = high place there in omega (arith, a, values)

    value_here : command_at with_value.values place ≡ change (here place)
    value_here = get_or-set_same kept.values place (change (here place)) _ within

    value_other : (p : ℕ) → p ≢ place → command_at with_value.values p ≡ here p
    value_other p other = get_or-set_other kept.values place p (change (here place)) _ other

    -- what stays the same of a command stays at each place
    kept_by : {X : Type 0} (f : Command → X) → ((c : Command) → f (change c) ≡ f c) → (p : ℕ) → f (command_at with_value.values p) ≡ f (here p)
    kept_by f same p = ⊎_elim
        (λ is. ap (λ n. f (command_at with_value.values n)) is ∙ ap f value_here ∙ same (here place) ∙ ap (λ n. f (here n)) (sym is))
        (λ other. ap f (value_other p other))
        (cases_eq p place)

    pub changed_state : tracked_of tickets with_value ≡ record (tracked_of tickets kept) { commands = with_command change place (commands_of kept.values entries) }
    changed_state = ap (λ xs. record { commands = xs; last = tickets.last; trails = behind_first kept.lists; free = kept.free; room = kept.room }) (set_commands kept change place entries are.each within)

    pub changed_are : ((c : Command) → is_out (change c) ≡ is_out c) → AreTracked tickets with_value
    changed_are out = record {
      each = each_weaken kept with_value entries (λ x k. record {
        ticket = kept_by (λ (c : Command). c.ticket) ticket x.1 ∙ k.ticket;
        place = kept_by (λ (c : Command). c.place) name x.1 ∙ k.place;
        there = k.there;
      }) are.each;
      owned = λ p some. ap (λ n. value_of n entries) (kept_by (λ (c : Command). c.ticket) ticket p) ∙ are.owned p some;
      conns = λ p some. let a = kept_by (λ (c : Command). c.conn) conn p in let b = are.conns p some in omega (arith, a, b);
      idle = λ p some. kept_by is_out out p ∙ are.idle p some;
      out = λ k p some. kept_by is_out out p ∙ are.out k p some;
      on = λ k p some. kept_by (λ (c : Command). c.conn) conn p ∙ are.on k p some;
      counted = are.counted;
      room = are.room;
      some = are.some;
    }

    -- ---- and one that moves to the end of a list

    module _ (list : ℕ) (inside : list < length kept.lists)
        (idle : list ≡ 0 → is_out (change (here place)) ≡ false)
        (out : (k : ℕ) → list ≡ suc k → is_out (change (here place)) ≡ true)
        (on : (k : ℕ) → list ≡ suc k → (here place).conn ≡ k) where
      abbrev left : List (List ℕ)
      left = map (without place) kept.lists

      abbrev with_moved : Listed Command
      with_moved = record with_value { lists = with_last list place left }

      left_long : length left ≡ length kept.lists
      left_long = length-map kept.lists (without place)

      moved_in : (p : ℕ) → times_in p with_moved.lists ≡ times_in p left + times p (place ∷ [])
      moved_in p = times_in_with list place p left (let a = left_long in omega (arith, a, inside))

      stays : (p : ℕ) → 1 ≤ times_in p kept.lists → 1 ≤ times_in p with_moved.lists
      stays p some = let a = moved_in p in ⊎_elim
          (λ same. let b = times_same p place [] (sym same) in omega (arith, a, b))
          (λ other. let b = times_in_other place p kept.lists other in omega (arith, a, b, some))
          (cases_eq p place)

      stood : (p : ℕ) → 1 ≤ times_in p with_moved.lists → 1 ≤ times_in p kept.lists
      stood p some = let a = moved_in p in ⊎_elim
          (λ same. subst (λ n. 1 ≤ times_in n kept.lists) (sym same) there)
          (λ other.
          let b = times_in_other place p kept.lists other in
          let c = times_other p place [] (λ same. other (sym same)) in omega (arith, a, b, c, some))
          (cases_eq p place)

      moved_other : (k : ℕ) → k ≢ list → slots_at with_moved k ≡ without place (slots_at kept k)
      moved_other k other = get_or-set_other left list k (get_or left list [] ++ place ∷ []) [] other ∙ nth_map place k kept.lists

      moved_here : slots_at with_moved list ≡ without place (slots_at kept list) ++ place ∷ []
      moved_here =
          get_or-set_same left list (get_or left list [] ++ place ∷ []) [] (let a = left_long in omega (arith, a, inside))
          ∙ ap (λ xs. xs ++ place ∷ []) (nth_map place list kept.lists)

      -- the others stay in their lists, and it stands in that one alone
      moved_before : (k p : ℕ) → p ≢ place → 1 ≤ times p (slots_at with_moved k) → 1 ≤ times p (slots_at kept k)
      moved_before k p other some = ⊎_elim
          (λ (same : k ≡ list).
          let a = ap (times p) (ap (slots_at with_moved) same ∙ moved_here) in
          let b = times_append p (without place (slots_at kept list)) (place ∷ []) in
          let c = times_other p place [] (λ e. other (sym e)) in
          let d = times_less place p (slots_at kept list) in
          let f = ap (λ n. times p (slots_at kept n)) same in omega (arith, a, b, c, d, f, some))
          (λ apart. let a = ap (times p) (moved_other k apart) in let b = times_less place p (slots_at kept k) in omega (arith, a, b, some))
          (cases_eq k list)

      only_there : (k : ℕ) → 1 ≤ times place (slots_at with_moved k) → k ≡ list
      only_there k some = ⊎_elim
          (λ same. same)
          (λ apart. let a = ap (times place) (moved_other k apart) in let b = times_without place (slots_at kept k) in absurd (omega (arith, a, b, some)))
          (cases_eq k list)

      pub moved_are : AreTracked tickets with_moved
      moved_are = record {
        each = each_weaken kept with_moved entries (λ x k. record {
          ticket = kept_by (λ (c : Command). c.ticket) ticket x.1 ∙ k.ticket;
          place = kept_by (λ (c : Command). c.place) name x.1 ∙ k.place;
          there = stays x.1 k.there;
        }) are.each;
        owned = λ p some. ap (λ n. value_of n entries) (kept_by (λ (c : Command). c.ticket) ticket p) ∙ are.owned p (stood p some);
        conns = λ p some.
            let a = kept_by (λ (c : Command). c.conn) conn p in
            let b = are.conns p (stood p some) in
            let c = length-set left list (get_or left list [] ++ place ∷ []) in
            let d = left_long in omega (arith, a, b, c, d);
        idle = λ p some. ⊎_elim
            (λ same.
            let at = only_there 0 (subst (λ n. 1 ≤ times n (slots_at with_moved 0)) same some) in
            ap (λ n. is_out (command_at with_value.values n)) same ∙ ap is_out value_here ∙ idle (sym at))
            (λ other. ap is_out (value_other p other) ∙ are.idle p (moved_before 0 p other some))
            (cases_eq p place);
        out = λ k p some. ⊎_elim
            (λ same.
            let at = only_there (suc k) (subst (λ n. 1 ≤ times n (slots_at with_moved (suc k))) same some) in
            ap (λ n. is_out (command_at with_value.values n)) same ∙ ap is_out value_here ∙ out k (sym at))
            (λ other. ap is_out (value_other p other) ∙ are.out k p (moved_before (suc k) p other some))
            (cases_eq p place);
        on = λ k p some. ⊎_elim
            (λ same.
            let at = only_there (suc k) (subst (λ n. 1 ≤ times n (slots_at with_moved (suc k))) same some) in
            ap (λ n. (command_at with_value.values n).conn) same ∙ ap (λ (c : Command). c.conn) value_here ∙ conn (here place) ∙ on k (sym at))
            (λ other. ap (λ (c : Command). c.conn) (value_other p other) ∙ are.on k p (moved_before (suc k) p other some))
            (cases_eq p place);
        counted = are.counted;
        room = are.room;
        some = let a = length-set left list (get_or left list [] ++ place ∷ []) in let b = left_long in let c = are.some in omega (arith, a, b, c);
      }

      pub moved_state : (trails : List (List ℕ)) → behind_first (with_last list place left) ≡ trails
          → tracked_of tickets with_moved ≡ record (tracked_of tickets kept) { commands = with_command change place (commands_of kept.values entries); trails = trails }
      moved_state trails is =
          ap (λ xs. record { commands = xs; last = tickets.last; trails = behind_first (with_last list place left); free = kept.free; room = kept.room }) (set_commands kept change place entries are.each within)
          ∙ ap (λ ts. record { commands = with_command change place (commands_of kept.values entries); last = tickets.last; trails = ts; free = kept.free; room = kept.room }) is

  -- a PDU of it goes out; nothing of it is under way
  module _ (place : ℕ) (there : 1 ≤ times_in place kept.lists) (values : length kept.values ≡ kept.room + 1) where
    conn_inside : (here place).conn + 1 < length kept.lists
    conn_inside = are.conns place there

    pub handed_state : (stamp : Stamp)
        → tracked_of tickets (record kept { values = set kept.values place (with_out (Some stamp) (here place)); lists = with_last (suc (here place).conn) place (map (without place) kept.lists) })
        ≡ handed_out place stamp (tracked_of tickets kept)
    handed_state stamp =
        moved_state place there values (with_out (Some stamp)) (λ c. refl) (λ c. refl) (λ c. refl) (suc (here place).conn) (let a = conn_inside in omega (arith, a))
        (λ no. absurd (omega (arith, no))) (λ k is. refl) (λ k is. omega (arith, is))
        (with_last (here place).conn place (map (without place) (behind_first kept.lists))) (behind_out (here place).conn place kept.lists)
        ∙ ap (λ r. record (tracked_of tickets kept) {
          commands = with_command (with_out (Some stamp)) place (commands_of kept.values entries);
          trails = with_last (elim r [ Some c ↦ c.conn | None ↦ 0 ]) place (map (without place) (behind_first kept.lists));
        }) (sym (find_there place there))

    pub handed_are : (stamp : Stamp)
        → AreTracked tickets (record kept { values = set kept.values place (with_out (Some stamp) (here place)); lists = with_last (suc (here place).conn) place (map (without place) kept.lists) })
    handed_are stamp =
        moved_are place there values (with_out (Some stamp)) (λ c. refl) (λ c. refl) (λ c. refl) (suc (here place).conn) (let a = conn_inside in omega (arith, a))
        (λ no. absurd (omega (arith, no))) (λ k is. refl) (λ k is. omega (arith, is))

    pub arrived_state :
        tracked_of tickets (record kept { values = set kept.values place (with_out None (here place)); lists = with_last 0 place (map (without place) kept.lists) }) ≡ arrived place (tracked_of tickets kept)
    arrived_state =
        moved_state place there values (with_out None) (λ c. refl) (λ c. refl) (λ c. refl) 0 (let a = are.some in omega (arith, a))
        (λ is. refl) (λ k no. absurd (omega (arith, no))) (λ k no. absurd (omega (arith, no)))
        (map (without place) (behind_first kept.lists)) (behind_idle place kept.lists)

    pub arrived_are : AreTracked tickets (record kept { values = set kept.values place (with_out None (here place)); lists = with_last 0 place (map (without place) kept.lists) })
    arrived_are =
        moved_are place there values (with_out None) (λ c. refl) (λ c. refl) (λ c. refl) 0 (let a = are.some in omega (arith, a))
        (λ is. refl) (λ k no. absurd (omega (arith, no))) (λ k no. absurd (omega (arith, no)))

    pub phased_state : (phase : Phase)
        → tracked_of tickets (record kept { values = set kept.values place (to_phase phase (here place)) }) ≡ in_phase phase place (tracked_of tickets kept)
    phased_state phase = changed_state place there values (to_phase phase) (λ c. refl) (λ c. refl) (λ c. refl)

    pub phased_are : (phase : Phase) → AreTracked tickets (record kept { values = set kept.values place (to_phase phase (here place)) })
    phased_are phase = changed_are place there values (to_phase phase) (λ c. refl) (λ c. refl) (λ c. refl) (λ c. refl)

-- ---- none yet

none_in : (s n : ℕ) → times_in s (replicate {A = List ℕ} n []) ≡ 0
none_in s zero = refl
none_in s (suc n) = let rest = none_in s n in omega (arith, rest)

none_at : (n k : ℕ) → get_or (replicate {A = List ℕ} n []) k [] ≡ []
none_at zero zero = refl
none_at zero (suc k) = refl
none_at (suc n) zero = refl
none_at (suc n) (suc k) = none_at n k

module _ (conns room : ℕ) where
  abbrev pub no_tickets : Known
  no_tickets = known [] 0 room

  abbrev pub no_commands : Listed Command
  no_commands = listed (counted 1 room) (replicate (conns + 1) []) room (replicate (room + 1) BLANK)

  pub opened_are : AreTracked no_tickets no_commands
  opened_are = record {
    each = tt;
    owned = λ p some. let a = none_in p (conns + 1) in absurd (omega (arith, a, some));
    conns = λ p some. let a = none_in p (conns + 1) in absurd (omega (arith, a, some));
    idle = λ p some. let a = ap (times p) (none_at (conns + 1) 0) in absurd (omega (arith, a, some));
    out = λ k p some. let a = ap (times p) (none_at (conns + 1) (suc k)) in absurd (omega (arith, a, some));
    on = λ k p some. let a = ap (times p) (none_at (conns + 1) (suc k)) in absurd (omega (arith, a, some));
    counted = let a = counted_long 1 room in omega (arith, a);
    room = refl;
    some = let a = replicate_long (conns + 1) in omega (arith, a);
  }

  pub opened_trails : behind_first (replicate {A = List ℕ} (conns + 1) []) ≡ replicate conns []
  opened_trails = let e : conns + 1 ≡ suc conns = omega arith in ap (λ n. behind_first (replicate {A = List ℕ} n [])) e
