-- All commands, as one enters, changes and goes.
use Rattle.std.proofs.Common.{◌≡◌, ◌≢◌, ℕ, suc, ◌+◌, ◌<◌, ◌≤◌, ◌==◌, not, cond, Bool, true, false, List, [], ◌∷◌, ◌++◌, length, map, filter, find, get_or, set, All, Option, Some, None, option_map, refl, ap, sym, subst, ◌∙◌, arith, ⊎_elim, eq-eqb, ne_eqb}
use Rattle.std.proofs.lemmas.Bool.{cases_eq, eqb-true, false≢true}
use Rattle.std.proofs.lemmas.List.{get_or_default, get_or-set_same, get_or-set_other, length-map, length-set, length_push, map-append}
use Rattle.iscsi_slots.specs.Slots.{times}
use Rattle.iscsi_lists.specs.Lists.{AreApart, Listed, last_of, linked_in, times_in, with_last, without}
use Rattle.iscsi_lists.proofs.PlaceLemmas.{fewer_free, last_there, nth_map, times_any}
use Rattle.iscsi_tickets.specs.Tickets.{Known, known, value_of, without_ticket}
use Rattle.iscsi_ffi_commands.specs.declared.command.Command.{Command}
use Rattle.iscsi_ffi_commands.specs.declared.command.Stage.{Stage}
use Rattle.iscsi_ffi_commands.specs.Commands.{Commands, find_ticket, forgotten, has_ticket, in_stage, is_of, staged}
use Rattle.iscsi_ffi_commands.specs.Kept.{AreCells, BLANK, Cell, HasNone, IsIn, command_at, command_of, commands_of, entry_of, mark_of, marks, request_of, slot_of, slots_at, slots_in, ticket_of}
use Rattle.iscsi_ffi_commands.proofs.CellLemmas.{apart_filter, apart_map, apart_push, filter_in, filter_mapped, filter_same, find_in, in_filter, in_map, in_push, last_in, map_in, map_same, push_in, same_by, same_cell}
use Rattle.iscsi_ffi_commands.proofs.UnitLemmas.{fewer_left, list_inside, mark_elsewhere, mark_here, marked_map, marked_push, marked_without, slot_times, slots_elsewhere, slots_here, slots_map, slots_push, slots_without}

abbrev pub Pair : Type 0
Pair = ℕ × ℕ

pub find_mapped : {X : Type 0} (f : Cell → X) (p : X → Bool) (cells : List Cell) → find p (map f cells) ≡ option_map f (find (λ c. p (f c)) cells)
find_mapped f p [] = refl
find_mapped f p (c ∷ cells) =
    let rest = find_mapped f p cells in
    elim (p (f c)) as (λ b. cond b (Some (f c)) (find p (map f cells)) ≡ option_map f (cond b (Some c) (find (λ d. p (f d)) cells))) [
      | true ↦ refl
      | false ↦ rest
    ]

pub map_mapped : {X Y : Type 0} (f : Cell → X) (g : X → Y) (cells : List Cell) → map g (map f cells) ≡ map (λ c. g (f c)) cells
map_mapped f g [] = refl
map_mapped f g (c ∷ cells) = ap (λ xs. g (f c) ∷ xs) (map_mapped f g cells)

-- a command that is found by its ticket
pub record IsFound (cells : List Cell) (ticket slot : ℕ) : Type 0 where
  pub cell : Cell
  pub there : IsIn cell cells
  pub ticket_is : ticket_of cell ≡ ticket
  pub slot_is : cell.slot ≡ slot
  pub found : find (has_ticket ticket) (map command_of cells) ≡ Some cell.command

value_mapped : (ticket : ℕ) (cells : List Cell) → value_of ticket (map entry_of cells) ≡ option_map slot_of (find (λ (c : Cell). ticket_of c == ticket) cells)
value_mapped ticket cells =
    ap (option_map (λ (e : Pair). e.1)) (find_mapped entry_of (λ (e : Pair). e.0 == ticket) cells) ∙ twice (find (λ (c : Cell). ticket_of c == ticket) cells)
  where
    twice : (r : Option Cell) → option_map (λ (e : Pair). e.1) (option_map entry_of r) ≡ option_map slot_of r
    twice None = refl
    twice (Some c) = refl

pub is_found : (cells : List Cell) (ticket slot : ℕ) → value_of ticket (map entry_of cells) ≡ Some slot → IsFound cells ticket slot
is_found cells ticket slot is =
    let p : Cell → Bool = λ c. ticket_of c == ticket in
    elim (find p cells) as (λ r. find p cells ≡ r → option_map slot_of r ≡ Some slot → IsFound cells ticket slot) [
      | None ↦ λ _ no. absurd (let e : None ≡ Some slot = no in cc)
      | Some c ↦ λ e same.
          let picked = find_in p c cells e in
          record {
            cell = c;
            there = picked.there;
            ticket_is = eqb-true (ticket_of c) ticket picked.holds;
            slot_is = let s : Some (c.slot) ≡ Some slot = same in cc;
            found = find_mapped command_of (has_ticket ticket) cells ∙ ap (option_map command_of) e;
          }
    ] refl (sym (value_mapped ticket cells) ∙ is)

pub none_found : (cells : List Cell) (ticket : ℕ) → value_of ticket (map entry_of cells) ≡ None → find (λ (c : Cell). ticket_of c == ticket) cells ≡ None
none_found cells ticket none =
    let p : Cell → Bool = λ c. ticket_of c == ticket in
    elim (find p cells) as (λ r. option_map slot_of r ≡ None → r ≡ None) [
      | None ↦ λ _. refl
      | Some c ↦ λ no. absurd (let e : Some (c.slot) ≡ None = no in cc)
    ] (sym (value_mapped ticket cells) ∙ none)

-- ---- what holds of all

module _ (tickets : Known) (kept : Listed Command) (slots counts : List ℕ) (cells : List Cell) (are : AreCells tickets kept slots counts cells) where
  abbrev pub value : Commands
  value = record { items = map command_of cells; last = tickets.last; room = kept.room; units = length kept.lists }

  pub shown : commands_of tickets kept ≡ value
  shown =
      let read : Pair → Command = λ e. command_at kept.values e.1 in
      ap (λ xs. record { items = xs; last = tickets.last; room = kept.room; units = length kept.lists })
      (ap (map read) are.entries ∙ map_mapped entry_of read cells ∙ map_same (λ c. read (entry_of c)) command_of cells are.values)

  pub found_none : (ticket : ℕ) → value_of ticket tickets.entries ≡ None → find_ticket ticket value ≡ None
  found_none ticket none =
      find_mapped command_of (has_ticket ticket) cells
      ∙ ap (option_map command_of) (none_found cells ticket (ap (value_of ticket) (sym are.entries) ∙ none))

  pub found_some : (ticket slot : ℕ) → value_of ticket tickets.entries ≡ Some slot → IsFound cells ticket slot
  found_some ticket slot is = is_found cells ticket slot (ap (value_of ticket) (sym are.entries) ∙ is)

  -- the cell of a command that was found
  pub record IsCellOf (ticket : ℕ) (command : Command) : Type 0 where
    pub cell : Cell
    pub there : IsIn cell cells
    pub is : cell.command ≡ command

  pub cell_of : (ticket : ℕ) (command : Command) → find_ticket ticket value ≡ Some command → IsCellOf ticket command
  cell_of ticket command found =
      let p : Cell → Bool = λ c. ticket_of c == ticket in
      elim (find p cells) as (λ r. find p cells ≡ r → option_map command_of r ≡ Some command → IsCellOf ticket command) [
        | None ↦ λ _ no. absurd (let e : None ≡ Some command = no in cc)
        | Some c ↦ λ e same.
            let picked = find_in p c cells e in
            record { cell = c; there = picked.there; is = let s : Some (c.command) ≡ Some command = same in cc }
      ] refl (sym (find_mapped command_of (has_ticket ticket) cells) ∙ found)

  module _ (ticket : ℕ) (command : Command) (h : IsCellOf ticket command) where
    pub request_is : request_of h.cell ≡ command.request
    request_is = ap (λ (c : Command). c.request) h.is

    pub request_in : command.request < length slots
    request_in = let a = are.high h.cell h.there in let b = are.slots_long in let d = request_is in omega (arith, a, b, d)

    pub slot_told : (slot : ℕ) → slot ≡ get_or slots command.request slot → h.cell.slot ≡ slot
    slot_told slot read =
        sym (are.here h.cell h.there)
        ∙ ap (λ r. get_or slots r 0) request_is
        ∙ sym (get_or_default slots command.request slot 0 request_in)
        ∙ sym read

  pub there : (x : Cell) → IsIn x cells → 1 ≤ times (x.slot) (slots_at kept (x.command.unit))
  there x is = let a = slot_times x cells is in let b = ap (times (x.slot)) (are.lists (x.command.unit)) in omega (arith, a, b)

  pub in_lists : (x : Cell) → IsIn x cells → 1 ≤ times_in (x.slot) kept.lists
  in_lists x is = let a = there x is in let b = times_any (x.slot) (x.command.unit) kept.lists in omega (arith, a, b)

  pub unit_below : (x : Cell) → IsIn x cells → x.command.unit < length kept.lists
  unit_below x is = list_inside (x.command.unit) (x.slot) kept.lists (there x is)

  module _ (apart : AreApart (linked_in kept)) where
    pub slot_low : (x : Cell) → IsIn x cells → 1 ≤ x.slot
    slot_low x is = apart.some (x.slot) (let a = in_lists x is in omega (arith, a))

    pub slot_high : (x : Cell) → IsIn x cells → x.slot ≤ kept.room
    slot_high x is = apart.within (x.slot) (let a = in_lists x is in omega (arith, a))

  -- ---- a command enters

  module _ (apart : AreApart (linked_in kept)) (c : Command) (slot : ℕ) (fresh : times_in slot kept.lists ≡ 0) (last : last_of kept.free ≡ Some slot)
      (long : length kept.values ≡ kept.room + 1) (unit : c.unit < length kept.lists) (newest : All (λ (x : Pair). x.0 ≤ tickets.last) tickets.entries)
      (above : tickets.last < c.ticket) (low : 1 ≤ c.request) (high : c.request ≤ kept.room) (alone : HasNone request_of c.request cells) (calm : marks c.stage ≡ 0) where
    abbrev cell : Cell
    cell = record { slot = slot; command = c }

    abbrev pub with_entry : Known
    with_entry = known (tickets.entries ++ (c.ticket, slot) ∷ []) c.ticket tickets.room

    abbrev pub with_slot : Listed Command
    with_slot = record kept { free = without slot kept.free; lists = with_last c.unit slot kept.lists; values = set kept.values slot c }

    abbrev pub with_cell : List Cell
    with_cell = cells ++ cell ∷ []

    within : slot < length kept.values
    within = let a = last_there slot kept.free last in let b = apart.within slot (omega (arith, a)) in omega (arith, b, long)

    other_slot : HasNone slot_of slot cells
    other_slot x is same = let a = in_lists x is in let b = ap (λ n. times_in n kept.lists) same in omega (arith, a, b, fresh)

    lower : (es : List Pair) → All (λ (x : Pair). x.0 ≤ tickets.last) es → (cs : List Cell) → es ≡ map entry_of cs → HasNone ticket_of c.ticket cs
    lower es below [] e x never same = absurd never
    lower es below (d ∷ cs) e x is same =
        let all : All (λ (y : Pair). y.0 ≤ tickets.last) (map entry_of (d ∷ cs)) = subst (All (λ (y : Pair). y.0 ≤ tickets.last)) e below in
        ⊎_elim
        (λ here. let a : ticket_of d ≤ tickets.last = all 0 (0, 0) (omega arith) in let b = ap ticket_of here in omega (arith, a, b, same, above))
        (λ later. lower (map entry_of cs) (λ k d l. all (suc k) d (omega (arith, l))) cs refl x later same)
        is

    other_ticket : HasNone ticket_of c.ticket cells
    other_ticket = lower tickets.entries newest cells are.entries

    pub entered_are : AreCells with_entry with_slot (set slots c.request slot) counts with_cell
    entered_are = record {
      entries = ap (λ es. es ++ (c.ticket, slot) ∷ []) are.entries ∙ sym (map-append entry_of cells (cell ∷ []));
      values = λ x is. ⊎_elim
          (λ old. get_or-set_other kept.values slot (x.slot) c BLANK (other_slot x old) ∙ are.values x old)
          (λ new. ap (λ (y : Cell). command_at with_slot.values y.slot) (sym new) ∙ get_or-set_same kept.values slot c BLANK within ∙ ap command_of new)
          (in_push x cell cells is);
      lists = λ u. ⊎_elim
          (λ same.
          ap (slots_at with_slot) (sym same)
          ∙ get_or-set_same kept.lists c.unit (slots_at kept c.unit ++ slot ∷ []) [] unit
          ∙ ap (λ xs. xs ++ slot ∷ []) (are.lists c.unit)
          ∙ ap (λ xs. slots_in c.unit cells ++ xs) (sym (slots_here c.unit cell refl))
          ∙ sym (slots_push c.unit cell cells)
          ∙ ap (λ n. slots_in n with_cell) same)
          (λ other.
          get_or-set_other kept.lists c.unit u (slots_at kept c.unit ++ slot ∷ []) [] (λ e. other (sym e))
          ∙ are.lists u
          ∙ sym (slots_push u cell cells ∙ ap (λ xs. slots_in u cells ++ xs) (slots_elsewhere u cell other) ∙ append_none (slots_in u cells)))
          (cases_eq c.unit u);
      by_ticket = apart_push ticket_of cell cells are.by_ticket other_ticket;
      by_slot = apart_push slot_of cell cells are.by_slot other_slot;
      by_request = apart_push request_of cell cells are.by_request alone;
      low = λ x is. ⊎_elim (λ old. are.low x old) (λ new. let a = ap request_of new in omega (arith, a, low)) (in_push x cell cells is);
      high = λ x is. ⊎_elim (λ old. are.high x old) (λ new. let a = ap request_of new in omega (arith, a, high)) (in_push x cell cells is);
      here = λ x is. ⊎_elim
          (λ old. get_or-set_other slots c.request (request_of x) slot 0 (alone x old) ∙ are.here x old)
          (λ new. ap (λ (y : Cell). get_or (set slots c.request slot) (request_of y) 0) (sym new) ∙ get_or-set_same slots c.request slot 0 inside ∙ ap slot_of new)
          (in_push x cell cells is);
      none = λ r no.
          get_or-set_other slots c.request r slot 0 (λ e. no cell (last_in cell cells) (sym e)) ∙ are.none r (λ x is. no x (push_in x cell cells is));
      marked = λ u. let a = are.marked u in let b = marked_push u cell cells in let d = no_mark u in omega (arith, a, b, d);
      counted = let a = length_push cells cell in let b = fewer_free kept apart slot last fresh in let d = are.counted in omega (arith, a, b, d);
      room = are.room;
      slots_long = let a = length-set slots c.request slot in let b = are.slots_long in omega (arith, a, b);
      marked_long = let a = length-set kept.lists c.unit (slots_at kept c.unit ++ slot ∷ []) in let b = are.marked_long in omega (arith, a, b);
    }
      where
        inside : c.request < length slots
        inside = let a = are.slots_long in omega (arith, a, high)

        append_none : (xs : List ℕ) → xs ++ [] ≡ xs
        append_none [] = refl
        append_none (x ∷ xs) = ap (λ ys. x ∷ ys) (append_none xs)

        no_mark : (u : ℕ) → mark_of u c ≡ 0
        no_mark u = ⊎_elim (λ same. mark_here u c same ∙ calm) (λ other. mark_elsewhere u c other) (cases_eq c.unit u)

  -- ---- a command changes

  module _ (apart : AreApart (linked_in kept)) (x : Cell) (is_in : IsIn x cells) (long : length kept.values ≡ kept.room + 1) (stage : Stage) (count : ℕ)
      (counted : count + marks x.command.stage ≡ get_or counts (x.command.unit) 0 + marks stage) where
    abbrev to_stage : Cell → Cell
    to_stage c = record { slot = c.slot; command = in_stage stage c.command }

    abbrev pub restage : Cell → Cell
    restage c = cond (c.slot == x.slot) (to_stage c) c

    abbrev pub with_stage : Listed Command
    with_stage = record kept { values = set kept.values (x.slot) (in_stage stage x.command) }

    restaged : (c : Cell) → slot_of c ≡ slot_of x → restage c ≡ to_stage c
    restaged c same = ap (λ b. cond b (to_stage c) c) (eq-eqb (c.slot) (x.slot) same)

    left_as : (c : Cell) → slot_of c ≢ slot_of x → restage c ≡ c
    left_as c other = ap (λ b. cond b (to_stage c) c) (ne_eqb (c.slot) (x.slot) other)

    stays : {X : Type 0} (f : Cell → X) → ((c : Cell) → f (to_stage c) ≡ f c) → (c : Cell) → f (restage c) ≡ f c
    stays f same c = ⊎_elim (λ e. ap f (restaged c e) ∙ same c) (λ e. ap f (left_as c e)) (cases_eq (slot_of c) (slot_of x))

    pub staged_shown : map command_of (map restage cells) ≡ (staged stage (ticket_of x) value).items
    staged_shown =
        let f : Command → Command = λ c. cond (has_ticket (ticket_of x) c) (in_stage stage c) c in
        map_mapped restage command_of cells
        ∙ map_same (λ c. command_of (restage c)) (λ c. f (command_of c)) cells
        (λ c is. inner c ∙ ap (λ b. cond b (in_stage stage c.command) c.command) (same_by slot_of ticket_of cells are.by_slot are.by_ticket x is_in c is))
        ∙ sym (map_mapped command_of f cells)
      where
        inner : (c : Cell) → command_of (restage c) ≡ cond (c.slot == x.slot) (in_stage stage c.command) c.command
        inner c = elim (c.slot == x.slot) as (λ b. command_of (cond b (to_stage c) c) ≡ cond b (in_stage stage c.command) c.command) [
          | true ↦ refl
          | false ↦ refl
        ]

    unit_inside : x.command.unit < length counts
    unit_inside = let a = unit_below x is_in in let b = are.marked_long in omega (arith, a, b)

    pub staged_are : AreCells tickets with_stage slots (set counts (x.command.unit) count) (map restage cells)
    staged_are = record {
      entries = are.entries ∙ sym (map_mapped restage entry_of cells ∙ map_same (λ c. entry_of (restage c)) entry_of cells (λ c is. stays entry_of (λ d. refl) c));
      values = λ y is. let m = in_map restage y cells is in written m.from m.there y m.made;
      lists = λ u. are.lists u ∙ sym (slots_map u restage cells (stays slot_of (λ d. refl)) (stays (λ (d : Cell). d.command.unit) (λ d. refl)));
      by_ticket = apart_map ticket_of restage cells (stays ticket_of (λ d. refl)) are.by_ticket;
      by_slot = apart_map slot_of restage cells (stays slot_of (λ d. refl)) are.by_slot;
      by_request = apart_map request_of restage cells (stays request_of (λ d. refl)) are.by_request;
      low = λ y is. let m = in_map restage y cells is in let a = ap request_of m.made in let b = stays request_of (λ d. refl) m.from in let e = are.low m.from m.there in omega (arith, a, b, e);
      high = λ y is. let m = in_map restage y cells is in let a = ap request_of m.made in let b = stays request_of (λ d. refl) m.from in let e = are.high m.from m.there in omega (arith, a, b, e);
      here = λ y is.
          let m = in_map restage y cells is in
          ap (λ n. get_or slots n 0) (sym (ap request_of m.made) ∙ stays request_of (λ d. refl) m.from) ∙ are.here m.from m.there
          ∙ sym (stays slot_of (λ d. refl) m.from) ∙ ap slot_of m.made;
      none = λ r no. are.none r (λ y is e. no (restage y) (map_in restage y cells is) (stays request_of (λ d. refl) y ∙ e));
      marked = λ u.
          let moved = marked_map u restage x cells is_in are.by_slot left_as in
          let now = ap (λ (d : Cell). mark_of u d.command) (restaged x refl) in
          let was = are.marked u in
          ⊎_elim
          (λ same.
          let read = ap (λ n. get_or (set counts (x.command.unit) count) n 0) (sym same) ∙ get_or-set_same counts (x.command.unit) count 0 unit_inside in
          let old = ap (λ n. get_or counts n 0) same in
          let a = mark_here u x.command same in
          let b = mark_here u (in_stage stage x.command) same in
          omega (arith, moved, now, was, read, old, a, b, counted))
          (λ other.
          let read = get_or-set_other counts (x.command.unit) u count 0 (λ e. other (sym e)) in
          let a = mark_elsewhere u x.command other in
          let b = mark_elsewhere u (in_stage stage x.command) other in
          omega (arith, moved, now, was, read, a, b))
          (cases_eq (x.command.unit) u);
      counted = let a = length-map cells restage in let b = are.counted in omega (arith, a, b);
      room = are.room;
      slots_long = are.slots_long;
      marked_long = let a = length-set counts (x.command.unit) count in let b = are.marked_long in omega (arith, a, b);
    }
      where
        written : (c : Cell) → IsIn c cells → (y : Cell) → restage c ≡ y → command_at with_stage.values (y.slot) ≡ y.command
        written c is y made = ⊎_elim
            (λ same.
            let one = same_cell slot_of cells are.by_slot c x is is_in same in
            ap (λ (d : Cell). command_at with_stage.values d.slot) (sym made ∙ restaged c same)
            ∙ ap (command_at with_stage.values) same
            ∙ get_or-set_same kept.values (x.slot) (in_stage stage x.command) BLANK (let a = slot_high apart x is_in in omega (arith, a, long))
            ∙ ap (λ (d : Cell). in_stage stage d.command) (sym one)
            ∙ ap command_of (sym (restaged c same) ∙ made))
            (λ other.
            ap (λ (d : Cell). command_at with_stage.values d.slot) (sym made ∙ left_as c other)
            ∙ get_or-set_other kept.values (x.slot) (c.slot) (in_stage stage x.command) BLANK other
            ∙ are.values c is
            ∙ ap command_of (sym (left_as c other) ∙ made))
            (cases_eq (slot_of c) (slot_of x))

  -- ---- a command goes

  module _ (x : Cell) (is_in : IsIn x cells) (count : ℕ) (counted : count + marks x.command.stage ≡ get_or counts (x.command.unit) 0) where
    abbrev keep : Cell → Bool
    keep c = not (c.slot == x.slot)

    abbrev pub without_entry : Known
    without_entry = known (without_ticket (ticket_of x) tickets.entries) tickets.last tickets.room

    abbrev pub without_slot : Listed Command
    without_slot = record kept { free = kept.free ++ x.slot ∷ []; lists = map (without (x.slot)) kept.lists }

    abbrev pub left : List Cell
    left = filter keep cells

    kept_by : (key : Cell → ℕ) → ((c : Cell) → IsIn c cells → (slot_of c == slot_of x) ≡ (key c == key x)) → filter (λ c. not (key c == key x)) cells ≡ left
    kept_by key same = sym (filter_same keep (λ c. not (key c == key x)) cells (λ c is. ap not (same c is)))

    pub forgotten_shown : map command_of left ≡ (forgotten (request_of x) value).items
    forgotten_shown =
        sym (filter_mapped command_of (λ (c : Command). not (is_of (request_of x) c)) cells
        ∙ ap (map command_of) (kept_by request_of (same_by slot_of request_of cells are.by_slot are.by_request x is_in)))

    other_one : (c : Cell) → IsIn c left → request_of c ≢ request_of x
    other_one c is same =
        let p = in_filter keep c cells is in
        let one = same_cell request_of cells are.by_request c x p.there is_in same in
        false≢true (sym (ap not (eq-eqb (c.slot) (x.slot) (ap slot_of one))) ∙ p.holds)

    pub forgotten_are : AreCells without_entry without_slot (set slots (request_of x) 0) (set counts (x.command.unit) count) left
    forgotten_are = record {
      entries =
          ap (without_ticket (ticket_of x)) are.entries
          ∙ filter_mapped entry_of (λ (e : Pair). not (e.0 == ticket_of x)) cells
          ∙ ap (map entry_of) (kept_by ticket_of (same_by slot_of ticket_of cells are.by_slot are.by_ticket x is_in));
      values = λ c is. are.values c (in_filter keep c cells is).there;
      lists = λ u. nth_map (x.slot) u kept.lists ∙ ap (without (x.slot)) (are.lists u) ∙ sym (slots_without u (x.slot) cells);
      by_ticket = apart_filter ticket_of keep cells are.by_ticket;
      by_slot = apart_filter slot_of keep cells are.by_slot;
      by_request = apart_filter request_of keep cells are.by_request;
      low = λ c is. are.low c (in_filter keep c cells is).there;
      high = λ c is. are.high c (in_filter keep c cells is).there;
      here = λ c is. get_or-set_other slots (request_of x) (request_of c) 0 0 (other_one c is) ∙ are.here c (in_filter keep c cells is).there;
      none = λ r no. ⊎_elim
          (λ same. ap (λ n. get_or (set slots (request_of x) 0) n 0) same ∙ get_or-set_same slots (request_of x) 0 0 (let a = are.high x is_in in let b = are.slots_long in omega (arith, a, b)))
          (λ other. get_or-set_other slots (request_of x) r 0 0 other ∙ are.none r (λ c is e. ⊎_elim
          (λ same. other (sym e ∙ ap request_of (same_cell slot_of cells are.by_slot c x is is_in same)))
          (λ apart. no c (filter_in keep c cells is (ap not (ne_eqb (c.slot) (x.slot) apart))) e)
          (cases_eq (slot_of c) (slot_of x))))
          (cases_eq r (request_of x));
      marked = λ u.
          let less = marked_without u x cells is_in are.by_slot in
          let was = are.marked u in
          ⊎_elim
          (λ same.
          let read = ap (λ n. get_or (set counts (x.command.unit) count) n 0) (sym same) ∙ get_or-set_same counts (x.command.unit) count 0 unit_at in
          let old = ap (λ n. get_or counts n 0) same in
          let a = mark_here u x.command same in
          omega (arith, less, was, read, old, a, counted))
          (λ other.
          let read = get_or-set_other counts (x.command.unit) u count 0 (λ e. other (sym e)) in
          let a = mark_elsewhere u x.command other in
          omega (arith, less, was, read, a))
          (cases_eq (x.command.unit) u);
      counted =
          let a = fewer_left x cells is_in are.by_slot in
          let b = length_push kept.free (x.slot) in
          let d = are.counted in omega (arith, a, b, d);
      room = are.room;
      slots_long = let a = length-set slots (request_of x) 0 in let b = are.slots_long in omega (arith, a, b);
      marked_long =
          let a = length-set counts (x.command.unit) count in
          let b = length-map kept.lists (without (x.slot)) in
          let d = are.marked_long in omega (arith, a, b, d);
    }
      where
        unit_at : x.command.unit < length counts
        unit_at = let a = unit_below x is_in in let b = are.marked_long in omega (arith, a, b)
