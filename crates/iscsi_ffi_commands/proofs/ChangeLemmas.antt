-- All commands, as the calls change them.
use Rattle.std.proofs.Common.{◌≡◌, ℕ, zero, suc, ◌+◌, ◌<◌, ◌≤◌, ◌==◌, not, List, [], ◌∷◌, ◌++◌, length, map, filter, get_or, set, replicate, All, Some, None, refl, ap, sym, ◌∙◌, arith}
use Rattle.std.proofs.lemmas.List.{get_or_default, length-map, length-replicate, length-set, map-append}
use Rattle.iscsi_lists.specs.Lists.{AreApart, Listed, counted, last_of, linked_in, listed, times_in, with_last, without}
use Rattle.iscsi_lists.proofs.PlaceLemmas.{counted_long, replicate_long}
use Rattle.iscsi_tickets.specs.Tickets.{Known, known, value_of, without_ticket}
use Rattle.iscsi_ffi_commands.specs.declared.command.Command.{Command}
use Rattle.iscsi_ffi_commands.specs.declared.command.Stage.{Stage}
use Rattle.iscsi_ffi_commands.specs.Commands.{Commands, entered, forgotten, in_stage, staged}
use Rattle.iscsi_ffi_commands.specs.Kept.{AreCells, AreKept, BLANK, Cell, HasNone, IsIn, command_of, commands_of, marks, request_of, slots_at, ticket_of}
use Rattle.iscsi_ffi_commands.proofs.UnitLemmas.{mark_here, marked_few, marked_some}
use Rattle.iscsi_ffi_commands.proofs.StateLemmas.{Pair, entered_are, forgotten_are, forgotten_shown, none_found, restage, shown, staged_are, staged_shown, unit_below, value}
use Rattle.iscsi_ffi_commands.proofs.KnownLemmas.{IsEntering, forgotten_none, has_room, staged_none}

module _ (tickets : Known) (kept : Listed Command) (slots counts : List ℕ) (cells : List Cell) (are : AreCells tickets kept slots counts cells) where
  abbrev shown_now : Commands
  shown_now = value tickets kept slots counts cells are

  -- ---- a command enters

  module _ (apart : AreApart (linked_in kept)) (c : Command) (e : IsEntering tickets kept slots counts cells are c) where
    pub free_slot : 1 ≤ length kept.free
    free_slot = let a = has_room tickets kept slots counts cells are c.request e.low e.high e.alone in let b = are.counted in omega (arith, a, b)

    module _ (slot : ℕ) (fresh : times_in slot kept.lists ≡ 0) (last : last_of kept.free ≡ Some slot) (long : length kept.values ≡ kept.room + 1)
        (newest : All (λ (x : Pair). x.0 ≤ tickets.last) tickets.entries) (calm : marks c.stage ≡ 0) where
      abbrev pub then_tickets : Known
      then_tickets = known (tickets.entries ++ (c.ticket, slot) ∷ []) c.ticket tickets.room

      abbrev pub then_kept : Listed Command
      then_kept = record kept { free = without slot kept.free; lists = with_last c.unit slot kept.lists; values = set kept.values slot c }

      abbrev then_cells : List Cell
      then_cells = cells ++ (record { slot = slot; command = c }) ∷ []

      then_are : AreCells then_tickets then_kept (set slots c.request slot) counts then_cells
      then_are = entered_are tickets kept slots counts cells are apart c slot fresh last long e.unit newest e.newest e.low e.high e.alone calm

      pub enters_kept : AreKept then_tickets then_kept (set slots c.request slot) counts
      enters_kept = record { cells = then_cells; are = then_are }

      pub enters_shown : commands_of then_tickets then_kept ≡ entered c shown_now
      enters_shown =
          shown then_tickets then_kept (set slots c.request slot) counts then_cells then_are
          ∙ ap (λ xs. record { items = xs; last = c.ticket; room = kept.room; units = length then_kept.lists }) (map-append command_of cells ((record { slot = slot; command = c }) ∷ []))
          ∙ ap (λ n. record { items = map command_of cells ++ c ∷ []; last = c.ticket; room = kept.room; units = n }) (length-set kept.lists c.unit (slots_at kept c.unit ++ slot ∷ []))

  -- ---- a command that was read in its slot, and the count of its unit

  module _ (x : Cell) (is_in : IsIn x cells) (got : Command) (same : got ≡ x.command) (unit : ℕ) (of_it : unit ≡ got.unit) where
    unit_is : unit ≡ x.command.unit
    unit_is = of_it ∙ ap (λ (c : Command). c.unit) same

    pub unit_in : unit < length counts
    unit_in = let a = unit_below tickets kept slots counts cells are x is_in in let b = are.marked_long in let d = unit_is in omega (arith, a, b, d)

    module _ (n : ℕ) (read : n ≡ get_or counts unit n) where
      count_is : n ≡ get_or counts (x.command.unit) 0
      count_is = read ∙ get_or_default counts unit n 0 unit_in ∙ ap (λ u. get_or counts u 0) unit_is

      stage_is : marks got.stage ≡ marks x.command.stage
      stage_is = ap (λ (c : Command). marks c.stage) same

      pub count_some : marks got.stage ≤ n
      count_some =
          let a = marked_some (x.command.unit) x cells is_in in
          let b = mark_here (x.command.unit) x.command refl in
          let d = are.marked (x.command.unit) in
          let e = count_is in let f = stage_is in omega (arith, a, b, d, e, f)

      pub count_short : kept.room + length kept.lists + 2 ≤ 4294967295 → n < 4294967295
      count_short short =
          let a = marked_few (x.command.unit) cells in
          let b = are.counted in
          let d = are.marked (x.command.unit) in
          let e = count_is in omega (arith, a, b, d, e, short)

      pub counted_as : (count after : ℕ) → count + marks got.stage ≡ n + after → count + marks x.command.stage ≡ get_or counts (x.command.unit) 0 + after
      counted_as count after is = let e = count_is in let f = stage_is in omega (arith, is, e, f)

      pub counts_as : (count : ℕ) → set counts unit count ≡ set counts (x.command.unit) count
      counts_as count = ap (λ u. set counts u count) unit_is

  -- ---- a command changes

  pub staged_same : (stage : Stage) (ticket : ℕ) → value_of ticket tickets.entries ≡ None → staged stage ticket shown_now ≡ shown_now
  staged_same stage ticket none =
      ap (λ xs. record { items = xs; last = tickets.last; room = kept.room; units = length kept.lists })
      (staged_none stage ticket cells (none_found cells ticket (ap (value_of ticket) (sym are.entries) ∙ none)))

  module _ (apart : AreApart (linked_in kept)) (x : Cell) (is_in : IsIn x cells) (long : length kept.values ≡ kept.room + 1) (stage : Stage) (count : ℕ)
      (counted : count + marks x.command.stage ≡ get_or counts (x.command.unit) 0 + marks stage) where
    abbrev pub staged_in : Listed Command
    staged_in = record kept { values = set kept.values (x.slot) (in_stage stage x.command) }

    abbrev staged_cells : List Cell
    staged_cells = map (restage tickets kept slots counts cells are apart x is_in long stage count counted) cells

    staged_now : AreCells tickets staged_in slots (set counts (x.command.unit) count) staged_cells
    staged_now = staged_are tickets kept slots counts cells are apart x is_in long stage count counted

    pub stages_kept : AreKept tickets staged_in slots (set counts (x.command.unit) count)
    stages_kept = record { cells = staged_cells; are = staged_now }

    pub stages_shown : commands_of tickets staged_in ≡ staged stage (ticket_of x) shown_now
    stages_shown =
        shown tickets staged_in slots (set counts (x.command.unit) count) staged_cells staged_now
        ∙ ap (λ xs. record { items = xs; last = tickets.last; room = kept.room; units = length kept.lists })
        (staged_shown tickets kept slots counts cells are apart x is_in long stage count counted)

  -- ---- a command goes

  pub forgotten_same : (request : ℕ) → HasNone request_of request cells → forgotten request shown_now ≡ shown_now
  forgotten_same request none = ap (λ xs. record { items = xs; last = tickets.last; room = kept.room; units = length kept.lists }) (forgotten_none tickets kept slots counts cells are request none)

  module _ (x : Cell) (is_in : IsIn x cells) (count : ℕ) (counted : count + marks x.command.stage ≡ get_or counts (x.command.unit) 0) where
    abbrev pub left_tickets : Known
    left_tickets = known (without_ticket (ticket_of x) tickets.entries) tickets.last tickets.room

    abbrev pub left_kept : Listed Command
    left_kept = record kept { free = kept.free ++ x.slot ∷ []; lists = map (without (x.slot)) kept.lists }

    abbrev left_cells : List Cell
    left_cells = filter (λ (c : Cell). not (c.slot == x.slot)) cells

    left_are : AreCells left_tickets left_kept (set slots (request_of x) 0) (set counts (x.command.unit) count) left_cells
    left_are = forgotten_are tickets kept slots counts cells are x is_in count counted

    pub forgets_kept : AreKept left_tickets left_kept (set slots (request_of x) 0) (set counts (x.command.unit) count)
    forgets_kept = record { cells = left_cells; are = left_are }

    pub forgets_shown : commands_of left_tickets left_kept ≡ forgotten (request_of x) shown_now
    forgets_shown =
        shown left_tickets left_kept (set slots (request_of x) 0) (set counts (x.command.unit) count) left_cells left_are
        ∙ ap (λ xs. record { items = xs; last = tickets.last; room = kept.room; units = length left_kept.lists })
        (forgotten_shown tickets kept slots counts cells are x is_in count counted)
        ∙ ap (λ n. record { items = (forgotten (request_of x) shown_now).items; last = tickets.last; room = kept.room; units = n }) (length-map kept.lists (without (x.slot)))

-- ---- none yet

none_at : (n k : ℕ) → get_or (replicate {A = List ℕ} n []) k [] ≡ []
none_at zero zero = refl
none_at zero (suc k) = refl
none_at (suc n) zero = refl
none_at (suc n) (suc k) = none_at n k

zero_at : (n k : ℕ) → get_or (replicate {A = ℕ} n 0) k 0 ≡ 0
zero_at zero zero = refl
zero_at zero (suc k) = refl
zero_at (suc n) zero = refl
zero_at (suc n) (suc k) = zero_at n k

pub opened_are : (room units : ℕ) → AreCells (known [] 0 room) (listed (counted 1 room) (replicate units []) room (replicate (room + 1) BLANK)) (replicate (room + 1) 0) (replicate units 0) []
opened_are room units = record {
  entries = refl;
  values = λ c impossible. absurd impossible;
  lists = λ unit. none_at units unit;
  by_ticket = tt;
  by_slot = tt;
  by_request = tt;
  low = λ c impossible. absurd impossible;
  high = λ c impossible. absurd impossible;
  here = λ c impossible. absurd impossible;
  none = λ request _. zero_at (room + 1) request;
  marked = λ unit. zero_at units unit;
  counted = let a = counted_long 1 room in omega (arith, a);
  room = refl;
  slots_long = length-replicate {A = ℕ} (room + 1) 0;
  marked_long = let a = length-replicate {A = ℕ} units 0 in let b = replicate_long units in omega (arith, a, b);
}
