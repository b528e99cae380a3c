-- What holds of all commands, of none, and what callers ask.
use Rattle.std.proofs.Common.{◌≡◌, ◌≢◌, ◌⊎◌, ℕ, zero, suc, ◌<◌, ◌≤◌, ◌==◌, ◌&&◌, ◌||◌, nat_lt, nat_le, not, cond, Bool, true, false, List, [], ◌∷◌, ◌++◌, length, map, filter, find, get_or, All, Option, Some, None, option_map, refl, ap, sym, subst, ◌∙◌, arith, inl, inr, ⊎_elim, eq-eqb, ne_eqb, le-leb}
use Rattle.std.specs.List.{AllPairs, list_any}
use Rattle.std.proofs.lemmas.Bool.{cases_Bool, cases_eq, false≢true, leb-true, lt-ltb, ltb-true}
use Rattle.std.proofs.lemmas.List.{get_or-map, length-map}
use Rattle.iscsi_lists.specs.Lists.{Listed, first_of}
use Rattle.iscsi_tickets.specs.Tickets.{Known}
use Rattle.iscsi_ffi_commands.specs.declared.command.Command.{Command}
use Rattle.iscsi_ffi_commands.specs.declared.command.Stage.{Stage}
use Rattle.iscsi_ffi_commands.specs.Commands.{AreKnown, Commands, behind, find_ticket, forgotten, has_ticket, in_stage, is_clearing, is_of, may_enter, next_of, of_unit, ticket_of_first}
use Rattle.iscsi_ffi_commands.specs.Kept.{AreApartBy, AreCells, BLANK, Cell, HasNone, IsIn, command_at, command_of, entry_of, request_of, slot_of, slots_at, ticket_of}
use Rattle.iscsi_ffi_commands.proofs.CellLemmas.{filter_all, find_none, filter_in, filter_mapped, apart_filter, in_filter, map_same, no_more}
use Rattle.iscsi_ffi_commands.proofs.UnitLemmas.{IsAmong, among, first_told, told_marked}
use Rattle.iscsi_ffi_commands.proofs.StateLemmas.{IsFound, Pair, map_mapped, unit_below, value}

abbrev pub NO_CELL : Cell
NO_CELL = record { slot = 0; command = BLANK }

cell_in : (cells : List Cell) (i : ℕ) → i < length cells → IsIn (get_or cells i NO_CELL) cells
cell_in [] i l = absurd (omega (arith, l))
cell_in (c ∷ cells) zero l = inl refl
cell_in (c ∷ cells) (suc i) l = inr (cell_in cells i (omega (arith, l)))

apart_at : (key : Cell → ℕ) (cells : List Cell) → AreApartBy key cells → (i j : ℕ) → i < j → j < length cells → key (get_or cells i NO_CELL) ≢ key (get_or cells j NO_CELL)
apart_at key [] apart i j lt l = absurd (omega (arith, l))
apart_at key (c ∷ cells) apart i zero lt l = absurd (omega (arith, lt))
apart_at key (c ∷ cells) apart zero (suc j) lt l = λ same. apart.0 (get_or cells j NO_CELL) (cell_in cells j (omega (arith, l))) (sym same)
apart_at key (c ∷ cells) apart (suc i) (suc j) lt l = apart_at key cells apart.1 i j (omega (arith, lt)) (omega (arith, l))

-- ---- Booleans

and_left : (a b : Bool) → (a && b) ≡ true → a ≡ true
and_left true b is = refl
and_left false b is = absurd (false≢true is)

and_right : (a b : Bool) → (a && b) ≡ true → b ≡ true
and_right true b is = is
and_right false b is = absurd (false≢true is)

all_hold : (n u l h a : Bool) → n ≡ true → u ≡ true → l ≡ true → h ≡ true → (n && u && l && h && a) ≡ a
all_hold n u l h a first second third fourth =
    ap (λ b. b && u && l && h && a) first ∙ ap (λ b. true && b && l && h && a) second ∙ ap (λ b. true && true && b && h && a) third
    ∙ ap (λ b. true && true && true && b && a) fourth

-- a command that one list has, and the other one hasn't
any_none : (request : ℕ) (cells : List Cell) → list_any (is_of request) (map command_of cells) ≡ false → HasNone request_of request cells
any_none request [] none c impossible = absurd impossible
any_none request (x ∷ cells) none c is =
    elim (is_of request x.command) as (λ b. is_of request x.command ≡ b → (b || list_any (is_of request) (map command_of cells)) ≡ false → request_of c ≢ request) [
      | true ↦ λ _ e. absurd (false≢true (sym e))
      | false ↦ λ isnt e. ⊎_elim
          (λ here same. false≢true (sym isnt ∙ eq-eqb (request_of x) request (ap request_of here ∙ same)))
          (λ later. any_none request cells e c later)
          is
    ] refl none

none_any : (request : ℕ) (cells : List Cell) → HasNone request_of request cells → list_any (is_of request) (map command_of cells) ≡ false
none_any request [] none = refl
none_any request (x ∷ cells) none =
    ap (λ b. b || list_any (is_of request) (map command_of cells)) (ne_eqb (request_of x) request (none x (inl refl))) ∙ none_any request cells (λ c is. none c (inr is))

-- the command of a request, or none has it
pub record IsHeld (cells : List Cell) (request : ℕ) : Type 0 where
  pub cell : Cell
  pub there : IsIn cell cells
  pub is : request_of cell ≡ request

pub held_or_none : (request : ℕ) (cells : List Cell) → IsHeld cells request ⊎ HasNone request_of request cells
held_or_none request [] = inr (λ c impossible. absurd impossible)
held_or_none request (x ∷ cells) = ⊎_elim
    (λ same. inl (record { cell = x; there = inl refl; is = same }))
    (λ other. ⊎_elim
    (λ (h : IsHeld cells request). inl (record { cell = h.cell; there = inr h.there; is = h.is }))
    (λ none. inr (λ c is. ⊎_elim (λ here same. other (ap request_of here ∙ same)) (λ later. none c later) is))
    (held_or_none request cells))
    (cases_eq (request_of x) request)

-- a ticket that no command has
pub staged_none : (stage : Stage) (ticket : ℕ) (cells : List Cell) → find (λ (c : Cell). ticket_of c == ticket) cells ≡ None
    → map (λ (c : Command). cond (has_ticket ticket c) (in_stage stage c) c) (map command_of cells) ≡ map command_of cells
staged_none stage ticket cells none =
    let f : Command → Command = λ c. cond (has_ticket ticket c) (in_stage stage c) c in
    map_mapped command_of f cells
    ∙ map_same (λ c. f (command_of c)) command_of cells
    (λ c is. ap (λ b. cond b (in_stage stage c.command) c.command) (find_none (λ (x : Cell). ticket_of x == ticket) cells none c is))

-- ---- what holds of all

module _ (tickets : Known) (kept : Listed Command) (slots counts : List ℕ) (cells : List Cell) (are : AreCells tickets kept slots counts cells) where
  abbrev all : Commands
  all = value tickets kept slots counts cells are

  long : length (map command_of cells) ≡ length cells
  long = length-map cells command_of

  read_at : (i : ℕ) (d : Command) → i < length (map command_of cells) → get_or (map command_of cells) i d ≡ (get_or cells i NO_CELL).command
  read_at i d l = get_or-map command_of cells i NO_CELL d (let a = long in omega (arith, l, a))

  at_in : (i : ℕ) → i < length (map command_of cells) → IsIn (get_or cells i NO_CELL) cells
  at_in i l = cell_in cells i (let a = long in omega (arith, l, a))

  entry_at : (i : ℕ) → i < length (map command_of cells) → get_or (map entry_of cells) i (0, 0) ≡ entry_of (get_or cells i NO_CELL)
  entry_at i l = get_or-map entry_of cells i NO_CELL (0, 0) (let a = long in omega (arith, l, a))

  entries_long : length (map entry_of cells) ≡ length cells
  entries_long = length-map cells entry_of

  pub are_known : AllPairs (λ (a b : Pair). a.0 < b.0) tickets.entries → All (λ (e : Pair). e.0 ≤ tickets.last) tickets.entries → AreKnown all
  are_known up newest = record {
    ascending = λ i j d lt l.
        let u : (get_or (map entry_of cells) i (0, 0)).0 < (get_or (map entry_of cells) j (0, 0)).0 =
        subst (AllPairs (λ (a b : Pair). a.0 < b.0)) are.entries up i j (0, 0) lt (let a = long in let b = entries_long in omega (arith, l, a, b)) in
        let a = ap (λ (c : Command). c.ticket) (read_at i d (omega (arith, lt, l))) in
        let b = ap (λ (c : Command). c.ticket) (read_at j d l) in
        let p = ap (λ (e : Pair). e.0) (entry_at i (omega (arith, lt, l))) in
        let q = ap (λ (e : Pair). e.0) (entry_at j l) in
        omega (arith, u, a, b, p, q);
    newest = λ i d l.
        let u : (get_or (map entry_of cells) i (0, 0)).0 ≤ tickets.last =
        subst (All (λ (e : Pair). e.0 ≤ tickets.last)) are.entries newest i (0, 0) (let a = long in let b = entries_long in omega (arith, l, a, b)) in
        let a = ap (λ (c : Command). c.ticket) (read_at i d l) in
        let p = ap (λ (e : Pair). e.0) (entry_at i l) in
        omega (arith, u, a, p);
    apart = λ i j d lt l same.
        apart_at request_of cells are.by_request i j lt (let a = long in omega (arith, l, a))
        (sym (ap (λ (c : Command). c.request) (read_at i d (omega (arith, lt, l)))) ∙ same ∙ ap (λ (c : Command). c.request) (read_at j d l));
    low = λ i d l. let a = ap (λ (c : Command). c.request) (read_at i d l) in let b = are.low (get_or cells i NO_CELL) (at_in i l) in omega (arith, a, b);
    high = λ i d l. let a = ap (λ (c : Command). c.request) (read_at i d l) in let b = are.high (get_or cells i NO_CELL) (at_in i l) in omega (arith, a, b);
    below = λ i d l.
        let a = ap (λ (c : Command). c.unit) (read_at i d l) in
        let b = unit_below tickets kept slots counts cells are (get_or cells i NO_CELL) (at_in i l) in omega (arith, a, b);
    few = let a = long in let b = no_more request_of kept.room cells are.by_request are.low are.high in omega (arith, a, b);
  }

  -- ---- may one enter

  pub alone_none : (request : ℕ) → not (list_any (is_of request) (map command_of cells)) ≡ true → HasNone request_of request cells
  alone_none request is = any_none request cells (flipped (list_any (is_of request) (map command_of cells)) is)
    where
      flipped : (b : Bool) → not b ≡ true → b ≡ false
      flipped true e = absurd (false≢true e)
      flipped false e = refl

  -- where a request has no slot noted, it has no command
  pub slot_none : ((x : Cell) → IsIn x cells → 1 ≤ x.slot) → (request : ℕ) → get_or slots request 0 ≡ 0 → HasNone request_of request cells
  slot_none low request none c is same =
      let a = are.here c is in let b = ap (λ n. get_or slots n 0) same in let d = low c is in omega (arith, a, b, d, none)

  -- and where it has one, it is that of its command
  pub slot_held : (request : ℕ) → get_or slots request 0 ≢ 0 → IsHeld cells request
  slot_held request some = ⊎_elim (λ held. held) (λ none. absurd (some (are.none request none))) (held_or_none request cells)

  -- as it is read
  pub record IsHeldIn (request slot : ℕ) : Type 0 where
    pub cell : Cell
    pub there : IsIn cell cells
    pub is : request_of cell ≡ request
    pub slot_is : cell.slot ≡ slot

  pub held_slot : (request slot : ℕ) → slot ≡ get_or slots request 0 → slot ≢ 0 → IsHeldIn request slot
  held_slot request slot read some =
      let h = slot_held request (λ none. some (read ∙ none)) in
      record { cell = h.cell; there = h.there; is = h.is; slot_is = sym (are.here h.cell h.there) ∙ ap (λ n. get_or slots n 0) h.is ∙ sym read }

  pub told_alone : ((x : Cell) → IsIn x cells → 1 ≤ x.slot) → (request : ℕ) → (get_or slots request 0 == 0) ≡ not (list_any (is_of request) (map command_of cells))
  told_alone low request = ⊎_elim
      (λ none. eq-eqb (get_or slots request 0) 0 none ∙ sym (ap not (none_any request cells (slot_none low request none))))
      (λ some.
      let h = slot_held request some in
      ne_eqb (get_or slots request 0) 0 some ∙ sym (ap not (⊎_elim
      (λ any. any)
      (λ no. absurd (any_none request cells no h.cell h.there h.is))
      (cases_Bool (list_any (is_of request) (map command_of cells))))))
      (cases_eq (get_or slots request 0) 0)

  -- one more has room: its request is none of theirs
  pub has_room : (request : ℕ) → 1 ≤ request → request ≤ kept.room → HasNone request_of request cells → length cells < kept.room
  has_room request low high none =
      let one : Cell = record { slot = 0; command = record { ticket = 0; request = request; unit = 0; attr = BLANK.attr; stage = BLANK.stage } } in
      let more = no_more request_of kept.room (one ∷ cells) ((λ c is. none c is), are.by_request)
      (λ c is. ⊎_elim (λ here. let a = ap request_of here in omega (arith, a, low)) (λ later. are.low c later) is)
      (λ c is. ⊎_elim (λ here. let a = ap request_of here in omega (arith, a, high)) (λ later. are.high c later) is) in
      omega (arith, more)

  -- ---- a request that has none is forgotten, and a ticket that has none is staged: nothing changes

  pub forgotten_none : (request : ℕ) → HasNone request_of request cells → (forgotten request all).items ≡ all.items
  forgotten_none request none =
      filter_mapped command_of (λ (c : Command). not (is_of request c)) cells
      ∙ ap (map command_of) (filter_all (λ (c : Cell). not (is_of request c.command)) cells (λ c is. ap not (ne_eqb (request_of c) request (none c is))))

  -- ---- a walk over the commands of a unit

  abbrev pub theirs : ℕ → List Cell
  theirs unit = filter (λ (c : Cell). c.command.unit == unit) cells

  theirs_at : (unit : ℕ) (c : Cell) → IsIn c (theirs unit) → command_at kept.values (c.slot) ≡ c.command
  theirs_at unit c is = are.values c (in_filter (λ (x : Cell). x.command.unit == unit) c cells is).there

  pub unit_shown : (unit : ℕ) → of_unit unit all ≡ map command_of (theirs unit)
  unit_shown unit = filter_mapped command_of (λ (c : Command). c.unit == unit) cells

  pub first_shown : (unit : ℕ) → option_map (λ s. (command_at kept.values s).ticket) (first_of (slots_at kept unit)) ≡ ticket_of_first (of_unit unit all)
  first_shown unit =
      ap (λ xs. option_map (λ s. (command_at kept.values s).ticket) (first_of xs)) (are.lists unit)
      ∙ first_told kept.values (theirs unit) (theirs_at unit)
      ∙ ap ticket_of_first (sym (unit_shown unit))

  pub clearing_shown : (unit : ℕ) → is_clearing unit all ≡ nat_lt 0 (get_or counts unit 0)
  clearing_shown unit = told_marked unit cells ∙ ap (nat_lt 0) (sym (are.marked unit))

  pub walk : (x : Cell) → IsIn x cells → IsAmong x (theirs (x.command.unit))
  walk x is = among x (theirs (x.command.unit))
      (filter_in (λ (c : Cell). c.command.unit == x.command.unit) x cells is (eq-eqb (x.command.unit) (x.command.unit) refl))
      (apart_filter ticket_of (λ (c : Cell). c.command.unit == x.command.unit) cells are.by_ticket)

  pub walk_parts : (x : Cell) (is : IsIn x cells) → slots_at kept (x.command.unit) ≡ map slot_of (walk x is).before ++ x.slot ∷ map slot_of (walk x is).after
  walk_parts x is = are.lists (x.command.unit) ∙ (walk x is).parts

  pub next_shown : (x : Cell) (is : IsIn x cells) → option_map (λ s. (command_at kept.values s).ticket) (first_of (map slot_of (walk x is).after))
      ≡ ticket_of_first (behind (ticket_of x) (of_unit (x.command.unit) all))
  next_shown x is =
      first_told kept.values (walk x is).after (λ c there. theirs_at (x.command.unit) c ((walk x is).later c there))
      ∙ ap ticket_of_first (sym (ap (behind (ticket_of x)) (unit_shown (x.command.unit)) ∙ (walk x is).rest))

  pub next_told : (ticket slot : ℕ) (f : IsFound cells ticket slot) (r : Option ℕ) → r ≡ first_of (map slot_of (walk f.cell f.there).after)
      → option_map (λ s. (command_at kept.values s).ticket) r ≡ next_of ticket all
  next_told ticket slot f r is =
      ap (option_map (λ s. (command_at kept.values s).ticket)) is
      ∙ next_shown f.cell f.there
      ∙ ap (λ n. ticket_of_first (behind n (of_unit (f.cell.command.unit) all))) f.ticket_is
      ∙ ap (λ r. elim r [ Some c ↦ ticket_of_first (behind ticket (of_unit (c.unit) all)) | None ↦ None ]) (sym f.found)

  pub next_none : (ticket : ℕ) → find_ticket ticket all ≡ None → next_of ticket all ≡ None
  next_none ticket none = ap (λ r. elim r [ Some c ↦ ticket_of_first (behind ticket (of_unit (c.unit) all)) | None ↦ None ]) none

  pub next_parts : (ticket slot : ℕ) (f : IsFound cells ticket slot)
      → slots_at kept (f.cell.command.unit) ≡ map slot_of (walk f.cell f.there).before ++ slot ∷ map slot_of (walk f.cell f.there).after
  next_parts ticket slot f =
      walk_parts f.cell f.there ∙ ap (λ s. map slot_of (walk f.cell f.there).before ++ s ∷ map slot_of (walk f.cell f.there).after) f.slot_is

  -- ---- a command enters

  pub record IsEntering (c : Command) : Type 0 where
    pub newest : tickets.last < c.ticket
    pub unit : c.unit < length kept.lists
    pub low : 1 ≤ c.request
    pub high : c.request ≤ kept.room
    pub alone : HasNone request_of c.request cells

  pub may_parts : (c : Command) → may_enter c all ≡ true → IsEntering c
  may_parts c may =
      let n : Bool = nat_lt tickets.last c.ticket in
      let u : Bool = nat_lt c.unit (length kept.lists) in
      let l : Bool = nat_le 1 c.request in
      let h : Bool = nat_le c.request kept.room in
      let a : Bool = not (list_any (is_of c.request) (map command_of cells)) in
      let four = and_left (n && u && l && h) a may in
      let three = and_left (n && u && l) h four in
      let two = and_left (n && u) l three in
      record {
        newest = ltb-true tickets.last c.ticket (and_left n u two);
        unit = ltb-true c.unit (length kept.lists) (and_right n u two);
        low = leb-true 1 c.request (and_right (n && u) l three);
        high = leb-true c.request kept.room (and_right (n && u && l) h four);
        alone = alone_none c.request (and_right (n && u && l && h) a may);
      }

  pub may_told : (c : Command) → tickets.last < c.ticket → c.unit < length kept.lists → 1 ≤ c.request → c.request ≤ kept.room → may_enter c all ≡ not (list_any (is_of c.request) (map command_of cells))
  may_told c newest unit low high =
      all_hold (nat_lt tickets.last c.ticket) (nat_lt c.unit (length kept.lists)) (nat_le 1 c.request) (nat_le c.request kept.room) (not (list_any (is_of c.request) (map command_of cells)))
      (lt-ltb tickets.last c.ticket newest) (lt-ltb c.unit (length kept.lists) unit) (le-leb 1 c.request low) (le-leb c.request kept.room high)
