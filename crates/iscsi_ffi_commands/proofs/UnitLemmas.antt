-- The commands of a unit: their slots, and how many of them are marked.
use Rattle.std.proofs.Common.{◌≡◌, ◌≢◌, ℕ, zero, suc, ◌+◌, ◌<◌, ◌≤◌, ◌==◌, ◌&&◌, ◌||◌, nat_lt, not, cond, Bool, true, false, List, [], ◌∷◌, ◌++◌, length, map, filter, get_or, Some, option_map, refl, ap, sym, ◌∙◌, arith, inl, inr, ⊎_elim, eq-eqb, ne_eqb}
use Rattle.std.specs.List.{list_any}
use Rattle.std.proofs.lemmas.Bool.{cases_eq, lt-ltb}
use Rattle.iscsi_slots.specs.Slots.{times}
use Rattle.iscsi_lists.specs.Lists.{first_of, without}
use Rattle.iscsi_lists.proofs.WithoutLemmas.{times_same, without_same, without_other}
use Rattle.iscsi_ffi_commands.specs.declared.command.Command.{Command}
use Rattle.iscsi_ffi_commands.specs.declared.command.Stage.{Stage}
use Rattle.iscsi_ffi_commands.specs.declared.command.Stage.TheVariants.{Entered, Marked, Started, Cleared, Over}
use Rattle.iscsi_ffi_commands.specs.Commands.{behind, is_marked, ticket_of_first}
use Rattle.iscsi_ffi_commands.proofs.CellLemmas.{filter_all}
use Rattle.iscsi_ffi_commands.specs.Kept.{AreApartBy, Cell, HasNone, IsIn, command_at, command_of, mark_of, marked_in, marks, slot_of, slots_in, ticket_of}

abbrev pub of_it : ℕ → Cell → Bool
of_it unit c = c.command.unit == unit

-- ---- their slots

pub slots_push : (unit : ℕ) (d : Cell) (cells : List Cell) → slots_in unit (cells ++ d ∷ []) ≡ slots_in unit cells ++ slots_in unit (d ∷ [])
slots_push unit d [] = refl
slots_push unit d (c ∷ cells) =
    let rest = slots_push unit d cells in
    elim (of_it unit c) as (λ b. map slot_of (cond b (c ∷ filter (of_it unit) (cells ++ d ∷ [])) (filter (of_it unit) (cells ++ d ∷ []))) ≡ map slot_of (cond b (c ∷ filter (of_it unit) cells) (filter (of_it unit) cells)) ++ slots_in unit (d ∷ [])) [
      | true ↦ ap (λ xs. c.slot ∷ xs) rest
      | false ↦ rest
    ]

pub slots_here : (unit : ℕ) (d : Cell) → d.command.unit ≡ unit → slots_in unit (d ∷ []) ≡ d.slot ∷ []
slots_here unit d is = ap (λ b. map slot_of (cond b (d ∷ []) [])) (eq-eqb (d.command.unit) unit is)

pub slots_elsewhere : (unit : ℕ) (d : Cell) → d.command.unit ≢ unit → slots_in unit (d ∷ []) ≡ []
slots_elsewhere unit d isnt = ap (λ b. map slot_of (cond b (d ∷ []) [])) (ne_eqb (d.command.unit) unit isnt)

pub slots_map : (unit : ℕ) (f : Cell → Cell) (cells : List Cell) → ((c : Cell) → slot_of (f c) ≡ slot_of c) → ((c : Cell) → (f c).command.unit ≡ c.command.unit)
    → slots_in unit (map f cells) ≡ slots_in unit cells
slots_map unit f [] slot same = refl
slots_map unit f (c ∷ cells) slot same =
    let rest = slots_map unit f cells slot same in
    ap (λ n. map slot_of (cond (n == unit) (f c ∷ filter (of_it unit) (map f cells)) (filter (of_it unit) (map f cells)))) (same c)
    ∙ elim (of_it unit c) as (λ b. map slot_of (cond b (f c ∷ filter (of_it unit) (map f cells)) (filter (of_it unit) (map f cells))) ≡ map slot_of (cond b (c ∷ filter (of_it unit) cells) (filter (of_it unit) cells))) [
      | true ↦ ap (λ n. n ∷ slots_in unit (map f cells)) (slot c) ∙ ap (λ xs. c.slot ∷ xs) rest
      | false ↦ rest
    ]

pub slots_without : (unit slot : ℕ) (cells : List Cell) → slots_in unit (filter (λ (c : Cell). not (c.slot == slot)) cells) ≡ without slot (slots_in unit cells)
slots_without unit slot [] = refl
slots_without unit slot (c ∷ cells) =
    let left : List Cell = filter (λ (d : Cell). not (d.slot == slot)) cells in
    let rest = slots_without unit slot cells in
    ⊎_elim
    (λ same.
    ap (λ b. slots_in unit (cond (not b) (c ∷ left) left)) (eq-eqb (c.slot) slot same) ∙ rest
    ∙ elim (of_it unit c) as (λ b. without slot (slots_in unit cells) ≡ without slot (map slot_of (cond b (c ∷ filter (of_it unit) cells) (filter (of_it unit) cells)))) [
      | true ↦ sym (without_same slot (c.slot) (slots_in unit cells) same)
      | false ↦ refl
    ])
    (λ other.
    ap (λ b. slots_in unit (cond (not b) (c ∷ left) left)) (ne_eqb (c.slot) slot other)
    ∙ elim (of_it unit c) as (λ b. map slot_of (cond b (c ∷ filter (of_it unit) left) (filter (of_it unit) left)) ≡ without slot (map slot_of (cond b (c ∷ filter (of_it unit) cells) (filter (of_it unit) cells)))) [
      | true ↦ ap (λ xs. c.slot ∷ xs) rest ∙ sym (without_other slot (c.slot) (slots_in unit cells) other)
      | false ↦ rest
    ])
    (cases_eq (c.slot) slot)

pub slot_times : (x : Cell) (cells : List Cell) → IsIn x cells → 1 ≤ times (x.slot) (slots_in (x.command.unit) cells)
slot_times x [] never = absurd never
slot_times x (c ∷ cells) is =
    let unit = x.command.unit in
    ⊎_elim
    (λ same.
    let read = ap (λ b. times (x.slot) (map slot_of (cond b (c ∷ filter (of_it unit) cells) (filter (of_it unit) cells)))) (eq-eqb (c.command.unit) unit (ap (λ (d : Cell). d.command.unit) same)) in
    let a = times_same (x.slot) (c.slot) (slots_in unit cells) (ap slot_of same) in
    omega (arith, read, a))
    (λ later.
    let rest = slot_times x cells later in
    elim (of_it unit c) as (λ b. 1 ≤ times (x.slot) (map slot_of (cond b (c ∷ filter (of_it unit) cells) (filter (of_it unit) cells)))) [
      | true ↦ omega (arith, rest)
      | false ↦ rest
    ])
    is

pub list_inside : (k s : ℕ) (lists : List (List ℕ)) → 1 ≤ times s (get_or lists k []) → k < length lists
list_inside zero s [] some = absurd (omega (arith, some))
list_inside (suc k) s [] some = absurd (omega (arith, some))
list_inside zero s (xs ∷ lists) some = omega arith
list_inside (suc k) s (xs ∷ lists) some = let rest = list_inside k s lists some in omega (arith, rest)

-- ---- a walk over them

-- the ticket in a slot
abbrev pub ticket_in : List Command → ℕ → ℕ
ticket_in values slot = (command_at values slot).ticket

pub first_told : (values : List Command) (cells : List Cell) → ((c : Cell) → IsIn c cells → command_at values (c.slot) ≡ c.command)
    → option_map (ticket_in values) (first_of (map slot_of cells)) ≡ ticket_of_first (map command_of cells)
first_told values [] at = refl
first_told values (c ∷ cells) at = ap (λ (x : Command). Some x.ticket) (at c (inl refl))

-- a command among others, and those behind it
pub record IsAmong (x : Cell) (cells : List Cell) : Type 0 where
  pub before : List Cell
  pub after : List Cell
  pub parts : map slot_of cells ≡ map slot_of before ++ x.slot ∷ map slot_of after
  pub rest : behind (ticket_of x) (map command_of cells) ≡ map command_of after
  pub later : (c : Cell) → IsIn c after → IsIn c cells

pub among : (x : Cell) (cells : List Cell) → IsIn x cells → AreApartBy ticket_of cells → IsAmong x cells
among x [] never apart = absurd never
among x (c ∷ cells) is apart = ⊎_elim
    (λ same. record {
      before = [];
      after = cells;
      parts = ap (λ (d : Cell). d.slot ∷ map slot_of cells) same;
      rest = ap (λ b. cond b (map command_of cells) (behind (ticket_of x) (map command_of cells))) (eq-eqb (ticket_of c) (ticket_of x) (ap ticket_of same));
      later = λ d there. inr there;
    })
    (λ later.
    let a = among x cells later apart.1 in
    record {
      before = c ∷ a.before;
      after = a.after;
      parts = ap (λ xs. c.slot ∷ xs) a.parts;
      rest = ap (λ b. cond b (map command_of cells) (behind (ticket_of x) (map command_of cells))) (ne_eqb (ticket_of c) (ticket_of x) (λ e. apart.0 x later (sym e))) ∙ a.rest;
      later = λ d there. inr (a.later d there);
    })
    is

-- ---- how many are marked

pub mark_here : (unit : ℕ) (c : Command) → c.unit ≡ unit → mark_of unit c ≡ marks c.stage
mark_here unit c is = ap (λ b. cond b (marks c.stage) 0) (eq-eqb (c.unit) unit is)

pub mark_elsewhere : (unit : ℕ) (c : Command) → c.unit ≢ unit → mark_of unit c ≡ 0
mark_elsewhere unit c isnt = ap (λ b. cond b (marks c.stage) 0) (ne_eqb (c.unit) unit isnt)

mark_least : (stage : Stage) → marks stage ≤ 1
mark_least Entered = omega arith
mark_least Marked = omega arith
mark_least Started = omega arith
mark_least Cleared = omega arith
mark_least Over = omega arith

mark_small : (unit : ℕ) (c : Command) → mark_of unit c ≤ 1
mark_small unit c = let a = mark_least (c.stage) in elim (c.unit == unit) as (λ b. cond b (marks c.stage) 0 ≤ 1) [
  | true ↦ a
  | false ↦ omega arith
]

pub marked_push : (unit : ℕ) (d : Cell) (cells : List Cell) → marked_in unit (cells ++ d ∷ []) ≡ marked_in unit cells + mark_of unit d.command
marked_push unit d [] = omega arith
marked_push unit d (c ∷ cells) = let rest = marked_push unit d cells in omega (arith, rest)

pub marked_few : (unit : ℕ) (cells : List Cell) → marked_in unit cells ≤ length cells
marked_few unit [] = omega arith
marked_few unit (c ∷ cells) = let a = mark_small unit c.command in let rest = marked_few unit cells in omega (arith, a, rest)

pub marked_some : (unit : ℕ) (x : Cell) (cells : List Cell) → IsIn x cells → mark_of unit x.command ≤ marked_in unit cells
marked_some unit x [] never = absurd never
marked_some unit x (c ∷ cells) is = ⊎_elim
    (λ same. let a = ap (λ (d : Cell). mark_of unit d.command) same in omega (arith, a))
    (λ later. let rest = marked_some unit x cells later in omega (arith, rest))
    is

-- what changes none of them changes no count
marked_others : (unit : ℕ) (f : Cell → Cell) (cells : List Cell) → ((c : Cell) → IsIn c cells → f c ≡ c) → marked_in unit (map f cells) ≡ marked_in unit cells
marked_others unit f [] same = refl
marked_others unit f (c ∷ cells) same =
    let a = ap (λ (d : Cell). mark_of unit d.command) (same c (inl refl)) in
    let rest = marked_others unit f cells (λ d is. same d (inr is)) in omega (arith, a, rest)

pub marked_map : (unit : ℕ) (f : Cell → Cell) (x : Cell) (cells : List Cell) → IsIn x cells → AreApartBy slot_of cells → ((c : Cell) → slot_of c ≢ slot_of x → f c ≡ c)
    → marked_in unit (map f cells) + mark_of unit x.command ≡ marked_in unit cells + mark_of unit (f x).command
marked_map unit f x [] never apart same = absurd never
marked_map unit f x (c ∷ cells) is apart same = ⊎_elim
    (λ here.
    let a = ap (λ (d : Cell). mark_of unit d.command) here in
    let b = ap (λ (d : Cell). mark_of unit (f d).command) here in
    let rest = marked_others unit f cells (λ d i. same d (λ e. apart.0 d i (e ∙ sym (ap slot_of here)))) in omega (arith, a, b, rest))
    (λ later.
    let a = ap (λ (d : Cell). mark_of unit d.command) (same c (λ e. apart.0 x later (sym e))) in
    let rest = marked_map unit f x cells later apart.1 same in omega (arith, a, rest))
    is

none_without : (slot : ℕ) (cells : List Cell) → HasNone slot_of slot cells → filter (λ (c : Cell). not (c.slot == slot)) cells ≡ cells
none_without slot cells none = filter_all (λ (c : Cell). not (c.slot == slot)) cells (λ c is. ap not (ne_eqb (c.slot) slot (none c is)))

pub marked_without : (unit : ℕ) (x : Cell) (cells : List Cell) → IsIn x cells → AreApartBy slot_of cells
    → marked_in unit (filter (λ (c : Cell). not (c.slot == x.slot)) cells) + mark_of unit x.command ≡ marked_in unit cells
marked_without unit x [] never apart = absurd never
marked_without unit x (c ∷ cells) is apart =
    let left : List Cell = filter (λ (d : Cell). not (d.slot == x.slot)) cells in
    ⊎_elim
    (λ here.
    let a = ap (λ (d : Cell). mark_of unit d.command) here in
    let b = ap (λ n. marked_in unit (cond (not n) (c ∷ left) left)) (eq-eqb (c.slot) (x.slot) (ap slot_of here)) in
    let rest = ap (marked_in unit) (none_without (x.slot) cells (λ d i e. apart.0 d i (e ∙ sym (ap slot_of here)))) in omega (arith, a, b, rest))
    (λ later.
    let b = ap (λ n. marked_in unit (cond (not n) (c ∷ left) left)) (ne_eqb (c.slot) (x.slot) (λ e. apart.0 x later (sym e))) in
    let rest = marked_without unit x cells later apart.1 in omega (arith, b, rest))
    is

pub fewer_left : (x : Cell) (cells : List Cell) → IsIn x cells → AreApartBy slot_of cells → length (filter (λ (c : Cell). not (c.slot == x.slot)) cells) + 1 ≡ length cells
fewer_left x [] never apart = absurd never
fewer_left x (c ∷ cells) is apart =
    let left : List Cell = filter (λ (d : Cell). not (d.slot == x.slot)) cells in
    ⊎_elim
    (λ here.
    let b = ap (λ n. length (cond (not n) (c ∷ left) left)) (eq-eqb (c.slot) (x.slot) (ap slot_of here)) in
    let rest = ap (λ (cs : List Cell). length cs) (none_without (x.slot) cells (λ d i e. apart.0 d i (e ∙ sym (ap slot_of here)))) in omega (arith, b, rest))
    (λ later.
    let b = ap (λ n. length (cond (not n) (c ∷ left) left)) (ne_eqb (c.slot) (x.slot) (λ e. apart.0 x later (sym e))) in
    let rest = fewer_left x cells later apart.1 in omega (arith, b, rest))
    is

-- a count tells whether one of them is marked
pub told_marked : (unit : ℕ) (cells : List Cell) → list_any (λ (c : Command). c.unit == unit && is_marked c) (map command_of cells) ≡ nat_lt 0 (marked_in unit cells)
told_marked unit [] = refl
told_marked unit (c ∷ cells) =
    let rest = told_marked unit cells in
    let n = marked_in unit cells in
    elim (of_it unit c) as (λ b. ((b && is_marked c.command) || list_any (λ (d : Command). d.unit == unit && is_marked d) (map command_of cells)) ≡ nat_lt 0 (cond b (marks c.command.stage) 0 + n)) [
      | true ↦ by_stage (c.command) (list_any (λ (d : Command). d.unit == unit && is_marked d) (map command_of cells)) n rest
      | false ↦ rest ∙ ap (nat_lt 0) (let e : n ≡ 0 + n = omega arith in e)
    ]
  where
    above : (n : ℕ) → true ≡ nat_lt 0 (1 + n)
    above n = sym (lt-ltb 0 (1 + n) (omega arith))

    none_more : (n : ℕ) → nat_lt 0 n ≡ nat_lt 0 (0 + n)
    none_more n = ap (nat_lt 0) (let e : n ≡ 0 + n = omega arith in e)

    by_stage : (c : Command) (any : Bool) (n : ℕ) → any ≡ nat_lt 0 n → ((true && is_marked c) || any) ≡ nat_lt 0 (marks c.stage + n)
    by_stage c any n rest = elim (c.stage) as (λ s. ((true && (elim s [ Entered ↦ false | Marked ↦ true | Started ↦ false | Cleared ↦ true | Over ↦ false ])) || any) ≡ nat_lt 0 (marks s + n)) [
      | Entered ↦ rest ∙ none_more n
      | Marked ↦ above n
      | Started ↦ rest ∙ none_more n
      | Cleared ↦ above n
      | Over ↦ rest ∙ none_more n
    ]
