-- Commands by ticket and by place, as one changes.
use Rattle.std.proofs.Common.{◌≡◌, ◌≢◌, ℕ, zero, suc, ◌+◌, ◌<◌, ◌≤◌, ◌==◌, ◌||◌, not, cond, Bool, true, false, List, [], ◌∷◌, ◌++◌, length, filter, find, get_or, set, Option, Some, None, option_map, refl, ap, sym, subst, ◌∙◌, arith, ⊎_elim, eq-eqb, ne_eqb}
use Rattle.std.specs.List.{AllPairs, list_any}
use Rattle.std.proofs.lemmas.Bool.{cases_Bool, cases_eq, cases_lt, false≢true, eqb-true}
use Rattle.std.proofs.lemmas.List.{get_or-set_same, get_or-set_other}
use Rattle.iscsi_slots.specs.Slots.{times}
use Rattle.iscsi_lists.specs.Lists.{Listed, times_in}
use Rattle.iscsi_tickets.specs.Tickets.{value_of, without_ticket}
use Rattle.iscsi_tracked.specs.declared.command.Command.{Command}
use Rattle.iscsi_tracked.specs.Tracked.{is_at, with_command}
use Rattle.iscsi_tracked.specs.Kept.{AllKept, IsKept, command_at, commands_of}

abbrev pub Pair : Type 0
Pair = ℕ × ℕ

abbrev pub of_ticket : ℕ → Pair → Bool
of_ticket ticket e = e.0 == ticket

abbrev pub of_place : ℕ → Pair → Bool
of_place place e = e.1 == place

pub same_some : (n m : ℕ) → Some n ≡ Some m → n ≡ m
same_some n m e = cc

-- ---- each of them

pub each_at : (kept : Listed Command) (entries : List Pair) → AllKept kept entries → (k : ℕ) (d : Pair) → k < length entries → IsKept kept (get_or entries k d)
each_at kept [] all k d l = absurd (omega (arith, l))
each_at kept (e ∷ entries) all zero d l = all.0
each_at kept (e ∷ entries) all (suc k) d l = each_at kept entries all.1 k d (omega (arith, l))

pub each_weaken : (kept more : Listed Command) (entries : List Pair) → ((e : Pair) → IsKept kept e → IsKept more e) → AllKept kept entries → AllKept more entries
each_weaken kept more [] change all = tt
each_weaken kept more (e ∷ entries) change all = (change e all.0, each_weaken kept more entries change all.1)

pub each_push : (kept : Listed Command) (entries : List Pair) (e : Pair) → AllKept kept entries → IsKept kept e → AllKept kept (entries ++ e ∷ [])
each_push kept [] e all last = (last, tt)
each_push kept (x ∷ entries) e all last = (all.0, each_push kept entries e all.1 last)

-- those whose ticket is another one
pub each_without : (kept more : Listed Command) (ticket : ℕ) (entries : List Pair) → ((e : Pair) → of_ticket ticket e ≡ false → IsKept kept e → IsKept more e) → AllKept kept entries
    → AllKept more (without_ticket ticket entries)
each_without kept more ticket [] change all = tt
each_without kept more ticket (e ∷ entries) change all =
    let rest = each_without kept more ticket entries change all.1 in
    elim (of_ticket ticket e) as (λ b. of_ticket ticket e ≡ b → AllKept more (cond (not b) (e ∷ without_ticket ticket entries) (without_ticket ticket entries))) [
      | true ↦ λ is. rest
      | false ↦ λ is. (change e is all.0, rest)
    ] refl

-- ---- what is found

module _ (kept : Listed Command) where
  abbrev at : Pair → Command
  at e = command_at kept.values e.1

  pub find_mapped : (p : Command → Bool) (q : Pair → Bool) (entries : List Pair) → AllKept kept entries → ((e : Pair) → IsKept kept e → p (at e) ≡ q e)
      → find p (commands_of kept.values entries) ≡ option_map at (find q entries)
  find_mapped p q [] all same = refl
  find_mapped p q (e ∷ entries) all same =
      let rest = find_mapped p q entries all.1 same in
      ap (λ b. cond b (Some (at e)) (find p (commands_of kept.values entries))) (same e all.0)
      ∙ elim (q e) as (λ b. cond b (Some (at e)) (find p (commands_of kept.values entries)) ≡ option_map at (cond b (Some e) (find q entries))) [
        | true ↦ refl
        | false ↦ rest
      ]

  mapped_twice : (r : Option Pair) → option_map at r ≡ option_map (command_at kept.values) (option_map (λ (e : Pair). e.1) r)
  mapped_twice None = refl
  mapped_twice (Some e) = refl

  pub found_ticket : (entries : List Pair) → AllKept kept entries → (ticket : ℕ)
      → find (λ (c : Command). c.ticket == ticket) (commands_of kept.values entries) ≡ option_map (command_at kept.values) (value_of ticket entries)
  found_ticket entries all ticket =
      find_mapped (λ (c : Command). c.ticket == ticket) (of_ticket ticket) entries all (λ e k. ap (λ n. n == ticket) k.ticket) ∙ mapped_twice (find (of_ticket ticket) entries)

  -- a command in a place is that of the place
  is_in : (place : ℕ) (e : Pair) → IsKept kept e → is_at place (at e) ≡ of_place place e
  is_in place e k = ap (λ n. n == place) k.place

  find_here : (place : ℕ) (entries : List Pair) → list_any (of_place place) entries ≡ true → option_map at (find (of_place place) entries) ≡ Some (command_at kept.values place)
  find_here place [] some = absurd (false≢true some)
  find_here place (e ∷ entries) some =
      elim (of_place place e) as (λ b. of_place place e ≡ b → (b || list_any (of_place place) entries) ≡ true → option_map at (cond b (Some e) (find (of_place place) entries)) ≡ Some (command_at kept.values place)) [
        | true ↦ λ is _. ap (λ n. Some (command_at kept.values n)) (eqb-true e.1 place is)
        | false ↦ λ is later. find_here place entries later
      ] refl some

  pub found_place : (place : ℕ) (entries : List Pair) → AllKept kept entries → list_any (of_place place) entries ≡ true
      → find (is_at place) (commands_of kept.values entries) ≡ Some (command_at kept.values place)
  found_place place entries all some = find_mapped (is_at place) (of_place place) entries all (is_in place) ∙ find_here place entries some

  pub any_place : (place : ℕ) (entries : List Pair) → AllKept kept entries → list_any (is_at place) (commands_of kept.values entries) ≡ list_any (of_place place) entries
  any_place place [] all = refl
  any_place place (e ∷ entries) all =
      ap (λ b. b || list_any (is_at place) (commands_of kept.values entries)) (is_in place e all.0) ∙ ap (λ b. of_place place e || b) (any_place place entries all.1)

  pub place_there : (place : ℕ) (entries : List Pair) → AllKept kept entries → list_any (of_place place) entries ≡ true → 1 ≤ times_in place kept.lists
  place_there place [] all some = absurd (false≢true some)
  place_there place (e ∷ entries) all some =
      elim (of_place place e) as (λ b. of_place place e ≡ b → (b || list_any (of_place place) entries) ≡ true → 1 ≤ times_in place kept.lists) [
        | true ↦ λ is _. subst (λ n. 1 ≤ times_in n kept.lists) (eqb-true e.1 place is) all.0.there
        | false ↦ λ is later. place_there place entries all.1 later
      ] refl some

-- ---- a value by its ticket

pub value_first : (ticket : ℕ) (e : Pair) (entries : List Pair) → of_ticket ticket e ≡ true → value_of ticket (e ∷ entries) ≡ Some e.1
value_first ticket e entries is = ap (λ b. option_map (λ (x : Pair). x.1) (cond b (Some e) (find (of_ticket ticket) entries))) is

pub value_later : (ticket : ℕ) (e : Pair) (entries : List Pair) → of_ticket ticket e ≡ false → value_of ticket (e ∷ entries) ≡ value_of ticket entries
value_later ticket e entries is = ap (λ b. option_map (λ (x : Pair). x.1) (cond b (Some e) (find (of_ticket ticket) entries))) is

pub value_some : (ticket place : ℕ) (entries : List Pair) → value_of ticket entries ≡ Some place → list_any (of_place place) entries ≡ true
value_some ticket place [] is = absurd (let no : None ≡ Some place = is in cc)
value_some ticket place (e ∷ entries) is = ⊎_elim
    (λ here.
    let same : e.1 ≡ place = same_some e.1 place (sym (value_first ticket e entries here) ∙ is) in
    ap (λ b. b || list_any (of_place place) entries) (eq-eqb e.1 place same))
    (λ later.
    let rest = value_some ticket place entries (sym (value_later ticket e entries later) ∙ is) in
    ap (λ b. of_place place e || b) rest ∙ or_true (of_place place e))
    (cases_Bool (of_ticket ticket e))
  where
    or_true : (b : Bool) → (b || true) ≡ true
    or_true true = refl
    or_true false = refl

-- another one's stays
pub value_without : (ticket other : ℕ) (entries : List Pair) → other ≢ ticket → value_of other (without_ticket ticket entries) ≡ value_of other entries
value_without ticket other [] apart = refl
value_without ticket other (e ∷ entries) apart =
    let rest = value_without ticket other entries apart in
    elim (of_ticket ticket e) as (λ b. of_ticket ticket e ≡ b → value_of other (cond (not b) (e ∷ without_ticket ticket entries) (without_ticket ticket entries)) ≡ value_of other (e ∷ entries)) [
      | true ↦ λ is. rest ∙ sym (value_later other e entries (ne_eqb e.0 other (λ same. apart (sym same ∙ eqb-true e.0 ticket is))))
      | false ↦ λ is. ⊎_elim
          (λ here. value_first other e (without_ticket ticket entries) here ∙ sym (value_first other e entries here))
          (λ later. value_later other e (without_ticket ticket entries) later ∙ rest ∙ sym (value_later other e entries later))
          (cases_Bool (of_ticket other e))
    ] refl

pub value_push_other : (ticket place other : ℕ) (entries : List Pair) (value : ℕ) → value_of other entries ≡ Some value → value_of other (entries ++ (ticket, place) ∷ []) ≡ Some value
value_push_other ticket place other [] value is = absurd (let no : None ≡ Some value = is in cc)
value_push_other ticket place other (e ∷ entries) value is = ⊎_elim
    (λ here. value_first other e (entries ++ (ticket, place) ∷ []) here ∙ sym (value_first other e entries here) ∙ is)
    (λ later.
    value_later other e (entries ++ (ticket, place) ∷ []) later
    ∙ value_push_other ticket place other entries value (sym (value_later other e entries later) ∙ is))
    (cases_Bool (of_ticket other e))

pub value_push_here : (ticket place : ℕ) (entries : List Pair) → ((k : ℕ) (d : Pair) → k < length entries → (get_or entries k d).0 < ticket) → value_of ticket (entries ++ (ticket, place) ∷ []) ≡ Some place
value_push_here ticket place [] below = value_first ticket (ticket, place) [] (eq-eqb ticket ticket refl)
value_push_here ticket place (e ∷ entries) below =
    let first : e.0 < ticket = below 0 e (omega arith) in
    value_later ticket e (entries ++ (ticket, place) ∷ []) (ne_eqb e.0 ticket (λ same. omega (arith, first, same)))
    ∙ value_push_here ticket place entries (λ k d l. below (suc k) d (omega (arith, l)))

-- ---- one is taken out

pub none_with : (ticket : ℕ) (entries : List Pair) → ((k : ℕ) (d : Pair) → k < length entries → (get_or entries k d).0 ≢ ticket) → without_ticket ticket entries ≡ entries
none_with ticket [] none = refl
none_with ticket (e ∷ entries) none =
    ap (λ b. cond (not b) (e ∷ without_ticket ticket entries) (without_ticket ticket entries)) (ne_eqb e.0 ticket (none 0 e (omega arith)))
    ∙ ap (λ es. e ∷ es) (none_with ticket entries (λ k d l. none (suc k) d (omega (arith, l))))

pub one_fewer : (ticket place : ℕ) (entries : List Pair) → AllPairs (λ (a b : Pair). a.0 < b.0) entries → value_of ticket entries ≡ Some place → length (without_ticket ticket entries) + 1 ≡ length entries
one_fewer ticket place [] up is = absurd (let no : None ≡ Some place = is in cc)
one_fewer ticket place (e ∷ entries) up is =
    elim (of_ticket ticket e) as (λ b. of_ticket ticket e ≡ b → length (cond (not b) (e ∷ without_ticket ticket entries) (without_ticket ticket entries)) + 1 ≡ length (e ∷ entries)) [
      | true ↦ λ here.
          let same : e.0 ≡ ticket = eqb-true e.0 ticket here in
          let all = ap length (none_with ticket entries (λ k d l is_one.
          let later : e.0 < (get_or entries k d).0 = up 0 (suc k) d (omega arith) (omega (arith, l)) in omega (arith, later, same, is_one))) in
          omega (arith, all)
      | false ↦ λ later.
          let rest = one_fewer ticket place entries (λ i j d lt l. up (suc i) (suc j) d (omega (arith, lt)) (omega (arith, l))) (sym (value_later ticket e entries later) ∙ is) in
          omega (arith, rest)
    ] refl

-- the commands without that of a place are those without its ticket
pub removed_commands : (kept : Listed Command) (ticket place : ℕ) (entries : List Pair) → AllKept kept entries
    → ((e : Pair) → IsKept kept e → of_ticket ticket e ≡ of_place place e)
    → commands_of kept.values (without_ticket ticket entries) ≡ filter (λ (c : Command). not (is_at place c)) (commands_of kept.values entries)
removed_commands kept ticket place [] all same = refl
removed_commands kept ticket place (e ∷ entries) all same =
    let rest = removed_commands kept ticket place entries all.1 same in
    let c = command_at kept.values e.1 in
    let left = without_ticket ticket entries in
    let others = filter (λ (x : Command). not (is_at place x)) (commands_of kept.values entries) in
    ap (λ b. commands_of kept.values (cond (not b) (e ∷ left) left)) (same e all.0 ∙ sym (ap (λ n. n == place) all.0.place))
    ∙ elim (is_at place c) as (λ b. commands_of kept.values (cond (not b) (e ∷ left) left) ≡ cond (not b) (c ∷ others) others) [
      | true ↦ rest
      | false ↦ ap (λ cs. c ∷ cs) rest
    ]

-- ---- a command changes in its place

pub set_commands : (kept : Listed Command) (change : Command → Command) (place : ℕ) (entries : List Pair) → AllKept kept entries → place < length kept.values
    → commands_of (set kept.values place (change (command_at kept.values place))) entries ≡ with_command change place (commands_of kept.values entries)
set_commands kept change place [] all within = refl
set_commands kept change place (e ∷ entries) all within =
    let rest = set_commands kept change place entries all.1 within in
    let values = kept.values in
    let c = command_at values e.1 in
    let new = set values place (change (command_at values place)) in
    let here : command_at new e.1 ≡ cond (is_at place c) (change c) c = ⊎_elim
    (λ same.
    ap (command_at new) same ∙ get_or-set_same values place (change (command_at values place)) _ within ∙ ap (λ n. change (command_at values n)) (sym same)
    ∙ sym (ap (λ b. cond b (change c) c) (eq-eqb c.place place (all.0.place ∙ same))))
    (λ other.
    get_or-set_other values place e.1 (change (command_at values place)) _ other
    ∙ sym (ap (λ b. cond b (change c) c) (ne_eqb c.place place (λ same. other (sym all.0.place ∙ same)))))
    (cases_eq e.1 place) in
    ap (λ x. x ∷ commands_of new entries) here ∙ ap (λ cs. cond (is_at place c) (change c) c ∷ cs) rest

-- a value elsewhere changes nothing
pub other_commands : (kept : Listed Command) (place : ℕ) (value : Command) (entries : List Pair) → AllKept kept entries → times_in place kept.lists ≡ 0
    → commands_of (set kept.values place value) entries ≡ commands_of kept.values entries
other_commands kept place value [] all none = refl
other_commands kept place value (e ∷ entries) all none =
    let apart : e.1 ≢ place = λ same. let a = all.0.there in let b = ap (λ n. times_in n kept.lists) same in omega (arith, a, b, none) in
    ap (λ x. x ∷ commands_of (set kept.values place value) entries) (get_or-set_other kept.values place e.1 value _ apart)
    ∙ ap (λ cs. command_at kept.values e.1 ∷ cs) (other_commands kept place value entries all.1 none)

-- ---- lists behind the first one

pub some_list : (s : ℕ) (lists : List (List ℕ)) → 1 ≤ times_in s lists → (i : ℕ) × (i < length lists) × (1 ≤ times s (get_or lists i []))
some_list s [] some = absurd (omega (arith, some))
some_list s (xs ∷ lists) some = ⊎_elim
    (λ here. (0, omega arith, here))
    (λ none. let rest = some_list s lists (omega (arith, some, none)) in (suc rest.0, omega (arith, rest.1), rest.2))
    (cases_lt 0 (times s xs))
