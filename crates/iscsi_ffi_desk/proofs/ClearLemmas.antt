-- Another session's reset goes over the commands of a unit: each is found by its ticket, and the next one behind it.
use Rattle.std.proofs.Common.{◌≡◌, ℕ, suc, ◌+◌, ◌<◌, ◌≤◌, ◌==◌, cond, Bool, true, false, List, [], ◌∷◌, ◌++◌, length, map, filter, find, get_or, All, Option, Some, None, option_map, refl, ap, sym, subst, ◌∙◌, arith, eq-eqb, ne_eqb}
use Rattle.std.specs.List.{AllPairs}
use Rattle.std.proofs.lemmas.Bool.{eqb-true}
use Rattle.std.proofs.lemmas.List.{append_assoc, length-append, length-map}
use Rattle.iscsi_rules.proofs.general.ListLemmas.{filter-shorter}
use Rattle.iscsi_ffi_commands.specs.declared.command.Command.{Command}
use Rattle.iscsi_ffi_commands.specs.declared.command.Stage.{Stage}
use Rattle.iscsi_ffi_commands.specs.declared.command.Stage.TheVariants.{Entered, Marked, Started, Cleared, Over}
use Rattle.iscsi_ffi_commands.specs.Commands.{AreKnown, Commands, behind, find_ticket, first_of, has_ticket, in_stage, next_of, of_unit, ticket_of_first}
use Rattle.iscsi_ffi_steps.specs.Walk.{Doing}
use Rattle.iscsi_ffi_steps.specs.Steps.{clear_each, clear_one}

abbrev pub is_in : ℕ → Command → Bool
is_in unit c = c.unit == unit

-- ---- tickets go up

-- from so many on
abbrev pub Above : ℕ → List Command → Type 0
Above low [] = Unit {0}
Above low (c ∷ commands) = (low ≤ c.ticket) × Above (c.ticket + 1) commands

above_from : (low : ℕ) (commands : List Command) → ((d : Command) → 0 < length commands → low ≤ (get_or commands 0 d).ticket)
    → AllPairs (λ (a b : Command). a.ticket < b.ticket) commands → Above low commands
above_from low [] first up = tt
above_from low (c ∷ commands) first up = (
  first c (omega arith),
  above_from (c.ticket + 1) commands
      (λ d l. let one : c.ticket < (get_or commands 0 d).ticket = up 0 1 d (omega arith) (omega (arith, l)) in omega (arith, one))
      (λ i j d lt l. up (suc i) (suc j) d (omega (arith, lt)) (omega (arith, l))),
)

above_less : (low more : ℕ) (commands : List Command) → low ≤ more → Above more commands → Above low commands
above_less low more [] le above = tt
above_less low more (c ∷ commands) le above = let a = above.0 in (omega (arith, le, a), above.1)

above_filter : (p : Command → Bool) (low : ℕ) (commands : List Command) → Above low commands → Above low (filter p commands)
above_filter p low [] above = tt
above_filter p low (c ∷ commands) above =
    let a = above.0 in
    let rest = above_filter p (c.ticket + 1) commands above.1 in
    elim (p c) as (λ b. Above low (cond b (c ∷ filter p commands) (filter p commands))) [
      | true ↦ (a, rest)
      | false ↦ above_less low (c.ticket + 1) (filter p commands) (omega (arith, a)) rest
    ]

above_found : (ticket low : ℕ) (commands : List Command) (c : Command) → Above low commands → find (has_ticket ticket) commands ≡ Some c → low ≤ ticket
above_found ticket low [] c above is = cc
above_found ticket low (x ∷ commands) c above is =
    let a = above.0 in
    elim (has_ticket ticket x) as (λ b. has_ticket ticket x ≡ b → cond b (Some x) (find (has_ticket ticket) commands) ≡ Some c → low ≤ ticket) [
      | true ↦ λ same _. let e = eqb-true x.ticket ticket same in omega (arith, a, e)
      | false ↦ λ _ e. let rest = above_found ticket (x.ticket + 1) commands c above.1 e in omega (arith, a, rest)
    ] refl is

above_later : (low : ℕ) (before : List Command) (c : Command) (after : List Command) → Above low (before ++ c ∷ after) → low ≤ c.ticket
above_later low [] c after above = above.0
above_later low (x ∷ before) c after above =
    let a = above.0 in let rest = above_later (x.ticket + 1) before c after above.1 in omega (arith, a, rest)

-- ---- one among those of its unit

-- that with a ticket changes
abbrev pub turned : (Command → Command) → ℕ → Command → Command
turned turn ticket c = cond (has_ticket ticket c) (turn c) c

module _ (turn : Command → Command) (ticket_stays : (c : Command) → (turn c).ticket ≡ c.ticket) (unit_stays : (c : Command) → (turn c).unit ≡ c.unit) where
  turned_above : (ticket low : ℕ) (commands : List Command) → ticket < low → Above low commands → map (turned turn ticket) commands ≡ commands
  turned_above ticket low [] lt above = refl
  turned_above ticket low (c ∷ commands) lt above =
      let a = above.0 in
      ap (λ b. cond b (turn c) c ∷ map (turned turn ticket) commands) (ne_eqb c.ticket ticket (λ same. absurd (omega (arith, lt, a, same))))
      ∙ ap (λ cs. c ∷ cs) (turned_above ticket (c.ticket + 1) commands (omega (arith, lt, a)) above.1)

  turned_unit : (unit ticket : ℕ) (commands : List Command) → filter (is_in unit) (map (turned turn ticket) commands) ≡ map (turned turn ticket) (filter (is_in unit) commands)
  turned_unit unit ticket [] = refl
  turned_unit unit ticket (c ∷ commands) =
      let rest = turned_unit unit ticket commands in
      let same : (turned turn ticket c).unit ≡ c.unit = elim (has_ticket ticket c) as (λ b. (cond b (turn c) c).unit ≡ c.unit) [ true ↦ unit_stays c | false ↦ refl ] in
      ap (λ n. cond (n == unit) (turned turn ticket c ∷ filter (is_in unit) (map (turned turn ticket) commands)) (filter (is_in unit) (map (turned turn ticket) commands))) same
      ∙ elim (is_in unit c) as (λ b. cond b (turned turn ticket c ∷ filter (is_in unit) (map (turned turn ticket) commands)) (filter (is_in unit) (map (turned turn ticket) commands)) ≡ map (turned turn ticket) (cond b (c ∷ filter (is_in unit) commands) (filter (is_in unit) commands))) [
        | true ↦ ap (λ cs. turned turn ticket c ∷ cs) rest
        | false ↦ rest
      ]

  turned_found : (ticket : ℕ) (commands : List Command) → find (has_ticket ticket) (map (turned turn ticket) commands) ≡ option_map turn (find (has_ticket ticket) commands)
  turned_found ticket [] = refl
  turned_found ticket (c ∷ commands) =
      let rest = turned_found ticket commands in
      let left = find (has_ticket ticket) (map (turned turn ticket) commands) in
      elim (has_ticket ticket c) as (λ b. has_ticket ticket c ≡ b → cond (has_ticket ticket (cond b (turn c) c)) (Some (cond b (turn c) c)) left ≡ option_map turn (cond b (Some c) (find (has_ticket ticket) commands))) [
        | true ↦ λ is. ap (λ b. cond b (Some (turn c)) left) (ap (λ n. n == ticket) (ticket_stays c) ∙ is)
        | false ↦ λ isnt. ap (λ b. cond b (Some c) left) isnt ∙ rest
      ] refl

  turned_among : (low : ℕ) (before : List Command) (c : Command) (after : List Command) → Above low (before ++ c ∷ after)
      → map (turned turn c.ticket) (before ++ c ∷ after) ≡ before ++ turn c ∷ after
  turned_among low [] c after above =
      ap (λ b. cond b (turn c) c ∷ map (turned turn c.ticket) after) (eq-eqb c.ticket c.ticket refl)
      ∙ ap (λ cs. turn c ∷ cs) (turned_above c.ticket (c.ticket + 1) after (omega arith) above.1)
  turned_among low (x ∷ before) c after above =
      let later = above_later (x.ticket + 1) before c after above.1 in
      ap (λ b. cond b (turn x) x ∷ map (turned turn c.ticket) (before ++ c ∷ after)) (ne_eqb x.ticket c.ticket (λ same. absurd (omega (arith, later, same))))
      ∙ ap (λ cs. x ∷ cs) (turned_among (x.ticket + 1) before c after above.1)

found_among : (low : ℕ) (before : List Command) (c : Command) (after : List Command) → Above low (before ++ c ∷ after)
    → find (has_ticket c.ticket) (before ++ c ∷ after) ≡ Some c
found_among low [] c after above = ap (λ b. cond b (Some c) (find (has_ticket c.ticket) after)) (eq-eqb c.ticket c.ticket refl)
found_among low (x ∷ before) c after above =
    let later = above_later (x.ticket + 1) before c after above.1 in
    ap (λ b. cond b (Some x) (find (has_ticket c.ticket) (before ++ c ∷ after))) (ne_eqb x.ticket c.ticket (λ same. absurd (omega (arith, later, same))))
    ∙ found_among (x.ticket + 1) before c after above.1

-- what is behind it stays so as it changes
behind_among : (low : ℕ) (before : List Command) (c now : Command) (after : List Command) → now.ticket ≡ c.ticket → Above low (before ++ c ∷ after)
    → behind c.ticket (before ++ now ∷ after) ≡ after
behind_among low [] c now after same above = ap (λ b. cond b after (behind c.ticket after)) (eq-eqb now.ticket c.ticket same)
behind_among low (x ∷ before) c now after same above =
    let later = above_later (x.ticket + 1) before c after above.1 in
    ap (λ b. cond b (before ++ now ∷ after) (behind c.ticket (before ++ now ∷ after))) (ne_eqb x.ticket c.ticket (λ e. absurd (omega (arith, later, e))))
    ∙ behind_among (x.ticket + 1) before c now after same above.1

-- one of a unit is one of all
found_of : (p : Command → Bool) (ticket low : ℕ) (commands : List Command) (c : Command) → Above low commands
    → find (has_ticket ticket) (filter p commands) ≡ Some c → find (has_ticket ticket) commands ≡ Some c
found_of p ticket low [] c above is = is
found_of p ticket low (x ∷ commands) c above is =
    let theirs = filter p commands in
    elim (p x) as (λ b. find (has_ticket ticket) (cond b (x ∷ theirs) theirs) ≡ Some c → cond (has_ticket ticket x) (Some x) (find (has_ticket ticket) commands) ≡ Some c) [
      | true ↦ λ e. elim (has_ticket ticket x) as (λ b. cond b (Some x) (find (has_ticket ticket) theirs) ≡ Some c → cond b (Some x) (find (has_ticket ticket) commands) ≡ Some c) [
        | true ↦ λ here. here
        | false ↦ λ later. found_of p ticket (x.ticket + 1) commands c above.1 later
      ] e
      | false ↦ λ e.
          let more = above_found ticket (x.ticket + 1) theirs c (above_filter p (x.ticket + 1) commands above.1) e in
          ap (λ b. cond b (Some x) (find (has_ticket ticket) commands)) (ne_eqb x.ticket ticket (λ same. absurd (omega (arith, more, same))))
          ∙ found_of p ticket (x.ticket + 1) commands c above.1 e
    ] is

-- ---- they are of their unit

abbrev pub AreIn : ℕ → List Command → Type 0
AreIn unit [] = Unit {0}
AreIn unit (c ∷ commands) = (c.unit ≡ unit) × AreIn unit commands

are_in : (unit : ℕ) (commands : List Command) → AreIn unit (filter (is_in unit) commands)
are_in unit [] = tt
are_in unit (c ∷ commands) =
    let rest = are_in unit commands in
    elim (is_in unit c) as (λ b. is_in unit c ≡ b → AreIn unit (cond b (c ∷ filter (is_in unit) commands) (filter (is_in unit) commands))) [
      | true ↦ λ is. (eqb-true c.unit unit is, rest)
      | false ↦ λ _. rest
    ] refl

one_in : (unit : ℕ) (before : List Command) (c : Command) (after : List Command) → AreIn unit (before ++ c ∷ after) → c.unit ≡ unit
one_in unit [] c after are = are.0
one_in unit (x ∷ before) c after are = one_in unit before c after are.1

-- ---- no command is of a unit that the session hasn't

none_in : (unit units : ℕ) (commands : List Command) → units ≤ unit → All (λ (c : Command). c.unit < units) commands → filter (is_in unit) commands ≡ []
none_in unit units [] le below = refl
none_in unit units (c ∷ commands) le below =
    let a : c.unit < units = below 0 c (omega arith) in
    ap (λ b. cond b (c ∷ filter (is_in unit) commands) (filter (is_in unit) commands)) (ne_eqb c.unit unit (λ same. absurd (omega (arith, a, le, same))))
    ∙ none_in unit units commands le (λ i d l. below (suc i) d (omega (arith, l)))

pub clears_none : (unit : ℕ) (d : Doing) → d.state.commands.units ≤ unit → AreKnown d.state.commands → d ≡ clear_each (of_unit unit d.state.commands) d
clears_none unit d le known = sym (ap (λ cs. clear_each cs d) (none_in unit d.state.commands.units d.state.commands.items le known.below))

-- ---- the walk

-- what a step of it makes of the commands: the one with this ticket comes to another stage, or stays
pub record IsTurned (ticket : ℕ) (before after : Commands) : Type 0 where
  pub turn : Command → Command
  pub ticket_stays : (c : Command) → (turn c).ticket ≡ c.ticket
  pub unit_stays : (c : Command) → (turn c).unit ≡ c.unit
  pub items : after.items ≡ map (turned turn ticket) before.items

all_same : (ticket : ℕ) (commands : List Command) → map (λ (c : Command). cond (has_ticket ticket c) c c) commands ≡ commands
all_same ticket [] = refl
all_same ticket (c ∷ commands) =
    elim (has_ticket ticket c) as (λ b. cond b c c ∷ map (λ (x : Command). cond (has_ticket ticket x) x x) commands ≡ c ∷ map (λ (x : Command). cond (has_ticket ticket x) x x) commands) [ true ↦ refl | false ↦ refl ]
    ∙ ap (λ cs. c ∷ cs) (all_same ticket commands)

stays : (ticket : ℕ) (v : Commands) → IsTurned ticket v v
stays ticket v = record { turn = λ c. c; ticket_stays = λ c. refl; unit_stays = λ c. refl; items = sym (all_same ticket v.items) }

one_turned : (c : Command) (d : Doing) → IsTurned c.ticket d.state.commands (clear_one c d).state.commands
one_turned c d = staged_in (c.stage)
  where
    staged_in : (stage : Stage) → IsTurned c.ticket d.state.commands (clear_one (in_stage stage c) d).state.commands
    staged_in Entered = record { turn = in_stage Marked; ticket_stays = λ x. refl; unit_stays = λ x. refl; items = refl }
    staged_in Started = record { turn = in_stage Cleared; ticket_stays = λ x. refl; unit_stays = λ x. refl; items = refl }
    staged_in Marked = stays c.ticket d.state.commands
    staged_in Cleared = stays c.ticket d.state.commands
    staged_in Over = stays c.ticket d.state.commands

-- some were gone over, so many; `was`: before all were
pub record IsClearing (unit index : ℕ) (next : Option ℕ) (was now : Doing) : Type 0 where
  pub before : List Command
  pub after : List Command
  pub theirs : of_unit unit now.state.commands ≡ before ++ after
  pub count : length before ≡ index
  pub next_is : next ≡ ticket_of_first after
  pub kept : length now.state.commands.items ≡ length was.state.commands.items
  pub clears : clear_each after now ≡ clear_each (of_unit unit was.state.commands) was

pub clearing_begins : (unit : ℕ) (next : Option ℕ) (d : Doing) → next ≡ first_of unit d.state.commands → IsClearing unit 0 next d d
clearing_begins unit next d is = record { before = []; after = of_unit unit d.state.commands; theirs = refl; count = refl; next_is = is; kept = refl; clears = refl }

none_behind : (commands : List Command) → ticket_of_first commands ≡ None → commands ≡ []
none_behind [] is = refl
none_behind (c ∷ commands) is = cc

pub clearing_ends : (unit index : ℕ) (was now : Doing) → IsClearing unit index None was now → now ≡ clear_each (of_unit unit was.state.commands) was
clearing_ends unit index was now w = sym (ap (λ cs. clear_each cs now) (none_behind w.after (sym w.next_is))) ∙ w.clears

none_more : (commands : List Command) → length commands ≤ 0 → commands ≡ []
none_more [] le = refl
none_more (c ∷ commands) le = absurd (omega (arith, le))

-- all were gone over
pub clearing_past : (unit index : ℕ) (next : Option ℕ) (was now : Doing) → length was.state.commands.items ≤ index → IsClearing unit index next was now
    → now ≡ clear_each (of_unit unit was.state.commands) was
clearing_past unit index next was now past w =
    let shorter = filter-shorter (is_in unit) now.state.commands.items in
    let parts = ap (λ (cs : List Command). length cs) w.theirs in
    let both = length-append w.before w.after in
    let count = w.count in
    let kept = w.kept in
    sym (ap (λ cs. clear_each cs now) (none_more w.after (omega (arith, past, shorter, parts, both, count, kept)))) ∙ w.clears

found_as : (unit : ℕ) (v : Commands) (before : List Command) (c : Command) (after : List Command) → AreKnown v → of_unit unit v ≡ before ++ c ∷ after
    → find_ticket c.ticket v ≡ Some c
found_as unit v before c after known theirs =
    let up : Above 0 v.items = above_from 0 v.items (λ d l. omega arith) known.ascending in
    let there : Above 0 (before ++ c ∷ after) = subst (Above 0) theirs (above_filter (is_in unit) 0 v.items up) in
    found_of (is_in unit) c.ticket 0 v.items c up (ap (find (has_ticket c.ticket)) theirs ∙ found_among 0 before c after there)

-- the next one is
step_over : (unit index : ℕ) (before : List Command) (c : Command) (after : List Command) (was now : Doing) → of_unit unit now.state.commands ≡ before ++ c ∷ after
    → length before ≡ index → length now.state.commands.items ≡ length was.state.commands.items → clear_each (c ∷ after) now ≡ clear_each (of_unit unit was.state.commands) was
    → AreKnown now.state.commands → IsClearing unit (index + 1) (next_of c.ticket (clear_one c now).state.commands) was (clear_one c now)
step_over unit index before c after was now theirs count kept clears known =
    let v : Commands = now.state.commands in
    let v' : Commands = (clear_one c now).state.commands in
    let t = one_turned c now in
    let up : Above 0 v.items = above_from 0 v.items (λ d l. omega arith) known.ascending in
    let there : Above 0 (before ++ c ∷ after) = subst (Above 0) theirs (above_filter (is_in unit) 0 v.items up) in
    let found : find_ticket c.ticket v ≡ Some c = found_as unit v before c after known theirs in
    let found' : find_ticket c.ticket v' ≡ Some (t.turn c) =
    ap (find (has_ticket c.ticket)) t.items ∙ turned_found t.turn t.ticket_stays t.unit_stays c.ticket v.items ∙ ap (option_map t.turn) found in
    let theirs' : of_unit unit v' ≡ before ++ t.turn c ∷ after =
    ap (filter (is_in unit)) t.items ∙ turned_unit t.turn t.ticket_stays t.unit_stays unit c.ticket v.items
    ∙ ap (map (turned t.turn c.ticket)) theirs ∙ turned_among t.turn t.ticket_stays t.unit_stays 0 before c after there in
    let here : c.unit ≡ unit = one_in unit before c after (subst (AreIn unit) theirs (are_in unit v.items)) in
    let long = length-append before (t.turn c ∷ []) in
    record {
      before = before ++ t.turn c ∷ [];
      after = after;
      theirs = theirs' ∙ sym (append_assoc before (t.turn c ∷ []) after);
      count = omega (arith, long, count);
      next_is =
          ap (λ r. elim r [ Some x ↦ ticket_of_first (behind c.ticket (of_unit (x.unit) v')) | None ↦ None ]) found'
          ∙ ap (λ u. ticket_of_first (behind c.ticket (of_unit u v'))) (t.unit_stays c ∙ here)
          ∙ ap (λ cs. ticket_of_first (behind c.ticket cs)) theirs'
          ∙ ap ticket_of_first (behind_among 0 before c (t.turn c) after (t.ticket_stays c) there);
      kept = ap (λ (cs : List Command). length cs) t.items ∙ length-map v.items (turned t.turn c.ticket) ∙ kept;
      clears = clears;
    }

pub clearing_goes : (unit index ticket : ℕ) (was now new : Doing) (next : Option ℕ) → IsClearing unit index (Some ticket) was now → AreKnown now.state.commands
    → new ≡ (elim (find_ticket ticket now.state.commands) [ Some c ↦ clear_one c now | None ↦ now ]) → next ≡ next_of ticket new.state.commands
    → IsClearing unit (index + 1) next was new
clearing_goes unit index ticket was now new next w known is next_is =
    at w.after w.theirs w.next_is w.clears
  where
    at : (after : List Command) → of_unit unit now.state.commands ≡ w.before ++ after → Some ticket ≡ ticket_of_first after
        → clear_each after now ≡ clear_each (of_unit unit was.state.commands) was → IsClearing unit (index + 1) next was new
    at [] theirs first clears = cc
    at (c ∷ after) theirs first clears =
        let ticket_is : ticket ≡ c.ticket = cc in
        let one = step_over unit index w.before c after was now theirs w.count w.kept clears known in
        let new_is : new ≡ clear_one c now =
        is ∙ ap (λ (r : Option Command). elim r as (λ (o : Option Command). Doing) [ Some x ↦ clear_one x now | None ↦ now ]) (ap (λ n. find_ticket n now.state.commands) ticket_is ∙ found_as unit now.state.commands w.before c after known theirs) in
        subst (λ (n : Option ℕ). IsClearing unit (index + 1) n was new) (sym next_is)
        (subst (λ (n : ℕ). IsClearing unit (index + 1) (next_of n new.state.commands) was new) (sym ticket_is)
        (subst (λ (d : Doing). IsClearing unit (index + 1) (next_of c.ticket d.state.commands) was d) (sym new_is) one))
