-- The commands of a request, by the steps and by the rules.
use Rattle.std.proofs.Common.{◌≡◌, ℕ, ◌==◌, ◌&&◌, ◌||◌, ⊎_elim, not, nat_lt, Bool, true, false, List, [], ◌∷◌, count_by, filter, Option, is_some, refl, ap, sym, ◌∙◌}
use Rattle.std.specs.List.{list_any}
use Rattle.std.proofs.lemmas.Bool.{false≢true, eqb-true, eq-eqb, and_parts, and_from, not-true}
use Rattle.iscsi_rules.specs.rules.Trace.{Command as RulesCommand, Trace, are_apart, entered, has, is_among, leaves_ticket}
use Rattle.iscsi_rules.proofs.general.BoolLemmas.{and_comm, and_false}
use Rattle.iscsi_rules.proofs.general.ElementLemmas.{In}
use Rattle.iscsi_rules.proofs.general.ListLemmas.{any_filter, any_same}
use Rattle.iscsi_outbox_rules.specs.rules.Words.{is_running}
use Rattle.iscsi_outbox_law.proofs.general.PairLemmas.{pairs-any}
use Rattle.iscsi_outbox_steps.specs.Steps.{is_running_ticket}
use Rattle.iscsi_ffi_commands.specs.declared.command.Command.{Command}
use Rattle.iscsi_ffi_commands.specs.Commands.{is_live}
use Rattle.iscsi_ffi_rules.specs.rules.Needs.{is_live as is_live_event, is_of_event, runs}
use Rattle.iscsi_ffi_rules.specs.rules.Sides.{Side}
use Rattle.iscsi_ffi_steps.specs.State.{State}
use Rattle.iscsi_ffi_law.specs.Names.{Name, Note, place_named}
use Rattle.iscsi_ffi_law.specs.Parts.{AreApart, AreCommands, IsCommand, is_live_ticket, is_named}
use Rattle.iscsi_ffi_law.specs.Uses.{count_commands, is_used}
use Rattle.iscsi_ffi_law.proofs.general.Members.{any_counted, any_in, in_any, Passing}
use Rattle.iscsi_ffi_law.proofs.requests.NameLemmas.{name_place, place_event}

-- no two commands have one ticket
pub one_command : (cs : List RulesCommand) (c d : RulesCommand) → are_apart cs ≡ true → In c cs → In d cs → c.ticket ≡ d.ticket → c ≡ d
one_command [] c d apart h k same = absurd h
one_command (e ∷ cs) c d apart h k same =
    let parts = and_parts (not (is_among e.ticket cs)) (are_apart cs) apart in
    let none : is_among e.ticket cs ≡ false = not-true (is_among e.ticket cs) parts.0 in
    ⊎_elim
    (λ here. ⊎_elim
    (λ alike. sym here ∙ alike)
    (λ later. absurd (false≢true (sym none ∙ in_any (λ (x : RulesCommand). x.ticket == e.ticket) cs d later (eq-eqb d.ticket e.ticket (sym same ∙ ap (λ (x : RulesCommand). x.ticket) (sym here)))))) k)
    (λ before. ⊎_elim
    (λ alike. absurd (false≢true (sym none ∙ in_any (λ (x : RulesCommand). x.ticket == e.ticket) cs c before (eq-eqb c.ticket e.ticket (same ∙ ap (λ (x : RulesCommand). x.ticket) (sym alike))))))
    (λ later. one_command cs c d parts.1 before later same) k) h

any_or : {A : Type 0} (p q : A → Bool) (xs : List A) → list_any (λ x. p x || q x) xs ≡ (list_any p xs || list_any q xs)
any_or p q [] = refl
any_or p q (x ∷ xs) = ap (λ v. (p x || q x) || v) (any_or p q xs) ∙ by_tests (p x) (q x) (list_any p xs) (list_any q xs)
  where
    by_tests : (a b c d : Bool) → ((a || b) || (c || d)) ≡ ((a || c) || (b || d))
    by_tests true b c d = refl
    by_tests false true true d = refl
    by_tests false true false d = refl
    by_tests false false c d = refl

module _ (names : List Name) (notes : List Note) (r : Side) (items : List Command) (apart : AreApart names notes) (are : AreCommands names r items) where
  t : Trace
  t = r.both.trace

  -- commands of a request that pass
  pub commands_any : (n : Name) → In n names → (P : RulesCommand → Bool) (Q : Command → Bool) → ((c : Command) (d : RulesCommand) → IsCommand names r c d → Q c ≡ P d)
      → list_any (λ (d : RulesCommand). d.arrival.event == n.event && P d) (entered r.both.trace) ≡ list_any (λ (c : Command). c.request == n.place && Q c) items
  commands_any n there P Q alike = sym (any_filter by_event (is_named names) (entered r.both.trace) ∙ any_same (λ (d : RulesCommand). is_named names d && by_event d) by_event (entered r.both.trace) named_first) ∙ sym
      (pairs-any (IsCommand names r) (λ (c : Command). c.request == n.place && Q c) by_event items (filter (is_named names) (entered r.both.trace))
      (λ c d k. ap (λ v. v && Q c) (place_event names notes apart n d.arrival.event c.request there k.request) ∙ ap (λ v. (d.arrival.event == n.event) && v) (alike c d k)) are)
    where
      by_event : RulesCommand → Bool
      by_event d = d.arrival.event == n.event && P d

      named_first : (d : RulesCommand) → (is_named names d && by_event d) ≡ by_event d
      named_first d = by_test (d.arrival.event == n.event) refl
        where
          by_test : (v : Bool) → (d.arrival.event == n.event) ≡ v → (is_named names d && (v && P d)) ≡ (v && P d)
          by_test true is = ap (λ (x : Option ℕ). is_some x && P d) (ap (place_named names) (eqb-true d.arrival.event n.event is) ∙ name_place names notes apart n there)
          by_test false is = and_false (is_named names d)

  live_alike : (n : Name) → In n names → is_live_event n.event r.both.trace ≡ list_any (λ (c : Command). c.request == n.place && is_live c) items
  live_alike n there =
      any_filter (λ (d : RulesCommand). is_of_event n.event d.arrival) (λ (d : RulesCommand). not (has (leaves_ticket d.ticket) r.both.trace)) (entered r.both.trace)
      ∙ any_same (λ (d : RulesCommand). not (has (leaves_ticket d.ticket) r.both.trace) && is_of_event n.event d.arrival) (λ (d : RulesCommand). is_of_event n.event d.arrival && not (has (leaves_ticket d.ticket) r.both.trace)) (entered r.both.trace)
      (λ d. and_comm (not (has (leaves_ticket d.ticket) r.both.trace)) (is_of_event n.event d.arrival))
      ∙ commands_any n there (λ (d : RulesCommand). not (has (leaves_ticket d.ticket) r.both.trace)) is_live (λ c d k. k.live)

  -- a request has a command that is live, or runs
  pub commands_needed : (s : State) → s.commands.items ≡ items → ((ticket : ℕ) → is_running_ticket ticket s.outbox ≡ is_running r.both.box ticket) → (n : Name) → In n names
      → (is_live_event n.event r.both.trace || runs n.event r.both.trace r.both.box) ≡ nat_lt 0 (count_commands n.place s)
  commands_needed s same running n there =
      ap (λ v. v || runs n.event r.both.trace r.both.box) (live_alike n there)
      ∙ ap (λ v. list_any (λ (c : Command). c.request == n.place && is_live c) items || v)
      (commands_any n there (λ (d : RulesCommand). is_running r.both.box d.ticket) (λ (c : Command). is_running_ticket c.ticket s.outbox) (λ c d k. running c.ticket ∙ ap (is_running r.both.box) k.ticket))
      ∙ sym (any_or (λ (c : Command). c.request == n.place && is_live c) (λ (c : Command). c.request == n.place && is_running_ticket c.ticket s.outbox) items)
      ∙ any_same (λ (c : Command). (c.request == n.place && is_live c) || (c.request == n.place && is_running_ticket c.ticket s.outbox)) (λ (c : Command). c.request == n.place && is_used s.outbox c) items
      (λ c. by_test (c.request == n.place) (is_live c) (is_running_ticket c.ticket s.outbox))
      ∙ any_counted (λ (c : Command). c.request == n.place && is_used s.outbox c) items
      ∙ ap (λ cs. nat_lt 0 (count_by (λ (c : Command). c.request == n.place && is_used s.outbox c) cs)) (sym same)
    where
      by_test : (v a b : Bool) → ((v && a) || (v && b)) ≡ (v && (a || b))
      by_test true a b = refl
      by_test false a b = refl

-- the command with a ticket that is live is of its event
pub live_of_ticket : (t : Trace) (d : RulesCommand) → are_apart (entered t) ≡ true → In d (entered t) → is_live_ticket t d.ticket ≡ true → is_live_event d.arrival.event t ≡ true
live_of_ticket t d apart there h =
    let e : Passing (λ (x : RulesCommand). x.ticket == d.ticket && not (has (leaves_ticket x.ticket) t)) (entered t) = any_in (λ (x : RulesCommand). x.ticket == d.ticket && not (has (leaves_ticket x.ticket) t)) (entered t) h in
    let parts = and_parts (e.x.ticket == d.ticket) (not (has (leaves_ticket e.x.ticket) t)) e.passes in
    let same : e.x ≡ d = one_command (entered t) e.x d apart e.there there (eqb-true e.x.ticket d.ticket parts.0) in
    any_filter (λ (x : RulesCommand). is_of_event d.arrival.event x.arrival) (λ (x : RulesCommand). not (has (leaves_ticket x.ticket) t)) (entered t)
    ∙ in_any (λ (x : RulesCommand). not (has (leaves_ticket x.ticket) t) && is_of_event d.arrival.event x.arrival) (entered t) e.x e.there
    (and_from (not (has (leaves_ticket e.x.ticket) t)) (is_of_event d.arrival.event e.x.arrival) parts.1 (eq-eqb e.x.arrival.event d.arrival.event (ap (λ (x : RulesCommand). x.arrival.event) same)))
