-- What the rules make of the end of a command.
use Rattle.std.proofs.Common.{◌≡◌, ℕ, ◌+◌, ◌==◌, ◌&&◌, inl, inr, not, Bool, true, false, List, [], ◌∷◌, ◌++◌, map, filter, filter_map, Option, Some, None, refl, ap, sym, subst, ◌∙◌}
use Rattle.std.specs.List.{flat_map}
use Rattle.std.proofs.lemmas.Bool.{and_from, eqb-true, eq-eqb, false≢true, not-true, or_from, or_right}
use Rattle.std.proofs.lemmas.List.{append-nil}
use Rattle.std.proofs.lemmas.List.Folds.{list_any-append}
use Rattle.iscsi_wire.specs.Fields.{connection_of}
use Rattle.iscsi_rules.specs.declared.effect.Effect.{Effect}
use Rattle.iscsi_rules.specs.declared.effect.Effect.TheVariants.{Leave, Send}
use Rattle.iscsi_rules.specs.declared.event.Event.TheVariants.{Done}
use Rattle.iscsi_rules.specs.rules.Execution.{completion}
use Rattle.iscsi_rules.specs.rules.Run.{effects_of, numbers_of, stat_sn_of}
use Rattle.iscsi_rules.specs.rules.Trace.{Command as RulesCommand, Trace, after_items, are_apart, entered, first_of, has, leaves_ticket, live, was_free}
use Rattle.iscsi_rules.proofs.general.ElementLemmas.{In, filter-in, in-filter}
use Rattle.iscsi_rules.proofs.general.ListLemmas.{list_any-map}
use Rattle.iscsi_outbox_rules.specs.rules.Boxes.{Box}
use Rattle.iscsi_outbox_rules.specs.rules.Items.{after_event, ticket_enabled}
use Rattle.iscsi_outbox_rules.specs.rules.Words.{contains}
use Rattle.iscsi_ffi_rules.specs.rules.Calls.{Interface}
use Rattle.iscsi_ffi_rules.specs.rules.Clearing.{is_withheld, next_withheld}
use Rattle.iscsi_ffi_rules.specs.rules.Happening.{Told, answers_in, happening, live_with, resets_in, start, starting, stops_in}
use Rattle.iscsi_ffi_rules.specs.rules.Sides.{Side}
use Rattle.iscsi_ffi_steps.specs.State.{State}
use Rattle.iscsi_ffi_law.specs.Names.{Name, Note}
use Rattle.iscsi_ffi_law.proofs.commands.Commands.{one_command}
use Rattle.iscsi_ffi_law.proofs.completions.DoneBox.{IsFound, box_after, box_is}
use Rattle.iscsi_ffi_law.proofs.completions.DoneRequests.{done_side}
use Rattle.iscsi_ffi_law.proofs.completions.DoneShape.{IsNew, done_item, done_reply, done_trace, enabled_tickets, enables, entered_same, left_too, new_ones, news, tickets_of}
use Rattle.iscsi_ffi_law.proofs.requests.Kept.{filter_nothing}
use Rattle.iscsi_ffi_law.proofs.general.Members.{Passing, any_in, find_in, in_find}
use Rattle.iscsi_ffi_law.proofs.commands.Staging.{Both, both_of}
use Rattle.iscsi_ffi_law.proofs.commands.Starting.{starting_of, withheld_of}

module _ (i : Interface) (names : List Name) (notes : List Note) (s : State) (r : Side) (d : RulesCommand) (status : ℕ) (f : IsFound i names notes s r d status) where
  abbrev pub ns : List RulesCommand
  ns = news i.outbox.session r.both.trace d status

  abbrev pub trace' : Trace
  trace' = done_trace r.both.trace d status

  -- the side then, when what was enabled started
  abbrev pub side_after : Side
  side_after = record (done_side i names notes s r d status f) { told = r.told ++ tickets_of (starting_of (done_side i names notes s r d status f) ns) }

  pub apart_after : are_apart (entered (done_trace r.both.trace d status)) ≡ true
  apart_after = ap are_apart (entered_same r.both.trace d status) ∙ f.requests.tickets

  pub new_one : (n : RulesCommand) → In n ns → IsNew r.both.trace (done_trace r.both.trace d status) n
  new_one n at = new_ones i.outbox.session r.both.trace (done_item d status) n at

  is_live_one : (n : RulesCommand) → In n ns → In n (live (done_trace r.both.trace d status))
  is_live_one n at =
      let k : IsNew r.both.trace (done_trace r.both.trace d status) n = new_one n at in
      filter-in (λ (c : RulesCommand). not (has (leaves_ticket c.ticket) (done_trace r.both.trace d status))) (entered (done_trace r.both.trace d status)) n k.there (ap not k.lives)

  -- each is found by its ticket
  found_live : (n : RulesCommand) → In n ns → live_with (done_trace r.both.trace d status) n.ticket ≡ Some n
  found_live n at =
      let there = is_live_one n at in
      let y = in_find (λ (c : RulesCommand). c.ticket == n.ticket) (live (done_trace r.both.trace d status)) n there (eq-eqb n.ticket n.ticket refl) in
      let found = find_in (λ (c : RulesCommand). c.ticket == n.ticket) (live (done_trace r.both.trace d status)) y.0 y.1 in
      let e = in-filter (λ (c : RulesCommand). not (has (leaves_ticket c.ticket) (done_trace r.both.trace d status))) (entered (done_trace r.both.trace d status)) y.0 found.0 in
      let same : y.0 ≡ n = one_command (entered (done_trace r.both.trace d status)) y.0 n apart_after e.0 (new_one n at).there (eqb-true y.0.ticket n.ticket found.1) in
      y.1 ∙ ap (λ (c : RulesCommand). Some c) same

  all_found : (ms : List RulesCommand) → ((n : RulesCommand) → In n ms → live_with (done_trace r.both.trace d status) n.ticket ≡ Some n) → filter_map (live_with (done_trace r.both.trace d status)) (tickets_of ms) ≡ ms
  all_found [] each = refl
  all_found (n ∷ ms) each = ap (λ x. add x (filter_map (live_with (done_trace r.both.trace d status)) (tickets_of ms))) (each n (inl refl)) ∙ ap (λ xs. n ∷ xs) (all_found ms (λ m at. each m (inr at)))
    where
      add : Option RulesCommand → List RulesCommand → List RulesCommand
      add None xs = xs
      add (Some x) xs = x ∷ xs

  -- what the event tells, by the commands that start
  abbrev side_with : Box → Side
  side_with b = record r { both = record { event = r.both.event + 1; trace = done_trace r.both.trace d status; box = b }; answers = r.answers ++ d.arrival.event ∷ [] }

  pub rules_are : happening i r (Done d.ticket status) ≡ record { side = side_after; actions = map (start (done_side i names notes s r d status f)) (starting_of (done_side i names notes s r d status f) ns) }
  rules_are =
      ap by_command f.command
      ∙ ap by_effects (append-nil (enables ns))
      ∙ ap (λ b. by_box b (filter (λ c. not (is_withheld (side_with b) c)) (filter_map (live_with (done_trace r.both.trace d status)) (filter_map ticket_enabled (enables ns))))) (box_is i names notes s r d status f)
      ∙ ap (λ ks. by_box (box_after i names notes s r d status f) (filter (λ c. not (is_withheld (done_side i names notes s r d status f) c)) (filter_map (live_with (done_trace r.both.trace d status)) ks))) (enabled_tickets ns)
      ∙ ap (λ cs. by_box (box_after i names notes s r d status f) (filter (λ c. not (is_withheld (done_side i names notes s r d status f) c)) cs)) (all_found ns found_live)
    where
      by_box : Box → List RulesCommand → Told
      by_box b started = record { side = record (side_with b) { told = r.told ++ tickets_of started }; actions = map (start (side_with b)) started }

      by_effects : List Effect → Told
      by_effects es =
          let all : List Effect = Leave d.ticket d.unit ∷ Send (connection_of d.arrival.request) (stat_sn_of i.outbox.session r.both.trace (connection_of d.arrival.request)) (done_reply d status) ∷ es in
          let b = after_event i.outbox r.both.box all (numbers_of i.outbox.session (done_trace r.both.trace d status)) in
          by_box b (starting (side_with b) all)

      by_command : Option RulesCommand → Told
      by_command x =
          let items = completion status x in
          let all = effects_of i.outbox.session r.both.trace items in
          let b = after_event i.outbox r.both.box all (numbers_of i.outbox.session (after_items items r.both.trace)) in
          let s' = record r { both = record { event = r.both.event + 1; trace = after_items items r.both.trace; box = b }; answers = r.answers ++ flat_map (answers_in r.both.event) items } in
          let started = starting s' all in
          record { side = record s' { told = r.told ++ map (λ (c : RulesCommand). c.ticket) started }; actions = flat_map (stops_in r) items ++ flat_map (resets_in i.outbox) items ++ map (start s') started }

  -- ---- where none is withheld then

  -- it wasn't told to start before
  pub untold_before : (n : RulesCommand) → In n ns → contains r.told n.ticket ≡ false
  untold_before n at = by_test (contains r.told n.ticket) refl
    where
      k : IsNew r.both.trace (done_trace r.both.trace d status) n
      k = new_one n at

      there : In n (entered r.both.trace)
      there = subst (In n) (entered_same r.both.trace d status) k.there

      lives : has (leaves_ticket n.ticket) r.both.trace ≡ false
      lives = by_left (has (leaves_ticket n.ticket) r.both.trace) refl
        where
          by_left : (v : Bool) → has (leaves_ticket n.ticket) r.both.trace ≡ v → v ≡ false
          by_left false is = refl
          by_left true is = absurd (false≢true (sym k.lives ∙ left_too r.both.trace d status n.ticket ∙ or_right (d.ticket == n.ticket) (has (leaves_ticket n.ticket) r.both.trace) is))

      two : Both names r s.commands.items n
      two = both_of names r s.commands.items f.requests.commands f.requests.numbered f.requests.live_named n there lives

      by_test : (v : Bool) → contains r.told n.ticket ≡ v → v ≡ false
      by_test false is = refl
      by_test true is = absurd (false≢true (sym k.barred ∙ two.is.freed is))

  pub none_withheld : next_withheld side_after ≡ None → (n : RulesCommand) → In n ns → is_withheld (done_side i names notes s r d status f) n ≡ false
  none_withheld calm n at = by_test (is_withheld (done_side i names notes s r d status f) n) refl
    where
      k : IsNew r.both.trace (done_trace r.both.trace d status) n
      k = new_one n at

      first_some : (xs : List RulesCommand) → In n xs → first_of xs ≡ None → ⊥
      first_some [] there none = there
      first_some (x ∷ xs) there none = cc

      by_test : (v : Bool) → is_withheld (done_side i names notes s r d status f) n ≡ v → v ≡ false
      by_test false is = refl
      by_test true is =
          absurd (first_some (filter (λ (c : RulesCommand). was_free c (done_trace r.both.trace d status) && not (contains side_after.told c.ticket)) (live (done_trace r.both.trace d status)))
          (filter-in (λ (c : RulesCommand). was_free c (done_trace r.both.trace d status) && not (contains side_after.told c.ticket)) (live (done_trace r.both.trace d status)) n (is_live_one n at)
          (and_from (was_free n (done_trace r.both.trace d status)) (not (contains side_after.told n.ticket)) k.free (ap not untold))) calm)
        where
          not_started : (v : Bool) → contains (tickets_of (starting_of (done_side i names notes s r d status f) ns)) n.ticket ≡ v → v ≡ false
          not_started false e = refl
          not_started true e =
              let x : Passing (λ (m : RulesCommand). m.ticket == n.ticket) (starting_of (done_side i names notes s r d status f) ns) = any_in (λ (m : RulesCommand). m.ticket == n.ticket) (starting_of (done_side i names notes s r d status f) ns)
              (sym (list_any-map (λ k. k == n.ticket) (λ (m : RulesCommand). m.ticket) (starting_of (done_side i names notes s r d status f) ns)) ∙ e) in
              let g = in-filter (λ (c : RulesCommand). not (is_withheld (done_side i names notes s r d status f) c)) ns x.x x.there in
              let same : x.x ≡ n = one_command (entered (done_trace r.both.trace d status)) x.x n apart_after (new_one x.x g.0).there k.there (eqb-true x.x.ticket n.ticket x.passes) in
              absurd (false≢true (sym (ap (is_withheld (done_side i names notes s r d status f)) (sym same) ∙ not-true (is_withheld (done_side i names notes s r d status f) x.x) g.1) ∙ is))

          untold : contains side_after.told n.ticket ≡ false
          untold = list_any-append (λ k. k == n.ticket) r.told (tickets_of (starting_of (done_side i names notes s r d status f) ns))
              ∙ or_from (contains r.told n.ticket) (contains (tickets_of (starting_of (done_side i names notes s r d status f) ns)) n.ticket) (untold_before n at)
              (not_started (contains (tickets_of (starting_of (done_side i names notes s r d status f) ns)) n.ticket) refl)

  pub none_held : next_withheld side_after ≡ None → withheld_of (done_side i names notes s r d status f) ns ≡ []
  none_held calm = filter_nothing (is_withheld (done_side i names notes s r d status f)) ns (none_withheld calm)
