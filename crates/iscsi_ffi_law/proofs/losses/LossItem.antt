-- The event by which the session hears that a connection was lost has one item, of the Logout that closes it.
use Rattle.std.proofs.Common.{◌≡◌, ℕ, ◌+◌, ◌-◌, ◌≤◌, ◌==◌, not, Bool, true, false, List, [], ◌∷◌, ◌++◌, map, filter, filter_map, count_by, Some, None, refl, ap, sym, subst, ◌∙◌, arith, append_assoc}
use Rattle.iscsi_wire.specs.Fields.{cmd_sn, connection_of, itt, request_of}
use Rattle.iscsi_wire.specs.Serial.{number_of_first, wire}
use Rattle.iscsi_wire.specs.declared.reply.Reply.{Reply}
use Rattle.iscsi_wire.specs.declared.reply.Reply.TheVariants.{Logout}
use Rattle.iscsi_rules.specs.declared.event.Event.TheVariants.{Arrive}
use Rattle.iscsi_rules.specs.rules.Agenda.{arrival_of, items_of}
use Rattle.iscsi_rules.specs.rules.Execution.{exp_of}
use Rattle.iscsi_rules.specs.rules.Deeds.{deed_marks, marks_after}
use Rattle.iscsi_rules.specs.rules.Items.{agenda, execution, functions}
use Rattle.iscsi_rules.specs.rules.Logout.{all_held, is_last_open, is_open, live_of_units, parting as parted}
use Rattle.iscsi_rules.specs.rules.Settings.{Setting, is_known}
use Rattle.iscsi_rules.specs.rules.Trace.{Arrival, Command, Empties, Executes, Leaves, Mark, Trace, held, is_closed, live, waiting}
use Rattle.iscsi_rules.proofs.general.BoolLemmas.{and_both}
use Rattle.iscsi_rules.proofs.general.ElementLemmas.{In}
use Rattle.iscsi_rules.proofs.items.FormItems.{Does, does_after}
use Rattle.iscsi_rules.proofs.items.Forms.{AtArrival, Executed, marks_done}
use Rattle.iscsi_ffi_rules.specs.rules.Happening.{leaving}
use Rattle.iscsi_ffi_rules.specs.rules.Run.{parting}
use Rattle.iscsi_ffi_law.specs.Arrived.{emptying}
use Rattle.iscsi_outbox_law.specs.private.Pairs.{EachOf, InOrder}
use Rattle.iscsi_ffi_law.proofs.session_invariants.FitArrivals.{AllAre}
use Rattle.iscsi_ffi_law.proofs.session_invariants.FitEmptied.{emptied_fit}
use Rattle.iscsi_ffi_law.proofs.session_invariants.FitMarks.{fewer_each}
use Rattle.iscsi_ffi_law.proofs.session_invariants.FitParting.{deed_if, items_are, names_it}
use Rattle.iscsi_ffi_law.proofs.session_invariants.FitPrompt.{none_at}
use Rattle.iscsi_ffi_law.proofs.session_invariants.FitReceived.{IsWired}
use Rattle.iscsi_ffi_law.proofs.session_invariants.FitTurns.{none_received}
use Rattle.iscsi_ffi_law.proofs.general.Members.{in_each}
use Rattle.iscsi_ffi_law.proofs.arrivals.Opens.{emptied_seen, filter_apart, held_apart, leaving_seen}
use Rattle.iscsi_ffi_law.proofs.logouts.Parting.{close_marks, emptied_parted, empties_parted, leaves_parted, parted_item, parted_marks, receives_parted}
use Rattle.iscsi_ffi_law.proofs.items.Plain.{plain_item}

module _ (o : Setting) (now : ℕ) (t : Trace) (conn : ℕ) (known : is_known conn o.conns ≡ true) (unclosed : is_closed conn t ≡ false) (ahead : EachOf (λ (b : Arrival). exp_of o t + 1 ≤ b.number) (waiting t)) where
  abbrev pub a : Arrival
  a = arrival_of o now t (request_of conn (parting conn))

  abbrev begun : Trace
  begun = (Executes a ∷ []) ∷ t

  -- those that leave, and the held requests that are taken out
  abbrev pub cs : List Command
  cs = filter (λ (c : Command). connection_of c.arrival.request == conn) (live_of_units o begun)

  abbrev pub bs : List Arrival
  bs = filter (λ (b : Arrival). connection_of b.request == conn) (all_held o begun)

  abbrev pub ends : Bool
  ends = is_last_open o begun conn

  abbrev pub the_item : List Mark
  the_item = parted_item AtArrival a cs bs (Logout (itt a.request) 0) (Some conn) ends

  marks_are : marks_after o begun a ≡ parted_marks a cs bs (Logout (itt a.request) 0) (Some conn) ends
  marks_are =
      ap (λ k. deed_marks o begun a (deed_if (is_open o begun k) k)) (names_it o now t conn known unclosed)
      ∙ ap (λ v. deed_marks o begun a (deed_if v conn)) (and_both (is_known conn o.conns) (not (is_closed conn begun)) known (ap not unclosed))
      ∙ append_assoc (map Leaves cs ++ map Empties bs) (parted a 0) (close_marks (Some conn) ends)
      ∙ append_assoc (map Leaves cs) (map Empties bs) (parted a 0 ++ close_marks (Some conn) ends)

  item_is : execution o t (Executes a) a ≡ the_item
  item_is = ap (λ ms. Executes a ∷ ms) marks_are

  -- no number is due by it, and no function waits for the one that is expected
  none_due : agenda o (exp_of o t) (exp_of o (the_item ∷ t) - exp_of o t) (the_item ∷ t) ≡ []
  none_due =
      ap (λ n. agenda o (exp_of o t) (n - exp_of o t) (the_item ∷ t)) (none_received o the_item t (receives_parted AtArrival a cs bs (Logout (itt a.request) 0) (Some conn) ends refl))
      ∙ ap (λ n. agenda o (exp_of o t) n (the_item ∷ t)) (nothing (exp_of o t))
      ∙ ap (λ as'. functions o as' (the_item ∷ t)) (none_at (exp_of o t) (waiting (the_item ∷ t)) waits)
    where
      nothing : (n : ℕ) → n - n ≡ 0
      nothing n = omega arith

      waits : EachOf (λ (b : Arrival). exp_of o t + 1 ≤ b.number) (waiting (the_item ∷ t))
      waits = subst (λ (item : List Mark). EachOf (λ (b : Arrival). exp_of o t + 1 ≤ b.number) (waiting (item ∷ t))) item_is
          (fewer_each o t AtArrival a _ (does_after o t AtArrival a) (λ (b : Arrival). exp_of o t + 1 ≤ b.number) ahead)

  pub one_item : items_of o now t (Arrive conn (parting conn)) ≡ the_item ∷ []
  one_item =
      items_are o now t conn known unclosed
      ∙ ap (λ (item : List Mark). item ∷ agenda o (exp_of o t) (exp_of o (item ∷ t) - exp_of o t) (item ∷ t)) item_is
      ∙ ap (λ (items : List (List Mark)). the_item ∷ items) none_due

  -- ---- what is known of those

  abbrev reply : Reply
  reply = Logout (itt a.request) 0

  does : Does o t AtArrival a (marks_after o begun a)
  does = does_after o t AtArrival a

  seen : marks_done a does.deeds ≡ parted_marks a cs bs reply (Some conn) ends
  seen = sym does.is ∙ marks_are

  these : does.deeds.leaving ≡ cs
  these = sym (leaving_seen a does.deeds) ∙ ap (filter_map leaving) seen ∙ leaves_parted a cs bs reply (Some conn) ends

  those : does.deeds.emptied ≡ bs
  those = sym (emptied_seen a does.deeds) ∙ ap (filter_map emptying) seen ∙ empties_parted a cs bs reply (Some conn) ends

  -- those that leave are live, each once
  pub leave_once : (p : Command → Bool) → count_by p cs ≤ count_by p (live t)
  leave_once p = subst (λ ds. count_by p ds ≤ count_by p (live t)) these (does.done.leaves p)

  -- those that are taken out are held, by numbers of their own, with which they came
  pub held_there : EachOf (λ (b : Arrival). held (plain_item AtArrival a None None None ∷ t) b.number ≡ Some b) bs
  held_there = in_each (λ (b : Arrival). held (plain_item AtArrival a None None None ∷ t) b.number ≡ Some b) bs (λ b there. does.done.empties b (subst (In b) (sym those) there))

  pub held_apart_there : InOrder (λ (b c : Arrival). (b.number == c.number) ≡ false) bs
  held_apart_there = filter_apart (λ (b : Arrival). connection_of b.request == conn) (all_held o begun) (held_apart begun (number_of_first o.first) (exp_of o begun + o.window - number_of_first o.first))

  pub held_as_came : EachOf (λ (b : Arrival). wire b.number ≡ cmd_sn b.request) (filter_map emptying the_item) → EachOf (λ (b : Arrival). wire b.number ≡ cmd_sn b.request) bs
  held_as_came = subst (EachOf (λ (b : Arrival). wire b.number ≡ cmd_sn b.request)) (emptied_parted AtArrival a cs bs reply (Some conn) ends)

  pub emptied_as_came : AllAre IsWired t → EachOf (λ (b : Arrival). wire b.number ≡ cmd_sn b.request) (filter_map emptying the_item)
  emptied_as_came wires = emptied_fit o now t the_item (record { form = Executed AtArrival a does.deeds; is = ap (λ ms. Executes a ∷ ms) (sym seen); formed = (refl, does.done) }) wires
