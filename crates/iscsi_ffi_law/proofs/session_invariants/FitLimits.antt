-- The limits of a session behind steps that are read with room: how much it has at once, and what else each of its events keeps.
use Rattle.std.proofs.Common.{◌≡◌, ℕ, ◌≤◌, true, List, [], ◌∷◌, subst}
use Rattle.iscsi_rules.specs.declared.event.Event.{Event}
use Rattle.iscsi_rules.specs.rules.Run.{after_event}
use Rattle.iscsi_rules.specs.rules.Settings.{are_distinct}
use Rattle.iscsi_rules.specs.rules.Trace.{Trace}
use Rattle.iscsi_rules.proofs.general.BoolLemmas.{and_parts}
use Rattle.iscsi_outbox_rules.specs.promises.Room.{Both, Happens, Other, Step, after_step, after_steps, all_are, begun, is_read_with_room}
use Rattle.iscsi_outbox_rules.specs.rules.Calls.{Opening}
use Rattle.iscsi_outbox_rules.specs.rules.Words.{most_at_once}
use Rattle.iscsi_outbox_rules.proofs.room.RoomBound.{few_at_once}
use Rattle.iscsi_outbox_rules.proofs.room.RoomStored.{at_once}
use Rattle.iscsi_outbox_rules.proofs.room.RoomTheorem.{Stands, begun_stands, step_stands}
use Rattle.iscsi_ffi_law.proofs.outbox_invariants.FitReached.{Reached}

module _ (o : Opening) where
  -- ---- what each event keeps of a trace

  module _ (P : Trace → Type 0) (keeps : (now : ℕ) (t : Trace) (e : Event) → P t → P (after_event o.session now t e)) where
    kept_from : (b : Both) (steps : List Step) → P b.trace → P (after_steps o b steps).trace
    kept_from b [] h = h
    kept_from b (Happens e ∷ steps) h = kept_from (after_step o b (Happens e)) steps (keeps b.event b.trace e h)
    kept_from b (Other c ∷ steps) h = kept_from (after_step o b (Other c)) steps h

    pub trace_reached : P [] → (b : Both) → Reached o b → P b.trace
    trace_reached first b r = subst (λ (x : Both). P x.trace) r.is (kept_from (begun o) r.steps first)

  -- ---- room

  module _ (distinct : are_distinct o.session.conns ≡ true) where
    stands_from : (b : Both) (steps : List Step) → all_are (is_read_with_room o) o b steps ≡ true → Stands o b → Stands o (after_steps o b steps)
    stands_from b [] all h = h
    stands_from b (step ∷ steps) all h =
        let parts = and_parts (is_read_with_room o b step) (all_are (is_read_with_room o) o (after_step o b step) steps) all in
        stands_from (after_step o b step) steps parts.1 (step_stands o b step parts.0 h)

    pub stands_reached : (b : Both) → Reached o b → Stands o b
    stands_reached b r = subst (Stands o) r.is (stands_from (begun o) r.steps r.read (begun_stands o distinct))

    -- held, waiting and live
    pub few_reached : (b : Both) → Reached o b → at_once b.trace ≤ most_at_once o
    few_reached b r = let s = stands_reached b r in few_at_once o.session b.trace b.event s.forms s.within s.known
