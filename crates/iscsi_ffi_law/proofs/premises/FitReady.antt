-- Before each item of an event by which a request arrives that is taken, there is a place for the reply that goes out by it.
use Rattle.std.proofs.Common.{◌≡◌, ℕ, ◌+◌, ◌≤◌, ◌<◌, List, [], ◌∷◌, filter_map, Some, ap, arith}
use Rattle.iscsi_wire.specs.declared.reply.Reply.{Reply}
use Rattle.iscsi_rules.specs.rules.Trace.{Mark, first_of}
use Rattle.iscsi_outbox_rules.specs.promises.Room.{places}
use Rattle.iscsi_outbox_rules.specs.rules.Items.{reply_sent}
use Rattle.iscsi_outbox_rules.specs.rules.Words.{replies_waiting}
use Rattle.iscsi_outbox_rules.proofs.closes.ClosedParts.{EachOn, effects_each}
use Rattle.iscsi_outbox_rules.proofs.room.RoomReplies.{AreOne}
use Rattle.iscsi_ffi_rules.specs.rules.Calls.{Interface}
use Rattle.iscsi_ffi_rules.specs.rules.Sides.{Side}
use Rattle.iscsi_ffi_law.specs.Arrived.{effects_by, side_behind}
use Rattle.iscsi_ffi_law.proofs.outbox_invariants.FitNumbers.{all_sends, one_sent}
use Rattle.iscsi_ffi_law.proofs.session_invariants.FitOrder.{IsWaited}
use Rattle.iscsi_ffi_law.proofs.outbox_invariants.FitWaiting.{item_waiting}

-- where a reply goes out, there is a place for it; a function that has waited is the first one
pub record IsStepReady (i : Interface) (r : Side) (item : List Mark) : Type 0 where
  pub replies : (conn : ℕ) (reply : Reply) → first_of (filter_map reply_sent (effects_by i r item)) ≡ Some (conn, reply) → replies_waiting r.both.box < places i.outbox
  pub waited : IsWaited i.outbox.session r.both.event r.both.trace item

abbrev pub AreStepsReady : Interface → Side → List (List Mark) → Type 0
AreStepsReady i r [] = Unit {0}
AreStepsReady i r (item ∷ items) = IsStepReady i r item × AreStepsReady i (side_behind i r item) items

pub steps_ready : (i : Interface) (r : Side) (items : List (List Mark)) → AreOne r.both.box.links → replies_waiting r.both.box + all_sends (effects_each i.outbox.session r.both.trace items) ≤ places i.outbox → EachOn (IsWaited i.outbox.session r.both.event) r.both.trace items
    → AreStepsReady i r items
steps_ready i r [] alone few waited = tt
steps_ready i r (item ∷ items) alone few waited =
    let w = item_waiting i.outbox r.both.box (effects_by i r item) alone in
    let less = w.few in (
      record { replies = λ conn reply is. (let sent = ap one_sent is in omega (arith, few, sent)); waited = waited.0 },
      steps_ready i (side_behind i r item) items w.alone (omega (arith, few, less)) waited.1,
    )
