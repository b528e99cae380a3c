-- Silent after: nothing of a command goes out after the answer to an abort or Logout by which it is over (SAM-5 section 7), be it that
-- it was taken out, or had completed.
use Rattle.std.specs.Prelude.{◌≡◌, ℕ, true, List, ◌∷◌, ◌++◌, Option, Some, None}
use Rattle.iscsi_rules.specs.declared.effect.Effect.{Effect}
use Rattle.iscsi_outbox_rules.specs.declared.own_pdu.OwnPdu.TheVariants.{OfCommand}
use Rattle.iscsi_outbox_rules.specs.rules.Calls.{Opening}
use Rattle.iscsi_outbox_rules.specs.rules.Boxes.{Pdu, Owns, Outgoing, Handed}
use Rattle.iscsi_outbox_rules.specs.promises.Deeds.{Deed, handed_in_deed, items_in}
use Rattle.iscsi_outbox_rules.specs.promises.Scope.{completed_in, sent_as, says_over}

abbrev pub ticket_of_own : Pdu → Option ℕ
ticket_of_own (Owns (OfCommand ticket header)) = Some ticket
ticket_of_own _ = None

-- the command that a PDU is of: a Data-In or R2T was put for it, and its SCSI Response was sent as it completed
abbrev pub ticket_of : List (List Effect) → Outgoing → Option ℕ
ticket_of items out = elim (ticket_of_own out.pdu) [
  | Some ticket ↦ Some ticket
  | None ↦ elim (sent_as items out) [ Some s ↦ completed_in s.item | None ↦ None ]
]

abbrev pub SilentAfter : Opening → List Deed → Type 0
SilentAfter o ds = (before between after : List Deed) (answer later : Deed) (c d : ℕ) (h g : Handed) (ticket : ℕ)
    → before ++ answer ∷ (between ++ later ∷ after) ≡ ds
    → handed_in_deed answer ≡ Some (c, h) → handed_in_deed later ≡ Some (d, g)
    → says_over o (items_in before) h.out ticket ≡ true
    → ticket_of (items_in (before ++ answer ∷ between)) g.out ≡ Some ticket
    → ⊥
