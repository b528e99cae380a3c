-- Data in order: a command's own PDUs go out as they were put, all of them before its response.
use Rattle.std.specs.Prelude.{◌≡◌, ℕ, ◌==◌, Bool, false, List, ◌∷◌, ◌++◌, filter, filter_map, Option, Some, None}
use Rattle.iscsi_rules.specs.declared.effect.Effect.{Effect}
use Rattle.iscsi_outbox_rules.specs.declared.own_pdu.OwnPdu.{OwnPdu}
use Rattle.iscsi_outbox_rules.specs.declared.own_pdu.OwnPdu.TheVariants.{OfCommand, OfConnection}
use Rattle.iscsi_outbox_rules.specs.rules.Calls.{Call, Puts}
use Rattle.iscsi_outbox_rules.specs.rules.Boxes.{Pdu, Owns, Handed}
use Rattle.iscsi_outbox_rules.specs.rules.Run.{Answered, Put}
use Rattle.iscsi_outbox_rules.specs.promises.Deeds.{Deed, handed_in_deed, handed_in, items_in}
use Rattle.iscsi_outbox_rules.specs.promises.Scope.{sent_as, completed_in}

abbrev pub taken_by : Call → Answered → Option OwnPdu
taken_by (Puts p) (Put None) = Some p
taken_by _ _ = None

abbrev pub own_of : Pdu → Option OwnPdu
own_of (Owns p) = Some p
own_of _ = None

-- it is of this command, or of this connection
abbrev pub is_of_command : ℕ → OwnPdu → Bool
is_of_command ticket (OfCommand t header) = t == ticket
is_of_command ticket (OfConnection conn header) = false

abbrev pub is_of_connection : ℕ → OwnPdu → Bool
is_of_connection conn (OfCommand t header) = false
is_of_connection conn (OfConnection c header) = c == conn

-- all own PDUs that were taken, and all that were handed out, in order
abbrev pub own_taken : List Deed → List OwnPdu
own_taken ds = filter_map (λ (d : Deed). taken_by d.0 d.1) ds

abbrev pub own_handed : List Deed → List OwnPdu
own_handed ds = filter_map (λ (g : ℕ × Handed). own_of g.1.out.pdu) (handed_in ds)

-- the command that a response completes
abbrev pub completes : List (List Effect) → Handed → Option ℕ
completes items h = elim (sent_as items h.out) [ Some s ↦ completed_in s.item | None ↦ None ]

-- what was handed out of a command's own PDUs is a beginning of what was put
abbrev pub KeepsCommandOrder : List Deed → Type 0
KeepsCommandOrder ds = (before after : List Deed) (ticket : ℕ) → before ++ after ≡ ds
    → (waiting : List OwnPdu) × (filter (is_of_command ticket) (own_handed before) ++ waiting ≡ filter (is_of_command ticket) (own_taken before))

-- what was handed out of a connection's own PDUs is a beginning of what was put
abbrev pub KeepsConnectionOrder : List Deed → Type 0
KeepsConnectionOrder ds = (before after : List Deed) (conn : ℕ) → before ++ after ≡ ds
    → (waiting : List OwnPdu) × (filter (is_of_connection conn) (own_handed before) ++ waiting ≡ filter (is_of_connection conn) (own_taken before))

-- as a command's response goes out, none of its own PDUs waits
abbrev pub RespondsLast : List Deed → Type 0
RespondsLast ds = (before after : List Deed) (handing : Deed) (c : ℕ) (h : Handed) (ticket : ℕ)
    → before ++ handing ∷ after ≡ ds → handed_in_deed handing ≡ Some (c, h) → completes (items_in before) h ≡ Some ticket
    → filter (is_of_command ticket) (own_handed before) ≡ filter (is_of_command ticket) (own_taken before)

pub record OrderHolds (ds : List Deed) : Type 0 where
  pub of_command : KeepsCommandOrder ds
  pub of_connection : KeepsConnectionOrder ds
  pub response : RespondsLast ds
