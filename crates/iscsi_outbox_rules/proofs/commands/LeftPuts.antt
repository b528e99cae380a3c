-- An own PDU enters only while its command is live, so that putting one keeps it that none waits of a command that left.
use Rattle.std.proofs.Common.{◌≡◌, ℕ, ◌==◌, ◌&&◌, cond, true, false, List, [], ◌∷◌, Option, Some, None, refl, ap, ◌∙◌}
use Rattle.std.proofs.lemmas.Bool.{false≢true, eqb-true}
use Rattle.iscsi_rules.proofs.general.BoolLemmas.{and_parts}
use Rattle.iscsi_rules.proofs.general.ListLemmas.{first_itself}
use Rattle.iscsi_outbox_rules.specs.declared.own_pdu.OwnPdu.{OwnPdu}
use Rattle.iscsi_outbox_rules.specs.declared.own_pdu.OwnPdu.TheVariants.{OfCommand, OfConnection}
use Rattle.iscsi_outbox_rules.specs.declared.own_pdu.PutRefusal.{PutRefusal}
use Rattle.iscsi_outbox_rules.specs.rules.Calls.{Opening, Puts}
use Rattle.iscsi_outbox_rules.specs.rules.Boxes.{Phase, Dormant, Fresh, Started, Completed, Running, Gone, Task, Box}
use Rattle.iscsi_outbox_rules.specs.rules.Words.{is_live_phase, is_left_phase}
use Rattle.iscsi_outbox_rules.specs.rules.Queues.{enter}
use Rattle.iscsi_outbox_rules.specs.rules.Own.{live_task, own_conn, own_outgoing, put_refusal}
use Rattle.iscsi_outbox_rules.specs.rules.Run.{after_call}
use Rattle.iscsi_outbox_rules.proofs.general.EachLemmas.{each-first_of}
use Rattle.iscsi_outbox_rules.proofs.commands.CommandRuns.{own_in}
use Rattle.iscsi_outbox_rules.proofs.commands.LeftRuns.{Silenced, silent_enters}

module _ (t c : ℕ) where
  not_both : (p : Phase) → is_live_phase p ≡ true → is_left_phase p ≡ true → ⊥
  not_both Dormant live left = false≢true left
  not_both Fresh live left = false≢true left
  not_both Started live left = false≢true left
  not_both Completed live left = false≢true live
  not_both Running live left = false≢true live
  not_both Gone live left = false≢true live

  -- the box after a put, by what it finds
  abbrev entered_by : Box → OwnPdu → Option ℕ → Box
  entered_by b p x = elim x [ Some conn ↦ enter conn (own_outgoing p) b | None ↦ b ]

  abbrev put_by : Box → OwnPdu → Option PutRefusal → Box
  put_by b p x = elim x [ Some refusal ↦ b | None ↦ entered_by b p (own_conn b p) ]

  abbrev conn_of : Option Task → Option ℕ
  conn_of x = elim x [ Some y ↦ Some y.conn | None ↦ None ]

  put_other : (b : Box) (p : OwnPdu) → own_in t c (own_outgoing p) ≡ [] → Silenced t c b → (x : Option ℕ) → Silenced t c (entered_by b p x)
  put_other b p none h None = h
  put_other b p none h (Some conn) = silent_enters t c b conn (own_outgoing p) none h

  put_own : (b : Box) (ticket : ℕ) (header : List ℕ) → Silenced t c b → (x : Option Task) → live_task b ticket ≡ x → Silenced t c (entered_by b (OfCommand ticket header) (conn_of x))
  put_own b ticket header h None found = h
  put_own b ticket header h (Some x) found =
      elim (ticket == t) as (λ v. (ticket == t) ≡ v → Silenced t c (enter x.conn (own_outgoing (OfCommand ticket header)) b)) [
        | true ↦ λ is left.
            let parts = and_parts (x.ticket == ticket) (is_live_phase x.phase) (first_itself (λ (y : Task). (y.ticket == ticket) && is_live_phase y.phase) b.tasks x found) in
            absurd (not_both x.phase parts.1
            (each-first_of (λ (y : Task). y.ticket ≡ t → is_left_phase y.phase ≡ true) (λ (y : Task). (y.ticket == ticket) && is_live_phase y.phase) b.tasks x found left
            (eqb-true x.ticket ticket parts.0 ∙ eqb-true ticket t is)))
        | false ↦ λ isnt. silent_enters t c b x.conn (own_outgoing (OfCommand ticket header)) (ap (λ v. cond v (OfCommand ticket header ∷ []) []) isnt) h
      ] refl

  -- an own PDU may enter only while a command with the ticket is live
  pub silent_put : (o : Opening) (b : Box) (p : OwnPdu) → Silenced t c b → Silenced t c (after_call o b (Puts p))
  silent_put o b (OfCommand ticket header) h = by_refusal (put_refusal o b (OfCommand ticket header))
    where
      by_refusal : (x : Option PutRefusal) → Silenced t c (put_by b (OfCommand ticket header) x)
      by_refusal (Some refusal) = h
      by_refusal None = put_own b ticket header h (live_task b ticket) refl
  silent_put o b (OfConnection conn header) h = by_refusal (put_refusal o b (OfConnection conn header))
    where
      by_refusal : (x : Option PutRefusal) → Silenced t c (put_by b (OfConnection conn header) x)
      by_refusal (Some refusal) = h
      by_refusal None = put_other b (OfConnection conn header) refl h (own_conn b (OfConnection conn header))
