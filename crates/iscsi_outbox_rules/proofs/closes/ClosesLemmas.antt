-- What an answer closes is what its item closes, and no item before it.
use Rattle.std.proofs.Common.{◌≡◌, ℕ, ◌==◌, ◌&&◌, not, Bool, true, false, List, Option, Some, None, ap, ◌∙◌}
use Rattle.std.specs.List.{list_any}
use Rattle.std.proofs.lemmas.Bool.{false≢true}
use Rattle.iscsi_wire.specs.declared.reply.Reply.{Reply}
use Rattle.iscsi_rules.specs.declared.effect.Effect.{Effect}
use Rattle.iscsi_rules.proofs.general.BoolLemmas.{and_parts, and_both, not_true}
use Rattle.iscsi_outbox_rules.specs.rules.Calls.{Opening}
use Rattle.iscsi_outbox_rules.specs.rules.Boxes.{Aim, Box}
use Rattle.iscsi_outbox_rules.specs.rules.Words.{contains}
use Rattle.iscsi_outbox_rules.specs.rules.Items.{executing, closed_in, newly_closed, aim}
use Rattle.iscsi_outbox_rules.specs.promises.Scope.{closes_in, is_closed_with}
use Rattle.iscsi_outbox_rules.proofs.closes.MarkRuns.{closed_by, cut_by}
use Rattle.iscsi_outbox_rules.proofs.closes.MarkItems.{newly, MarksStand}
use Rattle.iscsi_outbox_rules.proofs.closes.ElsewhereTheorem.{unclosed}

-- `b` is the box before the item
pub closes_tied : (o : Opening) (cs : List ℕ) (c : ℕ) → list_any (λ k. k == c) cs ≡ true → (items : List (List Effect)) (b : Box) (item : List Effect) (conn : ℕ) (reply : Reply) → MarksStand cs items b
    → is_closed_with o (record { before = items; item = item; conn = conn; reply = reply }) c ≡ true → contains (newly_closed b (closed_in b item)) c ≡ true
closes_tied o cs c known items b item conn reply m closes =
    let parts = and_parts (closes_in c item) (not (list_any (closes_in c) items)) (said (aim o (executing item) reply) closes) in
    newly cs (closed_by items) (cut_by items) b item c m.marks (ap (list_any (λ k. k == c)) m.conns ∙ known)
    ∙ and_both (closes_in c item) (not (closed_by items c)) parts.0 (ap (λ v. not v) (unclosed items c (not_true (list_any (closes_in c) items) parts.1)))
  where
    says : Option Aim → Bool
    says x = elim x [ Some about ↦ closes_in c item && not (list_any (closes_in c) items) | None ↦ false ]

    said : (x : Option Aim) → says x ≡ true → (closes_in c item && not (list_any (closes_in c) items)) ≡ true
    said (Some about) is = is
    said None is = absurd (false≢true is)
