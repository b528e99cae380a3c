-- Settling a box in which no answer is due changes nothing.
use Rattle.std.proofs.Common.{◌≡◌, cond, Bool, List, [], ◌∷◌, ◌++◌, ap, sym, ◌∙◌}
use Rattle.std.proofs.lemmas.List.{append_assoc, append-nil}
use Rattle.iscsi_outbox_rules.specs.rules.Calls.{Opening}
use Rattle.iscsi_outbox_rules.specs.rules.Boxes.{Answer, Box}
use Rattle.iscsi_outbox_rules.specs.rules.Queues.{enter}
use Rattle.iscsi_outbox_rules.specs.rules.Due.{settle_from, settle}
use Rattle.iscsi_outbox_rules.proofs.progress.DeadlockSettled.{NoneDue, Settled}

stays_from : (o : Opening) (b : Box) (before rest : List Answer) → NoneDue o b before rest → settle_from o before rest b ≡ record b { undue = before ++ rest }
stays_from o b before [] h = ap (λ (u : List Answer). record b { undue = u }) (sym (append-nil before))
stays_from o b before (a ∷ rest) h =
    ap (λ (v : Bool). cond v (settle_from o before rest (enter a.conn a.out b)) (settle_from o (before ++ a ∷ []) rest b)) h.0
    ∙ stays_from o b (before ++ a ∷ []) rest h.1
    ∙ ap (λ (u : List Answer). record b { undue = u }) (append_assoc before (a ∷ []) rest)

pub stays_settled : (o : Opening) (b : Box) → Settled o b → settle o b ≡ b
stays_settled o b h = stays_from o b [] b.undue h
