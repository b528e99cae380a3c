-- Where a reply goes.
use Rattle.std.proofs.Common.{◌≡◌, ℕ, ◌==◌, ◌∙◌, Bool, false, List, Option, Some, None, sym, ap}
use Rattle.std.specs.List.{list_any, position}
use Rattle.iscsi_wire.specs.declared.reply.Reply.{Reply}
use Rattle.iscsi_wire.specs.declared.request.Request.{Request}
use Rattle.iscsi_rules.specs.declared.effect.Effect.{Effect}
use Rattle.iscsi_outbox_state.specs.declared.waiting.SentReply.{SentReply}
use Rattle.iscsi_outbox_steps.specs.State.{State, place_of}
use Rattle.iscsi_outbox_steps.specs.Steps.{later, send_on, send_placed}
use Rattle.iscsi_outbox.specs.private.Walks.{ends_with}

pub place_is : (s : State) (cids : List ℕ) (n cid : ℕ) (o : Option ℕ) → cids ≡ s.limits.cids → n ≡ cid → position (λ (c : ℕ). c == n) cids ≡ o → place_of s cid ≡ o
place_is s cids n cid o same is e = ap (λ (xs : List ℕ). position (λ (c : ℕ). c == cid) xs) (sym same) ∙ ap (λ k. position (λ (c : ℕ). c == k) cids) (sym is) ∙ e

pub ends_at : (closes : List ℕ) (cid conn : ℕ) (reply : Reply) (s : State) → place_of s cid ≡ Some conn → ends_with closes (Some (cid, reply)) s ≡ list_any (λ p. p == conn) closes
ends_at closes cid conn reply s at = ap (λ (o : Option ℕ). elim o as (λ (q : Option ℕ). Bool) [ Some n ↦ list_any (λ p. p == n) closes | None ↦ false ]) at

pub ends_nowhere : (closes : List ℕ) (cid : ℕ) (reply : Reply) (s : State) → place_of s cid ≡ None → ends_with closes (Some (cid, reply)) s ≡ false
ends_nowhere closes cid reply s at = ap (λ (o : Option ℕ). elim o as (λ (q : Option ℕ). Bool) [ Some n ↦ list_any (λ p. p == n) closes | None ↦ false ]) at

pub send_at : (r : Option Request) (item : List Effect) (numbered : Bool) (closes : List ℕ) (cid conn : ℕ) (reply : SentReply) (s : State) → place_of s cid ≡ Some conn
    → send_placed r item numbered closes cid reply s ≡ send_on conn r item numbered (list_any (λ p. p == conn) closes) reply s
send_at r item numbered closes cid conn reply s at =
    ap (λ (o : Option ℕ). elim o as (λ (q : Option ℕ). State) [ Some n ↦ send_on n r item numbered (list_any (λ p. p == n) closes) reply s | None ↦ record s { waits = later s.waits } ]) at

pub send_nowhere : (r : Option Request) (item : List Effect) (numbered : Bool) (closes : List ℕ) (cid : ℕ) (reply : SentReply) (s : State) → place_of s cid ≡ None
    → send_placed r item numbered closes cid reply s ≡ record s { waits = later s.waits }
send_nowhere r item numbered closes cid reply s at =
    ap (λ (o : Option ℕ). elim o as (λ (q : Option ℕ). State) [ Some n ↦ send_on n r item numbered (list_any (λ p. p == n) closes) reply s | None ↦ record s { waits = later s.waits } ]) at
