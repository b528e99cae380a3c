-- A reply that goes out, as the session sent it: among the replies of what was taken, and of all that is.
use Rattle.std.proofs.Common.{◌≡◌, ℕ, List, ◌++◌, Option, Some, None, ap, sym, ◌∙◌}
use Rattle.iscsi_rules.specs.declared.effect.Effect.{Effect}
use Rattle.iscsi_outbox_rules.specs.rules.Calls.{Opening, Call}
use Rattle.iscsi_outbox_rules.specs.rules.Boxes.{Handed}
use Rattle.iscsi_outbox_rules.specs.promises.Deeds.{Deed, deeds_of, items_in, FollowsSession}
use Rattle.iscsi_outbox_rules.specs.promises.Scope.{Sent, nth, sent_by, sent_as}
use Rattle.iscsi_outbox_rules.proofs.general.DeedLemmas.{items_in-append}
use Rattle.iscsi_outbox_rules.proofs.general.FirstLemmas.{firsts, firsts-append, nth-first}
use Rattle.iscsi_outbox_rules.proofs.order.SentLemmas.{one_reply_before, sent_by-firsts}
use Rattle.iscsi_outbox_rules.proofs.order.PlaceRuns.{IsSent}

pub record SentHere (o : Opening) (calls : List Call) (before : List Deed) (h : Handed) (place : ℕ) (s : Sent) : Type 0 where
  pub as_sent : sent_as (items_in before) h.out ≡ Some s
  pub in_all : nth place (firsts (items_in (deeds_of o calls))) ≡ Some s

pub sent_here : (o : Opening) (calls : List Call) → FollowsSession o calls → (before rest : List Deed) → before ++ rest ≡ deeds_of o calls → (c : ℕ) (h : Handed) (k : IsSent (items_in before) c h.out) → SentHere o calls before h k.place k.reply
sent_here o calls follows before rest whole c h k =
    let items : List (List Effect) = items_in before in
    let more = firsts-append items (items_in rest) in
    record {
      as_sent = ap (λ (x : Option ℕ). elim x [ Some place ↦ nth place (sent_by items) | None ↦ None ]) k.place_is
          ∙ ap (nth k.place) (sent_by-firsts items (one_reply_before o calls before rest whole follows)) ∙ k.nth_is;
      in_all = ap (λ its. nth k.place (firsts its)) (sym (ap items_in whole) ∙ items_in-append before rest) ∙ ap (nth k.place) more.1
          ∙ nth-first k.place (firsts items) more.0 k.reply k.nth_is;
    }
