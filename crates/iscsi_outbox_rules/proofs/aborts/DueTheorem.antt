-- As the answer to an abort goes out, what went out on other connections of a command that is over by it is through.
use Rattle.std.proofs.Common.{◌≡◌, ℕ, ⊎_elim, ◌==◌, true, false, List, ◌∷◌, ◌++◌, Option, Some, None, refl, ap, sym, subst, ◌∙◌}
use Rattle.std.proofs.lemmas.Bool.{false≢true}
use Rattle.iscsi_rules.specs.declared.effect.Effect.{Effect}
use Rattle.iscsi_outbox_rules.specs.rules.Calls.{Opening, Call}
use Rattle.iscsi_outbox_rules.specs.rules.Boxes.{Outgoing, Handed, Link, Box}
use Rattle.iscsi_outbox_rules.specs.rules.Words.{contains}
use Rattle.iscsi_outbox_rules.specs.promises.Deeds.{Deed, deeds_of, items_in, handed_in_deed, FollowsSession, FollowsKnown}
use Rattle.iscsi_outbox_rules.specs.promises.Scope.{Sent, nth, sent_by, sent_as, aim_of_sent, is_taken_out_by}
use Rattle.iscsi_outbox_rules.specs.promises.Still.{is_abort, ArrivesBefore}
use Rattle.iscsi_outbox_rules.proofs.general.EachLemmas.{EachOf, each-first_of}
use Rattle.iscsi_outbox_rules.proofs.general.Chosen.{FromQueue, IsPing, IsNotice, chosen_from}
use Rattle.iscsi_outbox_rules.proofs.general.Cuts.{Handing, at_handing}
use Rattle.iscsi_outbox_rules.proofs.general.FoundLemmas.{found-conn}
use Rattle.iscsi_outbox_rules.proofs.general.FirstLemmas.{firsts}
use Rattle.iscsi_outbox_rules.proofs.order.SentLemmas.{one_reply_before, sent_by-firsts}
use Rattle.iscsi_outbox_rules.proofs.aborts.SilentItems.{some_sent}
use Rattle.iscsi_outbox_rules.proofs.aborts.ScopeTheorem.{over_in_scope}
use Rattle.iscsi_outbox_rules.proofs.aborts.DueWays.{is_for_abort, IsClear, Cleared, Way, Ways}
use Rattle.iscsi_outbox_rules.proofs.aborts.DueCalls.{WaysStand, ways_kept, ways_start}

module _ (o : Opening) (calls : List Call) (of : FollowsKnown o calls) (before after : List Deed) (answer : Deed) (c : ℕ) (h : Handed) (t : ℕ) (whole : before ++ answer ∷ after ≡ deeds_of o calls)
    (shown : handed_in_deed answer ≡ Some (c, h)) (s : Sent) (is_sent : sent_as (items_in before) h.out ≡ Some s) (over : is_taken_out_by o s t ≡ true) (abort : is_for_abort o s ≡ true) (inside : contains h.out.scope t ≡ true) where
  abbrev follows : FollowsSession o calls
  follows = (of.events, of.follows)

  abbrev items : List (List Effect)
  items = items_in before

  placed : (p : ℕ) × ((h.out.sent ≡ Some p) × (nth p (sent_by items) ≡ Some s))
  placed = by_place (h.out.sent) refl is_sent
    where
      by_place : (x : Option ℕ) → h.out.sent ≡ x → elim x [ Some p ↦ nth p (sent_by items) | None ↦ None ] ≡ Some s → (p : ℕ) × ((h.out.sent ≡ Some p) × (nth p (sent_by items) ≡ Some s))
      by_place None e k = absurd cc
      by_place (Some p) e k = (p, (e, k))

  same_place : (p q : ℕ) → Some p ≡ Some q → p ≡ q
  same_place p q e = cc

  abbrev moment : (b : Box) × WaysStand o t calls follows before b × Handing o b c h
  moment = let m = at_handing o calls (WaysStand o t calls follows) (ways_kept o t calls follows) (ways_start o t calls follows) before after answer c h whole shown in (m.0, m.1, m.2)

  abbrev box : Box
  box = moment.0

  n : Handing o box c h
  n = moment.2

  ways : Ways o t calls follows before (answer ∷ after) whole items box
  ways = moment.1.ways (answer ∷ after) whole

  sent : n.out.sent ≡ Some placed.0
  sent = ap (λ (x : Handed). x.out.sent) (sym n.is) ∙ placed.1.0

  unsent : n.out.sent ≡ None → IsClear o t before c
  unsent none = absurd (let no : None ≡ Some placed.0 = sym none ∙ sent in cc)

  said : Cleared o t items before n.link.conn n.out → IsClear o t before c
  said y =
      let place : y.place ≡ placed.0 = same_place y.place placed.0 (sym y.place_is ∙ sent) in
      let same : y.reply ≡ s =
      some_sent y.reply s
      (sym y.nth_is ∙ ap (λ p. nth p (firsts items)) place ∙ ap (nth placed.0) (sym (sent_by-firsts items (one_reply_before o calls before (answer ∷ after) whole follows))) ∙ placed.1.1) in
      subst (IsClear o t before) (found-conn c box.links n.link n.found) (y.clear (subst (λ r. is_taken_out_by o r t ≡ true) (sym same) over) (subst (λ r. is_for_abort o r ≡ true) (sym same) abort))

  queued : FromQueue o box n.link n.out → IsClear o t before c
  queued q =
      said
      ((subst (EachOf (Way o t items before n.link.conn)) q.queue_is (each-first_of (λ (l : Link). EachOf (Way o t items before l.conn) l.queue) (λ (m : Link). m.conn == c) box.links n.link n.found ways.queues)).0
      (ap (λ (x : Handed). contains x.out.scope t) (sym n.is) ∙ inside))

  is_clear : IsClear o t before c
  is_clear =
      ⊎_elim queued
      (⊎_elim (λ (p : IsPing o box n.link n.out). unsent (ap (λ (x : Outgoing). x.sent) p.is)) (λ (p : IsNotice o box n.link n.out). unsent (ap (λ (x : Outgoing). x.sent) p.is)))
      (chosen_from o box n.link n.out n.chosen_is).source

pub arrives_before : (o : Opening) (calls : List Call) → FollowsKnown o calls → ArrivesBefore o (deeds_of o calls)
arrives_before o calls of before after answer c h ticket whole shown abort over = by_sent (sent_as (items_in before) h.out) refl abort over
  where
    by_sent : (x : Option Sent) → sent_as (items_in before) h.out ≡ x
        → elim x [ Some s ↦ elim (aim_of_sent o s) [ Some about ↦ is_abort about | None ↦ false ] | None ↦ false ] ≡ true → elim x [ Some s ↦ is_taken_out_by o s ticket | None ↦ false ] ≡ true → IsClear o ticket before c
    by_sent None is aborts e = absurd (false≢true e)
    by_sent (Some s) is aborts e = is_clear o calls of before after answer c h ticket whole shown s is e aborts (over_in_scope o calls of before after answer c h ticket whole shown over)
