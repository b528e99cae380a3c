-- A connection that a reply closes gives nothing behind it.
use Rattle.std.proofs.Common.{◌≡◌, ℕ, ⊎_elim, ◌==◌, Bool, true, false, List, [], ◌∷◌, ◌++◌, Option, Some, None, refl, ap, sym, subst, ◌∙◌}
use Rattle.std.specs.List.{list_any, flat_map}
use Rattle.std.proofs.lemmas.Bool.{false≢true, eqb-true}
use Rattle.iscsi_rules.specs.declared.effect.Effect.{Effect}
use Rattle.iscsi_rules.specs.declared.entry.Entry.{Entry}
use Rattle.iscsi_rules.specs.promises.Order.{in_parts}
use Rattle.iscsi_outbox_rules.specs.rules.Calls.{Opening, Call}
use Rattle.iscsi_outbox_rules.specs.rules.Boxes.{Handed, Link, Box}
use Rattle.iscsi_outbox_rules.specs.rules.Words.{contains}
use Rattle.iscsi_outbox_rules.specs.rules.Run.{opened}
use Rattle.iscsi_outbox_rules.specs.promises.Deeds.{Deed, deeds_of, items_in, handed_in_deed, FollowsKnown}
use Rattle.iscsi_outbox_rules.specs.promises.Scope.{Sent, nth, sent_by, is_closed_with, says_closed}
use Rattle.iscsi_outbox_rules.specs.promises.Closed.{NoneBehind}
use Rattle.iscsi_outbox_rules.proofs.general.EachLemmas.{each-first_of}
use Rattle.iscsi_outbox_rules.proofs.general.Cuts.{Handing, at_handing}
use Rattle.iscsi_outbox_rules.proofs.general.Chosen.{chosen_from}
use Rattle.iscsi_outbox_rules.proofs.general.DeedLemmas.{items_in-append}
use Rattle.iscsi_outbox_rules.proofs.general.FoundLemmas.{found-conn}
use Rattle.iscsi_outbox_rules.proofs.order.SentLemmas.{items_logged}
use Rattle.iscsi_outbox_rules.proofs.order.PlaceRuns.{IsSent, IsOwn}
use Rattle.iscsi_outbox_rules.proofs.order.PlaceSent.{SentHere, sent_here}
use Rattle.iscsi_outbox_rules.proofs.order.OnceTheorem.{Reply_moment, reply_moment}
use Rattle.iscsi_outbox_rules.proofs.general.ConnLemmas.{conns_of}
use Rattle.iscsi_outbox_rules.proofs.closes.MarkRuns.{closed_by}
use Rattle.iscsi_outbox_rules.proofs.closes.SealTheorem.{known_conn, none_behind_closing}
use Rattle.iscsi_outbox_rules.proofs.closes.ElsewhereTheorem.{Fits, none_behind_elsewhere}
use Rattle.iscsi_outbox_rules.proofs.closes.TiedRuns.{Tie, TiedLink}
use Rattle.iscsi_outbox_rules.proofs.closes.TiedCalls.{TiedStand, tied_out, tied_kept, tied_start}
use Rattle.iscsi_outbox_rules.proofs.closes.ClosedParts.{EachAt, each-at}
use Rattle.iscsi_outbox_rules.proofs.closes.ClosedItems.{Fitting, fitting_log}

-- what is taken fits: replies go out on their requests' connections, and none on one that was closed
fitting : (o : Opening) (calls : List Call) → FollowsKnown o calls → EachAt Fitting [] (items_in (deeds_of o calls))
fitting o calls f = subst (EachAt Fitting []) (sym (items_logged o (opened o) calls ∙ ap (flat_map (λ (e : Entry). in_parts e.effects)) f.follows)) (fitting_log o.session f.events f.known)

-- a PDU that went out is tied
went_tied : (o : Opening) (calls : List Call) (c : ℕ) → list_any (λ k. k == c) (conns_of (opened o).links) ≡ true → (before after : List Deed) (deed : Deed) (h : Handed)
    → before ++ deed ∷ after ≡ deeds_of o calls → handed_in_deed deed ≡ Some (c, h) → Tie o (items_in (deeds_of o calls)) c h.out
went_tied o calls c known before after deed h whole shown =
    let all : List (List Effect) = items_in (deeds_of o calls) in
    let cs : List ℕ = conns_of (opened o).links in
    let m = at_handing o calls (TiedStand o all c cs known) (tied_kept o all c cs known) (tied_start o all c known) before after deed c h whole shown in
    let b : Box = m.0 in
    let n : Handing o b c h = m.2 in
    let l : Link = n.link in
    let link : TiedLink o all c l =
    each-first_of (TiedLink o all c) (λ (k : Link). k.conn == c) b.links l n.found (m.1.tied (items_in (deed ∷ after)) (sym (items_in-append before (deed ∷ after)) ∙ ap items_in whole)).links in
    subst (λ (x : Handed). Tie o all c x.out) (sym n.is) (tied_out o all c b l n.out (chosen_from o b l n.out n.chosen_is) (link (found-conn c b.links l n.found)))

module _ (o : Opening) (calls : List Call) (follows : FollowsKnown o calls) where
  abbrev all : List (List Effect)
  all = items_in (deeds_of o calls)

  -- of one that closes its own connection
  behind_own : (before between after : List Deed) (deed later : Deed) (c : ℕ) (h g : Handed) → before ++ deed ∷ (between ++ later ∷ after) ≡ deeds_of o calls
      → handed_in_deed deed ≡ Some (c, h) → handed_in_deed later ≡ Some (c, g) → says_closed o (items_in before) h.out c ≡ false
  behind_own before between after deed later c h g whole shown shown_later = by_test (says_closed o items h.out c) refl
    where
      items : List (List Effect)
      items = items_in before

      says : Option Sent → Bool
      says x = elim x [ Some s ↦ is_closed_with o s c | None ↦ false ]

      moment : Reply_moment o before c h
      moment = reply_moment o calls before (between ++ later ∷ after) deed c h whole shown

      own : says_closed o items h.out c ≡ true → IsOwn h.out → ⊥
      own is k = false≢true (sym (ap (λ x. says (elim x [ Some place ↦ nth place (sent_by items) | None ↦ None ])) k.none) ∙ is)

      shut : contains h.out.closes c ≡ false
      shut = none_behind_closing o calls c (λ b rest item split s found at. ap (closed_by b) (sym at) ∙ (each-at Fitting all b rest item (fitting o calls follows) split).on_open s.0 s.1 found) before between after deed later h g whole shown shown_later

      sent : says_closed o items h.out c ≡ true → IsSent items c h.out → ⊥
      sent is k =
          let here : SentHere o calls before h k.place k.reply = sent_here o calls (follows.events, follows.follows) before (deed ∷ (between ++ later ∷ after)) whole c h k in
          let known : list_any (λ n. n == c) (conns_of (opened o).links) ≡ true = known_conn o calls before (between ++ later ∷ after) deed c h whole shown in
          false≢true (sym shut ∙ went_tied o calls c known before (between ++ later ∷ after) deed h whole shown k.place k.reply k.place_is here.in_all (sym (ap says here.as_sent) ∙ is))

      by_test : (v : Bool) → says_closed o items h.out c ≡ v → says_closed o items h.out c ≡ false
      by_test false is = is
      by_test true is = absurd (⊎_elim (sent is) (own is) moment.entry)

  pub none_behind : NoneBehind o (deeds_of o calls)
  none_behind before between after deed later c d h g whole shown shown_later = by_conn (d == c) refl
    where
      fits : Fits all
      fits b rest item r conn reply split executes found = (each-at Fitting all b rest item (fitting o calls follows) split).on_own r conn reply executes found

      by_conn : (v : Bool) → (d == c) ≡ v → says_closed o (items_in before) h.out d ≡ false
      by_conn false apart = none_behind_elsewhere o calls (follows.events, follows.follows) fits before between after deed later c d h g whole shown shown_later apart
      by_conn true is =
          let same : d ≡ c = eqb-true d c is in
          ap (says_closed o (items_in before) h.out) same ∙ behind_own before between after deed later c h g whole shown (shown_later ∙ ap (λ e. Some (e, g)) same)
