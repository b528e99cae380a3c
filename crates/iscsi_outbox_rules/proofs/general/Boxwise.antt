-- What each step of a call keeps, the call keeps.
use Rattle.std.proofs.Common.{◌≡◌, ℕ, ⊎_elim, List, [], ◌∷◌, ◌++◌, length, max, nat_lt, Some, None, refl, ap, sym, subst, ◌+◌, ◌∙◌, true}
use Rattle.std.proofs.lemmas.Bool.{cond_both}
use Rattle.std.proofs.lemmas.List.{append-nil}
use Rattle.iscsi_rules.specs.declared.effect.Effect.{Effect}
use Rattle.iscsi_outbox_rules.specs.declared.own_pdu.OwnPdu.{OwnPdu}
use Rattle.iscsi_outbox_rules.specs.rules.Calls.{Opening, Call, Takes, Puts, Stops, Nexts, Writes, Hears, Joins, Loses, Clears}
use Rattle.iscsi_outbox_rules.specs.rules.Boxes.{Handed, Link, Box}
use Rattle.iscsi_outbox_rules.specs.rules.Words.{is_open, is_running}
use Rattle.iscsi_outbox_rules.specs.rules.Queues.{at_link, enter, drop_on}
use Rattle.iscsi_outbox_rules.specs.rules.Due.{settle}
use Rattle.iscsi_outbox_rules.specs.rules.Items.{in_phase}
use Rattle.iscsi_outbox_rules.specs.rules.Own.{own_conn, own_outgoing, put_refusal}
use Rattle.iscsi_outbox_rules.specs.rules.Handing.{handed_as, after_given}
use Rattle.iscsi_outbox_rules.specs.rules.Run.{after_call, answered, phase_stopped, one_written, arrived_by_stat_sn, arrived_by_ping, link_heard, may_join, link_joined, link_lost, cleared}
use Rattle.iscsi_outbox_rules.specs.promises.Deeds.{Deed, items_in, items_of_call}
use Rattle.iscsi_rules.proofs.general.BoolLemmas.{or_second}
use Rattle.iscsi_outbox_rules.proofs.general.Walks.{over_after, Walk, settles, event_keeps}
use Rattle.iscsi_outbox_rules.proofs.general.DeedLemmas.{items_in-more}
use Rattle.iscsi_outbox_rules.proofs.general.Chosen.{Chosen, chosen_from}
use Rattle.iscsi_outbox_rules.proofs.general.Cuts.{Handing, Hand, Idle, next}

-- it has the same PDUs
pub record Alike (l m : Link) : Type 0 where
  pub conn : m.conn ≡ l.conn
  pub queue : m.queue ≡ l.queue
  pub handed : m.handed ≡ l.handed

-- `J` stands as a PDU is handed out
pub record Boxwise (o : Opening) (J : List Deed → Box → Type 0) (I : List (List Effect) → Box → Type 0) : Type 0 where
  pub walk : Walk o I
  pub numbers : (items : List (List Effect)) (b : Box) (exp max : ℕ) → I items b → I items (record b { exp = exp; max = max })
  pub puts : (items : List (List Effect)) (b : Box) (conn : ℕ) (p : OwnPdu) → I items b → I items (enter conn (own_outgoing p) b)
  pub marks : (items : List (List Effect)) (b : Box) (conn : ℕ) (change : Link → Link) → ((l : Link) → Alike l (change l)) → I items b → I items (record b { links = at_link conn change b.links })
  pub reaches : (items : List (List Effect)) (b : Box) (n : ℕ) → I items b → I items (record b { reached = n })
  pub clears : (items : List (List Effect)) (b : Box) (unit : ℕ) → I items b → I items (record b { undue = cleared unit b.undue })
  pub hands : (ds : List Deed) (b : Box) (conn : ℕ) (h : Handed) (n : Handing o b conn h) → Chosen o b n.link n.out → J ds b → I (items_in ds) b → I (items_in ds) (after_given o b n.link (handed_as o b n.link n.out))

module _ (o : Opening) (J : List Deed → Box → Type 0) (I : List (List Effect) → Box → Type 0) (w : Boxwise o J I) where
  settled : (items : List (List Effect)) (b : Box) → I items b → I items (settle o b)
  settled items b h = settles o I w.walk items b h

  heard : (exp_stat_sn tag : ℕ) (l : Link) → Alike l (link_heard exp_stat_sn tag l)
  heard exp_stat_sn tag l =
      cond_both (is_open l) (record l { arrived = max l.arrived (max (arrived_by_stat_sn l exp_stat_sn) (arrived_by_ping l tag)) }) l (Alike l)
      (λ is. record { conn = refl; queue = refl; handed = refl }) (λ is. record { conn = refl; queue = refl; handed = refl })

  wrote : (l : Link) → Alike l (one_written l)
  wrote l =
      cond_both (nat_lt l.written (length l.handed)) (record l { written = l.written + 1 }) l (Alike l)
      (λ is. record { conn = refl; queue = refl; handed = refl }) (λ is. record { conn = refl; queue = refl; handed = refl })

  put : (items : List (List Effect)) (b : Box) (p : OwnPdu) → I items b → I items (after_call o b (Puts p))
  put items b p h =
      elim (put_refusal o b p) as (λ x. I items (elim x [ Some refusal ↦ b | None ↦ elim (own_conn b p) [ Some conn ↦ enter conn (own_outgoing p) b | None ↦ b ] ])) [
        | Some refusal ↦ h
        | None ↦ elim (own_conn b p) as (λ x. I items (elim x [ Some conn ↦ enter conn (own_outgoing p) b | None ↦ b ])) [
          | Some conn ↦ w.puts items b conn p h
          | None ↦ h
        ]
      ]

  no_items : (ds : List Deed) (deed : Deed) (b : Box) → items_of_call deed.0 ≡ [] → I (items_in ds) b → I (items_in (ds ++ deed ∷ [])) b
  no_items ds deed b none h = subst (λ its. I its b) (sym (items_in-more ds deed ∙ ap (λ its. items_in ds ++ its) none ∙ append-nil (items_in ds))) h

  lose : (items : List (List Effect)) (b : Box) (conn : ℕ) → I items b → I items (after_call o b (Loses conn))
  lose items b conn h =
      let marked : Box = record b { links = at_link conn link_lost b.links } in
      let lost : Box = record marked { reached = 0 } in
      settled items (drop_on conn lost) (w.walk.drops_on items lost conn (over_after conn link_lost (λ l. or_second l.closed true refl) b.links) (w.reaches items marked 0 (w.marks items b conn link_lost (λ l. record { conn = refl; queue = refl; handed = refl }) h)))

  pub box_keeps : (ds : List Deed) (b : Box) (c : Call) → J ds b → I (items_in ds) b → I (items_in (ds ++ (c, answered o b c) ∷ [])) (after_call o b c)
  box_keeps ds b (Takes effects numbers) j h =
      subst (λ its. I its (after_call o b (Takes effects numbers))) (sym (items_in-more ds (Takes effects numbers, answered o b (Takes effects numbers))))
      (event_keeps o I w.walk w.numbers (items_in ds) b effects numbers h)
  box_keeps ds b (Puts p) j h = no_items ds (Puts p, answered o b (Puts p)) (after_call o b (Puts p)) refl (put (items_in ds) b p h)
  box_keeps ds b (Stops ticket) j h =
      no_items ds (Stops ticket, answered o b (Stops ticket)) (after_call o b (Stops ticket)) refl
      (cond_both (is_running b ticket) (settle o (in_phase phase_stopped (ticket ∷ []) b)) b (I (items_in ds))
      (λ is. settled (items_in ds) (in_phase phase_stopped (ticket ∷ []) b) (w.walk.tasks (items_in ds) b _ h)) (λ is. h))
  box_keeps ds b (Nexts conn) j h =
      no_items ds (Nexts conn, answered o b (Nexts conn)) (after_call o b (Nexts conn)) refl
      (⊎_elim
      (λ (k : Hand o b conn). subst (I (items_in ds)) (sym (k.after_is ∙ ap (after_given o b k.handing.link) k.handing.is))
      (w.hands ds b conn k.handed k.handing (chosen_from o b k.handing.link k.handing.out k.handing.chosen_is) j h))
      (λ (k : Idle o b conn). subst (I (items_in ds)) (sym k.after_is) h)
      (next o b conn))
  box_keeps ds b (Writes conn) j h =
      no_items ds (Writes conn, answered o b (Writes conn)) (after_call o b (Writes conn)) refl
      (settled (items_in ds) (record b { links = at_link conn one_written b.links }) (w.marks (items_in ds) b conn one_written wrote h))
  box_keeps ds b (Hears conn exp_stat_sn tag) j h =
      no_items ds (Hears conn exp_stat_sn tag, answered o b (Hears conn exp_stat_sn tag)) (after_call o b (Hears conn exp_stat_sn tag)) refl
      (settled (items_in ds) (record b { links = at_link conn (link_heard exp_stat_sn tag) b.links }) (w.marks (items_in ds) b conn (link_heard exp_stat_sn tag) (heard exp_stat_sn tag) h))
  box_keeps ds b (Joins conn stat_sn) j h =
      no_items ds (Joins conn stat_sn, answered o b (Joins conn stat_sn)) (after_call o b (Joins conn stat_sn)) refl
      (cond_both (may_join b conn) (record b { links = at_link conn (link_joined stat_sn) b.links }) b (I (items_in ds))
      (λ is. w.marks (items_in ds) b conn (link_joined stat_sn) (λ l. record { conn = refl; queue = refl; handed = refl }) h) (λ is. h))
  box_keeps ds b (Loses conn) j h = no_items ds (Loses conn, answered o b (Loses conn)) (after_call o b (Loses conn)) refl (lose (items_in ds) b conn h)
  box_keeps ds b (Clears unit) j h =
      no_items ds (Clears unit, answered o b (Clears unit)) (after_call o b (Clears unit)) refl
      (settled (items_in ds) (record b { undue = cleared unit b.undue }) (w.clears (items_in ds) b unit h))
