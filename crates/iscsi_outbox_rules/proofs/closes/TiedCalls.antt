-- Call by call: each reply that closes its own connection has it among those that it closes.
use Rattle.std.proofs.Common.{◌≡◌, ℕ, ⊎_elim, ◌==◌, ◌+◌, true, false, List, [], ◌∷◌, ◌++◌, map, drop, length, max, nat_lt, Some, None, refl, ap, sym, subst, ◌∙◌}
use Rattle.std.specs.List.{list_any}
use Rattle.std.proofs.lemmas.Bool.{cond_both}
use Rattle.std.proofs.lemmas.List.{append_assoc, append-nil, map-append}
use Rattle.iscsi_rules.specs.declared.effect.Effect.{Effect}
use Rattle.iscsi_rules.specs.promises.Order.{in_parts}
use Rattle.iscsi_outbox_rules.specs.declared.own_pdu.OwnPdu.{OwnPdu}
use Rattle.iscsi_outbox_rules.specs.rules.Calls.{Opening, Call, Takes, Puts, Stops, Nexts, Writes, Hears, Joins, Loses, Clears}
use Rattle.iscsi_outbox_rules.specs.rules.Boxes.{Outgoing, Handed, Answer, Link, Box}
use Rattle.iscsi_outbox_rules.specs.rules.Words.{is_open, is_running}
use Rattle.iscsi_outbox_rules.specs.rules.Queues.{at_link, enter, drop_on}
use Rattle.iscsi_outbox_rules.specs.rules.Due.{settle}
use Rattle.iscsi_outbox_rules.specs.rules.Items.{in_phase, after_item, after_items}
use Rattle.iscsi_outbox_rules.specs.rules.Own.{own_conn, own_outgoing, put_refusal}
use Rattle.iscsi_outbox_rules.specs.rules.Handing.{is_from_queue, taken_from, after_given}
use Rattle.iscsi_outbox_rules.specs.rules.Run.{new_link, opened, after_call, answered, phase_stopped, one_written, arrived_by_stat_sn, arrived_by_ping, link_heard, may_join, link_joined, link_lost, waits_for_clear, cleared}
use Rattle.iscsi_outbox_rules.specs.promises.Deeds.{Deed, items_in, items_of_call}
use Rattle.iscsi_outbox_rules.proofs.general.EachLemmas.{EachOf, each-append, each-first, each-second, each-first_of, each-at_link, each-drop_one}
use Rattle.iscsi_outbox_rules.proofs.general.SortedLemmas.{each-fewer}
use Rattle.iscsi_outbox_rules.proofs.general.DeedLemmas.{items_in-more}
use Rattle.iscsi_outbox_rules.proofs.general.Walks.{items_keep}
use Rattle.iscsi_outbox_rules.proofs.general.Linkwise.{Stands, walk}
use Rattle.iscsi_outbox_rules.proofs.general.Cuts.{Hand, Idle, next}
use Rattle.iscsi_outbox_rules.proofs.general.Chosen.{FromQueue, Chosen, chosen_from}
use Rattle.iscsi_outbox_rules.proofs.order.PlaceRuns.{Placed, Entry, PlacesStand, place_calls, places_kept, place_starts, own_ping}
use Rattle.iscsi_outbox_rules.proofs.closes.MarkItems.{MarksStand, item_marks}
use Rattle.iscsi_outbox_rules.proofs.closes.MarkCalls.{marks_kept, marks_start}
use Rattle.iscsi_outbox_rules.proofs.general.ConnLemmas.{conns_of}
use Rattle.iscsi_outbox_rules.proofs.closes.SealRuns.{line}
use Rattle.iscsi_outbox_rules.proofs.closes.TiedRuns.{Tie, TiedLink, TiedAnswer, Tied, tied_at, tied_enter, tied_settle, tied_drop, tied_item}

module _ (o : Opening) (all : List (List Effect)) (c : ℕ) where
  abbrev T : Box → Type 0
  T b = Tied o all c b

  abbrev TLink : Link → Type 0
  TLink l = TiedLink o all c l

  abbrev TOut : Outgoing → Type 0
  TOut out = Tie o all c out

  -- what isn't a reply of the session's is tied
  unsent : (out : Outgoing) → out.sent ≡ None → TOut out
  unsent out none p s place nth_is closing = let no : None ≡ Some p = sym none ∙ place in absurd cc

  settled : (b : Box) → T b → T (settle o b)
  settled b h = tied_settle o all c [] b.undue b h

  same_pdus : (conn : ℕ) (change : Link → Link) (b : Box) → ((l : Link) → TLink l → TLink (change l)) → T b → T (record b { links = at_link conn change b.links })
  same_pdus conn change b kept h = record { links = tied_at o all c conn change kept b.links h.links; undue = h.undue }

  put : (b : Box) (p : OwnPdu) → T b → T (after_call o b (Puts p))
  put b p h =
      elim (put_refusal o b p) as (λ x. T (elim x [ Some refusal ↦ b | None ↦ elim (own_conn b p) [ Some conn ↦ enter conn (own_outgoing p) b | None ↦ b ] ])) [
        | Some refusal ↦ h
        | None ↦ elim (own_conn b p) as (λ x. T (elim x [ Some conn ↦ enter conn (own_outgoing p) b | None ↦ b ])) [
          | Some conn ↦ tied_enter o all c conn (own_outgoing p) b (λ at. unsent (own_outgoing p) refl) h
          | None ↦ h
        ]
      ]

  wrote : (l : Link) → TLink l → TLink (one_written l)
  wrote l h = cond_both (nat_lt l.written (length l.handed)) (record l { written = l.written + 1 }) l TLink (λ is. h) (λ is. h)

  heard : (exp_stat_sn tag : ℕ) (l : Link) → TLink l → TLink (link_heard exp_stat_sn tag l)
  heard exp_stat_sn tag l h =
      cond_both (is_open l) (record l { arrived = max l.arrived (max (arrived_by_stat_sn l exp_stat_sn) (arrived_by_ping l tag)) }) l TLink (λ is. h) (λ is. h)

  clear : (unit : ℕ) (answers : List Answer) → EachOf (TiedAnswer o all c) answers → EachOf (TiedAnswer o all c) (cleared unit answers)
  clear unit [] h = tt
  clear unit (a ∷ answers) h =
      cond_both (waits_for_clear unit a) (record a { uncleared = false } ∷ answers) (a ∷ cleared unit answers) (EachOf (TiedAnswer o all c)) (λ is. (h.0, h.1)) (λ is. (h.0, clear unit answers h.1))

  -- ---- what is handed out

  pub tied_out : (b : Box) (l : Link) (out : Outgoing) → Chosen o b l out → EachOf TOut (line c l) → TOut out
  tied_out b l out from h =
      ⊎_elim
      (λ (q : FromQueue o b l out). (subst (EachOf TOut) q.queue_is (each-second TOut (map (λ (g : Handed). g.out) l.handed) l.queue h)).0)
      (λ other. unsent out (own_ping o b l out other).none)
      from.source

  hand : (b : Box) (l : Link) (g : Handed) → (l.conn ≡ c → TOut g.out) → T b → T (after_given o b l g)
  hand b l g tie h = record {
    links = each-at_link TLink TLink l.conn (λ m. record m { handed = m.handed ++ g ∷ [] }) (at_link l.conn (taken_from g.out) b.links) pushed (λ m isnt k. k)
        (tied_at o all c l.conn (taken_from g.out) taken b.links h.links);
    undue = h.undue;
  }
    where
      taken : (m : Link) → TLink m → TLink (taken_from g.out m)
      taken m k =
          cond_both (is_from_queue g.out) (record m { queue = drop 1 m.queue }) m TLink
          (λ is at. each-fewer TOut (map (λ (x : Handed). x.out) m.handed) m.queue (drop 1 m.queue) (each-drop_one TOut m.queue) (k at)) (λ is. k)

      pushed : (m : Link) → m.conn ≡ l.conn → TLink m → TLink (record m { handed = m.handed ++ g ∷ [] })
      pushed m is k at =
          let hs : List Outgoing = map (λ (x : Handed). x.out) m.handed in
          subst (λ xs. EachOf TOut (xs ++ m.queue)) (sym (map-append (λ (x : Handed). x.out) m.handed (g ∷ [])))
          (each-append TOut (hs ++ g.out ∷ []) m.queue (each-append TOut hs (g.out ∷ []) (each-first TOut hs m.queue (k at)) (tie (sym is ∙ at), tt)) (each-second TOut hs m.queue (k at)))

  next_tied : (b : Box) (conn : ℕ) → T b → T (after_call o b (Nexts conn))
  next_tied b conn h =
      ⊎_elim
      (λ (k : Hand o b conn).
      let l : Link = k.handing.link in
      let out : Outgoing = k.handing.out in
      let tied : TLink l = each-first_of TLink (λ (m : Link). m.conn == conn) b.links l k.handing.found h.links in
      subst T (sym k.after_is) (hand b l k.handed (λ at. subst (λ (x : Handed). TOut x.out) (sym k.handing.is) (tied_out b l out (chosen_from o b l out k.handing.chosen_is) (tied at))) h))
      (λ (k : Idle o b conn). subst T (sym k.after_is) h)
      (next o b conn)

  -- ---- calls

  module _ (cs : List ℕ) (known : list_any (λ k. k == c) cs ≡ true) where
    items_tied : (ds : List Deed) (items more rest : List (List Effect)) (b : Box) → items ++ (more ++ rest) ≡ all → Stands (Placed ds) Entry items b → MarksStand cs items b → T b → T (after_items o b more)
    items_tied ds items [] rest b whole s m h = h
    items_tied ds items (item ∷ more) rest b whole s m h =
        items_tied ds (items ++ item ∷ []) more rest (after_item o b item) (append_assoc items (item ∷ []) (more ++ rest) ∙ whole)
        (items_keep o (Stands (Placed ds) Entry) (walk o (Placed ds) Entry ((place_calls o).wise ds)) items b (item ∷ []) s) (item_marks o cs items b item m)
        (tied_item o all c cs known items (more ++ rest) b item whole s.sent m h)

    -- what stands of the deeds so far, if they begin all
    pub record TiedStand (ds : List Deed) (b : Box) : Type 0 where
      pub places : PlacesStand ds b
      pub marks : MarksStand cs (items_in ds) b
      pub tied : (rest : List (List Effect)) → items_in ds ++ rest ≡ all → T b

    quiet : (ds : List Deed) (b b' : Box) (deed : Deed) → items_of_call deed.0 ≡ [] → (T b → T b') → TiedStand ds b → (rest : List (List Effect)) → items_in (ds ++ deed ∷ []) ++ rest ≡ all → T b'
    quiet ds b b' deed none step h rest whole =
        step (h.tied rest (ap (λ its. its ++ rest) (sym (items_in-more ds deed ∙ ap (λ its. items_in ds ++ its) none ∙ append-nil (items_in ds))) ∙ whole))

    call_tied : (ds : List Deed) (b : Box) (call : Call) → TiedStand ds b → (rest : List (List Effect)) → items_in (ds ++ (call, answered o b call) ∷ []) ++ rest ≡ all → T (after_call o b call)
    call_tied ds b (Takes effects numbers) h = λ rest whole.
        let d : Deed = (Takes effects numbers, answered o b (Takes effects numbers)) in
        let whole' : items_in ds ++ (in_parts effects ++ rest) ≡ all = sym (append_assoc (items_in ds) (in_parts effects) rest) ∙ ap (λ its. its ++ rest) (sym (items_in-more ds d)) ∙ whole in
        let k : T (after_items o b (in_parts effects)) = items_tied ds (items_in ds) (in_parts effects) rest b whole' h.places h.marks (h.tied (in_parts effects ++ rest) whole') in
        record { links = k.links; undue = k.undue }
    call_tied ds b (Puts p) h = quiet ds b (after_call o b (Puts p)) (Puts p, answered o b (Puts p)) refl (put b p) h
    call_tied ds b (Stops ticket) h =
        quiet ds b (after_call o b (Stops ticket)) (Stops ticket, answered o b (Stops ticket)) refl
        (λ k. cond_both (is_running b ticket) (settle o (in_phase phase_stopped (ticket ∷ []) b)) b T
        (λ is. settled (in_phase phase_stopped (ticket ∷ []) b) (record { links = k.links; undue = k.undue })) (λ is. k)) h
    call_tied ds b (Nexts conn) h = quiet ds b (after_call o b (Nexts conn)) (Nexts conn, answered o b (Nexts conn)) refl (next_tied b conn) h
    call_tied ds b (Writes conn) h =
        quiet ds b (after_call o b (Writes conn)) (Writes conn, answered o b (Writes conn)) refl
        (λ k. settled (record b { links = at_link conn one_written b.links }) (same_pdus conn one_written b wrote k)) h
    call_tied ds b (Hears conn exp_stat_sn tag) h =
        quiet ds b (after_call o b (Hears conn exp_stat_sn tag)) (Hears conn exp_stat_sn tag, answered o b (Hears conn exp_stat_sn tag)) refl
        (λ k. settled (record b { links = at_link conn (link_heard exp_stat_sn tag) b.links }) (same_pdus conn (link_heard exp_stat_sn tag) b (heard exp_stat_sn tag) k)) h
    call_tied ds b (Joins conn stat_sn) h =
        quiet ds b (after_call o b (Joins conn stat_sn)) (Joins conn stat_sn, answered o b (Joins conn stat_sn)) refl
        (λ k. cond_both (may_join b conn) (record b { links = at_link conn (link_joined stat_sn) b.links }) b T (λ is. same_pdus conn (link_joined stat_sn) b (λ l e. e) k) (λ is. k)) h
    call_tied ds b (Loses conn) h =
        let marked : Box = record b { links = at_link conn link_lost b.links } in
        let lost : Box = record marked { reached = 0 } in
        quiet ds b (after_call o b (Loses conn)) (Loses conn, answered o b (Loses conn)) refl
        (λ k. settled (drop_on conn lost) (tied_drop o all c conn lost (let j : T marked = same_pdus conn link_lost b (λ l e. e) k in record { links = j.links; undue = j.undue }))) h
    call_tied ds b (Clears unit) h =
        quiet ds b (after_call o b (Clears unit)) (Clears unit, answered o b (Clears unit)) refl
        (λ k. settled (record b { undue = cleared unit b.undue }) (record { links = k.links; undue = clear unit b.undue k.undue })) h

    pub tied_kept : (ds : List Deed) (b : Box) (call : Call) → TiedStand ds b → TiedStand (ds ++ (call, answered o b call) ∷ []) (after_call o b call)
    tied_kept ds b call h = record { places = places_kept o ds b call h.places; marks = marks_kept o cs ds b call h.marks; tied = call_tied ds b call h }

pub tied_start : (o : Opening) (all : List (List Effect)) (c : ℕ) (known : list_any (λ k. k == c) (conns_of (opened o).links) ≡ true) → TiedStand o all c (conns_of (opened o).links) known [] (opened o)
tied_start o all c known = record { places = place_starts o; marks = marks_start o; tied = λ rest whole. record { links = starts o.session.conns; undue = tt } }
  where
    starts : (xs : List (ℕ × ℕ)) → EachOf (TiedLink o all c) (map (λ (x : ℕ × ℕ). new_link x.0) xs)
    starts [] = tt
    starts (x ∷ xs) = ((λ at. tt), starts xs)
