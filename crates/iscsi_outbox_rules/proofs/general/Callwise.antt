-- What holds of each connection and of each entry stays so, call by call.
use Rattle.std.proofs.Common.{◌≡◌, ℕ, ⊎_elim, ◌==◌, ◌+◌, ◌&&◌, not, cond, Bool, true, false, List, [], ◌∷◌, ◌++◌, length, drop, max, nat_lt, Some, None, refl, ap, sym, subst, ◌∙◌, ne_eqb}
use Rattle.std.proofs.lemmas.Bool.{cond_both, false≢true, eqb-true, eqb-false}
use Rattle.std.proofs.lemmas.List.{append-nil}
use Rattle.iscsi_rules.specs.declared.effect.Effect.{Effect}
use Rattle.iscsi_rules.specs.promises.Order.{in_parts}
use Rattle.iscsi_rules.proofs.general.BoolLemmas.{or_second, and_parts}
use Rattle.iscsi_rules.proofs.general.ListLemmas.{first_itself}
use Rattle.iscsi_outbox_rules.specs.declared.own_pdu.OwnPdu.{OwnPdu}
use Rattle.iscsi_outbox_rules.specs.rules.Calls.{Opening, Call, Takes, Puts, Stops, Nexts, Writes, Hears, Joins, Loses, Clears}
use Rattle.iscsi_outbox_rules.specs.rules.Boxes.{Outgoing, Handed, Answer, Link, Box}
use Rattle.iscsi_outbox_rules.specs.rules.Words.{is_open, is_running}
use Rattle.iscsi_outbox_rules.specs.rules.Queues.{at_link, enter, drop_on}
use Rattle.iscsi_outbox_rules.specs.rules.Due.{settle}
use Rattle.iscsi_outbox_rules.specs.rules.Items.{in_phase}
use Rattle.iscsi_outbox_rules.specs.rules.Own.{own_conn, own_outgoing, put_refusal}
use Rattle.iscsi_outbox_rules.specs.rules.Handing.{is_from_queue, handed_as, taken_from, after_given}
use Rattle.iscsi_outbox_rules.specs.rules.Run.{Silent, Joined, after_call, answered, phase_stopped, one_written, arrived_by_stat_sn, arrived_by_ping, link_heard, may_join, link_joined, link_lost, waits_for_clear, cleared}
use Rattle.iscsi_outbox_rules.specs.promises.Deeds.{Deed, items_in, items_of_call, handed_in_deed, handed_on, is_join_of, is_lose_of}
use Rattle.iscsi_outbox_rules.proofs.general.EachLemmas.{EachOf, each-weaken, each-at_link, each-first_of, each-any}
use Rattle.iscsi_outbox_rules.proofs.general.Walks.{over_after, settles, event_keeps}
use Rattle.iscsi_outbox_rules.proofs.general.Linkwise.{Linkwise, Stands, enters_queue, walk}
use Rattle.iscsi_outbox_rules.proofs.general.DeedLemmas.{items_in-more, none_on, other_on}
use Rattle.iscsi_outbox_rules.proofs.general.Chosen.{Chosen, chosen_from}
use Rattle.iscsi_outbox_rules.proofs.general.Cuts.{Hand, next}

pub record Callwise (o : Opening) (P : List Deed → List (List Effect) → Link → Type 0) (E : List (List Effect) → ℕ → Outgoing → Type 0) : Type 0 where
  pub wise : (ds : List Deed) → Linkwise o (P ds) E
  pub quiet : (ds : List Deed) (items : List (List Effect)) (deed : Deed) (l : Link) → handed_on l.conn (deed ∷ []) ≡ [] → is_join_of l.conn deed ≡ false → is_lose_of l.conn deed.0 ≡ false → P ds items l → P (ds ++ deed ∷ []) items l
  pub puts : (items : List (List Effect)) (conn : ℕ) (p : OwnPdu) → E items conn (own_outgoing p)
  pub writes : (ds : List Deed) (items : List (List Effect)) (l : Link) → P ds items l → P ds items (record l { written = l.written + 1 })
  pub hears : (ds : List Deed) (items : List (List Effect)) (l : Link) (n : ℕ) → P ds items l → P ds items (record l { arrived = n })
  pub loses : (ds : List Deed) (items : List (List Effect)) (l : Link) → P ds items l → P (ds ++ (Loses l.conn, Silent) ∷ []) items (link_lost l)
  pub joins : (ds : List Deed) (items : List (List Effect)) (l m : Link) (stat_sn : ℕ) → P ds items l → P ds items m → m.conn ≡ l.conn → m.joined ≡ false
      → P (ds ++ (Joins l.conn stat_sn, Joined true) ∷ []) items (link_joined stat_sn l)
  pub hands : (ds : List Deed) (b : Box) (l m : Link) (out : Outgoing) (deed : Deed) (queue : List Outgoing) → Stands (P ds) E (items_in ds) b → P ds (items_in ds) l → P ds (items_in ds) m → m.conn ≡ l.conn → Chosen o b l out
      → deed.0 ≡ Nexts l.conn → handed_in_deed deed ≡ Some (l.conn, handed_as o b l out)
      → (is_from_queue out ≡ true → queue ≡ drop 1 m.queue) → (is_from_queue out ≡ false → queue ≡ m.queue)
      → P (ds ++ deed ∷ []) (items_in ds) (record m { queue = queue; handed = m.handed ++ handed_as o b l out ∷ [] })

module _ (o : Opening) (P : List Deed → List (List Effect) → Link → Type 0) (E : List (List Effect) → ℕ → Outgoing → Type 0) (w : Callwise o P E) where
  -- what stands after these deeds
  abbrev pub StandsAfter : List Deed → Box → Type 0
  StandsAfter ds b = Stands (P ds) E (items_in ds) b

  quiet_all : (ds : List Deed) (items : List (List Effect)) (deed : Deed) (b : Box) → ((c : ℕ) → handed_on c (deed ∷ []) ≡ []) → ((c : ℕ) → is_join_of c deed ≡ false) → ((c : ℕ) → is_lose_of c deed.0 ≡ false)
      → Stands (P ds) E items b → Stands (P (ds ++ deed ∷ [])) E items b
  quiet_all ds items deed b hands joins loses h = record {
    sent = h.sent;
    links = each-weaken (P ds items) (P (ds ++ deed ∷ []) items) b.links (λ l k. w.quiet ds items deed l (hands l.conn) (joins l.conn) (loses l.conn) k) h.links;
    undue = h.undue;
  }

  no_items : (ds : List Deed) (deed : Deed) (b : Box) → items_of_call deed.0 ≡ [] → Stands (P (ds ++ deed ∷ [])) E (items_in ds) b → StandsAfter (ds ++ deed ∷ []) b
  no_items ds deed b none h = subst (λ its. Stands (P (ds ++ deed ∷ [])) E its b) (sym (items_in-more ds deed ∙ ap (λ its. items_in ds ++ its) none ∙ append-nil (items_in ds))) h

  -- a call that no connection sees
  silent : (ds : List Deed) (deed : Deed) (b : Box) → items_of_call deed.0 ≡ [] → handed_in_deed deed ≡ None → ((c : ℕ) → is_join_of c deed ≡ false) → ((c : ℕ) → is_lose_of c deed.0 ≡ false)
      → Stands (P ds) E (items_in ds) b → StandsAfter (ds ++ deed ∷ []) b
  silent ds deed b none hands joins loses h = no_items ds deed b none (quiet_all ds (items_in ds) deed b (λ c. none_on c deed hands) joins loses h)

  settled : (ds : List Deed) (items : List (List Effect)) (b : Box) → Stands (P ds) E items b → Stands (P ds) E items (settle o b)
  settled ds items b h = settles o (Stands (P ds) E) (walk o (P ds) E (w.wise ds)) items b h

  takes : (ds : List Deed) (b : Box) (effects : List Effect) (numbers : _) → StandsAfter ds b → StandsAfter (ds ++ (Takes effects numbers, Silent) ∷ []) (after_call o b (Takes effects numbers))
  takes ds b effects numbers h =
      let d : Deed = (Takes effects numbers, Silent) in
      subst (λ its. Stands (P (ds ++ d ∷ [])) E its (after_call o b (Takes effects numbers))) (sym (items_in-more ds d))
      (quiet_all ds (items_in ds ++ in_parts effects) d (after_call o b (Takes effects numbers)) (λ c. none_on c d refl) (λ c. refl) (λ c. refl)
      (event_keeps o (Stands (P ds) E) (walk o (P ds) E (w.wise ds)) (λ its b' exp max k. record { sent = k.sent; links = k.links; undue = k.undue }) (items_in ds) b effects numbers h))

  put : (ds : List Deed) (b : Box) (p : OwnPdu) → StandsAfter ds b → Stands (P ds) E (items_in ds) (after_call o b (Puts p))
  put ds b p h =
      elim (put_refusal o b p) as (λ x. Stands (P ds) E (items_in ds) (elim x [ Some refusal ↦ b | None ↦ elim (own_conn b p) [ Some conn ↦ enter conn (own_outgoing p) b | None ↦ b ] ])) [
        | Some refusal ↦ h
        | None ↦ elim (own_conn b p) as (λ x. Stands (P ds) E (items_in ds) (elim x [ Some conn ↦ enter conn (own_outgoing p) b | None ↦ b ])) [
          | Some conn ↦ enters_queue o (P ds) E (w.wise ds) (items_in ds) b conn (own_outgoing p) (w.puts (items_in ds) conn p) h
          | None ↦ h
        ]
      ]

  stop : (ds : List Deed) (b : Box) (ticket : ℕ) → StandsAfter ds b → Stands (P ds) E (items_in ds) (after_call o b (Stops ticket))
  stop ds b ticket h =
      cond_both (is_running b ticket) (settle o (in_phase phase_stopped (ticket ∷ []) b)) b (Stands (P ds) E (items_in ds))
      (λ is. settled ds (items_in ds) (in_phase phase_stopped (ticket ∷ []) b) (record { sent = h.sent; links = h.links; undue = h.undue }))
      (λ is. h)

  write : (ds : List Deed) (b : Box) (conn : ℕ) → StandsAfter ds b → Stands (P ds) E (items_in ds) (after_call o b (Writes conn))
  write ds b conn h =
      settled ds (items_in ds) (record b { links = at_link conn one_written b.links }) (record {
        sent = h.sent;
        links = each-at_link (P ds (items_in ds)) (P ds (items_in ds)) conn one_written b.links
            (λ l is k. cond_both (nat_lt l.written (length l.handed)) (record l { written = l.written + 1 }) l (P ds (items_in ds)) (λ more. w.writes ds (items_in ds) l k) (λ more. k)) (λ l is k. k) h.links;
        undue = h.undue;
      })

  hear : (ds : List Deed) (b : Box) (conn exp_stat_sn tag : ℕ) → StandsAfter ds b → Stands (P ds) E (items_in ds) (after_call o b (Hears conn exp_stat_sn tag))
  hear ds b conn exp_stat_sn tag h =
      settled ds (items_in ds) (record b { links = at_link conn (link_heard exp_stat_sn tag) b.links }) (record {
        sent = h.sent;
        links = each-at_link (P ds (items_in ds)) (P ds (items_in ds)) conn (link_heard exp_stat_sn tag) b.links
            (λ l is k. cond_both (is_open l) (record l { arrived = max l.arrived (max (arrived_by_stat_sn l exp_stat_sn) (arrived_by_ping l tag)) }) l (P ds (items_in ds)) (λ more. w.hears ds (items_in ds) l _ k) (λ more. k)) (λ l is k. k) h.links;
        undue = h.undue;
      })

  clears : (items : List (List Effect)) (unit : ℕ) (answers : List Answer) → EachOf (λ (a : Answer). E items a.conn a.out) answers → EachOf (λ (a : Answer). E items a.conn a.out) (cleared unit answers)
  clears items unit [] h = tt
  clears items unit (a ∷ answers) h =
      cond_both (waits_for_clear unit a) (record a { uncleared = false } ∷ answers) (a ∷ cleared unit answers) (EachOf (λ (x : Answer). E items x.conn x.out)) (λ is. (h.0, h.1)) (λ is. (h.0, clears items unit answers h.1))

  clear : (ds : List Deed) (b : Box) (unit : ℕ) → StandsAfter ds b → Stands (P ds) E (items_in ds) (after_call o b (Clears unit))
  clear ds b unit h = settled ds (items_in ds) (record b { undue = cleared unit b.undue }) (record { sent = h.sent; links = h.links; undue = clears (items_in ds) unit b.undue h.undue })

  lose : (ds : List Deed) (b : Box) (conn : ℕ) → StandsAfter ds b → StandsAfter (ds ++ (Loses conn, Silent) ∷ []) (after_call o b (Loses conn))
  lose ds b conn h =
      no_items ds d (after_call o b (Loses conn)) refl
      (settled (ds ++ d ∷ []) (items_in ds) (drop_on conn lost) ((walk o (P (ds ++ d ∷ [])) E (w.wise (ds ++ d ∷ []))).drops_on (items_in ds) lost conn (over_after conn link_lost (λ l. or_second l.closed true refl) b.links) stands))
    where
      d : Deed
      d = (Loses conn, Silent)

      lost : Box
      lost = record b { links = at_link conn link_lost b.links; reached = 0 }

      stands : Stands (P (ds ++ d ∷ [])) E (items_in ds) lost
      stands = record {
        sent = h.sent;
        links = each-at_link (P ds (items_in ds)) (P (ds ++ d ∷ []) (items_in ds)) conn link_lost b.links
            (λ l is k. subst (λ c. P (ds ++ (Loses c, Silent) ∷ []) (items_in ds) (link_lost l)) is (w.loses ds (items_in ds) l k))
            (λ l isnt k. w.quiet ds (items_in ds) d l (none_on l.conn d refl) refl (ne_eqb conn l.conn (λ same. eqb-false l.conn conn isnt (sym same))) k) h.links;
        undue = h.undue;
      }

  join : (ds : List Deed) (b : Box) (conn stat_sn : ℕ) (v : Bool) → may_join b conn ≡ v → StandsAfter ds b
      → StandsAfter (ds ++ (Joins conn stat_sn, Joined v) ∷ []) (cond v (record b { links = at_link conn (link_joined stat_sn) b.links }) b)
  join ds b conn stat_sn false may h =
      silent ds (Joins conn stat_sn, Joined false) b refl refl (λ c. no (conn == c)) (λ c. refl) h
    where
      no : (u : Bool) → (u && false) ≡ false
      no true = refl
      no false = refl
  join ds b conn stat_sn true may h =
      no_items ds d joined refl (record {
        sent = h.sent;
        links = each-at_link (P ds (items_in ds)) (P (ds ++ d ∷ []) (items_in ds)) conn (link_joined stat_sn) b.links
            (λ l is k. subst (λ c. P (ds ++ (Joins c stat_sn, Joined true) ∷ []) (items_in ds) (link_joined stat_sn l)) is (w.joins ds (items_in ds) l found.0 stat_sn k found.2 (eqb-true found.0.conn conn parts.0 ∙ sym is) (unjoined found.0.joined parts.1)))
            (λ l isnt k. w.quiet ds (items_in ds) d l (none_on l.conn d refl) (ap (λ v. v && true) (ne_eqb conn l.conn (λ same. eqb-false l.conn conn isnt (sym same)))) refl k) h.links;
        undue = h.undue;
      })
    where
      d : Deed
      d = (Joins conn stat_sn, Joined true)

      joined : Box
      joined = record b { links = at_link conn (link_joined stat_sn) b.links }

      found : (l : Link) × (((((l.conn == conn) && not l.joined) && not l.closed) && not l.lost) ≡ true) × P ds (items_in ds) l
      found = each-any (P ds (items_in ds)) (λ (l : Link). (((l.conn == conn) && not l.joined) && not l.closed) && not l.lost) b.links may h.links

      parts : ((found.0.conn == conn) ≡ true) × (not found.0.joined ≡ true)
      parts =
          let m : Link = found.0 in
          let first = and_parts (((m.conn == conn) && not m.joined) && not m.closed) (not m.lost) found.1 in
          let second = and_parts ((m.conn == conn) && not m.joined) (not m.closed) first.0 in
          and_parts (m.conn == conn) (not m.joined) second.0

      unjoined : (x : Bool) → not x ≡ true → x ≡ false
      unjoined true k = absurd (false≢true k)
      unjoined false k = refl

  hand : (ds : List Deed) (b : Box) (conn : ℕ) → StandsAfter ds b → Hand o b conn → StandsAfter (ds ++ (Nexts conn, answered o b (Nexts conn)) ∷ []) (after_call o b (Nexts conn))
  hand ds b conn h n =
      no_items ds d (after_call o b (Nexts conn)) refl (subst (Stands (P (ds ++ d ∷ [])) E (items_in ds)) (sym (n.after_is ∙ ap (after_given o b l) n.handing.is)) (record { sent = h.sent; links = links; undue = h.undue }))
    where
      d : Deed
      d = (Nexts conn, answered o b (Nexts conn))

      l : Link
      l = n.handing.link

      out : Outgoing
      out = n.handing.out

      at : l.conn ≡ conn
      at = eqb-true l.conn conn (first_itself (λ (m : Link). m.conn == conn) b.links l n.handing.found)

      stands : P ds (items_in ds) l
      stands = each-first_of (P ds (items_in ds)) (λ (m : Link). m.conn == conn) b.links l n.handing.found h.links

      from : Chosen o b l out
      from = chosen_from o b l out n.handing.chosen_is

      shown : handed_in_deed d ≡ Some (l.conn, handed_as o b l out)
      shown = n.shown ∙ ap (λ g. Some (conn, g)) n.handing.is ∙ ap (λ c. Some (c, handed_as o b l out)) (sym at)

      h' : Handed
      h' = handed_as o b l out

      -- what holds between taking it from the queue and handing it out
      Between : Link → Type 0
      Between m = (m.conn ≡ l.conn → P (ds ++ d ∷ []) (items_in ds) (record m { handed = m.handed ++ h' ∷ [] })) × ((m.conn == l.conn) ≡ false → P (ds ++ d ∷ []) (items_in ds) m)

      taken : (m : Link) → m.conn ≡ l.conn → P ds (items_in ds) m → Between (taken_from out m)
      taken m is k =
          cond_both (is_from_queue out) (record m { queue = drop 1 m.queue }) m Between
          (λ q. ((λ same. w.hands ds b l m out d (drop 1 m.queue) h stands k is from (ap Nexts (sym at)) shown (λ v. refl) (λ v. absurd (false≢true (sym v ∙ q)))), (λ apart. absurd (eqb-false m.conn l.conn apart is))))
          (λ q. ((λ same. w.hands ds b l m out d m.queue h stands k is from (ap Nexts (sym at)) shown (λ v. absurd (false≢true (sym q ∙ v))) (λ v. refl)), (λ apart. absurd (eqb-false m.conn l.conn apart is))))

      links : EachOf (P (ds ++ d ∷ []) (items_in ds)) (after_given o b l h').links
      links =
          each-at_link Between (P (ds ++ d ∷ []) (items_in ds)) l.conn (λ m. record m { handed = m.handed ++ h' ∷ [] }) (at_link l.conn (taken_from out) b.links)
          (λ m is k. k.0 is) (λ m isnt k. k.1 isnt)
          (each-at_link (P ds (items_in ds)) Between l.conn (taken_from out) b.links taken
          (λ m isnt k. ((λ same. absurd (eqb-false m.conn l.conn isnt same)), (λ apart. w.quiet ds (items_in ds) d m (other_on m.conn l.conn d h' shown isnt) refl refl k))) h.links)

  pub call_keeps : (ds : List Deed) (b : Box) (c : Call) → StandsAfter ds b → StandsAfter (ds ++ (c, answered o b c) ∷ []) (after_call o b c)
  call_keeps ds b (Takes effects numbers) h = takes ds b effects numbers h
  call_keeps ds b (Puts p) h = silent ds (Puts p, answered o b (Puts p)) (after_call o b (Puts p)) refl refl (λ c. refl) (λ c. refl) (put ds b p h)
  call_keeps ds b (Stops ticket) h = silent ds (Stops ticket, answered o b (Stops ticket)) (after_call o b (Stops ticket)) refl refl (λ c. refl) (λ c. refl) (stop ds b ticket h)
  call_keeps ds b (Nexts conn) h =
      ⊎_elim (hand ds b conn h)
      (λ idle. silent ds (Nexts conn, answered o b (Nexts conn)) (after_call o b (Nexts conn)) refl idle.shown (λ c. refl) (λ c. refl) (subst (Stands (P ds) E (items_in ds)) (sym idle.after_is) h))
      (next o b conn)
  call_keeps ds b (Writes conn) h = silent ds (Writes conn, Silent) (after_call o b (Writes conn)) refl refl (λ c. refl) (λ c. refl) (write ds b conn h)
  call_keeps ds b (Hears conn exp_stat_sn tag) h = silent ds (Hears conn exp_stat_sn tag, Silent) (after_call o b (Hears conn exp_stat_sn tag)) refl refl (λ c. refl) (λ c. refl) (hear ds b conn exp_stat_sn tag h)
  call_keeps ds b (Joins conn stat_sn) h = join ds b conn stat_sn (may_join b conn) refl h
  call_keeps ds b (Loses conn) h = lose ds b conn h
  call_keeps ds b (Clears unit) h = silent ds (Clears unit, Silent) (after_call o b (Clears unit)) refl refl (λ c. refl) (λ c. refl) (clear ds b unit h)
