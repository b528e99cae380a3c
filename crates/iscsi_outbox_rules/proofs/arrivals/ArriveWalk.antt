-- What holds of a connection, whatever waits there and whoever closed it: what each call keeps of it. Of several with one CID it
-- is said of the first, on which PDUs go out.
use Rattle.std.proofs.Common.{◌≡◌, ℕ, ⊎_elim, ◌==◌, ◌&&◌, ◌+◌, not, cond, Bool, true, false, List, [], ◌∷◌, ◌++◌, filter_map, drop, length, max, nat_lt, Option, Some, None, refl, ap, sym, subst, ◌∙◌, ne_eqb, eqb-true}
use Rattle.std.specs.List.{list_any}
use Rattle.std.proofs.lemmas.Bool.{cond_both, eqb-false}
use Rattle.iscsi_wire.specs.Serial.{wire}
use Rattle.iscsi_wire.specs.declared.reply.Reply.{Reply}
use Rattle.iscsi_wire.specs.declared.request.Request.{Request}
use Rattle.iscsi_rules.specs.declared.effect.Effect.{Effect}
use Rattle.iscsi_rules.specs.rules.Trace.{first_of}
use Rattle.iscsi_rules.proofs.general.BoolLemmas.{and_parts, not_true, or_second}
use Rattle.iscsi_outbox_rules.specs.declared.own_pdu.OwnPdu.{OwnPdu}
use Rattle.iscsi_outbox_rules.specs.rules.Calls.{Opening, Call, Takes, Puts, Stops, Nexts, Writes, Hears, Joins, Loses, Clears}
use Rattle.iscsi_outbox_rules.specs.rules.Boxes.{Outgoing, Handed, Aim, Answer, Link, Box}
use Rattle.iscsi_outbox_rules.specs.rules.Words.{is_open, is_running}
use Rattle.iscsi_outbox_rules.specs.rules.Queues.{at_link, takes_more, append, enter, without, emptied, drop_on}
use Rattle.iscsi_outbox_rules.specs.rules.Due.{settle}
use Rattle.iscsi_outbox_rules.specs.rules.Items.{executing, tickets_left, reply_sent, in_phase, outgoing, answer, send_as, aim, send}
use Rattle.iscsi_outbox_rules.specs.rules.Own.{own_conn, own_outgoing, put_refusal}
use Rattle.iscsi_outbox_rules.specs.rules.Handing.{is_from_queue, taken_from, next_stat_sn, after_given}
use Rattle.iscsi_outbox_rules.specs.rules.Run.{Silent, Joined, after_call, answered, phase_stopped, one_written, arrived_by_stat_sn, arrived_by_ping, link_heard, may_join, link_joined, link_lost, cleared}
use Rattle.iscsi_outbox_rules.specs.promises.Deeds.{Deed, handed_in_deed, has_joined, is_lose_of}
use Rattle.iscsi_outbox_rules.specs.promises.Arrived.{is_write_of}
use Rattle.iscsi_outbox_rules.proofs.general.EachLemmas.{each-any, each-first_of}
use Rattle.iscsi_outbox_rules.proofs.general.FoundLemmas.{find_link, EachFound, found-conn, find-map, found-map, found-at_link, found-weaken}
use Rattle.iscsi_outbox_rules.proofs.general.Walks.{Walk, over_after, settles, event_keeps}
use Rattle.iscsi_outbox_rules.proofs.general.Chosen.{chosen_from}
use Rattle.iscsi_outbox_rules.proofs.general.Cuts.{Hand, Idle, next}
use Rattle.iscsi_outbox_rules.proofs.order.CountRuns.{some_link}
use Rattle.iscsi_outbox_rules.proofs.general.LinkRuns.{LinkShows}
use Rattle.iscsi_outbox_rules.proofs.numbers.NumberTheorem.{BoxShows}
use Rattle.iscsi_outbox_rules.proofs.arrivals.ArriveDeeds.{Apart}

-- a connection without what waits there and without the marks of closes
abbrev pub bare : Link → Link
bare l = record l { queue = []; closed = false; cut = false }

-- ---- an event and what is due change nothing of it

module _ (R : Link → Type 0) where
  abbrev pub BareEach : List (List Effect) → Box → Type 0
  BareEach items b = EachFound (λ (l : Link). R (bare l)) b.links

  pub kept_at : (conn : ℕ) (change : Link → Link) (links : List Link) → ((l : Link) → (change l).conn ≡ l.conn) → ((l : Link) → R (bare l) → R (bare (change l)))
      → EachFound (λ (l : Link). R (bare l)) links → EachFound (λ (l : Link). R (bare l)) (at_link conn change links)
  kept_at conn change links conns kept h = found-at_link (λ (l : Link). R (bare l)) (λ (l : Link). R (bare l)) conn change conns links (λ l found k. kept l k) (λ l isnt k. k) h

  pub entered : (conn : ℕ) (out : Outgoing) (links : List Link) → EachFound (λ (l : Link). R (bare l)) links → EachFound (λ (l : Link). R (bare l)) (at_link conn (append out) links)
  entered conn out links h =
      kept_at conn (append out) links (λ l. cond_both (takes_more l) (record l { queue = l.queue ++ out ∷ [] }) l (λ (m : Link). m.conn ≡ l.conn) (λ is. refl) (λ is. refl))
      (λ l k. cond_both (takes_more l) (record l { queue = l.queue ++ out ∷ [] }) l (λ (m : Link). R (bare m)) (λ is. k) (λ is. k)) h

  sends_bare : (o : Opening) (b : Box) (r : Option Request) (tickets conns closes : List ℕ) (x : Option (ℕ × Reply)) → BareEach [] b → BareEach [] (send o r tickets conns closes x b)
  sends_bare o b r tickets conns closes None h = h
  sends_bare o b None tickets conns closes (Some s) h = entered s.0 (record (outgoing b None tickets s.1) { time = b.time }) b.links h
  sends_bare o b (Some r) tickets conns closes (Some s) h = by_aim (aim o (Some r) s.1)
    where
      by_aim : (x : Option Aim) → BareEach [] (let b' = send_as o (Some r) x conns closes s.0 (outgoing b (Some r) tickets s.1) b in record b' { sent = b'.sent + 1 })
      by_aim None = entered s.0 (record (outgoing b (Some r) tickets s.1) { time = b.time }) b.links h
      by_aim (Some about) =
          let a : Answer = answer o b r conns closes s.0 (outgoing b (Some r) tickets s.1) about in
          cond_both (list_any (λ (l : Link). (l.conn == a.conn) && takes_more l) b.links) (record b { undue = b.undue ++ a ∷ [] }) b (λ (b' : Box). BareEach [] (record b' { sent = b'.sent + 1 })) (λ may. h) (λ may. h)

  pub bare_walk : (o : Opening) → Walk o BareEach
  bare_walk o = record {
    tasks = λ items b ts h. h;
    drops = λ items b these h. found-map (λ (l : Link). R (bare l)) (λ (l : Link). R (bare l)) (without these) (λ l. refl) b.links (λ conn l found k. k) h;
    closes = λ items b conn h. kept_at conn (λ l. record l { closed = true }) b.links (λ l. refl) (λ l k. k) h;
    cuts = λ items b conn h. kept_at conn (λ l. record l { closed = true; cut = true }) b.links (λ l. refl) (λ l k. k) h;
    drops_on = λ items b conn over h. kept_at conn emptied b.links (λ l. refl) (λ l k. k) h;
    moves = λ items b before rest a due h. entered a.conn (record (a.out) { time = b.time }) b.links h;
    sends = λ items b item conns closes h. sends_bare o b (executing item) (tickets_left item) conns closes (first_of (filter_map reply_sent item)) h;
  }

  pub bare_settle : (o : Opening) (b : Box) → BareEach [] b → BareEach [] (settle o b)
  bare_settle o b h = settles o BareEach (bare_walk o) [] b h

-- ---- what each call keeps

pub some_handed : (x y : ℕ × Handed) → Some x ≡ Some y → x ≡ y
some_handed x y h = cc

-- the deed hands out nothing on the connection, and reports neither that something was written there nor that it is lost
pub record IsQuiet (c : ℕ) (d : Deed) : Type 0 where
  pub apart : Apart c d
  pub unwritten : is_write_of c d.0 ≡ false
  pub unlost : is_lose_of c d.0 ≡ false

pub record Barewise (o : Opening) (Q : List Deed → Link → Type 0) : Type 0 where
  pub quiet : (ds : List Deed) (d : Deed) (l : Link) → IsQuiet l.conn d → Q ds l → Q (ds ++ d ∷ []) l
  pub writes : (ds : List Deed) (l : Link) → Q ds l → Q (ds ++ (Writes l.conn, Silent) ∷ []) (one_written l)
  pub hears : (ds : List Deed) (l : Link) (exp_stat_sn tag : ℕ) → Q ds l → Q (ds ++ (Hears l.conn exp_stat_sn tag, Silent) ∷ []) (link_heard exp_stat_sn tag l)
  pub loses : (ds : List Deed) (l : Link) → Q ds l → Q (ds ++ (Loses l.conn, Silent) ∷ []) (link_lost l)
  pub joins : (ds : List Deed) (l : Link) (stat_sn : ℕ) → l.handed ≡ [] → Q ds l → Q (ds ++ (Joins l.conn stat_sn, Joined true) ∷ []) (link_joined stat_sn l)
  pub hands : (ds : List Deed) (d : Deed) (l : Link) (h : Handed) → d.0 ≡ Nexts l.conn → handed_in_deed d ≡ Some (l.conn, h) → h.stat_sn ≡ wire (next_stat_sn l) → l.joined ≡ true → Q ds l
      → Q (ds ++ d ∷ []) (record l { handed = l.handed ++ h ∷ [] })

module _ (o : Opening) (Q : List Deed → Link → Type 0) (w : Barewise o Q) where
  -- what holds after these deeds
  abbrev pub Bare : List Deed → Box → Type 0
  Bare ds b = EachFound (λ (l : Link). Q ds (bare l)) b.links

  pub all_quiet : (ds : List Deed) (d : Deed) (b : Box) → ((c : ℕ) → IsQuiet c d) → Bare ds b → Bare (ds ++ d ∷ []) b
  all_quiet ds d b still h = found-weaken (λ (l : Link). Q ds (bare l)) (λ (l : Link). Q (ds ++ d ∷ []) (bare l)) b.links (λ l k. w.quiet ds d (bare l) (still l.conn) k) h

  -- a call that is of one connection
  at_one : (ds : List Deed) (conn : ℕ) (d : Deed) (change : Link → Link) (links : List Link) → ((l : Link) → (change l).conn ≡ l.conn) → ((c : ℕ) → (c == conn) ≡ false → IsQuiet c d)
      → ((l : Link) → find_link conn links ≡ Some l → l.conn ≡ conn → Q ds (bare l) → Q (ds ++ d ∷ []) (bare (change l)))
      → EachFound (λ (l : Link). Q ds (bare l)) links → EachFound (λ (l : Link). Q (ds ++ d ∷ []) (bare l)) (at_link conn change links)
  at_one ds conn d change links conns still here h =
      found-at_link (λ (l : Link). Q ds (bare l)) (λ (l : Link). Q (ds ++ d ∷ []) (bare l)) conn change conns links
      (λ l found k. here l found (found-conn conn links l found) k) (λ l isnt k. w.quiet ds d (bare l) (still l.conn isnt) k) h

  settled : (ds : List Deed) (b : Box) → Bare ds b → Bare ds (settle o b)
  settled ds b h = bare_settle (Q ds) o b h

  takes : (ds : List Deed) (b : Box) (effects : List Effect) (numbers : _) → Bare ds b → Bare (ds ++ (Takes effects numbers, Silent) ∷ []) (after_call o b (Takes effects numbers))
  takes ds b effects numbers h =
      all_quiet ds (Takes effects numbers, Silent) (after_call o b (Takes effects numbers)) (λ c. record { apart = λ g shown. absurd cc; unwritten = refl; unlost = refl })
      (event_keeps o (BareEach (Q ds)) (bare_walk (Q ds) o) (λ items x exp max k. k) [] b effects numbers h)

  put : (ds : List Deed) (b : Box) (p : OwnPdu) → Bare ds b → Bare ds (after_call o b (Puts p))
  put ds b p h =
      elim (put_refusal o b p) as (λ x. Bare ds (elim x [ Some refusal ↦ b | None ↦ elim (own_conn b p) [ Some conn ↦ enter conn (own_outgoing p) b | None ↦ b ] ])) [
        | Some refusal ↦ h
        | None ↦ elim (own_conn b p) as (λ x. Bare ds (elim x [ Some conn ↦ enter conn (own_outgoing p) b | None ↦ b ])) [
          | Some conn ↦ entered (Q ds) conn (record (own_outgoing p) { time = b.time }) b.links h
          | None ↦ h
        ]
      ]

  bare_written : (l : Link) → bare (one_written l) ≡ one_written (bare l)
  bare_written l = elim (nat_lt l.written (length l.handed)) as (λ v. bare (cond v (record l { written = l.written + 1 }) l) ≡ cond v (record (bare l) { written = l.written + 1 }) (bare l)) [ true ↦ refl | false ↦ refl ]

  bare_heard : (exp_stat_sn tag : ℕ) (l : Link) → bare (link_heard exp_stat_sn tag l) ≡ link_heard exp_stat_sn tag (bare l)
  bare_heard exp_stat_sn tag l =
      elim (is_open l) as (λ v. bare (cond v (record l { arrived = max l.arrived (max (arrived_by_stat_sn l exp_stat_sn) (arrived_by_ping l tag)) }) l)
      ≡ cond v (record (bare l) { arrived = max l.arrived (max (arrived_by_stat_sn l exp_stat_sn) (arrived_by_ping l tag)) }) (bare l)) [ true ↦ refl | false ↦ refl ]

  pub write_marks : (ds : List Deed) (b : Box) (conn : ℕ) → Bare ds b → Bare (ds ++ (Writes conn, Silent) ∷ []) (record b { links = at_link conn one_written b.links })
  write_marks ds b conn h =
      at_one ds conn d one_written b.links (λ l. cond_both (nat_lt l.written (length l.handed)) (record l { written = l.written + 1 }) l (λ (m : Link). m.conn ≡ l.conn) (λ is. refl) (λ is. refl))
      (λ c isnt. record { apart = λ g shown. absurd cc; unwritten = ne_eqb conn c (λ same. eqb-false c conn isnt (sym same)); unlost = refl })
      (λ l found at k. subst (Q (ds ++ d ∷ [])) (sym (bare_written l)) (subst (λ c. Q (ds ++ (Writes c, Silent) ∷ []) (one_written (bare l))) at (w.writes ds (bare l) k))) h
    where
      d : Deed
      d = (Writes conn, Silent)

  pub hear_marks : (ds : List Deed) (b : Box) (conn exp_stat_sn tag : ℕ) → Bare ds b
      → Bare (ds ++ (Hears conn exp_stat_sn tag, Silent) ∷ []) (record b { links = at_link conn (link_heard exp_stat_sn tag) b.links })
  hear_marks ds b conn exp_stat_sn tag h =
      at_one ds conn d (link_heard exp_stat_sn tag) b.links
      (λ l. cond_both (is_open l) (record l { arrived = max l.arrived (max (arrived_by_stat_sn l exp_stat_sn) (arrived_by_ping l tag)) }) l (λ (m : Link). m.conn ≡ l.conn) (λ is. refl) (λ is. refl))
      (λ c isnt. record { apart = λ g shown. absurd cc; unwritten = refl; unlost = refl })
      (λ l found at k. subst (Q (ds ++ d ∷ [])) (sym (bare_heard exp_stat_sn tag l)) (subst (λ c. Q (ds ++ (Hears c exp_stat_sn tag, Silent) ∷ []) (link_heard exp_stat_sn tag (bare l))) at (w.hears ds (bare l) exp_stat_sn tag k))) h
    where
      d : Deed
      d = (Hears conn exp_stat_sn tag, Silent)

  pub lose_marks : (ds : List Deed) (b : Box) (conn : ℕ) → Bare ds b → Bare (ds ++ (Loses conn, Silent) ∷ []) (record b { links = at_link conn link_lost b.links })
  lose_marks ds b conn h =
      at_one ds conn d link_lost b.links (λ l. refl) (λ c isnt. record { apart = λ g shown. absurd cc; unwritten = refl; unlost = ne_eqb conn c (λ same. eqb-false c conn isnt (sym same)) })
      (λ l found at k. subst (λ c. Q (ds ++ (Loses c, Silent) ∷ []) (link_lost (bare l))) at (w.loses ds (bare l) k)) h
    where
      d : Deed
      d = (Loses conn, Silent)

  lose : (ds : List Deed) (b : Box) (conn : ℕ) → Bare ds b → Bare (ds ++ (Loses conn, Silent) ∷ []) (after_call o b (Loses conn))
  lose ds b conn h =
      settled (ds ++ (Loses conn, Silent) ∷ []) (drop_on conn lost)
      ((bare_walk (Q (ds ++ (Loses conn, Silent) ∷ [])) o).drops_on [] lost conn (over_after conn link_lost (λ l. or_second l.closed true refl) b.links) (lose_marks ds b conn h))
    where
      lost : Box
      lost = record b { links = at_link conn link_lost b.links; reached = 0 }

  -- one that joins handed nothing out so far
  pub join : (ds : List Deed) (b : Box) (conn stat_sn : ℕ) (v : Bool) → may_join b conn ≡ v → BoxShows ds b → Bare ds b
      → Bare (ds ++ (Joins conn stat_sn, Joined v) ∷ []) (cond v (record b { links = at_link conn (link_joined stat_sn) b.links }) b)
  join ds b conn stat_sn false may shows h = all_quiet ds (Joins conn stat_sn, Joined false) b (λ c. record { apart = λ g shown. absurd cc; unwritten = refl; unlost = refl }) h
  join ds b conn stat_sn true may shows h =
      at_one ds conn d (link_joined stat_sn) b.links (λ l. refl) (λ c isnt. record { apart = λ g shown. absurd cc; unwritten = refl; unlost = refl })
      (λ l found at k. subst (λ c. Q (ds ++ (Joins c stat_sn, Joined true) ∷ []) (link_joined stat_sn (bare l))) at (w.joins ds (bare l) stat_sn (empty l found at) k)) h
    where
      d : Deed
      d = (Joins conn stat_sn, Joined true)

      some : (m : Link) × (((((m.conn == conn) && not m.joined) && not m.closed) && not m.lost) ≡ true) × LinkShows ds m
      some = each-any (LinkShows ds) (λ (m : Link). (((m.conn == conn) && not m.joined) && not m.closed) && not m.lost) b.links may shows.links

      unjoined : has_joined ds conn ≡ false
      unjoined =
          let m : Link = some.0 in
          let first = and_parts (((m.conn == conn) && not m.joined) && not m.closed) (not m.lost) some.1 in
          let second = and_parts ((m.conn == conn) && not m.joined) (not m.closed) first.0 in
          let third = and_parts (m.conn == conn) (not m.joined) second.0 in
          ap (has_joined ds) (sym (eqb-true m.conn conn third.0)) ∙ sym some.2.joined ∙ not_true m.joined third.1

      empty : (l : Link) → find_link conn b.links ≡ Some l → l.conn ≡ conn → l.handed ≡ []
      empty l found at =
          let k : LinkShows ds l = each-first_of (LinkShows ds) (λ (m : Link). m.conn == conn) b.links l found shows.links in
          k.empty (k.joined ∙ ap (has_joined ds) at ∙ unjoined)

  pub hand : (ds : List Deed) (b : Box) (conn : ℕ) → Bare ds b → Hand o b conn → Bare (ds ++ (Nexts conn, answered o b (Nexts conn)) ∷ []) (after_call o b (Nexts conn))
  hand ds b conn h n = subst (Bare (ds ++ d ∷ [])) (sym n.after_is) links
    where
      d : Deed
      d = (Nexts conn, answered o b (Nexts conn))

      l : Link
      l = n.handing.link

      g : Handed
      g = n.handed

      at : l.conn ≡ conn
      at = found-conn conn b.links l n.handing.found

      shown : handed_in_deed d ≡ Some (l.conn, g)
      shown = n.shown ∙ ap (λ c. Some (c, g)) (sym at)

      quiet_at : (c : ℕ) → (c == l.conn) ≡ false → IsQuiet c d
      quiet_at c isnt = record {
        apart = λ k there. eqb-false c l.conn isnt (sym (ap (λ (x : ℕ × Handed). x.0) (some_handed (l.conn, g) (c, k) (sym shown ∙ there))));
        unwritten = refl;
        unlost = refl;
      }

      joined : l.joined ≡ true
      joined = (and_parts l.joined (not l.lost) (chosen_from o b l n.handing.out n.handing.chosen_is).open_is).0

      sn : g.stat_sn ≡ wire (next_stat_sn (bare l))
      sn = ap (λ (x : Handed). x.stat_sn) n.handing.is

      same_conn : (m : Link) → (taken_from g.out m).conn ≡ m.conn
      same_conn m = cond_both (is_from_queue g.out) (record m { queue = drop 1 m.queue }) m (λ (x : Link). x.conn ≡ m.conn) (λ v. refl) (λ v. refl)

      -- taking it from its queue changes nothing
      untouched : EachFound (λ (m : Link). Q ds (bare m)) (at_link l.conn (taken_from g.out) b.links)
      untouched =
          kept_at (Q ds) l.conn (taken_from g.out) b.links same_conn
          (λ m k. cond_both (is_from_queue g.out) (record m { queue = drop 1 m.queue }) m (λ (x : Link). Q ds (bare x)) (λ v. k) (λ v. k)) h

      links : EachFound (λ (m : Link). Q (ds ++ d ∷ []) (bare m)) (after_given o b l g).links
      links =
          at_one ds l.conn d (λ m. record m { handed = m.handed ++ g ∷ [] }) (at_link l.conn (taken_from g.out) b.links) (λ m. refl) quiet_at
          (λ m found on k. w.hands ds d (bare m) g (ap Nexts (sym at ∙ sym on)) (shown ∙ ap (λ c. Some (c, g)) (sym on)) (sn ∙ ap (λ (x : Link). wire (next_stat_sn x)) (alike m found))
          (ap (λ (x : Link). x.joined) (sym (alike m found)) ∙ joined) k) untouched
        where
          take : Link → Link
          take m = cond (m.conn == l.conn) (taken_from g.out m) m

          same_take : (m : Link) → bare (take m) ≡ bare m
          same_take m =
              cond_both (m.conn == l.conn) (taken_from g.out m) m (λ (x : Link). bare x ≡ bare m)
              (λ here. cond_both (is_from_queue g.out) (record m { queue = drop 1 m.queue }) m (λ (x : Link). bare x ≡ bare m) (λ v. refl) (λ v. refl)) (λ there. refl)

          alike : (m : Link) → find_link l.conn (at_link l.conn (taken_from g.out) b.links) ≡ Some m → bare l ≡ bare m
          alike m found =
              let k : (x : Link) × (find_link l.conn b.links ≡ Some x) × (take x ≡ m) =
              find-map take (λ x. cond_both (x.conn == l.conn) (taken_from g.out x) x (λ (y : Link). y.conn ≡ x.conn) (λ v. same_conn x) (λ v. refl)) b.links l.conn m found in
              let same : l ≡ k.0 = some_link l k.0 (sym (ap (λ c. find_link c b.links) at ∙ n.handing.found) ∙ k.1) in
              ap bare same ∙ sym (same_take k.0) ∙ ap bare k.2

  -- a call keeps it
  pub bare_keeps : (ds : List Deed) (b : Box) (c : Call) → BoxShows ds b → Bare ds b → Bare (ds ++ (c, answered o b c) ∷ []) (after_call o b c)
  bare_keeps ds b (Takes effects numbers) shows h = takes ds b effects numbers h
  bare_keeps ds b (Puts p) shows h = all_quiet ds (Puts p, answered o b (Puts p)) (after_call o b (Puts p)) (λ c. record { apart = λ g shown. absurd cc; unwritten = refl; unlost = refl }) (put ds b p h)
  bare_keeps ds b (Stops ticket) shows h =
      all_quiet ds (Stops ticket, answered o b (Stops ticket)) (after_call o b (Stops ticket)) (λ c. record { apart = λ g shown. absurd cc; unwritten = refl; unlost = refl })
      (cond_both (is_running b ticket) (settle o (in_phase phase_stopped (ticket ∷ []) b)) b (Bare ds) (λ is. settled ds (in_phase phase_stopped (ticket ∷ []) b) h) (λ is. h))
  bare_keeps ds b (Nexts conn) shows h =
      ⊎_elim (hand ds b conn h)
      (λ (k : Idle o b conn). all_quiet ds (Nexts conn, answered o b (Nexts conn)) (after_call o b (Nexts conn))
      (λ c. record { apart = λ g shown. let none : None ≡ Some (c, g) = sym k.shown ∙ shown in absurd cc; unwritten = refl; unlost = refl }) (subst (Bare ds) (sym k.after_is) h))
      (next o b conn)
  bare_keeps ds b (Writes conn) shows h = settled (ds ++ (Writes conn, Silent) ∷ []) (record b { links = at_link conn one_written b.links }) (write_marks ds b conn h)
  bare_keeps ds b (Hears conn exp_stat_sn tag) shows h =
      settled (ds ++ (Hears conn exp_stat_sn tag, Silent) ∷ []) (record b { links = at_link conn (link_heard exp_stat_sn tag) b.links }) (hear_marks ds b conn exp_stat_sn tag h)
  bare_keeps ds b (Joins conn stat_sn) shows h = join ds b conn stat_sn (may_join b conn) refl shows h
  bare_keeps ds b (Loses conn) shows h = lose ds b conn h
  bare_keeps ds b (Clears unit) shows h =
      all_quiet ds (Clears unit, answered o b (Clears unit)) (after_call o b (Clears unit)) (λ c. record { apart = λ g shown. absurd cc; unwritten = refl; unlost = refl }) (settled ds (record b { undue = cleared unit b.undue }) h)
