-- What answers to aborts wait for, in the box and as the calls show it, stands call by call.
use Rattle.std.proofs.Common.{◌≡◌, ℕ, ⊎_elim, ◌+◌, ◌==◌, cond, true, false, List, [], ◌∷◌, ◌++◌, drop, length, map, max, nat_lt, Some, None, refl, ap, sym, subst, ◌∙◌}
use Rattle.std.proofs.lemmas.Bool.{cond_both, false≢true}
use Rattle.std.proofs.lemmas.List.{append_assoc, append-nil}
use Rattle.iscsi_rules.specs.declared.effect.Effect.{Effect}
use Rattle.iscsi_rules.proofs.general.BoolLemmas.{or_second}
use Rattle.iscsi_outbox_rules.specs.rules.Calls.{Opening, Call, Takes, Puts, Stops, Nexts, Writes, Hears, Joins, Loses, Clears}
use Rattle.iscsi_outbox_rules.specs.rules.Boxes.{Outgoing, Handed, Answer, Link, Box}
use Rattle.iscsi_outbox_rules.specs.rules.Words.{is_open, is_running}
use Rattle.iscsi_outbox_rules.specs.rules.Queues.{at_link, enter, drop_on}
use Rattle.iscsi_outbox_rules.specs.rules.Due.{settle}
use Rattle.iscsi_outbox_rules.specs.rules.Items.{in_phase}
use Rattle.iscsi_outbox_rules.specs.rules.Own.{own_conn, own_outgoing, put_refusal}
use Rattle.iscsi_outbox_rules.specs.rules.Handing.{is_from_queue, taken_from, after_given}
use Rattle.iscsi_outbox_rules.specs.rules.Run.{new_link, opened, after_call, answered, phase_stopped, one_written, arrived_by_stat_sn, arrived_by_ping, link_heard, may_join, link_joined, link_lost, waits_for_clear, cleared}
use Rattle.iscsi_outbox_rules.specs.promises.Deeds.{Deed, FollowsSession, deeds_of, handed_in_deed, items_in, items_of_call}
use Rattle.iscsi_outbox_rules.specs.promises.Arrived.{is_through}
use Rattle.iscsi_outbox_rules.specs.promises.Silent.{ticket_of}
use Rattle.iscsi_outbox_rules.proofs.general.EachLemmas.{EachOf, each-weaken, each-at_link, each-drop_one}
use Rattle.iscsi_outbox_rules.proofs.general.FoundLemmas.{EachFound}
use Rattle.iscsi_outbox_rules.proofs.general.FirstLemmas.{firsts}
use Rattle.iscsi_outbox_rules.proofs.general.DeedLemmas.{items_in-more}
use Rattle.iscsi_outbox_rules.proofs.general.ConnLemmas.{conns_of, HaveConns, have_conns}
use Rattle.iscsi_outbox_rules.proofs.general.Cuts.{Hand, Idle, next}
use Rattle.iscsi_outbox_rules.proofs.general.Walks.{over_after, settles, event_keeps}
use Rattle.iscsi_outbox_rules.proofs.general.LinkRuns.{link_starts}
use Rattle.iscsi_outbox_rules.proofs.numbers.NumberTheorem.{BoxShows, box_shows}
use Rattle.iscsi_outbox_rules.proofs.aborts.SilentTheorem.{none_goes}
use Rattle.iscsi_outbox_rules.proofs.aborts.ScopeRuns.{said_taken}
use Rattle.iscsi_outbox_rules.proofs.arrivals.ArriveDeeds.{split_last}
use Rattle.iscsi_outbox_rules.proofs.arrivals.ArriveWalk.{bare, IsQuiet, all_quiet, write_marks, hear_marks, lose_marks, join, hand}
use Rattle.iscsi_outbox_rules.proofs.arrivals.ArrivePlaces.{Places, places_wise, places_start}
use Rattle.iscsi_outbox_rules.proofs.arrivals.ArriveThrough.{through-stays}
use Rattle.iscsi_outbox_rules.proofs.aborts.DueWays.{Aimed, IsClear, Cleared, Way, Ways, ways_enter, way_walk}

module _ (o : Opening) (t : ℕ) where
  abbrev cids : List ℕ
  cids = conns_of (opened o).links

  -- ---- a deed more

  clear_later : (ds : List Deed) (d : Deed) (conn : ℕ) → ((e : ℕ) (g : Handed) → handed_in_deed d ≡ Some (e, g) → ticket_of (items_in ds) g.out ≡ Some t → ⊥) → IsClear o t ds conn → IsClear o t (ds ++ d ∷ []) conn
  clear_later ds d conn nothing h earlier since handing e g split shown apart named =
      ⊎_elim
      (λ last. absurd (nothing e g (ap handed_in_deed (sym last.1) ∙ shown) (ap (λ es. ticket_of (items_in es) g.out) (sym last.0) ∙ named)))
      (λ later. subst (λ es. is_through o e earlier handing g es ≡ true) (sym later.1) (through-stays o e earlier later.0 handing d g (h earlier later.0 handing e g later.2 shown apart named)))
      (split_last earlier since ds handing d split)

  -- what waits, without the places
  record Queued (items : List (List Effect)) (ds : List Deed) (b : Box) : Type 0 where
    sent : b.sent ≡ length (firsts items)
    undue : EachOf (Aimed o items) b.undue
    queues : EachOf (λ (l : Link). EachOf (Way o t items ds l.conn) l.queue) b.links
    conns : HaveConns (conns_of (opened o).links) b.links

  -- a change of one connection
  queued_at : (items : List (List Effect)) (ds : List Deed) (b : Box) (conn : ℕ) (change : Link → Link) → ((l : Link) → (change l).conn ≡ l.conn) → ((Q : Outgoing → Type 0) (l : Link) → EachOf Q l.queue → EachOf Q (change l).queue) → Queued items ds b
      → Queued items ds (record b { links = at_link conn change b.links })
  queued_at items ds b conn change same less h = record {
    sent = h.sent;
    undue = h.undue;
    queues = each-at_link (λ (l : Link). EachOf (Way o t items ds l.conn) l.queue) (λ (l : Link). EachOf (Way o t items ds l.conn) l.queue) conn change b.links
        (λ l is k. subst (λ c. EachOf (Way o t items ds c) (change l).queue) (sym (same l)) (less (Way o t items ds l.conn) l k)) (λ l is k. k) h.queues;
    conns = have_conns cids (λ (l : Link). cond (l.conn == conn) (change l) l) (λ l. cond_both (l.conn == conn) (change l) l (λ (m : Link). m.conn ≡ l.conn) (λ is. same l) (λ is. refl)) b.links h.conns;
  }

  heard_same : (exp_stat_sn tag : ℕ) (l : Link) → ((link_heard exp_stat_sn tag l).conn ≡ l.conn) × ((link_heard exp_stat_sn tag l).queue ≡ l.queue)
  heard_same exp_stat_sn tag l =
      cond_both (is_open l) (record l { arrived = max l.arrived (max (arrived_by_stat_sn l exp_stat_sn) (arrived_by_ping l tag)) }) l (λ (m : Link). (m.conn ≡ l.conn) × (m.queue ≡ l.queue)) (λ is. (refl, refl)) (λ is. (refl, refl))

  wrote_same : (l : Link) → ((one_written l).conn ≡ l.conn) × ((one_written l).queue ≡ l.queue)
  wrote_same l = cond_both (nat_lt l.written (length l.handed)) (record l { written = l.written + 1 }) l (λ (m : Link). (m.conn ≡ l.conn) × (m.queue ≡ l.queue)) (λ is. (refl, refl)) (λ is. (refl, refl))

  taken_same : (out : Outgoing) (l : Link) → (taken_from out l).conn ≡ l.conn
  taken_same out l = cond_both (is_from_queue out) (record l { queue = drop 1 l.queue }) l (λ (m : Link). m.conn ≡ l.conn) (λ is. refl) (λ is. refl)

  clears : (items : List (List Effect)) (unit : ℕ) (answers : List Answer) → EachOf (Aimed o items) answers → EachOf (Aimed o items) (cleared unit answers)
  clears items unit [] h = tt
  clears items unit (a ∷ answers) h =
      cond_both (waits_for_clear unit a) (record a { uncleared = false } ∷ answers) (a ∷ cleared unit answers) (EachOf (Aimed o items))
      (λ is. (record { place = h.0.place; reply = h.0.reply; place_is = h.0.place_is; nth_is = h.0.nth_is; aim_is = h.0.aim_is; known = h.0.known }, h.1)) (λ is. (h.0, clears items unit answers h.1))

  module _ (calls : List Call) (follows : FollowsSession o calls) where
    pub record WaysStand (ds : List Deed) (b : Box) : Type 0 where
      pub shows : BoxShows ds b
      pub ways : (rest : List Deed) (whole : ds ++ rest ≡ deeds_of o calls) → Ways o t calls follows ds rest whole (items_in ds) b

    -- ---- one call

    module _ (ds : List Deed) (b : Box) (c : Call) (h : WaysStand ds b) (rest : List Deed) (whole : (ds ++ (c, answered o b c) ∷ []) ++ rest ≡ deeds_of o calls) where
      abbrev d : Deed
      d = (c, answered o b c)

      abbrev ds' : List Deed
      ds' = ds ++ d ∷ []

      whole' : ds ++ d ∷ rest ≡ deeds_of o calls
      whole' = sym (append_assoc ds (d ∷ []) rest) ∙ whole

      before : Ways o t calls follows ds (d ∷ rest) whole' (items_in ds) b
      before = h.ways (d ∷ rest) whole'

      -- nothing goes out of a command that was taken out
      way_later : (conn : ℕ) (out : Outgoing) → Way o t (items_in ds) ds conn out → Way o t (items_in ds) ds' conn out
      way_later conn out e inside = let k : Cleared o t (items_in ds) ds conn out = e inside in record {
        place = k.place;
        reply = k.reply;
        place_is = k.place_is;
        nth_is = k.nth_is;
        clear = λ over abort.
            clear_later ds d conn (λ e g shown named. none_goes o calls follows t ds rest d e g whole' shown (said_taken o t (items_in ds) k.place k.reply k.nth_is over) named) (k.clear over abort);
      }

      queued : Queued (items_in ds) ds' b
      queued = record {
        sent = before.sent;
        undue = before.undue;
        queues = each-weaken (λ (l : Link). EachOf (Way o t (items_in ds) ds l.conn) l.queue) (λ (l : Link). EachOf (Way o t (items_in ds) ds' l.conn) l.queue) b.links
            (λ l k. each-weaken (Way o t (items_in ds) ds l.conn) (Way o t (items_in ds) ds' l.conn) l.queue (way_later l.conn) k) before.queues;
        conns = before.conns;
      }

      abbrev Now : List (List Effect) → Box → Type 0
      Now items b' = Ways o t calls follows ds' rest whole items b'

      placed : (items : List (List Effect)) (b' : Box) → Queued items ds' b' → EachFound (λ (l : Link). Places ds' (bare l)) b'.links → Now items b'
      placed items b' q places = record { sent = q.sent; undue = q.undue; queues = q.queues; places = places; conns = q.conns }

      quiet : ((conn : ℕ) → IsQuiet conn d) → Now (items_in ds) b
      quiet still = placed (items_in ds) b queued (all_quiet o Places (places_wise o) ds d b still before.places)

      settled : (items : List (List Effect)) (b' : Box) → Now items b' → Now items (settle o b')
      settled items b' k = settles o (Ways o t calls follows ds' rest whole) (way_walk o t calls follows ds' rest whole) items b' k

      no_items : (b' : Box) → items_of_call c ≡ [] → Now (items_in ds) b' → Now (items_in ds') b'
      no_items b' none k = subst (λ its. Now its b') (sym (items_in-more ds d ∙ ap (λ its. items_in ds ++ its) none ∙ append-nil (items_in ds))) k

    ways_call : (ds : List Deed) (b : Box) (c : Call) (h : WaysStand ds b) (rest : List Deed) (whole : (ds ++ (c, answered o b c) ∷ []) ++ rest ≡ deeds_of o calls)
        → Ways o t calls follows (ds ++ (c, answered o b c) ∷ []) rest whole (items_in (ds ++ (c, answered o b c) ∷ [])) (after_call o b c)
    ways_call ds b (Takes effects numbers) h rest whole =
        let call : Call = Takes effects numbers in
        let later : List Deed = ds ++ (call, answered o b call) ∷ [] in
        subst (λ its. Ways o t calls follows later rest whole its (after_call o b call)) (sym (items_in-more ds (call, answered o b call)))
        (event_keeps o (Ways o t calls follows later rest whole) (way_walk o t calls follows later rest whole)
        (λ items x exp max k. record { sent = k.sent; undue = k.undue; queues = k.queues; places = k.places; conns = k.conns })
        (items_in ds) b effects numbers (quiet ds b call h rest whole (λ conn. record { apart = λ g shown. absurd cc; unwritten = refl; unlost = refl })))
    ways_call ds b (Puts p) h rest whole =
        let call : Call = Puts p in
        let later : List Deed = ds ++ (call, answered o b call) ∷ [] in
        let k : Ways o t calls follows later rest whole (items_in ds) b = quiet ds b call h rest whole (λ conn. record { apart = λ g shown. absurd cc; unwritten = refl; unlost = refl }) in
        no_items ds b call h rest whole (after_call o b call) refl
        (elim (put_refusal o b p) as (λ x. Ways o t calls follows later rest whole (items_in ds) (elim x [ Some refusal ↦ b | None ↦ elim (own_conn b p) [ Some conn ↦ enter conn (own_outgoing p) b | None ↦ b ] ])) [
          | Some refusal ↦ k
          | None ↦ elim (own_conn b p) as (λ x. Ways o t calls follows later rest whole (items_in ds) (elim x [ Some conn ↦ enter conn (own_outgoing p) b | None ↦ b ])) [
            | Some conn ↦ ways_enter o t calls follows later rest whole (items_in ds) b conn (own_outgoing p) (λ inside. absurd (false≢true inside)) k
            | None ↦ k
          ]
        ])
    ways_call ds b (Stops ticket) h rest whole =
        let call : Call = Stops ticket in
        let later : List Deed = ds ++ (call, answered o b call) ∷ [] in
        let k : Ways o t calls follows later rest whole (items_in ds) b = quiet ds b call h rest whole (λ conn. record { apart = λ g shown. absurd cc; unwritten = refl; unlost = refl }) in
        no_items ds b call h rest whole (after_call o b call) refl
        (cond_both (is_running b ticket) (settle o (in_phase phase_stopped (ticket ∷ []) b)) b (Ways o t calls follows later rest whole (items_in ds))
        (λ is. settled ds b call h rest whole (items_in ds) (in_phase phase_stopped (ticket ∷ []) b) (record { sent = k.sent; undue = k.undue; queues = k.queues; places = k.places; conns = k.conns })) (λ is. k))
    ways_call ds b (Nexts conn) h rest whole =
        no_items ds b call h rest whole (after_call o b call) refl
        (⊎_elim handed
        (λ (k : Idle o b conn). subst (Ways o t calls follows later rest whole (items_in ds)) (sym k.after_is)
        (quiet ds b call h rest whole (λ e. record { apart = λ g shown. let none : None ≡ Some (e, g) = sym k.shown ∙ shown in absurd cc; unwritten = refl; unlost = refl })))
        (next o b conn))
      where
        call : Call
        call = Nexts conn

        later : List Deed
        later = ds ++ (call, answered o b call) ∷ []

        q : Queued (items_in ds) later b
        q = queued ds b call h rest whole

        handed : Hand o b conn → Ways o t calls follows later rest whole (items_in ds) (after_call o b call)
        handed n =
            let l : Link = n.handing.link in
            let g : Handed = n.handed in
            let one : Box = record b { links = at_link l.conn (taken_from g.out) b.links } in
            let first : Queued (items_in ds) later one =
            queued_at (items_in ds) later b l.conn (taken_from g.out) (taken_same g.out) (λ Q m e. cond_both (is_from_queue g.out) (record m { queue = drop 1 m.queue }) m (λ (x : Link). EachOf Q x.queue) (λ is. each-drop_one Q m.queue e) (λ is. e)) q in
            let second : Queued (items_in ds) later (record one { links = at_link l.conn (λ m. record m { handed = m.handed ++ g ∷ [] }) one.links }) =
            queued_at (items_in ds) later one l.conn (λ m. record m { handed = m.handed ++ g ∷ [] }) (λ m. refl) (λ Q m e. e) first in
            let given : Queued (items_in ds) later (after_given o b l g) = record { sent = second.sent; undue = second.undue; queues = second.queues; conns = second.conns } in
            placed ds b call h rest whole (items_in ds) (after_call o b call) (subst (Queued (items_in ds) later) (sym n.after_is) given)
            (hand o Places (places_wise o) ds b conn (before ds b call h rest whole).places n)
    ways_call ds b (Writes conn) h rest whole =
        let call : Call = Writes conn in
        let later : List Deed = ds ++ (call, answered o b call) ∷ [] in
        let marked : Box = record b { links = at_link conn one_written b.links } in
        no_items ds b call h rest whole (after_call o b call) refl
        (settled ds b call h rest whole (items_in ds) marked
        (placed ds b call h rest whole (items_in ds) marked
        (queued_at (items_in ds) later b conn one_written (λ l. (wrote_same l).0) (λ Q l e. subst (EachOf Q) (sym (wrote_same l).1) e) (queued ds b call h rest whole))
        (write_marks o Places (places_wise o) ds b conn (before ds b call h rest whole).places)))
    ways_call ds b (Hears conn exp_stat_sn tag) h rest whole =
        let call : Call = Hears conn exp_stat_sn tag in
        let later : List Deed = ds ++ (call, answered o b call) ∷ [] in
        let marked : Box = record b { links = at_link conn (link_heard exp_stat_sn tag) b.links } in
        no_items ds b call h rest whole (after_call o b call) refl
        (settled ds b call h rest whole (items_in ds) marked
        (placed ds b call h rest whole (items_in ds) marked
        (queued_at (items_in ds) later b conn (link_heard exp_stat_sn tag) (λ l. (heard_same exp_stat_sn tag l).0) (λ Q l e. subst (EachOf Q) (sym (heard_same exp_stat_sn tag l).1) e) (queued ds b call h rest whole))
        (hear_marks o Places (places_wise o) ds b conn exp_stat_sn tag (before ds b call h rest whole).places)))
    ways_call ds b (Joins conn stat_sn) h rest whole =
        let call : Call = Joins conn stat_sn in
        let later : List Deed = ds ++ (call, answered o b call) ∷ [] in
        let q : Queued (items_in ds) later b = queued ds b call h rest whole in
        no_items ds b call h rest whole (after_call o b call) refl
        (placed ds b call h rest whole (items_in ds) (after_call o b call)
        (cond_both (may_join b conn) (record b { links = at_link conn (link_joined stat_sn) b.links }) b (Queued (items_in ds) later)
        (λ is. queued_at (items_in ds) later b conn (link_joined stat_sn) (λ l. refl) (λ Q l e. e) q) (λ is. q))
        (join o Places (places_wise o) ds b conn stat_sn (may_join b conn) refl h.shows (before ds b call h rest whole).places))
    ways_call ds b (Loses conn) h rest whole =
        let call : Call = Loses conn in
        let later : List Deed = ds ++ (call, answered o b call) ∷ [] in
        let marked : Box = record b { links = at_link conn link_lost b.links } in
        let lost : Box = record marked { reached = 0 } in
        let q : Queued (items_in ds) later marked = queued_at (items_in ds) later b conn link_lost (λ l. refl) (λ Q l e. e) (queued ds b call h rest whole) in
        no_items ds b call h rest whole (after_call o b call) refl
        (settled ds b call h rest whole (items_in ds) (drop_on conn lost)
        ((way_walk o t calls follows later rest whole).drops_on (items_in ds) lost conn (over_after conn link_lost (λ l. or_second l.closed true refl) b.links)
        (record { sent = q.sent; undue = q.undue; queues = q.queues; places = lose_marks o Places (places_wise o) ds b conn (before ds b call h rest whole).places; conns = q.conns })))
    ways_call ds b (Clears unit) h rest whole =
        let call : Call = Clears unit in
        let later : List Deed = ds ++ (call, answered o b call) ∷ [] in
        let k : Ways o t calls follows later rest whole (items_in ds) b = quiet ds b call h rest whole (λ conn. record { apart = λ g shown. absurd cc; unwritten = refl; unlost = refl }) in
        no_items ds b call h rest whole (after_call o b call) refl
        (settled ds b call h rest whole (items_in ds) (record b { undue = cleared unit b.undue })
        (record { sent = k.sent; undue = clears (items_in ds) unit b.undue k.undue; queues = k.queues; places = k.places; conns = k.conns }))

    pub ways_kept : (ds : List Deed) (b : Box) (c : Call) → WaysStand ds b → WaysStand (ds ++ (c, answered o b c) ∷ []) (after_call o b c)
    ways_kept ds b c h = record { shows = box_shows o ds b c h.shows; ways = ways_call ds b c h }

    pub ways_start : WaysStand [] (opened o)
    ways_start = record { shows = link_starts o; ways = λ rest whole. record { sent = refl; undue = tt; queues = none_waits o.session.conns; places = places_start o; conns = refl } }
      where
        none_waits : (xs : List (ℕ × ℕ)) → EachOf (λ (l : Link). EachOf (Way o t [] [] l.conn) l.queue) (map (λ (x : ℕ × ℕ). new_link x.0) xs)
        none_waits [] = tt
        none_waits (x ∷ xs) = (tt, none_waits xs)
