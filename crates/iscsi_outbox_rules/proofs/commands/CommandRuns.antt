-- A command's own PDUs go out as they were put, on the connection on which it entered.
use Rattle.std.proofs.Common.{◌≡◌, ℕ, ◌⊎◌, inl, inr, ⊎_elim, ◌==◌, ◌+◌, ◌≤◌, ◌&&◌, ◌||◌, not, cond, Bool, true, false, List, [], ◌∷◌, ◌++◌, map, filter, Option, Some, None, refl, ap, sym, subst, ◌∙◌, arith}
use Rattle.std.specs.List.{list_any, flat_map, cons_option}
use Rattle.std.proofs.lemmas.Bool.{cond_both, eqb-true}
use Rattle.std.proofs.lemmas.List.{append-nil}
use Rattle.std.proofs.lemmas.List.Concat.{flat_map-append}
use Rattle.std.proofs.lemmas.List.Sums.{sum_by-append}
use Rattle.iscsi_wire.specs.declared.reply.Reply.{Reply}
use Rattle.iscsi_wire.specs.declared.request.Request.{Request}
use Rattle.iscsi_outbox_rules.specs.declared.own_pdu.OwnPdu.{OwnPdu}
use Rattle.iscsi_outbox_rules.specs.rules.Calls.{Opening}
use Rattle.iscsi_outbox_rules.specs.rules.Boxes.{Task, Outgoing, Aim, Answer, Link, Box}
use Rattle.iscsi_outbox_rules.specs.rules.Words.{contains, is_live_phase, is_of}
use Rattle.iscsi_outbox_rules.specs.rules.Queues.{at_link, takes_more, append, enter, without, emptied}
use Rattle.iscsi_outbox_rules.specs.rules.Items.{phase_taken_out, outgoing, answer, send_as, aim, send}
use Rattle.iscsi_outbox_rules.specs.rules.Handing.{is_from_queue}
use Rattle.iscsi_outbox_rules.specs.promises.Deeds.{Deed}
use Rattle.iscsi_outbox_rules.specs.promises.Order.{own_of, is_of_command, own_taken, own_handed}
use Rattle.iscsi_outbox_rules.proofs.general.EachLemmas.{EachOf, each-append, each-first, each-second, each-filter, each-map, each-weaken, each-first_of}
use Rattle.iscsi_outbox_rules.proofs.general.FoundLemmas.{find_link, found-conn, found-map}
use Rattle.iscsi_outbox_rules.proofs.general.Walks.{IsOver}
use Rattle.iscsi_outbox_rules.proofs.commands.TicketLemmas.{none_of, none_or_some, ticket_counts, with_ticket}
use Rattle.iscsi_outbox_rules.proofs.general.TaskWalks.{Onward, onward_ends, phased, phased_onward, taken_out_ends, TaskWalk}

module _ (t c : ℕ) where
  -- what a PDU is of the command's own ones
  abbrev pub own_in : Outgoing → List OwnPdu
  own_in x = filter (is_of_command t) (cons_option (own_of x.pdu) [])

  abbrev pub own_waiting : List Outgoing → List OwnPdu
  own_waiting queue = flat_map own_in queue

  abbrev pub handed_of : List Deed → List OwnPdu
  handed_of ds = filter (is_of_command t) (own_handed ds)

  abbrev pub taken_of : List Deed → List OwnPdu
  taken_of ds = filter (is_of_command t) (own_taken ds)

  -- an own PDU of the command waits on its connection alone
  abbrev pub OwnEntry : ℕ → Outgoing → Type 0
  OwnEntry conn x = (own_in x ≡ []) ⊎ ((conn ≡ c) × (x.ticket ≡ Some t) × (is_from_queue x ≡ true))

  abbrev pub LinkFits : Link → Type 0
  LinkFits l = EachOf (OwnEntry l.conn) l.queue × (l.cut ≡ true → l.closed ≡ true)

  -- the command is none that is live
  abbrev pub IsPast : Task → Type 0
  IsPast x = x.ticket ≡ t → is_live_phase x.phase ≡ false

  -- it entered, and isn't live any more
  pub record Past (ts : List Task) : Type 0 where
    pub entered : 1 ≤ with_ticket t ts
    pub past : EachOf IsPast ts

  -- what was taken and didn't go out waits, or was dropped
  pub record Dropped (ts : List Task) (l : Link) : Type 0 where
    pub empty : own_waiting l.queue ≡ []
    pub why : ((l.closed || l.lost) ≡ true) ⊎ Past ts

  abbrev pub Queued : List Task → List OwnPdu → Link → Type 0
  Queued ts waiting l = (waiting ≡ own_waiting l.queue) ⊎ Dropped ts l

  pub record CommandStands (n : ℕ) (ds : List Deed) (b : Box) : Type 0 where
    pub waiting : List OwnPdu
    pub whole : handed_of ds ++ waiting ≡ taken_of ds
    pub queued : (l : Link) → find_link c b.links ≡ Some l → Queued b.tasks waiting l
    pub fits : EachOf LinkFits b.links
    pub undue : EachOf (λ (a : Answer). own_in a.out ≡ []) b.undue
    pub homes : EachOf (λ (x : Task). x.ticket ≡ t → x.conn ≡ c) b.tasks
    pub before : with_ticket t b.tasks ≡ 0 → taken_of ds ≡ []
    pub known : with_ticket t b.tasks ≤ n

  -- each connection becomes another one
  changes : (ts us : List Task) (waiting : List OwnPdu) (g : Link → Link) → ((l : Link) → (g l).conn ≡ l.conn) → (links : List Link)
      → ((l : Link) → find_link c links ≡ Some l → LinkFits l → Queued ts waiting l → Queued us waiting (g l))
      → EachOf LinkFits links → ((l : Link) → find_link c links ≡ Some l → Queued ts waiting l) → (l : Link) → find_link c (map g links) ≡ Some l → Queued us waiting l
  changes ts us waiting g kept links f fits queued l found =
      (found-map (λ (m : Link). m.conn ≡ c → Queued ts waiting m) (λ (m : Link). m.conn ≡ c → Queued us waiting m) g kept links
      (λ conn m there k same.
      let at : conn ≡ c = sym (found-conn conn links m there) ∙ sym (kept m) ∙ same in
      let there' : find_link c links ≡ Some m = ap (λ e. find_link e links) (sym at) ∙ there in
      f m there' (each-first_of LinkFits (λ (x : Link). x.conn == c) links m there' fits) (k (sym (kept m) ∙ same)))
      (λ conn m there same. queued m (ap (λ e. find_link e links) (sym (sym (found-conn conn links m there) ∙ same)) ∙ there))) c l found (found-conn c (map g links) l found)

  pub changed : (n : ℕ) (ds : List Deed) (b : Box) (g : Link → Link) (undue : List Answer) → ((l : Link) → (g l).conn ≡ l.conn) → (h : CommandStands n ds b)
      → ((l : Link) → find_link c b.links ≡ Some l → LinkFits l → Queued b.tasks h.waiting l → Queued b.tasks h.waiting (g l)) → ((l : Link) → LinkFits l → LinkFits (g l)) → EachOf (λ (a : Answer). own_in a.out ≡ []) undue
      → CommandStands n ds (record b { links = map g b.links; undue = undue })
  changed n ds b g undue kept h queued fits none = record {
    waiting = h.waiting;
    whole = h.whole;
    queued = changes b.tasks b.tasks h.waiting g kept b.links queued h.fits h.queued;
    fits = each-map LinkFits LinkFits g b.links fits h.fits;
    undue = none;
    homes = h.homes;
    before = h.before;
    known = h.known;
  }

  -- ---- commands

  past_map : (f : Task → Task) → ((x : Task) → Onward x (f x)) → (ts : List Task) → Past ts → Past (map f ts)
  past_map f onward ts p = record {
    entered = subst (λ n. 1 ≤ n) (sym (ticket_counts t f (λ x. (onward x).ticket) ts)) p.entered;
    past = each-map IsPast IsPast f ts (λ x k same. onward_ends x (f x) (onward x) (k (sym (onward x).ticket ∙ same))) p.past;
  }

  still_queued : (ts us : List Task) → (Past ts → Past us) → (waiting : List OwnPdu) (l : Link) → Queued ts waiting l → Queued us waiting l
  still_queued ts us f waiting l q =
      ⊎_elim (λ same. inl same) (λ (d : Dropped ts l). inr (record { empty = d.empty; why = ⊎_elim (λ over. inl over) (λ past. inr (f past)) d.why })) q

  pub phases : (n : ℕ) (ds : List Deed) (b : Box) (f : Task → Task) → ((x : Task) → Onward x (f x)) → CommandStands n ds b → CommandStands n ds (record b { tasks = map f b.tasks })
  phases n ds b f onward h = record {
    waiting = h.waiting;
    whole = h.whole;
    queued = λ l found. still_queued b.tasks (map f b.tasks) (past_map f onward b.tasks) h.waiting l (h.queued l found);
    fits = h.fits;
    undue = h.undue;
    homes = each-map (λ (x : Task). x.ticket ≡ t → x.conn ≡ c) (λ (x : Task). x.ticket ≡ t → x.conn ≡ c) f b.tasks (λ x k same. (onward x).conn ∙ k (sym (onward x).ticket ∙ same)) h.homes;
    before = λ none. h.before (sym (ticket_counts t f (λ x. (onward x).ticket) b.tasks) ∙ none);
    known = subst (λ k. k ≤ n) (sym (ticket_counts t f (λ x. (onward x).ticket) b.tasks)) h.known;
  }

  pub enters_task : (n k : ℕ) (ds : List Deed) (b : Box) (ts : List Task) → n + k ≤ 1 → (1 ≤ k → EachOf (λ (x : Task). x.conn ≡ c) ts) → with_ticket t ts ≤ k → CommandStands n ds b
      → CommandStands (n + k) ds (record b { tasks = b.tasks ++ ts })
  enters_task n k ds b ts once conns few h = record {
    waiting = h.waiting;
    whole = h.whole;
    queued = λ l found. still_queued b.tasks (b.tasks ++ ts) past h.waiting l (h.queued l found);
    fits = h.fits;
    undue = h.undue;
    homes = each-append (λ (x : Task). x.ticket ≡ t → x.conn ≡ c) b.tasks ts h.homes (new_homes k conns few);
    before = λ none. h.before (let z : with_ticket t b.tasks + with_ticket t ts ≡ 0 = sym counted ∙ none in omega (arith, z));
    known = let k : with_ticket t b.tasks ≤ n = h.known in omega (arith, counted, few, k);
  }
    where
      counted : with_ticket t (b.tasks ++ ts) ≡ with_ticket t b.tasks + with_ticket t ts
      counted = sum_by-append (λ (y : Task). cond (y.ticket == t) 1 0) b.tasks ts

      new_homes : (m : ℕ) → (1 ≤ m → EachOf (λ (x : Task). x.conn ≡ c) ts) → with_ticket t ts ≤ m → EachOf (λ (x : Task). x.ticket ≡ t → x.conn ≡ c) ts
      new_homes m on fits =
          ⊎_elim
          (λ (none : m ≡ 0). each-weaken (λ (x : Task). x.ticket ≡ t → ⊥) (λ (x : Task). x.ticket ≡ t → x.conn ≡ c) ts (λ x no same. absurd (no same)) (none_of t ts (omega (arith, none, fits))))
          (λ (some : 1 ≤ m). each-weaken (λ (x : Task). x.conn ≡ c) (λ (x : Task). x.ticket ≡ t → x.conn ≡ c) ts (λ x is same. is) (on some))
          (none_or_some m)

      past : Past b.tasks → Past (b.tasks ++ ts)
      past p =
          let before : 1 ≤ with_ticket t b.tasks = p.entered in
          let known : with_ticket t b.tasks ≤ n = h.known in
          record {
            entered = omega (arith, counted, before);
            past = each-append IsPast b.tasks ts p.past (each-weaken (λ (x : Task). x.ticket ≡ t → ⊥) IsPast ts (λ x no same. absurd (no same)) (none_of t ts (omega (arith, before, known, once, few))));
          }

  -- ---- dropping what is of commands

  pub dropped_others : (these : ℕ → Bool) (conn : ℕ) (queue : List Outgoing) → these t ≡ false → EachOf (OwnEntry conn) queue → own_waiting (filter (λ out. not (is_of these out)) queue) ≡ own_waiting queue
  dropped_others these conn [] apart h = refl
  dropped_others these conn (x ∷ queue) apart h =
      let rest : own_waiting (filter (λ out. not (is_of these out)) queue) ≡ own_waiting queue = dropped_others these conn queue apart h.1 in
      ⊎_elim
      (λ none. cond_both (not (is_of these x)) (x ∷ filter (λ out. not (is_of these out)) queue) (filter (λ out. not (is_of these out)) queue) (λ ys. own_waiting ys ≡ own_waiting (x ∷ queue))
      (λ is. ap (λ ys. own_in x ++ ys) rest) (λ is. rest ∙ sym (ap (λ ys. ys ++ own_waiting queue) none)))
      (λ own.
      let stays : not (is_of these x) ≡ true = ap (λ k. not (elim k [ Some ticket ↦ these ticket | None ↦ false ])) own.1 ∙ ap not apart in
      ap (λ v. own_waiting (cond v (x ∷ filter (λ out. not (is_of these out)) queue) (filter (λ out. not (is_of these out)) queue))) stays ∙ ap (λ ys. own_in x ++ ys) rest)
      h.0

  pub dropped_own : (these : ℕ → Bool) (conn : ℕ) (queue : List Outgoing) → these t ≡ true → EachOf (OwnEntry conn) queue → own_waiting (filter (λ out. not (is_of these out)) queue) ≡ []
  dropped_own these conn [] of h = refl
  dropped_own these conn (x ∷ queue) of h =
      let rest : own_waiting (filter (λ out. not (is_of these out)) queue) ≡ [] = dropped_own these conn queue of h.1 in
      ⊎_elim
      (λ none. cond_both (not (is_of these x)) (x ∷ filter (λ out. not (is_of these out)) queue) (filter (λ out. not (is_of these out)) queue) (λ ys. own_waiting ys ≡ [])
      (λ is. ap (λ ys. ys ++ own_waiting (filter (λ out. not (is_of these out)) queue)) none ∙ rest) (λ is. rest))
      (λ own.
      let goes : not (is_of these x) ≡ false = ap (λ k. not (elim k [ Some ticket ↦ these ticket | None ↦ false ])) own.1 ∙ ap not of in
      ap (λ v. own_waiting (cond v (x ∷ filter (λ out. not (is_of these out)) queue) (filter (λ out. not (is_of these out)) queue))) goes ∙ rest)
      h.0

  empty_second : (xs ys : List OwnPdu) → xs ++ ys ≡ [] → ys ≡ []
  empty_second [] ys h = h
  empty_second (x ∷ xs) ys h = absurd cc

  taken_out_onward : (tickets : List ℕ) (x : Task) → Onward x (phased phase_taken_out tickets x)
  taken_out_onward tickets x = phased_onward phase_taken_out (λ among stays. stays.taken_out) tickets x

  all_past : (tickets : List ℕ) → contains tickets t ≡ true → (ts : List Task) → EachOf IsPast (map (phased phase_taken_out tickets) ts)
  all_past tickets of [] = tt
  all_past tickets of (x ∷ ts) = (
    (λ same.
        let here : contains tickets x.ticket ≡ true = ap (contains tickets) (sym (taken_out_onward tickets x).ticket ∙ same) ∙ of in
        ap (λ v. is_live_phase (cond v (record x { phase = phase_taken_out x.phase }) x).phase) here ∙ taken_out_ends x.phase),
    all_past tickets of ts,
  )

  pub takes_out : (n : ℕ) (ds : List Deed) (b : Box) (tickets : List ℕ) → CommandStands n ds b → CommandStands n ds (record b { tasks = map (phased phase_taken_out tickets) b.tasks; links = map (without (contains tickets)) b.links })
  takes_out n ds b tickets h =
      elim (contains tickets t) as (λ v. contains tickets t ≡ v → CommandStands n ds (record b { tasks = map (phased phase_taken_out tickets) b.tasks; links = map (without (contains tickets)) b.links })) [
        | false ↦ λ apart.
            by_links (λ l found f q. ⊎_elim (λ same. inl (same ∙ sym (dropped_others (contains tickets) l.conn l.queue apart f.0)))
            (λ (d : Dropped left.tasks l). inr (record { empty = dropped_others (contains tickets) l.conn l.queue apart f.0 ∙ d.empty; why = d.why })) q)
        | true ↦ λ of.
            by_links (λ l found f q.
            let gone : own_waiting (without (contains tickets) l).queue ≡ [] = dropped_own (contains tickets) l.conn l.queue of f.0 in
            ⊎_elim
            (λ (none : with_ticket t left.tasks ≡ 0). inl (empty_second (handed_of ds) k.waiting (k.whole ∙ k.before none) ∙ sym gone))
            (λ (some : 1 ≤ with_ticket t left.tasks). inr (record { empty = gone; why = inr (record { entered = some; past = all_past tickets of b.tasks }) }))
            (none_or_some (with_ticket t left.tasks)))
      ] refl
    where
      left : Box
      left = record b { tasks = map (phased phase_taken_out tickets) b.tasks }

      k : CommandStands n ds left
      k = phases n ds b (phased phase_taken_out tickets) (taken_out_onward tickets) h

      by_links : ((l : Link) → find_link c b.links ≡ Some l → LinkFits l → Queued left.tasks k.waiting l → Queued left.tasks k.waiting (without (contains tickets) l))
          → CommandStands n ds (record b { tasks = map (phased phase_taken_out tickets) b.tasks; links = map (without (contains tickets)) b.links })
      by_links queued =
          changed n ds left (without (contains tickets)) b.undue (λ l. refl) k queued (λ l f. (each-filter (OwnEntry l.conn) _ l.queue f.0, f.1)) h.undue

  -- ---- entering what is none of them

  pub waiting-push : (queue : List Outgoing) (out : Outgoing) → own_in out ≡ [] → own_waiting (queue ++ out ∷ []) ≡ own_waiting queue
  waiting-push queue out none = flat_map-append own_in queue (out ∷ []) ∙ ap (λ ys. own_waiting queue ++ (ys ++ [])) none ∙ append-nil (own_waiting queue)

  other : (ts : List Task) (waiting : List OwnPdu) (l : Link) (queue : List Outgoing) → own_waiting queue ≡ own_waiting l.queue → Queued ts waiting l → Queued ts waiting (record l { queue = queue })
  other ts waiting l queue same k = ⊎_elim (λ is. inl (is ∙ sym same)) (λ (d : Dropped ts l). inr (record { empty = same ∙ d.empty; why = d.why })) k

  pub append-conn : (out : Outgoing) (l : Link) → (append out l).conn ≡ l.conn
  append-conn out l = cond_both (takes_more l) (record l { queue = l.queue ++ out ∷ [] }) l (λ (m : Link). m.conn ≡ l.conn) (λ is. refl) (λ is. refl)

  -- a change of one connection
  one_kept : (conn : ℕ) (change : Link → Link) → ((l : Link) → (change l).conn ≡ l.conn) → (l : Link) → (cond (l.conn == conn) (change l) l).conn ≡ l.conn
  one_kept conn change kept l = cond_both (l.conn == conn) (change l) l (λ (m : Link). m.conn ≡ l.conn) (λ is. kept l) (λ is. refl)

  pub at_one : (n : ℕ) (ds : List Deed) (b : Box) (conn : ℕ) (change : Link → Link) (undue : List Answer) → ((l : Link) → (change l).conn ≡ l.conn) → (h : CommandStands n ds b)
      → ((l : Link) → l.conn ≡ conn → find_link c b.links ≡ Some l → Queued b.tasks h.waiting l → Queued b.tasks h.waiting (change l)) → ((l : Link) → LinkFits l → LinkFits (change l)) → EachOf (λ (a : Answer). own_in a.out ≡ []) undue
      → CommandStands n ds (record b { links = at_link conn change b.links; undue = undue })
  at_one n ds b conn change undue kept h queued fits none =
      changed n ds b (λ (l : Link). cond (l.conn == conn) (change l) l) undue (one_kept conn change kept) h
      (λ l found f k. cond_both (l.conn == conn) (change l) l (Queued b.tasks h.waiting) (λ is. queued l (eqb-true l.conn conn is) found k) (λ is. k))
      (λ l f. cond_both (l.conn == conn) (change l) l LinkFits (λ is. fits l f) (λ is. f)) none

  -- nothing of it is looked at
  pub same_else : (n : ℕ) (ds : List Deed) (b : Box) (sent time exp max shown reached : ℕ) → CommandStands n ds b → CommandStands n ds (record b { sent = sent; time = time; exp = exp; max = max; shown = shown; reached = reached })
  same_else n ds b sent time exp max shown reached h = record { waiting = h.waiting; whole = h.whole; queued = h.queued; fits = h.fits; undue = h.undue; homes = h.homes; before = h.before; known = h.known }

  pub enters : (n : ℕ) (ds : List Deed) (b : Box) (conn : ℕ) (out : Outgoing) → own_in out ≡ [] → CommandStands n ds b → CommandStands n ds (enter conn out b)
  enters n ds b conn out none h =
      let out' : Outgoing = record out { time = b.time } in
      let b' : Box = record b { links = at_link conn (append out') b.links; undue = b.undue } in
      let k : CommandStands n ds b' =
      at_one n ds b conn (append out') b.undue (append-conn out') h
      (λ l is found q. cond_both (takes_more l) (record l { queue = l.queue ++ out' ∷ [] }) l (Queued b.tasks h.waiting) (λ more. other b.tasks h.waiting l (l.queue ++ out' ∷ []) (waiting-push l.queue out' none) q) (λ more. q))
      (λ l f. cond_both (takes_more l) (record l { queue = l.queue ++ out' ∷ [] }) l LinkFits (λ more. (each-append (OwnEntry l.conn) l.queue (out' ∷ []) f.0 (inl none, tt), f.1)) (λ more. f)) h.undue in
      same_else n ds b' b.sent (b.time + 1) b.exp b.max b.shown b.reached k

  counts : (n : ℕ) (ds : List Deed) (b : Box) → CommandStands n ds b → CommandStands n ds (record b { sent = b.sent + 1 })
  counts n ds b h = same_else n ds b (b.sent + 1) b.time b.exp b.max b.shown b.reached h

  pub new_undue : (n : ℕ) (ds : List Deed) (b : Box) (undue : List Answer) → EachOf (λ (a : Answer). own_in a.out ≡ []) undue → CommandStands n ds b → CommandStands n ds (record b { undue = undue })
  new_undue n ds b undue none h = record { waiting = h.waiting; whole = h.whole; queued = h.queued; fits = h.fits; undue = none; homes = h.homes; before = h.before; known = h.known }

  sends_one : (o : Opening) (n : ℕ) (ds : List Deed) (b : Box) (r : Option Request) (tickets conns closes : List ℕ) (x : Option (ℕ × Reply)) → CommandStands n ds b → CommandStands n ds (send o r tickets conns closes x b)
  sends_one o n ds b r tickets conns closes None h = h
  sends_one o n ds b None tickets conns closes (Some s) h = counts n ds (enter s.0 (outgoing b None tickets s.1) b) (enters n ds b s.0 (outgoing b None tickets s.1) refl h)
  sends_one o n ds b (Some r) tickets conns closes (Some s) h = by_aim (aim o (Some r) s.1)
    where
      by_aim : (x : Option Aim) → CommandStands n ds (let b' = send_as o (Some r) x conns closes s.0 (outgoing b (Some r) tickets s.1) b in record b' { sent = b'.sent + 1 })
      by_aim None = counts n ds (enter s.0 (outgoing b (Some r) tickets s.1) b) (enters n ds b s.0 (outgoing b (Some r) tickets s.1) refl h)
      by_aim (Some about) =
          let a : Answer = answer o b r conns closes s.0 (outgoing b (Some r) tickets s.1) about in
          cond_both (list_any (λ (l : Link). (l.conn == a.conn) && takes_more l) b.links) (record b { undue = b.undue ++ a ∷ [] }) b (λ (b' : Box). CommandStands n ds (record b' { sent = b'.sent + 1 }))
          (λ may. counts n ds (record b { undue = b.undue ++ a ∷ [] }) (new_undue n ds b (b.undue ++ a ∷ []) (each-append (λ (x : Answer). own_in x.out ≡ []) b.undue (a ∷ []) h.undue (refl, tt)) h))
          (λ may. counts n ds b h)

  -- a connection that is closed or lost may have lost what waited
  closed_queued : (ts : List Task) (waiting : List OwnPdu) (l : Link) (cut : Bool) → Queued ts waiting l → Queued ts waiting (record l { closed = true; cut = cut })
  closed_queued ts waiting l cut q = ⊎_elim (λ same. inl same) (λ (d : Dropped ts l). inr (record { empty = d.empty; why = inl refl })) q

  pub command_walk : (o : Opening) (ds : List Deed) → TaskWalk o t c (λ n b. CommandStands n ds b)
  command_walk o ds = record {
    takes_out = λ n b tickets h. takes_out n ds b tickets h;
    phases = λ n b f onward back h. phases n ds b f onward h;
    enters = λ n k b ts once conns few h. enters_task n k ds b ts once conns few h;
    closes = λ n b conn h. at_one n ds b conn (λ l. record l { closed = true }) b.undue (λ l. refl) h (λ l is found k. closed_queued b.tasks h.waiting l l.cut k) (λ l f. (f.0, (λ cut. refl))) h.undue;
    cuts = λ n b conn h. at_one n ds b conn (λ l. record l { closed = true; cut = true }) b.undue (λ l. refl) h (λ l is found k. closed_queued b.tasks h.waiting l true k) (λ l f. (f.0, (λ cut. refl))) h.undue;
    drops_on = λ n b conn over h.
        at_one n ds b conn emptied (filter (λ (a : Answer). not (a.conn == conn)) b.undue) (λ l. refl) h
        (λ l is found k. inr (record { empty = refl; why = inl (each-first_of (IsOver conn) (λ (m : Link). m.conn == c) b.links l found over is) })) (λ l f. (tt, f.1))
        (each-filter (λ (a : Answer). own_in a.out ≡ []) (λ (a : Answer). not (a.conn == conn)) b.undue h.undue);
    moves = λ n b before rest a h.
        let later = each-second (λ (x : Answer). own_in x.out ≡ []) before (a ∷ rest) h.undue in
        enters n ds (record b { undue = before ++ rest }) a.conn a.out later.0
        (new_undue n ds (record b { undue = before ++ a ∷ rest }) (before ++ rest) (each-append (λ (x : Answer). own_in x.out ≡ []) before rest (each-first (λ (x : Answer). own_in x.out ≡ []) before (a ∷ rest) h.undue) later.1) h);
    sends = λ n b r tickets conns closes x h. sends_one o n ds b r tickets conns closes x h;
    numbers = λ n b exp max h. same_else n ds b b.sent b.time exp max b.shown b.reached h;
    more = λ n k b h. record { waiting = h.waiting; whole = h.whole; queued = h.queued; fits = h.fits; undue = h.undue; homes = h.homes; before = h.before; known = let z : with_ticket t b.tasks ≤ n = h.known in omega (arith, z) };
  }
