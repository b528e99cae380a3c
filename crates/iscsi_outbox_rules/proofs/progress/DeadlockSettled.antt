-- After each call no answer to an abort or a Logout that is due waits for its queue.
use Rattle.std.proofs.Common.{◌≡◌, ℕ, zero, suc, ⊎_elim, ◌==◌, ◌&&◌, ◌||◌, not, cond, Bool, true, false, List, [], ◌∷◌, ◌++◌, map, drop, filter_map, Some, None, refl, ap, sym, subst, ◌∙◌}
use Rattle.std.specs.List.{list_any}
use Rattle.std.proofs.lemmas.Bool.{cond_both, false≢true}
use Rattle.std.proofs.lemmas.List.{append_assoc, append-nil}
use Rattle.std.proofs.lemmas.List.Folds.{list_any-append}
use Rattle.iscsi_rules.specs.declared.effect.Effect.{Effect}
use Rattle.iscsi_rules.specs.declared.effect.Numbers.{Numbers}
use Rattle.iscsi_rules.specs.rules.Trace.{first_of}
use Rattle.iscsi_rules.specs.promises.Order.{in_parts}
use Rattle.iscsi_rules.proofs.general.BoolLemmas.{and_parts, and_both, or_second}
use Rattle.iscsi_outbox_rules.specs.declared.own_pdu.OwnPdu.{OwnPdu}
use Rattle.iscsi_outbox_rules.specs.rules.Calls.{Opening, Call, Takes, Puts, Stops, Nexts, Writes, Hears, Joins, Loses, Clears}
use Rattle.iscsi_outbox_rules.specs.rules.Boxes.{Phase, Dormant, Fresh, Started, Completed, Running, Gone, Task, Outgoing, Handed, Answer, Link, Box}
use Rattle.iscsi_outbox_rules.specs.rules.Words.{contains, is_running_phase, is_running, is_of, is_open, looks_for_arrival, has_under_way}
use Rattle.iscsi_outbox_rules.specs.rules.Queues.{at_link, takes_more, append, enter, drop_on}
use Rattle.iscsi_outbox_rules.specs.rules.Due.{is_of_logout, holds, goes_behind, is_due, settle_from, settle}
use Rattle.iscsi_outbox_rules.specs.rules.Items.{executing, tickets_left, ticket_enabled, reply_sent, closed_in, newly_closed, phase_enabled, phase_told, in_phase, leave, enter_tasks, close, send, after_item, after_items, after_event}
use Rattle.iscsi_outbox_rules.specs.rules.Own.{own_conn, own_outgoing, put_refusal}
use Rattle.iscsi_outbox_rules.specs.rules.Handing.{is_from_queue, taken_from, after_given}
use Rattle.iscsi_outbox_rules.specs.rules.Run.{opened, after_call, after_calls, phase_stopped, one_written, link_heard, may_join, link_joined, link_lost, cleared}
use Rattle.iscsi_outbox_rules.proofs.general.Cuts.{Hand, Idle, next}
use Rattle.iscsi_outbox_rules.proofs.aborts.ScopeTasks.{any_same}

module _ (o : Opening) where
  -- none of these is due, behind those before
  abbrev pub NoneDue : Box → List Answer → List Answer → Type 0
  NoneDue b before [] = Unit {0}
  NoneDue b before (a ∷ rest) = (is_due o b before a ≡ false) × NoneDue b (before ++ a ∷ []) rest

  abbrev pub Settled : Box → Type 0
  Settled b = NoneDue b [] b.undue

  -- whatever isn't due stays so
  abbrev StaysUndue : Box → Box → Type 0
  StaysUndue b b' = (before : List Answer) (a : Answer) → is_due o b before a ≡ false → is_due o b' before a ≡ false

  none_stays : (b b' : Box) → StaysUndue b b' → (before rest : List Answer) → NoneDue b before rest → NoneDue b' before rest
  none_stays b b' stays before [] h = tt
  none_stays b b' stays before (a ∷ rest) h = (stays before a h.0, none_stays b b' stays (before ++ a ∷ []) rest h.1)

  none_push : (b : Box) (first before : List Answer) (a : Answer) → NoneDue b first before → is_due o b (first ++ before) a ≡ false → NoneDue b first (before ++ a ∷ [])
  none_push b first [] a h undue = (ap (λ as'. is_due o b as' a) (sym (append-nil first)) ∙ undue, tt)
  none_push b first (x ∷ before) a h undue = (h.0, none_push b (first ++ x ∷ []) before a h.1 (ap (λ as'. is_due o b as' a) (append_assoc first (x ∷ []) before) ∙ undue))

  -- ---- entering a queue

  holds_append : (a : Answer) (out : Outgoing) (l : Link) → holds o a (append out l) ≡ holds o a l
  holds_append a out l = cond_both (takes_more l) (record l { queue = l.queue ++ out ∷ [] }) l (λ (m : Link). holds o a m ≡ holds o a l) (λ is. refl) (λ is. refl)

  enters_undue : (b : Box) (conn : ℕ) (out : Outgoing) → StaysUndue b (enter conn out b)
  enters_undue b conn out before a h =
      let out' : Outgoing = record out { time = b.time } in
      ap (λ v. not (list_any (is_running b) a.out.scope) && not v && not a.uncleared && not (list_any (goes_behind a) before))
      (any_same (holds o a) (holds o a) (λ (l : Link). cond (l.conn == conn) (append out' l) l) b.links
      (λ l. cond_both (l.conn == conn) (append out' l) l (λ (m : Link). holds o a m ≡ holds o a l) (λ is. holds_append a out' l) (λ is. refl)))
      ∙ h

  settles_from : (before rest : List Answer) (b : Box) → NoneDue b [] before → Settled (settle_from o before rest b)
  settles_from before [] b h = h
  settles_from before (a ∷ rest) b h =
      cond_both (is_due o b before a) (settle_from o before rest (enter a.conn a.out b)) (settle_from o (before ++ a ∷ []) rest b) Settled
      (λ due. settles_from before rest (enter a.conn a.out b) (none_stays b (enter a.conn a.out b) (enters_undue b a.conn a.out) [] before h))
      (λ undue. settles_from (before ++ a ∷ []) rest b (none_push b [] before a h undue))

  pub settles : (b : Box) → Settled (settle o b)
  settles b = settles_from [] b.undue b tt

  -- ---- an event

  settled_items : (b : Box) (items : List (List Effect)) → Settled b → Settled (after_items o b items)
  settled_items b [] h = h
  settled_items b (item ∷ items) h =
      let r = executing item in
      let conns = closed_in b item in
      let closes = newly_closed b conns in
      let sent : Box = send o r (tickets_left item) conns closes (first_of (filter_map reply_sent item)) (close r closes (enter_tasks r item (leave r (tickets_left item) b))) in
      settled_items (after_item o b item) items (settles (in_phase phase_enabled (filter_map ticket_enabled item) sent))

  running_told : (p : Phase) → is_running_phase (phase_told p) ≡ is_running_phase p
  running_told Dormant = refl
  running_told Fresh = refl
  running_told Started = refl
  running_told Completed = refl
  running_told Running = refl
  running_told Gone = refl

  any_alike : {A : Type 0} (p q : A → Bool) (xs : List A) → ((x : A) → p x ≡ q x) → list_any p xs ≡ list_any q xs
  any_alike p q [] same = refl
  any_alike p q (x ∷ xs) same = ap (λ v. v || list_any p xs) (same x) ∙ ap (λ v. q x || v) (any_alike p q xs same)

  settled_event : (b : Box) (effects : List Effect) (numbers : Numbers) → Settled b → Settled (after_event o b effects numbers)
  settled_event b effects numbers h =
      let b' : Box = after_items o b (in_parts effects) in
      none_stays b' (after_event o b effects numbers)
      (λ before a undue.
      ap (λ v. not v && not (list_any (holds o a) b'.links) && not a.uncleared && not (list_any (goes_behind a) before))
      (any_alike (is_running (after_event o b effects numbers)) (is_running b') a.out.scope
      (λ k. any_same (λ (x : Task). (x.ticket == k) && is_running_phase x.phase) (λ (x : Task). (x.ticket == k) && is_running_phase x.phase) (λ (x : Task). record x { phase = phase_told x.phase }) b'.tasks
      (λ x. ap (λ v. (x.ticket == k) && v) (running_told x.phase))))
      ∙ undue) [] b'.undue (settled_items b (in_parts effects) h)

  -- ---- more under way

  more_held : (r h h' u g : Bool) → (h ≡ true → h' ≡ true) → (not r && not h && not u && not g) ≡ false → (not r && not h' && not u && not g) ≡ false
  more_held true h h' u g f undue = refl
  more_held false true true u g f undue = refl
  more_held false true false u g f undue = absurd (false≢true (f refl))
  more_held false false true u g f undue = refl
  more_held false false false u g f undue = undue

  any_more : {A : Type 0} (p : A → Bool) (f : A → A) → ((x : A) → p x ≡ true → p (f x) ≡ true) → (xs : List A) → list_any p xs ≡ true → list_any p (map f xs) ≡ true
  any_more p f keeps [] h = h
  any_more p f keeps (x ∷ xs) h =
      elim (p x) as (λ v. p x ≡ v → (v || list_any p xs) ≡ true → (p (f x) || list_any p (map f xs)) ≡ true) [
        | true ↦ λ is here. ap (λ v. v || list_any p (map f xs)) (keeps x is)
        | false ↦ λ is later. or_second (p (f x)) (list_any p (map f xs)) (any_more p f keeps xs later)
      ] refl h

  stays_held : (b : Box) (change : Link → Link) → ((a : Answer) (l : Link) → holds o a l ≡ true → holds o a (change l) ≡ true) → StaysUndue b (record b { links = map change b.links })
  stays_held b change keeps before a undue =
      more_held (list_any (is_running b) a.out.scope) (list_any (holds o a) b.links) (list_any (holds o a) (map change b.links)) a.uncleared (list_any (goes_behind a) before) (any_more (holds o a) change (keeps a) b.links) undue

  -- what is under way there has come to more
  more_way : (a : Answer) (l m : Link) → m.conn ≡ l.conn → (has_under_way o (contains a.out.scope) l ≡ true → has_under_way o (contains a.out.scope) m ≡ true) → holds o a l ≡ true → holds o a m ≡ true
  more_way a l m same more h =
      let parts = and_parts (not (is_of_logout a.aim) && not (l.conn == a.conn)) (has_under_way o (contains a.out.scope) l) h in
      and_both (not (is_of_logout a.aim) && not (m.conn == a.conn)) (has_under_way o (contains a.out.scope) m) (ap (λ c. not (is_of_logout a.aim) && not (c == a.conn)) same ∙ parts.0) (more parts.1)

  any_drop : (p : Handed → Bool) (n : ℕ) (xs ys : List Handed) → list_any p (drop n xs) ≡ true → list_any p (drop n (xs ++ ys)) ≡ true
  any_drop p zero xs ys h = list_any-append p xs ys ∙ ap (λ v. v || list_any p ys) h
  any_drop p (suc n) [] ys h = absurd (false≢true h)
  any_drop p (suc n) (x ∷ xs) ys h = any_drop p n xs ys h

  pushed_way : (these : ℕ → Bool) (l : Link) (g : Handed) → has_under_way o these l ≡ true → has_under_way o these (record l { handed = l.handed ++ g ∷ [] }) ≡ true
  pushed_way these l g h = by_open (is_open l) h
    where
      p : Handed → Bool
      p x = is_of these x.out

      by_looks : (v : Bool) → list_any (λ (x : Handed). is_of these x.out) (cond v (drop l.arrived l.handed) (drop l.written l.handed)) ≡ true
          → list_any (λ (x : Handed). is_of these x.out) (cond v (drop l.arrived (l.handed ++ g ∷ [])) (drop l.written (l.handed ++ g ∷ []))) ≡ true
      by_looks true k = any_drop (λ (x : Handed). is_of these x.out) l.arrived l.handed (g ∷ []) k
      by_looks false k = any_drop (λ (x : Handed). is_of these x.out) l.written l.handed (g ∷ []) k

      by_open : (v : Bool) → list_any (λ (x : Handed). is_of these x.out) (cond v (cond (looks_for_arrival o) (drop l.arrived l.handed) (drop l.written l.handed)) []) ≡ true
          → list_any (λ (x : Handed). is_of these x.out) (cond v (cond (looks_for_arrival o) (drop l.arrived (l.handed ++ g ∷ [])) (drop l.written (l.handed ++ g ∷ []))) []) ≡ true
      by_open true k = by_looks (looks_for_arrival o) k
      by_open false k = absurd (false≢true k)

  joined_way : (these : ℕ → Bool) (l : Link) (stat_sn : ℕ) → has_under_way o these l ≡ true → has_under_way o these (link_joined stat_sn l) ≡ true
  joined_way these l stat_sn h = by_open l.joined (not l.lost) h
    where
      way : Bool → Bool
      way v = list_any (λ (x : Handed). is_of these x.out) (cond v (cond (looks_for_arrival o) (drop l.arrived l.handed) (drop l.written l.handed)) [])

      by_open : (u v : Bool) → way (u && v) ≡ true → way v ≡ true
      by_open true v k = k
      by_open false v k = absurd (false≢true k)

  one_more : (conn : ℕ) (change : Link → Link) → ((l : Link) → (change l).conn ≡ l.conn) → ((these : ℕ → Bool) (l : Link) → has_under_way o these l ≡ true → has_under_way o these (change l) ≡ true) → (a : Answer) (l : Link)
      → holds o a l ≡ true → holds o a (cond (l.conn == conn) (change l) l) ≡ true
  one_more conn change same more a l h =
      cond_both (l.conn == conn) (change l) l (λ (m : Link). holds o a m ≡ true) (λ is. more_way a l (change l) (same l) (more (contains a.out.scope) l) h) (λ is. h)

  given_undue : (b : Box) (l : Link) (g : Handed) → StaysUndue b (after_given o b l g)
  given_undue b l g before a undue =
      let one : Box = record b { links = at_link l.conn (taken_from g.out) b.links } in
      stays_held one (λ (m : Link). cond (m.conn == l.conn) (record m { handed = m.handed ++ g ∷ [] }) m) (λ x m k. one_more l.conn (λ n. record n { handed = n.handed ++ g ∷ [] }) (λ n. refl) (λ these n j. pushed_way these n g j) x m k) before a
      (stays_held b (λ (m : Link). cond (m.conn == l.conn) (taken_from g.out m) m)
      (λ x m k. one_more l.conn (taken_from g.out) (λ n. cond_both (is_from_queue g.out) (record n { queue = drop 1 n.queue }) n (λ (y : Link). y.conn ≡ n.conn) (λ is. refl) (λ is. refl))
      (λ these n j. cond_both (is_from_queue g.out) (record n { queue = drop 1 n.queue }) n (λ (y : Link). has_under_way o these y ≡ true) (λ is. j) (λ is. j)) x m k) before a undue)

  -- ---- calls

  settled_put : (b : Box) (p : OwnPdu) → Settled b → Settled (after_call o b (Puts p))
  settled_put b p h =
      elim (put_refusal o b p) as (λ x. Settled (elim x [ Some refusal ↦ b | None ↦ elim (own_conn b p) [ Some conn ↦ enter conn (own_outgoing p) b | None ↦ b ] ])) [
        | Some refusal ↦ h
        | None ↦ elim (own_conn b p) as (λ x. Settled (elim x [ Some conn ↦ enter conn (own_outgoing p) b | None ↦ b ])) [
          | Some conn ↦ none_stays b (enter conn (own_outgoing p) b) (enters_undue b conn (own_outgoing p)) [] b.undue h
          | None ↦ h
        ]
      ]

  pub settled_call : (b : Box) (call : Call) → Settled b → Settled (after_call o b call)
  settled_call b (Takes effects numbers) h = settled_event b effects numbers h
  settled_call b (Puts p) h = settled_put b p h
  settled_call b (Stops ticket) h = cond_both (is_running b ticket) (settle o (in_phase phase_stopped (ticket ∷ []) b)) b Settled (λ is. settles (in_phase phase_stopped (ticket ∷ []) b)) (λ is. h)
  settled_call b (Nexts conn) h =
      ⊎_elim (λ (k : Hand o b conn). subst Settled (sym k.after_is) (none_stays b (after_given o b k.handing.link k.handed) (given_undue b k.handing.link k.handed) [] b.undue h))
      (λ (k : Idle o b conn). subst Settled (sym k.after_is) h) (next o b conn)
  settled_call b (Writes conn) h = settles (record b { links = at_link conn one_written b.links })
  settled_call b (Hears conn exp_stat_sn tag) h = settles (record b { links = at_link conn (link_heard exp_stat_sn tag) b.links })
  settled_call b (Joins conn stat_sn) h =
      cond_both (may_join b conn) (record b { links = at_link conn (link_joined stat_sn) b.links }) b Settled
      (λ is. none_stays b (record b { links = at_link conn (link_joined stat_sn) b.links })
      (stays_held b (λ (l : Link). cond (l.conn == conn) (link_joined stat_sn l) l) (λ a l k. one_more conn (link_joined stat_sn) (λ m. refl) (λ these m j. joined_way these m stat_sn j) a l k)) [] b.undue h) (λ is. h)
  settled_call b (Loses conn) h = settles (drop_on conn (record b { links = at_link conn link_lost b.links; reached = 0 }))
  settled_call b (Clears unit) h = settles (record b { undue = cleared unit b.undue })

  settled_calls : (b : Box) (calls : List Call) → Settled b → Settled (after_calls o b calls)
  settled_calls b [] h = h
  settled_calls b (call ∷ calls) h = settled_calls (after_call o b call) calls (settled_call b call h)

  pub all_settled : (calls : List Call) → Settled (after_calls o (opened o) calls)
  all_settled calls = settled_calls (opened o) calls tt
