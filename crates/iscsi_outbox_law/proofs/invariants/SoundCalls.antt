-- Each call keeps what holds of a box.
use Rattle.std.proofs.Common.{◌≡◌, ◌≤◌, ℕ, ◌+◌, ◌==◌, ◌&&◌, inl, inr, ⊎_elim, not, cond, nat_le, Bool, true, false, List, [], ◌∷◌, map, filter, Option, Some, None, refl, ap, sym, subst, ◌∙◌, arith, eq-eqb}
use Rattle.std.specs.List.{list_any}
use Rattle.std.proofs.lemmas.Bool.{and_parts, cond_both, eqb-true, false≢true, or_left, or_right}
use Rattle.std.proofs.lemmas.Bool.Decides.{nat_tests}
use Rattle.iscsi_rules.specs.rules.Settings.{are_distinct}
use Rattle.iscsi_rules.specs.rules.Trace.{first_of}
use Rattle.iscsi_rules.specs.promises.Order.{in_parts}
use Rattle.iscsi_outbox_rules.specs.declared.own_pdu.OwnPdu.{OwnPdu}
use Rattle.iscsi_outbox_rules.specs.declared.own_pdu.OwnPdu.TheVariants.{OfCommand, OfConnection}
use Rattle.iscsi_outbox_rules.specs.declared.own_pdu.PutRefusal.{PutRefusal}
use Rattle.iscsi_outbox_rules.specs.declared.own_pdu.PutRefusal.TheVariants.{Unfit, Gone as GoneRefusal, Closed, Full}
use Rattle.iscsi_outbox_rules.specs.rules.Calls.{Opening, Call, Takes, Puts, Stops, Nexts, Writes, Hears, Joins, Loses, Clears}
use Rattle.iscsi_outbox_rules.specs.rules.Boxes.{Phase, Dormant, Fresh, Started, Completed, Running, Gone, Task, Outgoing, Handed, Link, Box}
use Rattle.iscsi_outbox_rules.specs.rules.Words.{is_live_phase, is_running, is_usable, contains}
use Rattle.iscsi_outbox_rules.specs.rules.Queues.{at_link, takes_more, enter, drop_on}
use Rattle.iscsi_outbox_rules.specs.rules.Due.{settle}
use Rattle.iscsi_outbox_rules.specs.rules.Items.{in_phase, phase_told, after_items}
use Rattle.iscsi_outbox_rules.specs.rules.Own.{is_fit, is_full, live_task, own_conn, own_outgoing, refusal_on, put_refusal}
use Rattle.iscsi_outbox_rules.specs.rules.Run.{after_call, opened, new_link, phase_stopped, one_written, link_heard, may_join, link_joined, link_lost, cleared}
use Rattle.iscsi_outbox_rules.proofs.general.Chosen.{FromQueue, IsPing, IsNotice, Chosen, chosen_from}
use Rattle.iscsi_outbox_rules.proofs.general.Cuts.{Hand, Idle, next}
use Rattle.iscsi_outbox_rules.proofs.room.RoomTasks.{settled_tasks}
use Rattle.iscsi_outbox_law.specs.private.Pairs.{EachOf}
use Rattle.iscsi_outbox_law.specs.private.Sound.{HasHome, NoneIsFresh, is_fresh_phase}
use Rattle.iscsi_outbox_law.proofs.general.PairLemmas.{each-map, each-new}
use Rattle.iscsi_outbox_law.proofs.general.Members.{In, any_from, each-in, in_filter}
use Rattle.iscsi_outbox_law.proofs.general.PlaceLemmas.{AreApart, conns_of, distinct_apart}
use Rattle.iscsi_outbox_law.proofs.invariants.SoundFirm.{has_home, left_in, own_queued, IsEntryFirm, IsLinkFirm, IsFirm}
use Rattle.iscsi_outbox_law.proofs.invariants.SoundMoves.{MayEnter, entered, firm_settled, firm_written, firm_heard, firm_joined, firm_lost, firm_given, firm_cleared}
use Rattle.iscsi_outbox_law.proofs.invariants.SoundTurns.{live_stays, stopped_left, told_left}
use Rattle.iscsi_outbox_law.proofs.invariants.SoundTaking.{firm_phases, firm_phased}

-- ---- lists

pub first_found : {A : Type 0} (p : A → Bool) (xs : List A) (x : A) → first_of (filter p xs) ≡ Some x → In x xs × (p x ≡ true)
first_found p xs x found = in_filter p xs x (first_in (filter p xs) found)
  where
    first_in : (ys : List _) → first_of ys ≡ Some x → In x ys
    first_in [] is = absurd cc
    first_in (y ∷ ys) is = let same : x ≡ y = cc in inl same

pub each_member : {A : Type 0} (P : A → Type 0) (xs : List A) → ((x : A) → In x xs → P x) → EachOf P xs
each_member P [] f = tt
each_member P (x ∷ xs) f = (f x (inl refl), each_member P xs (λ y at. f y (inr at)))

in_conns : (ls : List Link) (l : Link) → In l ls → list_any (λ (k : ℕ). k == l.conn) (conns_of ls) ≡ true
in_conns [] l at = absurd at
in_conns (m ∷ ls) l at =
    ⊎_elim (λ same. or_left (m.conn == l.conn) (list_any (λ (k : ℕ). k == l.conn) (conns_of ls)) (eq-eqb m.conn l.conn (ap (λ (x : Link). x.conn) (sym same))))
    (λ later. or_right (m.conn == l.conn) (list_any (λ (k : ℕ). k == l.conn) (conns_of ls)) (in_conns ls l later)) at

same_link : (ls : List Link) (l m : Link) → AreApart (conns_of ls) → In l ls → In m ls → l.conn ≡ m.conn → l ≡ m
same_link [] l m apart i j same = absurd i
same_link (x ∷ ls) l m apart i j same =
    ⊎_elim
    (λ first. ⊎_elim (λ second. first ∙ sym second) (λ later. absurd (none (sym (ap (λ (y : Link). y.conn) first) ∙ same) (in_conns ls m later))) j)
    (λ later. ⊎_elim (λ second. absurd (none (sym (ap (λ (y : Link). y.conn) second) ∙ sym same) (in_conns ls l later))) (λ behind. same_link ls l m apart.1 later behind same) j) i
  where
    none : {c : ℕ} → x.conn ≡ c → list_any (λ (k : ℕ). k == c) (conns_of ls) ≡ true → ⊥
    none is some = false≢true (sym apart.0 ∙ ap (λ (n : ℕ). list_any (λ (k : ℕ). k == n) (conns_of ls)) is ∙ some)

-- ---- a PDU of the target's own

module _ (o : Opening) (b : Box) (h : IsFirm o b) (distinct : are_distinct o.session.conns ≡ true) where
  apart : AreApart (conns_of b.links)
  apart = subst AreApart (sym h.conns) (distinct_apart o.session.conns distinct)

  -- there is room on its connection
  has_room : (conn : ℕ) → refusal_on o b conn ≡ None → EachOf (λ (l : Link). l.conn ≡ conn → takes_more l ≡ true → own_queued l + 1 ≤ o.own) b.links
  has_room conn none = by_found (first_of (filter (λ (l : Link). l.conn == conn && is_usable l) b.links)) refl none
    where
      by_found : (x : Option Link) → first_of (filter (λ (l : Link). l.conn == conn && is_usable l) b.links) ≡ x → (elim x as (λ (y : Option Link). Option PutRefusal) [ Some l ↦ cond (is_full o l) (Some Full) None | None ↦ Some Closed ]) ≡ None
          → EachOf (λ (l : Link). l.conn ≡ conn → takes_more l ≡ true → own_queued l + 1 ≤ o.own) b.links
      by_found None is unrefused = absurd cc
      by_found (Some l) is unrefused =
          let found = first_found (λ (m : Link). m.conn == conn && is_usable m) b.links l is in
          let at : l.conn ≡ conn = eqb-true l.conn conn (and_parts (l.conn == conn) (is_usable l) found.1).0 in
          let room : own_queued l + 1 ≤ o.own = by_full (is_full o l) refl unrefused in
          each_member (λ (m : Link). m.conn ≡ conn → takes_more m ≡ true → own_queued m + 1 ≤ o.own) b.links
          (λ m there same more. subst (λ (x : Link). own_queued x + 1 ≤ o.own) (same_link b.links l m apart found.0 there (at ∙ sym same)) room)
        where
          by_full : (v : Bool) → is_full o l ≡ v → cond {A = Option PutRefusal} v (Some Full) None ≡ None → own_queued l + 1 ≤ o.own
          by_full true full k = absurd cc
          by_full false full k = let free : nat_le o.own (own_queued l) ≡ false = full in grind (arith, nat_tests)

  -- the command is live, and entered there
  of_command : (ticket conn : ℕ) → (x : Option Task) → live_task b ticket ≡ x → (elim x as (λ (y : Option Task). Option ℕ) [ Some t ↦ Some t.conn | None ↦ None ]) ≡ Some conn → (has_home b.tasks conn ticket ≡ true) × (left_in b.tasks ticket ≡ false)
  of_command ticket conn None none is = absurd cc
  of_command ticket conn (Some t) some is =
      let found = first_found (λ (u : Task). u.ticket == ticket && is_live_phase u.phase) b.tasks t some in
      let parts = and_parts (t.ticket == ticket) (is_live_phase t.phase) found.1 in
      let at : t.conn ≡ conn = cc in (
        any_from (λ (u : Task). u.ticket == ticket && u.conn == conn) b.tasks t found.0 (ap (λ (v : Bool). v && t.conn == conn) parts.0 ∙ eq-eqb t.conn conn at),
        live_stays b.tasks ticket h.tasks.ascending (any_from (λ (u : Task). u.ticket == ticket && is_live_phase u.phase) b.tasks t found.0 found.1),
      )

  may_put : (p : OwnPdu) (conn : ℕ) → own_conn b p ≡ Some conn → refusal_on o b conn ≡ None → MayEnter o b.tasks b.links b.undue conn (own_outgoing p)
  may_put (OfCommand ticket header) conn is none =
      let k = of_command ticket conn (live_task b ticket) refl is in
      record { home = k.0; alive = k.1; fenced = λ never. absurd (false≢true never); own = has_room conn none }
  may_put (OfConnection c header) conn is none = record { home = tt; alive = refl; fenced = λ never. absurd (false≢true never); own = has_room conn none }

  pub firm_put : (p : OwnPdu) → IsFirm o (after_call o b (Puts p))
  firm_put p = by_refusal (put_refusal o b p) refl
    where
      unrefused : (conn : ℕ) (v : Bool) (y : Option ℕ) → y ≡ Some conn → cond {A = Option PutRefusal} v (Some Unfit) (elim y as (λ (z : Option ℕ). Option PutRefusal) [ Some c ↦ refusal_on o b c | None ↦ Some GoneRefusal ]) ≡ None → refusal_on o b conn ≡ None
      unrefused conn true y is none = absurd cc
      unrefused conn false y is none = ap (λ (z : Option ℕ). elim z as (λ (w : Option ℕ). Option PutRefusal) [ Some c ↦ refusal_on o b c | None ↦ Some GoneRefusal ]) (sym is) ∙ none

      by_conn : put_refusal o b p ≡ None → (y : Option ℕ) → own_conn b p ≡ y → IsFirm o (elim y [ Some conn ↦ enter conn (own_outgoing p) b | None ↦ b ])
      by_conn none None is = h
      by_conn none (Some conn) is = entered o b.tasks b.links b.undue b.time conn (own_outgoing p) (may_put p conn is (unrefused conn (not (is_fit p)) (own_conn b p) is none)) h

      by_refusal : (x : Option PutRefusal) → put_refusal o b p ≡ x → IsFirm o (elim x [ Some refusal ↦ b | None ↦ elim (own_conn b p) [ Some conn ↦ enter conn (own_outgoing p) b | None ↦ b ] ])
      by_refusal (Some refusal) is = h
      by_refusal None is = by_conn is (own_conn b p) refl

-- ---- handing out

-- what goes out is of a command that entered there
chosen_home : (o : Opening) (b : Box) (l : Link) (out : Outgoing) → IsLinkFirm o b.tasks b.time l → Chosen o b l out → HasHome b.tasks l.conn out
chosen_home o b l out k from =
    ⊎_elim
    (λ (q : FromQueue o b l out). (subst (EachOf (IsEntryFirm b.tasks b.time l.conn)) q.queue_is k.waits).0.home)
    (λ other. ⊎_elim (λ (p : IsPing o b l out). subst (HasHome b.tasks l.conn) (sym p.is) tt) (λ (n : IsNotice o b l out). subst (HasHome b.tasks l.conn) (sym n.is) tt) other) from.source

firm_next : (o : Opening) (b : Box) (conn : ℕ) → IsFirm o b → IsFirm o (after_call o b (Nexts conn))
firm_next o b conn h =
    ⊎_elim
    (λ (k : Hand o b conn).
    let l : Link = k.handing.link in
    let there : In l b.links × ((l.conn == conn) ≡ true) = first_found (λ (m : Link). m.conn == conn) b.links l k.handing.found in
    let home : HasHome b.tasks l.conn k.handing.out =
    chosen_home o b l k.handing.out (each-in (IsLinkFirm o b.tasks b.time) b.links l there.0 h.links) (chosen_from o b l k.handing.out k.handing.chosen_is) in
    subst (IsFirm o) (sym k.after_is) (firm_given o b l k.handed (subst (λ (g : Handed). HasHome b.tasks l.conn g.out) (sym k.handing.is) home) h))
    (λ (k : Idle o b conn). subst (IsFirm o) (sym k.after_is) h) (next o b conn)

-- ---- calls that take no event

pub firm_told : (o : Opening) (b : Box) → IsFirm o b → IsFirm o (record b { tasks = map (λ (t : Task). record t { phase = phase_told t.phase }) b.tasks })
firm_told o b h =
    firm_phases o b (λ (t : Task). record t { phase = phase_told t.phase }) (record { ticket = λ t. refl; conn = λ t. refl; left = λ t is. told_left t.phase ∙ is }) (λ t is. sym (told_left t.phase) ∙ is) h

abbrev pub TakesNone : Call → Type 0
TakesNone (Takes effects numbers) = ⊥
TakesNone _ = Unit {0}

pub firm_call : (o : Opening) (b : Box) (c : Call) → are_distinct o.session.conns ≡ true → TakesNone c → IsFirm o b → IsFirm o (after_call o b c)
firm_call o b (Takes effects numbers) distinct none h = absurd none
firm_call o b (Puts p) distinct none h = firm_put o b h distinct p
firm_call o b (Stops ticket) distinct none h =
    cond_both (is_running b ticket) (settle o (in_phase phase_stopped (ticket ∷ []) b)) b (IsFirm o)
    (λ is. firm_settled o (in_phase phase_stopped (ticket ∷ []) b) (firm_phased o b phase_stopped (ticket ∷ []) stopped_left h)) (λ is. h)
firm_call o b (Nexts conn) distinct none h = firm_next o b conn h
firm_call o b (Writes conn) distinct none h = firm_settled o (record b { links = at_link conn one_written b.links }) (firm_written o b conn h)
firm_call o b (Hears conn exp_stat_sn tag) distinct none h = firm_settled o (record b { links = at_link conn (link_heard exp_stat_sn tag) b.links }) (firm_heard o b conn exp_stat_sn tag h)
firm_call o b (Joins conn stat_sn) distinct none h = cond_both (may_join b conn) (record b { links = at_link conn (link_joined stat_sn) b.links }) b (IsFirm o) (λ is. firm_joined o b conn stat_sn h) (λ is. h)
firm_call o b (Loses conn) distinct none h = firm_settled o (drop_on conn (record b { links = at_link conn link_lost b.links; reached = 0 })) (firm_lost o b conn h)
firm_call o b (Clears unit) distinct none h = firm_settled o (record b { undue = cleared unit b.undue }) (firm_cleared o b unit h)

-- ---- before any call

pub firm_opened : (o : Opening) → IsFirm o (opened o)
firm_opened o = record {
  tasks = record { ascending = tt; known = tt };
  links = each-new (IsLinkFirm o [] 0) (λ (c : ℕ × ℕ). new_link c.0) o.session.conns (λ c. record { waits = tt; own = omega arith; times = tt; idle = λ shut. refl; handed = tt });
  undue = tt;
  conns = conns_new o.session.conns;
}
  where
    conns_new : (cs : List (ℕ × ℕ)) → conns_of (map (λ (c : ℕ × ℕ). new_link c.0) cs) ≡ map (λ (c : ℕ × ℕ). c.0) cs
    conns_new [] = refl
    conns_new (c ∷ cs) = ap (λ (ns : List ℕ). c.0 ∷ ns) (conns_new cs)

-- ---- no command is fresh between the calls

abbrev NotFresh : Task → Type 0
NotFresh t = is_fresh_phase t.phase ≡ false

told_stale : (p : Phase) → is_fresh_phase (phase_told p) ≡ false
told_stale Dormant = refl
told_stale Fresh = refl
told_stale Started = refl
told_stale Completed = refl
told_stale Running = refl
told_stale Gone = refl

stopped_stale : (p : Phase) → is_fresh_phase p ≡ false → is_fresh_phase (phase_stopped p) ≡ false
stopped_stale Dormant h = refl
stopped_stale Fresh h = h
stopped_stale Started h = refl
stopped_stale Completed h = refl
stopped_stale Running h = refl
stopped_stale Gone h = refl

stale_settled : (o : Opening) (b : Box) → NoneIsFresh b → NoneIsFresh (settle o b)
stale_settled o b h = subst (EachOf NotFresh) (sym (settled_tasks o b)) h

pub stale_call : (o : Opening) (b : Box) (c : Call) → NoneIsFresh b → NoneIsFresh (after_call o b c)
stale_call o b (Takes effects numbers) h = each-new NotFresh (λ (t : Task). record t { phase = phase_told t.phase }) (after_items o b (in_parts effects)).tasks (λ t. told_stale t.phase)
stale_call o b (Puts p) h =
    elim (put_refusal o b p) as (λ x. NoneIsFresh (elim x [ Some refusal ↦ b | None ↦ elim (own_conn b p) [ Some conn ↦ enter conn (own_outgoing p) b | None ↦ b ] ])) [
      | Some refusal ↦ h
      | None ↦ elim (own_conn b p) as (λ x. NoneIsFresh (elim x [ Some conn ↦ enter conn (own_outgoing p) b | None ↦ b ])) [ Some conn ↦ h | None ↦ h ]
    ]
stale_call o b (Stops ticket) h =
    cond_both (is_running b ticket) (settle o (in_phase phase_stopped (ticket ∷ []) b)) b NoneIsFresh
    (λ is. stale_settled o (in_phase phase_stopped (ticket ∷ []) b)
    (each-map NotFresh NotFresh (λ (t : Task). cond (contains (ticket ∷ []) t.ticket) (record t { phase = phase_stopped t.phase }) t) b.tasks
    (λ t k. cond_both (contains (ticket ∷ []) t.ticket) (record t { phase = phase_stopped t.phase }) t NotFresh (λ among. stopped_stale t.phase k) (λ among. k)) h))
    (λ is. h)
stale_call o b (Nexts conn) h =
    ⊎_elim (λ (k : Hand o b conn). subst NoneIsFresh (sym k.after_is) h) (λ (k : Idle o b conn). subst NoneIsFresh (sym k.after_is) h) (next o b conn)
stale_call o b (Writes conn) h = stale_settled o (record b { links = at_link conn one_written b.links }) h
stale_call o b (Hears conn exp_stat_sn tag) h = stale_settled o (record b { links = at_link conn (link_heard exp_stat_sn tag) b.links }) h
stale_call o b (Joins conn stat_sn) h = cond_both (may_join b conn) (record b { links = at_link conn (link_joined stat_sn) b.links }) b NoneIsFresh (λ is. h) (λ is. h)
stale_call o b (Loses conn) h = stale_settled o (drop_on conn (record b { links = at_link conn link_lost b.links; reached = 0 })) h
stale_call o b (Clears unit) h = stale_settled o (record b { undue = cleared unit b.undue }) h
