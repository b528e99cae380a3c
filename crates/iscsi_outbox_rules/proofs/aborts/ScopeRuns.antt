-- The scope that the box keeps of an answer to an abort or a Logout has each command that is over by it, as the log says it;
-- and when the answer has entered its queue, none of these runs any more. So it stays through the items of an event.
use Rattle.std.proofs.Common.{◌≡◌, ℕ, ◌==◌, ◌&&◌, ◌||◌, ◌⊎◌, inl, inr, ⊎_elim, not, cond, Bool, true, false, List, [], ◌∷◌, ◌++◌, map, filter, Option, Some, None, refl, ap, sym, subst, ◌∙◌, eq-eqb}
use Rattle.std.specs.List.{list_any, flat_map}
use Rattle.std.proofs.lemmas.Bool.{cond_both, false≢true, eqb-true}
use Rattle.std.proofs.lemmas.List.{append_assoc, append-nil}
use Rattle.std.proofs.lemmas.List.Folds.{list_any-append}
use Rattle.iscsi_wire.specs.Fields.{connection_of, itt}
use Rattle.iscsi_wire.specs.declared.reply.Reply.{Reply}
use Rattle.iscsi_rules.specs.declared.effect.Effect.{Effect}
use Rattle.iscsi_rules.specs.declared.effect.Effect.TheVariants.{Deliver, Immediate, Wait, Void, Empty, Enter, Enable, Leave, Send, CloseConn, CloseSession, Ignore}
use Rattle.iscsi_rules.proofs.general.BoolLemmas.{and_parts, and_both, or_none, or_second, not_true}
use Rattle.iscsi_outbox_rules.specs.rules.Calls.{Opening}
use Rattle.iscsi_outbox_rules.specs.rules.Boxes.{Phase, Dormant, Fresh, Started, Completed, Running, Gone, Task, Outgoing, Aim, AtTag, AtUnit, AtConns, Answer, Link, Box}
use Rattle.iscsi_outbox_rules.specs.rules.Words.{contains, is_left_phase, is_running_phase, is_running}
use Rattle.iscsi_outbox_rules.specs.rules.Queues.{enter}
use Rattle.iscsi_outbox_rules.specs.rules.Due.{holds, goes_behind, is_due, settle_from, settle}
use Rattle.iscsi_outbox_rules.specs.rules.Items.{conns_closed, is_aimed_at, scope_of}
use Rattle.iscsi_outbox_rules.specs.promises.Scope.{Sent, Entered, nth, entered_in, is_taken_out_in, is_closed_by, closes_in, is_about, aim_of_sent, is_taken_out_by}
use Rattle.iscsi_outbox_rules.proofs.general.EachLemmas.{EachOf, each-append, each-first, each-second, each-any}
use Rattle.iscsi_outbox_rules.proofs.general.ConnLemmas.{conns_of}
use Rattle.iscsi_outbox_rules.proofs.general.FirstLemmas.{firsts}
use Rattle.iscsi_outbox_rules.proofs.general.TaskWalks.{is_over_phase}
use Rattle.iscsi_outbox_rules.proofs.commands.TaskRuns.{AreIn}
use Rattle.iscsi_outbox_rules.proofs.aborts.SilentItems.{Among, firsts_among, over_taken}
use Rattle.iscsi_outbox_rules.proofs.aborts.ScopeTasks.{is_task_of, HaveTasks}
use Rattle.iscsi_outbox_rules.proofs.aborts.ScopeBoxes.{Kept, kept_enter}

-- ---- what is closed

closes_contains : (links : List Link) (conn : ℕ) (item : List Effect) → closes_in conn item ≡ true → contains (conns_of links) conn ≡ true → contains (flat_map (conns_closed links) item) conn ≡ true
closes_contains links conn [] closes known = absurd (false≢true closes)
closes_contains links conn (e ∷ item) closes known = by_effect e (λ h. closes_contains links conn item h known) closes
  where
    here : (xs : List ℕ) → contains xs conn ≡ true → contains (xs ++ flat_map (conns_closed links) item) conn ≡ true
    here xs h = list_any-append (λ k. k == conn) xs (flat_map (conns_closed links) item) ∙ ap (λ v. v || contains (flat_map (conns_closed links) item) conn) h

    by_effect : (x : Effect) → (closes_in conn item ≡ true → contains (flat_map (conns_closed links) item) conn ≡ true) → (is_closed_by conn x || closes_in conn item) ≡ true → contains (conns_closed links x ++ flat_map (conns_closed links) item) conn ≡ true
    by_effect (Deliver r) rest h = rest h
    by_effect (Immediate r) rest h = rest h
    by_effect (Wait r) rest h = rest h
    by_effect (Void n) rest h = rest h
    by_effect (Empty n) rest h = rest h
    by_effect (Enter ticket unit attr) rest h = rest h
    by_effect (Enable ticket unit) rest h = rest h
    by_effect (Leave ticket unit) rest h = rest h
    by_effect (Send d stat_sn reply) rest h = rest h
    by_effect (CloseConn d) rest h =
        elim (d == conn) as (λ v. (v || closes_in conn item) ≡ true → (v || contains (flat_map (conns_closed links) item) conn) ≡ true) [
          | true ↦ λ k. refl
          | false ↦ λ k. rest k
        ] h
    by_effect CloseSession rest h = here (conns_of links) known
    by_effect (Ignore why) rest h = rest h

-- what passes one test passes another
any_with : {A : Type 0} (P : A → Type 0) (p q : A → Bool) (xs : List A) → EachOf P xs → ((x : A) → P x → p x ≡ true → q x ≡ true) → list_any p xs ≡ true → list_any q xs ≡ true
any_with P p q [] h f some = some
any_with P p q (x ∷ xs) h f some =
    elim (p x) as (λ v. p x ≡ v → (v || list_any p xs) ≡ true → (q x || list_any q xs) ≡ true) [
      | true ↦ λ is here. ap (λ v. v || list_any q xs) (f x h.0 is)
      | false ↦ λ is later. or_second (q x) (list_any q xs) (any_with P p q xs h.1 f later)
    ] refl some

in_scope : (t : ℕ) (q : Task → Bool) (ts : List Task) → list_any (λ (x : Task). (x.ticket == t) && q x) ts ≡ true → contains (map (λ (x : Task). x.ticket) (filter q ts)) t ≡ true
in_scope t q [] some = some
in_scope t q (x ∷ ts) some =
    elim (q x) as (λ v. q x ≡ v → contains (map (λ (y : Task). y.ticket) (cond v (x ∷ filter q ts) (filter q ts))) t ≡ true) [
      | true ↦ λ is.
          elim (x.ticket == t) as (λ v. ((v && q x) || list_any (λ (y : Task). (y.ticket == t) && q y) ts) ≡ true → (v || contains (map (λ (y : Task). y.ticket) (filter q ts)) t) ≡ true) [
            | true ↦ λ here. refl
            | false ↦ λ later. in_scope t q ts later
          ] some
      | false ↦ λ isnt. in_scope t q ts (later (x.ticket == t) isnt some)
    ] refl
  where
    later : (v : Bool) → q x ≡ false → ((v && q x) || list_any (λ (y : Task). (y.ticket == t) && q y) ts) ≡ true → list_any (λ (y : Task). (y.ticket == t) && q y) ts ≡ true
    later true isnt h = sym (ap (λ v. v || list_any (λ (y : Task). (y.ticket == t) && q y) ts) isnt) ∙ h
    later false isnt h = h

-- what left and doesn't run is over
over_phase : (p : Phase) → is_left_phase p ≡ true → is_running_phase p ≡ false → is_over_phase p ≡ true
over_phase Dormant h k = absurd (false≢true h)
over_phase Fresh h k = absurd (false≢true h)
over_phase Started h k = absurd (false≢true h)
over_phase Completed h k = refl
over_phase Running h k = absurd (false≢true (sym k))
over_phase Gone h k = refl

not_running : (t : ℕ) (ts : List Task) → list_any (λ (x : Task). (x.ticket == t) && is_running_phase x.phase) ts ≡ false → AreIn is_left_phase t ts → AreIn is_over_phase t ts
not_running t [] none left = tt
not_running t (x ∷ ts) none left =
    let parts = or_none ((x.ticket == t) && is_running_phase x.phase) (list_any (λ (y : Task). (y.ticket == t) && is_running_phase y.phase) ts) none in
    ((λ at. over_phase x.phase (left.0 at) (sym (ap (λ v. v && is_running_phase x.phase) (eq-eqb x.ticket t at)) ∙ parts.0)), not_running t ts parts.1 left.1)

none_among : (p : ℕ → Bool) (ns : List ℕ) (n : ℕ) → list_any p ns ≡ false → contains ns n ≡ true → p n ≡ false
none_among p [] n none there = absurd (false≢true there)
none_among p (k ∷ ns) n none there =
    let parts = or_none (p k) (list_any p ns) none in
    elim (k == n) as (λ v. (k == n) ≡ v → (v || contains ns n) ≡ true → p n ≡ false) [
      | true ↦ λ is here. ap p (sym (eqb-true k n is)) ∙ parts.0
      | false ↦ λ is later. none_among p ns n parts.1 later
    ] refl there

module _ (o : Opening) (t : ℕ) where
  -- a reply of the session, and what holds where the command is over by it
  pub record Says (items : List (List Effect)) (P : Type 0) (out : Outgoing) : Type 0 where
    pub place : ℕ
    pub reply : Sent
    pub place_is : out.sent ≡ Some place
    pub nth_is : nth place (firsts items) ≡ Some reply
    pub over : is_taken_out_by o reply t ≡ true → P

  -- a PDU that waits has the command in its scope, and the fact holds
  abbrev pub Told : List (List Effect) → Type 0 → Outgoing → Type 0
  Told items P out = Says items (P × (contains out.scope t ≡ true)) out ⊎ (out.sent ≡ None)

  -- the answer that isn't due has the command in its scope
  abbrev pub Scoped : List (List Effect) → Answer → Type 0
  Scoped items a = Says items (contains a.out.scope t ≡ true) a.out

  -- by it the command was taken out
  pub said_taken : (items : List (List Effect)) (place : ℕ) (reply : Sent) → nth place (firsts items) ≡ Some reply → is_taken_out_by o reply t ≡ true → list_any (is_taken_out_in t) items ≡ true
  said_taken items place reply is over =
      let a : Among [] items reply = firsts_among [] items place reply is in
      let first : List (List Effect) = reply.before ++ reply.item ∷ [] in
      ap (list_any (is_taken_out_in t)) (sym a.whole ∙ sym (append_assoc reply.before (reply.item ∷ []) a.rest)) ∙ list_any-append (is_taken_out_in t) first a.rest
      ∙ ap (λ v. v || list_any (is_taken_out_in t) a.rest) (over_taken t o reply over)

  pub told_weaken : (items : List (List Effect)) (P Q : Type 0) → (list_any (is_taken_out_in t) items ≡ true → P → Q) → (out : Outgoing) → Told items P out → Told items Q out
  told_weaken items P Q f out e =
      ⊎_elim
      (λ (s : Says items (P × (contains out.scope t ≡ true)) out).
      inl (record { place = s.place; reply = s.reply; place_is = s.place_is; nth_is = s.nth_is; over = λ is. (f (said_taken items s.place s.reply s.nth_is is) (s.over is).0, (s.over is).1) }))
      (λ none. inr none) e

  -- the scope of an answer as it is sent
  module _ (c : ℕ) where
    both_of : (ts : List Task) → AreIn is_left_phase t ts → EachOf (λ (x : Task). x.ticket ≡ t → x.conn ≡ c) ts → EachOf (λ (x : Task). (x.ticket ≡ t → is_left_phase x.phase ≡ true) × (x.ticket ≡ t → x.conn ≡ c)) ts
    both_of [] h k = tt
    both_of (x ∷ ts) h k = ((h.0, k.0), both_of ts h.1 k.1)

    -- a command that the answer is about is aimed at
    aimed : (links : List Link) (about : Aim) (item : List Effect) (e : Entered) (x : Task) → contains (conns_of links) c ≡ true → (x.ticket ≡ t → x.conn ≡ c) → ((e.ticket == t) && is_about about item e) ≡ true → is_task_of e x ≡ true
        → ((x.ticket == t) ≡ true) × (is_aimed_at about (flat_map (conns_closed links) item) x ≡ true)
    aimed links about item e x known home test task = (eq-eqb x.ticket t ticket, by_aim about tests.1)
      where
        tests : ((e.ticket == t) ≡ true) × (is_about about item e ≡ true)
        tests = and_parts (e.ticket == t) (is_about about item e) test

        first : ((x.ticket == e.ticket) ≡ true) × (((x.conn == connection_of e.request) && ((x.unit == e.unit) && (x.tag == itt e.request))) ≡ true)
        first = and_parts (x.ticket == e.ticket) ((x.conn == connection_of e.request) && ((x.unit == e.unit) && (x.tag == itt e.request))) task

        second : ((x.conn == connection_of e.request) ≡ true) × (((x.unit == e.unit) && (x.tag == itt e.request)) ≡ true)
        second = and_parts (x.conn == connection_of e.request) ((x.unit == e.unit) && (x.tag == itt e.request)) first.1

        third : ((x.unit == e.unit) ≡ true) × ((x.tag == itt e.request) ≡ true)
        third = and_parts (x.unit == e.unit) (x.tag == itt e.request) second.1

        ticket : x.ticket ≡ t
        ticket = eqb-true x.ticket e.ticket first.0 ∙ eqb-true e.ticket t tests.0

        by_aim : (y : Aim) → is_about y item e ≡ true → is_aimed_at y (flat_map (conns_closed links) item) x ≡ true
        by_aim (AtTag tag unit) h = ap (λ k. k == tag) (eqb-true x.tag (itt e.request) third.1) ∙ (and_parts (itt e.request == tag) (e.unit == unit) h).0
        by_aim (AtUnit unit) h = ap (λ k. k == unit) (eqb-true x.unit e.unit third.0) ∙ h
        by_aim AtConns h =
            closes_contains links x.conn item (ap (λ k. closes_in k item) (eqb-true x.conn (connection_of e.request) second.0) ∙ h) (ap (contains (conns_of links)) (home ticket) ∙ known)

    pub scoped : (items : List (List Effect)) (item : List Effect) (conn : ℕ) (reply : Reply) (about : Aim) (b : Box) (links : List Link) → contains (conns_of links) c ≡ true
        → aim_of_sent o (record { before = items; item = item; conn = conn; reply = reply }) ≡ Some about → (list_any (is_taken_out_in t) (items ++ item ∷ []) ≡ true → AreIn is_left_phase t b.tasks)
        → EachOf (λ (x : Task). x.ticket ≡ t → x.conn ≡ c) b.tasks → HaveTasks (items ++ item ∷ []) b.tasks
        → is_taken_out_by o (record { before = items; item = item; conn = conn; reply = reply }) t ≡ true → contains (scope_of b about (flat_map (conns_closed links) item)) t ≡ true
    scoped items item conn reply about b links known aim left homes have over =
        in_scope t (λ (x : Task). is_left_phase x.phase && is_aimed_at about conns x) b.tasks
        (any_with (λ (x : Task). (x.ticket ≡ t → is_left_phase x.phase ≡ true) × (x.ticket ≡ t → x.conn ≡ c)) (is_task_of found.0) (λ (x : Task). (x.ticket == t) && (is_left_phase x.phase && is_aimed_at about conns x)) b.tasks
        (both_of b.tasks (left parts.0) homes)
        (λ x k is.
        let a = aimed links about item found.0 x known k.1 found.1 is in
        and_both (x.ticket == t) (is_left_phase x.phase && is_aimed_at about conns x) a.0 (and_both (is_left_phase x.phase) (is_aimed_at about conns x) (k.0 (eqb-true x.ticket t a.0)) a.1))
        found.2)
      where
        conns : List ℕ
        conns = flat_map (conns_closed links) item

        its : List (List Effect)
        its = items ++ item ∷ []

        sent : Sent
        sent = record { before = items; item = item; conn = conn; reply = reply }

        tests : Option Aim → Bool
        tests x = elim x [ Some y ↦ list_any (λ (e : Entered). (e.ticket == t) && is_about y item e) (flat_map entered_in its) | None ↦ false ]

        parts : (list_any (is_taken_out_in t) its ≡ true) × (tests (aim_of_sent o sent) ≡ true)
        parts = and_parts (list_any (is_taken_out_in t) its) (tests (aim_of_sent o sent)) over

        found : (e : Entered) × (((e.ticket == t) && is_about about item e) ≡ true) × (list_any (is_task_of e) b.tasks ≡ true)
        found = each-any (λ (e : Entered). list_any (is_task_of e) b.tasks ≡ true) (λ (e : Entered). (e.ticket == t) && is_about about item e) (flat_map entered_in its) (sym (ap tests aim) ∙ parts.1) have

  -- ---- what is due enters

  module _ (cs : List ℕ) (items : List (List Effect)) (n : ℕ) where
    abbrev pub Waits : List Task → Box → Type 0
    Waits ts b = Kept cs (Told items (AreIn is_over_phase t ts)) (Scoped items) n b

    runs_none : (b : Box) (before : List Answer) (a : Answer) → is_due o b before a ≡ true → list_any (is_running b) a.out.scope ≡ false
    runs_none b before a due =
        let first = and_parts ((not (list_any (is_running b) a.out.scope) && not (list_any (holds o a) b.links)) && not a.uncleared) (not (list_any (goes_behind a) before)) due in
        let second = and_parts (not (list_any (is_running b) a.out.scope) && not (list_any (holds o a) b.links)) (not a.uncleared) first.0 in
        not_true (list_any (is_running b) a.out.scope) (and_parts (not (list_any (is_running b) a.out.scope)) (not (list_any (holds o a) b.links)) second.0).0

    waits_from : (ts : List Task) → (list_any (is_taken_out_in t) items ≡ true → AreIn is_left_phase t ts) → (before rest : List Answer) (b : Box) → b.tasks ≡ ts → Waits ts (record b { undue = before ++ rest }) → Waits ts (settle_from o before rest b)
    waits_from ts left before [] b same h = subst (λ u. Waits ts (record b { undue = u })) (append-nil before) h
    waits_from ts left before (a ∷ rest) b same h =
        cond_both (is_due o b before a) (settle_from o before rest (enter a.conn a.out b)) (settle_from o (before ++ a ∷ []) rest b) (Waits ts)
        (λ due. waits_from ts left before rest (enter a.conn a.out b) same (moves due))
        (λ undue. waits_from ts left (before ++ a ∷ []) rest b same (subst (λ u. Waits ts (record b { undue = u })) (sym (append_assoc before (a ∷ []) rest)) h))
      where
        later : Scoped items a × EachOf (Scoped items) rest
        later = each-second (Scoped items) before (a ∷ rest) h.undue

        ends : is_due o b before a ≡ true → is_taken_out_by o later.0.reply t ≡ true → AreIn is_over_phase t ts
        ends due over =
            not_running t ts
            (sym (ap (λ us. list_any (λ (x : Task). (x.ticket == t) && is_running_phase x.phase) us) same) ∙ none_among (is_running b) a.out.scope t (runs_none b before a due) (later.0.over over))
            (left (said_taken items later.0.place later.0.reply later.0.nth_is over))

        moves : is_due o b before a ≡ true → Waits ts (enter a.conn a.out (record b { undue = before ++ rest }))
        moves due =
            kept_enter cs (Told items (AreIn is_over_phase t ts)) (Scoped items) n (record b { undue = before ++ rest }) a.conn a.out
            (inl (record { place = later.0.place; reply = later.0.reply; place_is = later.0.place_is; nth_is = later.0.nth_is; over = λ is. (ends due is, later.0.over is) }))
            (record { queues = h.queues; undue = each-append (Scoped items) before rest (each-first (Scoped items) before (a ∷ rest) h.undue) later.1; conns = h.conns; sent = h.sent })

    pub waits_settle : (b : Box) → (list_any (is_taken_out_in t) items ≡ true → AreIn is_left_phase t b.tasks) → Waits b.tasks b → Waits b.tasks (settle o b)
    waits_settle b left h = waits_from b.tasks left [] b.undue b refl h
