-- What the box keeps of commands, and of answers to aborts and Logouts, stays what the log says of them through the items of
-- an event.
use Rattle.std.proofs.Common.{◌≡◌, ℕ, ◌==◌, ◌+◌, ◌≤◌, ◌&&◌, ◌||◌, inl, inr, ⊎_elim, Bool, true, false, List, [], ◌∷◌, ◌++◌, length, map, filter_map, Option, Some, None, refl, ap, sym, subst, ◌∙◌, arith}
use Rattle.std.specs.List.{list_any, flat_map, cons_option}
use Rattle.std.proofs.lemmas.Bool.{cond_both, false≢true}
use Rattle.std.proofs.lemmas.List.{append_assoc, append-nil}
use Rattle.std.proofs.lemmas.List.Folds.{list_any-append}
use Rattle.iscsi_wire.specs.Fields.{connection_of}
use Rattle.iscsi_wire.specs.declared.reply.Reply.{Reply}
use Rattle.iscsi_wire.specs.declared.request.Request.{Request}
use Rattle.iscsi_rules.specs.declared.effect.Effect.{Effect}
use Rattle.iscsi_rules.specs.declared.effect.Numbers.{Numbers}
use Rattle.iscsi_rules.specs.rules.Trace.{first_of}
use Rattle.iscsi_rules.specs.promises.Order.{in_parts}
use Rattle.iscsi_rules.proofs.general.BoolLemmas.{and_second}
use Rattle.iscsi_outbox_rules.specs.rules.Calls.{Opening}
use Rattle.iscsi_outbox_rules.specs.rules.Boxes.{Phase, Task, Outgoing, Aim, Answer, Link, Box}
use Rattle.iscsi_outbox_rules.specs.rules.Words.{contains, is_live_phase, is_left_phase}
use Rattle.iscsi_outbox_rules.specs.rules.Queues.{takes_more, enter}
use Rattle.iscsi_outbox_rules.specs.rules.Due.{settle}
use Rattle.iscsi_outbox_rules.specs.rules.Items.{executing, tickets_left, ticket_enabled, reply_sent, closed_in, newly_closed, phase_taken_out, phase_completed, phase_enabled, phase_told, task_entered, in_phase, leave, enter_tasks, close, outgoing, answer, send_as, aim, send, after_item, after_items, after_event}
use Rattle.iscsi_outbox_rules.specs.promises.Scope.{Sent, Entered, nth, entered_in, is_taken_out_in, is_about, is_taken_out_by}
use Rattle.iscsi_outbox_rules.proofs.general.EachLemmas.{EachOf, each-append, each-map, each-weaken}
use Rattle.iscsi_outbox_rules.proofs.general.ConnLemmas.{HaveConns}
use Rattle.iscsi_outbox_rules.proofs.general.FirstLemmas.{firsts, first_sent, firsts-more, firsts-none, firsts-some, nth-first, nth-push, length-push}
use Rattle.iscsi_outbox_rules.proofs.commands.TicketLemmas.{entered, EntersOn, none_of, none_or_some, count_entering, conns_entering}
use Rattle.iscsi_outbox_rules.proofs.commands.LeaveLemmas.{leaving, leavings, leavings-append}
use Rattle.iscsi_outbox_rules.proofs.general.TaskWalks.{Onward, is_over_phase, over_stays, phased, phased_onward}
use Rattle.iscsi_outbox_rules.proofs.commands.TaskRuns.{AreIn}
use Rattle.iscsi_outbox_rules.proofs.commands.TaskLives.{or_false, left_tasks, entered_tasks, moved_tasks, closed_tasks, replied_tasks, settled_tasks, phased_ticket, phased_live, live_enabled, live_told, Lives, moved, in_map, turned, lives_left, lives_entered}
use Rattle.iscsi_outbox_rules.proofs.aborts.ScopeTasks.{is_task_of, HaveTasks, have_map, phased_task, have_item}
use Rattle.iscsi_outbox_rules.proofs.aborts.ScopeWakes.{kept}
use Rattle.iscsi_outbox_rules.proofs.aborts.ScopeBoxes.{Kept, kept_weaken, kept_enter, kept_leave, kept_tasks, kept_close}
use Rattle.iscsi_outbox_rules.proofs.aborts.ScopeRuns.{Says, Told, Scoped, told_weaken, scoped, Waits, waits_settle}

phased_conn : (change : Phase → Phase) (tickets : List ℕ) (x : Task) → (phased change tickets x).conn ≡ x.conn
phased_conn change tickets x = cond_both (contains tickets x.ticket) (record x { phase = change x.phase }) x (λ (y : Task). y.conn ≡ x.conn) (λ is. refl) (λ is. refl)

module _ (t c : ℕ) where
  abbrev pub AtHome : List Task → Type 0
  AtHome ts = EachOf (λ (x : Task). x.ticket ≡ t → x.conn ≡ c) ts

  -- the commands are those that the log shows
  pub record TasksStand (items : List (List Effect)) (ts : List Task) : Type 0 where
    pub have : HaveTasks items ts
    pub homes : AtHome ts
    pub lives : Lives t (leavings t items) (list_any (is_taken_out_in t) items) ts

  home_map : (f : Task → Task) (ts : List Task) → ((x : Task) → (f x).ticket ≡ x.ticket) → ((x : Task) → (f x).conn ≡ x.conn) → AtHome ts → AtHome (map f ts)
  home_map f ts same stays h =
      each-map (λ (x : Task). x.ticket ≡ t → x.conn ≡ c) (λ (x : Task). x.ticket ≡ t → x.conn ≡ c) f ts (λ x k is. stays x ∙ k (sym (same x) ∙ is)) h

  pub tasks_turn : (items : List (List Effect)) (ts : List Task) (f : Task → Task) → ((x : Task) → Onward x (f x)) → ((x : Task) → is_live_phase x.phase ≡ true → is_live_phase (f x).phase ≡ true)
      → ((e : Entered) (x : Task) → is_task_of e (f x) ≡ is_task_of e x) → TasksStand items ts → TasksStand items (map f ts)
  tasks_turn items ts f onward live same h = record {
    have = have_map items ts f same h.have;
    homes = home_map f ts (λ x. (onward x).ticket) (λ x. (onward x).conn) h.homes;
    lives = turned t (leavings t items) (list_any (is_taken_out_in t) items) ts f onward live h.lives;
  }

  -- ---- they leave and enter

  have_left : (items : List (List Effect)) (ts : List Task) (r : Option Request) (tickets : List ℕ) → HaveTasks items ts → HaveTasks items (left_tasks r tickets ts)
  have_left items ts (Some r) tickets h = have_map items ts (phased phase_taken_out tickets) (phased_task phase_taken_out tickets) h
  have_left items ts None tickets h = have_map items ts (phased phase_completed tickets) (phased_task phase_completed tickets) h

  home_left : (ts : List Task) (r : Option Request) (tickets : List ℕ) → AtHome ts → AtHome (left_tasks r tickets ts)
  home_left ts (Some r) tickets h = home_map (phased phase_taken_out tickets) ts (phased_ticket phase_taken_out tickets) (phased_conn phase_taken_out tickets) h
  home_left ts None tickets h = home_map (phased phase_completed tickets) ts (phased_ticket phase_completed tickets) (phased_conn phase_completed tickets) h

  home_entered : (item : List Effect) (ts : List Task) (r : Option Request) → executing item ≡ r → EntersOn t c item → AtHome ts → AtHome (entered_tasks r item ts)
  home_entered item ts None is on h = h
  home_entered item ts (Some r) is on h =
      each-append (λ (x : Task). x.ticket ≡ t → x.conn ≡ c) ts new h
      (⊎_elim
      (λ (none : entered t item ≡ 0).
      each-weaken (λ (x : Task). x.ticket ≡ t → ⊥) (λ (x : Task). x.ticket ≡ t → x.conn ≡ c) new (λ x no at. absurd (no at)) (none_of t new (count_entering t r item ∙ none)))
      (λ (some : 1 ≤ entered t item). each-weaken (λ (x : Task). x.conn ≡ connection_of r) (λ (x : Task). x.ticket ≡ t → x.conn ≡ c) new (λ x at same. at ∙ on r is some) (conns_entering t r item))
      (none_or_some (entered t item)))
    where
      new : List Task
      new = filter_map (task_entered r) item

  -- what is over stays so
  over_left : (ts : List Task) (r : Option Request) (tickets : List ℕ) → AreIn is_over_phase t ts → AreIn is_over_phase t (left_tasks r tickets ts)
  over_left ts (Some r) tickets h = kept t is_over_phase phase_taken_out over_stays.taken_out tickets ts h
  over_left ts None tickets h = kept t is_over_phase phase_completed over_stays.completed tickets ts h

  pub in_entered : (among : Phase → Bool) (item : List Effect) (ts : List Task) (r : Option Request) → entered t item ≡ 0 → AreIn among t ts → AreIn among t (entered_tasks r item ts)
  in_entered among item ts None none h = h
  in_entered among item ts (Some r) none h =
      each-append (λ (x : Task). x.ticket ≡ t → among x.phase ≡ true) ts (filter_map (task_entered r) item) h
      (each-weaken (λ (x : Task). x.ticket ≡ t → ⊥) (λ (x : Task). x.ticket ≡ t → among x.phase ≡ true) (filter_map (task_entered r) item) (λ x no at. absurd (no at))
      (none_of t (filter_map (task_entered r) item) (count_entering t r item ∙ none)))

  -- what an item does of a session
  pub record Fitting (items : List (List Effect)) (item : List Effect) : Type 0 where
    pub once : leavings t items + leaving t item ≤ 1
    pub fresh : 1 ≤ entered t item → leavings t items + leaving t item ≡ 0
    pub on : EntersOn t c item

  abbrev moved_by : List Effect → List Task → List Task
  moved_by item ts = entered_tasks (executing item) item (left_tasks (executing item) (tickets_left item) ts)

  tasks_move : (items : List (List Effect)) (item : List Effect) (ts : List Task) → Fitting items item → TasksStand items ts → TasksStand (items ++ item ∷ []) (moved_by item ts)
  tasks_move items item ts f h = record {
    have = have_item items item (left_tasks r tickets ts) (have_left items ts r tickets h.have);
    homes = home_entered item (left_tasks r tickets ts) r refl f.on (home_left ts r tickets h.homes);
    lives = moved t (leavings t items + leaving t item) (leavings t (items ++ item ∷ [])) (list_any p items || p item) (list_any p (items ++ item ∷ [])) (moved_by item ts) (omega (arith, leavings-append t items (item ∷ [])))
        (sym (list_any-append p items (item ∷ []) ∙ ap (λ v. list_any p items || v) (or_false (p item))))
        (lives_entered t (leavings t items + leaving t item) (list_any p items || p item) r item (left_tasks r tickets ts) f.fresh (lives_left t (leavings t items) (list_any p items) r item ts f.once h.lives));
  }
    where
      r : Option Request
      r = executing item

      tickets : List ℕ
      tickets = tickets_left item

      p : List Effect → Bool
      p = is_taken_out_in t

  over_moved : (items : List (List Effect)) (item : List Effect) (ts : List Task) → Fitting items item → TasksStand items ts → list_any (is_taken_out_in t) items ≡ true → AreIn is_over_phase t ts → AreIn is_over_phase t (moved_by item ts)
  over_moved items item ts f h taken over =
      in_entered is_over_phase item (left_tasks (executing item) (tickets_left item) ts) (executing item)
      (⊎_elim (λ (none : entered t item ≡ 0). none) (λ (some : 1 ≤ entered t item). absurd (omega (arith, h.lives.fits taken, f.fresh some))) (none_or_some (entered t item)))
      (over_left ts (executing item) (tickets_left item) over)

  module _ (o : Opening) (cs : List ℕ) (known : contains cs c ≡ true) where
    -- the answers are those that the log shows
    pub record ScopeStands (items : List (List Effect)) (b : Box) : Type 0 where
      pub tasks : TasksStand items b.tasks
      pub waits : Waits o t cs items (length (firsts items)) b.tasks b

    says_grows : (items : List (List Effect)) (item : List Effect) (P : Type 0) (out : Outgoing) → Says o t items P out → Says o t (items ++ item ∷ []) P out
    says_grows items item P out s = record {
      place = s.place;
      reply = s.reply;
      place_is = s.place_is;
      nth_is = ap (nth s.place) (firsts-more items item) ∙ nth-first s.place (firsts items) (cons_option (first_sent items item) []) s.reply s.nth_is;
      over = s.over;
    }

    told_grows : (items : List (List Effect)) (item : List Effect) (P : Type 0) (out : Outgoing) → Told o t items P out → Told o t (items ++ item ∷ []) P out
    told_grows items item P out e =
        ⊎_elim (λ (s : Says o t items (P × (contains out.scope t ≡ true)) out). inl (says_grows items item (P × (contains out.scope t ≡ true)) out s)) (λ none. inr none) e

    -- ---- a reply is sent

    module _ (items : List (List Effect)) (item : List Effect) (P : Type 0) where
      abbrev its : List (List Effect)
      its = items ++ item ∷ []

      abbrev Now : ℕ → Box → Type 0
      Now n b = Kept cs (Told o t its P) (Scoped o t its) n b

      counts : (n m : ℕ) (b : Box) → n + 1 ≡ m → Now n b → Now m (record b { sent = b.sent + 1 })
      counts n m b more h = record { queues = h.queues; undue = h.undue; conns = h.conns; sent = ap (λ k. k + 1) h.sent ∙ more }

      module _ (s : ℕ × Reply) (found : first_of (filter_map reply_sent item) ≡ Some s) where
        abbrev as_sent : Sent
        as_sent = record { before = items; item = item; conn = s.0; reply = s.1 }

        firsts_are : firsts its ≡ firsts items ++ as_sent ∷ []
        firsts_are = firsts-some items item s.0 s.1 found

        counted : length (firsts items) + 1 ≡ length (firsts its)
        counted = sym (ap length firsts_are ∙ length-push (firsts items) as_sent)

        at_place : nth (length (firsts items)) (firsts its) ≡ Some as_sent
        at_place = ap (nth (length (firsts items))) firsts_are ∙ nth-push (firsts items) as_sent

        -- one that is about nothing
        plain : aim o (executing item) s.1 ≡ None → is_taken_out_by o as_sent t ≡ true → ⊥
        plain none over =
            let no : elim (aim o (executing item) s.1) [ Some about ↦ list_any (λ (e : Entered). (e.ticket == t) && is_about about item e) (flat_map entered_in its) | None ↦ false ] ≡ true =
            and_second (list_any (is_taken_out_in t) its) _ over in
            false≢true (sym (ap (λ x. elim x [ Some about ↦ list_any (λ (e : Entered). (e.ticket == t) && is_about about item e) (flat_map entered_in its) | None ↦ false ]) none) ∙ no)

        enters_plain : (b : Box) (r : Option Request) (tickets : List ℕ) → aim o (executing item) s.1 ≡ None → Now (length (firsts items)) b
            → Now (length (firsts its)) (let b' = enter s.0 (outgoing b r tickets s.1) b in record b' { sent = b'.sent + 1 })
        enters_plain b r tickets none h =
            counts (length (firsts items)) (length (firsts its)) (enter s.0 (outgoing b r tickets s.1) b) counted
            (kept_enter cs (Told o t its P) (Scoped o t its) (length (firsts items)) b s.0 (outgoing b r tickets s.1)
            (inl (record { place = length (firsts items); reply = as_sent; place_is = ap (λ n. Some n) h.sent; nth_is = at_place; over = λ is. absurd (plain none is) })) h)

        sends_some : (b links : Box) (r : Option Request) (tickets closes : List ℕ) → executing item ≡ r → HaveConns cs links.links → (list_any (is_taken_out_in t) its ≡ true → AreIn is_left_phase t b.tasks) → AtHome b.tasks → HaveTasks its b.tasks
            → Now (length (firsts items)) b → Now (length (firsts its)) (send o r tickets (closed_in links item) closes (Some s) b)
        sends_some b links None tickets closes is conns left homes have h = enters_plain b None tickets (ap (λ x. aim o x s.1) is) h
        sends_some b links (Some r) tickets closes is conns left homes have h = by_aim (aim o (Some r) s.1) refl
          where
            by_aim : (x : Option Aim) → aim o (Some r) s.1 ≡ x → Now (length (firsts its)) (let b' = send_as o (Some r) x (closed_in links item) closes s.0 (outgoing b (Some r) tickets s.1) b in record b' { sent = b'.sent + 1 })
            by_aim None none = enters_plain b (Some r) tickets (ap (λ x. aim o x s.1) is ∙ none) h
            by_aim (Some about) some =
                let a : Answer = answer o b r (closed_in links item) closes s.0 (outgoing b (Some r) tickets s.1) about in
                let e : Scoped o t its a = record {
                  place = length (firsts items);
                  reply = as_sent;
                  place_is = ap (λ n. Some n) h.sent;
                  nth_is = at_place;
                  over = scoped o t c items item s.0 s.1 about b links.links (ap (λ ks. contains ks c) conns ∙ known) (ap (λ x. aim o x s.1) is ∙ some) left homes have;
                } in
                cond_both (list_any (λ (l : Link). (l.conn == a.conn) && takes_more l) b.links) (record b { undue = b.undue ++ a ∷ [] }) b (λ (b' : Box). Now (length (firsts its)) (record b' { sent = b'.sent + 1 }))
                (λ may. counts (length (firsts items)) (length (firsts its)) (record b { undue = b.undue ++ a ∷ [] }) counted
                (record { queues = h.queues; undue = each-append (Scoped o t its) b.undue (a ∷ []) h.undue (e, tt); conns = h.conns; sent = h.sent }))
                (λ may. counts (length (firsts items)) (length (firsts its)) b counted h)

      sends : (b links : Box) (tickets closes : List ℕ) → HaveConns cs links.links → (list_any (is_taken_out_in t) its ≡ true → AreIn is_left_phase t b.tasks) → AtHome b.tasks → HaveTasks its b.tasks → Now (length (firsts items)) b
          → Now (length (firsts its)) (send o (executing item) tickets (closed_in links item) closes (first_of (filter_map reply_sent item)) b)
      sends b links tickets closes conns left homes have h = by_reply (first_of (filter_map reply_sent item)) refl
        where
          by_reply : (x : Option (ℕ × Reply)) → first_of (filter_map reply_sent item) ≡ x → Now (length (firsts its)) (send o (executing item) tickets (closed_in links item) closes x b)
          by_reply None none = record { queues = h.queues; undue = h.undue; conns = h.conns; sent = h.sent ∙ ap length (sym (firsts-none items item none)) }
          by_reply (Some s) some = sends_some s some b links (executing item) tickets closes refl conns left homes have h

    -- ---- an item

    pub scope_settle : (items : List (List Effect)) (b : Box) → ScopeStands items b → ScopeStands items (settle o b)
    scope_settle items b h =
        let k : Waits o t cs items (length (firsts items)) b.tasks (settle o b) = waits_settle o t cs items (length (firsts items)) b h.tasks.lives.left h.waits in
        record {
          tasks = subst (TasksStand items) (sym (settled_tasks o b)) h.tasks;
          waits = subst (λ ts. Waits o t cs items (length (firsts items)) ts (settle o b)) (sym (settled_tasks o b)) k;
        }

    -- commands that turn to other phases
    pub scope_turn : (items : List (List Effect)) (b : Box) (f : Task → Task) → ((x : Task) → Onward x (f x)) → ((x : Task) → is_live_phase x.phase ≡ true → is_live_phase (f x).phase ≡ true)
        → ((e : Entered) (x : Task) → is_task_of e (f x) ≡ is_task_of e x) → ScopeStands items b → ScopeStands items (record b { tasks = map f b.tasks })
    scope_turn items b f onward live same h =
        let over : AreIn is_over_phase t b.tasks → AreIn is_over_phase t (map f b.tasks) = λ k. in_map t is_over_phase is_over_phase f b.tasks (λ x. (onward x).ticket) (λ x at. (onward x).phase is_over_phase over_stays) k in
        let k : Waits o t cs items (length (firsts items)) (map f b.tasks) b =
        kept_weaken cs (Told o t items (AreIn is_over_phase t b.tasks)) (Told o t items (AreIn is_over_phase t (map f b.tasks))) (Scoped o t items) (Scoped o t items) (length (firsts items)) b
        (told_weaken o t items (AreIn is_over_phase t b.tasks) (AreIn is_over_phase t (map f b.tasks)) (λ taken. over)) (λ a e. e) h.waits in
        record { tasks = tasks_turn items b.tasks f onward live same h.tasks; waits = record { queues = k.queues; undue = k.undue; conns = k.conns; sent = k.sent } }

    scope_item : (items : List (List Effect)) (b : Box) (item : List Effect) → Fitting items item → ScopeStands items b → ScopeStands (items ++ item ∷ []) (after_item o b item)
    scope_item items b item f h =
        scope_settle later (in_phase phase_enabled enabled sent)
        (scope_turn later sent (phased phase_enabled enabled) (phased_onward phase_enabled (λ among stays. stays.enabled) enabled) (phased_live phase_enabled live_enabled enabled) (phased_task phase_enabled enabled)
        (record { tasks = subst (TasksStand later) (sym sent_are) stand; waits = subst (λ ts. Waits o t cs later (length (firsts later)) ts sent) (sym sent_are) replied }))
      where
        r : Option Request
        r = executing item

        tickets : List ℕ
        tickets = tickets_left item

        closes : List ℕ
        closes = newly_closed b (closed_in b item)

        enabled : List ℕ
        enabled = filter_map ticket_enabled item

        later : List (List Effect)
        later = items ++ item ∷ []

        entering : Box
        entering = enter_tasks r item (leave r tickets b)

        closed : Box
        closed = close r closes entering

        sent : Box
        sent = send o r tickets (closed_in b item) closes (first_of (filter_map reply_sent item)) closed

        come : List Task
        come = moved_by item b.tasks

        closed_are : closed.tasks ≡ come
        closed_are = closed_tasks r closes entering ∙ moved_tasks r tickets item b

        sent_are : sent.tasks ≡ come
        sent_are = replied_tasks o closed r tickets (closed_in b item) closes (first_of (filter_map reply_sent item)) ∙ closed_are

        stand : TasksStand later come
        stand = tasks_move items item b.tasks f h.tasks

        P : Type 0
        P = AreIn is_over_phase t come

        grown : Kept cs (Told o t later P) (Scoped o t later) (length (firsts items)) b
        grown =
            kept_weaken cs (Told o t items (AreIn is_over_phase t b.tasks)) (Told o t later P) (Scoped o t items) (Scoped o t later) (length (firsts items)) b
            (λ out e. told_grows items item P out (told_weaken o t items (AreIn is_over_phase t b.tasks) P (over_moved items item b.tasks f h.tasks) out e))
            (λ a e. says_grows items item (contains a.out.scope t ≡ true) a.out e) h.waits

        shut : Kept cs (Told o t later P) (Scoped o t later) (length (firsts items)) closed
        shut =
            kept_close cs (Told o t later P) (Scoped o t later) (length (firsts items)) entering r closes
            (kept_tasks cs (Told o t later P) (Scoped o t later) (length (firsts items)) (leave r tickets b) r item (kept_leave cs (Told o t later P) (Scoped o t later) (length (firsts items)) b r tickets grown))

        replied : Kept cs (Told o t later P) (Scoped o t later) (length (firsts later)) sent
        replied =
            sends items item P closed b tickets closes h.waits.conns (λ taken. subst (AreIn is_left_phase t) (sym closed_are) (stand.lives.left taken)) (subst AtHome (sym closed_are) stand.homes)
            (subst (HaveTasks later) (sym closed_are) stand.have) shut

    -- the items of an event, of a session
    abbrev pub AllFit : List (List Effect) → List (List Effect) → Type 0
    AllFit items [] = Unit {0}
    AllFit items (item ∷ more) = Fitting items item × AllFit (items ++ item ∷ []) more

    scope_items : (items : List (List Effect)) (b : Box) (more : List (List Effect)) → AllFit items more → ScopeStands items b → ScopeStands (items ++ more) (after_items o b more)
    scope_items items b [] fit h = subst (λ its. ScopeStands its b) (sym (append-nil items)) h
    scope_items items b (item ∷ more) fit h =
        subst (λ its. ScopeStands its (after_items o (after_item o b item) more)) (append_assoc items (item ∷ []) more) (scope_items (items ++ item ∷ []) (after_item o b item) more fit.1 (scope_item items b item fit.0 h))

    pub scope_event : (items : List (List Effect)) (b : Box) (effects : List Effect) (numbers : Numbers) → AllFit items (in_parts effects) → ScopeStands items b → ScopeStands (items ++ in_parts effects) (after_event o b effects numbers)
    scope_event items b effects numbers fit h =
        let b' : Box = after_items o b (in_parts effects) in
        let k : ScopeStands (items ++ in_parts effects) (record b' { tasks = map (λ (x : Task). record x { phase = phase_told x.phase }) b'.tasks }) =
        scope_turn (items ++ in_parts effects) b' (λ x. record x { phase = phase_told x.phase }) (λ x. record { ticket = refl; conn = refl; phase = λ among stays. stays.told x.phase }) (λ x. live_told x.phase) (λ e x. refl)
        (scope_items items b (in_parts effects) fit h) in
        record { tasks = k.tasks; waits = record { queues = k.waits.queues; undue = k.waits.undue; conns = k.waits.conns; sent = k.waits.sent } }
