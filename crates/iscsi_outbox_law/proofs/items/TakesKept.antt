-- As many commands are kept from where all entered to the end of an item.
use Rattle.std.proofs.Common.{◌≡◌, ℕ, ◌+◌, ◌<◌, ◌==◌, ◌&&◌, ◌||◌, not, cond, Bool, true, false, List, [], ◌∷◌, ◌++◌, length, map, filter, filter_map, count_by, Option, Some, None, refl, ap, sym, ◌∙◌, arith}
use Rattle.std.specs.List.{list_any}
use Rattle.iscsi_wire.specs.declared.reply.Reply.{Reply}
use Rattle.iscsi_wire.specs.declared.request.Request.{Request}
use Rattle.iscsi_wire.specs.Fields.{connection_of, is_immediate, itt}
use Rattle.iscsi_rules.specs.declared.effect.Effect.{Effect}
use Rattle.iscsi_rules.specs.declared.effect.Effect.TheVariants.{Deliver, Immediate, Wait, Void, Empty, Enter, Enable, Leave, Send, CloseConn, CloseSession, Ignore}
use Rattle.iscsi_arrivals.proofs.CountLemmas.{count-cons}
use Rattle.iscsi_outbox_rules.specs.rules.Calls.{Opening}
use Rattle.iscsi_outbox_rules.specs.rules.Boxes.{Aim, Phase, Dormant, Fresh, Started, Completed, Running, Gone, Task, Answer, Link, Box}
use Rattle.iscsi_outbox_rules.specs.rules.Words.{contains, has_under_way, is_left_phase, is_live_phase, is_running_phase}
use Rattle.iscsi_outbox_rules.specs.rules.Queues.{at_link, emptied, enter, takes_more}
use Rattle.iscsi_outbox_rules.specs.rules.Due.{settle}
use Rattle.iscsi_outbox_rules.specs.rules.Items.{aim as aim_box, answer, close, close_all, close_one, in_phase, outgoing, phase_enabled, send, send_as, task_entered}
use Rattle.iscsi_outbox_rules.specs.promises.Room.{tasks_kept}
use Rattle.iscsi_outbox_steps.specs.State.{State}
use Rattle.iscsi_outbox_law.specs.private.Pairs.{EachOf, InOrder}
use Rattle.iscsi_outbox_law.specs.private.Commands.{IsCommand, is_kept, is_under_way}
use Rattle.iscsi_outbox_law.specs.private.Sound.{entries_of}
use Rattle.iscsi_outbox_law.specs.private.Stands.{Stands}
use Rattle.iscsi_outbox_law.proofs.general.PairLemmas.{each-append, pairs-length}
use Rattle.iscsi_outbox_law.proofs.commands.TrackedLemmas.{any_map}
use Rattle.iscsi_outbox_law.proofs.commands.Lessening.{count_filter}
use Rattle.iscsi_outbox_law.proofs.items.TakesLeaves.{turned_by}
use Rattle.iscsi_outbox_law.proofs.items.TakesClosing.{at_twice, closed_link, cut_link}
use Rattle.iscsi_outbox_law.proofs.items.TakesRoom.{tasks_settled, under_entered, under_settled}

-- ---- how many are kept

abbrev pub kept_of : (ℕ → Bool) → List Task → ℕ
kept_of under tasks = count_by (is_kept under) tasks

one_kept : (p : Phase) (u : Bool) → cond (is_live_phase p || (is_running_phase p || (is_left_phase p && u))) 1 0 ≡ cond (is_live_phase p) 1 0 + cond (is_running_phase p || (is_left_phase p && u)) 1 0
one_kept Dormant u = refl
one_kept Fresh u = refl
one_kept Started u = refl
one_kept Completed u = refl
one_kept Running u = refl
one_kept Gone true = refl
one_kept Gone false = refl

kept_sum : (under : ℕ → Bool) (ts : List Task) → count_by (λ (t : Task). is_live_phase t.phase) ts + count_by (λ (t : Task). is_running_phase t.phase || (is_left_phase t.phase && under t.ticket)) ts ≡ kept_of under ts
kept_sum under [] = refl
kept_sum under (t ∷ ts) =
    let rest = kept_sum under ts in
    let e = count-cons (λ (u : Task). is_live_phase u.phase) t ts in
    let f = count-cons (λ (u : Task). is_running_phase u.phase || (is_left_phase u.phase && under u.ticket)) t ts in
    let g = count-cons (is_kept under) t ts in
    let k = one_kept t.phase (under t.ticket) in omega (arith, rest, e, f, g, k)

pub kept_is : (o : Opening) (b : Box) → tasks_kept o b ≡ kept_of (is_under_way o b.links) b.tasks
kept_is o b = kept_sum (is_under_way o b.links) b.tasks

pub commands_kept : (o : Opening) (s : State) (b : Box) → Stands o s b → length s.tracked.commands ≡ kept_of (is_under_way o b.links) b.tasks
commands_kept o s b h =
    pairs-length (IsCommand (is_under_way o b.links) s.limits.cids b.links) s.tracked.commands (filter (is_kept (is_under_way o b.links)) b.tasks) h.commands ∙ sym (count_filter (is_kept (is_under_way o b.links)) b.tasks)

same_kept : (o : Opening) (b b' : Box) → b'.tasks ≡ b.tasks → ((t : ℕ) → is_under_way o b'.links t ≡ is_under_way o b.links t) → tasks_kept o b' ≡ tasks_kept o b
same_kept o b b' tasks under =
    kept_is o b' ∙ ap (kept_of (is_under_way o b'.links)) tasks ∙ ap (λ (u : ℕ → Bool). kept_of u b.tasks) (λ i t. under t i) ∙ sym (kept_is o b)

-- ---- the parts of an item

pub kept_settle : (o : Opening) (b : Box) → tasks_kept o (settle o b) ≡ tasks_kept o b
kept_settle o b = same_kept o b (settle o b) (tasks_settled o b) (under_settled o b)

enabled_kept : (p : Phase) (u : Bool) → (is_live_phase (phase_enabled p) || (is_running_phase (phase_enabled p) || (is_left_phase (phase_enabled p) && u))) ≡ (is_live_phase p || (is_running_phase p || (is_left_phase p && u)))
enabled_kept Dormant u = refl
enabled_kept Fresh u = refl
enabled_kept Started u = refl
enabled_kept Completed u = refl
enabled_kept Running u = refl
enabled_kept Gone u = refl

pub kept_enable : (o : Opening) (tickets : List ℕ) (b : Box) → tasks_kept o (in_phase phase_enabled tickets b) ≡ tasks_kept o b
kept_enable o tickets b = kept_is o (in_phase phase_enabled tickets b) ∙ walk b.tasks ∙ sym (kept_is o b)
  where
    one : (t : Task) → is_kept (is_under_way o b.links) (turned_by phase_enabled (contains tickets) t) ≡ is_kept (is_under_way o b.links) t
    one t = elim (contains tickets t.ticket) as (λ w. is_kept (is_under_way o b.links) (cond w (record t { phase = phase_enabled t.phase }) t) ≡ is_kept (is_under_way o b.links) t) [
      | true ↦ enabled_kept t.phase (is_under_way o b.links t.ticket)
      | false ↦ refl
    ]

    walk : (ts : List Task) → kept_of (is_under_way o b.links) (map (turned_by phase_enabled (contains tickets)) ts) ≡ kept_of (is_under_way o b.links) ts
    walk [] = refl
    walk (t ∷ ts) =
        count-cons (is_kept (is_under_way o b.links)) (turned_by phase_enabled (contains tickets) t) (map (turned_by phase_enabled (contains tickets)) ts)
        ∙ ap (λ (w : Bool). cond w 1 0 + kept_of (is_under_way o b.links) (map (turned_by phase_enabled (contains tickets)) ts)) (one t)
        ∙ ap (λ n. cond (is_kept (is_under_way o b.links) t) 1 0 + n) (walk ts) ∙ sym (count-cons (is_kept (is_under_way o b.links)) t ts)

under_at : (o : Opening) (f : Link → Link) → ((l : Link) (k : ℕ) → has_under_way o (λ n. n == k) (f l) ≡ has_under_way o (λ n. n == k) l) → (cid : ℕ) (links : List Link) (t : ℕ) → is_under_way o (at_link cid f links) t ≡ is_under_way o links t
under_at o f same cid links t = any_map (has_under_way o (λ n. n == t)) (λ (l : Link). cond (l.conn == cid) (f l) l) links
    (λ l. elim (l.conn == cid) as (λ v. has_under_way o (λ n. n == t) (cond v (f l) l) ≡ has_under_way o (λ n. n == t) l) [ true ↦ same l t | false ↦ refl ])

kept_close_all : (o : Opening) (by : ℕ) (cids : List ℕ) (b : Box) → tasks_kept o (close_all by cids b) ≡ tasks_kept o b
kept_close_all o by [] b = refl
kept_close_all o by (cid ∷ cids) b =
    kept_close_all o by cids (close_one by cid b)
    ∙ elim (cid == by) as (λ w. tasks_kept o (cond w (record b { links = at_link cid closed_link b.links }) (record b { links = at_link cid emptied (at_link cid cut_link b.links); undue = filter (λ (a : Answer). not (a.conn == cid)) b.undue })) ≡ tasks_kept o b) [
      | true ↦ same_kept o b (record b { links = at_link cid closed_link b.links }) refl (under_at o closed_link (λ l k. refl) cid b.links)
      | false ↦ same_kept o b (record b { links = at_link cid emptied (at_link cid cut_link b.links); undue = filter (λ (a : Answer). not (a.conn == cid)) b.undue }) refl
          (λ t. ap (λ ls. is_under_way o ls t) (at_twice cid b.links) ∙ under_at o (λ l. emptied (cut_link l)) (λ l k. refl) cid b.links t)
    ]

pub kept_close : (o : Opening) (r : Option Request) (cids : List ℕ) (b : Box) → tasks_kept o (close r cids b) ≡ tasks_kept o b
kept_close o (Some r) cids b = kept_close_all o (connection_of r) cids b
kept_close o None cids b = refl

kept_send_as : (o : Opening) (r : Option Request) (aim : Option Aim) (tickets conns closes : List ℕ) (cid : ℕ) (reply : Reply) (b : Box) → tasks_kept o (send_as o r aim conns closes cid (outgoing b r tickets reply) b) ≡ tasks_kept o b
kept_send_as o (Some r) (Some aim) tickets conns closes cid reply b =
    elim (list_any (λ (l : Link). l.conn == cid && takes_more l) b.links) as (λ w. tasks_kept o (cond w (record b { undue = b.undue ++ answer o b r conns closes cid (outgoing b (Some r) tickets reply) aim ∷ [] }) b) ≡ tasks_kept o b) [
      | true ↦ refl
      | false ↦ refl
    ]
kept_send_as o (Some r) None tickets conns closes cid reply b = same_kept o b (enter cid (outgoing b (Some r) tickets reply) b) refl (under_entered cid (record (outgoing b (Some r) tickets reply) { time = b.time }) o b.links)
kept_send_as o None (Some aim) tickets conns closes cid reply b = same_kept o b (enter cid (outgoing b None tickets reply) b) refl (under_entered cid (record (outgoing b None tickets reply) { time = b.time }) o b.links)
kept_send_as o None None tickets conns closes cid reply b = same_kept o b (enter cid (outgoing b None tickets reply) b) refl (under_entered cid (record (outgoing b None tickets reply) { time = b.time }) o b.links)

pub kept_send : (o : Opening) (r : Option Request) (tickets conns closes : List ℕ) (sent : Option (ℕ × Reply)) (b : Box) → tasks_kept o (send o r tickets conns closes sent b) ≡ tasks_kept o b
kept_send o r tickets conns closes None b = refl
kept_send o r tickets conns closes (Some sent) b = kept_send_as o r (aim_box o r sent.1) tickets conns closes sent.0 sent.1 b

-- ---- those that enter

abbrev pub tasks_of : Request → List (ℕ × ℕ) → List Task
tasks_of r entries = map (λ (e : ℕ × ℕ). record { ticket = e.0; conn = connection_of r; unit = e.1; tag = itt r; numbered = not (is_immediate r); phase = Dormant }) entries

pub tasks_entered : (r : Request) (effects : List Effect) → filter_map (task_entered r) effects ≡ tasks_of r (entries_of effects)
tasks_entered r [] = refl
tasks_entered r (Deliver x ∷ effects) = tasks_entered r effects
tasks_entered r (Immediate x ∷ effects) = tasks_entered r effects
tasks_entered r (Wait x ∷ effects) = tasks_entered r effects
tasks_entered r (Void sn ∷ effects) = tasks_entered r effects
tasks_entered r (Empty sn ∷ effects) = tasks_entered r effects
tasks_entered r (Enter ticket unit attr ∷ effects) =
    ap (λ ts. record { ticket = ticket; conn = connection_of r; unit = unit; tag = itt r; numbered = not (is_immediate r); phase = Dormant } ∷ ts) (tasks_entered r effects)
tasks_entered r (Enable ticket unit ∷ effects) = tasks_entered r effects
tasks_entered r (Leave ticket unit ∷ effects) = tasks_entered r effects
tasks_entered r (Send conn stat_sn reply ∷ effects) = tasks_entered r effects
tasks_entered r (CloseConn conn ∷ effects) = tasks_entered r effects
tasks_entered r (CloseSession ∷ effects) = tasks_entered r effects
tasks_entered r (Ignore why ∷ effects) = tasks_entered r effects

pub kept_entered : (under : ℕ → Bool) (r : Request) (ts : List Task) (entries : List (ℕ × ℕ)) → kept_of under (ts ++ tasks_of r entries) ≡ kept_of under ts + length entries
kept_entered under r [] [] = refl
kept_entered under r [] (e ∷ entries) =
    let rest = kept_entered under r [] entries in
    let g = count-cons (is_kept under) (record { ticket = e.0; conn = connection_of r; unit = e.1; tag = itt r; numbered = not (is_immediate r); phase = Dormant }) (tasks_of r entries) in omega (arith, rest, g)
kept_entered under r (t ∷ ts) entries =
    let rest = kept_entered under r ts entries in
    let e = count-cons (is_kept under) t (ts ++ tasks_of r entries) in
    let f = count-cons (is_kept under) t ts in omega (arith, rest, e, f)

each_tasks : (r : Request) (n : ℕ) (entries : List (ℕ × ℕ)) → EachOf (λ (e : ℕ × ℕ). n < e.0) entries → EachOf (λ (t : Task). n < t.ticket) (tasks_of r entries)
each_tasks r n [] h = tt
each_tasks r n (e ∷ entries) h = (h.0, each_tasks r n entries h.1)

order_tasks : (r : Request) (entries : List (ℕ × ℕ)) → InOrder (λ (d e : ℕ × ℕ). d.0 < e.0) entries → InOrder (λ (t u : Task). t.ticket < u.ticket) (tasks_of r entries)
order_tasks r [] h = tt
order_tasks r (e ∷ entries) h = (each_tasks r e.0 entries h.0, order_tasks r entries h.1)

pub order_entered : (r : Request) (ts : List Task) (entries : List (ℕ × ℕ)) → InOrder (λ (t u : Task). t.ticket < u.ticket) ts → EachOf (λ (e : ℕ × ℕ). EachOf (λ (t : Task). t.ticket < e.0) ts) entries
    → InOrder (λ (d e : ℕ × ℕ). d.0 < e.0) entries → InOrder (λ (t u : Task). t.ticket < u.ticket) (ts ++ tasks_of r entries)
order_entered r [] entries h above order = order_tasks r entries order
order_entered r (t ∷ ts) entries h above order =
    (each-append (λ (u : Task). t.ticket < u.ticket) ts (tasks_of r entries) h.0 (each_tasks r t.ticket entries (firsts entries above)), order_entered r ts entries h.1 (rests entries above) order)
  where
    firsts : (es : List (ℕ × ℕ)) → EachOf (λ (e : ℕ × ℕ). EachOf (λ (u : Task). u.ticket < e.0) (t ∷ ts)) es → EachOf (λ (e : ℕ × ℕ). t.ticket < e.0) es
    firsts [] k = tt
    firsts (e ∷ es) k = (k.0.0, firsts es k.1)

    rests : (es : List (ℕ × ℕ)) → EachOf (λ (e : ℕ × ℕ). EachOf (λ (u : Task). u.ticket < e.0) (t ∷ ts)) es → EachOf (λ (e : ℕ × ℕ). EachOf (λ (u : Task). u.ticket < e.0) ts) es
    rests [] k = tt
    rests (e ∷ es) k = (k.0.1, rests es k.1)
