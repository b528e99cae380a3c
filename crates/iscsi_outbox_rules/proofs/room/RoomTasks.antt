-- The tickets of live commands in the box: with each item those that leave are taken out, and those that enter stand behind them; no
-- other call changes them.
use Rattle.std.proofs.Common.{◌≡◌, ℕ, ◌==◌, ◌&&◌, not, cond, true, false, List, [], ◌∷◌, ◌++◌, map, filter, filter_map, Option, Some, None, refl, ap, sym, ◌∙◌}
use Rattle.std.specs.List.{list_any}
use Rattle.std.proofs.lemmas.Bool.{cond_both}
use Rattle.std.proofs.lemmas.List.{append-nil}
use Rattle.iscsi_wire.specs.Fields.{connection_of}
use Rattle.iscsi_wire.specs.declared.reply.Reply.{Reply}
use Rattle.iscsi_wire.specs.declared.request.Request.{Request}
use Rattle.iscsi_rules.specs.declared.effect.Effect.{Effect}
use Rattle.iscsi_rules.specs.declared.effect.Effect.TheVariants.{Deliver, Immediate, Wait, Void, Empty, Enter, Enable, Leave, Send, CloseConn, CloseSession, Ignore}
use Rattle.iscsi_rules.specs.rules.Trace.{first_of}
use Rattle.iscsi_outbox_rules.specs.rules.Calls.{Opening}
use Rattle.iscsi_outbox_rules.specs.rules.Boxes.{Phase, Dormant, Fresh, Started, Completed, Running, Gone, Task, Aim, Answer, Link, Box}
use Rattle.iscsi_outbox_rules.specs.rules.Words.{contains, is_live_phase}
use Rattle.iscsi_outbox_rules.specs.rules.Queues.{at_link, takes_more, enter, drop_on}
use Rattle.iscsi_outbox_rules.specs.rules.Due.{is_due, settle_from, settle}
use Rattle.iscsi_outbox_rules.specs.rules.Items.{executing, tickets_left, ticket_enabled, reply_sent, closed_in, newly_closed, phase_taken_out, phase_completed, phase_enabled, phase_told, in_phase, leave, task_entered, enter_tasks, close_one, close_all, close, outgoing, answer, send_as, aim, send, after_item}

abbrev pub live_tickets : List Task → List ℕ
live_tickets ts = map (λ (x : Task). x.ticket) (filter (λ (x : Task). is_live_phase x.phase) ts)

-- ---- what leaves the commands as they are

settled_from : (o : Opening) (before rest : List Answer) (b : Box) → (settle_from o before rest b).tasks ≡ b.tasks
settled_from o before [] b = refl
settled_from o before (a ∷ rest) b =
    cond_both (is_due o b before a) (settle_from o before rest (enter a.conn a.out b)) (settle_from o (before ++ a ∷ []) rest b) (λ (x : Box). x.tasks ≡ b.tasks)
    (λ due. settled_from o before rest (enter a.conn a.out b)) (λ undue. settled_from o (before ++ a ∷ []) rest b)

pub settled_tasks : (o : Opening) (b : Box) → (settle o b).tasks ≡ b.tasks
settled_tasks o b = settled_from o [] b.undue b

closed_one : (by conn : ℕ) (b : Box) → (close_one by conn b).tasks ≡ b.tasks
closed_one by conn b =
    cond_both (conn == by) (record b { links = at_link conn (λ l. record l { closed = true }) b.links }) (drop_on conn (record b { links = at_link conn (λ l. record l { closed = true; cut = true }) b.links })) (λ (x : Box). x.tasks ≡ b.tasks) (λ is. refl) (λ is. refl)

closed_all : (by : ℕ) (conns : List ℕ) (b : Box) → (close_all by conns b).tasks ≡ b.tasks
closed_all by [] b = refl
closed_all by (conn ∷ conns) b = closed_all by conns (close_one by conn b) ∙ closed_one by conn b

pub closed_tasks : (r : Option Request) (conns : List ℕ) (b : Box) → (close r conns b).tasks ≡ b.tasks
closed_tasks (Some r) conns b = closed_all (connection_of r) conns b
closed_tasks None conns b = refl

pub sent_tasks : (o : Opening) (r : Option Request) (tickets conns closes : List ℕ) (x : Option (ℕ × Reply)) (b : Box) → (send o r tickets conns closes x b).tasks ≡ b.tasks
sent_tasks o r tickets conns closes None b = refl
sent_tasks o None tickets conns closes (Some s) b = refl
sent_tasks o (Some r) tickets conns closes (Some s) b = by_aim (aim o (Some r) s.1)
  where
    by_aim : (x : Option Aim) → (send_as o (Some r) x conns closes s.0 (outgoing b (Some r) tickets s.1) b).tasks ≡ b.tasks
    by_aim None = refl
    by_aim (Some about) =
        let a : Answer = answer o b r conns closes s.0 (outgoing b (Some r) tickets s.1) about in
        cond_both (list_any (λ (l : Link). (l.conn == a.conn) && takes_more l) b.links) (record b { undue = b.undue ++ a ∷ [] }) b (λ (y : Box). y.tasks ≡ b.tasks) (λ may. refl) (λ may. refl)

-- ---- phases

-- these leave, and no other
live_leaving : (change : Phase → Phase) → ((p : Phase) → is_live_phase (change p) ≡ false) → (tickets : List ℕ) (ts : List Task)
    → live_tickets (map (λ (x : Task). cond (contains tickets x.ticket) (record x { phase = change x.phase }) x) ts) ≡ filter (λ k. not (contains tickets k)) (live_tickets ts)
live_leaving change ends tickets [] = refl
live_leaving change ends tickets (x ∷ ts) =
    let rest = live_leaving change ends tickets ts in
    let more : List Task = map (λ (y : Task). cond (contains tickets y.ticket) (record y { phase = change y.phase }) y) ts in
    elim (contains tickets x.ticket) as (λ c. contains tickets x.ticket ≡ c → live_tickets (cond c (record x { phase = change x.phase }) x ∷ more) ≡ filter (λ k. not (contains tickets k)) (live_tickets (x ∷ ts))) [
      | true ↦ λ is.
          ap (λ v. map (λ (y : Task). y.ticket) (cond v (record x { phase = change x.phase } ∷ filter (λ (y : Task). is_live_phase y.phase) more) (filter (λ (y : Task). is_live_phase y.phase) more))) (ends x.phase) ∙ rest
          ∙ sym (elim (is_live_phase x.phase) as (λ v. filter (λ k. not (contains tickets k)) (map (λ (y : Task). y.ticket) (cond v (x ∷ filter (λ (y : Task). is_live_phase y.phase) ts) (filter (λ (y : Task). is_live_phase y.phase) ts))) ≡ filter (λ k. not (contains tickets k)) (live_tickets ts)) [
            | true ↦ ap (λ c. cond (not c) (x.ticket ∷ filter (λ k. not (contains tickets k)) (live_tickets ts)) (filter (λ k. not (contains tickets k)) (live_tickets ts))) is
            | false ↦ refl
          ])
      | false ↦ λ isnt. elim (is_live_phase x.phase) as (λ v. map (λ (y : Task). y.ticket) (cond v (x ∷ filter (λ (y : Task). is_live_phase y.phase) more) (filter (λ (y : Task). is_live_phase y.phase) more)) ≡ filter (λ k. not (contains tickets k)) (map (λ (y : Task). y.ticket) (cond v (x ∷ filter (λ (y : Task). is_live_phase y.phase) ts) (filter (λ (y : Task). is_live_phase y.phase) ts)))) [
        | true ↦ ap (λ ks. x.ticket ∷ ks) rest ∙ ap (λ c. cond (not c) (x.ticket ∷ filter (λ k. not (contains tickets k)) (live_tickets ts)) (filter (λ k. not (contains tickets k)) (live_tickets ts))) (sym isnt)
        | false ↦ rest
      ]
    ] refl

-- none comes or goes
pub live_same : (change : Task → Task) → ((x : Task) → ((change x).ticket ≡ x.ticket) × (is_live_phase (change x).phase ≡ is_live_phase x.phase)) → (ts : List Task) → live_tickets (map change ts) ≡ live_tickets ts
live_same change same [] = refl
live_same change same (x ∷ ts) =
    let s = same x in
    let more : List Task = filter (λ (y : Task). is_live_phase y.phase) (map change ts) in
    ap (λ v. map (λ (y : Task). y.ticket) (cond v (change x ∷ more) more)) s.1
    ∙ elim (is_live_phase x.phase) as (λ v. map (λ (y : Task). y.ticket) (cond v (change x ∷ more) more) ≡ map (λ (y : Task). y.ticket) (cond v (x ∷ filter (λ (y : Task). is_live_phase y.phase) ts) (filter (λ (y : Task). is_live_phase y.phase) ts))) [
      | true ↦ ap (λ k. k ∷ live_tickets (map change ts)) s.0 ∙ ap (λ ks. x.ticket ∷ ks) (live_same change same ts)
      | false ↦ live_same change same ts
    ]

ends_taken_out : (p : Phase) → is_live_phase (phase_taken_out p) ≡ false
ends_taken_out Dormant = refl
ends_taken_out Fresh = refl
ends_taken_out Started = refl
ends_taken_out Completed = refl
ends_taken_out Running = refl
ends_taken_out Gone = refl

ends_completed : (p : Phase) → is_live_phase (phase_completed p) ≡ false
ends_completed Dormant = refl
ends_completed Fresh = refl
ends_completed Started = refl
ends_completed Completed = refl
ends_completed Running = refl
ends_completed Gone = refl

same_enabled : (p : Phase) → is_live_phase (phase_enabled p) ≡ is_live_phase p
same_enabled Dormant = refl
same_enabled Fresh = refl
same_enabled Started = refl
same_enabled Completed = refl
same_enabled Running = refl
same_enabled Gone = refl

pub same_told : (p : Phase) → is_live_phase (phase_told p) ≡ is_live_phase p
same_told Dormant = refl
same_told Fresh = refl
same_told Started = refl
same_told Completed = refl
same_told Running = refl
same_told Gone = refl

left_tasks : (r : Option Request) (tickets : List ℕ) (b : Box) → live_tickets (leave r tickets b).tasks ≡ filter (λ k. not (contains tickets k)) (live_tickets b.tasks)
left_tasks (Some r) tickets b = live_leaving phase_taken_out ends_taken_out tickets b.tasks
left_tasks None tickets b = live_leaving phase_completed ends_completed tickets b.tasks

-- ---- what enters

abbrev pub ticket_entered : Effect → Option ℕ
ticket_entered (Enter ticket unit attr) = Some ticket
ticket_entered _ = None

-- while a request executes
abbrev pub tickets_entered : Option Request → List Effect → List ℕ
tickets_entered (Some r) item = filter_map ticket_entered item
tickets_entered None item = []

entering_live : (r : Request) (item : List Effect) → live_tickets (filter_map (task_entered r) item) ≡ filter_map ticket_entered item
entering_live r [] = refl
entering_live r (Enter ticket unit attr ∷ es) = ap (λ ks. ticket ∷ ks) (entering_live r es)
entering_live r (Deliver q ∷ es) = entering_live r es
entering_live r (Immediate q ∷ es) = entering_live r es
entering_live r (Wait q ∷ es) = entering_live r es
entering_live r (Void sn ∷ es) = entering_live r es
entering_live r (Empty sn ∷ es) = entering_live r es
entering_live r (Enable ticket unit ∷ es) = entering_live r es
entering_live r (Leave ticket unit ∷ es) = entering_live r es
entering_live r (Send conn stat_sn reply ∷ es) = entering_live r es
entering_live r (CloseConn conn ∷ es) = entering_live r es
entering_live r (CloseSession ∷ es) = entering_live r es
entering_live r (Ignore why ∷ es) = entering_live r es

live-append : (xs ys : List Task) → live_tickets (xs ++ ys) ≡ live_tickets xs ++ live_tickets ys
live-append [] ys = refl
live-append (x ∷ xs) ys = elim (is_live_phase x.phase) as (λ v. map (λ (y : Task). y.ticket) (cond v (x ∷ filter (λ (y : Task). is_live_phase y.phase) (xs ++ ys)) (filter (λ (y : Task). is_live_phase y.phase) (xs ++ ys))) ≡ map (λ (y : Task). y.ticket) (cond v (x ∷ filter (λ (y : Task). is_live_phase y.phase) xs) (filter (λ (y : Task). is_live_phase y.phase) xs)) ++ live_tickets ys) [
  | true ↦ ap (λ ks. x.ticket ∷ ks) (live-append xs ys)
  | false ↦ live-append xs ys
]

entered_tasks : (r : Option Request) (item : List Effect) (b : Box) → live_tickets (enter_tasks r item b).tasks ≡ live_tickets b.tasks ++ tickets_entered r item
entered_tasks (Some r) item b = live-append b.tasks (filter_map (task_entered r) item) ∙ ap (λ ks. live_tickets b.tasks ++ ks) (entering_live r item)
entered_tasks None item b = sym (append-nil (live_tickets b.tasks))

-- ---- an item

pub live_after_item : (o : Opening) (b : Box) (item : List Effect) → live_tickets (after_item o b item).tasks ≡ filter (λ k. not (contains (tickets_left item) k)) (live_tickets b.tasks) ++ tickets_entered (executing item) item
live_after_item o b item =
    let r = executing item in
    let tickets = tickets_left item in
    let conns = closed_in b item in
    let closes = newly_closed b conns in
    let left : Box = leave r tickets b in
    let entering : Box = enter_tasks r item left in
    let closed : Box = close r closes entering in
    let x : Option (ℕ × Reply) = first_of (filter_map reply_sent item) in
    let sent : Box = send o r tickets conns closes x closed in
    let enabled : List ℕ = filter_map ticket_enabled item in
    ap live_tickets (settled_tasks o (in_phase phase_enabled enabled sent))
    ∙ live_same (λ (y : Task). cond (contains enabled y.ticket) (record y { phase = phase_enabled y.phase }) y)
    (λ y. cond_both (contains enabled y.ticket) (record y { phase = phase_enabled y.phase }) y (λ (z : Task). (z.ticket ≡ y.ticket) × (is_live_phase z.phase ≡ is_live_phase y.phase)) (λ is. (refl, same_enabled y.phase)) (λ is. (refl, refl))) sent.tasks
    ∙ ap live_tickets (sent_tasks o r tickets conns closes x closed ∙ closed_tasks r closes entering)
    ∙ entered_tasks r item left
    ∙ ap (λ ks. ks ++ tickets_entered r item) (left_tasks r tickets b)
