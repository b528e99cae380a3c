-- An item by which no command enters or leaves, in the outbox: it sends one reply at the most.
use Rattle.std.proofs.Common.{◌≡◌, ℕ, ◌==◌, ◌&&◌, not, true, false, List, [], ◌∷◌, ◌++◌, map, filter, filter_map, Option, Some, None, refl, ap, ◌∙◌}
use Rattle.std.specs.List.{flat_map, list_any}
use Rattle.std.proofs.lemmas.Bool.{cond_both}
use Rattle.std.proofs.lemmas.List.{append-nil}
use Rattle.iscsi_wire.specs.declared.reply.Reply.{Reply}
use Rattle.iscsi_wire.specs.declared.request.Request.{Request}
use Rattle.iscsi_rules.specs.declared.effect.Effect.{Effect}
use Rattle.iscsi_rules.specs.rules.Trace.{first_of}
use Rattle.iscsi_outbox_rules.specs.rules.Boxes.{Aim, Answer, Box, Link, Outgoing, Phase, Task}
use Rattle.iscsi_outbox_rules.specs.rules.Calls.{Opening}
use Rattle.iscsi_outbox_rules.specs.rules.Due.{settle}
use Rattle.iscsi_outbox_rules.specs.rules.Items.{after_item, aim, answer, await, close, conns_closed, enter_tasks, executing, in_phase, leave, newly_closed, outgoing, phase_completed, phase_enabled, phase_taken_out, reply_sent, send, send_as, task_entered, ticket_enabled, tickets_left}
use Rattle.iscsi_outbox_rules.specs.rules.Queues.{drop_of, takes_more}
use Rattle.iscsi_outbox_rules.specs.rules.Words.{contains, is_of}
use Rattle.iscsi_outbox_law.specs.private.Sound.{IsSound, entries_of}
use Rattle.iscsi_ffi_law.proofs.requests.Kept.{filter_all}
use Rattle.iscsi_ffi_law.proofs.calls.Quiet.{settled_tasks}

-- ---- an item

map_id : (ts : List Task) → map (λ (t : Task). t) ts ≡ ts
map_id [] = refl
map_id (t ∷ ts) = ap (λ us. t ∷ us) (map_id ts)

pub none_turned : (change : Phase → Phase) (b : Box) → in_phase change [] b ≡ b
none_turned change b = ap (λ ts. record b { tasks = ts }) (map_id b.tasks)

none_dropped : (b : Box) → drop_of (contains []) b ≡ b
none_dropped b = ap (λ ls. record b { links = ls }) (all b.links)
  where
    stays : (out : Outgoing) → not (is_of (contains []) out) ≡ true
    stays out = by_ticket out.ticket
      where
        by_ticket : (x : Option ℕ) → not (elim x [ Some ticket ↦ contains [] ticket | None ↦ false ]) ≡ true
        by_ticket None = refl
        by_ticket (Some ticket) = refl

    all : (ls : List Link) → map (λ (l : Link). record l { queue = filter (λ (out : Outgoing). not (is_of (contains []) out)) l.queue }) ls ≡ ls
    all [] = refl
    all (l ∷ ls) = ap (λ q. record l { queue = q } ∷ map (λ (m : Link). record m { queue = filter (λ (out : Outgoing). not (is_of (contains []) out)) m.queue }) ls) (filter_all (λ (out : Outgoing). not (is_of (contains []) out)) l.queue (λ out there. stays out)) ∙ ap (λ ms. l ∷ ms) (all ls)

pub none_leaves : (x : Option Request) (b : Box) → leave x [] b ≡ b
none_leaves None b = none_turned phase_completed b
none_leaves (Some r) b = ap (drop_of (contains [])) (none_turned phase_taken_out b) ∙ none_dropped b

none_enters : (x : Option Request) (es : List Effect) (b : Box) → ((r : Request) → filter_map (task_entered r) es ≡ []) → enter_tasks x es b ≡ b
none_enters None es b none = refl
none_enters (Some r) es b none = ap (λ ts. record b { tasks = b.tasks ++ ts }) (none r) ∙ ap (λ ts. record b { tasks = ts }) (append-nil b.tasks)

none_closes : (x : Option Request) (b : Box) → close x [] b ≡ b
none_closes None b = refl
none_closes (Some r) b = refl

-- what such an item shows
pub record IsQuietPart (es : List Effect) (x : Option Request) (y : Option (ℕ × Reply)) : Type 0 where
  pub enables : filter_map ticket_enabled es ≡ []
  pub left : tickets_left es ≡ []
  pub entries : entries_of es ≡ []
  pub entering : (r : Request) → filter_map (task_entered r) es ≡ []
  pub closing : (links : List Link) → flat_map (conns_closed links) es ≡ []
  pub executes : executing es ≡ x
  pub sends : first_of (filter_map reply_sent es) ≡ y

pub quiet_item : (o : Opening) (b : Box) (es : List Effect) (x : Option Request) (y : Option (ℕ × Reply)) → IsQuietPart es x y → after_item o b es ≡ settle o (send o x [] [] [] y b)
quiet_item o b es x y q =
    ap (λ (v : Option Request). by v (tickets_left es) (flat_map (conns_closed b.links) es) (filter_map ticket_enabled es) (first_of (filter_map reply_sent es))) q.executes
    ∙ ap (λ (ts : List ℕ). by x ts (flat_map (conns_closed b.links) es) (filter_map ticket_enabled es) (first_of (filter_map reply_sent es))) q.left
    ∙ ap (λ (cs : List ℕ). by x [] cs (filter_map ticket_enabled es) (first_of (filter_map reply_sent es))) (q.closing b.links)
    ∙ ap (λ (ks : List ℕ). by x [] [] ks (first_of (filter_map reply_sent es))) q.enables
    ∙ ap (λ (v : Option (ℕ × Reply)). by x [] [] [] v) q.sends
    ∙ ap (λ (c : Box). settle o (in_phase phase_enabled [] (send o x [] [] [] y c))) (ap (λ (c : Box). close x [] (enter_tasks x es c)) (none_leaves x b) ∙ ap (close x []) (none_enters x es b q.entering) ∙ none_closes x b)
    ∙ ap (settle o) (none_turned phase_enabled (send o x [] [] [] y b))
  where
    by : Option Request → List ℕ → List ℕ → List ℕ → Option (ℕ × Reply) → Box
    by v ts cs ks w = settle o (in_phase phase_enabled ks (send o v ts cs (newly_closed b cs) w (close v (newly_closed b cs) (enter_tasks v es (leave v ts b)))))

-- nothing at all
pub empty_item : (o : Opening) (b : Box) → IsSound o b → after_item o b [] ≡ b
empty_item o b sound = quiet_item o b [] None None (record { enables = refl; left = refl; entries = refl; entering = λ r. refl; closing = λ links. refl; executes = refl; sends = refl }) ∙ sound.settled

-- ---- commands stay as they are

awaited_tasks : (a : Answer) (b : Box) → (await a b).tasks ≡ b.tasks
awaited_tasks a b = cond_both (list_any (λ (l : Link). l.conn == a.conn && takes_more l) b.links) (record b { undue = b.undue ++ a ∷ [] }) b (λ (x : Box). x.tasks ≡ b.tasks) (λ is. refl) (λ isnt. refl)

sent_as_tasks : (o : Opening) (x : Option Request) (z : Option Aim) (conn : ℕ) (out : Outgoing) (b : Box) → (send_as o x z [] [] conn out b).tasks ≡ b.tasks
sent_as_tasks o None z conn out b = refl
sent_as_tasks o (Some r) None conn out b = refl
sent_as_tasks o (Some r) (Some about) conn out b = awaited_tasks (answer o b r [] [] conn out about) b

pub sent_tasks : (o : Opening) (x : Option Request) (y : Option (ℕ × Reply)) (b : Box) → (send o x [] [] [] y b).tasks ≡ b.tasks
sent_tasks o x None b = refl
sent_tasks o x (Some sent) b = sent_as_tasks o x (aim o x sent.1) sent.0 (outgoing b x [] sent.1) b

pub quiet_tasks : (o : Opening) (b : Box) (es : List Effect) (x : Option Request) (y : Option (ℕ × Reply)) → IsQuietPart es x y → (after_item o b es).tasks ≡ b.tasks
quiet_tasks o b es x y q = ap (λ (c : Box). c.tasks) (quiet_item o b es x y q) ∙ settled_tasks o [] (send o x [] [] [] y b).undue (send o x [] [] [] y b) ∙ sent_tasks o x y b
