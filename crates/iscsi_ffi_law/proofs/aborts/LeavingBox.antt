-- Commands leave in the outbox, by a request that executes: what waits of them is dropped, and then a reply is sent, and others are enabled.
use Rattle.std.proofs.Common.{◌≡◌, ℕ, ◌==◌, ◌&&◌, ◌||◌, cond, Bool, true, false, List, [], ◌∷◌, ◌++◌, filter_map, Option, Some, None, option_map, refl, ap, sym, ◌∙◌, map}
use Rattle.std.specs.List.{cons_option, flat_map, list_any}
use Rattle.std.proofs.lemmas.Bool.{eqb-true, false≢true}
use Rattle.std.proofs.lemmas.List.{append-nil}
use Rattle.iscsi_wire.specs.declared.reply.Reply.{Reply}
use Rattle.iscsi_wire.specs.declared.request.Request.{Request}
use Rattle.iscsi_wire.specs.Fields.{connection_of}
use Rattle.iscsi_rules.specs.declared.effect.Effect.{Effect}
use Rattle.iscsi_rules.specs.declared.effect.Effect.TheVariants.{Deliver, Immediate, Leave, Void}
use Rattle.iscsi_rules.specs.rules.Trace.{Arrival, Command, first_of}
use Rattle.iscsi_rules.proofs.items.Forms.{AfterWaiting, AtArrival, AtTurn, Start}
use Rattle.iscsi_rules.proofs.general.ListLemmas.{list_any-map}
use Rattle.iscsi_outbox_rules.specs.rules.Boxes.{Box, Link, Task}
use Rattle.iscsi_outbox_rules.specs.rules.Calls.{Opening}
use Rattle.iscsi_outbox_rules.specs.rules.Due.{settle}
use Rattle.iscsi_outbox_rules.specs.rules.Items.{after_item, close, conns_closed, enter_tasks, executing, in_phase, leave, newly_closed, phase_enabled, phase_taken_out, reply_sent, send, task_entered, ticket_enabled, ticket_left, tickets_left}
use Rattle.iscsi_outbox_rules.specs.rules.Words.{contains, is_running_phase}
use Rattle.iscsi_ffi_law.proofs.completions.DonePhases.{running_enabled, runs_at, turned, turned_runs}
use Rattle.iscsi_ffi_law.proofs.completions.DoneShape.{enabled_tickets, enables, gives_none, shows_none, tickets_of}
use Rattle.iscsi_ffi_law.proofs.aborts.Leaving.{leave_effects, left_effects}
use Rattle.iscsi_ffi_law.proofs.items.Plain.{send_effects, start_effect, void_effects}
use Rattle.iscsi_ffi_law.proofs.calls.Quiet.{settled_tasks}
use Rattle.iscsi_ffi_law.proofs.items.QuietBox.{sent_tasks}

-- what such an item shows; `cs`: those that leave; `ns`: those that it enables
pub record IsLeavingPart (es : List Effect) (q : Request) (cs ns : List Command) (y : Option (ℕ × Reply)) : Type 0 where
  pub enabled : filter_map ticket_enabled es ≡ tickets_of ns
  pub left : tickets_left es ≡ tickets_of cs
  pub entering : filter_map (task_entered q) es ≡ []
  pub closing : (links : List Link) → flat_map (conns_closed links) es ≡ []
  pub executes : executing es ≡ Some q
  pub sends : first_of (filter_map reply_sent es) ≡ y

-- ---- its effects

-- what is shown by neither the head of an item nor what leaves
module _ {A : Type 0} (f : Effect → Option A) (deliver : (r : Request) → f (Deliver r) ≡ None) (immediate : (r : Request) → f (Immediate r) ≡ None) (voids : (n : ℕ) → f (Void n) ≡ None) where
  past_void : (void : Option ℕ) (rest : List Effect) → filter_map f (void_effects void ++ rest) ≡ filter_map f rest
  past_void None rest = refl
  past_void (Some n) rest = ap (λ x. cons_option x (filter_map f rest)) (voids _)

  past_head : (start : Start) (q : Request) (void : Option ℕ) (rest : List Effect) → filter_map f (start_effect start q ∷ (void_effects void ++ rest)) ≡ filter_map f rest
  past_head AtTurn q void rest = ap (λ x. cons_option x (filter_map f (void_effects void ++ rest))) (deliver q) ∙ past_void void rest
  past_head AtArrival q void rest = ap (λ x. cons_option x (filter_map f (void_effects void ++ rest))) (immediate q) ∙ past_void void rest
  past_head AfterWaiting q void rest = ap (λ x. cons_option x (filter_map f (void_effects void ++ rest))) (immediate q) ∙ past_void void rest

  module _ (leaves : (k u : ℕ) → f (Leave k u) ≡ None) where
    past_leaves : (cs : List Command) (rest : List Effect) → filter_map f (leave_effects cs ++ rest) ≡ filter_map f rest
    past_leaves [] rest = refl
    past_leaves (c ∷ cs) rest = ap (λ x. cons_option x (filter_map f (leave_effects cs ++ rest))) (leaves c.ticket c.unit) ∙ past_leaves cs rest

    pub past_both : (start : Start) (q : Request) (void : Option ℕ) (cs : List Command) (rest : List Effect) → filter_map f (start_effect start q ∷ (void_effects void ++ (leave_effects cs ++ rest))) ≡ filter_map f rest
    past_both start q void cs rest = past_head start q void (leave_effects cs ++ rest) ∙ past_leaves cs rest

leaves_shown : (cs : List Command) (rest : List Effect) → tickets_left (leave_effects cs ++ rest) ≡ tickets_of cs ++ tickets_left rest
leaves_shown [] rest = refl
leaves_shown (c ∷ cs) rest = ap (λ ks. c.ticket ∷ ks) (leaves_shown cs rest)

none_closed : (links : List Link) (start : Start) (q : Request) (void : Option ℕ) (rest : List Effect) → flat_map (conns_closed links) (start_effect start q ∷ (void_effects void ++ rest)) ≡ flat_map (conns_closed links) rest
none_closed links AtTurn q None rest = refl
none_closed links AtTurn q (Some n) rest = refl
none_closed links AtArrival q None rest = refl
none_closed links AtArrival q (Some n) rest = refl
none_closed links AfterWaiting q None rest = refl
none_closed links AfterWaiting q (Some n) rest = refl

none_closed_by : (links : List Link) (cs : List Command) (rest : List Effect) → flat_map (conns_closed links) (leave_effects cs ++ rest) ≡ flat_map (conns_closed links) rest
none_closed_by links [] rest = refl
none_closed_by links (c ∷ cs) rest = none_closed_by links cs rest

executes_it : (start : Start) (q : Request) (rest : List Effect) → executing (start_effect start q ∷ rest) ≡ Some q
executes_it AtTurn q rest = refl
executes_it AtArrival q rest = refl
executes_it AfterWaiting q rest = refl

module _ (conn sn : ℕ) (ns : List Command) where
  enabled_last : (reply : Option Reply) → filter_map ticket_enabled (send_effects conn sn reply ++ enables ns) ≡ tickets_of ns
  enabled_last None = enabled_tickets ns
  enabled_last (Some reply) = enabled_tickets ns

  left_last : (reply : Option Reply) → tickets_left (send_effects conn sn reply ++ enables ns) ≡ []
  left_last None = shows_none ticket_left ns (λ ticket unit. refl)
  left_last (Some reply) = shows_none ticket_left ns (λ ticket unit. refl)

  entering_last : (q : Request) (reply : Option Reply) → filter_map (task_entered q) (send_effects conn sn reply ++ enables ns) ≡ []
  entering_last q None = shows_none (task_entered q) ns (λ ticket unit. refl)
  entering_last q (Some reply) = shows_none (task_entered q) ns (λ ticket unit. refl)

  closed_last : (links : List Link) (reply : Option Reply) → flat_map (conns_closed links) (send_effects conn sn reply ++ enables ns) ≡ []
  closed_last links None = gives_none (conns_closed links) ns (λ ticket unit. refl)
  closed_last links (Some reply) = gives_none (conns_closed links) ns (λ ticket unit. refl)

  sent_last : (reply : Option Reply) → first_of (filter_map reply_sent (send_effects conn sn reply ++ enables ns)) ≡ option_map (λ (x : Reply). (conn, x)) reply
  sent_last None = ap first_of (shows_none reply_sent ns (λ ticket unit. refl))
  sent_last (Some reply) = refl

pub leaving_part : (sn : ℕ) (start : Start) (a : Arrival) (void : Option ℕ) (cs : List Command) (reply : Option Reply) (ns : List Command)
    → IsLeavingPart (left_effects sn start a void cs reply ns) a.request cs ns (option_map (λ (x : Reply). (connection_of a.request, x)) reply)
leaving_part sn start a void cs reply ns = record {
  enabled = past_both ticket_enabled (λ r. refl) (λ r. refl) (λ n. refl) (λ k u. refl) start a.request void cs (send_effects (connection_of a.request) sn reply ++ enables ns) ∙ enabled_last (connection_of a.request) sn ns reply;
  left = past_head ticket_left (λ r. refl) (λ r. refl) (λ n. refl) start a.request void (leave_effects cs ++ (send_effects (connection_of a.request) sn reply ++ enables ns))
      ∙ leaves_shown cs (send_effects (connection_of a.request) sn reply ++ enables ns) ∙ ap (λ ks. tickets_of cs ++ ks) (left_last (connection_of a.request) sn ns reply) ∙ append-nil (tickets_of cs);
  entering = past_both (task_entered a.request) (λ r. refl) (λ r. refl) (λ n. refl) (λ k u. refl) start a.request void cs (send_effects (connection_of a.request) sn reply ++ enables ns) ∙ entering_last (connection_of a.request) sn ns a.request reply;
  closing = λ links. none_closed links start a.request void (leave_effects cs ++ (send_effects (connection_of a.request) sn reply ++ enables ns))
      ∙ none_closed_by links cs (send_effects (connection_of a.request) sn reply ++ enables ns) ∙ closed_last (connection_of a.request) sn ns links reply;
  executes = executes_it start a.request (void_effects void ++ (leave_effects cs ++ (send_effects (connection_of a.request) sn reply ++ enables ns)));
  sends = ap first_of (past_both reply_sent (λ r. refl) (λ r. refl) (λ n. refl) (λ k u. refl) start a.request void cs (send_effects (connection_of a.request) sn reply ++ enables ns)) ∙ sent_last (connection_of a.request) sn ns reply;
}

-- all but those that are taken out run as before
module _ (bs : List Task) (cs : List Command) (n : ℕ) (other : contains (tickets_of cs) n ≡ false) where
  one_same : (t : Task) (v w : Bool) → (t.ticket == n) ≡ v → contains (tickets_of cs) t.ticket ≡ w → runs_at n (cond (contains (tickets_of cs) t.ticket) (record t { phase = phase_taken_out t.phase }) t) ≡ runs_at n t
  one_same t v false is apart = ap (λ x. runs_at n (cond x (record t { phase = phase_taken_out t.phase }) t)) apart
  one_same t true true is among = absurd (false≢true (sym other ∙ ap (contains (tickets_of cs)) (sym (eqb-true t.ticket n is)) ∙ among))
  one_same t false true is among = ap (λ x. runs_at n (cond x (record t { phase = phase_taken_out t.phase }) t)) among ∙ ap (λ x. x && is_running_phase (phase_taken_out t.phase)) is ∙ sym (ap (λ x. x && is_running_phase t.phase) is)

  all_same : (ts : List Task) → list_any (λ (t : Task). runs_at n (turned phase_taken_out (tickets_of cs) t)) ts ≡ list_any (runs_at n) ts
  all_same [] = refl
  all_same (t ∷ ts) = ap (λ v. v || list_any (λ (u : Task). runs_at n (turned phase_taken_out (tickets_of cs) u)) ts) (one_same t (t.ticket == n) (contains (tickets_of cs) t.ticket) refl refl) ∙ ap (λ v. runs_at n t || v) (all_same ts)

  pub taken_runs : list_any (runs_at n) (map (turned phase_taken_out (tickets_of cs)) bs) ≡ list_any (runs_at n) bs
  taken_runs = list_any-map (runs_at n) (turned phase_taken_out (tickets_of cs)) bs ∙ all_same bs

-- ---- the box

-- what waits of them is dropped
abbrev pub left_box : Box → Request → List Command → Box
left_box b q cs = leave (Some q) (tickets_of cs) b

module _ (o : Opening) (b : Box) (q : Request) (cs ns : List Command) (y : Option (ℕ × Reply)) (es : List Effect) (h : IsLeavingPart es q cs ns y) where
  pub leaves_item : after_item o b es ≡ settle o (in_phase phase_enabled (tickets_of ns) (send o (Some q) [] [] [] y (left_box b q cs)))
  leaves_item =
      ap (λ (x : Option Request). by x (tickets_left es) (flat_map (conns_closed b.links) es) (filter_map ticket_enabled es) (first_of (filter_map reply_sent es))) h.executes
      ∙ ap (λ (ts : List ℕ). by (Some q) ts (flat_map (conns_closed b.links) es) (filter_map ticket_enabled es) (first_of (filter_map reply_sent es))) h.left
      ∙ ap (λ (xs : List ℕ). by (Some q) (tickets_of cs) xs (filter_map ticket_enabled es) (first_of (filter_map reply_sent es))) (h.closing b.links)
      ∙ ap (λ (ks : List ℕ). by (Some q) (tickets_of cs) [] ks (first_of (filter_map reply_sent es))) h.enabled
      ∙ ap (λ (x : Option (ℕ × Reply)). by (Some q) (tickets_of cs) [] (tickets_of ns) x) h.sends
      ∙ ap (λ (c : Box). settle o (in_phase phase_enabled (tickets_of ns) (send o (Some q) (tickets_of cs) [] [] y c)))
      (ap (λ (xs : List Task). record (left_box b q cs) { tasks = (left_box b q cs).tasks ++ xs }) h.entering ∙ ap (λ (xs : List Task). record (left_box b q cs) { tasks = xs }) (append-nil (left_box b q cs).tasks))
      ∙ ap (λ (c : Box). settle o (in_phase phase_enabled (tickets_of ns) c)) (sent_so y)
    where
      by : Option Request → List ℕ → List ℕ → List ℕ → Option (ℕ × Reply) → Box
      by x ts xs ks w = settle o (in_phase phase_enabled ks (send o x ts xs (newly_closed b xs) w (close x (newly_closed b xs) (enter_tasks x es (leave x ts b)))))

      -- the reply of a request says nothing of those that leave
      sent_so : (w : Option (ℕ × Reply)) → send o (Some q) (tickets_of cs) [] [] w (left_box b q cs) ≡ send o (Some q) [] [] [] w (left_box b q cs)
      sent_so None = refl
      sent_so (Some sent) = refl

  -- all others run as before
  pub leaves_runs : (n : ℕ) → contains (tickets_of cs) n ≡ false → list_any (runs_at n) (after_item o b es).tasks ≡ list_any (runs_at n) b.tasks
  leaves_runs n other =
      ap (λ (c : Box). list_any (runs_at n) c.tasks) leaves_item
      ∙ ap (list_any (runs_at n)) (settled_tasks o [] sent_box.undue sent_box)
      ∙ turned_runs phase_enabled (tickets_of ns) n (send o (Some q) [] [] [] y (left_box b q cs)).tasks running_enabled
      ∙ ap (list_any (runs_at n)) (sent_tasks o (Some q) y (left_box b q cs))
      ∙ taken_runs b.tasks cs n other
    where
      sent_box : Box
      sent_box = in_phase phase_enabled (tickets_of ns) (send o (Some q) [] [] [] y (left_box b q cs))
