-- A Logout closes connections in the outbox: the one on which it came takes more still, and nothing that waits there is dropped.
use Rattle.std.proofs.Common.{◌≡◌, ℕ, ◌<◌, ◌==◌, cond, true, List, [], ◌∷◌, ◌++◌, length, filter_map, Option, Some, None, refl, ap, sym, subst, ◌∙◌, ◌&&◌, false}
use Rattle.iscsi_wire.specs.Fields.{connection_of}
use Rattle.iscsi_ffi_law.proofs.calls.Quiet.{settled_tasks}
use Rattle.iscsi_ffi_law.proofs.completions.DonePhases.{running_enabled, runs_at, turned_runs}
use Rattle.iscsi_outbox_rules.specs.rules.Words.{contains}
use Rattle.iscsi_ffi_law.specs.Parts.{IsQueued}
use Rattle.iscsi_requests.specs.declared.replies.WaitingReply.{WaitingReply}
use Rattle.iscsi_outbox_law.proofs.general.PlaceLemmas.{AreApart}
use Rattle.iscsi_outbox_law.proofs.general.PairLemmas.{each-weaken}
use Rattle.std.specs.List.{flat_map, list_any}
use Rattle.std.proofs.lemmas.Bool.{cond_both}
use Rattle.std.proofs.lemmas.List.{append-nil, length-map}
use Rattle.iscsi_wire.specs.declared.reply.Reply.{Reply}
use Rattle.iscsi_wire.specs.declared.request.Request.{Request}
use Rattle.iscsi_rules.specs.declared.effect.Effect.{Effect}
use Rattle.iscsi_rules.specs.rules.Trace.{Command, Trace, first_of}
use Rattle.iscsi_outbox_rules.specs.rules.Boxes.{Answer, Box, Link, Task, Aim}
use Rattle.iscsi_outbox_rules.specs.rules.Calls.{Opening}
use Rattle.iscsi_outbox_rules.specs.rules.Due.{settle}
use Rattle.iscsi_outbox_rules.specs.rules.Items.{after_item, aim, answer, close, close_all, close_one, conns_closed, enter_tasks, executing, in_phase, leave, newly_closed, outgoing, phase_enabled, reply_sent, send, send_as, task_entered, ticket_enabled, tickets_left}
use Rattle.iscsi_outbox_rules.specs.rules.Queues.{at_link, drop_on, takes_more}
use Rattle.iscsi_outbox_law.specs.private.Commands.{link_in}
use Rattle.iscsi_ffi_law.specs.Names.{Name}
use Rattle.iscsi_ffi_law.proofs.completions.DoneShape.{tickets_of}
use Rattle.iscsi_ffi_law.proofs.aborts.LeavingBox.{left_box, taken_runs}
use Rattle.iscsi_ffi_law.proofs.sending.Queued.{AllQueued, SameOut, link_map, any_map, conns_map, is_taking}

-- what such an item shows; `cs`: those that leave; `ns`: those that it enables; `conns`: those that it closes
pub record IsPartingPart (links : List Link) (es : List Effect) (q : Request) (cs ns : List Command) (y : Option (ℕ × Reply)) (conns : List ℕ) : Type 0 where
  pub enabled : filter_map ticket_enabled es ≡ tickets_of ns
  pub left : tickets_left es ≡ tickets_of cs
  pub entering : filter_map (task_entered q) es ≡ []
  pub closing : flat_map (conns_closed links) es ≡ conns
  pub executes : executing es ≡ Some q
  pub sends : first_of (filter_map reply_sent es) ≡ y

-- it is closed
abbrev pub shut : Link → Link
shut l = record l { closed = true }

-- commands run on as they did
closed_tasks : (by : ℕ) (cs : List ℕ) (b : Box) → (close_all by cs b).tasks ≡ b.tasks
closed_tasks by [] b = refl
closed_tasks by (c ∷ cs) b =
    closed_tasks by cs (close_one by c b)
    ∙ cond_both (c == by) (record b { links = at_link c (λ (l : Link). record l { closed = true }) b.links }) (drop_on c (record b { links = at_link c (λ (l : Link). record l { closed = true; cut = true }) b.links })) (λ (x : Box). x.tasks ≡ b.tasks) (λ is. refl) (λ isnt. refl)

module _ (o : Opening) (b : Box) (q : Request) (cs ns : List Command) (y : Option (ℕ × Reply)) (conns : List ℕ) (es : List Effect) (h : IsPartingPart b.links es q cs ns y conns) where
  abbrev closes : List ℕ
  closes = newly_closed b conns

  pub parting_item : after_item o b es ≡ settle o (in_phase phase_enabled (tickets_of ns) (send o (Some q) [] conns (newly_closed b conns) y (close (Some q) (newly_closed b conns) (left_box b q cs))))
  parting_item =
      ap (λ (x : Option Request). by x (tickets_left es) (flat_map (conns_closed b.links) es) (filter_map ticket_enabled es) (first_of (filter_map reply_sent es))) h.executes
      ∙ ap (λ (ts : List ℕ). by (Some q) ts (flat_map (conns_closed b.links) es) (filter_map ticket_enabled es) (first_of (filter_map reply_sent es))) h.left
      ∙ ap (λ (xs : List ℕ). by (Some q) (tickets_of cs) xs (filter_map ticket_enabled es) (first_of (filter_map reply_sent es))) h.closing
      ∙ ap (λ (ks : List ℕ). by (Some q) (tickets_of cs) conns ks (first_of (filter_map reply_sent es))) h.enabled
      ∙ ap (λ (x : Option (ℕ × Reply)). by (Some q) (tickets_of cs) conns (tickets_of ns) x) h.sends
      ∙ ap (λ (c : Box). settle o (in_phase phase_enabled (tickets_of ns) (send o (Some q) (tickets_of cs) conns closes y (close (Some q) closes c))))
      (ap (λ (xs : List Task). record (left_box b q cs) { tasks = (left_box b q cs).tasks ++ xs }) h.entering ∙ ap (λ (xs : List Task). record (left_box b q cs) { tasks = xs }) (append-nil (left_box b q cs).tasks))
      ∙ ap (λ (c : Box). settle o (in_phase phase_enabled (tickets_of ns) c)) (sent_so y (close (Some q) closes (left_box b q cs)))
    where
      by : Option Request → List ℕ → List ℕ → List ℕ → Option (ℕ × Reply) → Box
      by x ts xs ks w = settle o (in_phase phase_enabled ks (send o x ts xs (newly_closed b xs) w (close x (newly_closed b xs) (enter_tasks x es (leave x ts b)))))

      -- the reply of a request says nothing of those that leave
      sent_so : (w : Option (ℕ × Reply)) (c : Box) → send o (Some q) (tickets_of cs) conns closes w c ≡ send o (Some q) [] conns closes w c
      sent_so None c = refl
      sent_so (Some sent) c = refl

-- ---- what waits

shut_links : (by : ℕ) (l : Link) → SameOut l (cond (l.conn == by) (shut l) l)
shut_links by l = cond_both (l.conn == by) (shut l) l (SameOut l) (λ is. record { conn = refl; takes = refl; left = refl }) (λ isnt. record { conn = refl; takes = refl; left = refl })

-- each connection goes out as before
pub shut_out : (by : ℕ) (links : List Link) (p : ℕ) → p < length links → SameOut (link_in links p) (link_in (at_link by shut links) p)
shut_out by links p within = subst (SameOut (link_in links p)) (sym (link_map (λ (l : Link). cond (l.conn == by) (shut l) l) links p within)) (shut_links by (link_in links p))

-- .. and what waits there waits still
pub all_shut : (names : List Name) (t : Trace) (answers : List ℕ) (replies : ℕ → List WaitingReply) (noted : ℕ → ℕ) (by : ℕ) (links : List Link) (undue : List Answer) → AllQueued names t answers replies noted links undue → AllQueued names t answers replies noted (at_link by shut links) undue
all_shut names t answers replies noted by links undue h = record {
  queued = λ p within. subst (IsQueued names t answers undue (replies p) (noted p)) (sym (link_map (λ (l : Link). cond (l.conn == by) (shut l) l) links p (short p within))) (one_shut (link_in links p) (replies p) (noted p) (h.queued p (short p within)));
  undue_are = h.undue_are;
  taken = each-weaken (λ (a : Answer). list_any (is_taking a.conn) links ≡ true) (λ (a : Answer). list_any (is_taking a.conn) (at_link by shut links) ≡ true) undue (λ a is. any_map (is_taking a.conn) (λ (l : Link). cond (l.conn == by) (shut l) l) links (taking a.conn) ∙ is) h.taken;
  apart = subst AreApart (sym (conns_map (λ (l : Link). cond (l.conn == by) (shut l) l) links same_conn)) h.apart;
}
  where
    short : (p : ℕ) → p < length (at_link by shut links) → p < length links
    short p within = subst (λ n. p < n) (length-map links (λ (l : Link). cond (l.conn == by) (shut l) l)) within

    one_shut : (l : Link) (rs : List WaitingReply) (n : ℕ) → IsQueued names t answers undue rs n l → IsQueued names t answers undue rs n (cond (l.conn == by) (shut l) l)
    one_shut l rs n q = cond_both (l.conn == by) (shut l) l (IsQueued names t answers undue rs n) (λ is. record { sent = q.sent; noting = q.noting; known = q.known; covered = q.covered }) (λ isnt. q)

    taking : (conn : ℕ) (l : Link) → is_taking conn (cond (l.conn == by) (shut l) l) ≡ is_taking conn l
    taking conn l = cond_both (l.conn == by) (shut l) l (λ (m : Link). is_taking conn m ≡ is_taking conn l) (λ is. refl) (λ isnt. refl)

    same_conn : (l : Link) → (cond (l.conn == by) (shut l) l).conn ≡ l.conn
    same_conn l = cond_both (l.conn == by) (shut l) l (λ (m : Link). m.conn ≡ l.conn) (λ is. refl) (λ isnt. refl)

module _ (o : Opening) (b : Box) (q : Request) (cs ns : List Command) (y : Option (ℕ × Reply)) (conns : List ℕ) (es : List Effect) (h : IsPartingPart b.links es q cs ns y conns) where
  -- the outbox with them gone, and with what it closes closed
  abbrev parted_box : Box
  parted_box = close_all (connection_of q) (newly_closed b conns) (left_box b q cs)

  sent_as : (w : Option (ℕ × Reply)) (c : Box) → (send o (Some q) [] conns (newly_closed b conns) w c).tasks ≡ c.tasks
  sent_as None c = refl
  sent_as (Some sent) c = by_aim (aim o (Some q) sent.1)
    where
      by_aim : (z : Option Aim) → (send_as o (Some q) z conns (newly_closed b conns) sent.0 (outgoing c (Some q) [] sent.1) c).tasks ≡ c.tasks
      by_aim None = refl
      by_aim (Some about) = cond_both (list_any (λ (l : Link). l.conn == sent.0 && takes_more l) c.links) (record c { undue = c.undue ++ answer o c q conns (newly_closed b conns) sent.0 (outgoing c (Some q) [] sent.1) about ∷ [] }) c (λ (d : Box). d.tasks ≡ c.tasks) (λ is. refl) (λ isnt. refl)

  -- all others run as before
  pub parts_runs : (n : ℕ) → contains (tickets_of cs) n ≡ false → list_any (runs_at n) (after_item o b es).tasks ≡ list_any (runs_at n) b.tasks
  parts_runs n other =
      ap (λ (c : Box). list_any (runs_at n) c.tasks) (parting_item o b q cs ns y conns es h)
      ∙ ap (list_any (runs_at n)) (settled_tasks o [] sent_box.undue sent_box)
      ∙ turned_runs phase_enabled (tickets_of ns) n (send o (Some q) [] conns (newly_closed b conns) y parted_box).tasks running_enabled
      ∙ ap (list_any (runs_at n)) (sent_as y parted_box ∙ closed_tasks (connection_of q) (newly_closed b conns) (left_box b q cs))
      ∙ taken_runs b.tasks cs n other
    where
      sent_box : Box
      sent_box = in_phase phase_enabled (tickets_of ns) (send o (Some q) [] conns (newly_closed b conns) y parted_box)
