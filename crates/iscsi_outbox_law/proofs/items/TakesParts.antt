-- The parts of an item up to its closes: commands leave, commands enter, connections are closed.
use Rattle.std.proofs.Common.{◌≡◌, ℕ, ◌+◌, ◌*◌, ◌<◌, ◌≤◌, ◌==◌, ◌||◌, ◌&&◌, not, cond, true, false, List, [], ◌∷◌, ◌++◌, length, filter_map, Option, Some, None, refl, ap, sym, subst, ◌∙◌, arith}
use Rattle.std.proofs.lemmas.List.{length-map}
use Rattle.std.specs.List.{list_any}
use Rattle.iscsi_wire.specs.declared.request.Request.{Request}
use Rattle.iscsi_wire.specs.Fields.{connection_of}
use Rattle.iscsi_rules.specs.declared.effect.Effect.{Effect}
use Rattle.iscsi_rules.specs.rules.Settings.{are_distinct, is_known}
use Rattle.iscsi_outbox_rules.specs.rules.Calls.{Opening}
use Rattle.iscsi_outbox_rules.specs.rules.Boxes.{Task, Answer, Link, Box}
use Rattle.iscsi_outbox_rules.specs.rules.Words.{contains}
use Rattle.iscsi_outbox_rules.specs.rules.Queues.{takes_more}
use Rattle.iscsi_outbox_rules.specs.rules.Items.{close as close_box, closed_in as closed_in_box, enter_tasks, leave as leave_box, newly_closed as newly_closed_box, phase_taken_out, task_entered}
use Rattle.iscsi_outbox_rules.specs.promises.Room.{places as places_of, tasks_kept}
use Rattle.iscsi_outbox_state.specs.Lane.{any_in as any_stands, has_left, is_command}
use Rattle.iscsi_outbox_state.specs.Waits.{dropped_of}
use Rattle.iscsi_outbox_steps.specs.State.{State, place_of, places}
use Rattle.iscsi_outbox_steps.specs.Steps.{close, close_each, closed_in, completed, enter_commands, is_started, leave, leave_one, live_command, newly_closed, taken_out}
use Rattle.iscsi_tracked.specs.declared.command.Command.{Command}
use Rattle.iscsi_tracked.specs.declared.command.Phase.TheVariants.{Running, Gone}
use Rattle.iscsi_tracked.specs.Tracked.{in_phase, is_out, removed}
use Rattle.iscsi_outbox_law.specs.private.Pairs.{EachOf, InOrder, place_in}
use Rattle.iscsi_outbox_law.specs.private.Commands.{is_under_way}
use Rattle.iscsi_outbox_law.specs.private.Sound.{HasHome, IsAnswerSound, IsLinkSound, IsSound, entries_of, is_live_in}
use Rattle.iscsi_outbox_law.specs.private.Stands.{Stands}
use Rattle.iscsi_outbox_law.proofs.general.PairLemmas.{each-map, each-weaken}
use Rattle.iscsi_outbox_law.proofs.connections.Standing.{cids_are, links_apart}
use Rattle.iscsi_outbox_law.proofs.calls.Calm.{calm}
use Rattle.iscsi_outbox_law.proofs.items.TakesLeaves.{IsReady, leave_stands, ready_leave, turned_by, turned_ticket}
use Rattle.iscsi_outbox_law.proofs.items.TakesClosed.{closes_are}
use Rattle.iscsi_outbox_law.proofs.items.TakesClosing.{closes_from}
use Rattle.iscsi_outbox_law.proofs.items.TakesEnters.{AreHome, enters_from, place_known}
use Rattle.iscsi_outbox_law.proofs.items.TakesFacts.{leave_homes}
use Rattle.iscsi_outbox_law.proofs.items.TakesKept.{commands_kept, kept_entered, kept_is, kept_of, order_entered, tasks_entered}
use Rattle.iscsi_outbox_law.proofs.items.TakesReady.{ready_closes, ready_enters}

-- ---- the last ticket stays as commands leave

last_one : (r : Option Request) (k : ℕ) (s : State) → (leave_one r k s).tracked.last ≡ s.tracked.last
last_one r k s = by_found (live_command s k) r
  where
    by_found : (x : Option Command) (y : Option Request)
        → (elim x as (λ (z : Option Command). State) [ Some c ↦ elim y as (λ (w : Option Request). State) [ Some request ↦ taken_out c s | None ↦ completed c s ] | None ↦ s ]).tracked.last ≡ s.tracked.last
    by_found None y = refl
    by_found (Some c) None = refl
    by_found (Some c) (Some request) =
        elim ((is_started c || is_out c) && not (any_stands (is_command c.place) s.lane)) as (λ v. (cond v
        (record s {
          waits = dropped_of c.place s.waits;
          lane = has_left (record { command = c.place; conn = c.conn; unit = c.unit; tag = c.tag; running = is_started c; under_way = is_out c }) s.lane;
          tracked = in_phase (cond (is_started c) Running Gone) c.place s.tracked;
        }) (record s { waits = dropped_of c.place s.waits; tracked = removed c.place s.tracked })).tracked.last ≡ s.tracked.last) [ true ↦ refl | false ↦ refl ]

last_leave : (r : Option Request) (tickets : List ℕ) (s : State) → (leave r tickets s).tracked.last ≡ s.tracked.last
last_leave r [] s = refl
last_leave r (k ∷ tickets) s = last_leave r tickets (leave_one r k s) ∙ last_one r k s

-- ---- the parts

module _ (o : Opening) (s : State) (b : Box) (h : Stands o s b) (sound : IsSound o b) (distinct : are_distinct o.session.conns ≡ true) (item : List Effect) (tickets : List ℕ) (left : EachOf (λ k. is_live_in b k ≡ true) tickets) where
  pub ready_now : IsReady o b
  ready_now = record {
    calm = calm o s b h sound distinct;
    taken = each-weaken (IsAnswerSound b) (λ (a : Answer). list_any (λ (l : Link). l.conn == a.conn && takes_more l) b.links ≡ true) b.undue (λ a k. k.taken) sound.undue;
  }

  homes : AreHome b.tasks b.links
  homes = record { handed = sound.homes.handed; queued = each-weaken (IsLinkSound o b.tasks) (λ (l : Link). EachOf (HasHome b.tasks l.conn) l.queue) b.links (λ l k. k.queued) sound.links }

  pub left_stands : (r : Option Request) → Stands o (leave r tickets s) (leave_box r tickets b)
  left_stands r = leave_stands o r b ready_now s tickets h left

  pub left_ready : (r : Option Request) → IsReady o (leave_box r tickets b)
  left_ready r = ready_leave o r tickets b ready_now

  module _ (above : EachOf (λ (e : ℕ × ℕ). EachOf (λ (t : Task). t.ticket < e.0) b.tasks × (e.1 < o.session.units)) (entries_of item)) (ascending : InOrder (λ (d e : ℕ × ℕ). d.0 < e.0) (entries_of item))
      (newest : EachOf (λ (e : ℕ × ℕ). s.tracked.last < e.0) (entries_of item)) where
    -- with a request that executes
    module _ (x : Request) (known : is_known (connection_of x) o.session.conns ≡ true) (few : tasks_kept o (enter_tasks (Some x) item (leave_box (Some x) tickets b)) ≤ places_of o) where
      abbrev b1 : Box
      b1 = leave_box (Some x) tickets b

      abbrev s1 : State
      s1 = leave (Some x) tickets s

      above_left : EachOf (λ (e : ℕ × ℕ). EachOf (λ (t : Task). t.ticket < e.0) b1.tasks × (e.1 < o.session.units)) (entries_of item)
      above_left =
          each-weaken (λ (e : ℕ × ℕ). EachOf (λ (t : Task). t.ticket < e.0) b.tasks × (e.1 < o.session.units)) (λ (e : ℕ × ℕ). EachOf (λ (t : Task). t.ticket < e.0) b1.tasks × (e.1 < o.session.units)) (entries_of item)
          (λ e k. (each-map (λ (t : Task). t.ticket < e.0) (λ (t : Task). t.ticket < e.0) (turned_by phase_taken_out (contains tickets)) b.tasks (λ t lt. omega (arith, lt, turned_ticket phase_taken_out (contains tickets) t)) k.0, k.1)) above

      room_there : length s1.tracked.commands + length (entries_of item) ≤ s1.tracked.room
      room_there =
          let h1 = left_stands (Some x) in
          let e = commands_kept o s1 b1 h1 in
          let f = kept_entered (is_under_way o b1.links) x b1.tasks (entries_of item) in
          let g = kept_is o (enter_tasks (Some x) item b1) ∙ ap (λ ts. kept_of (is_under_way o b1.links) (b1.tasks ++ ts)) (tasks_entered x item) in
          let many : s1.tracked.room ≡ places_of o = h1.sizes.commands ∙ ap places h1.sizes.limits ∙ ap (λ n. 3 * (o.session.window + 12 * n)) (length-map o.session.conns (λ (c : ℕ × ℕ). c.0)) in
          omega (arith, e, f, g, many, few)

      entered_both : Stands o (enter_commands (Some x) item s1) (enter_tasks (Some x) item b1)
      entered_both = enters_from o x known item s1 b1 (left_stands (Some x)) (leave_homes (Some x) tickets b homes) (record {
        above = above_left;
        ascending = ascending;
        newest = subst (λ n. EachOf (λ (e : ℕ × ℕ). n < e.0) (entries_of item)) (sym (last_leave (Some x) tickets s)) newest;
        room = room_there;
      })

      entered_ready : IsReady o (enter_tasks (Some x) item b1)
      entered_ready = ready_enters o b1 (filter_map (task_entered x) item) (left_ready (Some x))
          (subst (λ ts. InOrder (λ (t u : Task). t.ticket < u.ticket) (b1.tasks ++ ts)) (sym (tasks_entered x item))
          (order_entered x b1.tasks (entries_of item) (left_ready (Some x)).calm.homes.ascending
          (each-weaken (λ (e : ℕ × ℕ). EachOf (λ (t : Task). t.ticket < e.0) b1.tasks × (e.1 < o.session.units)) (λ (e : ℕ × ℕ). EachOf (λ (t : Task). t.ticket < e.0) b1.tasks) (entries_of item) (λ e k. k.0) above_left) ascending))

      -- what the item closes
      closed_both : Stands o (close (Some x) (newly_closed s (closed_in s item)) (enter_commands (Some x) item s1)) (close_box (Some x) (newly_closed_box b (closed_in_box b item)) (enter_tasks (Some x) item b1))
      closed_both =
          let s2 = enter_commands (Some x) item s1 in
          let b2 = enter_tasks (Some x) item b1 in
          let same : s2.limits.cids ≡ s.limits.cids = cids_are (is_under_way o b2.links) o s2 b2 entered_both ∙ sym (cids_are (is_under_way o b.links) o s b h) in
          let at = place_known o s b h (connection_of x) known in
          let there : place_of s2 (connection_of x) ≡ Some at.0 = ap (λ cs. place_in cs (connection_of x)) same ∙ at.1 in
          subst (λ (y : Option ℕ). Stands o (elim y as (λ (z : Option ℕ). State) [ Some by ↦ close_each by (newly_closed s (closed_in s item)) s2 | None ↦ s2 ]) (close_box (Some x) (newly_closed_box b (closed_in_box b item)) b2)) (sym there)
          (subst (λ ps. Stands o (close_each at.0 ps s2) (close_box (Some x) (newly_closed_box b (closed_in_box b item)) b2)) (sym (closes_are o s b h (links_apart (is_under_way o b.links) o s b h distinct) item))
          (closes_from o distinct s.limits.cids (connection_of x) at.0 at.1 (newly_closed_box b (closed_in_box b item)) s2 b2 entered_both same))

    -- commands leave, commands enter, and connections are closed
    pub closed_stands : (r : Option Request) → ((x : Request) → r ≡ Some x → is_known (connection_of x) o.session.conns ≡ true) → tasks_kept o (enter_tasks r item (leave_box r tickets b)) ≤ places_of o
        → Stands o (close r (newly_closed s (closed_in s item)) (enter_commands r item (leave r tickets s))) (close_box r (newly_closed_box b (closed_in_box b item)) (enter_tasks r item (leave_box r tickets b)))
    closed_stands None known few = left_stands None
    closed_stands (Some x) known few = closed_both x (known x refl) few

    pub closed_ready : (r : Option Request) → ((x : Request) → r ≡ Some x → is_known (connection_of x) o.session.conns ≡ true) → tasks_kept o (enter_tasks r item (leave_box r tickets b)) ≤ places_of o
        → IsReady o (close_box r (newly_closed_box b (closed_in_box b item)) (enter_tasks r item (leave_box r tickets b)))
    closed_ready None known few = left_ready None
    closed_ready (Some x) known few = ready_closes o (connection_of x) (newly_closed_box b (closed_in_box b item)) (enter_tasks (Some x) item (leave_box (Some x) tickets b)) (entered_ready x (known x refl) few)
