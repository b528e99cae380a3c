-- What an item that a session gives says of its parts.
use Rattle.std.proofs.Common.{◌≡◌, ℕ, ◌<◌, ◌==◌, ◌&&◌, ◌||◌, not, cond, Bool, true, false, List, [], ◌∷◌, filter, filter_map, Option, Some, None, refl, ap, sym, ◌∙◌, eq-eqb}
use Rattle.std.specs.List.{list_any}
use Rattle.std.proofs.lemmas.Bool.{and_from, and_parts, eqb-true, false≢true, true≢false}
use Rattle.iscsi_wire.specs.declared.reply.Reply.{Reply}
use Rattle.iscsi_wire.specs.declared.request.Request.{Request}
use Rattle.iscsi_rules.specs.declared.effect.Effect.{Effect}
use Rattle.iscsi_rules.specs.declared.effect.Effect.TheVariants.{Deliver, Immediate, Wait, Void, Empty, Enter, Enable, Leave, Send, CloseConn, CloseSession, Ignore}
use Rattle.iscsi_rules.specs.rules.Trace.{first_of}
use Rattle.iscsi_outbox_rules.specs.rules.Calls.{Opening}
use Rattle.iscsi_outbox_rules.specs.rules.Boxes.{AtConns, Task, Handed, Link, Box}
use Rattle.iscsi_outbox_rules.specs.rules.Words.{contains, is_live_phase, is_of}
use Rattle.iscsi_outbox_rules.specs.rules.Queues.{without}
use Rattle.iscsi_outbox_rules.specs.rules.Items.{aim as aim_box, closed_in as closed_in_box, executing, is_numbered as is_numbered_box, leave as leave_box, newly_closed as newly_closed_box, phase_completed, phase_taken_out, reply_sent}
use Rattle.iscsi_outbox_steps.specs.State.{State}
use Rattle.iscsi_outbox_steps.specs.Steps.{is_live, is_numbered}
use Rattle.iscsi_tracked.specs.declared.command.Command.{Command}
use Rattle.iscsi_tracked.specs.Tracked.{find_ticket}
use Rattle.iscsi_outbox_law.specs.private.Pairs.{EachOf, InOrder}
use Rattle.iscsi_outbox_law.specs.private.Links.{place_of_command}
use Rattle.iscsi_outbox_law.specs.private.Commands.{IsCommand, is_kept, is_under_way}
use Rattle.iscsi_outbox_law.specs.private.Sound.{HasHome, IsItemSound, is_close, is_live_in}
use Rattle.iscsi_outbox_law.specs.private.Stands.{Stands}
use Rattle.iscsi_outbox_law.proofs.general.PairLemmas.{each-filter, each-map, each-weaken}
use Rattle.iscsi_outbox_law.proofs.general.Members.{In, any_found, any_from, each-in, find_in, in_filter, pair_of, same_tests}
use Rattle.iscsi_outbox_law.proofs.commands.Homes.{one_task}
use Rattle.iscsi_outbox_law.proofs.items.TakesLeaving.{live_found, live_none}
use Rattle.iscsi_outbox_law.proofs.items.TakesLeaves.{home_turned}
use Rattle.iscsi_outbox_law.proofs.items.TakesEnters.{AreHome}

-- ---- homes, once commands left

leave_homes_of : (r : Option Request) (tickets : List ℕ) (b : Box) → AreHome b.tasks b.links → AreHome (leave_box r tickets b).tasks (leave_box r tickets b).links
leave_homes_of (Some r) tickets b k = record {
  handed = each-map (λ (l : Link). EachOf (λ (g : Handed). HasHome b.tasks l.conn g.out) l.handed) (λ (l : Link). EachOf (λ (g : Handed). HasHome (leave_box (Some r) tickets b).tasks l.conn g.out) l.handed) (without (contains tickets)) b.links
      (λ l j. each-weaken (λ (g : Handed). HasHome b.tasks l.conn g.out) (λ (g : Handed). HasHome (leave_box (Some r) tickets b).tasks l.conn g.out) l.handed (λ g i. home_turned phase_taken_out (contains tickets) l.conn b.tasks (g.out.ticket) i) j) k.handed;
  queued = each-map (λ (l : Link). EachOf (HasHome b.tasks l.conn) l.queue) (λ (l : Link). EachOf (HasHome (leave_box (Some r) tickets b).tasks l.conn) l.queue) (without (contains tickets)) b.links
      (λ l j. each-filter (HasHome (leave_box (Some r) tickets b).tasks l.conn) (λ out. not (is_of (contains tickets) out)) l.queue
      (each-weaken (HasHome b.tasks l.conn) (HasHome (leave_box (Some r) tickets b).tasks l.conn) l.queue (λ out i. home_turned phase_taken_out (contains tickets) l.conn b.tasks (out.ticket) i) j)) k.queued;
}
leave_homes_of None tickets b k = record {
  handed = each-weaken (λ (l : Link). EachOf (λ (g : Handed). HasHome b.tasks l.conn g.out) l.handed) (λ (l : Link). EachOf (λ (g : Handed). HasHome (leave_box None tickets b).tasks l.conn g.out) l.handed) b.links
      (λ l j. each-weaken (λ (g : Handed). HasHome b.tasks l.conn g.out) (λ (g : Handed). HasHome (leave_box None tickets b).tasks l.conn g.out) l.handed (λ g i. home_turned phase_completed (contains tickets) l.conn b.tasks (g.out.ticket) i) j) k.handed;
  queued = each-weaken (λ (l : Link). EachOf (HasHome b.tasks l.conn) l.queue) (λ (l : Link). EachOf (HasHome (leave_box None tickets b).tasks l.conn) l.queue) b.links
      (λ l j. each-weaken (HasHome b.tasks l.conn) (HasHome (leave_box None tickets b).tasks l.conn) l.queue (λ out i. home_turned phase_completed (contains tickets) l.conn b.tasks (out.ticket) i) j) k.queued;
}

pub leave_homes : (r : Option Request) (tickets : List ℕ) (b : Box) → AreHome b.tasks b.links → AreHome (leave_box r tickets b).tasks (leave_box r tickets b).links
leave_homes = leave_homes_of

-- ---- closes

none_closes : (b : Box) (item : List Effect) → list_any is_close item ≡ false → closed_in_box b item ≡ []
none_closes b [] none = refl
none_closes b (Deliver r ∷ item) none = none_closes b item none
none_closes b (Immediate r ∷ item) none = none_closes b item none
none_closes b (Wait r ∷ item) none = none_closes b item none
none_closes b (Void sn ∷ item) none = none_closes b item none
none_closes b (Empty sn ∷ item) none = none_closes b item none
none_closes b (Enter ticket unit attr ∷ item) none = none_closes b item none
none_closes b (Enable ticket unit ∷ item) none = none_closes b item none
none_closes b (Leave ticket unit ∷ item) none = none_closes b item none
none_closes b (Send conn stat_sn reply ∷ item) none = none_closes b item none
none_closes b (CloseConn conn ∷ item) none = absurd (true≢false none)
none_closes b (CloseSession ∷ item) none = absurd (true≢false none)
none_closes b (Ignore why ∷ item) none = none_closes b item none

-- what closes is a Logout's
pub closes_logout : (o : Opening) (b : Box) (item : List Effect) → IsItemSound o b item → (conn : ℕ) (reply : Reply) → first_of (filter_map reply_sent item) ≡ Some (conn, reply)
    → contains (newly_closed_box b (closed_in_box b item)) conn ≡ true → aim_box o (executing item) reply ≡ Some AtConns
closes_logout o b item sound conn reply sent some = by_close (list_any is_close item) refl
  where
    by_close : (w : Bool) → list_any is_close item ≡ w → aim_box o (executing item) reply ≡ Some AtConns
    by_close false none = absurd (false≢true (sym (ap (λ cs. contains (newly_closed_box b cs) conn) (none_closes b item none)) ∙ some))
    by_close true any = let k = sound.closing conn reply sent any in ap (λ x. aim_box o x reply) k.1 ∙ k.2

-- ---- the command that completes

-- nothing that waits is of a command that doesn't live
pub none_placed : (o : Opening) (s : State) (b : Box) → Stands o s b → (tickets : List ℕ) → ((k : ℕ) → contains tickets k ≡ true → is_live_in b k ≡ false) → place_of_command s.tracked (first_of tickets) ≡ None
none_placed o s b h [] dead = refl
none_placed o s b h (k ∷ tickets) dead = by_found (find_ticket k s.tracked) (live_none o s b h k (dead k (ap (λ (w : Bool). w || contains tickets k) (eq-eqb k k refl))))
  where
    by_found : (x : Option Command) → (elim x as (λ (y : Option Command). Option Command) [ Some c ↦ cond (is_live c) (Some c) None | None ↦ None ]) ≡ None
        → (elim x as (λ (y : Option Command). Option ℕ) [ Some c ↦ cond (is_live c) (Some c.place) None | None ↦ None ]) ≡ None
    by_found None is = refl
    by_found (Some c) is = by_live (is_live c) is
      where
        by_live : (w : Bool) → cond w (Some c) None ≡ None → cond w (Some c.place) None ≡ None
        by_live true e = absurd cc
        by_live false e = refl

-- ---- whether a reply is numbered

module _ (o : Opening) (s : State) (b : Box) (h : Stands o s b) (ascending : InOrder (λ (t u : Task). t.ticket < u.ticket) b.tasks) (tickets : List ℕ) (live : EachOf (λ k. is_live_in b k ≡ true) tickets) where
  abbrev told : ℕ → Bool
  told ticket = elim (find_ticket ticket s.tracked) as (λ (x : Option Command). Bool) [ Some c ↦ c.numbered | None ↦ false ]

  numbered_of : (k : ℕ) (t : Task) → is_live_in b k ≡ true → In t b.tasks → t.ticket ≡ k → told k ≡ t.numbered
  numbered_of k t lives at is =
      let c = live_found o s b h k lives in
      let f = find_in (λ (x : Command). x.ticket == k) s.tracked.commands c.0 c.1 in
      let p : (u : Task) × In u (filter (is_kept (is_under_way o b.links)) b.tasks) × IsCommand (is_under_way o b.links) s.limits.cids b.links c.0 u =
      pair_of (IsCommand (is_under_way o b.links) s.limits.cids b.links) s.tracked.commands (filter (is_kept (is_under_way o b.links)) b.tasks) c.0 f.0 h.commands in
      let same : p.0 ≡ t = one_task b.tasks p.0 t ascending (in_filter (is_kept (is_under_way o b.links)) b.tasks p.0 p.1).0 at (sym p.2.ticket ∙ eqb-true c.0.ticket k f.1 ∙ sym is) in
      ap (λ (x : Option Command). elim x as (λ (y : Option Command). Bool) [ Some d ↦ d.numbered | None ↦ false ]) c.1 ∙ p.2.numbered ∙ ap (λ (u : Task). u.numbered) same

  pub completes_numbered : is_numbered s None tickets ≡ is_numbered_box b None tickets
  completes_numbered = same_tests (list_any told tickets) (list_any (λ (t : Task). contains tickets t.ticket && t.numbered) b.tasks) to_box from_box
    where
      to_box : list_any told tickets ≡ true → list_any (λ (t : Task). contains tickets t.ticket && t.numbered) b.tasks ≡ true
      to_box some =
          let k : (n : ℕ) × In n tickets × (told n ≡ true) = any_found told tickets some in
          let lives : is_live_in b k.0 ≡ true = each-in (λ n. is_live_in b n ≡ true) tickets k.0 k.1 live in
          let t : (x : Task) × In x b.tasks × ((x.ticket == k.0 && is_live_phase x.phase) ≡ true) = any_found (λ (x : Task). x.ticket == k.0 && is_live_phase x.phase) b.tasks lives in
          let is : t.0.ticket ≡ k.0 = eqb-true t.0.ticket k.0 (and_parts (t.0.ticket == k.0) (is_live_phase t.0.phase) t.2).0 in
          any_from (λ (x : Task). contains tickets x.ticket && x.numbered) b.tasks t.0 t.1
          (and_from (contains tickets t.0.ticket) t.0.numbered (any_from (λ n. n == t.0.ticket) tickets k.0 k.1 (eq-eqb k.0 t.0.ticket (sym is))) (sym (numbered_of k.0 t.0 lives t.1 is) ∙ k.2))

      from_box : list_any (λ (t : Task). contains tickets t.ticket && t.numbered) b.tasks ≡ true → list_any told tickets ≡ true
      from_box some =
          let t : (x : Task) × In x b.tasks × ((contains tickets x.ticket && x.numbered) ≡ true) = any_found (λ (x : Task). contains tickets x.ticket && x.numbered) b.tasks some in
          let parts = and_parts (contains tickets t.0.ticket) t.0.numbered t.2 in
          let k : (n : ℕ) × In n tickets × ((n == t.0.ticket) ≡ true) = any_found (λ n. n == t.0.ticket) tickets parts.0 in
          let is : k.0 ≡ t.0.ticket = eqb-true k.0 t.0.ticket k.2 in
          any_from told tickets k.0 k.1 (numbered_of k.0 t.0 (each-in (λ n. is_live_in b n ≡ true) tickets k.0 k.1 live) t.1 (sym is) ∙ parts.1)
