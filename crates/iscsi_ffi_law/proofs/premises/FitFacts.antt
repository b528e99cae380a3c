-- What holds of a side comes to what is premised of it.
use Rattle.std.proofs.Common.{◌≡◌, ℕ, ◌^◌, ◌≤◌, ◌==◌, ◌&&◌, not, nat_le, Bool, true, false, List, map, filter, length, Some, None, refl, ap, sym, subst, ◌∙◌, ◌⊎◌, ⊎_elim, eq-eqb}
use Rattle.std.specs.List.{list_any}
use Rattle.std.proofs.lemmas.Bool.{and_parts, eqb-true, false≢true, leb-true}
use Rattle.iscsi_wire.specs.Fields.{connection_of}
use Rattle.iscsi_rules.specs.rules.Agenda.{command_of}
use Rattle.iscsi_rules.specs.rules.Settings.{Setting, are_distinct, are_sizes_valid, is_known, is_within}
use Rattle.iscsi_rules.specs.rules.Trace.{Command, Trace, entered, has, is_closed, leaves_ticket, live, was_free}
use Rattle.iscsi_rules.proofs.general.BoolLemmas.{and_both, not_true}
use Rattle.iscsi_rules.proofs.promises.CloseLemmas.{Clear}
use Rattle.iscsi_rules.proofs.promises.CloseRuns.{clear_of}
use Rattle.iscsi_rules.proofs.general.ElementLemmas.{In, first-in, in-filter}
use Rattle.iscsi_rules.proofs.general.ListLemmas.{list_any-map}
use Rattle.iscsi_outbox_rules.specs.rules.Boxes.{Link, Task}
use Rattle.iscsi_outbox_rules.specs.rules.Queues.{takes_more}
use Rattle.iscsi_outbox_rules.specs.rules.Words.{contains, is_live_phase}
use Rattle.iscsi_outbox_law.specs.private.Pairs.{EachOf}
use Rattle.iscsi_ffi_rules.specs.rules.Calls.{Interface}
use Rattle.iscsi_ffi_rules.specs.rules.Sides.{Side}
use Rattle.iscsi_ffi_rules.proofs.Leavings.{has_ticket, one_with}
use Rattle.iscsi_ffi_law.specs.Done.{home_of}
use Rattle.iscsi_ffi_law.specs.Sides.{IsOpening}
use Rattle.iscsi_ffi_law.proofs.outbox_invariants.FitClosed.{AsIn}
use Rattle.iscsi_ffi_law.proofs.side_invariants.FitHolds.{Holds}
use Rattle.iscsi_ffi_law.proofs.session_invariants.FitJoined.{IsOver, has_joined}
use Rattle.iscsi_ffi_law.proofs.outbox_invariants.FitLives.{home_of_command, home_of_task}
use Rattle.iscsi_ffi_law.proofs.general.Members.{Passing, any_in, each_in, in_any, two_counted}

-- ---- the options

pub record AreLimits (o : Setting) : Type 0 where
  pub window : o.window ≤ 1024
  pub events : o.events ≤ 2 ^ 48
  pub least : 1 ≤ o.window
  pub conns : length o.conns ≤ 64
  pub some : 1 ≤ length o.conns
  pub distinct : are_distinct o.conns ≡ true

pub limits : (i : Interface) → IsOpening i → AreLimits i.outbox.session
limits i opening =
    let o : Setting = i.outbox.session in
    let p = and_parts (are_sizes_valid o && is_within o.events (2 ^ 48) && is_within (length o.conns) 64) (are_distinct o.conns) opening.session in
    let q = and_parts (are_sizes_valid o && is_within o.events (2 ^ 48)) (is_within (length o.conns) 64) p.0 in
    let s = and_parts (are_sizes_valid o) (is_within o.events (2 ^ 48)) q.0 in
    let y = and_parts (nat_le 1 o.events) (nat_le o.events (2 ^ 48)) s.1 in
    let t = and_parts (is_within o.window 1024 && is_within o.units 256 && is_within o.depth 1024) (is_within o.level 2) s.0 in
    let u = and_parts (is_within o.window 1024 && is_within o.units 256) (is_within o.depth 1024) t.0 in
    let v = and_parts (is_within o.window 1024) (is_within o.units 256) u.0 in
    let w = and_parts (nat_le 1 o.window) (nat_le o.window 1024) v.0 in
    let x = and_parts (nat_le 1 (length o.conns)) (nat_le (length o.conns) 64) q.1 in
    record { window = leb-true o.window 1024 w.1; events = leb-true o.events (2 ^ 48) y.1; least = leb-true 1 o.window w.0; conns = leb-true (length o.conns) 64 x.1; some = leb-true 1 (length o.conns) x.0; distinct = p.1 }

-- ---- where a command is

-- a connection that joined, and isn't closed, takes more
pub takes_there : (t : Trace) (c : ℕ) (links : List Link) → EachOf (λ (l : Link). l.cut ≡ true → l.closed ≡ true) links → EachOf (AsIn t) links → EachOf (IsOver t) links → is_closed c t ≡ false → has_joined links c ≡ true → list_any (λ (l : Link). l.conn == c && takes_more l) links ≡ true
takes_there t c links cuts closed over unclosed joined =
    let p : Passing (λ (l : Link). l.conn == c && l.joined) links = any_in (λ (l : Link). l.conn == c && l.joined) links joined in
    let l : Link = p.x in
    let parts = and_parts (l.conn == c) l.joined p.passes in
    let same : is_closed l.conn t ≡ false = ap (λ n. is_closed n t) (eqb-true l.conn c parts.0) ∙ unclosed in
    let opened : l.closed ≡ false = each_in (AsIn t) links l p.there closed ∙ same in
    let uncut : l.cut ≡ false = never l.cut (λ is. false≢true (sym opened ∙ each_in (λ (m : Link). m.cut ≡ true → m.closed ≡ true) links l p.there cuts is)) in
    let unlost : l.lost ≡ false = never l.lost (λ is. false≢true (sym same ∙ each_in (IsOver t) links l p.there over is)) in
    in_any (λ (m : Link). m.conn == c && takes_more m) links l p.there
    (and_both (l.conn == c) (takes_more l) parts.0 (and_both (l.joined && not l.lost) (not l.cut) (and_both l.joined (not l.lost) parts.1 (ap not unlost)) (ap not uncut)))
  where
    never : (v : Bool) → (v ≡ true → ⊥) → v ≡ false
    never true f = absurd (f refl)
    never false f = refl

module _ (i : Interface) (k : ℕ) (s : Side) (h : Holds i k s) (ticket : ℕ) (d : Command) (found : command_of s.both.trace ticket ≡ Some d) where
  abbrev t : Trace
  t = s.both.trace

  passes : In d (live s.both.trace) × ((d.ticket == ticket && was_free d s.both.trace) ≡ true)
  passes = in-filter (λ (c : Command). c.ticket == ticket && was_free c s.both.trace) (live s.both.trace) d (first-in _ d found)

  pub ticket_is : d.ticket ≡ ticket
  ticket_is = eqb-true d.ticket ticket (and_parts (d.ticket == ticket) (was_free d s.both.trace) passes.1).0

  entered_there : In d (entered s.both.trace)
  entered_there = (in-filter (λ (c : Command). not (has (leaves_ticket c.ticket) s.both.trace)) (entered s.both.trace) d passes.0).0

  home_is : home_of s ticket ≡ connection_of d.arrival.request
  home_is = ap (λ x. elim x [ Some c ↦ connection_of c.arrival.request | None ↦ 0 ]) found

  clear : Clear i.outbox.session s.both.trace
  clear = clear_of i.outbox.session s.both.trace h.together.sounds

  unclosed : is_closed (connection_of d.arrival.request) s.both.trace ≡ false
  unclosed =
      not_true (is_closed (connection_of d.arrival.request) s.both.trace)
      (and_parts (is_known (connection_of d.arrival.request) i.outbox.session.conns) (not (is_closed (connection_of d.arrival.request) s.both.trace)) (clear.lives d passes.0)).1

  joined : has_joined s.both.box.links (connection_of d.arrival.request) ≡ true
  joined =
      ⊎_elim (λ is. is) (λ closed. absurd (false≢true (sym unclosed ∙ closed)))
      (each_in (λ (c : Command). (has_joined s.both.box.links (connection_of c.arrival.request) ≡ true) ⊎ (is_closed (connection_of c.arrival.request) s.both.trace ≡ true)) (entered s.both.trace) d entered_there h.served.served.entered_by)

  -- its connection takes the reply
  pub takes_reply_at : list_any (λ (l : Link). l.conn == connection_of d.arrival.request && takes_more l) s.both.box.links ≡ true
  takes_reply_at = takes_there s.both.trace (connection_of d.arrival.request) s.both.box.links h.together.cuts h.together.closed h.served.over unclosed joined

  pub takes_reply : list_any (λ (l : Link). l.conn == home_of s ticket && takes_more l) s.both.box.links ≡ true
  takes_reply =
      subst (λ c. list_any (λ (l : Link). l.conn == c && takes_more l) s.both.box.links ≡ true) (sym home_is) takes_reply_at

  -- the outbox has it live, on that connection
  live_task : Passing (λ (x : Task). x.ticket == ticket) (filter (λ (x : Task). is_live_phase x.phase) s.both.box.tasks)
  live_task =
      any_in (λ (x : Task). x.ticket == ticket) (filter (λ (x : Task). is_live_phase x.phase) s.both.box.tasks)
      (sym (list_any-map (λ n. n == ticket) (λ (x : Task). x.ticket) (filter (λ (x : Task). is_live_phase x.phase) s.both.box.tasks))
      ∙ ap (λ ks. contains ks ticket) h.together.lives
      ∙ list_any-map (λ n. n == ticket) (λ (c : Command). c.ticket) (live s.both.trace)
      ∙ in_any (λ (c : Command). c.ticket == ticket) (live s.both.trace) d passes.0 (eq-eqb d.ticket ticket ticket_is))

  pub there_live : list_any (λ (x : Task). x.ticket == ticket && (x.conn == home_of s ticket && is_live_phase x.phase)) s.both.box.tasks ≡ true
  there_live =
      let x : Task = live_task.x in
      let at = in-filter (λ (y : Task). is_live_phase y.phase) s.both.box.tasks x live_task.there in
      let home : Passing (λ (y : ℕ × ℕ). y.0 == x.ticket && y.1 == x.conn) (map home_of_command (entered s.both.trace)) =
      any_in (λ (y : ℕ × ℕ). y.0 == x.ticket && y.1 == x.conn) (map home_of_command (entered s.both.trace))
      (ap (list_any (λ (y : ℕ × ℕ). y.0 == x.ticket && y.1 == x.conn)) (sym h.together.homes)
      ∙ list_any-map (λ (y : ℕ × ℕ). y.0 == x.ticket && y.1 == x.conn) home_of_task s.both.box.tasks
      ∙ in_any (λ (y : Task). y.ticket == x.ticket && y.conn == x.conn) s.both.box.tasks x at.0 (and_both (x.ticket == x.ticket) (x.conn == x.conn) (eq-eqb x.ticket x.ticket refl) (eq-eqb x.conn x.conn refl))) in
      let other : Passing (λ (c : Command). c.ticket == x.ticket && connection_of c.arrival.request == x.conn) (entered s.both.trace) =
      any_in (λ (c : Command). c.ticket == x.ticket && connection_of c.arrival.request == x.conn) (entered s.both.trace)
      (sym (list_any-map (λ (y : ℕ × ℕ). y.0 == x.ticket && y.1 == x.conn) home_of_command (entered s.both.trace))
      ∙ in_any (λ (y : ℕ × ℕ). y.0 == x.ticket && y.1 == x.conn) (map home_of_command (entered s.both.trace)) home.x home.there home.passes) in
      let c : Command = other.x in
      let both = and_parts (c.ticket == x.ticket) (connection_of c.arrival.request == x.conn) other.passes in
      let same : c ≡ d =
      two_counted (has_ticket ticket) (entered s.both.trace) c d (one_with i.outbox.session ticket s.both.trace s.both.event h.together.forms) other.there entered_there
      (eq-eqb c.ticket ticket (eqb-true c.ticket x.ticket both.0 ∙ eqb-true x.ticket ticket live_task.passes)) (eq-eqb d.ticket ticket ticket_is) in
      in_any (λ (y : Task). y.ticket == ticket && (y.conn == home_of s ticket && is_live_phase y.phase)) s.both.box.tasks x at.0
      (and_both (x.ticket == ticket) (x.conn == home_of s ticket && is_live_phase x.phase) live_task.passes
      (and_both (x.conn == home_of s ticket) (is_live_phase x.phase)
      (eq-eqb x.conn (home_of s ticket) (sym (eqb-true (connection_of c.arrival.request) x.conn both.1) ∙ ap (λ (e : Command). connection_of e.arrival.request) same ∙ sym home_is)) at.1))
