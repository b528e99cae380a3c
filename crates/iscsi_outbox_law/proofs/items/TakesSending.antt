-- The reply of an item: a new answer waits in both, aimed at the same; any other reply enters its queue.
use Rattle.std.proofs.Common.{◌≡◌, ℕ, ◌<◌, ◌≤◌, ◌==◌, ◌&&◌, ◌||◌, nat_le, cond, Bool, true, false, List, [], ◌∷◌, length, filter_map, Option, Some, None, refl, ap, sym, subst, ◌∙◌}
use Rattle.std.specs.List.{list_any}
use Rattle.std.proofs.lemmas.Bool.{and_parts, eqb-true}
use Rattle.iscsi_wire.specs.declared.reply.Reply.{Reply}
use Rattle.iscsi_wire.specs.declared.reply.Reply.TheVariants.{Scsi, Task as TaskReply, Logout, Nop, Reject}
use Rattle.iscsi_wire.specs.declared.request.Request.{Request}
use Rattle.iscsi_wire.specs.Fields.{opcode, function, rtt}
use Rattle.iscsi_rules.specs.declared.effect.Effect.{Effect}
use Rattle.iscsi_rules.specs.declared.effect.Effect.TheVariants.{Deliver, Immediate, Wait, Void, Empty, Enter, Enable, Leave, Send, CloseConn, CloseSession, Ignore}
use Rattle.iscsi_rules.specs.rules.Trace.{first_of}
use Rattle.iscsi_rules.specs.rules.Execution.{unit_named}
use Rattle.iscsi_rules.specs.promises.Closes.{is_session_close}
use Rattle.iscsi_outbox_rules.specs.rules.Calls.{Opening}
use Rattle.iscsi_outbox_rules.specs.rules.Boxes.{Aim as RulesAim, AtTag, AtUnit, AtConns, Replies, Task, Box}
use Rattle.iscsi_outbox_rules.specs.rules.Words.{contains}
use Rattle.iscsi_outbox_rules.specs.rules.Queues.{takes_more}
use Rattle.iscsi_outbox_rules.specs.rules.Items.{aim as aim_box, aim_of as aim_of_box, answer, closed_in as closed_in_box, is_aimed_at as is_aimed_at_task, is_fence as is_fence_box, is_numbered as is_numbered_box, outgoing, send_as}
use Rattle.iscsi_outbox_rules.specs.promises.Room.{places as places_of}
use Rattle.iscsi_outbox_state.specs.declared.lane.Aim.{Aim}
use Rattle.iscsi_outbox_state.specs.declared.lane.Aim.TheVariants.{Tag, Unit as OfUnit, Conn, Session, Nothing}
use Rattle.iscsi_outbox_state.specs.Lane.{aims_at, is_of_logout}
use Rattle.iscsi_outbox_steps.specs.State.{State, Limits, place_of}
use Rattle.iscsi_outbox_steps.specs.Steps.{aim_of, aim_of_logout, await, enter, has_room, has_time, is_fence, is_of_unit, is_reset, placed, reply_item, send_on}
use Rattle.iscsi_tracked.specs.declared.command.Command.{Command}
use Rattle.iscsi_outbox_law.specs.private.Pairs.{InOrder}
use Rattle.iscsi_outbox_law.specs.private.Links.{place_of_command}
use Rattle.iscsi_outbox_law.specs.private.Commands.{IsCommand, is_under_way, link_in}
use Rattle.iscsi_outbox_law.specs.private.Lanes.{IsAim, IsAnswer, left_of}
use Rattle.iscsi_outbox_law.specs.private.Sound.{conn_closed}
use Rattle.iscsi_outbox_law.specs.private.Stands.{Stands}
use Rattle.iscsi_outbox_law.proofs.general.PlaceLemmas.{AreApart, IsPlace, conns_of}
use Rattle.iscsi_outbox_law.proofs.connections.Standing.{stands_there}
use Rattle.iscsi_outbox_law.proofs.items.TakesSends.{await_stands, reply_enters, scope_is}
use Rattle.iscsi_outbox_law.proofs.items.TakesClosed.{closes_this}
use Rattle.iscsi_outbox_law.proofs.items.TakesAims.{logout_aims}

-- ---- aims

logout_aim : (s : State) (item : List Effect) → IsAim (aim_of_logout item s) AtConns
logout_aim s [] = tt
logout_aim s (Deliver r ∷ item) = logout_aim s item
logout_aim s (Immediate r ∷ item) = logout_aim s item
logout_aim s (Wait r ∷ item) = logout_aim s item
logout_aim s (Void sn ∷ item) = logout_aim s item
logout_aim s (Empty sn ∷ item) = logout_aim s item
logout_aim s (Enter ticket unit attr ∷ item) = logout_aim s item
logout_aim s (Enable ticket unit ∷ item) = logout_aim s item
logout_aim s (Leave ticket unit ∷ item) = logout_aim s item
logout_aim s (Send conn stat_sn reply ∷ item) = logout_aim s item
logout_aim s (CloseConn cid ∷ item) = by_whole (list_any is_session_close item) (place_of s cid)
  where
    by_whole : (w : Bool) (x : Option ℕ) → IsAim (cond w Session (elim x as (λ (y : Option ℕ). Aim) [ Some conn ↦ Conn conn | None ↦ Nothing ])) AtConns
    by_whole true x = tt
    by_whole false (Some p) = tt
    by_whole false None = tt
logout_aim s (CloseSession ∷ item) = tt
logout_aim s (Ignore why ∷ item) = logout_aim s item

no_unit : (x : Aim) → IsAim x AtConns → is_of_unit x ≡ false
no_unit (Tag tag) k = absurd k
no_unit (OfUnit v) k = absurd k
no_unit (Conn conn) k = refl
no_unit Session k = refl
no_unit Nothing k = refl

-- what is fenced for the outbox is so for the rules
fence_as : (x : Aim) (y : RulesAim) (reply : Reply) → IsAim x y → is_fence x reply ≡ is_fence_box y (Replies reply)
fence_as (Tag tag) (AtTag t u) reply k = refl
fence_as (OfUnit v) (AtUnit u) reply k = refl
fence_as (Conn conn) AtConns reply k = refl
fence_as Session AtConns reply k = refl
fence_as Nothing AtConns reply k = refl
fence_as x y reply k = absurd k

logout_as : (x : Aim) (y : RulesAim) → IsAim x y → y ≡ AtConns → is_of_logout x ≡ true
logout_as (Tag tag) (AtTag t u) k is = absurd cc
logout_as (OfUnit v) (AtUnit u) k is = absurd cc
logout_as (Conn conn) AtConns k is = refl
logout_as Session AtConns k is = refl
logout_as Nothing AtConns k is = refl
logout_as x y k is = absurd k

and_no : (w : Bool) → (w && false) ≡ false
and_no true = refl
and_no false = refl

-- the connection of a reply is in its place, and what is asked of a session's item
module _ (o : Opening) (s : State) (b : Box) (h : Stands o s b) (apart : AreApart (conns_of b.links)) (before : Box) (same : conns_of before.links ≡ conns_of b.links) (item : List Effect) (one_close : length (filter_map conn_closed item) ≤ 1) where
  pub record SameAim (r : Request) (x : Aim) (y : RulesAim) : Type 0 where
    pub is : IsAim x y
    pub uncleared : (s.limits.shared && is_reset r && is_of_unit x) ≡ (o.shared && opcode r == 0x02 && (function r == 4 || function r == 5))
    pub aimed : (d : Command) (t : Task) → IsCommand (is_under_way o b.links) s.limits.cids b.links d t → aims_at x (left_of d) ≡ is_aimed_at_task y (closed_in_box before item) t

  abbrev AimsAlike : Request → Option Aim → Option RulesAim → Type 0
  AimsAlike r None None = Unit {0}
  AimsAlike r (Some x) (Some y) = SameAim r x y
  AimsAlike r None (Some y) = ⊥
  AimsAlike r (Some x) None = ⊥

  units : s.limits.units ≡ o.session.units
  units = ap (λ (l : Limits). l.units) h.sizes.limits

  shared : s.limits.shared ≡ o.shared
  shared = ap (λ (l : Limits). l.shared) h.sizes.limits

  of_tag : (r : Request) (unit : ℕ) → function r ≡ 1 → SameAim r (Tag (rtt r)) (AtTag (rtt r) unit)
  of_tag r unit is = record {
    is = refl;
    uncleared = and_no (s.limits.shared && is_reset r) ∙ sym (ap (λ n. (o.shared && opcode r == 0x02) && (n == 4 || n == 5)) is ∙ and_no (o.shared && opcode r == 0x02));
    aimed = λ d t k. ap (λ n. n == rtt r) k.tag;
  }

  of_unit : (r : Request) (unit : ℕ) → SameAim r (OfUnit unit) (AtUnit unit)
  of_unit r unit = record {
    is = refl;
    uncleared = ap (λ (w : Bool). (w && is_reset r) && true) shared ∙ grouped o.shared (opcode r == 0x02) (function r == 4 || function r == 5);
    aimed = λ d t k. ap (λ n. n == unit) k.unit;
  }
    where
      grouped : (u v w : Bool) → ((u && (v && w)) && true) ≡ ((u && v) && w)
      grouped true true true = refl
      grouped true true false = refl
      grouped true false w = refl
      grouped false v w = refl

  of_logout : (r : Request) → (opcode r == 0x02) ≡ false → SameAim r (aim_of_logout item s) AtConns
  of_logout r isnt = record {
    is = logout_aim s item;
    uncleared = ap (λ (w : Bool). (s.limits.shared && is_reset r) && w) (no_unit (aim_of_logout item s) (logout_aim s item)) ∙ and_no (s.limits.shared && is_reset r)
        ∙ sym (ap (λ (w : Bool). (o.shared && w) && (function r == 4 || function r == 5)) isnt ∙ ap (λ (w : Bool). w && (function r == 4 || function r == 5)) (and_no o.shared));
    aimed = λ d t k. logout_aims o s b h apart before same t d k.conn item one_close;
  }

  task_aims : (r : Request) (n tag response : ℕ) → n ≡ o.session.units → AimsAlike r
      (cond (opcode r == 0x02 && function r == 1 && nat_le response 1) (elim (unit_named n r) as (λ (y : Option ℕ). Option Aim) [ Some unit ↦ Some (Tag (rtt r)) | None ↦ None ])
      (cond (opcode r == 0x02 && (function r == 2 || function r == 4 || function r == 5) && response == 0) (elim (unit_named n r) as (λ (y : Option ℕ). Option Aim) [ Some unit ↦ Some (OfUnit unit) | None ↦ None ]) None))
      (aim_of_box o r (TaskReply tag response))
  task_aims r n tag response is =
      subst (λ m. AimsAlike r
      (cond (opcode r == 0x02 && function r == 1 && nat_le response 1) (elim (unit_named m r) as (λ (y : Option ℕ). Option Aim) [ Some unit ↦ Some (Tag (rtt r)) | None ↦ None ])
      (cond (opcode r == 0x02 && (function r == 2 || function r == 4 || function r == 5) && response == 0) (elim (unit_named m r) as (λ (y : Option ℕ). Option Aim) [ Some unit ↦ Some (OfUnit unit) | None ↦ None ]) None))
      (aim_of_box o r (TaskReply tag response))) (sym is)
      (by_kind (opcode r == 0x02 && function r == 1 && nat_le response 1) (opcode r == 0x02 && (function r == 2 || function r == 4 || function r == 5) && response == 0) (unit_named o.session.units r)
      (λ yes. eqb-true (function r) 1 (and_parts (opcode r == 0x02) (function r == 1) (and_parts (opcode r == 0x02 && function r == 1) (nat_le response 1) yes).0).1))
    where
      by_kind : (v w : Bool) (x : Option ℕ) → (v ≡ true → function r ≡ 1) → AimsAlike r
          (cond v (elim x as (λ (y : Option ℕ). Option Aim) [ Some unit ↦ Some (Tag (rtt r)) | None ↦ None ]) (cond w (elim x as (λ (y : Option ℕ). Option Aim) [ Some unit ↦ Some (OfUnit unit) | None ↦ None ]) None))
          (cond v (elim x as (λ (y : Option ℕ). Option RulesAim) [ Some unit ↦ Some (AtTag (rtt r) unit) | None ↦ None ]) (cond w (elim x as (λ (y : Option ℕ). Option RulesAim) [ Some unit ↦ Some (AtUnit unit) | None ↦ None ]) None))
      by_kind true w (Some unit) f = of_tag r unit (f refl)
      by_kind true w None f = tt
      by_kind false true (Some unit) f = of_unit r unit
      by_kind false true None f = tt
      by_kind false false x f = tt

  aims_alike : (r : Request) (reply : Reply) → (aim_of_box o r reply ≡ Some AtConns → (opcode r == 0x02) ≡ false) → AimsAlike r (aim_of r item reply s) (aim_of_box o r reply)
  aims_alike r (Scsi tag status sense) isnt = tt
  aims_alike r (TaskReply tag response) isnt = task_aims r s.limits.units tag response units
  aims_alike r (Logout tag response) isnt = by_response (response == 0) isnt
    where
      by_response : (w : Bool) → (cond w (Some AtConns) None ≡ Some AtConns → (opcode r == 0x02) ≡ false) → AimsAlike r (cond w (Some (aim_of_logout item s)) None) (cond w (Some AtConns) None)
      by_response true f = of_logout r (f refl)
      by_response false f = tt
  aims_alike r (Nop tag) isnt = tt
  aims_alike r (Reject reason header) isnt = tt

  -- ---- the reply

  module _ (ascending : InOrder (λ (t u : Task). t.ticket < u.ticket) b.tasks) (tickets : List ℕ) (numbered : Bool) (closes : List ℕ) (cid p : ℕ) (found : place_of s cid ≡ Some p) (reply : Reply)
      (timed : has_time s.waits ≡ true) (roomy : takes_more (link_in b.links p) ≡ true → has_room s.waits ≡ true) (fewer : takes_more (link_in b.links p) ≡ true → length b.undue < places_of o) where
    at : IsPlace b.links cid p
    at = stands_there (is_under_way o b.links) o s b h cid p found

    new_answer : (r : Request) (x : Aim) (y : RulesAim) → SameAim r x y → numbered ≡ is_numbered_box b (Some r) tickets → (contains closes cid ≡ true → y ≡ AtConns)
        → IsAnswer s.limits.cids s.tracked s.lane.items
        (record { reply = placed reply s; conn = p; aim = x; numbered = numbered; ends = list_any (λ q. q == p) (filter_map (place_of s) closes) && is_of_logout x; uncleared = s.limits.shared && is_reset r && is_of_unit x })
        (answer o b r (closed_in_box before item) closes cid (outgoing b (Some r) tickets reply) y)
    new_answer r x y k number closing = record {
      pdu = refl;
      sent = ap Some (sym h.numbers.sent);
      conn = found;
      aim = k.is;
      takes = refl;
      fenced = sym (fence_as x y reply k.is);
      numbered = number;
      ends = ap (λ (w : Bool). w && is_of_logout x) (closes_this o s b h apart cid p at closes) ∙ by_closes (contains closes cid) refl;
      ticket = refl;
      uncleared = k.uncleared;
      scope = scope_is o s b h ascending x y (closed_in_box before item) k.aimed;
    }
      where
        by_closes : (w : Bool) → contains closes cid ≡ w → (contains closes cid && is_of_logout x) ≡ contains closes cid
        by_closes true is = ap (λ (w : Bool). contains closes cid && w) (logout_as x y k.is (closing is)) ∙ and_yes (contains closes cid)
          where
            and_yes : (w : Bool) → (w && true) ≡ w
            and_yes true = refl
            and_yes false = refl
        by_closes false is = ap (λ (w : Bool). w && is_of_logout x) is ∙ sym is

    pub send_on_stands : (r : Option Request) → numbered ≡ is_numbered_box b r tickets → (aim_box o r reply ≡ Some AtConns → (x : Request) → r ≡ Some x → (opcode x == 0x02) ≡ false)
        → (contains closes cid ≡ true → aim_box o r reply ≡ Some AtConns) → (r ≡ None → place_of_command s.tracked (first_of tickets) ≡ None)
        → Stands o (send_on p r item numbered (list_any (λ q. q == p) (filter_map (place_of s) closes)) (placed reply s) s) (send_as o r (aim_box o r reply) (closed_in_box before item) closes cid (outgoing b r tickets reply) b)
    send_on_stands None number isnt closing none =
        reply_enters o s b h apart cid p at (reply_item numbered (placed reply s)) (outgoing b None tickets reply) (record { pdu = refl; sent = ap Some h.numbers.sent; takes = refl; fenced = refl; numbered = number; ends = refl; command = sym (none refl) }) timed roomy
    send_on_stands (Some r) number isnt closing none = by_aim (aim_of r item reply s) (aim_of_box o r reply) (aims_alike r reply (λ is. isnt is r refl)) closing
      where
        by_aim : (x : Option Aim) (y : Option RulesAim) → AimsAlike r x y → (contains closes cid ≡ true → y ≡ Some AtConns)
            → Stands o
            (elim x as (λ (z : Option Aim). State) [
              | Some aim ↦ await p (record { reply = placed reply s; conn = p; aim = aim; numbered = numbered; ends = list_any (λ q. q == p) (filter_map (place_of s) closes) && is_of_logout aim; uncleared = s.limits.shared && is_reset r && is_of_unit aim }) s
              | None ↦ enter p (reply_item numbered (placed reply s)) s
            ]) (send_as o (Some r) y (closed_in_box before item) closes cid (outgoing b (Some r) tickets reply) b)
        by_aim None None k closes_it =
            reply_enters o s b h apart cid p at (reply_item numbered (placed reply s)) (outgoing b (Some r) tickets reply) (record { pdu = refl; sent = ap Some h.numbers.sent; takes = refl; fenced = refl; numbered = number; ends = refl; command = refl }) timed roomy
        by_aim (Some x) (Some y) k closes_it =
            await_stands o s b h apart p
            (record { reply = placed reply s; conn = p; aim = x; numbered = numbered; ends = list_any (λ q. q == p) (filter_map (place_of s) closes) && is_of_logout x; uncleared = s.limits.shared && is_reset r && is_of_unit x })
            (answer o b r (closed_in_box before item) closes cid (outgoing b (Some r) tickets reply) y) at (new_answer r x y k number (λ is. (let e : Some y ≡ Some AtConns = closes_it is in cc))) fewer
        by_aim None (Some y) k closes_it = absurd k
        by_aim (Some x) None k closes_it = absurd k
