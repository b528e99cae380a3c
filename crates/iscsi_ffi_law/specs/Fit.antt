-- A premise, of the box that a call finds and of the one that it leaves: they hold together, and have room. So it is at each call of a list
-- of which what is taken is what a session gives (`follows_sound`, `HasRoom` and `IsShort` of the outbox).
use Rattle.std.specs.Prelude.{◌≡◌, ◌<◌, ◌-◌, ◌^◌, true, length, ℕ, ◌==◌, ◌&&◌, []}
use Rattle.iscsi_rules.specs.rules.Settings.{are_distinct}
use Rattle.iscsi_outbox_rules.specs.promises.Room.{Fits}
use Rattle.iscsi_outbox_rules.specs.rules.Boxes.{Box, Link, Task}
use Rattle.iscsi_outbox_law.specs.rules.Room.{AreFew, AreShort}
use Rattle.iscsi_outbox_law.specs.private.Sound.{IsSound}
use Rattle.iscsi_ffi_rules.specs.rules.Calls.{Interface}
use Rattle.iscsi_ffi_rules.specs.rules.Run.{cids}
use Rattle.std.specs.List.{list_any}
use Rattle.iscsi_outbox_rules.specs.rules.Words.{is_live_phase}
use Rattle.iscsi_outbox_law.specs.private.Pairs.{EachOf}
use Rattle.iscsi_ffi_rules.specs.rules.Sides.{Side}
use Rattle.iscsi_ffi_law.specs.Parts.{is_live_ticket}
use Rattle.iscsi_rules.specs.rules.Trace.{is_closed}

-- another premise, of the rules' side alone: a connection that is cut is closed, as the session has it, and a command that is live in the
-- outbox is so in the session
pub record IsOrderly (r : Side) : Type 0 where
  pub cuts : EachOf (λ (l : Link). l.cut ≡ true → l.closed ≡ true) r.both.box.links
  pub closed : EachOf (λ (l : Link). l.closed ≡ is_closed l.conn r.both.trace) r.both.box.links
  pub live : (ticket : ℕ) → list_any (λ (t : Task). t.ticket == ticket && is_live_phase t.phase) r.both.box.tasks ≡ true → is_live_ticket r.both.trace ticket ≡ true

pub record IsFit (i : Interface) (found left : Box) : Type 0 where
  pub distinct : are_distinct i.outbox.session.conns ≡ true
  pub some : 0 < length (cids i)
  pub sound : IsSound i.outbox found
  pub sound_after : IsSound i.outbox left
  -- nothing waits on a connection that another one's Logout closed
  pub emptied : EachOf (λ (l : Link). l.cut ≡ true → l.queue ≡ []) left.links
  pub fits : Fits i.outbox found
  pub time : found.time < 2 ^ 64 - 1
  pub few : AreFew found
  pub short : AreShort left
