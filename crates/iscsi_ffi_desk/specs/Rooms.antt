-- The parts of a desk as it is opened. For private contracts alone.
use Rattle.std.specs.Prelude.{◌≡◌, ℕ, ◌*◌, ◌≤◌, false, [], length, replicate}
use Rattle.std.specs.Vec.{vec_capacity}
use Rattle.iscsi_outbox_steps.specs.State.{most_at_once}
use Rattle.iscsi_outbox.specs.promises.Options.{limits_of}
use Rattle.iscsi_requests.specs.Cookies.{opened as no_requests}
use Rattle.iscsi_requests.specs.Numbers.{opened as no_numbers}
use Rattle.iscsi_requests.specs.Functions.{opened as no_functions}
use Rattle.iscsi_requests.specs.Replies.{opened as no_replies}
use Rattle.iscsi_requests.specs.Unwritten.{opened as nothing_handed}
use Rattle.iscsi_ffi_commands.specs.Commands.{opened as no_commands}
use Rattle.iscsi_ffi_steps.specs.State.{actions_room, requests_room}
use Rattle.iscsi_ffi_desk.specs.declared.desk.opening.Buffers.{Buffers}
use Rattle.iscsi_ffi_desk.specs.declared.desk.opening.DeskOptions.{DeskOptions}
use Rattle.iscsi_ffi_desk.specs.declared.desk.opening.Rooms.{Rooms}
use Rattle.iscsi_ffi_desk.specs.declared.desk.opening.Tables.{Tables}

pub record AreRooms (o : DeskOptions) (r : Rooms) : Type 0 where
  pub conns : r.conns ≡ length o.outbox.conns.items
  pub requests : r.requests ≡ requests_room o.unwritten (limits_of o.outbox)
  pub replies : r.replies ≡ 3 * most_at_once (limits_of o.outbox)
  pub own : r.own ≡ o.outbox.own * length o.outbox.conns.items
  pub unwritten : r.unwritten ≡ o.unwritten * length o.outbox.conns.items
  pub actions : r.actions ≡ actions_room o.unwritten (limits_of o.outbox)

pub record AreFew (r : Rooms) : Type 0 where
  pub conns : r.conns ≤ 64
  pub requests : r.requests ≤ 1000000
  pub replies : r.replies ≤ 1000000
  pub own : r.own ≤ 1000000
  pub unwritten : r.unwritten ≤ 1000000

pub record AreTables (window units : ℕ) (r : Rooms) (t : Tables) : Type 0 where
  pub cookies : t.cookies ≡ no_requests r.requests
  pub held : t.held ≡ no_numbers window
  pub functions : t.functions ≡ no_functions r.conns (4 * r.conns)
  pub commands : t.commands ≡ no_commands r.requests units
  pub replies : t.replies ≡ no_replies r.conns r.replies
  pub noted : t.noted ≡ nothing_handed r.conns r.own
  pub unwritten : t.unwritten ≡ nothing_handed r.conns r.unwritten

pub record AreBuffers (conns room : ℕ) (b : Buffers) : Type 0 where
  pub withheld : b.withheld.items ≡ []
  pub actions : b.actions.items ≡ []
  pub forgets : b.forgets.items ≡ []
  pub awake : b.awake ≡ replicate conns false
  pub over : b.over.items ≡ replicate conns false
  pub room_withheld : vec_capacity b.withheld ≡ room
  pub room_actions : vec_capacity b.actions ≡ room
  pub room_forgets : vec_capacity b.forgets ≡ room
