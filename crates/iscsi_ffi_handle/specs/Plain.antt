-- Actions in the plain form in which C reads them.
use Rattle.std.specs.Prelude.{ℕ}
use Rattle.iscsi_tasks.specs.declared.task.Attr.{Attr}
use Rattle.iscsi_tasks.specs.declared.task.Attr.TheVariants.{Simple, Ordered, Head}
use Rattle.iscsi_ffi_rules.specs.declared.action.Action.{Action}
use Rattle.iscsi_ffi_rules.specs.declared.action.Action.TheVariants.{Start, Stop, Reset, Ready, Close, Forget}
use Rattle.iscsi_ffi_rules.specs.declared.action.StopReason.{StopReason}
use Rattle.iscsi_ffi_rules.specs.declared.action.StopReason.TheVariants.{Aborted, LoggedOut, Lost, Cleared}
use Rattle.iscsi_ffi_handle.specs.declared.plain.PlainAction.{PlainAction}

-- ATTR (RFC 7143 section 11.3.1)
abbrev pub attribute_code : Attr → ℕ
attribute_code Simple = 1
attribute_code Ordered = 2
attribute_code Head = 3

abbrev pub reason_code : StopReason → ℕ
reason_code Aborted = 1
reason_code LoggedOut = 2
reason_code Lost = 3
reason_code Cleared = 4

abbrev pub form : (ticket cookie cid unit kind attribute why function : ℕ) → PlainAction
form ticket cookie cid unit kind attribute why function = record {
  ticket = ticket;
  cookie = cookie;
  cid = cid;
  unit = unit;
  kind = kind;
  attribute = attribute;
  why = why;
  function = function;
}

abbrev pub plain_action : Action → PlainAction
plain_action (Start ticket unit attr cookie) = form ticket cookie 0 unit 1 (attribute_code attr) 0 0
plain_action (Stop ticket cookie why) = form ticket cookie 0 0 2 0 (reason_code why) 0
plain_action (Reset unit function) = form 0 0 0 unit 3 0 0 function
plain_action (Ready cid) = form 0 0 cid 0 4 0 0 0
plain_action (Close cid) = form 0 0 cid 0 5 0 0 0
plain_action (Forget cookie) = form 0 cookie 0 0 6 0 0 0
