-- What goes out next, as the code tells it. For private contracts alone.
use Rattle.std.specs.Prelude.{ℕ, ◌&&◌, not, Bool, false, Option, Some, None, Result, Ok, Err}
use Rattle.iscsi_outbox_rules.specs.declared.own_pdu.PutRefusal.{PutRefusal}
use Rattle.iscsi_outbox_state.specs.declared.waiting.Content.{Content}
use Rattle.iscsi_outbox_state.specs.declared.waiting.Content.TheVariants.{Reply as IsReply, Own as IsOwn}
use Rattle.iscsi_outbox_steps.specs.declared.given.Pdu.{Pdu}
use Rattle.iscsi_outbox_steps.specs.declared.given.Pdu.TheVariants.{Reply as ReplyPdu, Own as OwnedPdu}
use Rattle.iscsi_outbox_state.specs.Waits.{any_in, is_fenced_before, is_taking_before}
use Rattle.iscsi_outbox_steps.specs.State.{State, is_busy_elsewhere, is_fence_elsewhere, looks}
use Rattle.iscsi_outbox_steps.specs.Steps.{Out, Waited, Pinged, Noticed}
use Rattle.iscsi_outbox.specs.declared.outbox.choosing.Choice.{Choice}
use Rattle.iscsi_outbox.specs.declared.outbox.choosing.Choice.TheVariants.{Waiting, Ping, Notice}

abbrev pub choice_of : Out → Choice
choice_of (Waited item) = Waiting
choice_of (Pinged tag) = Ping
choice_of Noticed = Notice

abbrev pub pdu_of_content : Content → Pdu
pdu_of_content (IsReply reply) = ReplyPdu reply
pdu_of_content (IsOwn own) = OwnedPdu own

-- there is a place, and it passes
abbrev pub holds_of : (ℕ → Bool) → Option ℕ → Bool
holds_of test (Some place) = test place
holds_of test None = false

-- why a call was refused
abbrev pub refused : Result (Unit {0}) PutRefusal → Option PutRefusal
refused (Ok done) = None
refused (Err refusal) = Some refusal

-- the parts of the fence: what takes a StatSN may go out behind the fenced answers, and a fenced answer behind all
abbrev pub lets_pass : ℕ → ℕ → State → Bool
lets_pass conn time s = not (any_in (is_fenced_before time) s.waits) && not (looks s && is_fence_elsewhere conn s)

abbrev pub is_clear : ℕ → ℕ → State → Bool
is_clear conn time s = not (any_in (is_taking_before time) s.waits) && not (is_busy_elsewhere conn s)
