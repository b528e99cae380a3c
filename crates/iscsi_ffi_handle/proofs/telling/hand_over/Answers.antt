use Rattle.std.proofs.Common.{sym, ◌∙◌}
use Rattle.iscsi_ffi_handle.specs.Telling.{room_in}
use Rattle.iscsi_ffi_handle.proofs.TellLemmas.{empty_if, none_told, same_places, same_side}
use Rattle.iscsi_ffi_handle.proofs.telling.hand_over.Goals as goal

pub returns-then-not-waits-clause-side : goal.returns-then-not-waits-clause-side
returns-then-not-waits-clause-side c = same_side (room_in c.args.actions.now) c.args.side.now (empty_if c.args.side.now (sym c.waits.ensures ∙ c.if-not-waits.true))

pub returns-then-not-waits-clause-actions : goal.returns-then-not-waits-clause-actions
returns-then-not-waits-clause-actions c = same_places (room_in c.args.actions.now) c.args.actions.now c.args.side.now (empty_if c.args.side.now (sym c.waits.ensures ∙ c.if-not-waits.true))

pub returns-then-not-waits-clause-told : goal.returns-then-not-waits-clause-told
returns-then-not-waits-clause-told c = none_told c.args.actions.now c.args.side.now (empty_if c.args.side.now (sym c.waits.ensures ∙ c.if-not-waits.true))
