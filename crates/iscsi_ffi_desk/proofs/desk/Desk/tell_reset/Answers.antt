use Rattle.std.proofs.Common.{sym, ◌∙◌, ap}
use Rattle.iscsi_ffi_rules.specs.declared.action.Action.TheVariants.{Reset}
use Rattle.iscsi_ffi_steps.specs.Walk.{tell}
use Rattle.iscsi_ffi_desk.proofs.TellLemmas.{not_reset, one_reset}
use Rattle.iscsi_ffi_desk.proofs.desk.Desk.tell_reset.Goals as goal

pub returns-then-not-is_reset_done : goal.returns-then-not-is_reset_done
returns-then-not-is_reset_done c = sym (not_reset _ c.in-Some.request c.args.item.now c.args.self.now (sym c.in-Some.ensures) (sym c.is_reset_done.ensures ∙ c.if-not-is_reset_done.true))

pub returns-in-Some-unit_named : goal.returns-in-Some-unit_named
returns-in-Some-unit_named c =
    let now = c.args.self.now in
    c.tell.ensures
    ∙ ap (λ n. tell (Reset c.in-Some-unit_named.unit n) now) c.function.ensures
    ∙ sym (one_reset _ c.in-Some-unit_named.unit c.in-Some.request c.args.item.now now (sym c.in-Some.ensures) (sym c.is_reset_done.ensures ∙ c.if-not-is_reset_done.false) (sym c.in-Some-unit_named.ensures))
