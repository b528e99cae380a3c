use Rattle.std.proofs.Common.{◌∙◌, ℕ, sym, ap, subst}
use Rattle.iscsi_ffi_steps.specs.Walk.{Doing}
use Rattle.iscsi_ffi_steps.specs.Steps.{going}
use Rattle.iscsi_ffi.specs.Standing.{Begun, Sided}
use Rattle.iscsi_ffi.specs.contracts.side.Side.{the_view}
use Rattle.iscsi_ffi.proofs.StandLemmas.{set_desk}
use Rattle.iscsi_outbox_rules.specs.rules.Calls.{Hears}
use Rattle.iscsi_outbox_steps.specs.Steps.{heard}
use Rattle.iscsi_outbox.proofs.LimitsLemmas.{limits_stay}
use Rattle.iscsi_ffi_rules.specs.rules.Run.{tag_heard, word_at}
use Rattle.iscsi_ffi_desk.specs.Calls.{with_outbox}
use Rattle.iscsi_ffi.proofs.side.Side.heard_now.Goals as goal

pub returns : goal.returns
returns c = λ i s b.
    let P : Sided → Type 0 = λ v. Begun i v (going s) in
    let here : Begun i (the_view c.self.inside) (going s) = subst P (sym c.self.view_is) b in
    let n = word_at 28 c.args.header.now in
    let tag = tag_heard c.args.header.now in
    let change : Doing → Doing = λ d. with_outbox (heard c.args.cid n tag d.state.outbox) d in
    let told = c.hear.ensures
    ∙ ap (λ (m : ℕ). with_outbox (heard c.args.cid m c.transfer_tag.result c.self.inside.desk.state.outbox) c.self.inside.desk) c.word_at.ensures
    ∙ ap (λ (m : ℕ). with_outbox (heard c.args.cid n m c.self.inside.desk.state.outbox) c.self.inside.desk) c.transfer_tag.ensures in
    set_desk i (the_view c.self.inside) (going s) c.hear.new.self (change (going s).doing) here (told ∙ ap change here.stands.doing) (limits_stay s.state.outbox (Hears c.args.cid n tag))
