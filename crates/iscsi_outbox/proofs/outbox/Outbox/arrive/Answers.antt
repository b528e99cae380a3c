use Rattle.std.proofs.Common.{◌≡◌, true, sym, subst}
use Rattle.iscsi_outbox_steps.specs.State.{State}
use Rattle.iscsi_tracked.specs.Tracked.{Tracked, has_place}
use Rattle.iscsi_outbox.proofs.KnownLemmas.{has_arrived}
use Rattle.iscsi_outbox.proofs.outbox.Outbox.arrive.Goals as goal

pub remove-requires : goal.remove-requires
remove-requires c =
    let there = subst (λ (s : State). has_place c.args.command.place s.tracked ≡ true) (sym c.self.view_is) c.requires in
    subst (λ (v : Tracked). has_place c.args.command.place v ≡ true) (sym c.arrive-2.ensures) (has_arrived c.self.inside.tracked c.args.command.place c.args.command.place there)
