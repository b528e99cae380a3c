use Rattle.std.proofs.Common.{◌≡◌, true, sym, subst, ◌∙◌, rules, arith}
use Rattle.iscsi_outbox_steps.specs.State.{State}
use Rattle.iscsi_tracked.specs.Tracked.{has_place}
use Rattle.iscsi_outbox.proofs.KnownLemmas.{ticket_has}
use Rattle.std.proofs.lemmas.Grind.{common_steps}
use Rattle.iscsi_outbox.proofs.CalledLemmas.{follows_stops}
use Rattle.iscsi_outbox.proofs.outbox.Outbox.stopped.Goals as goal

pub stop-requires : goal.stop-requires
stop-requires c = subst (λ (s : State). has_place c.in-Some.command.place s.tracked ≡ true) c.self.view_is (ticket_has c.self.inside.tracked c.args.ticket c.in-Some.command (sym c.find.ensures ∙ c.in-Some.is))

pub returns-in-Some-clause-rules : goal.returns-in-Some-clause-rules
returns-in-Some-clause-rules c = follows_stops _ c.args.ticket _ _ (first_of (search rules, grind (arith, common_steps))) (first_of (search rules, grind (arith, common_steps)))

pub returns-in_default-clause-rules : goal.returns-in_default-clause-rules
returns-in_default-clause-rules c = follows_stops _ c.args.ticket _ _ (first_of (search rules, grind (arith, common_steps))) (first_of (search rules, grind (arith, common_steps)))

pub returns-in_default-2-clause-rules : goal.returns-in_default-2-clause-rules
returns-in_default-2-clause-rules c = follows_stops _ c.args.ticket _ _ (first_of (search rules, grind (arith, common_steps))) (first_of (search rules, grind (arith, common_steps)))
