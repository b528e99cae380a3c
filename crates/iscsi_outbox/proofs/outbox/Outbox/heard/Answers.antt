use Rattle.std.proofs.Common.{◌≡◌, ℕ, Option, Some, None, refl, sym, ap, ◌∙◌, rules, arith}
use Rattle.iscsi_arrivals.specs.Counts.{heard_by}
use Rattle.iscsi_outbox_steps.specs.State.{State, place_of, with_link}
use Rattle.iscsi_outbox_steps.specs.Steps.{settle, trail}
use Rattle.iscsi_outbox.proofs.SendLemmas.{place_is}
use Rattle.std.proofs.lemmas.Grind.{common_steps}
use Rattle.iscsi_outbox.proofs.CalledLemmas.{follows_silent}
use Rattle.iscsi_outbox_rules.specs.rules.Calls.{Hears}
use Rattle.iscsi_outbox.proofs.outbox.Outbox.heard.Goals as goal

pub returns-in-Some-clause-state : goal.returns-in-Some-clause-state
returns-in-Some-clause-state c =
    let now = c.args.self.now in
    let at : place_of now c.args.cid ≡ Some c.in-Some.conn = place_is now c.self.inside.cids.cids c.args.cid c.args.cid (Some c.in-Some.conn) (ap (λ (s : State). s.limits.cids) c.self.view_is) refl (sym c.place.ensures ∙ c.in-Some.is) in
    c.settle.ensures
    ∙ ap settle (c.trail.ensures ∙ ap (λ s. trail c.in-Some.conn s) c.hear_on.ensures)
    ∙ sym (ap (λ (o : Option ℕ). elim o as (λ (q : Option ℕ). State) [ Some conn ↦ settle (trail conn (with_link conn (heard_by c.args.exp_stat_sn c.args.transfer_tag) now)) | None ↦ now ]) at)

pub returns-in-Some-clause-rules : goal.returns-in-Some-clause-rules
returns-in-Some-clause-rules c = follows_silent _ (Hears c.args.cid c.args.exp_stat_sn c.args.transfer_tag) _ refl (returns-in-Some-clause-state c)

pub returns-in_default-clause-rules : goal.returns-in_default-clause-rules
returns-in_default-clause-rules c = follows_silent _ (Hears c.args.cid c.args.exp_stat_sn c.args.transfer_tag) _ refl (first_of (search rules, grind (arith, common_steps)))
