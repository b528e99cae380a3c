use Rattle.std.proofs.Common.{rules, arith}
use Rattle.std.proofs.lemmas.Grind.{common_steps}
use Rattle.iscsi_outbox.proofs.CalledLemmas.{follows_puts}
use Rattle.iscsi_outbox.proofs.outbox.Outbox.put.Goals as goal

pub returns-then-not-is_fit-clause-rules : goal.returns-then-not-is_fit-clause-rules
returns-then-not-is_fit-clause-rules c = follows_puts _ c.args.pdu.now _ _ (first_of (search rules, grind (arith, common_steps))) (first_of (search rules, grind (arith, common_steps)))

pub returns-in_default-clause-rules : goal.returns-in_default-clause-rules
returns-in_default-clause-rules c = follows_puts _ c.args.pdu.now _ _ (first_of (search rules, grind (arith, common_steps))) (first_of (search rules, grind (arith, common_steps)))

pub returns-in-Some-refusal_on-clause-rules : goal.returns-in-Some-refusal_on-clause-rules
returns-in-Some-refusal_on-clause-rules c = follows_puts _ c.args.pdu.now _ _ (first_of (search rules, grind (arith, common_steps))) (first_of (search rules, grind (arith, common_steps)))

pub returns-clause-rules : goal.returns-clause-rules
returns-clause-rules c = follows_puts _ c.args.pdu.now _ _ (first_of (search rules, grind (arith, common_steps))) (first_of (search rules, grind (arith, common_steps)))
