use Rattle.std.proofs.Common.{rules}
use Rattle.std.proofs.lemmas.Fn.{filter_same}
use Rattle.iscsi_tickets.proofs.tickets.keep_live.Goals as goal

pub returns-clause-log : goal.returns-clause-log
returns-clause-log c = filter_same _ _ _ (λ x b f' k. search rules) _ _ c.retain.ensures.filtered
