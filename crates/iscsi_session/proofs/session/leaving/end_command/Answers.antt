use Rattle.iscsi_session.proofs.Names.{ℕ, not, cond, ap, arith, is_numbered}
use Rattle.iscsi_session.proofs.KeptLemmas.{count-left}
use Rattle.iscsi_session.proofs.session.leaving.end_command.Goals as goal

pub finish-requires-clause-numbered : goal.finish-requires-clause-numbered
finish-requires-clause-numbered c = λ no. omega (arith, c.requires.numbered, count-left is_numbered c.args.located.now.command.ticket c.args.live.now.items c.args.located.now.command c.requires.ascending c.requires.there, ap {B = ℕ} (λ b. cond (not b) 1 0) no)
