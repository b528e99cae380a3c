use Rattle.std.proofs.Common.{◌≡◌, ◌==◌, not, filter, refl, rules}
use Rattle.std.proofs.lemmas.Fn.{filter_same}
use Rattle.check_units.proofs.live_commands.Both.remove.Goals as goal
use Rattle.check_units.proofs.live_commands.Both.remove.Goals.{After-retain}

kept : (c : After-retain) → c.retain.new.self.items ≡ filter (λ l. not (l.ticket == c.args.ticket)) c.args.self.now.plain.items
kept c = filter_same _ _ _ (λ x b f' k. search rules) _ _ c.retain.ensures.filtered

pub invariant_of-self-clause-same : goal.invariant_of-self-clause-same
invariant_of-self-clause-same c = rw (c.remove.ensures, kept c, c.args.self.now.same) refl
