use Rattle.std.proofs.Common.{◌≡◌, ◌≤◌, ◌%◌, sym, subst}
use Rattle.iscsi_requests.proofs.NumberLemmas.{is_some, is_whole, is_wide}
use Rattle.iscsi_requests.proofs.numbers.size_for.Goals as goal

pub returns-clause-wide : goal.returns-clause-wide
returns-clause-wide c = subst (λ n. c.args.window ≤ n) (sym c.first_not_below.ensures) (is_wide c.args.window c.requires)

pub returns-clause-some : goal.returns-clause-some
returns-clause-some c = subst (λ n. 1 ≤ n) (sym c.first_not_below.ensures) (is_some c.args.window)

pub returns-clause-whole : goal.returns-clause-whole
returns-clause-whole c = subst (λ n. 4294967296 % n ≡ 0) (sym c.first_not_below.ensures) (is_whole c.args.window)
