use Rattle.std.proofs.Common.{arith, length, None}
use Rattle.std.proofs.lemmas.Bool.Decides.{nat_tests}
use Rattle.std.proofs.lemmas.List.Sums.{position_or_len_is}
use Rattle.iscsi_window.specs.Windows.{holds_from}
use Rattle.iscsi_window.proofs.places.first_held.Goals as goal

pub returns-then-holds_from : goal.returns-then-holds_from
returns-then-holds_from c = grind (arith, nat_tests, position_or_len_is)

pub returns : goal.returns
returns c = grind (arith, nat_tests, position_or_len_is (holds_from c.args.conn) c.args.places.now.items (length c.args.places.now.items) None)
