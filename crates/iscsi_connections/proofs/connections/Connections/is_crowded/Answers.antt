use Rattle.std.proofs.Common.{◌∙◌, nat_le, ap, sym, arith}
use Rattle.std.proofs.lemmas.Bool.Decides.{nat_tests}
use Rattle.iscsi_connections.proofs.CountLemmas.{uncounted}
use Rattle.iscsi_connections.proofs.ChangeLemmas.{count_is}
use Rattle.iscsi_connections.proofs.connections.Connections.is_crowded.Goals as goal

pub returns-in-Some : goal.returns-in-Some
returns-in-Some c =
    let found = rw (← c.self.view_is) at (sym c.place_of.ensures ∙ c.in-Some.is) in
    rw (← c.self.view_is) (ap (nat_le 8) (sym (count_is c.self.inside.list.items c.args.cid c.in-Some.place found c.index.result.now c.index.ensures)))

pub returns-in-None : goal.returns-in-None
returns-in-None c = grind (arith, nat_tests, uncounted)
