use Rattle.iscsi_session.proofs.Names.{◌≡◌, None, option_map, ap, arith, rtt, Live, of_unit, tagged_in, facts_by, nat_tests}
use Rattle.iscsi_session.proofs.session.Session.decide_abort.Goals as goal
use Rattle.iscsi_session.proofs.session.Session.decide_abort.Goals.{After-find_held}

-- what is found of the unit
held_is : (c : After-find_held) → (facts_by c.args.self.now c.args.request.now).held ≡ c.find_held.result
held_is c = grind (arith, nat_tests)

untagged : (c : After-find_held) → (facts_by c.args.self.now c.args.request.now).live ≡ None
untagged c =
    let live : (facts_by c.args.self.now c.args.request.now).live ≡ option_map (λ (l : Live). l.ticket) (tagged_in c.args.self.now (rtt c.args.request.now) c.args.unit) = ap (λ x. of_unit x None (λ unit. option_map (λ (l : Live). l.ticket) (tagged_in c.args.self.now (rtt c.args.request.now) unit))) c.requires.named in
    grind (arith, nat_tests)

pub returns-in-Some-find_held : goal.returns-in-Some-find_held
returns-in-Some-find_held c = grind (arith, nat_tests, untagged, held_is)

pub returns-then-is_missing : goal.returns-then-is_missing
returns-then-is_missing c = grind (arith, nat_tests, untagged, held_is)

pub returns-else-is_missing : goal.returns-else-is_missing
returns-else-is_missing c = grind (arith, nat_tests, untagged, held_is)
