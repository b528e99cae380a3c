use Rattle.iscsi_session.proofs.Names.{rules, ◌≡◌, ◌<◌, filter, not, filter_same, AllPairs-filter, connection_of, is_asked, Waiting}
use Rattle.iscsi_session.proofs.session.waiting.Waitlist.drop_of.Goals as goal
use Rattle.iscsi_session.proofs.session.waiting.Waitlist.drop_of.Goals.{After-retain}

rest : (c : After-retain) → c.retain.new.self.items ≡ filter (λ w. not (is_asked c.args.scope (connection_of w.request))) c.self.inside.functions.items
rest c = filter_same _ _ _ (λ x b f' k. search rules) _ _ c.retain.ensures.filtered

pub invariant_of-self : goal.invariant_of-self
invariant_of-self c =
    let here = rest (goal.at.invariant_of-self c).After-retain in
    (c.lowest_turn-self-inside.ensures, rw here (AllPairs-filter (λ (a b : Waiting). a.event < b.event) (λ w. not (is_asked c.args.scope (connection_of w.request))) c.self.inside.functions.items c.self.invariant.1))

pub returns : goal.returns
returns c = rw (← c.self.view_is, rest (goal.at.returns c).After-retain, c.retain.ensures.capacity)
