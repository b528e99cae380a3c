use Rattle.std.proofs.Common.{◌∙◌, ap, sym, subst}
use Rattle.iscsi_requests.specs.Cookies.{entered}
use Rattle.iscsi_requests.specs.Kept.{AreCookies, cookies_of}
use Rattle.iscsi_requests.proofs.CookieLemmas.{entered_are, entered_state}
use Rattle.iscsi_requests.proofs.cookies.Cookies.enter.Goals as goal

pub invariant_of-self : goal.invariant_of-self
invariant_of-self c =
    let p = c.push_back in
    let i = c.self.inside.kept in
    subst AreCookies (sym p.ensures.state) (entered_are i c.self.invariant c.known.ensures.apart p.result c.args.cookie p.ensures.slot p.ensures.fresh c.known.ensures.values)

pub returns-clause-state : goal.returns-clause-state
returns-clause-state c =
    let p = c.push_back in
    let i = c.self.inside.kept in
    ap cookies_of p.ensures.state
    ∙ entered_state i c.self.invariant c.known.ensures.apart p.result c.args.cookie p.ensures.slot p.ensures.fresh c.known.ensures.values
    ∙ ap (entered c.args.cookie p.result) c.self.view_is
