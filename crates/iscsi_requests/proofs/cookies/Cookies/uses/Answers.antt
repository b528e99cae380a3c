use Rattle.std.proofs.Common.{◌≡◌, ◌∙◌, true, ap, sym, subst}
use Rattle.iscsi_requests.specs.declared.cookies.Counted.{Counted}
use Rattle.iscsi_requests.specs.Cookies.{Cookies, uses_at, has_place}
use Rattle.iscsi_requests.specs.Kept.{NO_COOKIE}
use Rattle.iscsi_requests.proofs.CookieLemmas.{has_there, high, its_uses}
use Rattle.iscsi_requests.proofs.cookies.Cookies.uses.Goals as goal

pub at-requires : goal.at-requires
at-requires c =
    let i = c.self.inside.kept in
    let there = has_there i c.self.invariant c.known.ensures.apart c.args.place (subst (λ (v : Cookies). has_place c.args.place v ≡ true) (sym c.self.view_is) c.requires) in
    high i c.self.invariant c.known.ensures.apart c.args.place there

pub returns : goal.returns
returns c =
    let i = c.self.inside.kept in
    let there = has_there i c.self.invariant c.known.ensures.apart c.args.place (subst (λ (v : Cookies). has_place c.args.place v ≡ true) (sym c.self.view_is) c.requires) in
    ap (λ (x : Counted). x.uses) (c.at.ensures NO_COOKIE) ∙ its_uses i c.self.invariant c.known.ensures.apart c.args.place there ∙ ap (uses_at c.args.place) c.self.view_is
