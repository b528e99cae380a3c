use Rattle.std.proofs.Common.{◌≡◌, ◌+◌, ◌∙◌, true, set, ap, sym, subst, arith}
use Rattle.iscsi_requests.specs.declared.cookies.Counted.{Counted}
use Rattle.iscsi_requests.specs.Cookies.{Cookies, has_place, used_more, uses_at, with_uses}
use Rattle.iscsi_requests.specs.Kept.{AreCookies, NO_COOKIE, cookies_of, counted_at}
use Rattle.iscsi_requests.proofs.CookieLemmas.{changed_are, changed_state, has_there, high, its_uses}
use Rattle.iscsi_requests.proofs.cookies.Cookies.use_more.Goals as goal

pub at-requires : goal.at-requires
at-requires c =
    let i = c.self.inside.kept in
    let there = has_there i c.self.invariant c.known.ensures.apart c.args.place (subst (λ (v : Cookies). has_place c.args.place v ≡ true) (sym c.self.view_is) c.requires.has) in
    high i c.self.invariant c.known.ensures.apart c.args.place there

pub set-requires : goal.set-requires
set-requires c =
    let i = c.self.inside.kept in
    let there = has_there i c.self.invariant c.known.ensures.apart c.args.place (subst (λ (v : Cookies). has_place c.args.place v ≡ true) (sym c.self.view_is) c.requires.has) in
    high i c.self.invariant c.known.ensures.apart c.args.place there

pub overflow_add-uses : goal.overflow_add-uses
overflow_add-uses c =
    let i = c.self.inside.kept in
    let there = has_there i c.self.invariant c.known.ensures.apart c.args.place (subst (λ (v : Cookies). has_place c.args.place v ≡ true) (sym c.self.view_is) c.requires.has) in
    let read = ap (λ (x : Counted). x.uses) (c.at.ensures NO_COOKIE) ∙ its_uses i c.self.invariant c.known.ensures.apart c.args.place there ∙ ap (uses_at c.args.place) c.self.view_is in
    let few = c.requires.few in omega (arith, read, few)

pub invariant_of-self : goal.invariant_of-self
invariant_of-self c =
    let i = c.self.inside.kept in
    let there = has_there i c.self.invariant c.known.ensures.apart c.args.place (subst (λ (v : Cookies). has_place c.args.place v ≡ true) (sym c.self.view_is) c.requires.has) in
    let more = (counted_at i.values c.args.place).uses + 1 in
    let is = c.set.ensures ∙ ap (λ (x : Counted). record i { values = set i.values c.args.place (record { cookie = x.cookie; uses = x.uses + 1 }) }) (c.at.ensures NO_COOKIE) in
    subst AreCookies (sym is) (changed_are i c.self.invariant c.known.ensures.apart c.args.place more there c.known.ensures.values (omega arith))

pub returns : goal.returns
returns c =
    let i = c.self.inside.kept in
    let there = has_there i c.self.invariant c.known.ensures.apart c.args.place (subst (λ (v : Cookies). has_place c.args.place v ≡ true) (sym c.self.view_is) c.requires.has) in
    let more = (counted_at i.values c.args.place).uses + 1 in
    let is = c.set.ensures ∙ ap (λ (x : Counted). record i { values = set i.values c.args.place (record { cookie = x.cookie; uses = x.uses + 1 }) }) (c.at.ensures NO_COOKIE) in
    ap cookies_of is
    ∙ changed_state i c.self.invariant c.known.ensures.apart c.args.place more there c.known.ensures.values
    ∙ ap (λ n. with_uses (n + 1) c.args.place (cookies_of i)) (its_uses i c.self.invariant c.known.ensures.apart c.args.place there)
    ∙ ap (used_more c.args.place) c.self.view_is
