use Rattle.std.proofs.Common.{◌≡◌, ◌-◌, ◌∙◌, cond, true, set, Some, None, ap, sym, subst, arith}
use Rattle.iscsi_requests.specs.declared.cookies.Counted.{Counted}
use Rattle.iscsi_requests.specs.Cookies.{Cookies, cookie_at, has_place, last_cookie, removed, used_less, uses_at, with_uses}
use Rattle.iscsi_requests.specs.Kept.{AreCookies, NO_COOKIE, cookies_of, counted_at}
use Rattle.iscsi_requests.proofs.CookieLemmas.{changed_are, changed_state, has_there, high, its_cookie, its_uses, listed, more_left, none_left, removed_are, removed_state}
use Rattle.iscsi_requests.proofs.cookies.Cookies.use_less.Goals as goal

pub at-requires : goal.at-requires
at-requires c =
    let i = c.self.inside.kept in
    let there = has_there i c.self.invariant c.known.ensures.apart c.args.place (subst (λ (v : Cookies). has_place c.args.place v ≡ true) (sym c.self.view_is) c.requires) in
    high i c.self.invariant c.known.ensures.apart c.args.place there

pub set-requires : goal.set-requires
set-requires c =
    let i = c.self.inside.kept in
    let there = has_there i c.self.invariant c.known.ensures.apart c.args.place (subst (λ (v : Cookies). has_place c.args.place v ≡ true) (sym c.self.view_is) c.requires) in
    high i c.self.invariant c.known.ensures.apart c.args.place there

pub invariant_of-self : goal.invariant_of-self
invariant_of-self c =
    let i = c.self.inside.kept in
    let there = has_there i c.self.invariant c.known.ensures.apart c.args.place (subst (λ (v : Cookies). has_place c.args.place v ≡ true) (sym c.self.view_is) c.requires) in
    let read = ap (λ (x : Counted). x.uses) (c.at.ensures NO_COOKIE) in
    let some = c.if-uses-gt1.true in
    let fewer = (counted_at i.values c.args.place).uses - 1 in
    let is = c.set.ensures ∙ ap (λ (x : Counted). record i { values = set i.values c.args.place (record { cookie = x.cookie; uses = x.uses - 1 }) }) (c.at.ensures NO_COOKIE) in
    subst AreCookies (sym is) (changed_are i c.self.invariant c.known.ensures.apart c.args.place fewer there c.known.ensures.values (omega (arith, read, some)))

pub returns-then-uses-gt1-clause-answer : goal.returns-then-uses-gt1-clause-answer
returns-then-uses-gt1-clause-answer c =
    let i = c.self.inside.kept in
    let there = has_there i c.self.invariant c.known.ensures.apart c.args.place (subst (λ (v : Cookies). has_place c.args.place v ≡ true) (sym c.self.view_is) c.requires) in
    let read = ap (λ (x : Counted). x.uses) (c.at.ensures NO_COOKIE) in
    let some = c.if-uses-gt1.true in
    let left = more_left i c.self.invariant c.known.ensures.apart c.args.place there (omega (arith, read, some)) in
    sym (ap (λ b. cond b None (Some (cookie_at c.args.place (cookies_of i)))) left) ∙ ap (last_cookie c.args.place) c.self.view_is

pub returns-then-uses-gt1-clause-state : goal.returns-then-uses-gt1-clause-state
returns-then-uses-gt1-clause-state c =
    let i = c.self.inside.kept in
    let there = has_there i c.self.invariant c.known.ensures.apart c.args.place (subst (λ (v : Cookies). has_place c.args.place v ≡ true) (sym c.self.view_is) c.requires) in
    let read = ap (λ (x : Counted). x.uses) (c.at.ensures NO_COOKIE) in
    let some = c.if-uses-gt1.true in
    let left = more_left i c.self.invariant c.known.ensures.apart c.args.place there (omega (arith, read, some)) in
    let fewer = (counted_at i.values c.args.place).uses - 1 in
    let is = c.set.ensures ∙ ap (λ (x : Counted). record i { values = set i.values c.args.place (record { cookie = x.cookie; uses = x.uses - 1 }) }) (c.at.ensures NO_COOKIE) in
    let now = cookies_of i in
    ap cookies_of is
    ∙ changed_state i c.self.invariant c.known.ensures.apart c.args.place fewer there c.known.ensures.values
    ∙ ap (λ n. with_uses (n - 1) c.args.place now) (its_uses i c.self.invariant c.known.ensures.apart c.args.place there)
    ∙ sym (ap (λ b. cond b (with_uses (uses_at c.args.place now - 1) c.args.place now) (removed c.args.place now)) left)
    ∙ ap (used_less c.args.place) c.self.view_is

pub remove-requires : goal.remove-requires
remove-requires c =
    let i = c.self.inside.kept in
    let there = has_there i c.self.invariant c.known.ensures.apart c.args.place (subst (λ (v : Cookies). has_place c.args.place v ≡ true) (sym c.self.view_is) c.requires) in
    listed i c.self.invariant c.known.ensures.apart c.args.place there

pub invariant_of-self-2 : goal.invariant_of-self-2
invariant_of-self-2 c = subst AreCookies (sym c.remove.ensures.state) (removed_are c.self.inside.kept c.self.invariant c.known.ensures.apart c.args.place)

pub returns-clause-answer : goal.returns-clause-answer
returns-clause-answer c =
    let i = c.self.inside.kept in
    let there = has_there i c.self.invariant c.known.ensures.apart c.args.place (subst (λ (v : Cookies). has_place c.args.place v ≡ true) (sym c.self.view_is) c.requires) in
    let read = ap (λ (x : Counted). x.uses) (c.at.ensures NO_COOKIE) in
    let few = c.if-uses-gt1.false in
    let none = none_left i c.self.invariant c.known.ensures.apart c.args.place there (omega (arith, read, few)) in
    ap (λ (x : Counted). Some x.cookie) (c.at.ensures NO_COOKIE)
    ∙ ap Some (its_cookie i c.self.invariant c.known.ensures.apart c.args.place there)
    ∙ sym (ap (λ b. cond b None (Some (cookie_at c.args.place (cookies_of i)))) none)
    ∙ ap (last_cookie c.args.place) c.self.view_is

pub returns-clause-state : goal.returns-clause-state
returns-clause-state c =
    let i = c.self.inside.kept in
    let there = has_there i c.self.invariant c.known.ensures.apart c.args.place (subst (λ (v : Cookies). has_place c.args.place v ≡ true) (sym c.self.view_is) c.requires) in
    let read = ap (λ (x : Counted). x.uses) (c.at.ensures NO_COOKIE) in
    let few = c.if-uses-gt1.false in
    let none = none_left i c.self.invariant c.known.ensures.apart c.args.place there (omega (arith, read, few)) in
    let now = cookies_of i in
    ap cookies_of c.remove.ensures.state
    ∙ removed_state i c.self.invariant c.known.ensures.apart c.args.place
    ∙ sym (ap (λ b. cond b (with_uses (uses_at c.args.place now - 1) c.args.place now) (removed c.args.place now)) none)
    ∙ ap (used_less c.args.place) c.self.view_is
