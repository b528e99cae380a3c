use Rattle.std.proofs.Common.{sym, ap, ◌∙◌}
use Rattle.iscsi_requests.specs.Cookies.{cookie_at}
use Rattle.iscsi_ffi_steps.specs.Walk.{Doing}
use Rattle.iscsi_ffi_desk.proofs.AskLemmas.{no_cookie}
use Rattle.iscsi_ffi_desk.proofs.desk.Desk.cookie.Goals as goal

pub returns-else-has : goal.returns-else-has
returns-else-has c = sym (ap (λ (d : Doing). cookie_at c.args.request d.state.cookies) (sym c.self.view_is) ∙ no_cookie c.args.request c.self.inside.cookies (sym c.has.ensures ∙ c.if-has.false))
