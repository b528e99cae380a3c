use Rattle.std.proofs.Common.{sym, ap, ◌∙◌}
use Rattle.iscsi_requests.specs.Cookies.{next_place}
use Rattle.iscsi_ffi_steps.specs.Walk.{Doing}
use Rattle.iscsi_ffi_desk.proofs.PlaceLemmas.{no_place, none_enters}
use Rattle.iscsi_ffi_desk.proofs.desk.Desk.enter_request.Goals as goal

pub returns-then-is_full-clause-answer : goal.returns-then-is_full-clause-answer
returns-then-is_full-clause-answer c =
    sym (no_place c.self.inside.cookies c.known.ensures (c.is_full.ensures.yes c.if-is_full.true)) ∙ ap (λ (d : Doing). next_place d.state.cookies) c.self.view_is

pub returns-then-is_full-clause-state : goal.returns-then-is_full-clause-state
returns-then-is_full-clause-state c =
    none_enters c.args.cookie c.args.self.now
    (ap (λ (d : Doing). next_place d.state.cookies) (sym c.self.view_is) ∙ no_place c.self.inside.cookies c.known.ensures (c.is_full.ensures.yes c.if-is_full.true))
