use Rattle.std.proofs.Common.{◌∙◌, ap}
use Rattle.iscsi_requests.specs.Cookies.{has_place}
use Rattle.iscsi_requests.proofs.CookieLemmas.{has_is}
use Rattle.iscsi_requests.proofs.cookies.Cookies.has.Goals as goal

pub returns : goal.returns
returns c =
    has_is c.self.inside.kept c.self.invariant c.known.ensures.apart c.args.place c.holds.result c.holds.ensures.yes c.holds.ensures.no
    ∙ ap (has_place c.args.place) c.self.view_is
