use Rattle.std.proofs.Common.{◌≡◌, ◌<◌, None, subst}
use Rattle.iscsi_requests.specs.Conns.{count_all}
use Rattle.iscsi_requests.specs.Unwritten.{Unwritten}
use Rattle.iscsi_requests.proofs.ValueLemmas.{all_there, fewer_there}
use Rattle.iscsi_requests.proofs.unwritten.Unwritten.is_full.Goals as goal

pub returns-clause-yes : goal.returns-clause-yes
returns-clause-yes c full =
    subst (λ (v : Unwritten). count_all v.handed ≡ v.room) c.self.view_is (all_there None c.self.inside.kept c.known.ensures.apart (c.is_full.ensures.yes full))

pub returns-clause-no : goal.returns-clause-no
returns-clause-no c not_full =
    subst (λ (v : Unwritten). count_all v.handed < v.room) c.self.view_is (fewer_there None c.self.inside.kept c.known.ensures.apart (c.is_full.ensures.some not_full))
