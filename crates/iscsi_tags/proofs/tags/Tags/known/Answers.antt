use Rattle.std.proofs.Common.{subst, vec_capacity}
use Rattle.iscsi_tags.specs.Tags.{AreTags}
use Rattle.iscsi_tags.proofs.TagLemmas.{are_tags}
use Rattle.iscsi_tags.proofs.tags.Tags.known.Goals as goal

pub returns : goal.returns
returns c =
    let i = c.self.inside in
    subst AreTags c.self.view_is (are_tags i.tags.items i.free.items (vec_capacity i.tags) (vec_capacity i.free) i.room c.self.invariant)
