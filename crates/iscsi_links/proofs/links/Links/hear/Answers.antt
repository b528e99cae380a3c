use Rattle.std.proofs.Common.{◌<◌, length, ap, set, sym, subst, ◌∙◌}
use Rattle.std.proofs.lemmas.List.{get_or_default}
use Rattle.iscsi_arrivals.specs.Counts.{Counts, heard_by, new_counts}
use Rattle.iscsi_links.specs.Links.{AreCounted, Links}
use Rattle.iscsi_links.proofs.LinkLemmas.{heard_counted}
use Rattle.iscsi_links.proofs.links.Links.hear.Goals as goal

pub invariant_of-self : goal.invariant_of-self
invariant_of-self c =
    let i = c.self.inside in
    let within : c.args.place < length i.list.items = subst (λ (v : Links). c.args.place < length v.links) (sym c.self.view_is) c.requires in
    subst (λ (l : Counts). AreCounted (set i.list.items c.args.place l) i.looks i.busy i.usable i.shut)
    (sym (c.hear.ensures.state ∙ ap (heard_by c.args.exp_stat_sn c.args.transfer_tag) (c.index_mut-conn.ensures.value ∙ get_or_default i.list.items c.args.place _ new_counts within)))
    (heard_counted i.list.items c.args.place c.args.exp_stat_sn c.args.transfer_tag i.looks i.busy i.usable i.shut c.if-self.false c.self.invariant within)
