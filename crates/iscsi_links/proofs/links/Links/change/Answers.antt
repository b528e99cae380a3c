use Rattle.std.proofs.Common.{◌<◌, ◌∙◌, List, length, get_or, not, ap, subst, arith}
use Rattle.std.proofs.lemmas.List.{length-set}
use Rattle.std.proofs.lemmas.List.Sums.{prefix_len-le-length}
use Rattle.iscsi_arrivals.specs.Counts.{Counts, is_usable_by, new_counts}
use Rattle.iscsi_links.proofs.LinkLemmas.{before_with, here_with}
use Rattle.iscsi_links.proofs.links.Links.change.Goals as goal

pub usable_with-self-inside-requires-clause-first : goal.usable_with-self-inside-requires-clause-first
usable_with-self-inside-requires-clause-first c =
    let i = c.self.inside in
    let a = c.self.invariant.first in
    let b = prefix_len-le-length (λ (l : Counts). not (is_usable_by l)) i.list.items in
    let d = ap length c.deref.ensures.value ∙ length-set i.list.items c.args.which c.args.new in omega (arith, a, b, d)

pub usable_with-self-inside-requires-clause-before : goal.usable_with-self-inside-requires-clause-before
usable_with-self-inside-requires-clause-before c = λ j l other.
    let i = c.self.inside in
    ap (λ (ls : List Counts). is_usable_by (get_or ls j new_counts)) c.deref.ensures.value ∙ before_with i.list.items c.args.which c.args.new i.usable c.self.invariant.first j l other

pub usable_with-self-inside-requires-clause-here : goal.usable_with-self-inside-requires-clause-here
usable_with-self-inside-requires-clause-here c = λ l other.
    let i = c.self.inside in
    ap (λ (ls : List Counts). is_usable_by (get_or ls i.usable new_counts)) c.deref.ensures.value
    ∙ here_with i.list.items c.args.which c.args.new i.usable c.self.invariant.first (subst (λ (ls : List Counts). i.usable < length ls) c.deref.ensures.value l) other
