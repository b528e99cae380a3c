use Rattle.std.proofs.Common.{◌≡◌, ◌<◌, length, get_or, ap, sym, subst, ◌∙◌, arith}
use Rattle.std.proofs.lemmas.Bool.{false≢true}
use Rattle.std.proofs.lemmas.List.{get_or_read}
use Rattle.iscsi_commands.specs.Log.{tag_at, group_of, IsLiveAt}
use Rattle.iscsi_commands.proofs.TagIndexLemmas.{place_below, entered_first}
use Rattle.iscsi_commands.proofs.tag_index.TagIndex.enter.Goals as goal

pub enter_apart-requires-clause-taken : goal.enter_apart-requires-clause-taken
enter_apart-requires-clause-taken c =
    let places = c.args.self.now.places.items in
    let group : c.group_of-group.result ≡ group_of (tag_at c.args.log.now c.args.k) = c.group_of-group.ensures ∙ ap (λ e. group_of e.command.itt) c.entry_at.ensures in
    let inside : c.group_of-group.result < length places = let below = place_below c.requires.tagged (tag_at c.args.log.now c.args.k) in omega (arith, below, group) in
    let is : c.from.result ≡ get_or places (group_of (tag_at c.args.log.now c.args.k)) 0 = c.from.ensures ∙ get_or_read places c.group_of-group.result c.index.result.now inside c.index.ensures 0 ∙ ap (λ n. get_or places n 0) group in
    let taken = (c.is_taken.ensures.yes c.if-is_taken.true).0 in
    omega (arith, taken, is)

pub returns-else-is_taken-clause-tagged : goal.returns-else-is_taken-clause-tagged
returns-else-is_taken-clause-tagged c =
    let places = c.args.self.now.places.items in
    let group : c.group_of-group.result ≡ group_of (tag_at c.args.log.now c.args.k) = c.group_of-group.ensures ∙ ap (λ e. group_of e.command.itt) c.entry_at.ensures in
    let inside : c.group_of-group.result < length places = let below = place_below c.requires.tagged (tag_at c.args.log.now c.args.k) in omega (arith, below, group) in
    let is : c.from.result ≡ get_or places c.group_of-group.result 0 = c.from.ensures ∙ get_or_read places c.group_of-group.result c.index.result.now inside c.index.ensures 0 in
    entered_first c.args.log.now c.args.k c.requires.tagged c.requires.place c.requires.live c.group_of-group.result group
    (λ before live same.
    false≢true (sym c.if-is_taken.false ∙ c.is_taken.ensures.no (omega (arith, before, is)) (subst (IsLiveAt c.args.log.now) (sym is) live) (ap (λ n. group_of (tag_at c.args.log.now n)) is ∙ same)))
