use Rattle.std.proofs.Common.{◌≡◌, ◌<◌, length, get_or, ap, sym, subst, ◌∙◌, arith}
use Rattle.std.proofs.lemmas.Bool.{false≢true}
use Rattle.std.proofs.lemmas.List.{get_or_read}
use Rattle.std.proofs.lemmas.Bool.Decides.{nat_tests}
use Rattle.iscsi_commands.specs.Log.{tag_at, group_of, IsLiveAt}
use Rattle.iscsi_commands.proofs.TagIndexLemmas.{place_below, other_live, other_within, no_tagged}
use Rattle.iscsi_commands.proofs.tag_index.TagIndex.find.Goals as goal

pub count_below-place-requires-clause-within : goal.count_below-place-requires-clause-within
count_below-place-requires-clause-within c = other_within c.requires

pub entry_at-requires : goal.entry_at-requires
entry_at-requires c = grind (arith, nat_tests, other_within)

pub returns-then-entry_at-itt : goal.returns-then-entry_at-itt
returns-then-entry_at-itt c = grind (arith, nat_tests, other_live)

pub returns-else-entry_at-itt : goal.returns-else-entry_at-itt
returns-else-entry_at-itt c = grind (arith, nat_tests, place_below c.requires c.args.itt, get_or_read, no_tagged)

pub returns-else-place-len : goal.returns-else-place-len
returns-else-place-len c =
    let places = c.args.self.now.places.items in
    let found = c.count_below-place.ensures in
    let over = c.if-place-len.false in let long = c.len.ensures.len in
    let inside : c.group_of-group.result < length places = let below = place_below c.requires c.args.itt in let is = c.group_of-group.ensures in omega (arith, below, is) in
    let first : c.from-at.result ≡ get_or places (group_of c.args.itt) 0 = c.from-at.ensures ∙ get_or_read places c.group_of-group.result c.index.result.now inside c.index.ensures 0 ∙ ap (λ n. get_or places n 0) c.group_of-group.ensures in
    no_tagged c.requires c.args.itt c.count_below-place.result found.below found.above
    (λ live tag. false≢true (sym c.if-is_live_with.false ∙ c.is_live_with.ensures.no (subst (IsLiveAt c.args.log.now) (sym first) live) (ap (tag_at c.args.log.now) first ∙ tag)))
    (λ l. absurd (omega (arith, l, over, long)))
