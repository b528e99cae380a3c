use Rattle.std.proofs.Common.{◌∙◌, sym}
use Rattle.iscsi_window.proofs.FilledLemmas.{none_of_word}
use Rattle.iscsi_window.proofs.place_tags.PlaceTags.may_have.Goals as goal

pub returns-else-index-itt-clause-none : goal.returns-else-index-itt-clause-none
returns-else-index-itt-clause-none c = λ none i small. none_of_word c.args.self.now c.word_of.result.now _ c.args.itt c.word_of.ensures.tags c.word_of.ensures.len (sym c.has_tag.ensures ∙ none) i small
