-- The first of those that are due is the answer that is due first, and what stands there without it is the rest.
use Rattle.std.proofs.Common.{◌≡◌, ℕ, ◌≤◌, List, [], Some, ap, sym, ◌∙◌}
use Rattle.iscsi_slots.specs.Slots.{times}
use Rattle.iscsi_lists.specs.Lists.{first_of, without}
use Rattle.iscsi_outbox_state.specs.declared.lane.Standing.{Standing}
use Rattle.iscsi_outbox_state.specs.Lane.{due_behind, others_behind}
use Rattle.iscsi_scopes.specs.Scopes.{Scoped}
use Rattle.iscsi_lane.specs.Standings.{standings}
use Rattle.iscsi_lane.specs.Scoping.{told}
use Rattle.iscsi_lane.specs.Following.{Follows}
use Rattle.iscsi_lane.proofs.DueLemmas.{AllTold, answer_of, first_is}
use Rattle.iscsi_lane.proofs.AfterLemmas.{first_some, others_are}

module _ (units tags : Scoped) (xs : List Standing) (order due : List ℕ) (f : Follows units tags xs order due) (all : AllTold xs (told units tags xs) [] order) (once : (s : ℕ) → times s order ≤ 1) where
  pub result_is : due_behind [] (standings xs order) ≡ answer_of xs (first_of due)
  result_is = first_is xs (told units tags xs) [] order all ∙ ap (λ d. answer_of xs (first_of d)) (sym f.is_due)

  pub left_are : (s : ℕ) → first_of due ≡ Some s → others_behind [] (standings xs order) ≡ standings xs (without s order)
  left_are s first =
      others_are xs (told units tags xs) [] order all
      ∙ ap (standings xs) (first_some xs (told units tags xs) order s (once s) (ap first_of (sym f.is_due) ∙ first))
