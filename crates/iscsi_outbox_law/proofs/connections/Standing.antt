-- A connection of what stands for a box.
use Rattle.std.proofs.Common.{◌≡◌, ℕ, ◌<◌, ◌==◌, ◌||◌, Bool, true, false, List, [], ◌∷◌, length, map, Some, None, refl, ap, sym, subst, ◌∙◌}
use Rattle.std.specs.List.{list_any}
use Rattle.iscsi_rules.specs.rules.Settings.{are_distinct}
use Rattle.iscsi_arrivals.specs.Counts.{new_counts}
use Rattle.iscsi_arrivals.specs.Standing.{StandsFor}
use Rattle.iscsi_outbox_rules.specs.rules.Calls.{Opening}
use Rattle.iscsi_outbox_rules.specs.rules.Boxes.{Box}
use Rattle.iscsi_outbox_rules.specs.rules.Run.{new_link}
use Rattle.iscsi_outbox_steps.specs.State.{State, Limits, link_at, place_of}
use Rattle.iscsi_outbox_law.specs.private.Commands.{link_in}
use Rattle.iscsi_outbox_law.specs.private.Stands.{StandsWith}
use Rattle.iscsi_outbox_law.proofs.general.PairLemmas.{pairs-at, pairs-length}
use Rattle.iscsi_outbox_law.proofs.general.PlaceLemmas.{AreApart, IsPlace, conns_of, distinct_apart, place_found, place_nowhere}

pub any_same : {A : Type 0} (p q : A → Bool) (xs : List A) → ((x : A) → p x ≡ q x) → list_any p xs ≡ list_any q xs
any_same p q [] same = refl
any_same p q (x ∷ xs) same = ap (λ (v : Bool). v || list_any p xs) (same x) ∙ ap (λ (v : Bool). q x || v) (any_same p q xs same)

module _ (under : ℕ → Bool) (o : Opening) (s : State) (b : Box) (h : StandsWith under o s b) where
  pub cids_are : s.limits.cids ≡ map (λ (c : ℕ × ℕ). c.0) o.session.conns
  cids_are = ap (λ (l : Limits). l.cids) h.sizes.limits

  pub links_apart : are_distinct o.session.conns ≡ true → AreApart (conns_of b.links)
  links_apart distinct = subst AreApart (sym (h.links.conns ∙ cids_are)) (distinct_apart o.session.conns distinct)

  pub stands_there : (cid p : ℕ) → place_of s cid ≡ Some p → IsPlace b.links cid p
  stands_there cid p found = place_found s.limits.cids b.links cid p h.links.conns found

  pub stands_nowhere : (cid : ℕ) → place_of s cid ≡ None → list_any (λ k. k == cid) (conns_of b.links) ≡ false
  stands_nowhere cid none = place_nowhere s.limits.cids b.links cid h.links.conns none

  pub as_many : length s.links ≡ length b.links
  as_many = pairs-length StandsFor s.links b.links h.links.each

  pub counts_at : (p : ℕ) → p < length b.links → StandsFor (link_at s p) (link_in b.links p)
  counts_at p within = pairs-at StandsFor s.links b.links p new_counts (new_link 0) within h.links.each
