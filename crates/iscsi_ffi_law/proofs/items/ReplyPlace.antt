-- The connection that a reply goes out on has a place, by both.
use Rattle.std.proofs.Common.{◌≡◌, ℕ, ◌==◌, ◌&&◌, true, Option, Some, None, refl, ap, sym, ◌∙◌}
use Rattle.std.specs.List.{list_any}
use Rattle.std.proofs.lemmas.Bool.{eqb-true}
use Rattle.iscsi_rules.specs.rules.Settings.{are_distinct}
use Rattle.iscsi_rules.proofs.general.BoolLemmas.{and_parts}
use Rattle.iscsi_outbox_rules.specs.rules.Boxes.{Box, Link}
use Rattle.iscsi_outbox_rules.specs.rules.Calls.{Opening}
use Rattle.iscsi_outbox_rules.specs.rules.Queues.{takes_more}
use Rattle.iscsi_outbox_rules.specs.rules.Run.{new_link}
use Rattle.iscsi_outbox_law.specs.private.Commands.{is_under_way, link_in}
use Rattle.iscsi_outbox_law.specs.private.Stands.{Stands as OutboxStands}
use Rattle.iscsi_outbox_law.proofs.general.PlaceLemmas.{AreApart as LinksApart, IsPlace, conns_of, none_here, one_place}
use Rattle.iscsi_outbox_law.proofs.connections.Standing.{links_apart, stands_nowhere, stands_there}
use Rattle.iscsi_outbox_steps.specs.State.{State as OutboxState, place_of}
use Rattle.iscsi_ffi_law.proofs.general.Members.{PassingAt, any_at}

module _ (opening : Opening) (o : OutboxState) (b : Box) (stands : OutboxStands opening o b) (distinct : are_distinct opening.session.conns ≡ true) (cid : ℕ) (takes : list_any (λ (l : Link). l.conn == cid && takes_more l) b.links ≡ true) where
  pub there : PassingAt (λ (l : Link). l.conn == cid && takes_more l) b.links (new_link 0)
  there = any_at (λ (l : Link). l.conn == cid && takes_more l) b.links (new_link 0) takes

  pub conn_is : (link_in b.links there.place).conn ≡ cid
  conn_is = eqb-true (link_in b.links there.place).conn cid (and_parts ((link_in b.links there.place).conn == cid) (takes_more (link_in b.links there.place)) there.passes).0

  pub takes_it : takes_more (link_in b.links there.place) ≡ true
  takes_it = (and_parts ((link_in b.links there.place).conn == cid) (takes_more (link_in b.links there.place)) there.passes).1

  apart_links : LinksApart (conns_of b.links)
  apart_links = links_apart (is_under_way opening b.links) opening o b stands distinct

  pub place_is : place_of o cid ≡ Some (there.place)
  place_is = by_place (place_of o cid) refl
    where
      by_place : (z : Option ℕ) → place_of o cid ≡ z → z ≡ Some (there.place)
      by_place None none = absurd (none_here b.links cid there.place (stands_nowhere (is_under_way opening b.links) opening o b stands cid none) there.within conn_is)
      by_place (Some q) found =
          let at : IsPlace b.links cid q = stands_there (is_under_way opening b.links) opening o b stands cid q found in
          ap (λ (v : ℕ). Some v) (one_place b.links q there.place apart_links at.within there.within (at.is ∙ sym conn_is))
