-- The place of a request, and its event.
use Rattle.std.proofs.Common.{◌≡◌, ℕ, ◌≤◌, ◌==◌, ⊎_elim, List, count_by, find, Option, Some, None, option_map, refl, ap, sym, ◌∙◌, arith, ne_eqb}
use Rattle.std.proofs.lemmas.Bool.{eqb-true, eq-eqb, cases_eq}
use Rattle.iscsi_rules.proofs.general.ElementLemmas.{In}
use Rattle.iscsi_ffi_law.specs.Names.{Name, Note, is_of_event, place_named}
use Rattle.iscsi_ffi_law.specs.Parts.{AreApart}
use Rattle.iscsi_ffi_law.proofs.general.Members.{find_in, in_find, two_counted}

-- the request of an event
pub record Named (names : List Name) (event place : ℕ) : Type 0 where
  pub name : Name
  pub there : In name names
  pub event_is : name.event ≡ event
  pub place_is : name.place ≡ place

pub found_named : (names : List Name) (event place : ℕ) → place_named names event ≡ Some place → Named names event place
found_named names event place h = by_found (find (is_of_event event) names) refl h
  where
    by_found : (x : Option Name) → find (is_of_event event) names ≡ x → option_map (λ (n : Name). n.place) x ≡ Some place → Named names event place
    by_found None is k = absurd cc
    by_found (Some n) is k =
        let found = find_in (is_of_event event) names n is in
        record { name = n; there = found.0; event_is = eqb-true n.event event found.1; place_is = (let same : n.place ≡ place = cc in same) }

module _ (names : List Name) (notes : List Note) (apart : AreApart names notes) where
  pub same_event : (n m : Name) → In n names → In m names → n.event ≡ m.event → n ≡ m
  same_event n m h k same = two_counted (λ (x : Name). x.event == m.event) names n m (apart.events m.event) h k (eq-eqb n.event m.event same) (eq-eqb m.event m.event refl)

  pub same_place : (n m : Name) → In n names → In m names → n.place ≡ m.place → n ≡ m
  same_place n m h k same =
      let few : count_by (λ (x : Name). x.place == m.place) names ≤ 1 = omega (arith, apart.places m.place) in
      two_counted (λ (x : Name). x.place == m.place) names n m few h k (eq-eqb n.place m.place same) (eq-eqb m.place m.place refl)

  pub name_place : (n : Name) → In n names → place_named names n.event ≡ Some n.place
  name_place n h =
      let found = in_find (is_of_event n.event) names n h (eq-eqb n.event n.event refl) in
      let m : Name = found.0 in
      let there = find_in (is_of_event n.event) names found.0 found.1 in
      let same : found.0 ≡ n = same_event found.0 n there.0 h (eqb-true found.0.event n.event there.1) in
      ap (option_map (λ (x : Name). x.place)) found.1 ∙ ap (λ (x : Name). Some x.place) same

  -- the place is that of a request just where the event is
  pub place_event : (n : Name) (event place : ℕ) → In n names → place_named names event ≡ Some place → (place == n.place) ≡ (event == n.event)
  place_event n event place h named =
      let f : Named names event place = found_named names event place named in
      ⊎_elim
      (λ same.
      let one : f.name ≡ n = same_place f.name n f.there h (f.place_is ∙ same) in
      eq-eqb place n.place same ∙ sym (eq-eqb event n.event (sym f.event_is ∙ ap (λ (x : Name). x.event) one)))
      (λ other. ne_eqb place n.place other ∙ sym (ne_eqb event n.event (λ same.
      let one : f.name ≡ n = same_event f.name n f.there h (f.event_is ∙ same) in
      other (sym f.place_is ∙ ap (λ (x : Name). x.place) one))))
      (cases_eq place n.place)
