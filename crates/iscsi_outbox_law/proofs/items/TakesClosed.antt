-- The connections that an item closes: their places in the steps, their CIDs in the rules.
use Rattle.std.proofs.Common.{◌≡◌, ℕ, suc, ◌+◌, ◌<◌, ◌≤◌, ◌==◌, ◌&&◌, ◌||◌, not, cond, Bool, true, false, List, [], ◌∷◌, ◌++◌, length, filter_map, Option, Some, None, refl, ap, sym, ◌∙◌, arith, eq-eqb, ne_eqb}
use Rattle.std.specs.List.{cons_option, list_any}
use Rattle.std.proofs.lemmas.List.Elements.{filter_map-append}
use Rattle.std.proofs.lemmas.Bool.{eqb-true, false≢true}
use Rattle.iscsi_rules.specs.declared.effect.Effect.{Effect}
use Rattle.iscsi_rules.specs.declared.effect.Effect.TheVariants.{Deliver, Immediate, Wait, Void, Empty, Enter, Enable, Leave, Send, CloseConn, CloseSession, Ignore}
use Rattle.iscsi_arrivals.specs.Counts.{Counts}
use Rattle.iscsi_outbox_rules.specs.rules.Calls.{Opening}
use Rattle.iscsi_outbox_rules.specs.rules.Boxes.{Link, Box}
use Rattle.iscsi_outbox_rules.specs.rules.Words.{contains}
use Rattle.iscsi_outbox_rules.specs.rules.Items.{closed_in as closed_in_box, conns_closed, newly_closed as newly_closed_box}
use Rattle.iscsi_outbox_steps.specs.State.{State, link_at, place_of}
use Rattle.iscsi_outbox_steps.specs.Steps.{as_list, closed_by, closed_in, counted_from, newly_closed}
use Rattle.iscsi_outbox_law.specs.private.Commands.{is_under_way, link_in}
use Rattle.iscsi_outbox_law.specs.private.Stands.{Stands}
use Rattle.iscsi_outbox_law.proofs.general.PlaceLemmas.{AreApart, IsPlace, any_at, any_nowhere, conns_of, none_here, one_place}
use Rattle.iscsi_outbox_law.proofs.connections.Standing.{as_many, counts_at, stands_nowhere, stands_there}

module _ (o : Opening) (s : State) (b : Box) (h : Stands o s b) (apart : AreApart (conns_of b.links)) where
  -- the place of a connection that is there
  pub place_there : (cid p : ℕ) → IsPlace b.links cid p → place_of s cid ≡ Some p
  place_there cid p at = by_place (place_of s cid) refl
    where
      by_place : (x : Option ℕ) → place_of s cid ≡ x → place_of s cid ≡ Some p
      by_place None none = absurd (none_here b.links cid p (stands_nowhere (is_under_way o b.links) o s b h cid none) at.within at.is)
      by_place (Some q) found =
          let k : IsPlace b.links cid q = stands_there (is_under_way o b.links) o s b h cid q found in
          found ∙ ap Some (one_place b.links q p apart k.within at.within (k.is ∙ sym at.is))

  counted_all : (n : ℕ) (cs : List Counts) (ms : List Link) → length cs ≡ length ms → n + length ms ≤ length b.links → ((i : ℕ) → i < length ms → link_in ms i ≡ link_in b.links (n + i)) → counted_from n cs ≡ filter_map (place_of s) (conns_of ms)
  counted_all n [] [] long within same = refl
  counted_all n [] (m ∷ ms) long within same = absurd (omega (arith, long))
  counted_all n (c ∷ cs) [] long within same = absurd (omega (arith, long))
  counted_all n (c ∷ cs) (m ∷ ms) long within same =
      let first : m ≡ link_in b.links n = same 0 (omega arith) ∙ ap (link_in b.links) (let z : n + 0 ≡ n = omega arith in z) in
      let here : place_of s m.conn ≡ Some n = place_there m.conn n (record { within = omega (arith, within); is = sym (ap (λ (l : Link). l.conn) first) }) in
      let rest : counted_from (n + 1) cs ≡ filter_map (place_of s) (conns_of ms) =
      counted_all (n + 1) cs ms (omega (arith, long)) (omega (arith, within)) (λ i lt. same (suc i) (omega (arith, lt)) ∙ ap (link_in b.links) (let z : n + suc i ≡ n + 1 + i = omega arith in z)) in
      ap (λ ns. n ∷ ns) rest
      ∙ sym (ap (λ (x : Option ℕ). cons_option x (filter_map (place_of s) (conns_of ms))) here)

  one_closed : (cid : ℕ) → as_list (place_of s cid) ≡ filter_map (place_of s) (cid ∷ [])
  one_closed cid = by_place (place_of s cid)
    where
      by_place : (x : Option ℕ) → as_list x ≡ cons_option x []
      by_place None = refl
      by_place (Some p) = refl

  closed_effect : (e : Effect) → closed_by s e ≡ filter_map (place_of s) (conns_closed b.links e)
  closed_effect (Deliver r) = refl
  closed_effect (Immediate r) = refl
  closed_effect (Wait r) = refl
  closed_effect (Void sn) = refl
  closed_effect (Empty sn) = refl
  closed_effect (Enter ticket unit attr) = refl
  closed_effect (Enable ticket unit) = refl
  closed_effect (Leave ticket unit) = refl
  closed_effect (Send conn stat_sn reply) = refl
  closed_effect (CloseConn cid) = one_closed cid
  closed_effect CloseSession = counted_all 0 s.links b.links (as_many (is_under_way o b.links) o s b h) (omega arith) (λ i lt. ap (link_in b.links) (let z : i ≡ 0 + i = omega arith in z))
  closed_effect (Ignore why) = refl

  closed_all : (item : List Effect) → closed_in s item ≡ filter_map (place_of s) (closed_in_box b item)
  closed_all [] = refl
  closed_all (e ∷ item) =
      ap (λ xs. xs ++ closed_in s item) (closed_effect e) ∙ ap (λ ys. filter_map (place_of s) (conns_closed b.links e) ++ ys) (closed_all item)
      ∙ sym (filter_map-append (place_of s) (conns_closed b.links e) (closed_in_box b item))

  newly_all : (cids : List ℕ) → newly_closed s (filter_map (place_of s) cids) ≡ filter_map (place_of s) (newly_closed_box b cids)
  newly_all [] = refl
  newly_all (cid ∷ cids) = by_place (place_of s cid) refl (newly_all cids)
    where
      was : Bool
      was = list_any (λ (l : Link). l.conn == cid && l.closed) b.links

      by_place : (x : Option ℕ) → place_of s cid ≡ x → newly_closed s (filter_map (place_of s) cids) ≡ filter_map (place_of s) (newly_closed_box b cids)
          → newly_closed s (cons_option x (filter_map (place_of s) cids))
          ≡ filter_map (place_of s) (cond (not was) (cid ∷ newly_closed_box b cids) (newly_closed_box b cids))
      by_place None none rest =
          rest
          ∙ sym (ap (λ (w : Bool). filter_map (place_of s) (cond (not w) (cid ∷ newly_closed_box b cids) (newly_closed_box b cids))) (any_nowhere (λ (l : Link). l.closed) b.links cid (stands_nowhere (is_under_way o b.links) o s b h cid none))
          ∙ ap (λ (x : Option ℕ). cons_option x (filter_map (place_of s) (newly_closed_box b cids))) none)
      by_place (Some p) found rest =
          let at : IsPlace b.links cid p = stands_there (is_under_way o b.links) o s b h cid p found in
          let closed : (link_at s p).closed ≡ was = (counts_at (is_under_way o b.links) o s b h p at.within).closed ∙ sym (any_at (λ (l : Link). l.closed) b.links cid p apart at.within at.is) in
          ap (λ (w : Bool). cond (not w) (p ∷ newly_closed s (filter_map (place_of s) cids)) (newly_closed s (filter_map (place_of s) cids))) closed
          ∙ elim was as (λ w. cond (not w) (p ∷ newly_closed s (filter_map (place_of s) cids)) (newly_closed s (filter_map (place_of s) cids)) ≡ filter_map (place_of s) (cond (not w) (cid ∷ newly_closed_box b cids) (newly_closed_box b cids))) [
            | true ↦ rest
            | false ↦ ap (λ ps. p ∷ ps) rest
                ∙ sym (ap (λ (x : Option ℕ). cons_option x (filter_map (place_of s) (newly_closed_box b cids))) found)
          ]

  -- those that no earlier item closed
  pub closes_are : (item : List Effect) → newly_closed s (closed_in s item) ≡ filter_map (place_of s) (newly_closed_box b (closed_in_box b item))
  closes_are item = ap (newly_closed s) (closed_all item) ∙ newly_all (closed_in_box b item)

  -- one of them is this one
  pub closes_this : (cid p : ℕ) → IsPlace b.links cid p → (cids : List ℕ) → list_any (λ q. q == p) (filter_map (place_of s) cids) ≡ contains cids cid
  closes_this cid p at [] = refl
  closes_this cid p at (c ∷ cids) = by_place (place_of s c) refl (closes_this cid p at cids)
    where
      by_place : (x : Option ℕ) → place_of s c ≡ x → list_any (λ q. q == p) (filter_map (place_of s) cids) ≡ contains cids cid
          → list_any (λ q. q == p) (cons_option x (filter_map (place_of s) cids)) ≡ ((c == cid) || contains cids cid)
      by_place None none rest =
          rest ∙ sym (ap (λ (w : Bool). w || contains cids cid) (ne_eqb c cid (λ same. (let e : None ≡ Some p = sym none ∙ ap (place_of s) same ∙ place_there cid p at in absurd cc))))
      by_place (Some q) found rest =
          ap (λ (w : Bool). (q == p) || w) rest ∙ ap (λ (w : Bool). w || contains cids cid) (by_same (c == cid) refl)
        where
          k : IsPlace b.links c q
          k = stands_there (is_under_way o b.links) o s b h c q found

          by_same : (w : Bool) → (c == cid) ≡ w → (q == p) ≡ (c == cid)
          by_same true is = eq-eqb q p (one_place b.links q p apart k.within at.within (k.is ∙ eqb-true c cid is ∙ sym at.is)) ∙ sym is
          by_same false isnt =
              ne_eqb q p (λ same. false≢true (sym isnt ∙ eq-eqb c cid (sym k.is ∙ ap (λ n. (link_in b.links n).conn) same ∙ at.is))) ∙ sym isnt
