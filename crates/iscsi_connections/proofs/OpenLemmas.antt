-- Which connections are open.
use Rattle.std.proofs.Common.{◌≡◌, ℕ, zero, suc, ◌<◌, ◌==◌, not, true, false, List, [], ◌∷◌, length, map, get_or, position, Some, None, refl, arith}
use Rattle.std.proofs.lemmas.Bool.{eqb-true, ne_eqb}
use Rattle.std.proofs.lemmas.Bool.Decides.{nat_tests}
use Rattle.std.proofs.lemmas.List.{get_or-map}
use Rattle.std.proofs.lemmas.List.Quantifiers.{position-Some}
use Rattle.std.specs.List.{list_any}
use Rattle.iscsi_connections.specs.declared.connections.Connection.{Connection}
use Rattle.iscsi_connections.specs.Connected.{is_among_open}
use Rattle.iscsi_connections.specs.Placed.{cid_and_stat_sn, open_in, ArePlaced}
use Rattle.iscsi_connections.proofs.PlaceLemmas.{has_cid}
use Rattle.iscsi_connections.proofs.ChangeLemmas.{within}

none_with : (cid : ℕ) (list : List Connection) → ((j : ℕ) (d : Connection) → j < length list → ((get_or list j d).cid == cid) ≡ false) → is_among_open cid (open_in list) ≡ false
none_with cid [] apart = refl
none_with cid (c ∷ list) apart = grind (arith, none_with cid list (λ j d h. apart (suc j) d (omega arith)), apart 0 c)

one_with : (cid : ℕ) (list : List Connection) (k : ℕ) (read : Connection) → k < length list → read ≡ get_or list k read → (read.cid == cid) ≡ true
    → ((j : ℕ) (d : Connection) → j < length list → ((j ≡ k) → ⊥) → ((get_or list j d).cid == cid) ≡ false)
    → is_among_open cid (open_in list) ≡ read.is_open
one_with cid [] k read here is has apart = absurd (omega (arith, here))
one_with cid (c ∷ list) zero read here is has apart = grind (arith, none_with cid list (λ j d h. apart (suc j) d (omega arith) (omega arith)))
one_with cid (c ∷ list) (suc k) read here is has apart =
    let rest = one_with cid list k read (omega (arith, here)) is has (λ j d h other. apart (suc j) d (omega arith) (λ e. other (omega (arith, e)))) in
    grind (arith, apart 0 c)

pub open_nowhere : (list : List Connection) (cid : ℕ) → position (has_cid cid) (map cid_and_stat_sn list) ≡ None → false ≡ is_among_open cid (open_in list)
open_nowhere [] cid none = refl
open_nowhere (c ∷ list) cid none = grind (arith, nat_tests, open_nowhere list cid)

pub open_at : (places : List ℕ) (list : List Connection) → ArePlaced places list → (cid k : ℕ) → position (has_cid cid) (map cid_and_stat_sn list) ≡ Some k → (read : Connection) → read ≡ get_or list k read → read.is_open ≡ is_among_open cid (open_in list)
open_at places list are cid k found read is =
    let has = position-Some (has_cid cid) (map cid_and_stat_sn list) k (cid_and_stat_sn read) found in
    grind (arith, nat_tests, one_with, ne_eqb, within list cid k found read is, has.1, get_or-map, eqb-true)

pub none_open : (list : List Connection) → not (list_any (λ (c : Connection). c.is_open) list) ≡ (length (open_in list) == 0)
none_open [] = refl
none_open (c ∷ list) = grind (arith, nat_tests, none_open list)
