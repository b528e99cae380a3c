-- What the session's other parts see of the connections, after one of them changed.
use Rattle.std.proofs.Common.{◌≡◌, ℕ, zero, suc, ◌<◌, List, [], ◌∷◌, length, map, get_or, set, Option, refl, ap, arith}
use Rattle.std.proofs.lemmas.List.{get_or-map, length-map}
use Rattle.iscsi_connections.specs.declared.connections.Connection.{Connection}
use Rattle.iscsi_connections.specs.Connected.{Connected, opened, still_open}
use Rattle.iscsi_connections.specs.Placed.{cid_and_stat_sn, cids_of, open_in, connected, new_connection, closed_in, ArePlaced}

-- ---- the table tells the same places of the same CIDs

cid_same : (list list' : List Connection) (k : ℕ) (d : Connection) → cids_of list' ≡ cids_of list → (length list' ≡ length list) × (k < length list → (get_or list' k d).cid ≡ (get_or list k d).cid)
cid_same list list' k d same =
    let cid : Connection → ℕ = λ c. c.cid in
    grind (arith, length-map list' cid, length-map list cid, get_or-map cid list' k d 0, get_or-map cid list k d 0)

pub placed_same : (places : List ℕ) (list list' : List Connection) → cids_of list' ≡ cids_of list → ArePlaced places list → ArePlaced places list'
placed_same places list list' same are = record {
  few = grind (arith, cid_same list list' 0 (new_connection (0, 0)) same, are.few);
  told = record {
    placed = λ k d within. grind (arith, cid_same list list' k d same, are.told.placed k d);
    meant = λ cid d some. grind (arith, cid_same list list' (get_or places cid 255) d same, are.told.meant cid d some);
  };
}

-- ---- one connection changed, and not its CID

pub open_set : (list : List Connection) (k : ℕ) (new : Connection) → new.cid ≡ (get_or list k new).cid → new.is_open ≡ (get_or list k new).is_open → open_in (set list k new) ≡ open_in list
open_set [] k new cid_is open_is = refl
open_set (c ∷ list) zero new cid_is open_is = grind arith
open_set (c ∷ list) (suc k) new cid_is open_is = grind (arith, open_set list k new)

-- ---- closing

map-map : {A B C : Type 0} (g : B → C) (f : A → B) (xs : List A) → map g (map f xs) ≡ map (λ x. g (f x)) xs
map-map g f [] = refl
map-map g f (x ∷ xs) = ap (λ ys. g (f x) ∷ ys) (map-map g f xs)

pub cids_closed : (whose : Option ℕ) (list : List Connection) → cids_of (map (closed_in whose) list) ≡ cids_of list
cids_closed whose list = map-map (λ (c : Connection). c.cid) (closed_in whose) list

open_closed : (whose : Option ℕ) (list : List Connection) → open_in (map (closed_in whose) list) ≡ still_open whose (open_in list)
open_closed whose [] = refl
open_closed whose (c ∷ list) = grind (arith, open_closed whose list)

pub view_closed : (whose : Option ℕ) (list : List Connection) → connected (map (closed_in whose) list) ≡ (let old : Connected = connected list in record old { open_conns = still_open whose old.open_conns })
view_closed whose list = cc (map-map cid_and_stat_sn (closed_in whose) list, open_closed whose list, map-map (λ (c : Connection). c.immediate) (closed_in whose) list)

-- ---- opening

pub conns_opened : (conns : List (ℕ × ℕ)) → map cid_and_stat_sn (map new_connection conns) ≡ conns
conns_opened [] = refl
conns_opened (c ∷ conns) = ap (λ cs. c ∷ cs) (conns_opened conns)

pub view_opened : (conns : List (ℕ × ℕ)) → connected (map new_connection conns) ≡ opened conns
view_opened [] = refl
view_opened (c ∷ conns) = ap (λ (s : Connected). let one : Connected = record { conns = c ∷ s.conns; open_conns = c.0 ∷ s.open_conns; immediate = 0 ∷ s.immediate } in one) (view_opened conns)
