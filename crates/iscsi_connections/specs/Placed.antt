-- What is kept of each connection, and the table that tells its place. For private contracts alone.
use Rattle.std.specs.Prelude.{◌≡◌, ℕ, ◌<◌, ◌≤◌, ◌&&◌, not, true, List, map, filter, length, slice_index_or, Option}
use Rattle.iscsi_window.specs.Windows.{is_asked}
use Rattle.iscsi_connections.specs.declared.connections.Connection.{Connection}
use Rattle.iscsi_connections.specs.Connected.{Connected}

abbrev pub cid_and_stat_sn : Connection → ℕ × ℕ
cid_and_stat_sn c = (c.cid, c.stat_sn)

abbrev pub cids_of : List Connection → List ℕ
cids_of list = map (λ c. c.cid) list

abbrev pub open_in : List Connection → List ℕ
open_in list = cids_of (filter (λ c. c.is_open) list)

abbrev pub connected : List Connection → Connected
connected list = record { conns = map cid_and_stat_sn list; open_conns = open_in list; immediate = map (λ c. c.immediate) list }

-- a connection that is new: it is open, and no command of it is live
abbrev pub new_connection : ℕ × ℕ → Connection
new_connection conn = record { cid = conn.0; stat_sn = conn.1; is_open = true; immediate = 0 }

-- a connection, after this one was closed, or all for None
abbrev pub closed_in : Option ℕ → Connection → Connection
closed_in whose c = record { cid = c.cid; stat_sn = c.stat_sn; is_open = c.is_open && not (is_asked whose c.cid); immediate = c.immediate }

-- what stands in the table for a CID of no connection
abbrev pub NOWHERE : ℕ
NOWHERE = 255

-- the table tells the places of the first `n` connections by their CIDs, and none for another CID
pub record TellsPlaces (places : List ℕ) (list : List Connection) (n : ℕ) : Type 0 where
  pub placed : (k : ℕ) (d : Connection) → k < n → slice_index_or places (slice_index_or list k d).cid NOWHERE ≡ k
  pub meant : (cid : ℕ) (d : Connection) → slice_index_or places cid NOWHERE < NOWHERE → (slice_index_or places cid NOWHERE < n) × ((slice_index_or list (slice_index_or places cid NOWHERE) d).cid ≡ cid)

-- the table tells the places of all connections, which are few
pub record ArePlaced (places : List ℕ) (list : List Connection) : Type 0 where
  pub few : length list ≤ 64
  pub told : TellsPlaces places list (length list)
