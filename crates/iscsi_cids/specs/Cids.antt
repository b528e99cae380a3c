-- CIDs and their places.
use Rattle.std.specs.Prelude.{◌≡◌, ℕ, ◌==◌, ◌<◌, ◌≤◌, List, length, position, Option, slice_index_or}

-- the CIDs, in order
pub record Named : Type 0 where
  pub cids : List ℕ

-- the place of the first connection with this CID
abbrev pub place_of : ℕ → List ℕ → Option ℕ
place_of cid cids = position (λ c. c == cid) cids

-- ---- the table. For private contracts alone

-- what stands in it for a CID of no connection
abbrev pub NOWHERE : ℕ
NOWHERE = 255

-- it tells the places of the first `n` connections by their CIDs, and none for another CID
pub record TellsPlaces (places : List ℕ) (cids : List ℕ) (n : ℕ) : Type 0 where
  pub placed : (k d : ℕ) → k < n → slice_index_or places (slice_index_or cids k d) NOWHERE ≡ k
  pub meant : (cid d : ℕ) → slice_index_or places cid NOWHERE < NOWHERE → (slice_index_or places cid NOWHERE < n) × (slice_index_or cids (slice_index_or places cid NOWHERE) d ≡ cid)

pub record ArePlaced (places : List ℕ) (cids : List ℕ) : Type 0 where
  pub few : length cids ≤ 64
  pub told : TellsPlaces places cids (length cids)
