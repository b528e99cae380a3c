-- What the handles of threads promise, and what their threads give back.
use Rattle.std.specs.Prelude.{◌≡◌, ℕ, ◌<◌, Bool, List, slice_index_or, Vec}
use Rattle.std.specs.declared.alloc.Global.{Global}
use Rattle.std.specs.declared.thread.PromisedHandle.{PromisedHandle}
use Rattle.iscsi_threads.specs.declared.port.Port.{Port}
use Rattle.iscsi_threads.specs.declared.port.UnitPort.{UnitPort}
use Rattle.iscsi_threads.specs.declared.posting.Posted.{Posted}
use Rattle.iscsi_threads.specs.declared.posting.Posts.{Posts}
use Rattle.iscsi_threads.specs.declared.working.Works.{Works}
use Rattle.iscsi_threads.specs.rules.Ports.{unit_rings}
use Rattle.iscsi_threads.specs.private.Posting.{HasPosted}
use Rattle.iscsi_threads.specs.rules.Works.{InTurn}

-- the first n handles are those of the ports with their lists, in order
abbrev pub AllPosts : List (PromisedHandle Posted Posts) → List Port → List (Vec (List ℕ) Global) → ℕ → Type 0
AllPosts hs ports lists n =
    (i : ℕ) (h : PromisedHandle Posted Posts) (p : Port) (l : Vec (List ℕ) Global) → i < n
    → ((slice_index_or hs i h).promise.port.value ≡ slice_index_or ports i p) × ((slice_index_or hs i h).promise.list.now ≡ (slice_index_or lists i l).items)

-- the first n ports are those of the handles, in order: each is the same end, on which its list was posted, or a front of it,
-- and where they are said to be whole, the whole of it
abbrev pub AllPostedOn : List (PromisedHandle Posted Posts) → List Port → Bool → ℕ → Type 0
AllPostedOn hs ports are_whole n =
    (i : ℕ) (h : PromisedHandle Posted Posts) (q : Port) → i < n
    → HasPosted (slice_index_or hs i h).promise.port.value (slice_index_or hs i h).promise.list.now (slice_index_or ports i q) are_whole

-- the first n handles are those of the unit ports, in order
abbrev pub AllWorks : List (PromisedHandle UnitPort Works) → List UnitPort → ℕ → Type 0
AllWorks hs ports n = (i : ℕ) (h : PromisedHandle UnitPort Works) (p : UnitPort) → i < n → (slice_index_or hs i h).promise.port.value ≡ slice_index_or ports i p

-- the first n unit ports are those of the handles, in order: each is the same end, and its jobs were answered in turn
abbrev pub AllWorkedOn : List (PromisedHandle UnitPort Works) → List UnitPort → ℕ → Type 0
AllWorkedOn hs ports n =
    (i : ℕ) (h : PromisedHandle UnitPort Works) (q : UnitPort) → i < n
    → (unit_rings (slice_index_or ports i q) ≡ unit_rings (slice_index_or hs i h).promise.port.value) × InTurn (slice_index_or ports i q)
