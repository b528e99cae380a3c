-- The replies that wait, as callers see them, and what becomes of them.
use Rattle.std.specs.Prelude.{◌≡◌, ◌≢◌, ℕ, ◌<◌, ◌≤◌, ◌==◌, not, Bool, List, [], ◌∷◌, ◌++◌, length, find, filter, map, replicate, All, Option, Some, None, option_map, slice_index_or}
use Rattle.std.specs.Option.{ForSome}
use Rattle.std.specs.List.{AllPairs}
use Rattle.iscsi_requests.specs.declared.replies.WaitingReply.{WaitingReply}
use Rattle.iscsi_requests.specs.Conns.{count_all, of_conn, oldest, with_newest, without_oldest}

pub record WaitingReplies : Type 0 where
  pub waiting : List (List WaitingReply)  -- of each connection, in the order in which they entered
  pub last : Option ℕ  -- the log place of the one that entered last
  pub room : ℕ  -- how many there may be on all connections

-- none yet
abbrev pub opened : ℕ → ℕ → WaitingReplies
opened conns room = record { waiting = replicate conns []; last = None; room = room }

abbrev pub has_log_place : ℕ → WaitingReply → Bool
has_log_place log_place r = r.log_place == log_place

abbrev pub request_of : Option WaitingReply → Option ℕ
request_of r = option_map (λ (s : WaitingReply). s.request) r

-- those of all connections, one connection behind the other
abbrev pub all_of : List (List WaitingReply) → List WaitingReply
all_of [] = []
all_of (rs ∷ lists) = rs ++ all_of lists

-- it is above the last one, if one has entered
abbrev pub IsAbove : ℕ → Option ℕ → Type 0
IsAbove log_place last = ForSome last (λ n. n < log_place)

abbrev pub pushed : ℕ → WaitingReply → WaitingReplies → WaitingReplies
pushed conn r v = record v { waiting = with_newest conn r v.waiting; last = Some (r.log_place) }

abbrev pub find_log_place : ℕ → WaitingReplies → Option ℕ
find_log_place log_place v = request_of (find (has_log_place log_place) (all_of v.waiting))

abbrev pub without_log_place : ℕ → List WaitingReply → List WaitingReply
without_log_place log_place rs = filter (λ (r : WaitingReply). not (has_log_place log_place r)) rs

abbrev pub taken : ℕ → WaitingReplies → WaitingReplies
taken log_place v = record v { waiting = map (without_log_place log_place) v.waiting }

abbrev pub first_request : ℕ → WaitingReplies → Option ℕ
first_request conn v = request_of (oldest (of_conn conn v.waiting))

abbrev pub popped : ℕ → WaitingReplies → WaitingReplies
popped conn v = record v { waiting = without_oldest conn v.waiting }

-- ---- what holds of all

-- log places go up on each connection, none is above the last one, and no two connections have the same one
pub record AreKnown (v : WaitingReplies) : Type 0 where
  pub ascending : (conn : ℕ) → AllPairs (λ (a b : WaitingReply). a.log_place < b.log_place) (of_conn conn v.waiting)
  pub newest : (conn last : ℕ) → v.last ≡ Some last → All (λ (r : WaitingReply). r.log_place ≤ last) (of_conn conn v.waiting)
  pub none : (conn : ℕ) → v.last ≡ None → of_conn conn v.waiting ≡ []
  pub apart : (conn other i j : ℕ) (d : WaitingReply) → conn ≢ other → i < length (of_conn conn v.waiting) → j < length (of_conn other v.waiting)
      → (slice_index_or (of_conn conn v.waiting) i d).log_place ≢ (slice_index_or (of_conn other v.waiting) j d).log_place
  pub few : count_all v.waiting ≤ v.room
