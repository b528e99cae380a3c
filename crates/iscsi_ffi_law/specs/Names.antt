-- The requests that a side keeps, by their places, as the rules know them.
use Rattle.std.specs.Prelude.{◌≡◌, ℕ, ◌+◌, ◌==◌, ◌&&◌, not, Bool, List, count_by, filter, map, Option, Some, option_map}
use Rattle.std.specs.List.{find}
use Rattle.iscsi_ffi_rules.specs.rules.Sides.{Asked, Noted}

-- a request in its place, by the event in which it arrived
pub record Name : Type 0 where
  pub place : ℕ
  pub event : ℕ
  pub cookie : ℕ

-- an own PDU that is of no command in its place, by its connection; it waits, or was handed out
pub record Note : Type 0 where
  pub place : ℕ
  pub conn : ℕ
  pub cookie : ℕ
  pub waits : Bool

abbrev pub asked_of : Name → Asked
asked_of n = record { event = n.event; cookie = n.cookie }

abbrev pub noted_of : Note → Noted
noted_of n = record { conn = n.conn; cookie = n.cookie }

abbrev pub waiting_notes : List Note → List Note
waiting_notes notes = filter (λ (n : Note). n.waits) notes

abbrev pub handed_notes : List Note → List Note
handed_notes notes = filter (λ (n : Note). not n.waits) notes

-- the places of those of a connection
abbrev pub note_places : ℕ → List Note → List (Option ℕ)
note_places conn notes = map (λ (n : Note). Some n.place) (filter (λ (n : Note). n.conn == conn) notes)

-- those that wait, and those that were handed out, by both
pub record AreNoted (notes : List Note) (waiting handed : List Noted) : Type 0 where
  pub waiting_are : map noted_of (waiting_notes notes) ≡ waiting
  pub handed_are : map noted_of (handed_notes notes) ≡ handed

abbrev pub is_of_event : ℕ → Name → Bool
is_of_event event n = n.event == event

-- the place of the request that arrived in this event
abbrev pub place_named : List Name → ℕ → Option ℕ
place_named names event = option_map (λ (n : Name). n.place) (find (is_of_event event) names)

-- how many have this place and this word
abbrev pub count_words : ℕ → ℕ → List Name → List Note → ℕ
count_words place cookie names notes =
    count_by (λ (n : Name). n.place == place && n.cookie == cookie) names + count_by (λ (n : Note). n.place == place && n.cookie == cookie) notes
