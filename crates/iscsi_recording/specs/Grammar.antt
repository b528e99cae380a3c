-- The lines of a recording.
use Rattle.std.specs.Prelude.{ℕ, ◌-◌, ◌^◌, ◌==◌, ◌||◌, if◌then◌else◌, List, [], ◌∷◌, codes, slice_index, Option, Some, option_map, option_and_then, unwrap_or}
use Rattle.std.specs.List.{before_first, after_first}
use Rattle.std.specs.Option.{option_map_or}
use Rattle.std.specs.Int.{w32, from_be_bytes}
use Rattle.iscsi_recording.specs.Fields.{is_blank, after_prefix, decimal_of, hex_of}
use Rattle.iscsi_rules.specs.declared.event.Event.{Event}
use Rattle.iscsi_rules.specs.declared.event.Event.TheVariants.{Arrive, Done}
use Rattle.iscsi_recording.specs.declared.line.Line.{Line}
use Rattle.iscsi_recording.specs.declared.line.Line.TheVariants as line

-- `cid header`
abbrev pub arrival_of : List ℕ → Option Event
arrival_of bs = option_and_then (λ cid. option_map (λ header. Arrive cid header) (hex_of 48 (after_first is_blank bs)))
    (decimal_of 65535 (before_first is_blank bs))

-- `ticket status`
abbrev pub completion_of : List ℕ → Option Event
completion_of bs = option_and_then (λ ticket. option_map (λ status. Done ticket (slice_index status 0)) (hex_of 1 (after_first is_blank bs)))
    (decimal_of (2 ^ 64 - 1) (before_first is_blank bs))

-- `C cid header` or `D ticket status`
abbrev pub event_of : List ℕ → Option Event
event_of bs = option_map_or arrival_of (after_prefix (codes "C ") bs)
    (option_and_then completion_of (after_prefix (codes "D ") bs))

-- `cid statsn`
abbrev pub connection_of : List ℕ → Option Line
connection_of bs = option_and_then (λ cid. option_map (λ sn. line.Conn cid (from_be_bytes w32 sn)) (hex_of 4 (after_first is_blank bs)))
    (decimal_of 65535 (before_first is_blank bs))

abbrev pub marked_of : List ℕ → Option Line
marked_of bs = option_map_or connection_of (after_prefix (codes "conn ") bs)
    (option_map line.Event (event_of (unwrap_or (after_prefix (codes "> ") bs) bs)))

-- what a line says
abbrev pub line_of : List ℕ → Option Line
line_of [] = Some line.Passed
line_of (b ∷ bs) = if b == 35 || b == 32 then Some line.Passed else marked_of (b ∷ bs)
