-- A report as a recording: with its connection lines before it.
use Rattle.std.specs.Prelude.{◌≡◌, ℕ, ◌^◌, ◌<◌, ◌≤◌, List, ◌++◌, length, codes, decimal, Result, Ok, Err, ⊤}
use Rattle.std.specs.List.{All, flat_map}
use Rattle.hex.specs.Hex.{IsBytes}
use Rattle.iscsi_rules.specs.declared.event.Event.{Event}
use Rattle.iscsi_rules.specs.declared.event.Event.TheVariants.{Arrive, Done}
use Rattle.iscsi_report.specs.Lines.{eight_digits}
use Rattle.iscsi_recording.specs.Recorded.{Recorded, IsSound, lines_of, read_of}
use Rattle.iscsi_replay.specs.promises.Replayed.{report_of}
use Rattle.iscsi_settings.specs.declared.settings.Settings.{Settings}
use Rattle.iscsi_recording.specs.declared.fault.ReplayFault.{ReplayFault}

-- `conn cid statsn`
abbrev pub conn_line : ℕ × ℕ → List ℕ
conn_line conn = codes "conn " ++ (decimal conn.0 ++ (codes " " ++ (eight_digits conn.1 ++ codes "\n")))

abbrev pub conn_lines : List (ℕ × ℕ) → List ℕ
conn_lines conns = flat_map conn_line conns

-- the lines of the connections, and then the report
abbrev pub again_of : Settings → Recorded → List ℕ
again_of s r = conn_lines r.conns ++ report_of s r

-- a CID of 16 bits and a StatSN of 32
abbrev pub IsRecordableConn : ℕ × ℕ → Type 0
IsRecordableConn conn = (conn.0 < 2 ^ 16) × (conn.1 < 2 ^ 32)

-- a CID of 16 bits and a header of 48 bytes, or a ticket of 64 bits and a status of 8
abbrev pub IsRecordableEvent : Event → Type 0
IsRecordableEvent (Arrive conn header) = (conn < 2 ^ 16) × (length header ≡ 48) × IsBytes header
IsRecordableEvent (Done ticket status) = (ticket < 2 ^ 64) × (status < 256)

-- lines can say it
pub record IsRecordable (r : Recorded) : Type 0 where
  pub sound : IsSound r
  pub conns : All IsRecordableConn r.conns
  pub events : All IsRecordableEvent r.events

-- the report of a recording, with its connection lines before it, is a recording of the same connections and events, unless
-- it has too many lines
abbrev pub IsReadAgain : Settings → Result Recorded ReplayFault → Type 0
IsReadAgain s (Ok r) = length (lines_of (again_of s r)) ≤ 1048576 → read_of (again_of s r) ≡ Ok r
IsReadAgain s (Err e) = ⊤
