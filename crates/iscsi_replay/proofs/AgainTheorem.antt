-- A report with its connection lines is read again.
use Rattle.std.proofs.Common.{◌≡◌, ℕ, ◌+◌, ◌-◌, ◌^◌, ◌<◌, ◌≤◌, ◌||◌, ◌==◌, not, nat_lt, nat_le, true, false, cond, List, [], ◌∷◌, ◌++◌, length, slice_index, Option, Some, None, Result, Ok, Err, refl, sym, subst, ◌∙◌, arith}
use Rattle.std.specs.Prelude.{codes, ok_or, option_map, option_and_then, unwrap_or, IfSome}
use Rattle.std.specs.List.{All, before_first, after_first}
use Rattle.std.specs.Option.{option_map_or}
use Rattle.std.specs.Int.{w32, from_be_bytes}
use Rattle.std.specs.Result.{result_ok}
use Rattle.std.proofs.lemmas.Bool.Decides.{nat_tests}
use Rattle.std.proofs.lemmas.List.Elements.{All-nil, All-cons, All-append}
use Rattle.hex.specs.Hex.{IsBytes, decode_sized}
use Rattle.hex.specs.declared.error.FromHexError.{FromHexError}
use Rattle.hex.proofs.HexLemmas.{decode_sized-ok, decode_sized-twice, decode_of-ok}
use Rattle.iscsi_rules.specs.declared.event.Event.{Event}
use Rattle.iscsi_rules.specs.declared.event.Event.TheVariants.{Arrive, Done}
use Rattle.iscsi_rules.specs.rules.Settings.{is_known}
use Rattle.iscsi_report.specs.Lines.{report_from}
use Rattle.iscsi_rules.specs.rules.Run.{run_of}
use Rattle.iscsi_recording.specs.declared.line.Line.{Line}
use Rattle.iscsi_recording.specs.declared.line.Line.TheVariants as line
use Rattle.iscsi_recording.specs.declared.fault.ReplayFault.{ReplayFault}
use Rattle.iscsi_recording.specs.declared.fault.ReplayFault.TheVariants.{BadLine, LineTooLong, TooManyLines, NoConnection}
use Rattle.iscsi_settings.specs.declared.settings.Settings.{Settings}
use Rattle.iscsi_recording.specs.Fields.{is_blank, after_prefix, digits_after, up_to, decimal_of, hex_of}
use Rattle.iscsi_recording.specs.Grammar.{arrival_of, completion_of, event_of, connection_of, marked_of, line_of}
use Rattle.iscsi_recording.specs.Recorded.{Recorded, belongs_to, nothing, is_empty, take, read_line, read_end, read_lines, read_of, lines_of, ◌>>=◌}
use Rattle.iscsi_recording.specs.Reading.{IsSoundIn}
use Rattle.iscsi_replay.specs.promises.Replayed.{setting_for}
use Rattle.iscsi_replay.specs.promises.Again.{conn_lines, again_of, IsRecordableConn, IsRecordableEvent, IsRecordable, IsReadAgain}
use Rattle.iscsi_recording.proofs.RecordedLemmas.{line_keeps, of_more, sound_from}
use Rattle.iscsi_replay.proofs.AgainLemmas.{reads_both, conns_read, report_reads, whole_read}
use Rattle.iscsi_replay.proofs.ShortRuns.{either, run_short, run_count}

-- ---- a recording that lines can say

-- the report of it, with its connection lines before it, is a recording of the same connections and events
pub read_again : (s : Settings) (r : Recorded) → IsRecordable r → length (lines_of (again_of s r)) ≤ 1048576 → read_of (again_of s r) ≡ Ok r
read_again s r h few =
    let log = run_of (setting_for s r.conns) r.events in
    let conns = conns_read [] r.conns h.conns h.sound.distinct h.sound.few in
    let events = report_reads r.conns [] r.events log h.events h.sound.known (run_count (setting_for s r.conns) r.events) (run_short (setting_for s r.conns) r.events h.events) in
    whole_read (again_of s r) r (reads_both nothing (record { conns = r.conns; events = [] }) r (conn_lines r.conns) (report_from r.events log) conns events) h.sound.some few

-- ---- what fields hold

abbrev IsUpTo : ℕ → Option ℕ → Type 0
IsUpTo max None = Unit {0}
IsUpTo max (Some n) = n ≤ max

up_to_holds : (max n : ℕ) → IsUpTo max (up_to max n)
up_to_holds max n = elim (nat_le n max) as (λ b. nat_le n max ≡ b → IsUpTo max (cond b (Some n) None)) [
  | true ↦ λ is. (let z : n ≤ max = grind (arith, nat_tests) in z)
  | false ↦ λ is. tt
] refl

digits_hold : (max : ℕ) (o : Option ℕ) → IsUpTo max (option_and_then (up_to max) o)
digits_hold max None = tt
digits_hold max (Some n) = up_to_holds max n

decimal_holds : (max : ℕ) (text : List ℕ) → IsUpTo max (decimal_of max text)
decimal_holds max [] = tt
decimal_holds max (d ∷ []) = digits_hold max (digits_after 0 (d ∷ []))
decimal_holds max (d ∷ e ∷ ds) = either (IsUpTo max) (d == 48) None _ tt (digits_hold max (digits_after 0 (d ∷ e ∷ ds)))

abbrev AreBytes : ℕ → Option (List ℕ) → Type 0
AreBytes n None = Unit {0}
AreBytes n (Some bytes) = (length bytes ≡ n) × IsBytes bytes

hex_holds : (n : ℕ) (text : List ℕ) → AreBytes n (hex_of n text)
hex_holds n text = decoded (decode_sized text n) refl
  where
    decoded : (x : Result (List ℕ) FromHexError) → decode_sized text n ≡ x → AreBytes n (result_ok x)
    decoded (Err e) is = tt
    decoded (Ok bytes) is =
        let twice = decode_sized-ok text n bytes is in
        let parts = decode_of-ok text bytes (sym (decode_sized-twice text n twice) ∙ is) in
        let count = parts.2 in
        ((let z : length bytes ≡ n = omega (arith, twice, count) in z), parts.3)

number_holds : (bytes : List ℕ) → IsBytes bytes → from_be_bytes w32 bytes < 2 ^ 32
number_holds bytes h = omega (arith, h 0, h 1, h 2, h 3)

-- ---- what lines say

abbrev IsSaid : Line → Type 0
IsSaid line.Passed = Unit {0}
IsSaid (line.Conn cid sn) = IsRecordableConn (cid, sn)
IsSaid (line.Event e) = IsRecordableEvent e

abbrev IsLineIf : Option Line → Type 0
IsLineIf None = Unit {0}
IsLineIf (Some l) = IsSaid l

abbrev IsEventIf : Option Event → Type 0
IsEventIf None = Unit {0}
IsEventIf (Some e) = IsRecordableEvent e

conn_held : (cid : Option ℕ) (sn : Option (List ℕ)) → IsUpTo 65535 cid → AreBytes 4 sn
    → IsLineIf (option_and_then (λ c. option_map (λ bytes. line.Conn c (from_be_bytes w32 bytes)) sn) cid)
conn_held None sn h k = tt
conn_held (Some c) None h k = tt
conn_held (Some c) (Some bytes) h k = ((let z : c < 2 ^ 16 = omega arith in z), number_holds bytes k.1)

arrival_held : (cid : Option ℕ) (header : Option (List ℕ)) → IsUpTo 65535 cid → AreBytes 48 header → IsEventIf (option_and_then (λ c. option_map (λ bytes. Arrive c bytes) header) cid)
arrival_held None header h k = tt
arrival_held (Some c) None h k = tt
arrival_held (Some c) (Some bytes) h k = ((let z : c < 2 ^ 16 = omega arith in z), k.0, k.1)

completion_held : (ticket : Option ℕ) (status : Option (List ℕ)) → IsUpTo (2 ^ 64 - 1) ticket → AreBytes 1 status
    → IsEventIf (option_and_then (λ t. option_map (λ bytes. Done t (slice_index bytes 0)) status) ticket)
completion_held None status h k = tt
completion_held (Some t) None h k = tt
completion_held (Some t) (Some bytes) h k = ((let z : t < 2 ^ 64 = omega arith in z), k.1 0)

arrival_holds : (bs : List ℕ) → IsEventIf (arrival_of bs)
arrival_holds bs = arrival_held (decimal_of 65535 (before_first is_blank bs)) (hex_of 48 (after_first is_blank bs)) (decimal_holds 65535 (before_first is_blank bs)) (hex_holds 48 (after_first is_blank bs))

completion_holds : (bs : List ℕ) → IsEventIf (completion_of bs)
completion_holds bs = completion_held (decimal_of (2 ^ 64 - 1) (before_first is_blank bs)) (hex_of 1 (after_first is_blank bs)) (decimal_holds (2 ^ 64 - 1) (before_first is_blank bs)) (hex_holds 1 (after_first is_blank bs))

connection_holds : (bs : List ℕ) → IsLineIf (connection_of bs)
connection_holds bs = conn_held (decimal_of 65535 (before_first is_blank bs)) (hex_of 4 (after_first is_blank bs)) (decimal_holds 65535 (before_first is_blank bs)) (hex_holds 4 (after_first is_blank bs))

event_holds : (bs : List ℕ) → IsEventIf (event_of bs)
event_holds bs = by_mark (after_prefix (codes "C ") bs) (after_prefix (codes "D ") bs)
  where
    by_mark : (c d : Option (List ℕ)) → IsEventIf (option_map_or arrival_of c (option_and_then completion_of d))
    by_mark (Some rest) d = arrival_holds rest
    by_mark None (Some rest) = completion_holds rest
    by_mark None None = tt

said_by_event : (e : Option Event) → IsEventIf e → IsLineIf (option_map line.Event e)
said_by_event None h = tt
said_by_event (Some e) h = h

marked_holds : (bs : List ℕ) → IsLineIf (marked_of bs)
marked_holds bs = by_mark (after_prefix (codes "conn ") bs)
  where
    by_mark : (c : Option (List ℕ)) → IsLineIf (option_map_or connection_of c (option_map line.Event (event_of (unwrap_or (after_prefix (codes "> ") bs) bs))))
    by_mark (Some rest) = connection_holds rest
    by_mark None = said_by_event _ (event_holds (unwrap_or (after_prefix (codes "> ") bs) bs))

line_holds : (l : List ℕ) → IsLineIf (line_of l)
line_holds [] = tt
line_holds (b ∷ bs) = either IsLineIf (b == 35 || b == 32) (Some line.Passed) (marked_of (b ∷ bs)) tt (marked_holds (b ∷ bs))

-- ---- what is read

record Holds (r : Recorded) : Type 0 where
  conns : All IsRecordableConn r.conns
  events : All IsRecordableEvent r.events

abbrev HoldsIf : Option Recorded → Type 0
HoldsIf None = Unit {0}
HoldsIf (Some r) = Holds r

abbrev HoldsOk : Result Recorded ReplayFault → Type 0
HoldsOk (Ok r) = Holds r
HoldsOk (Err e) = Unit {0}

taken_holds : (r : Recorded) (said : Option Line) → Holds r → IsLineIf said → HoldsIf (option_and_then (take r) said)
taken_holds r None h k = tt
taken_holds r (Some line.Passed) h k = h
taken_holds r (Some (line.Conn cid sn)) h k =
    let next : Recorded = record r { conns = r.conns ++ (cid, sn) ∷ [] } in
    let held : Holds next = record {
      conns = All-append IsRecordableConn r.conns ((cid, sn) ∷ []) h.conns (All-cons IsRecordableConn (cid, sn) [] k (All-nil IsRecordableConn));
      events = h.events;
    } in
    either HoldsIf (not (is_empty r.events) || (is_known cid r.conns || not (nat_lt (length r.conns) 64))) None (Some next) tt held
taken_holds r (Some (line.Event e)) h k =
    let next : Recorded = record r { events = r.events ++ e ∷ [] } in
    let held : Holds next = record {
      conns = h.conns;
      events = All-append IsRecordableEvent r.events (e ∷ []) h.events (All-cons IsRecordableEvent e [] k (All-nil IsRecordableEvent));
    } in
    either HoldsIf (belongs_to r.conns e) (Some next) None held tt

ok_holds : (n : ℕ) (o : Option Recorded) → HoldsIf o → HoldsOk (ok_or o (BadLine n))
ok_holds n None h = tt
ok_holds n (Some r) h = h

read_holds : (n : ℕ) (r : Recorded) (l : List ℕ) → Holds r → HoldsOk (read_line n r l)
unfolding read_line
read_holds n r l h =
    either HoldsOk (nat_lt 1048576 n) (Err TooManyLines) _ tt
    (either HoldsOk (nat_lt 256 (length l)) (Err (LineTooLong n)) _ tt (ok_holds n (option_and_then (take r) (line_of l)) (taken_holds r (line_of l) h (line_holds l))))

-- what was read of the lines before line n
record HasRead (n : ℕ) (r : Recorded) : Type 0 where
  low : 1 ≤ n
  few : n ≤ 1048577
  sound : IsSoundIn (n - 1) r
  holds : Holds r

abbrev HasReadOk : ℕ → Result Recorded ReplayFault → Type 0
HasReadOk n (Ok r) = HasRead n r
HasReadOk n (Err e) = Unit {0}

one_more : (n : ℕ) (r : Recorded) (l : List ℕ) → HasRead n r → HasReadOk (n + 1) (read_line n r l)
one_more n r l h = by_answer (read_line n r l) refl
  where
    by_answer : (x : Result Recorded ReplayFault) → read_line n r l ≡ x → HasReadOk (n + 1) x
    by_answer (Err e) is = tt
    by_answer (Ok next) is =
        let kept = line_keeps n r next l h.low h.sound is in
        let number = kept.number in
        record {
          low = omega arith;
          few = omega (arith, number);
          sound = subst (λ k. IsSoundIn k next) (let z : n ≡ n + 1 - 1 = omega arith in z) kept.sound;
          holds = subst HoldsOk is (read_holds n r l h.holds);
        }

abbrev IsRecordableOk : Result Recorded ReplayFault → Type 0
IsRecordableOk (Ok r) = IsRecordable r
IsRecordableOk (Err e) = Unit {0}

end_holds : (n : ℕ) (r : Recorded) → HasRead n r → IsRecordableOk (read_end r)
unfolding read_end
end_holds n r h = elim (is_empty r.conns) as (λ b. is_empty r.conns ≡ b → IsRecordableOk (cond b (Err NoConnection) (Ok r))) [
  | true ↦ λ is. tt
  | false ↦ λ is.
      let few = h.few in
      record { sound = sound_from r (of_more (n - 1) 1048576 r (omega (arith, few)) h.sound) is; conns = h.holds.conns; events = h.holds.events }
] refl

next_holds : (n : ℕ) (ls : List (List ℕ)) (x : Result Recorded ReplayFault) → HasReadOk (n + 1) x → ((next : Recorded) → HasRead (n + 1) next → IsRecordableOk (read_lines (n + 1) next ls))
    → IsRecordableOk (x >>= λ next. read_lines (n + 1) next ls)
next_holds n ls (Err e) h rest = tt
next_holds n ls (Ok next) h rest = rest next h

lines_hold : (n : ℕ) (r : Recorded) (ls : List (List ℕ)) → HasRead n r → IsRecordableOk (read_lines n r ls)
unfolding read_lines
lines_hold n r [] h = end_holds n r h
lines_hold n r (l ∷ ls) h = next_holds n ls (read_line n r l) (one_more n r l h) (λ next k. lines_hold (n + 1) next ls k)

-- what bytes say can be said again
pub read_recordable : (bytes : List ℕ) → IsRecordableOk (read_of bytes)
read_recordable bytes = lines_hold 1 nothing (lines_of bytes) (
    let sound : IsSoundIn (1 - 1) nothing = record { few = omega arith; distinct = refl; known = refl; events = omega arith } in
    let holds : Holds nothing = record { conns = All-nil IsRecordableConn; events = All-nil IsRecordableEvent } in
    record { low = omega arith; few = omega arith; sound = sound; holds = holds }
    )

-- the report of what bytes say is read again
pub reads_again : (s : Settings) (bytes : List ℕ) → IsReadAgain s (read_of bytes)
reads_again s bytes = by_answer (read_of bytes) (read_recordable bytes)
  where
    by_answer : (x : Result Recorded ReplayFault) → IsRecordableOk x → IsReadAgain s x
    by_answer (Ok r) h = read_again s r h
    by_answer (Err e) h = tt

-- so of known bytes
pub again_if : (s : Settings) (bytes : Option (List ℕ)) → IfSome bytes (λ bs. IsReadAgain s (read_of bs))
again_if s None = tt
again_if s (Some bs) = reads_again s bs

-- and of every recording that lines can say
pub every_again : (s : Settings) (r : Recorded) → IsRecordable r → IsReadAgain s (Ok r)
every_again s r h = read_again s r h
