-- Texts that are read line by line.
use Rattle.std.proofs.Common.{◌≡◌, ℕ, ◌+◌, ◌<◌, ◌≤◌, ◌==◌, ◌^◌, ◌-◌, Bool, true, false, cond, List, [], ◌∷◌, ◌++◌, length, Option, Some, Ok, Err, refl, zero, suc, slice_index, ap, ap₂, sym, ◌∙◌, arith, append_assoc, append-nil, length-append, nat_lt}
use Rattle.std.specs.Prelude.{not, codes, decimal, option_map, option_and_then}
use Rattle.std.specs.List.{list_all, All, flat_map}
use Rattle.std.specs.Int.{w32, from_be_bytes}
use Rattle.std.proofs.lemmas.List.Elements.{All-head, All-tail}
use Rattle.std.proofs.lemmas.List.Folds.{list_any-append}
use Rattle.hex.specs.Hex.{IsBytes, encode_lower}
use Rattle.iscsi_wire.specs.Replies.{bytes_4}
use Rattle.iscsi_rules.specs.declared.effect.Effect.{Effect}
use Rattle.iscsi_rules.specs.declared.effect.Numbers.{Numbers}
use Rattle.iscsi_rules.specs.declared.event.Event.{Event}
use Rattle.iscsi_rules.specs.declared.event.Event.TheVariants.{Arrive, Done}
use Rattle.iscsi_rules.specs.declared.entry.Entry.{Entry}
use Rattle.iscsi_rules.specs.rules.Settings.{is_known, are_distinct}
use Rattle.iscsi_report.specs.Lines.{eight_digits, event_line, effect_text, effect_line, entry_lines, report_from}
use Rattle.iscsi_recording.specs.declared.line.Line.TheVariants as line
use Rattle.iscsi_recording.specs.Fields.{decimal_of, hex_of}
use Rattle.iscsi_recording.specs.Grammar.{arrival_of, completion_of, connection_of, line_of}
use Rattle.iscsi_recording.specs.Recorded.{Recorded, belongs_to, nothing, is_empty, take, read_line, read_end, read_lines, read_of, lines_of, ◌>>=◌}
use Rattle.iscsi_recording.specs.declared.fault.ReplayFault.TheVariants.{NoConnection}
use Rattle.iscsi_replay.specs.promises.Again.{conn_line, conn_lines, IsRecordableConn, IsRecordableEvent}
use Rattle.iscsi_recording.proofs.LineLemmas.{or_false, whole_line, line_ends}
use Rattle.iscsi_recording.proofs.RecordedLemmas.{both_parts, other_way}
use Rattle.iscsi_recording.proofs.FieldLemmas.{decimal_back, hex_back, bytes_4-bytes, from_bytes_4, field_before, field_after}
use Rattle.iscsi_recording.proofs.EffectLemmas.{IsText, both_texts, decimal_text, hex_text, eight_text, IsShortEffect, effect_is_text}

-- ---- texts of whole lines

-- the text is so many lines, and makes next of r
pub record Reads (r : Recorded) (text : List ℕ) (next : Recorded) : Type 0 where
  pub count : ℕ
  pub lines : (rest : List ℕ) → length (lines_of (text ++ rest)) ≡ count + length (lines_of rest)
  pub read : (n : ℕ) (rest : List ℕ) → n + count ≤ 1048577 → read_lines n r (lines_of (text ++ rest)) ≡ read_lines (n + count) next (lines_of rest)

pub reads_none : (r : Recorded) → Reads r [] r
reads_none r = record {
  count = 0;
  lines = λ rest. omega arith;
  read = λ n rest le. ap (λ k. read_lines k r (lines_of rest)) (let z : n ≡ n + 0 = omega arith in z);
}

pub reads_both : (a b c : Recorded) (t u : List ℕ) → Reads a t b → Reads b u c → Reads a (t ++ u) c
reads_both a b c t u x y = record {
  count = x.count + y.count;
  lines = λ rest.
      let first = x.lines (u ++ rest) in
      let second = y.lines rest in
      let sum : length (lines_of (t ++ (u ++ rest))) ≡ x.count + y.count + length (lines_of rest) = omega (arith, first, second) in
      ap (λ l. length (lines_of l)) (append_assoc t u rest) ∙ sum;
  read = λ n rest le.
      ap (λ l. read_lines n a (lines_of l)) (append_assoc t u rest)
      ∙ x.read n (u ++ rest) (omega arith)
      ∙ y.read (n + x.count) rest (omega arith)
      ∙ ap (λ k. read_lines k c (lines_of rest)) (let z : n + x.count + y.count ≡ n + (x.count + y.count) = omega arith in z);
}

line_read : (n : ℕ) (r next : Recorded) (l : List ℕ) → n ≤ 1048576 → length l ≤ 256 → option_and_then (take r) (line_of l) ≡ Some next → read_line n r l ≡ Ok next
unfolding read_line
line_read n r next l few short said =
    let in_time : nat_lt 1048576 n ≡ false = grind arith in
    let fits : nat_lt 256 (length l) ≡ false = grind arith in
    rw (in_time, fits, said) refl

-- one line, of this text
pub reads_line : (r next : Recorded) (l text : List ℕ) → ((rest : List ℕ) → text ++ rest ≡ l ++ 10 ∷ rest) → IsText 256 l → option_and_then (take r) (line_of l) ≡ Some next → Reads r text next
reads_line r next l text same is said = record {
  count = 1;
  lines = λ rest.
      ap (λ t. length (lines_of t)) (same rest) ∙ ap length (whole_line l rest is.one)
      ∙ (let z : length (l ∷ lines_of rest) ≡ 1 + length (lines_of rest) = omega arith in z);
  read = λ n rest le.
      ap (λ t. read_lines n r (lines_of t)) (same rest) ∙ line_ends n r [] l rest refl is.one
      ∙ ap (λ s. s >>= λ after. read_lines (n + 1) after (lines_of rest)) (line_read n r next l (omega arith) is.short said);
}

-- ---- two fields, a blank between them

fields_ended : (a b rest : List ℕ) → (a ++ 32 ∷ (b ++ 10 ∷ [])) ++ rest ≡ (a ++ 32 ∷ b) ++ 10 ∷ rest
fields_ended a b rest =
    append_assoc a (32 ∷ (b ++ 10 ∷ [])) rest ∙ ap (λ t. a ++ 32 ∷ t) (append_assoc b (10 ∷ []) rest) ∙ sym (append_assoc a (32 ∷ b) (10 ∷ rest))

-- ---- connections

connection_read : (cid sn : ℕ) → cid < 2 ^ 16 → sn < 2 ^ 32 → connection_of (decimal cid ++ 32 ∷ eight_digits sn) ≡ Some (line.Conn cid sn)
connection_read cid sn small width =
    ap₂ (λ (x : Option ℕ) (y : Option (List ℕ)). option_and_then (λ c. option_map (λ s. line.Conn c (from_be_bytes w32 s)) y) x)
    (ap (decimal_of 65535) (field_before cid (eight_digits sn)) ∙ decimal_back 65535 cid (omega arith) (omega arith))
    (ap (hex_of 4) (field_after cid (eight_digits sn)) ∙ hex_back 4 (bytes_4 sn) refl (bytes_4-bytes sn))
    ∙ ap (λ s. Some (line.Conn cid s)) (from_bytes_4 sn width)

-- the line of a connection, without its end
abbrev conn_text : ℕ × ℕ → List ℕ
conn_text c = codes "conn " ++ (decimal c.0 ++ (codes " " ++ eight_digits c.1))

conn_ended : (c : ℕ × ℕ) (rest : List ℕ) → conn_line c ++ rest ≡ conn_text c ++ 10 ∷ rest
conn_ended c rest = ap (λ t. codes "conn " ++ t) (fields_ended (decimal c.0) (eight_digits c.1) rest)

conn_is_text : (c : ℕ × ℕ) → IsText 256 (conn_text c)
conn_is_text c =
    both_texts 5 251 256 (codes "conn ") _ (record { one = refl; short = omega arith })
    (both_texts 64 9 251 (decimal c.0) _ (decimal_text c.0)
    (both_texts 1 8 9 (codes " ") _ (record { one = refl; short = omega arith }) (eight_text c.1) (omega arith)) (omega arith)) (omega arith)

not_true : (b : Bool) → not b ≡ true → b ≡ false
not_true true h = cc
not_true false h = refl

-- the CID of a connection isn't among those before it
unknown_before : (before : List (ℕ × ℕ)) (c : ℕ × ℕ) (after : List (ℕ × ℕ)) → are_distinct (before ++ c ∷ after) ≡ true → is_known c.0 before ≡ false
unknown_before [] c after h = refl
unknown_before (x ∷ before) c after h =
    let parts = both_parts (not (is_known x.0 (before ++ c ∷ after))) (are_distinct (before ++ c ∷ after)) h in
    let none : is_known x.0 (before ++ c ∷ after) ≡ false = not_true (is_known x.0 (before ++ c ∷ after)) parts.0 in
    let split = or_false (is_known x.0 before) (is_known x.0 (c ∷ after)) (sym (list_any-append (λ (d : ℕ × ℕ). d.0 == x.0) before (c ∷ after)) ∙ none) in
    let apart = or_false (c.0 == x.0) (is_known x.0 after) split.1 in
    rw (other_way c.0 x.0 apart.0) (unknown_before before c after parts.1)

abbrev of_conns : List (ℕ × ℕ) → Recorded
of_conns conns = record { conns = conns; events = [] }

conn_taken : (before : List (ℕ × ℕ)) (cid sn : ℕ) → is_known cid before ≡ false → length before < 64 → take (of_conns before) (line.Conn cid sn) ≡ Some (of_conns (before ++ (cid, sn) ∷ []))
conn_taken before cid sn new room =
    let fits : nat_lt (length before) 64 ≡ true = grind arith in
    rw (new, fits) refl

conn_reads : (before : List (ℕ × ℕ)) (c : ℕ × ℕ) → IsRecordableConn c → is_known c.0 before ≡ false → length before < 64 → Reads (of_conns before) (conn_line c) (of_conns (before ++ c ∷ []))
conn_reads before c h new room =
    reads_line _ _ (conn_text c) (conn_line c) (conn_ended c) (conn_is_text c)
    (ap (option_and_then (take (of_conns before))) (connection_read c.0 c.1 h.0 h.1) ∙ conn_taken before c.0 c.1 new room)

-- the lines of connections
pub conns_read : (before conns : List (ℕ × ℕ)) → All IsRecordableConn conns → are_distinct (before ++ conns) ≡ true → length (before ++ conns) ≤ 64
    → Reads (of_conns before) (conn_lines conns) (of_conns (before ++ conns))
conns_read before [] h apart few = rw (append-nil before) (reads_none (of_conns before))
conns_read before (c ∷ conns) h apart few =
    let count : length (before ++ c ∷ conns) ≡ length before + length (c ∷ conns) = length-append before (c ∷ conns) in
    let same : (before ++ c ∷ []) ++ conns ≡ before ++ c ∷ conns = append_assoc before (c ∷ []) conns in
    let rest : Reads (of_conns (before ++ c ∷ [])) (conn_lines conns) (of_conns ((before ++ c ∷ []) ++ conns)) =
    conns_read (before ++ c ∷ []) conns (All-tail IsRecordableConn c conns h) (ap are_distinct same ∙ apart) (rw same few) in
    let first = conn_reads before c (All-head IsRecordableConn c conns h) (unknown_before before c conns apart) (omega (arith, count, few)) in
    rw same at (reads_both _ _ _ (conn_line c) (conn_lines conns) first rest)

-- ---- events

arrival_read : (conn : ℕ) (header : List ℕ) → IsRecordableEvent (Arrive conn header) → arrival_of (decimal conn ++ 32 ∷ encode_lower header) ≡ Some (Arrive conn header)
arrival_read conn header h =
    let small = h.0 in
    ap₂ (λ (x : Option ℕ) (y : Option (List ℕ)). option_and_then (λ c. option_map (λ bytes. Arrive c bytes) y) x)
    (ap (decimal_of 65535) (field_before conn (encode_lower header)) ∙ decimal_back 65535 conn (omega (arith, small)) (omega (arith, small)))
    (ap (hex_of 48) (field_after conn (encode_lower header)) ∙ hex_back 48 header h.1 h.2)

byte_alone : (b : ℕ) → b < 256 → IsBytes (b ∷ [])
byte_alone b h zero = h
byte_alone b h (suc i) = omega arith

completion_read : (ticket status : ℕ) → IsRecordableEvent (Done ticket status) → completion_of (decimal ticket ++ 32 ∷ encode_lower (status ∷ [])) ≡ Some (Done ticket status)
completion_read ticket status h =
    let small = h.0 in
    ap₂ (λ (x : Option ℕ) (y : Option (List ℕ)). option_and_then (λ t. option_map (λ bytes. Done t (slice_index bytes 0)) y) x)
    (ap (decimal_of (2 ^ 64 - 1)) (field_before ticket (encode_lower (status ∷ []))) ∙ decimal_back (2 ^ 64 - 1) ticket (omega (arith, small)) (omega (arith, small)))
    (ap (hex_of 1) (field_after ticket (encode_lower (status ∷ []))) ∙ hex_back 1 (status ∷ []) refl (byte_alone status h.1))

-- the line of an event, without its end
abbrev event_text : Event → List ℕ
event_text (Arrive conn header) = codes "> C " ++ (decimal conn ++ (codes " " ++ encode_lower header))
event_text (Done ticket status) = codes "> D " ++ (decimal ticket ++ (codes " " ++ encode_lower (status ∷ [])))

event_ended : (e : Event) (rest : List ℕ) → event_line e ++ rest ≡ event_text e ++ 10 ∷ rest
event_ended (Arrive conn header) rest = ap (λ t. codes "> C " ++ t) (fields_ended (decimal conn) (encode_lower header) rest)
event_ended (Done ticket status) rest = ap (λ t. codes "> D " ++ t) (fields_ended (decimal ticket) (encode_lower (status ∷ [])) rest)

event_is_text : (e : Event) → IsRecordableEvent e → IsText 256 (event_text e)
event_is_text (Arrive conn header) h =
    let long = h.1 in
    both_texts 4 252 256 (codes "> C ") _ (record { one = refl; short = omega arith })
    (both_texts 64 97 252 (decimal conn) _ (decimal_text conn)
    (both_texts 1 96 97 (codes " ") _ (record { one = refl; short = omega arith }) (hex_text 96 header (omega (arith, long))) (omega arith)) (omega arith)) (omega arith)
event_is_text (Done ticket status) h =
    both_texts 4 252 256 (codes "> D ") _ (record { one = refl; short = omega arith })
    (both_texts 64 3 252 (decimal ticket) _ (decimal_text ticket)
    (both_texts 1 2 3 (codes " ") _ (record { one = refl; short = omega arith }) (hex_text 2 (status ∷ []) (omega arith)) (omega arith)) (omega arith)) (omega arith)

event_said : (e : Event) → IsRecordableEvent e → line_of (event_text e) ≡ Some (line.Event e)
event_said (Arrive conn header) h = ap (option_map line.Event) (arrival_read conn header h)
event_said (Done ticket status) h = ap (option_map line.Event) (completion_read ticket status h)

event_taken : (conns : List (ℕ × ℕ)) (before : List Event) (e : Event) → belongs_to conns e ≡ true
    → take (record { conns = conns; events = before }) (line.Event e) ≡ Some (record { conns = conns; events = before ++ e ∷ [] })
event_taken conns before e h = rw h refl

event_reads : (conns : List (ℕ × ℕ)) (before : List Event) (e : Event) → IsRecordableEvent e → belongs_to conns e ≡ true
    → Reads (record { conns = conns; events = before }) (event_line e) (record { conns = conns; events = before ++ e ∷ [] })
event_reads conns before e h known =
    let r : Recorded = record { conns = conns; events = before } in
    reads_line r _ (event_text e) (event_line e) (event_ended e) (event_is_text e h) (ap (option_and_then (take r)) (event_said e h) ∙ event_taken conns before e known)

-- ---- effects

effect_reads : (r : Recorded) (effect : Effect) (n : Numbers) → IsShortEffect effect → Reads r (effect_line effect n) r
effect_reads r effect n h =
    reads_line r r (codes "  " ++ effect_text effect n) (effect_line effect n)
    (λ rest. ap (λ t. codes "  " ++ t) (append_assoc (effect_text effect n) (10 ∷ []) rest))
    (both_texts 2 254 256 (codes "  ") _ (record { one = refl; short = omega arith }) (effect_is_text effect n h) (omega arith)) refl

effects_read : (r : Recorded) (effects : List Effect) (n : Numbers) → All IsShortEffect effects → Reads r (flat_map (λ effect. effect_line effect n) effects) r
effects_read r [] n h = reads_none r
effects_read r (effect ∷ effects) n h =
    reads_both r r r (effect_line effect n) _ (effect_reads r effect n (All-head IsShortEffect effect effects h)) (effects_read r effects n (All-tail IsShortEffect effect effects h))

-- an entry has no long effects
abbrev pub IsShortEntry : Entry → Type 0
IsShortEntry entry = All IsShortEffect entry.effects

-- the report of events, of which each has its entry
pub report_reads : (conns : List (ℕ × ℕ)) (before events : List Event) (log : List Entry) → All IsRecordableEvent events → list_all (belongs_to conns) events ≡ true → length log ≡ length events → All IsShortEntry log
    → Reads (record { conns = conns; events = before }) (report_from events log) (record { conns = conns; events = before ++ events })
report_reads conns before [] log h known same short = rw (append-nil before) (reads_none (record { conns = conns; events = before }))
report_reads conns before (e ∷ es) [] h known same short = absurd (omega (arith, same))
report_reads conns before (e ∷ es) (entry ∷ log) h known same short =
    let parts = both_parts (belongs_to conns e) (list_all (belongs_to conns) es) known in
    let with : List Event = before ++ e ∷ [] in
    let all : with ++ es ≡ before ++ e ∷ es = append_assoc before (e ∷ []) es in
    let first = event_reads conns before e (All-head IsRecordableEvent e es h) parts.0 in
    let effects = effects_read (record { conns = conns; events = with }) entry.effects entry.numbers (All-head IsShortEntry entry log short) in
    let rest : Reads (record { conns = conns; events = with }) (report_from es log) (record { conns = conns; events = with ++ es }) =
    report_reads conns with es log (All-tail IsRecordableEvent e es h) parts.1 (omega (arith, same)) (All-tail IsShortEntry entry log short) in
    rw all at (reads_both _ _ _ (event_line e) _ first (reads_both _ _ _ (entry_lines entry) _ effects rest))

-- ---- the whole

-- bytes that make a recording of nothing are read as it, unless they have too many lines
pub whole_read : (text : List ℕ) (r : Recorded) → Reads nothing text r → 1 ≤ length r.conns → length (lines_of text) ≤ 1048576 → read_of text ≡ Ok r
unfolding lines_of read_lines read_end
whole_read text r h some few =
    let all : length (lines_of (text ++ [])) ≡ h.count + 0 = h.lines [] in
    let same : length (lines_of (text ++ [])) ≡ length (lines_of text) = ap (λ t. length (lines_of t)) (append-nil text) in
    ap (λ t. read_lines 1 nothing (lines_of t)) (sym (append-nil text)) ∙ h.read 1 [] (omega (arith, all, same)) ∙ ends r.conns some
  where
    ends : (conns : List (ℕ × ℕ)) → 1 ≤ length conns → cond (is_empty conns) (Err NoConnection) (Ok r) ≡ Ok r
    ends [] h = absurd (omega arith)
    ends (c ∷ conns) h = refl
