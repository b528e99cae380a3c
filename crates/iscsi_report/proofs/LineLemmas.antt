-- Hexadecimal digits of bytes in two parts.
use Rattle.std.proofs.Common.{◌≡◌, ℕ, List, [], ◌∷◌, ◌++◌, ◌/◌, ◌%◌, slice_index, codes, refl, ◌+◌, ap, sym, ◌∙◌, append_assoc}
use Rattle.hex.specs.Hex.{encode_with, lower_digits, encode_lower}
use Rattle.iscsi_rules.specs.declared.event.Event.{Event}
use Rattle.iscsi_rules.specs.declared.entry.Entry.{Entry}
use Rattle.iscsi_rules.specs.rules.Settings.{Setting}
use Rattle.iscsi_rules.specs.rules.Trace.{Trace}
use Rattle.iscsi_rules.specs.rules.Run.{after_event, entry_of, entries_from, run_of, next_entry}
use Rattle.iscsi_report.specs.Lines.{event_line, entry_lines, report_from}
use Rattle.std.proofs.lemmas.List.{append-nil}
use Rattle.iscsi_rules.proofs.traces.RunLemmas.{run_of-push}

-- the digits of a byte, and those of two with fixed ones between them
pub pair : (b x y : ℕ) → x ≡ slice_index lower_digits (b / 16) → y ≡ slice_index lower_digits (b % 16) → x ∷ y ∷ [] ≡ encode_lower (b ∷ [])
unfolding encode_with
pair b x y e f = rw (e, f) refl

pub kind : (opcode response a b c d : ℕ) → a ≡ slice_index lower_digits (opcode / 16) → b ≡ slice_index lower_digits (opcode % 16)
    → c ≡ slice_index lower_digits (response / 16) → d ≡ slice_index lower_digits (response % 16)
    → a ∷ b ∷ 56 ∷ 48 ∷ c ∷ d ∷ [] ≡ encode_lower (opcode ∷ []) ++ (codes "80" ++ encode_lower (response ∷ []))
unfolding encode_with
kind opcode response a b c d p q r s = rw (p, q, r, s) refl

encode_with-append : (t a b : List ℕ) → encode_with t (a ++ b) ≡ encode_with t a ++ encode_with t b
unfolding encode_with
encode_with-append t [] b = refl
encode_with-append t (x ∷ a) b = rw (encode_with-append t a b) refl

-- the digits of two parts are those of the first, and then those of the second
pub encode_lower_append : (a b : List ℕ) → encode_lower (a ++ b) ≡ encode_lower a ++ encode_lower b
encode_lower_append a b = encode_with-append lower_digits a b

report_from-push : (o : Setting) (event : ℕ) (t : Trace) (h : List Event) (e : Event) (entry : Entry)
    → report_from (h ++ e ∷ []) (entries_from o event t h ++ entry ∷ []) ≡ report_from h (entries_from o event t h) ++ (event_line e ++ entry_lines entry)
report_from-push o event t [] e entry = ap (λ l. event_line e ++ l) (append-nil (entry_lines entry))
report_from-push o event t (x ∷ h) e entry =
    let first : Entry = entry_of o event t x in
    let rest : List Entry = entries_from o (event + 1) (after_event o event t x) h in
    let more : List ℕ = event_line e ++ entry_lines entry in
    ap (λ l. event_line x ++ (entry_lines first ++ l)) (report_from-push o (event + 1) (after_event o event t x) h e entry)
    ∙ ap (λ l. event_line x ++ l) (sym (append_assoc (entry_lines first) (report_from h rest) more))
    ∙ sym (append_assoc (event_line x) (entry_lines first ++ report_from h rest) more)

-- the report of one event more
pub report_of-push : (o : Setting) (h : List Event) (e : Event)
    → report_from (h ++ e ∷ []) (run_of o (h ++ e ∷ [])) ≡ report_from h (run_of o h) ++ (event_line e ++ entry_lines (next_entry o h e))
report_of-push o h e = ap (report_from (h ++ e ∷ [])) (run_of-push o h e) ∙ report_from-push o 0 [] h e (next_entry o h e)
