-- The line of an effect has no line end within it, and isn't long.
use Rattle.std.proofs.Common.{◌≡◌, ℕ, ◌+◌, ◌*◌, ◌≤◌, false, List, ◌++◌, length, refl, arith, length-append}
use Rattle.std.specs.Prelude.{codes, decimal}
use Rattle.std.specs.List.{list_any}
use Rattle.hex.specs.Hex.{encode_lower}
use Rattle.iscsi_wire.specs.declared.request.Request.{Request}
use Rattle.iscsi_wire.specs.declared.reply.Reply.{Reply}
use Rattle.iscsi_wire.specs.Fields.{connection_of, cmd_sn, itt}
use Rattle.iscsi_wire.specs.Replies.{bytes_4, header_of, tail_of}
use Rattle.iscsi_tasks.specs.declared.task.Attr.{Attr}
use Rattle.iscsi_tasks.specs.declared.task.Attr.TheVariants.{Simple, Ordered, Head}
use Rattle.iscsi_rules.specs.declared.effect.Why.{Why}
use Rattle.iscsi_rules.specs.declared.effect.Why.TheVariants.{Outside, Duplicate, Closed, Stale, Data}
use Rattle.iscsi_rules.specs.declared.effect.Effect.{Effect}
use Rattle.iscsi_rules.specs.declared.effect.Effect.TheVariants.{Deliver, Immediate, Wait, Void, Empty, Enter, Enable, Leave, Send, CloseConn, CloseSession, Ignore}
use Rattle.iscsi_rules.specs.declared.effect.Numbers.{Numbers}
use Rattle.iscsi_report.specs.Lines.{eight_digits, attr_word, why_word, request_fields, enter_fields, effect_text}
use Rattle.iscsi_recording.specs.Reading.{is_end}
use Rattle.iscsi_recording.proofs.LineLemmas.{no_end-append}
use Rattle.iscsi_recording.proofs.FieldLemmas.{decimal_spared, decimal_length, hex_spared, hex_length, ends_spared}

-- a text without a line end, of no more than so many bytes
pub record IsText (most : ℕ) (text : List ℕ) : Type 0 where
  pub one : list_any is_end text ≡ false
  pub short : length text ≤ most

pub both_texts : (m n most : ℕ) (a b : List ℕ) → IsText m a → IsText n b → m + n ≤ most → IsText most (a ++ b)
both_texts m n most a b x y h =
    let s = x.short in
    let t = y.short in
    record { one = no_end-append a b x.one y.one; short = simp length-append (omega (arith, s, t)) }

pub decimal_text : (n : ℕ) → IsText 64 (decimal n)
decimal_text n = record { one = decimal_spared is_end n ends_spared; short = decimal_length n }

pub hex_text : (most : ℕ) (bytes : List ℕ) → 2 * length bytes ≤ most → IsText most (encode_lower bytes)
hex_text most bytes h = record { one = hex_spared is_end bytes ends_spared; short = omega (arith, hex_length bytes) }

pub eight_text : (n : ℕ) → IsText 8 (eight_digits n)
eight_text n = hex_text 8 (bytes_4 n) (omega arith)

blank : IsText 1 (codes " ")
blank = record { one = refl; short = omega arith }

attr_text : (attr : Attr) → IsText 7 (attr_word attr)
attr_text Simple = record { one = refl; short = omega arith }
attr_text Ordered = record { one = refl; short = omega arith }
attr_text Head = record { one = refl; short = omega arith }

why_text : (why : Why) → IsText 9 (why_word why)
why_text Outside = record { one = refl; short = omega arith }
why_text Duplicate = record { one = refl; short = omega arith }
why_text Closed = record { one = refl; short = omega arith }
why_text Stale = record { one = refl; short = omega arith }
why_text Data = record { one = refl; short = omega arith }

request_text : (r : Request) → IsText 82 (request_fields r)
request_text r =
    both_texts 64 18 82 (decimal (connection_of r)) _ (decimal_text (connection_of r))
    (both_texts 1 17 18 (codes " ") _ blank
    (both_texts 8 9 17 (eight_digits (cmd_sn r)) _ (eight_text (cmd_sn r))
    (both_texts 1 8 9 (codes " ") _ blank (eight_text (itt r)) (omega arith)) (omega arith)) (omega arith)) (omega arith)

enter_text : (ticket unit : ℕ) (attr : Attr) → IsText 137 (enter_fields ticket unit attr)
enter_text ticket unit attr =
    both_texts 64 73 137 (decimal ticket) _ (decimal_text ticket)
    (both_texts 1 72 73 (codes " ") _ blank
    (both_texts 64 8 72 (decimal unit) _ (decimal_text unit)
    (both_texts 1 7 8 (codes " ") _ blank (attr_text attr) (omega arith)) (omega arith)) (omega arith)) (omega arith)

header_length : (reply : Reply) (sn exp max : ℕ) → length (header_of reply sn exp max) ≡ 48
header_length reply sn exp max = refl

-- a reply whose line isn't long
abbrev pub IsShortReply : ℕ → Reply → Type 0
IsShortReply conn reply = length (decimal conn) + 2 * length (tail_of reply) ≤ 152

-- so of an effect
abbrev pub IsShortEffect : Effect → Type 0
IsShortEffect (Send conn sn reply) = IsShortReply conn reply
IsShortEffect _ = Unit {0}

worded : (m n : ℕ) (word text : List ℕ) → IsText m word → IsText n text → m + n ≤ 254 → IsText 254 (word ++ text)
worded m n word text = both_texts m n 254 word text

-- the text of a Send
send_text : (conn sn : ℕ) (reply : Reply) (n : Numbers) → IsShortReply conn reply → IsText 254 (effect_text (Send conn sn reply) n)
send_text conn sn reply n h =
    let bytes : List ℕ = header_of reply sn n.exp n.max ++ tail_of reply in
    let count : length bytes ≡ 48 + length (tail_of reply) = length-append (header_of reply sn n.exp n.max) (tail_of reply) in
    let most : ℕ = 96 + 2 * length (tail_of reply) in
    let digits : IsText most (encode_lower bytes) = hex_text most bytes (omega (arith, count)) in
    let first : IsText (length (decimal conn)) (decimal conn) = record { one = decimal_spared is_end conn ends_spared; short = omega arith } in
    both_texts 5 249 254 (codes "send ") _ (record { one = refl; short = omega arith })
    (both_texts (length (decimal conn)) (97 + 2 * length (tail_of reply)) 249 (decimal conn) _ first
    (both_texts 1 most (97 + 2 * length (tail_of reply)) (codes " ") _ blank digits (omega arith)) (omega (arith, h))) (omega arith)

pub effect_is_text : (effect : Effect) (n : Numbers) → IsShortEffect effect → IsText 254 (effect_text effect n)
effect_is_text (Deliver r) n h = worded 8 82 (codes "deliver ") _ (record { one = refl; short = omega arith }) (request_text r) (omega arith)
effect_is_text (Immediate r) n h = worded 10 82 (codes "immediate ") _ (record { one = refl; short = omega arith }) (request_text r) (omega arith)
effect_is_text (Wait r) n h = worded 5 82 (codes "wait ") _ (record { one = refl; short = omega arith }) (request_text r) (omega arith)
effect_is_text (Void sn) n h = worded 5 8 (codes "void ") _ (record { one = refl; short = omega arith }) (eight_text sn) (omega arith)
effect_is_text (Empty sn) n h = worded 6 8 (codes "empty ") _ (record { one = refl; short = omega arith }) (eight_text sn) (omega arith)
effect_is_text (Enter ticket unit attr) n h = worded 6 137 (codes "enter ") _ (record { one = refl; short = omega arith }) (enter_text ticket unit attr) (omega arith)
effect_is_text (Enable ticket unit) n h = worded 7 64 (codes "enable ") _ (record { one = refl; short = omega arith }) (decimal_text ticket) (omega arith)
effect_is_text (Leave ticket unit) n h = worded 6 64 (codes "leave ") _ (record { one = refl; short = omega arith }) (decimal_text ticket) (omega arith)
effect_is_text (Send conn sn reply) n h = send_text conn sn reply n h
effect_is_text (CloseConn conn) n h = worded 11 64 (codes "close-conn ") _ (record { one = refl; short = omega arith }) (decimal_text conn) (omega arith)
effect_is_text CloseSession n h = record { one = refl; short = omega arith }
effect_is_text (Ignore why) n h = worded 7 9 (codes "ignore ") _ (record { one = refl; short = omega arith }) (why_text why) (omega arith)
