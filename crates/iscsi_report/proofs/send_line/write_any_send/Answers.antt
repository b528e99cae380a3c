use Rattle.std.proofs.Common.{rules, [], ◌≡◌, List, ℕ, ◌++◌, refl, take, codes, decimal, ap, sym, ◌∙◌, append_assoc}
use Rattle.std.proofs.lemmas.List.{append-nil}
use Rattle.iscsi_wire.specs.Pdus.{pdu_header, pdu_tail}
use Rattle.iscsi_wire.specs.Replies.{header_of, tail_of}
use Rattle.hex.specs.Hex.{encode_lower}
use Rattle.iscsi_report.proofs.LineLemmas.{encode_lower_append}
use Rattle.iscsi_report.proofs.send_line.write_any_send.Goals as goal

both : (header h tail t : List ℕ) → header ≡ h → tail ≡ t → encode_lower header ++ (encode_lower tail ++ codes "\n") ≡ encode_lower (h ++ t) ++ codes "\n"
both header h tail t e f =
    sym (append_assoc (encode_lower header) (encode_lower tail) (codes "\n"))
    ∙ ap (λ (l : List ℕ). l ++ codes "\n") (sym (encode_lower_append header tail) ∙ rw (e, f) refl)

pub returns-clause-written : goal.returns-clause-written
returns-clause-written c =
    let header : List ℕ = header_of c.args.reply.now c.args.stat_sn c.args.numbers.exp c.args.numbers.max in
    let tail : List ℕ = tail_of c.args.reply.now in
    let pdu = c.encode-pdu.result in
    let digits = both (pdu_header pdu) header (pdu_tail pdu) tail c.encode-pdu.ensures.header c.encode-pdu.ensures.tail in
    let apart = append_assoc (decimal c.args.conn) (codes " " ++ encode_lower (header ++ tail)) (codes "\n") in
    c.write_pdu.ensures.written ∙ ap (λ (l : List ℕ). take c.args.at c.args.line.now ++ (codes "  send " ++ l))
    (ap (λ (l : List ℕ). decimal c.args.conn ++ (codes " " ++ l)) digits ∙ sym apart)

-- the digits, where no bytes follow the header
alone : (header h t : List ℕ) → header ≡ h → t ≡ [] → encode_lower header ≡ encode_lower (h ++ t)
alone header h t e none = ap encode_lower (e ∙ sym (append-nil h) ∙ ap (λ (l : List ℕ). h ++ l) (sym none))

pub returns-then-is_empty-clause-written : goal.returns-then-is_empty-clause-written
returns-then-is_empty-clause-written c =
    let header : List ℕ = header_of c.args.reply.now c.args.stat_sn c.args.numbers.exp c.args.numbers.max in
    let tail : List ℕ = tail_of c.args.reply.now in
    let empty : c.tail.result.now ≡ [] = search rules in
    let none : tail ≡ [] = sym c.encode-pdu.ensures.tail ∙ sym c.tail.ensures.bytes ∙ empty in
    let digits = alone c.header.result.now header tail (c.header.ensures ∙ c.encode-pdu.ensures.header) none in
    let apart = append_assoc (decimal c.args.conn) (codes " " ++ encode_lower (header ++ tail)) (codes "\n") in
    c.write_header.ensures.written ∙ ap (λ (l : List ℕ). take c.args.at c.args.line.now ++ (codes "  send " ++ l))
    (ap (λ (l : List ℕ). decimal c.args.conn ++ (codes " " ++ (l ++ codes "\n"))) digits ∙ sym apart)
