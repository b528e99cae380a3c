use Rattle.std.proofs.Common.{ap, sym, ◌∙◌, append_assoc, List, ℕ, ◌++◌, ◌≡◌, take, drop, codes, decimal, ◌∷◌, []}
use Rattle.std.proofs.Math.Seq.{drop-append_seam}
use Rattle.std.proofs.lemmas.List.{take_at}
use Rattle.hex.specs.Hex.{encode_lower}
use Rattle.iscsi_report.specs.Lines.{eight_digits}
use Rattle.iscsi_report.proofs.AnswerDigits.{answer_text, zeros, length-eight}
use Rattle.iscsi_report.proofs.send_line.write_answer.Goals as goal

pub returns-clause-written : goal.returns-clause-written
returns-clause-written c =
    let four = c.digits_of_four.ensures in
    let a = c.args in
    let exp : List ℕ = eight_digits a.numbers.exp in
    let max : List ℕ = eight_digits a.numbers.max in
    let third = ap (take 8) four.others ∙ take_at exp max 8 (length-eight a.numbers.exp) in
    let fourth = ap (drop 8) four.others ∙ ap (λ (k : ℕ). drop k (exp ++ max)) (sym (length-eight a.numbers.exp)) ∙ drop-append_seam exp max in
    let put : take c.put_text.result c.put_text.new.line ≡ take a.at a.line.now
    ++ (codes "  send " ++ ((decimal a.conn ++ codes " ") ++ (encode_lower (a.opcode ∷ []) ++ (codes "80" ++ (encode_lower (a.response ∷ [])
    ++ (encode_lower (a.status ∷ []) ++ (take 24 zeros ++ (eight_digits a.itt ++ (codes "00000000" ++ (eight_digits a.stat_sn
    ++ (exp ++ (max ++ (codes "00000000" ++ drop 8 zeros))))))))))))) =
    rw (
      c.put_text.ensures.written,
      c.put_last_and_zeros-at.ensures.written,
      c.put_last_and_first-at.ensures.written,
      c.put_first_and_zeros-at.ensures.written,
      c.put_text-at-2.ensures.written,
      c.put_byte-at.ensures.written,
      c.put_kind-at.ensures.written,
      c.put_small_and_blank-at.ensures.written,
      c.put_text-at.ensures.written,
      four.first,
      four.second,
      third,
      fourth,
    )
    (simp append_assoc) in
    put ∙ ap (λ (l : List ℕ). take a.at a.line.now ++ (codes "  send " ++ ((decimal a.conn ++ codes " ") ++ (encode_lower (a.opcode ∷ []) ++ (codes "80" ++ (encode_lower (a.response ∷ [])
    ++ (encode_lower (a.status ∷ []) ++ (take 24 zeros ++ (eight_digits a.itt ++ (take 8 zeros ++ (eight_digits a.stat_sn ++ l)))))))))))
    (sym (append_assoc exp max zeros)) ∙ ap (λ (l : List ℕ). take a.at a.line.now ++ l) (answer_text a.conn a.opcode a.response a.status a.itt a.stat_sn a.numbers.exp a.numbers.max)
