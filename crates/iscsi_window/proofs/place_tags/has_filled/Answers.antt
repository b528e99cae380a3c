use Rattle.std.proofs.Common.{◌≡◌, ◌∙◌, ◌%◌, ◌/◌, ◌*◌, ◌+◌, ◌-◌, take, drop, arith, ap, sym, ⊎_elim, get_or}
use Rattle.std.specs.Int.{bit_at}
use Rattle.std.proofs.lemmas.Bool.{cases_lt}
use Rattle.iscsi_window.proofs.FilledLemmas.{read_of_word}
use Rattle.iscsi_window.proofs.place_tags.has_filled.Goals as goal

pub loop-word-preserved : goal.loop-word-preserved
loop-word-preserved c = λ n below bit same. ⊎_elim
    (λ before. c.loop-word.invariant n before bit same)
    (λ behind.
    let at : n % 1024 / 64 ≡ c.loop-word.word = omega (arith, below, behind) in
    let count : c.loop-word.word * 64 + 64 - c.loop-word.word * 64 ≡ 64 = omega arith in
    let place : c.loop-word.word * 64 + n % 64 ≡ n % 1024 = omega (arith, at) in
    c.has_tag_at.ensures c.if-has_tag_at.false (n % 64) (omega arith)
    (ap (λ w. bit_at w (n % 64)) c.word.ensures ∙ ap (λ w. bit_at (get_or c.args.filled.now w 0) (n % 64)) (sym at) ∙ bit)
    (read_of_word c.args.tags.now _ (c.loop-word.word * 64) (ap (λ k. take k (drop (c.loop-word.word * 64) c.args.tags.now)) count) (n % 64) (omega arith) ∙ ap (λ k. get_or c.args.tags.now k 0) place ∙ same))
    (cases_lt (n % 1024 / 64) c.loop-word.word)
