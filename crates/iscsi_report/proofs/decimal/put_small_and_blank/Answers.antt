use Rattle.std.proofs.Common.{◌+◌, ◌++◌, ◌∷◌, [], List, ℕ, take, codes, sym, ap, ◌∙◌, arith}
use Rattle.std.proofs.lemmas.Fmt.{decimal_digit}
use Rattle.iscsi_report.specs.Decimals.{two_digits}
use Rattle.iscsi_report.proofs.DecimalLemmas.{decimal_two}
use Rattle.iscsi_report.proofs.decimal.put_small_and_blank.Goals as goal

pub returns-then-n-lt-TWO_DIGITS-clause-written : goal.returns-then-n-lt-TWO_DIGITS-clause-written
returns-then-n-lt-TWO_DIGITS-clause-written c =
    let digit = decimal_digit c.args.n (omega (arith, c.from-n.ensures, c.if-n-lt-TWO_DIGITS.true)) in
    c.put_text.ensures.written
    ∙ ap (λ (m : ℕ). take c.args.at c.args.line.now ++ ((48 + m) ∷ 32 ∷ [])) c.from-n.ensures
    ∙ ap (λ (l : List ℕ). take c.args.at c.args.line.now ++ (l ++ codes " ")) (sym digit)

pub returns-then-n-lt-THREE_DIGITS-clause-written :
    goal.returns-then-n-lt-THREE_DIGITS-clause-written
returns-then-n-lt-THREE_DIGITS-clause-written c =
    let digits = decimal_two c.args.n (omega (arith, c.from-n.ensures, c.if-n-lt-TWO_DIGITS.false))
    (omega (arith, c.from-n.ensures, c.if-n-lt-THREE_DIGITS.true)) in
    c.put_pair_and_blank.ensures.written
    ∙ ap (λ (m : ℕ). take c.args.at c.args.line.now ++ (two_digits m ++ codes " ")) c.from-n.ensures
    ∙ ap (λ (l : List ℕ). take c.args.at c.args.line.now ++ (l ++ codes " ")) (sym digits)
