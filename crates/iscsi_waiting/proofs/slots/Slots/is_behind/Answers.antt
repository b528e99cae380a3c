use Rattle.std.proofs.Common.{ap, sym, ◌∙◌, arith}
use Rattle.std.proofs.lemmas.Bool.{ltb-true, ltb-false}
use Rattle.iscsi_waiting.specs.Kept.{BLANK}
use Rattle.iscsi_waiting.specs.declared.slots.Kept.{Kept}
use Rattle.iscsi_waiting.proofs.AskLemmas.{behind_empty, behind_none, behind_some}
use Rattle.iscsi_waiting.proofs.slots.Slots.is_behind.Goals as goal

pub returns-in-Some-clause-yes : goal.returns-in-Some-clause-yes
returns-in-Some-clause-yes c = λ is.
    let s = c.args.self.now in
    let time = ap (λ (k : Kept). k.time) (c.at.ensures BLANK) in
    let before = ltb-true c.at.result.now.time c.args.time is in
    behind_some s c.requires.kept c.args.kind c.args.time c.requires.low c.in-Some.slot (sym c.first.ensures.slot ∙ c.in-Some.is) (omega (arith, before, time))

pub returns-in-Some-clause-no : goal.returns-in-Some-clause-no
returns-in-Some-clause-no c = λ isnt.
    let s = c.args.self.now in
    let time = ap (λ (k : Kept). k.time) (c.at.ensures BLANK) in
    let after = ltb-false c.at.result.now.time c.args.time isnt in
    behind_none s c.requires.kept c.args.kind c.args.time c.requires.low c.in-Some.slot (sym c.first.ensures.slot ∙ c.in-Some.is) (omega (arith, after, time))

pub returns-in-None-clause-no : goal.returns-in-None-clause-no
returns-in-None-clause-no c = λ isnt.
    behind_empty c.args.self.now c.requires.kept c.args.kind c.args.time c.requires.low (sym c.first.ensures.slot ∙ c.in-None.is)
